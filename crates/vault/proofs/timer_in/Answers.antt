-- `vault::timer_in` meets its contract: by rows 18 and 19.
-- Assumes nothing.
use mathlib.Core.Path.{◌≡◌, refl, ◌∙◌}
use borrow.Author.Rules.{rules}
use Rattle.std.specs.Prelude.{Err}
use Rattle.frame.proofs.Laws.{numbered}
use Rattle.protocol.specs.Calls.{timed_out}
use Rattle.contents.specs.Contents.{contents_in}
use Rattle.contents.specs.inside.Ready.{Ready}
use Rattle.contents.proofs.Sound.{size_sound}
use Rattle.contents.proofs.Ready.{ready_lent}
use Rattle.vault.proofs.Laws.{accepted_left}
use Rattle.vault.proofs.Timers.{timer_refused, timer_accepted, view_below}
use Rattle.vault.proofs.timer_in.Goals as goal

pub view_of-current-requires : goal.view_of-current-requires
view_of-current-requires c =
    let rec = c.args.rec.now in
    size_sound rec c.requires.0

pub returns-in_err-timer_refusal : goal.returns-in_err-timer_refusal
returns-in_err-timer_refusal c =
    let rec = c.args.rec.now in
    let out = c.args.out.now in
    let is : c.from_residual.result ≡ Err c.in_err-timer_refusal.field-0.0 = search rules in
    rw is (timer_refused rec out c.requires.0 c.requires.1 c.view_of-current.result c.view_of-current.ensures
    c.args.view _ c.in_err-timer_refusal.ensures (numbered _))

pub settings_of-set-requires : goal.settings_of-set-requires
settings_of-set-requires c =
    let rec = c.args.rec.now in
    size_sound rec c.requires.0

pub time_out-requires : goal.time_out-requires
time_out-requires c =
    let rec = c.args.rec.now in
    let out = c.args.out.now in
    let ready : Ready rec = ready_lent rec (λ i. search rules) c.requires.0 in
    let low = view_below rec out c.requires.0 c.requires.1 c.view_of-current.result c.view_of-current.ensures
    c.args.view 0 c.in_ok-timer_refusal.ensures ready refl in
    (record { ready = ready; its = c.settings_of-set.ensures }, c.view_of-current.ensures, low, c.requires.1)

pub returns : goal.returns
returns c =
    let rec = c.args.rec.now in
    let out = c.args.out.now in
    accepted_left (timed_out (contents_in rec)) rec c.time_out.new.rec out c.time_out.new.out c.time_out.result
    (λ i. (c.type_inv.rec i).fits) c.time_out.ensures
    ∙ timer_accepted rec out c.requires.0 c.requires.1 c.view_of-current.result c.view_of-current.ensures
    c.args.view 0 c.in_ok-timer_refusal.ensures refl
