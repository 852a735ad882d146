-- `vault::frame_read` meets its contract: by rows 16 and 17.
-- Assumes nothing.
use mathlib.Core.Path.{◌≡◌, refl, ◌∙◌}
use borrow.Author.Rules.{rules}
use Rattle.std.specs.Prelude.{Err}
use Rattle.frame.proofs.Laws.{numbered}
use Rattle.protocol.specs.Calls.{heard}
use Rattle.contents.specs.Contents.{contents_in}
use Rattle.vault.proofs.Laws.{accepted_left}
use Rattle.vault.proofs.Heard.{place_of, rows_pass, rows_refused, rows_accepted}
use Rattle.vault.proofs.frame_read.Goals as goal

pub keep_refusal-requires : goal.keep_refusal-requires
keep_refusal-requires c = (place_of c.requires.0, c.requires.0.held.ready.size)

pub returns-in_err-keep_refusal : goal.returns-in_err-keep_refusal
returns-in_err-keep_refusal c =
    let out = c.args.out.now in
    let is : c.from_residual.result ≡ Err c.in_err-keep_refusal.field-0.0 = search rules in
    rw is (rows_refused c.requires.0
    c.view_of-view.result c.view_of-view.ensures _ c.in_err-keep_refusal.ensures out (numbered _))

pub hear-requires : goal.hear-requires
hear-requires c =
    let passed = rows_pass c.requires.0
    c.view_of-view.result c.view_of-view.ensures 0 c.in_ok-keep_refusal.ensures refl in
    (c.requires.0, passed, c.requires.1)

pub returns : goal.returns
returns c =
    let rec = c.args.rec.now in
    let out = c.args.out.now in
    accepted_left (heard (contents_in rec) c.args.f) rec c.hear.new.rec out c.hear.new.out c.hear.result
    (λ i. (c.type_inv.rec i).fits) c.hear.ensures
    ∙ rows_accepted c.requires.0
    c.view_of-view.result c.view_of-view.ensures 0 c.in_ok-keep_refusal.ensures out refl
