-- `vault::timer` meets its contract: by the way in.
-- Assumes nothing.
use mathlib.Core.Path.{◌≡◌, refl}
use borrow.Author.Rules.{rules}
use Rattle.std.specs.Prelude.{Err}
use Rattle.frame.proofs.Laws.{numbered}
use Rattle.vault.proofs.Laws.{way_open}
use Rattle.vault.proofs.Timers.{timer_shut}
use Rattle.vault.proofs.timer.Goals as goal

pub returns-in_err-way_in : goal.returns-in_err-way_in
returns-in_err-way_in c =
    let rec = c.args.rec.now in
    let out = c.args.out.now in
    let is : c.from_residual.result ≡ Err c.in_err-way_in.field-0.0 = search rules in
    rw is (timer_shut rec c.args.view out _ c.in_err-way_in.ensures (numbered _))

pub timer_in-requires : goal.timer_in-requires
timer_in-requires c =
    let a = c.args in
    way_open a.rec.now a.out.now 0 c.in_ok-way_in.ensures refl
