-- `vault::begin` meets its contract: a fresh record, a timer entry, and one pass.
-- Assumes nothing.
use Prim.Native.Nat.{ℕ, ◌^◌, ◌<◌}
use mathlib.Core.Path.{ap}
use native.Mathlib.Omega.{arith}
use Rattle.entry.specs.declared.Entry.TheVariants.{Timer}
use Rattle.entry.proofs.Theorems.{entry_span}
use Rattle.vault.proofs.Begun.{begin_requires, begin_ran}
use borrow.Author.Rules.{rules}
use Rattle.vault.proofs.begin.Goals as goal

pub put_entry-at-requires : goal.put_entry-at-requires
put_entry-at-requires c =
    omega (arith, c.requires.2, (entry_span (Timer 0 c.timer_millis-millis.result)).1)

pub pass_from-requires : goal.pass_from-requires
pass_from-requires c =
    let out = c.args.out.now in
    let low : c.args.plan < 2 ^ 64 = search rules in
    begin_requires c.args.set c.args.plan c.requires.1 low c.put_fresh.new.rec c.put_fresh.ensures
    (Timer 0 c.timer_millis-millis.result) (ap (λ (x : ℕ). Timer 0 x) c.timer_millis-millis.ensures)
    c.put_entry-at.result out c.put_entry-at.new.out c.put_entry-at.ensures c.requires.2

pub returns : goal.returns
returns c =
    let out = c.args.out.now in
    let low : c.args.plan < 2 ^ 64 = search rules in
    begin_ran c.args.set c.args.plan c.requires.1 low c.put_fresh.new.rec c.put_fresh.ensures
    (Timer 0 c.timer_millis-millis.result) (ap (λ (x : ℕ). Timer 0 x) c.timer_millis-millis.ensures)
    c.put_entry-at.result out c.put_entry-at.new.out c.put_entry-at.ensures c.requires.2
    c.pass_from.result c.pass_from.new.rec c.pass_from.new.out c.pass_from.ensures
