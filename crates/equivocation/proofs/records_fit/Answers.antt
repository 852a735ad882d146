-- `equivocation::records_fit` meets its contract. The invariant: every record passed fits.
-- Assumes nothing.
use Prim.Native.Nat.{ℕ}
use mathlib.Core.Path.{◌≡◌, ap, sym, ◌∙◌}
use mathlib.Core.List.{List}
use native.Mathlib.Omega.{arith}
use Rattle.settings.specs.declared.Settings.{Settings}
use Rattle.sound.specs.inside.Sound.{all}
use Rattle.sound.proofs.Laws.{off, on, all_none, all_more, all_stop}
use Rattle.equivocation.specs.inside.Records.{fits, fits_at}
use Rattle.equivocation.proofs.Laws.{record_lent}
use Rattle.equivocation.proofs.records_fit.Goals as goal

-- Settings and a record that are known.
both : {x x' : Settings} {b b' : List ℕ} → x ≡ x' → b ≡ b' → fits x b ≡ fits x' b'
both p q i = fits (p i) (q i)

pub first_settings-set-requires : goal.first_settings-set-requires
first_settings-set-requires c = omega (arith, c.requires.0, c.requires.1)

pub loop-i-init : goal.loop-i-init
loop-i-init c = (omega arith, all_none _)

pub returns-then-not-record_fits : goal.returns-then-not-record_fits
returns-then-not-record_fits c =
    let a = c.args in
    let s = a.records.now in
    let tested = c.record_fits.ensures ∙ both c.first_settings-set.ensures (record_lent s c.loop-i.i) in
    sym (all_stop (fits_at s) a.count c.loop-i.i c.loop-i-test.true (off tested c.if-not-record_fits.true))

pub loop-i-preserved : goal.loop-i-preserved
loop-i-preserved c =
    let a = c.args in
    let s = a.records.now in
    let tested = c.record_fits.ensures ∙ both c.first_settings-set.ensures (record_lent s c.loop-i.i) in
    (omega (arith, c.loop-i-test.true), all_more (fits_at s) c.loop-i.i c.loop-i.invariant.1 (on tested c.if-not-record_fits.false))

pub returns : goal.returns
returns c =
    let h = c.loop-i in
    let a = c.args in
    let e : h.i ≡ a.count = omega arith in
    sym h.invariant.1 ∙ ap (all (fits_at a.records.now)) e
