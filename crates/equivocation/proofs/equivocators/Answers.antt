-- `equivocation::equivocators` meets its contract: refusal 1, then 24, else the names.
-- Assumes nothing.
use Prim.Native.Nat.{ℕ, ◌≤◌}
use mathlib.Core.Path.{◌≡◌, sym, ap, subst, ◌∙◌}
use mathlib.Core.List.{List}
use lib.ListN.{length}
use native.Mathlib.Omega.{arith}
use borrow.Author.Tests.{not-true, not-false}
use Rattle.settings.specs.declared.Settings.{Settings}
use Rattle.record.specs.Slots.{rows}
use Rattle.sound.proofs.Laws.{off, on}
use Rattle.equivocation.specs.Named.{rising}
use Rattle.equivocation.specs.inside.Records.{twice_in, Put}
use Rattle.equivocation.proofs.Handed.{named_is, fits_hold}
use Rattle.equivocation.proofs.Laws.{room_missing, misfit_left, names_left}
use Rattle.equivocation.proofs.equivocators.Goals as goal

-- The same bytes by another name.
put_as : {out bytes bytes' out' : List ℕ} {at next : ℕ} → bytes ≡ bytes' → Put out at bytes out' next → Put out at bytes' out' next
put_as {out} {bytes} {bytes'} {out'} {at} {next} same put = subst (λ (b : List ℕ). Put out at b out' next) same put

pub returns-then-out-lt-ROOM : goal.returns-then-out-lt-ROOM
returns-then-out-lt-ROOM c =
    let a = c.args in
    room_missing a.records.now a.lengths.now a.out.now c.if-out-lt-ROOM.true

pub returns-then-not-collected : goal.returns-then-not-collected
returns-then-not-collected c =
    let a = c.args in
    misfit_left a.records.now a.lengths.now a.out.now c.if-out-lt-ROOM.false (not-false _ (off c.collected.ensures c.if-not-collected.true))

pub first_settings-set-requires : goal.first_settings-set-requires
first_settings-set-requires c =
    let a = c.args in
    let (long, least, most) = fits_hold a.records.now a.lengths.now (not-true _ (on c.collected.ensures c.if-not-collected.false)) in
    omega (arith, long, least)

pub name_all-requires : goal.name_all-requires
name_all-requires c =
    let first = c.first_settings-set.ensures in
    let a = c.args in
    let (long, least, most) = fits_hold a.records.now a.lengths.now (not-true _ (on c.collected.ensures c.if-not-collected.false)) in
    (omega (arith, long), subst (λ (set : Settings). set.n ≤ rows) (sym first) most, c.if-out-lt-ROOM.false)

pub returns : goal.returns
returns c =
    let a = c.args in
    let records = a.records.now in
    let lengths = a.lengths.now in
    let good = not-true _ (on c.collected.ensures c.if-not-collected.false) in
    let first = c.first_settings-set.ensures in
    let names = ap (λ (set : Settings). rising (twice_in records (length lengths)) set.n) first ∙ sym (named_is records lengths good) in
    names_left records lengths a.out.now _ _ c.if-out-lt-ROOM.false good (put_as names c.name_all.ensures)
