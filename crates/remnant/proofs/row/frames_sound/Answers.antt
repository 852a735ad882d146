-- `row::frames_sound` meets its contract. The invariant: every kind passed is sound.
-- Assumes nothing.
use Prim.Native.Nat.{ℕ, ◌+◌}
use mathlib.Core.Path.{◌≡◌, sym}
use mathlib.Core.Bool.{Bool}
use native.Mathlib.Omega.{arith}
use Rattle.record.specs.Slots.{kinds}
use Rattle.sound.specs.inside.Sound.{place_sound}
use Rattle.sound.proofs.Laws.{off, on, all_none, all_more, all_stop}
use Rattle.remnant.specs.inside.Parts.{row_in}
use Rattle.remnant.proofs.row.frames_sound.Goals as goal

pub loop-k-init : goal.loop-k-init
loop-k-init c = (omega arith, all_none _)

pub returns-then-not-place_sound : goal.returns-then-not-place_sound
returns-then-not-place_sound c =
    let a = c.args in
    let test : ℕ → Bool = λ j. place_sound (row_in a.own.now) a.set a.view (j + 1) a.set.id in
    let k = c.loop-k.k in
    sym (all_stop test kinds k (omega arith) (off {x = test k} c.place_sound.ensures c.if-not-place_sound.true))

pub loop-k-preserved : goal.loop-k-preserved
loop-k-preserved c =
    let a = c.args in
    let test : ℕ → Bool = λ j. place_sound (row_in a.own.now) a.set a.view (j + 1) a.set.id in
    let h = c.loop-k in
    (omega arith, all_more test h.k h.invariant.1 (on {x = test h.k} c.place_sound.ensures c.if-not-place_sound.false))

pub returns : goal.returns
returns c =
    let h = c.loop-k in
    let e : h.k ≡ kinds = omega arith in
    rw (← e) (sym h.invariant.1)
