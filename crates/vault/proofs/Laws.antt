-- What a call leaves, by the test that decides it (document 01, 'Refusals, place by place'): of any call, by the output's space, by
-- what the record is, by the number that a table gives; and of the accepted call, whose bytes are the one spelling of what is left.
-- Assumes nothing.
use Prim.Native.Nat.{ℕ, zero, suc, ◌≤◌, ◌<◌}
use mathlib.Core.Path.{◌≡◌, refl, sym, ◌∙◌, ap}
use mathlib.Core.Bool.{Bool, true, false, cond}
use mathlib.Core.List.{List}
use mathlib.Core.Option.{Option, none}
use native.Mathlib.Omega.{arith}
use lib.ListN.{length}
use lib.Dec.{ltb}
use borrow.Author.Tests.{lt-ltb, le-ltb, ltb-false}
use Rattle.wire.specs.Fields.{Bytes}
use Rattle.entry.specs.Layout.{layout}
use Rattle.frame.specs.Answers.{number_in}
use Rattle.record.specs.Layout.{encode_record, decode_record}
use Rattle.sound.specs.declared.Lent.{Lent}
use Rattle.sound.specs.declared.Lent.TheVariants.{Blank, Unsound, Sound}
use Rattle.sound.specs.inside.Sound.{lent_refusal, lent_is}
use Rattle.protocol.specs.Record.{Record}
use Rattle.protocol.specs.Pass.{Out}
use Rattle.protocol.specs.Calls.{Call, unless, refused, accepted, answer}
use Rattle.protocol.proofs.Size.{output_short}
use Rattle.contents.specs.Contents.{contents, slotted}
use Rattle.contents.specs.Calls.{left_after, on_lent, called}
use Rattle.contents.specs.Left.{wrote, gave}
use Rattle.contents.proofs.Ready.{ready_spells}
use Rattle.pass.specs.inside.Steps.{Room, Ran}
use Rattle.vault.specs.inside.Answers.{by_lent, way_in}

-- ---- the accepted call

-- The bytes that are left are the one spelling of the contents that the call leaves.
pub accepted_left : (o : Out) (rec rec' out out' : List ℕ) (n : ℕ) → Bytes rec' → Ran o 0 out out' n rec'
    → wrote n rec' out' ≡ left_after rec out (accepted o)
accepted_left o rec rec' out out' n bytes ran =
    let held : rec' ≡ encode_record (slotted o.left) = ready_spells ran.ready bytes ran.left in
    let count : n ≡ length (layout o.wrote) = omega (arith, ran.count) in
    λ i. wrote (count i) (held i) (ran.bytes i)

-- Every accepted call has room.
pub accepted_room : (b : Option Record) (a : Call) (o : Out) (out : List ℕ) → answer b a ≡ accepted o → 256 ≤ length out → Room o 0 out
accepted_room b a o out e room = omega (arith, output_short b a o e)

-- ---- tables of refusals: the number k that one gives, 0 where it gives none

module _ (rec out : List ℕ) (o : Out) (k : ℕ) where
  -- A table gives a number: that is the answer, record and output unchanged.
  pub refused_by : (j : ℕ) → j ≡ k → (j ≡ 0 → ⊥) → gave j rec out ≡ left_after rec out (unless k o)
  refused_by zero e given = absurd (given refl)
  refused_by (suc j) e given = ap (λ (i : ℕ). left_after rec out (unless i o)) e

  -- It gives none: the call is accepted.
  pub accepted_by : k ≡ 0 → left_after rec out (accepted o) ≡ left_after rec out (unless k o)
  accepted_by e = ap (λ (i : ℕ). left_after rec out (unless i o)) (sym e)

-- ---- any call: 'output space below 256 bytes' first, then by what the record is

module _ (k : ℕ) (rec out : List ℕ) (a : Call) where
  -- Output space below 256 bytes: 1, whatever the call.
  pub called_short : length out < 256 → gave 1 rec out ≡ called k rec out a
  unfolding called
  called_short low = rw (lt-ltb (length out) 256 low)

  -- Else what the record is decides.
  pub called_lent : 256 ≤ length out → (l : Lent) → lent_is rec ≡ l → left_after rec out (on_lent l k (contents (decode_record rec)) a) ≡ called k rec out a
  unfolding called
  called_lent room l e = sym (rw (le-ltb (length out) 256 room, e))

-- ---- the way in, of a frame and of a timer

-- The number of the refusal that lent bytes give.
pub lent_number : (l : Lent) → number_in (lent_refusal l) ≡ by_lent l
lent_number Blank = refl
lent_number Unsound = refl
lent_number Sound = refl

module _ (rec : List ℕ) (room : ℕ) where
  -- Output space below 256 bytes: 1.
  pub way_short : room < 256 → 1 ≡ way_in rec room
  unfolding way_in
  way_short low = rw (lt-ltb room 256 low)

  -- Else what the record is: 2 where it is blank, 3 where it is unsound, none where it is sound.
  pub way_lent : 256 ≤ room → (l : Lent) → lent_is rec ≡ l → by_lent l ≡ way_in rec room
  unfolding way_in
  way_lent high l e = rw (le-ltb room 256 high, e)

module _ (rec out : List ℕ) (k : ℕ) (way : k ≡ way_in rec (length out)) where
  -- The number that it gives, where the call is one that a blank record refuses with 2.
  pub way_refused : (a : Call) → answer none a ≡ refused 2 → (k ≡ 0 → ⊥) → gave k rec out ≡ called 3 rec out a
  unfolding way_in called
  way_refused a blank given = go (ltb (length out) 256) (lent_is rec) way
    where
      go : (b : Bool) (l : Lent) → k ≡ cond b 1 (by_lent l)
          → gave k rec out ≡ cond b (gave 1 rec out) (left_after rec out (on_lent l 3 (contents (decode_record rec)) a))
      go true l e = ap (λ (j : ℕ). gave j rec out) e
      go false Blank e = ap (λ (j : ℕ). gave j rec out) e ∙ ap (left_after rec out) (sym blank)
      go false Unsound e = ap (λ (j : ℕ). gave j rec out) e
      go false Sound e = absurd (given e)

  -- Where it gives none, the record is sound and there is room.
  pub way_open : k ≡ 0 → (lent_is rec ≡ Sound) × (256 ≤ length out)
  unfolding way_in
  way_open none-given = go (ltb (length out) 256) (lent_is rec) refl refl (sym none-given ∙ way)
    where
      go : (b : Bool) (l : Lent) → ltb (length out) 256 ≡ b → lent_is rec ≡ l → 0 ≡ cond b 1 (by_lent l) → (lent_is rec ≡ Sound) × (256 ≤ length out)
      go true l low is e = absurd (omega arith)
      go false Blank low is e = absurd (omega arith)
      go false Unsound low is e = absurd (omega arith)
      go false Sound low is e = (is, ltb-false (length out) 256 low)
