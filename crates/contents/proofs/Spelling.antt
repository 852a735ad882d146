-- The layout loses nothing (document 01, 'each layout can spell a blank record, and every content that accepted calls reach from a
-- blank record'). What an accepted call leaves is sound, its numbers have their widths, and it has no previous votes but vote-1's
-- and vote-2's (`call_fine`); so its slots hold it and its bytes fit (`held_back`, `lent_back`), and bytes that are lent as sound are
-- those that their contents spell (`ready_spells`).
-- Assumes nothing.
use Prim.Native.Nat.{ℕ, zero, suc, ◌≤◌}
use mathlib.Core.Path.{◌≡◌, refl, sym, ◌∙◌, ap, subst}
use mathlib.Core.Bool.{Bool, cond}
use mathlib.Core.List.{List}
use mathlib.Core.Option.{Option, none, some}
use native.Mathlib.Omega.{arith}
use lib.ListN.{length, get_or, replicate, length-replicate}
use borrow.Author.Tests.{le-ltb}
use Rattle.wire.specs.Fields.{Bytes}
use Rattle.rules.proofs.Reports.{none≢some}
use Rattle.record.specs.Slots as slots
use Rattle.record.specs.Slots.{previous_slot, slot_of}
use Rattle.record.specs.Layout.{encode_record, decode_record}
use Rattle.record.specs.Size.{record_size}
use Rattle.record.proofs.Theorems.{encode_bytes}
use Rattle.sound.specs.declared.Lent.{Lent}
use Rattle.sound.specs.inside.Sound.{lent_is}
use Rattle.sound.proofs.Laws.{lent_blank}
use Rattle.protocol.specs.Record.{Record, reported}
use Rattle.protocol.specs.Pass.{has_previous, Out}
use Rattle.protocol.specs.Calls.{Call, accepted, answer}
use Rattle.protocol.specs.inside.Sound.{Ranged}
use Rattle.protocol.specs.Sound.{Sound}
use Rattle.protocol.specs.Fed.{Fed}
use Rattle.protocol.proofs.Tables.{when_false}
use Rattle.protocol.proofs.Proper.{call_proper}
use Rattle.contents.specs.Contents.{previous_of, contents, contents_in, slotted}
use Rattle.contents.specs.Calls.{left_after, on_lent, called}
use Rattle.contents.specs.Left.{gave}
use Rattle.contents.specs.Spelling.{Spells, Reached, blank, next, LeavesSpelled, LosesNothing}
use Rattle.contents.proofs.Slotted.{Placed}
use Rattle.contents.proofs.Widths.{fits_slotted}
use Rattle.contents.proofs.Sound.{sound_read, held_back, lent_back}
use Rattle.contents.proofs.Ready.{ready_lent, ready_spells}
use Rattle.contents.proofs.Stays.{call_placed}

-- ---- contents that a vault may have

-- Sound, with numbers of their widths, and no previous votes but vote-1's and vote-2's.
pub record Fine (r : Record) : Type 0 where
  pub sound : Sound r
  pub ranged : Ranged r
  pub placed : Placed r

-- An accepted call leaves such contents.
pub call_fine : (b : Option Record) (a : Call) → ((r : Record) → b ≡ some r → Fine r) → Fed b a → (o : Out) → answer b a ≡ accepted o → Fine o.left
call_fine b a was fed o is =
    let proper = call_proper b a (λ r e. ((was r e).sound, (was r e).ranged)) fed o is in
    record { sound = proper.sound; ranged = proper.ranged; placed = call_placed b a (λ r e. (was r e).placed) o is }

-- All contents that accepted calls reach are such.
pub reached_fine : {b : Option Record} → Reached b → (r : Record) → b ≡ some r → Fine r
reached_fine blank r e = absurd (none≢some e)
reached_fine (next {b = b} {o = o} to a fed is) r e =
    let same : o.left ≡ r = cc in
    subst Fine same (call_fine b a (λ r e. reached_fine to r e) fed o is)

-- ---- their bytes

module _ (r : Record) (fine : Fine r) where
  -- Their bytes spell them.
  pub fine_spells : Spells (encode_record (slotted r)) (some r)
  fine_spells = record {
    sound = lent_back r fine.sound fine.ranged fine.placed;
    holds = held_back r fine.sound fine.ranged fine.placed;
  }

  -- They are below 256.
  pub fine_bytes : Bytes (encode_record (slotted r))
  fine_bytes = encode_bytes (slotted r) (fits_slotted r fine.sound fine.ranged)

-- Slots hold no previous votes but vote-1's and vote-2's.
placed_in : (r : slots.Record) → Placed (contents r)
unfolding contents previous_of
placed_in r k lacks = when_false (has_previous k) (reported (slot_of r (previous_slot (suc k)))) lacks

-- Whatever bytes spell is such contents.
pub spelled_fine : (s : List ℕ) (b : Option Record) → Bytes s → Spells s b → (r : Record) → b ≡ some r → Fine r
spelled_fine s none bytes spells r e = absurd (none≢some e)
spelled_fine s (some c) bytes spells r e =
    let (clean, sound, ranged) = sound_read s bytes spells.sound in
    let same : c ≡ r = cc in
    subst Fine (spells.holds ∙ same) (record { sound = sound; ranged = ranged; placed = placed_in (decode_record s) })

-- Bytes that spell contents are just those that the contents fill.
spelled_once : (r : Record) (s : List ℕ) → Bytes s → Spells s (some r) → s ≡ encode_record (slotted r)
spelled_once r s bytes spells = ready_spells (ready_lent s bytes spells.sound) bytes spells.holds

-- ---- blank bytes

-- Zeros, at every place.
zero_at : (n i : ℕ) → ◌≡◌ {A = ℕ} (get_or (replicate n 0) i 0) 0
zero_at zero i = refl
zero_at (suc n) zero = refl
zero_at (suc n) (suc i) = zero_at n i

-- A blank record: zeros of the record's length.
abbrev zeros : List ℕ
zeros = replicate record_size 0

-- Zeros are bytes.
zeros_bytes : Bytes zeros
zeros_bytes i = omega (arith, zero_at record_size i)

-- They spell a blank record, as n is 0.
zeros_blank : Spells zeros none
unfolding decode_record
zeros_blank = lent_blank zeros (length-replicate {A = ℕ} record_size 0) (zero_at record_size 0)

-- ---- calls

-- A call on bytes that spell something is the call on that.
pub on_spelled : (k : ℕ) (rec : List ℕ) (b : Option Record) (a : Call) → Spells rec b → on_lent (lent_is rec) k (contents_in rec) a ≡ answer b a
on_spelled k rec none a h = ap (λ (t : Lent). on_lent t k (contents_in rec) a) h
on_spelled k rec (some r) a h = ap (λ (t : Lent). on_lent t k (contents_in rec) a) h.sound ∙ ap (λ (z : Record). answer (some z) a) h.holds

-- Where there is room, it comes to what the call by contents answers.
pub called_room : (k : ℕ) (rec out : List ℕ) (b : Option Record) (a : Call) → Spells rec b → 256 ≤ length out
    → called k rec out a ≡ left_after rec out (answer b a)
unfolding called
called_room k rec out b a h room =
    ap (λ (t : Bool). cond t (gave 1 rec out) (left_after rec out (on_lent (lent_is rec) k (contents_in rec) a))) (le-ltb (length out) 256 room)
    ∙ ap (left_after rec out) (on_spelled k rec b a h)

-- The layout loses nothing: a blank record, every content reached, one spelling of each, and what calls leave.
pub loses_nothing : LosesNothing
loses_nothing = record {
  blank = (zeros, (zeros_bytes, zeros_blank));
  reached = λ r to. (fine_bytes r (reached_fine to r refl), fine_spells r (reached_fine to r refl));
  once = λ r s t bs bt ss st. spelled_once r s bs ss ∙ sym (spelled_once r t bt st);
  left = λ k rec out b a bytes spells fed room o is.
      let fine = call_fine b a (spelled_fine rec b bytes spells) fed o is in
      let same = called_room k rec out b a spells room ∙ ap (left_after rec out) is in
      subst (LeavesSpelled o out) (sym same) (refl, refl, fine_bytes o.left fine, fine_spells o.left fine);
}
