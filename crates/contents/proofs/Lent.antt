-- What a lent record is, by the calls' test and in document 01's words. Lent bytes are told apart first by their length, then by n, which is
-- their first byte, then by the test on the slots.
-- Assumes nothing.
use Prim.Native.Nat.{ℕ}
use mathlib.Core.Path.{◌≡◌, refl}
use mathlib.Core.Logic.{◌↔◌}
use mathlib.Core.Bool.{Bool, true, false, cond}
use mathlib.Core.List.{List}
use native.Mathlib.Omega.{arith}
use lib.Dec.{eqb}
use lib.ListN.{length, get_or}
use borrow.Author.Tests.{eqb-true}
use Rattle.wire.specs.Fields.{Bytes}
use Rattle.record.specs.Layout.{decode_record}
use Rattle.record.specs.Size.{record_size}
use Rattle.record.proofs.Laws.{fits_decoded}
use Rattle.sound.specs.declared.Lent.TheVariants.{Blank, Unsound, Sound}
use Rattle.sound.specs.inside.Sound.{sound, lent_is}
use Rattle.sound.proofs.Laws.{lent_blank}
use Rattle.frame.proofs.Faults.{faultless}
use Rattle.contents.specs.Lent.{IsSound, LentIsSaid}
use Rattle.contents.specs.Faultless.{SoundHasNoFaults}
use Rattle.contents.proofs.Widths.{ranged_fits}
use Rattle.contents.proofs.Ready.{ready_lent, lent_ready}

-- The test says blank only where the length is right and n is 0.
blank_only : (a b c : Bool) → cond a (cond b Blank (cond c Sound Unsound)) Unsound ≡ Blank → (a ≡ true) × (b ≡ true)
blank_only true true c e = (refl, refl)
blank_only true false true e = let z : ◌≡◌ {A = ℕ} 0 1 = cc in absurd (omega arith)
blank_only true false false e = let z : ◌≡◌ {A = ℕ} 0 1 = cc in absurd (omega arith)
blank_only false b c e = let z : ◌≡◌ {A = ℕ} 0 1 = cc in absurd (omega arith)

-- 'Otherwise it is blank when its n is 0.'
pub blank_is_lent : (s : List ℕ) → ((length s ≡ record_size) × (get_or s 0 0 ≡ 0)) ↔ (lent_is s ≡ Blank)
unfolding lent_is decode_record
blank_is_lent s = (
  λ (size, n). lent_blank s size n,
  λ e.
      let (size, n) = blank_only (eqb (length s) record_size) (eqb (decode_record s).set.n 0) (sound (decode_record s)) e in
      (eqb-true (length s) record_size size, eqb-true (decode_record s).set.n 0 n),
)

-- 'It is sound when ..': numbers read from bytes have their widths.
sound_is_lent : (s : List ℕ) → Bytes s → IsSound s ↔ (lent_is s ≡ Sound)
sound_is_lent s bytes = (
  λ h. lent_ready (record { size = h.size; clean = h.clean; sound = h.sound; ranged = ranged_fits (decode_record s) (fits_decoded s bytes) }),
  λ e. let r = ready_lent s bytes e in record { size = r.size; clean = r.clean; sound = r.sound },
)

-- The calls' test on a lent record is what document 01 says of it.
pub lent_is_said : LentIsSaid
lent_is_said = record { blank = blank_is_lent; sound = sound_is_lent }

-- What the test takes for a sound record has none of the faults 14, 21 and 22.
pub sound_has_no_faults : SoundHasNoFaults
sound_has_no_faults s bytes e =
    let sound = ((sound_is_lent s bytes).1 e).sound in
    record { kept = λ k j x is. faultless x (sound.kept k j x is).content; own = sound.previous }
