-- What a remnant brings back (document 02, wish 6, 'Come back after a power cut'). A vault's contents alone are contents that a vault may have
-- (`alone_fine`), and the record that they fill is the one that a restart makes from their remnant (`restored_back` in Own); so the restart's last
-- test, 26, passes, and its bytes spell those contents. Each call goes down its table of refusals once (`written_any`, `restart_cases`).
-- Assumes nothing.
use Prim.Native.Nat.{ℕ, ◌≤◌}
use mathlib.Core.Path.{◌≡◌, refl, sym, ◌∙◌, ap, subst}
use mathlib.Core.Logic.{◌⊎◌, inl, inr}
use mathlib.Core.Bool.{Bool, true, false, not}
use mathlib.Core.List.{List, [], ◌∷◌}
use mathlib.Core.Option.{some}
use lib.Dec.{ltb, eqb}
use lib.ListN.{length}
use borrow.Author.Tests.{ltb-false, le-ltb, eq-eqb}
use Rattle.wire.specs.Fields.{Bytes}
use Rattle.wire.specs.Placed.{placed}
use Rattle.frame.specs.Refusal.{row, first}
use Rattle.record.specs.Slots as slots
use Rattle.record.specs.Layout.{encode_record, decode_record}
use Rattle.sound.specs.declared.Lent.{Lent}
use Rattle.sound.specs.declared.Lent.TheVariants.{Blank, Unsound, Sound}
use Rattle.sound.specs.inside.Sound.{lent_is}
use Rattle.protocol.specs.Record.{Record}
use Rattle.protocol.specs.Calls.{accepted}
use Rattle.protocol.specs.Alone.{alone, restarted}
use Rattle.protocol.proofs.OwnRow.{alone_proper}
use Rattle.contents.specs.Contents.{contents_in, slotted}
use Rattle.contents.specs.Calls.{left_after}
use Rattle.contents.specs.Left.{Left, wrote, gave}
use Rattle.contents.specs.Spelling.{LeavesSpelled}
use Rattle.own.specs.Size.{remnant_size}
use Rattle.own.specs.Part.{remnant_of, restored}
use Rattle.own.proofs.Stored.{remnant_length}
use Rattle.contents.specs.Which.{is_blank, is_sound}
use Rattle.contents.specs.Remnant.{unless_given, remnant_left, made_back, restart_left}
use Rattle.contents.specs.Back.{RemnantBack}
use Rattle.contents.proofs.Sound.{decoded_back}
use Rattle.contents.proofs.Ready.{ready_lent, ready_slotted}
use Rattle.contents.proofs.Spelling.{Fine, fine_spells, fine_bytes, spelled_fine}
use Rattle.contents.proofs.Own.{restored_back, remnant_alone}

-- A restart leaves contents that a vault may have.
pub alone_fine : (r : Record) → Fine r → Fine (alone r)
unfolding alone
alone_fine r fine =
    let (sound, ranged) = alone_proper r (fine.sound, fine.ranged) in
    record { sound = sound; ranged = ranged; placed = fine.placed }

-- ---- to write a remnant

module _ (rec out : List ℕ) where
  -- What writing leaves where nothing is refused.
  abbrev written : Left
  written = wrote remnant_size rec (placed out 0 (remnant_of (decode_record rec)))

  -- Writing, by the answers to its tests.
  abbrev writes : Bool → Lent → Left
  writes short is = unless_given (first (row 1 short ∷ row 2 (is_blank is) ∷ row 3 (not (is_sound is)) ∷ [])) rec out written

  -- Writing is refused, or writes the remnant of a sound record.
  pub written_any : ((k : ℕ) × (remnant_left rec out ≡ gave k rec out))
      ⊎ ((remnant_size ≤ length out) × (lent_is rec ≡ Sound) × (remnant_left rec out ≡ wrote remnant_size rec (placed out 0 (remnant_of (decode_record rec)))))
  unfolding remnant_left
  written_any = go (ltb (length out) remnant_size) refl (lent_is rec) refl
    where
      go : (short : Bool) → ltb (length out) remnant_size ≡ short → (is : Lent) → lent_is rec ≡ is
          → ((k : ℕ) × (writes short is ≡ gave k rec out)) ⊎ ((remnant_size ≤ length out) × (lent_is rec ≡ Sound) × (writes short is ≡ written))
      go true a is b = inl (1, refl)
      go false a Blank b = inl (2, refl)
      go false a Unsound b = inl (3, refl)
      go false a Sound b = inr (ltb-false (length out) remnant_size a, b, refl)

  -- The remnant of a sound record is written, where there is space.
  pub sound_written : lent_is rec ≡ Sound → remnant_size ≤ length out
      → remnant_left rec out ≡ wrote remnant_size rec (placed out 0 (remnant_of (decode_record rec)))
  unfolding remnant_left
  sound_written e room = let long = le-ltb (length out) remnant_size room in λ i. writes (long i) (e i)

-- So is that of contents that a vault may have.
pub fine_written : (r : Record) → Fine r → (out : List ℕ) → remnant_size ≤ length out
    → remnant_left (encode_record (slotted r)) out ≡ wrote remnant_size (encode_record (slotted r)) (placed out 0 (remnant_of (slotted r)))
fine_written r fine out room =
    sound_written (encode_record (slotted r)) out (fine_spells r fine).sound room
    ∙ ap (λ (q : slots.Record). wrote remnant_size (encode_record (slotted r)) (placed out 0 (remnant_of q)))
    (decoded_back r fine.sound fine.ranged fine.placed)

-- ---- a restart

module _ (rec remnant out : List ℕ) where
  -- A restart, by the answers to its tests.
  abbrev restarts : Bool → Lent → Bool → Lent → Left
  restarts short is fits made =
      unless_given (first (row 1 short ∷ row 4 (not (is_blank is)) ∷ row 25 (not fits) ∷ row 26 (not (is_sound made)) ∷ [])) rec out
      (made_back (restored remnant) out)

  -- What a restart that is not refused was given, and left.
  record Restarted : Type 0 where
    room : 256 ≤ length out
    blank : lent_is rec ≡ Blank
    sound : lent_is (encode_record (restored remnant)) ≡ Sound
    leaves : restart_left rec remnant out ≡ made_back (restored remnant) out

  -- A restart is refused, or makes its record, on a blank one.
  restart_cases : ((k : ℕ) × (restart_left rec remnant out ≡ gave k rec out)) ⊎ Restarted
  unfolding restart_left
  restart_cases = go (ltb (length out) 256) refl (lent_is rec) refl (eqb (length remnant) remnant_size) (lent_is (encode_record (restored remnant))) refl refl
    where
      go : (short : Bool) → ltb (length out) 256 ≡ short → (is : Lent) → lent_is rec ≡ is → (fits : Bool) (made : Lent)
          → lent_is (encode_record (restored remnant)) ≡ made → restart_left rec remnant out ≡ restarts short is fits made
          → ((k : ℕ) × (restart_left rec remnant out ≡ gave k rec out)) ⊎ Restarted
      go true a is b fits made c e = inl (1, e)
      go false a Unsound b fits made c e = inl (4, e)
      go false a Sound b fits made c e = inl (4, e)
      go false a Blank b false made c e = inl (25, e)
      go false a Blank b true Blank c e = inl (26, e)
      go false a Blank b true Unsound c e = inl (26, e)
      go false a Blank b true Sound c e = inr (record { room = ltb-false (length out) 256 a; blank = b; sound = c; leaves = e })

  -- A restart is refused, or makes the record that the remnant says, and that is sound.
  pub restarted_any : ((k : ℕ) × (restart_left rec remnant out ≡ gave k rec out))
      ⊎ ((256 ≤ length out) × (lent_is (encode_record (restored remnant)) ≡ Sound) × (restart_left rec remnant out ≡ made_back (restored remnant) out))
  restarted_any = go restart_cases
    where
      go : ((k : ℕ) × (restart_left rec remnant out ≡ gave k rec out)) ⊎ Restarted → ((k : ℕ) × (restart_left rec remnant out ≡ gave k rec out))
          ⊎ ((256 ≤ length out) × (lent_is (encode_record (restored remnant)) ≡ Sound) × (restart_left rec remnant out ≡ made_back (restored remnant) out))
      go (inl h) = inl h
      go (inr h) = inr (h.room, h.sound, h.leaves)

  -- It is not refused, where there is space, the record is blank, the length is right and what the remnant says is sound.
  sound_restarts : 256 ≤ length out → lent_is rec ≡ Blank → length remnant ≡ remnant_size → lent_is (encode_record (restored remnant)) ≡ Sound
      → restart_left rec remnant out ≡ made_back (restored remnant) out
  unfolding restart_left
  sound_restarts room blank size sound =
      let long = le-ltb (length out) 256 room in
      let fits = eq-eqb (length remnant) remnant_size size in
      λ i. restarts (long i) (blank i) (fits i) (sound i)

module _ (r : Record) (fine : Fine r) where
  -- What the remnant of contents makes is what `restarted` says.
  made_alone : (rec out : List ℕ) → made_back (restored (remnant_of (slotted r))) out ≡ left_after rec out (accepted (restarted r))
  unfolding restarted alone slotted
  made_alone rec out = ap (λ (q : slots.Record). made_back q out) (restored_back r fine)

  -- A restart from the remnant of contents is refused, or leaves what `restarted` says, on a blank record.
  pub fine_restarts : (rec out : List ℕ) → ((k : ℕ) × (restart_left rec (remnant_of (slotted r)) out ≡ gave k rec out))
      ⊎ ((256 ≤ length out) × (lent_is rec ≡ Blank) × (restart_left rec (remnant_of (slotted r)) out ≡ left_after rec out (accepted (restarted r))))
  fine_restarts rec out = go (restart_cases rec (remnant_of (slotted r)) out)
    where
      go : ((k : ℕ) × (restart_left rec (remnant_of (slotted r)) out ≡ gave k rec out)) ⊎ Restarted rec (remnant_of (slotted r)) out
          → ((k : ℕ) × (restart_left rec (remnant_of (slotted r)) out ≡ gave k rec out))
          ⊎ ((256 ≤ length out) × (lent_is rec ≡ Blank) × (restart_left rec (remnant_of (slotted r)) out ≡ left_after rec out (accepted (restarted r))))
      go (inl h) = inl h
      go (inr h) = inr (h.room, h.blank, h.leaves ∙ made_alone rec out)

  -- It is not refused where there is space and the record is blank.
  pub fine_restarts_room : (rec out : List ℕ) → 256 ≤ length out → lent_is rec ≡ Blank
      → restart_left rec (remnant_of (slotted r)) out ≡ left_after rec out (accepted (restarted r))
  fine_restarts_room rec out room blank =
      sound_restarts rec (remnant_of (slotted r)) out room blank (remnant_length (slotted r))
      (ap (λ (q : slots.Record). lent_is (encode_record q)) (restored_back r fine) ∙ (fine_spells (alone r) (alone_fine r fine)).sound)
      ∙ made_alone rec out

  -- The bytes that it leaves then spell the contents alone.
  leaves_alone : (rec out : List ℕ) → LeavesSpelled (restarted r) out (left_after rec out (accepted (restarted r)))
  unfolding restarted
  leaves_alone rec out = (refl, refl, fine_bytes (alone r) (alone_fine r fine), fine_spells (alone r) (alone_fine r fine))

-- ---- bytes

module _ (rec : List ℕ) (bytes : Bytes rec) (e : lent_is rec ≡ Sound) where
  -- What sound bytes hold is contents that a vault may have.
  read_fine : Fine (contents_in rec)
  read_fine = spelled_fine rec (some (contents_in rec)) bytes (record { sound = e; holds = refl }) (contents_in rec) refl

  -- Their remnant is that of their contents.
  remnant_read : remnant_of (slotted (contents_in rec)) ≡ remnant_of (decode_record rec)
  remnant_read = ap remnant_of (ready_slotted (ready_lent rec bytes e))

-- A remnant brings back the vault's own row, and nothing besides.
pub remnant_back : RemnantBack
remnant_back = record {
  size = remnant_length;
  written = sound_written;
  back = λ rec blank out bytes e is room.
      let same = fine_restarts_room (contents_in rec) (read_fine rec bytes e) blank out room is in
      subst (LeavesSpelled (restarted (contents_in rec)) out) (sym same ∙ ap (λ (m : List ℕ). restart_left blank m out) (remnant_read rec bytes e))
      (leaves_alone (contents_in rec) (read_fine rec bytes e) blank out);
  same = λ rec bytes e. remnant_alone (contents_in rec) (read_fine rec bytes e) ∙ remnant_read rec bytes e;
}
