-- In a list without cuts nothing is stored where the record is blank. By induction over the list: an accepted call's remnant was written, and that is
-- done of a sound record only; and a refused call changes neither.
-- Assumes nothing.
use Prim.Native.Nat.{ℕ}
use mathlib.Core.Path.{◌≡◌, refl, sym, ◌∙◌, ap, subst}
use mathlib.Core.Logic.{⊎_elim}
use mathlib.Core.Bool.{Bool, true, false, cond}
use mathlib.Core.List.{List, [], ◌∷◌}
use mathlib.Core.Option.{Option, none, some}
use native.Mathlib.Omega.{arith}
use lib.Dec.{ltb, eqb}
use lib.ListN.{length}
use Rattle.settings.specs.declared.Settings.{Settings}
use Rattle.record.specs.Layout.{decode_record}
use Rattle.sound.specs.declared.Lent.{Lent}
use Rattle.sound.specs.declared.Lent.TheVariants.{Blank, Unsound, Sound}
use Rattle.sound.specs.inside.Sound.{lent_is}
use Rattle.protocol.specs.Calls as by
use Rattle.protocol.specs.Record.{Record}
use Rattle.protocol.specs.Calls.{Answer, refused, accepted, answer}
use Rattle.contents.specs.Contents.{contents}
use Rattle.contents.specs.Calls.{left_after, on_lent, called, start_left, frame_left, timer_left}
use Rattle.contents.specs.Left.{Left, wrote, gave}
use Rattle.contents.specs.Remnant.{remnant_left}
use Rattle.contents.proofs.Lent.{blank_is_lent}
use Rattle.contents.proofs.Remnant.{written_any}
use Rattle.runs.specs.Runs.{ByteCall, start, frame, timer, call, write, Rules, Event, made, cut_in, cut, returned, Item, record_in, is_accepted, record_after}
use Rattle.runs.specs.Runs.{stored_after, stored_at, IsBlank, Setting, Stores, record_at, Ruled, nothing_yet, and_then}
use Rattle.runs.specs.Fixed.{leaves}
use Rattle.runs.specs.Uncut.{IsMade, BlankStoresNone}
use Rattle.runs.proofs.Demand.{Follows}

-- A refused call leaves the record.
left_stays : (rec out : List ℕ) (u : Answer) → is_accepted (left_after rec out u) ≡ false → record_in (left_after rec out u) ≡ rec
left_stays rec out (refused k) e = refl
left_stays rec out (accepted o) e = let z : ◌≡◌ {A = ℕ} 0 1 = cc in absurd (omega arith)

-- So does one that is refused for its output space.
called_stays : (k : ℕ) (rec out : List ℕ) (a : by.Call) → is_accepted (called k rec out a) ≡ false → record_in (called k rec out a) ≡ rec
unfolding called
called_stays k rec out a = go (ltb (length out) 256)
  where
    u : Answer
    u = on_lent (lent_is rec) k (contents (decode_record rec)) a

    go : (t : Bool) → is_accepted (cond t (gave 1 rec out) (left_after rec out u)) ≡ false → record_in (cond t (gave 1 rec out) (left_after rec out u)) ≡ rec
    go true e = refl
    go false e = left_stays rec out u e

-- Whichever call it is.
refused_stays : (rec out : List ℕ) (a : ByteCall) → is_accepted (leaves rec a out) ≡ false → record_in (leaves rec a out) ≡ rec
unfolding start_left frame_left timer_left
refused_stays rec out (start set plan) = called_stays 4 rec out (by.start set plan)
refused_stays rec out (frame link bytes) = called_stays 3 rec out _
refused_stays rec out (timer view) = called_stays 3 rec out (by.timer view)

-- A start is accepted on a blank record only.
pub start_blank : (rec : List ℕ) (set : Settings) (plan : ℕ) (out : List ℕ) → is_accepted (start_left rec set plan out) ≡ true → IsBlank rec
unfolding start_left called answer
start_blank rec set plan out went = (blank_is_lent rec).1 (go (ltb (length out) 256) (lent_is rec) refl went)
  where
    r : Record
    r = contents (decode_record rec)

    go : (t : Bool) (u : Lent) → lent_is rec ≡ u
        → is_accepted (cond t (gave 1 rec out) (left_after rec out (on_lent u 4 r (by.start set plan)))) ≡ true → lent_is rec ≡ Blank
    go true u is e = let z : ◌≡◌ {A = ℕ} 0 1 = cc in absurd (omega arith)
    go false Blank is e = is
    go false Unsound is e = let z : ◌≡◌ {A = ℕ} 0 1 = cc in absurd (omega arith)
    go false Sound is e = let z : ◌≡◌ {A = ℕ} 0 1 = cc in absurd (omega arith)

module _ {keeps_rules : Rules} (law : Follows keeps_rules) where
  -- A remnant is written of a sound record only.
  stores_sound : (rec remnant : List ℕ) → Stores keeps_rules rec remnant → lent_is rec ≡ Sound
  stores_sound rec remnant s = ⊎_elim
      (λ (k, is). let e = wrotes ∙ is in let z : ◌≡◌ {A = ℕ} 0 1 = cc in absurd (omega arith))
      (λ (room, sound, is). sound)
      (written_any rec s.out)
    where
      wrotes : wrote s.count rec s.left ≡ remnant_left rec s.out
      wrotes = law rec write s.out (wrote s.count rec s.left) s.ruled

  -- After a call made at a vault, if its record is blank nothing is stored.
  made_blank : (rec out : List ℕ) (a : ByteCall) (left : Left) (remnant : List ℕ) (s : Option (List ℕ)) → left ≡ leaves rec a out
      → (is_accepted left ≡ true → Stores keeps_rules (record_in left) remnant) → (IsBlank rec → s ≡ none) → IsBlank (record_in left)
      → cond (is_accepted left) (some remnant) s ≡ none
  made_blank rec out a left remnant s fixed stores old = go (is_accepted left) refl
    where
      go : (t : Bool) → is_accepted left ≡ t → IsBlank (record_in left) → cond t (some remnant) s ≡ none
      go true went blank =
          let sound = stores_sound (record_in left) remnant (stores went) in
          let empty = (blank_is_lent (record_in left)).0 blank in
          let z : ◌≡◌ {A = ℕ} 0 1 = cc in
          absurd (omega arith)
      go false gone blank =
          let same : record_in left ≡ rec = ap record_in fixed ∙ refused_stays rec out a (ap is_accepted (sym fixed) ∙ gone) in
          old (subst IsBlank same blank)

  -- After a call made, nothing is stored where the record is blank, if that was so before.
  uncut_next : (c : Setting) (l : List Item) (x : Item) → Ruled c keeps_rules l x.at x.event → IsMade x.event
      → ((j : ℕ) → IsBlank (record_at c l j) → stored_at l j ≡ none) → (i : ℕ) → IsBlank (record_at c (x ∷ l) i) → stored_at (x ∷ l) i ≡ none
  unfolding record_at stored_at
  uncut_next c l x ruled is_made old i = go (eqb x.at i)
    where
      now : (y : Event) → IsMade y → Ruled c keeps_rules l x.at y → IsBlank (record_after y) → stored_after y (stored_at l x.at) ≡ none
      now (made a out left remnant) is_made (low, ruled, fair, stores) =
          made_blank (record_at c l x.at) out a left remnant (stored_at l x.at) (law (record_at c l x.at) (call a) out left ruled) stores (old x.at)
      now (cut_in a out left blank) is_made ruled = absurd is_made
      now (cut blank) is_made ruled = absurd is_made
      now (returned out left) is_made ruled = absurd is_made

      go : (t : Bool) → IsBlank (cond t (record_after x.event) (record_at c l i))
          → cond t (stored_after x.event (stored_at l x.at)) (stored_at l i) ≡ none
      go true = now x.event is_made ruled
      go false = old i

  -- So it is all along a list without cuts.
  pub uncut_by : BlankStoresNone keeps_rules
  unfolding stored_at
  uncut_by c [] nothing_yet uncut = λ i blank. refl
  uncut_by c (x ∷ l) (and_then run keeps ruled) (is_made, uncut) = uncut_next c l x ruled is_made (uncut_by c l run uncut)
