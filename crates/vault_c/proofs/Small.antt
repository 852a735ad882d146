-- No call counts more than 256 bytes, so a host's number is at most 512; and a refusal's number is below 256, so the number tells which it is. Of start,
-- frame and timer an accepted call's entries are 205 bytes at most by contents (`output_short`), and what such a call leaves on lent bytes is a refusal or
-- such an answer. A remnant has one length, and a restart writes one entry.
-- Assumes nothing.
use Prim.Native.Nat.{ℕ, ◌≤◌}
use mathlib.Core.Path.{◌≡◌, refl, sym, ap, subst, ◌∙◌}
use mathlib.Core.Logic.{⊎_elim}
use mathlib.Core.Bool.{Bool, true, false, cond}
use mathlib.Core.List.{List, [], ◌∷◌, append-nil}
use mathlib.Core.Option.{Option, none, some}
use native.Mathlib.Omega.{arith}
use lib.Dec.{ltb}
use lib.ListN.{length}
use Rattle.settings.specs.declared.Settings.{Settings}
use Rattle.record.specs.Layout.{decode_record}
use Rattle.sound.specs.declared.Lent.{Lent}
use Rattle.sound.specs.declared.Lent.TheVariants.{Blank, Unsound, Sound}
use Rattle.sound.specs.inside.Sound.{lent_is}
use Rattle.entry.specs.Layout.{entry_bytes, layout}
use Rattle.entry.proofs.Theorems.{entry_span}
use Rattle.frame.specs.Format.{within}
use Rattle.frame.specs.Refusal.{read_frame}
use Rattle.protocol.specs.Record.{Record}
use Rattle.protocol.specs.Calls.{Call, start, frame, timer, Answer, refused, accepted, answer}
use Rattle.protocol.proofs.Size.{output_short}
use Rattle.std.specs.Prelude.{Result, Ok, Err}
use Rattle.frame.specs.declared.Refusal as frames
use Rattle.vault.specs.Answers.{left_by}
use Rattle.equivocation.specs.Call.{equivocators_left}
use Rattle.equivocation.proofs.Sentences.{named_rise}
use Rattle.vault_c.specs.inside.Numbers.{code, Short}
use Rattle.vault_c.specs.Numbers.{seen, numbered}
use Rattle.vault_c.proofs.Refusals.{Refusal, Named, Brings, read_named, answer_named}
use Rattle.contents.specs.Contents.{contents}
use Rattle.contents.specs.Calls.{left_after, on_lent, called, start_left, frame_left, timer_left}
use Rattle.contents.specs.Left.{Left, wrote, gave}
use Rattle.own.specs.Part.{restored}
use Rattle.contents.specs.Remnant.{remnant_left, timer_back, restart_left}
use Rattle.contents.proofs.Remnant.{written_any, restarted_any}

-- What a call leaves is small: at most 205 bytes written, or a refusal's number.
abbrev pub Small : Left → Type 0
Small (wrote count rec out) = count ≤ 205
Small (gave number rec out) = Refusal number

module _ (rec out : List ℕ) (a : Call) (brings : Brings a) where
  -- By contents every call leaves so little.
  small_after : (b : Option Record) → Small (left_after rec out (answer b a))
  small_after b = go (answer b a) refl (answer_named b a brings)
    where
      go : (u : Answer) → answer b a ≡ u → Named u → Small (left_after rec out u)
      go (refused k) e named = named
      go (accepted o) e named = output_short b a o e

  -- So it does on a lent record, whatever that is.
  small_lent : (l : Lent) (k : ℕ) (r : Record) → Refusal k → Small (left_after rec out (on_lent l k r a))
  small_lent Blank k r named = small_after none
  small_lent Unsound k r named = named
  small_lent Sound k r named = small_after (some r)

  -- And whatever the output space is.
  small_called : (k : ℕ) → Refusal k → Small (called k rec out a)
  unfolding called within
  small_called k named = go (ltb (length out) 256)
    where
      go : (b : Bool) → Small (cond b (gave 1 rec out) (left_after rec out (on_lent (lent_is rec) k (contents (decode_record rec)) a)))
      go true = refl
      go false = small_lent (lent_is rec) k (contents (decode_record rec)) named

-- So does start.
pub small_start : (rec : List ℕ) (set : Settings) (plan : ℕ) (out : List ℕ) → Small (start_left rec set plan out)
unfolding start_left within
small_start rec set plan out = small_called rec out (start set plan) tt 4 refl

-- So does frame.
pub small_frame : (rec : List ℕ) (link : ℕ) (bytes out : List ℕ) → Small (frame_left rec link bytes out)
unfolding frame_left within
small_frame rec link bytes out =
    let n = (decode_record rec).set.n in
    let id = (decode_record rec).set.id in
    small_called rec out (frame (read_frame bytes link n id)) (read_named bytes link n id) 3 refl

-- So does timer.
pub small_timer : (rec : List ℕ) (view : ℕ) (out : List ℕ) → Small (timer_left rec view out)
unfolding timer_left within
small_timer rec view out = small_called rec out (timer view) tt 3 refl

-- What a call leaves counts no more than the output that every call asks for.
abbrev pub Fits : Left → Type 0
Fits (wrote count rec out) = count ≤ 256
Fits (gave number rec out) = Unit {0}

-- The answer of such a call is short.
pub short_fits : (a : Result ℕ frames.Refusal) (rec out : List ℕ) (l : Left) → left_by a rec out ≡ l → Fits l → Short a
short_fits (Ok count) rec out l e h = subst Fits (sym e) h
short_fits (Err why) rec out l e h = tt

-- So is that of a call that leaves little.
pub short_by : (a : Result ℕ frames.Refusal) (rec out : List ℕ) (l : Left) → left_by a rec out ≡ l → Small l → Short a
short_by a rec out l e h = short_fits a rec out l e (fits l h)
  where
    fits : (l : Left) → Small l → Fits l
    fits (wrote count rec out) few = omega arith
    fits (gave number rec out) named = tt

-- A remnant's length fits.
pub fits_written : (rec out : List ℕ) → Fits (remnant_left rec out)
fits_written rec out = ⊎_elim (λ (k, is). subst Fits (sym is) tt) (λ (room, sound, is). subst Fits (sym is) (omega arith)) (written_any rec out)

-- And a restart writes one entry.
pub fits_restart : (rec remnant out : List ℕ) → Fits (restart_left rec remnant out)
fits_restart rec remnant out =
    ⊎_elim (λ (k, is). subst Fits (sym is) tt) (λ (room, sound, is). subst Fits (sym is) few) (restarted_any rec remnant out)
  where
    few : length (layout (timer_back (restored remnant) ∷ [])) ≤ 256
    few = let whole = append-nil (entry_bytes (timer_back (restored remnant))) in rw whole (omega (arith, (entry_span (timer_back (restored remnant))).1))

-- The answer of the call that names vaults is short: it names n at most.
pub short_named : (a : Result ℕ frames.Refusal) (records lengths out left : List ℕ) → left_by a records left ≡ equivocators_left records lengths out → Short a
short_named (Ok count) records lengths out left e =
    let few = named_rise records lengths out left count (sym e) in
    omega (arith, few.0, few.1)
short_named (Err why) records lengths out left e = tt

-- a host sees the number of the answer, with what the call left
pub seen_by : (r : ℕ) (a : Result ℕ frames.Refusal) (rec out : List ℕ) (l : Left) → r ≡ code a → left_by a rec out ≡ l → seen r rec out ≡ numbered l
seen_by r (Ok count) rec out l q e = ap (λ (k : ℕ). seen k rec out) q ∙ ap numbered e
seen_by r (Err why) rec out l q e = ap (λ (k : ℕ). seen k rec out) q ∙ ap numbered e
