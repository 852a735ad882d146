-- What waits was written by its writer, or its writer is the liar of the script's end. What the script writes is fixed (`written`), and so is that liar:
-- line by line, a new frame that waits is one of the entries of the call that the line makes, or is made up by a vault that is declared, and
-- so by the liar of the end (`liar_lasts`).
-- Assumes nothing.
use Prim.Native.Nat.{ℕ, suc, ◌≤◌}
use mathlib.Core.Path.{◌≡◌, refl, sym, subst, ◌∙◌}
use mathlib.Core.Logic.{◌⊎◌, inl, inr, ⊎_elim}
use mathlib.Core.Bool.{Bool, false, cond}
use mathlib.Core.List.Memᴰ
use mathlib.Core.List.{List, [], ◌∷◌}
use lib.Dec.{eqb}
use borrow.Author.Tests.{eq-eqb}
use Rattle.rules.proofs.Bools.{clash}
use Rattle.frame.specs.declared.Frame.{Frame}
use Rattle.frame.specs.Format.{encode}
use Rattle.entry.specs.declared.Entry.{Entry}
use Rattle.entry.specs.declared.Entry.TheVariants.{ForAll, ForOne, Timer, Decision}
use Rattle.protocol.specs.Tables.{◌∈◌}
use Rattle.runs.specs.Runs.{ByteCall, entries_in}
use Rattle.runs.specs.Fixed.{leaves}
use Rattle.answers.specs.Lines.{zeroed}
use Rattle.lines.specs.Lines.{after}
use Rattle.stage.proofs.Apart.{liar_waiting}
use Rattle.stage.specs.Stage.{empty_stage, record_of, liar_in, Waiting}
use Rattle.stage.specs.Lines.{Meant, refuse, call, free, declare, make_up, line_meant, done, rehearsal}
use Rattle.rehearsed.specs.Agrees.{wrote_at, written_at}
use Rattle.rehearsed.specs.Sentences.{WaitingWasWritten}
use Rattle.rehearsed.proofs.Means.{CallWell, MeantWell, meant_well}
use Rattle.rehearsed.proofs.Sent.{Waits, OfAll, sent_stays}
use Rattle.rehearsed.proofs.Calls.{comes}
use Rattle.rehearsed.proofs.Staged.{refused_turns, accepted_turns, Good, call_fits, freed_stays, goes_onward, good_empty, liar_lasts, nothing_waits}

-- The entries of a call are written where it is made.
call_wrote : (s : List ℕ) (v : ℕ) (a : ByteCall) (e : Entry) → e ∈ entries_in (leaves (record_of s v) a zeroed) → e ∈ wrote_at s (call v a) v
call_wrote s v a e at = subst (λ (b : Bool). e ∈ cond b (entries_in (leaves (record_of s v) a zeroed)) []) (sym (eq-eqb v v refl)) at

module _ (liar : ℕ) (written : ℕ → List Entry) where
  -- The frame is that of an entry which its writer wrote, unless that is the liar.
  abbrev Told : Waiting → Type 0
  Told w = eqb liar (suc w.writer) ≡ false
      → (x : Frame) × (w.bytes ≡ encode x) × (((w.to ≡ 255) × (ForAll x ∈ written w.writer)) ⊎ (ForOne w.to x ∈ written w.writer))

  -- Entries that a vault wrote are such.
  entries_told : (v : ℕ) (es : List Entry) → ((e : Entry) → e ∈ es → e ∈ written v) → OfAll Told v es
  entries_told v [] there = tt
  entries_told v (ForAll f ∷ es) there =
      (λ honest. (f, refl, inl (refl, there (ForAll f) (Memᴰ.head refl))), entries_told v es (λ e at. there e (Memᴰ.tail at)))
  entries_told v (ForOne to f ∷ es) there =
      (λ honest. (f, refl, inr (there (ForOne to f) (Memᴰ.head refl))), entries_told v es (λ e at. there e (Memᴰ.tail at)))
  entries_told v (Timer view millis ∷ es) there = (tt, entries_told v es (λ e at. there e (Memᴰ.tail at)))
  entries_told v (Decision view plan ∷ es) there = (tt, entries_told v es (λ e at. there e (Memᴰ.tail at)))

  -- A call.
  call_told : (s : List ℕ) → Good s → (v : ℕ) → v ≤ 3 → (a : ByteCall) → CallWell s v a → ((i : ℕ) (e : Entry) → e ∈ wrote_at s (call v a) i → e ∈ written i)
      → Waits Told s → Waits Told (done s (call v a)).stage
  call_told s g v low a well there =
      let (wide, starts) = call_fits s g.bytes v a well (record_of s v) in
      ⊎_elim
      (λ (k, is). (refused_turns Told s g.size v low a k is).waits)
      (λ (o, acc). (accepted_turns Told s g.size v low a acc (entries_told v o.wrote (λ e at.
      there v e (call_wrote s v a e (subst (λ (es : List Entry). e ∈ es) (sym acc.entries) at))))).waits)
      (comes v (record_of s v) a (g.held v low) wide starts)

  -- Every line, where a liar that is declared is the one of the script's end.
  line_told : (s : List ℕ) → Good s → ((v : ℕ) → liar_in s ≡ suc v → liar ≡ suc v) → (m : Meant) → MeantWell s m
      → ((i : ℕ) (e : Entry) → e ∈ wrote_at s m i → e ∈ written i) → Waits Told s → Waits Told (done s m).stage
  unfolding done
  line_told s g last (refuse number) well there = λ told. told
  line_told s g last (call v a) (low, well) there = call_told s g v low a well there
  line_told s g last (free k) low there = (freed_stays Told s g.size k low).waits
  line_told s g last (declare v) well there = λ told k low w is. told k low w (sym (liar_waiting s g.size v k low) ∙ is)
  line_told s g last (make_up v bytes) (is, low, few) there =
      (sent_stays Told s g.size (record { writer = v; to = 255; bytes = bytes }) few
      (λ honest. absurd (clash (eq-eqb liar (suc v) (last v is)) honest))).waits

  -- All lines, one after the other.
  lines_told : (texts : List (List ℕ)) (s : List ℕ) → Good s → liar_in (after rehearsal s texts) ≡ liar
      → ((i : ℕ) (e : Entry) → e ∈ written_at s texts i → e ∈ written i) → Waits Told s → Waits Told (after rehearsal s texts)
  unfolding written_at after rehearsal
  lines_told [] s g ends there told = told
  lines_told (text ∷ texts) s g ends there told =
      let well = meant_well s text in
      lines_told texts (done s (line_meant s text)).stage (goes_onward s g (line_meant s text) well).good ends
      (λ i e at. there i e (Memᴰ.append_right (wrote_at s (line_meant s text) i) at))
      (line_told s g (λ v is. sym ends ∙ liar_lasts (text ∷ texts) s g v is) (line_meant s text) well
      (λ i e at. there i e (Memᴰ.append_left (written_at (done s (line_meant s text)).stage texts i) at)) told)

-- What waits was written by its writer, or its writer is declared by the script's end.
pub waiting_was_written : WaitingWasWritten
waiting_was_written texts k w low is honest =
    lines_told (liar_in (after rehearsal empty_stage texts)) (written_at empty_stage texts) texts empty_stage good_empty refl (λ i e at. at)
    (nothing_waits (Told (liar_in (after rehearsal empty_stage texts)) (written_at empty_stage texts))) k low w is honest
