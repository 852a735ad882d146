-- The stage, line by line: it keeps its size, the four vaults' bytes stay records of theirs, what waits is bytes (`Good`), and a liar that is declared
-- stays declared (`liar_lasts`). A call changes one record and sends frames (`Turned`), whatever is to be known of each frame that waits.
-- Assumes nothing.
use Prim.Native.Nat.{ℕ, zero, suc, ◌+◌, ◌≤◌, ◌<◌}
use mathlib.Core.Path.{◌≡◌, refl, sym, ap, subst, ◌∙◌}
use mathlib.Core.Logic.{◌≢◌, ◌⊎◌, inl, inr, ⊎_elim}
use mathlib.Core.Bool.{cond}
use mathlib.Core.List.{List, [], ◌∷◌}
use mathlib.Core.Option.{Option, none, some}
use native.Mathlib.Omega.{arith}
use lib.Dec.{eqb}
use borrow.Author.Tests.{eqb-true, eqb-false}
use lib.ListN.{length, get_or, drop, replicate, length-drop, length-replicate}
use lib.Seq.{length-take-le, get_or-take, get_or-drop, ext_get_or}
use Rattle.rules.specs.Sets.{size}
use Rattle.rules.proofs.Bools.{which}
use Rattle.wire.specs.Fields.{Bytes}
use Rattle.frame.proofs.Theorems.{encoded_bytes}
use Rattle.entry.specs.declared.Entry.{Entry}
use Rattle.entry.specs.declared.Entry.TheVariants.{ForAll, ForOne, Timer, Decision}
use Rattle.record.specs.Size.{record_size}
use Rattle.record.specs.Layout.{decode_record}
use Rattle.sound.specs.inside.Sound.{lent_is}
use Rattle.protocol.specs.Pass.{Out}
use Rattle.protocol.specs.Calls.{accepted}
use Rattle.contents.specs.Calls.{left_after}
use Rattle.contents.specs.Left.{Left, gave}
use Rattle.runs.specs.Runs.{ByteCall, InWidth, record_in, entries_in}
use Rattle.runs.specs.Fixed.{leaves}
use Rattle.runs.proofs.Carry.{said}
use Rattle.answers.specs.Lines.{zeroed, blank_record}
use Rattle.lines.specs.Lines.{after}
use Rattle.stage.proofs.Apart.{record_sized, record_put, record_other, record_waiting, record_liar, place_sized, place_record, place_liar, place_other, waiting_freed}
use Rattle.stage.proofs.Apart.{liar_sized, liar_put, liar_record, liar_waiting}
use Rattle.rules.proofs.Reports.{none≢some}
use Rattle.stage.specs.Stage.{part, record_place, place_count, place_of, place_size, stage_size, empty_stage, record_of, with_record}
use Rattle.stage.specs.Stage.{liar_in, Waiting, waiting_in, waiting_at, is_free, with_free}
use Rattle.stage.specs.Lines.{Meant, refuse, call, free, declare, make_up, line_meant, answered, done, rehearsal}
use Rattle.rehearsed.proofs.Means.{CallWell, by_start, by_frame, by_timer, MeantWell, meant_well}
use Rattle.rehearsed.proofs.Sent.{Waits, Stays, OfAll, sent_stays, entries_stay}
use Rattle.rehearsed.proofs.Calls.{Holds, Accepts, Held, OwnStart, comes}

-- ---- the stage

-- What waits is bytes.
abbrev pub ByteFrame : Waiting → Type 0
ByteFrame w = Bytes w.bytes

-- The stage has its size, the four vaults' bytes are records of theirs, and what waits is bytes.
pub record Good (s : List ℕ) : Type 0 where
  pub size : length s ≡ stage_size
  pub held : (v : ℕ) → v ≤ 3 → Held v (record_of s v)
  pub bytes : Waits ByteFrame s

-- The frames of entries are bytes.
pub entries_bytes : (v : ℕ) (es : List Entry) → OfAll ByteFrame v es
entries_bytes v [] = tt
entries_bytes v (ForAll f ∷ es) = (encoded_bytes f, entries_bytes v es)
entries_bytes v (ForOne to f ∷ es) = (encoded_bytes f, entries_bytes v es)
entries_bytes v (Timer view millis ∷ es) = (tt, entries_bytes v es)
entries_bytes v (Decision view plan ∷ es) = (tt, entries_bytes v es)

-- A record of the stage has its length.
pub record_long : (s : List ℕ) → length s ≡ stage_size → (v : ℕ) → v ≤ 3 → length (record_of s v) ≡ record_size
unfolding part
record_long s size v low = length-take-le record_size (drop (record_place v) s) (omega (arith, length-drop (record_place v) s))

-- The call of a line is in width, and starts its own vault.
pub call_fits : (s : List ℕ) → Waits ByteFrame s → (v : ℕ) (a : ByteCall) → CallWell s v a → (rec : List ℕ) → InWidth a × OwnStart v (said rec a)
call_fits s bytes v a (by_start class plan low) rec = (low, (refl, refl))
call_fits s bytes v a (by_frame k w low is) rec = (bytes k low w is, tt)
call_fits s bytes v a (by_timer view) rec = (tt, tt)

-- The stage after a call, whatever holds of each waiting frame: the vault has the record left, the others stay, and so do the liar and what waits.
pub record Turned (P : Waiting → Type 0) (s t : List ℕ) (v : ℕ) (rec : List ℕ) : Type 0 where
  pub size : length t ≡ stage_size
  pub this : record_of t v ≡ rec
  pub others : (w : ℕ) → w ≤ 3 → v ≢ w → record_of t w ≡ record_of s w
  pub liar : liar_in t ≡ liar_in s
  pub waits : Waits P s → Waits P t

-- The record of a vault is changed.
pub turned_record : (P : Waiting → Type 0) (s : List ℕ) → length s ≡ stage_size → (v : ℕ) → v ≤ 3 → (rec : List ℕ) → length rec ≡ record_size
    → Turned P s (with_record s v rec) v rec
turned_record P s size v low rec long = record {
  size = record_sized s size v low rec long;
  this = record_put s size v low rec long;
  others = record_other s size v low rec long;
  liar = record_liar s size v low rec long;
  waits = λ old k few w is. old k few w (sym (record_waiting s size v low rec long k few) ∙ is);
}

-- And then frames are sent.
pub turned_more : {P : Waiting → Type 0} {s t u : List ℕ} {v : ℕ} {rec : List ℕ} → Turned P s t v rec → Stays P t u → Turned P s u v rec
turned_more {v = v} a b = record {
  size = b.size;
  this = b.records v ∙ a.this;
  others = λ w few other. b.records w ∙ a.others w few other;
  liar = b.liar ∙ a.liar;
  waits = λ old. b.waits (a.waits old);
}

module _ (P : Waiting → Type 0) (s : List ℕ) (size : length s ≡ stage_size) (v : ℕ) (low : v ≤ 3) (a : ByteCall) where
  -- A refused call changes nothing.
  pub refused_turns : (k : ℕ) → leaves (record_of s v) a zeroed ≡ gave k (record_of s v) zeroed → Turned P s (done s (call v a)).stage v (record_of s v)
  unfolding done
  refused_turns k is =
      subst (λ (l : Left). Turned P s (answered s v l).stage v (record_of s v)) (sym is)
      (turned_record P s size v low (record_of s v) (record_long s size v low))

  -- An accepted call leaves its record, and its frames are sent.
  pub accepted_turns : {o : Out} → (g : Accepts v (record_of s v) a o) → OfAll P v o.wrote
      → Turned P s (done s (call v a)).stage v (record_in (leaves (record_of s v) a zeroed))
  unfolding done
  accepted_turns {o} g all =
      let rec = record_of s v in
      let Says : Left → Type 0 = λ l. (length (record_in l) ≡ record_size) → (entries_in l ≡ o.wrote) → Turned P s (answered s v l).stage v (record_in l) in
      let now : Says (left_after rec zeroed (accepted o)) = λ long es.
      turned_more (turned_record P s size v low _ long)
      (entries_stay P v (with_record s v _) (record_sized s size v low _ long) _ (subst (OfAll P v) (sym es) all)) in
      subst Says (sym g.is) now g.size g.entries

-- ---- a line, on the stage

-- A number is freed.
pub freed_stays : (P : Waiting → Type 0) (s : List ℕ) → length s ≡ stage_size → (k : ℕ) → k < place_count → Stays P s (with_free s k)
freed_stays P s size k low = record {
  size = place_sized s size k low (0 ∷ []) (omega arith);
  records = place_record s size k low (0 ∷ []) (omega arith);
  liar = place_liar s size k low (0 ∷ []) (omega arith);
  waits = λ old j less w is. ⊎_elim
      (λ same. absurd (none≢some (sym (subst (λ (i : ℕ). waiting_at (with_free s k) i ≡ none) (eqb-true k j same) (waiting_freed s size k low)) ∙ is)))
      (λ other. old j less w (sym (place_other s size k low (0 ∷ []) (omega arith) j less (eqb-false k j other)) ∙ is))
      (which (eqb k j));
}

-- What stays good, where records and sizes do.
pub good_stays : {s t : List ℕ} → Good s → Stays ByteFrame s t → Good t
good_stays g a = record { size = a.size; held = λ v low. subst (Held v) (sym (a.records v)) (g.held v low); bytes = a.waits g.bytes }

-- A call leaves a good stage.
pub good_turned : {s t : List ℕ} {v : ℕ} {rec : List ℕ} → Good s → Held v rec → Turned ByteFrame s t v rec → Good t
good_turned {s} {t} {v} {rec} g own a = record {
  size = a.size;
  held = λ w low. ⊎_elim
      (λ same. subst (λ (i : ℕ). Held i (record_of t i)) (eqb-true v w same) (subst (Held v) (sym a.this) own))
      (λ other. subst (Held w) (sym (a.others w low (eqb-false v w other))) (g.held w low))
      (which (eqb v w));
  bytes = a.waits g.bytes;
}

-- What a line does to a good stage: it stays good, and a liar that was declared stays declared.
pub record Onward (s t : List ℕ) : Type 0 where
  pub good : Good t
  pub liar : (liar_in s ≡ 0) ⊎ (liar_in t ≡ liar_in s)

-- A call does.
pub call_onward : (s : List ℕ) → Good s → (v : ℕ) → v ≤ 3 → (a : ByteCall) → CallWell s v a → Onward s (done s (call v a)).stage
call_onward s g v low a well =
    let (wide, starts) = call_fits s g.bytes v a well (record_of s v) in
    ⊎_elim
    (λ (k, is). let t = refused_turns ByteFrame s g.size v low a k is in record { good = good_turned g (g.held v low) t; liar = inr t.liar })
    (λ (o, acc).
    let t = accepted_turns ByteFrame s g.size v low a acc (entries_bytes v o.wrote) in
    record { good = good_turned g (some o.left, acc.held) t; liar = inr t.liar })
    (comes v (record_of s v) a (g.held v low) wide starts)

-- So does every line.
pub goes_onward : (s : List ℕ) → Good s → (m : Meant) → MeantWell s m → Onward s (done s m).stage
unfolding done
goes_onward s g (refuse number) well = record { good = g; liar = inr refl }
goes_onward s g (call v a) (low, well) = call_onward s g v low a well
goes_onward s g (free k) low = let t = freed_stays ByteFrame s g.size k low in record { good = good_stays g t; liar = inr t.liar }
goes_onward s g (declare v) well = record {
  good = record {
    size = liar_sized s g.size v;
    held = λ w low. subst (Held w) (sym (liar_record s g.size v w)) (g.held w low);
    bytes = λ k low w is. g.bytes k low w (sym (liar_waiting s g.size v k low) ∙ is);
  };
  liar = ⊎_elim inl (λ e. inr (liar_put s g.size v ∙ sym e)) well;
}
goes_onward s g (make_up v bytes) (is, low, few) =
    let t = sent_stays ByteFrame s g.size (record { writer = v; to = 255; bytes = bytes }) few low in
    record { good = good_stays g t; liar = inr t.liar }

-- A liar that is declared stays the liar.
pub liar_lasts : (texts : List (List ℕ)) (s : List ℕ) → Good s → (v : ℕ) → liar_in s ≡ suc v → liar_in (after rehearsal s texts) ≡ suc v
unfolding after rehearsal
liar_lasts [] s g v is = is
liar_lasts (text ∷ texts) s g v is =
    let on = goes_onward s g (line_meant s text) (meant_well s text) in
    liar_lasts texts (done s (line_meant s text)).stage on.good v
    (⊎_elim (λ (nobody : liar_in s ≡ 0). absurd (omega arith)) (λ same. same ∙ is) on.liar)

-- ---- the empty stage

-- Zeros are zeros.
pub zero_at : (m i : ℕ) → get_or {A = ℕ} (replicate m 0) i 0 ≡ 0
zero_at zero i = refl
zero_at (suc m) zero = refl
zero_at (suc m) (suc i) = zero_at m i

-- Each part of the empty stage is zeros.
pub part_zero : (at n i : ℕ) → i < n → get_or (part at n empty_stage) i 0 ≡ 0
unfolding part
part_zero at n i low = get_or-take n (drop at empty_stage) i 0 low ∙ get_or-drop at empty_stage i 0 ∙ zero_at stage_size (at + i)

-- So is the record of each vault: a blank one.
pub blank_at : (v : ℕ) → v ≤ 3 → record_of empty_stage v ≡ blank_record
blank_at v low =
    let long : length (record_of empty_stage v) ≡ record_size = record_long empty_stage (length-replicate {A = ℕ} stage_size 0) v low in
    ext_get_or 0 (record_of empty_stage v) blank_record (long ∙ sym (length-replicate {A = ℕ} record_size 0))
    (λ i less. part_zero (record_place v) record_size i (omega (arith, less, long)) ∙ sym (zero_at record_size i))

-- A blank record spells nothing.
pub blank_held : (v : ℕ) → Holds v blank_record none
unfolding lent_is decode_record
blank_held v = record { spells = refl; fine = λ r e. absurd (none≢some e); own = λ r e. absurd (none≢some e) }

-- Nothing waits at any number.
pub none_at_first : (k : ℕ) → waiting_at empty_stage k ≡ none
unfolding waiting_at is_free
none_at_first k =
    ap (λ (n : ℕ). cond {A = Option Waiting} (eqb n 0) none (some (waiting_in (part (place_of k) place_size empty_stage))))
    (part_zero (place_of k) place_size 0 (omega arith))

-- So anything holds of each frame that waits.
pub nothing_waits : (P : Waiting → Type 0) → Waits P empty_stage
nothing_waits P k low w is = absurd (none≢some (sym (none_at_first k) ∙ is))

-- A rehearsal begins well.
pub good_empty : Good empty_stage
good_empty = record {
  size = length-replicate {A = ℕ} stage_size 0;
  held = λ v low. (none, subst (λ (rec : List ℕ). Holds v rec none) (sym (blank_at v low)) (blank_held v));
  bytes = nothing_waits ByteFrame;
}
