-- Frames at the first numbers of a stage, all others being free (`Places`): a new frame takes the next number, and the entries of a call take the next
-- ones, one after the other. So what a call prints and what then waits compute from its entries (`hears`, `refuses`), though a stage of 59,101 bytes
-- is too long to compute with.
-- Assumes nothing.
use Prim.Native.Nat.{ℕ, suc, ◌+◌, ◌≤◌, ◌<◌}
use mathlib.Core.Path.{◌≡◌, refl, sym, ap, subst, ◌∙◌}
use mathlib.Core.Logic.{◌≢◌, ⊎_elim}
use mathlib.Core.Bool.{Bool, true, false, cond}
use mathlib.Core.List.{List, [], ◌∷◌, ◌++◌}
use mathlib.Core.Option.{Option, none, some}
use native.Mathlib.Decide.{dec_le}
use native.Mathlib.Omega.{arith}
use lib.Dec.{eqb}
use borrow.Author.Tests.{eqb-true, eqb-false, ne_eqb}
use lib.ListN.{length}
use Rattle.rules.proofs.Bools.{which, clash}
use Rattle.rules.proofs.Reports.{none≢some}
use Rattle.frame.specs.Format.{encode}
use Rattle.record.specs.Size.{record_size}
use Rattle.protocol.specs.Record.{Record}
use Rattle.protocol.specs.Pass.{Out}
use Rattle.protocol.specs.Calls.{accepted, refused, answer}
use Rattle.contents.specs.Calls.{left_after}
use Rattle.contents.specs.Left.{Left, wrote, gave}
use Rattle.runs.specs.Runs.{ByteCall, InWidth, record_in, entries_in}
use Rattle.runs.specs.Fixed.{leaves}
use Rattle.runs.proofs.Carry.{said, leaves_room}
use Rattle.answers.specs.Lines.{zeroed}
use Rattle.answers.proofs.Answers.{zeroed_size}
use Rattle.rehearsed.proofs.Sent.{OfAll}
use Rattle.rehearsed.proofs.Calls.{Holds, OwnStart, accepts_by}
use Rattle.rehearsed.proofs.Staged.{record_long, accepted_turns}
use Rattle.frame.proofs.Theorems.{encode_short}
use Rattle.entry.specs.declared.Entry.{Entry}
use Rattle.entry.specs.declared.Entry.TheVariants.{ForAll, ForOne, Timer, Decision}
use Rattle.entry.specs.Layout.{entry_bytes}
use Rattle.protocol.specs.Tables.{put}
use Rattle.protocol.proofs.Tables.{put_same, put_other}
use Rattle.lines.specs.Digits.{line_of, refusal_line}
use Rattle.stage.specs.Stage.{place_count, stage_size, record_of, with_record, Waiting, waiting_bytes, is_free, waiting_at, with_waiting, first_free}
use Rattle.stage.specs.Lines.{Done, sent_to, sent, entry_done, entries_done, call}
use Rattle.stage.specs.Lines.{waiting_now, answered, done}
use Rattle.stage.proofs.Apart.{record_sized, record_put, record_other, record_waiting, place_sized, place_other, waiting_put}
use Rattle.stage.proofs.Waiting.{smallest_free}

-- ---- frames at the first numbers

-- The frames f wait at the first n numbers, and no others.
pub record Places (s : List ℕ) (n : ℕ) (f : ℕ → Waiting) : Type 0 where
  pub size : length s ≡ stage_size
  pub waits : (k : ℕ) → k < n → waiting_at s k ≡ some (f k)
  pub free : (k : ℕ) → n ≤ k → k < place_count → waiting_at s k ≡ none

-- Something is there, so the test for nothing fails.
pub is_there : (b : Bool) (x w : Waiting) → cond b none (some x) ≡ some w → b ≡ false
is_there true x w e = absurd (none≢some e)
is_there false x w e = refl

-- Nothing is there, so it holds.
pub is_none : (b : Bool) (x : Waiting) → cond b none (some x) ≡ none → b ≡ true
is_none true x e = refl
is_none false x e = absurd (none≢some (sym e))

-- Where a frame waits the number is not free.
pub taken : (s : List ℕ) (k : ℕ) (w : Waiting) → waiting_at s k ≡ some w → is_free s k ≡ false
unfolding waiting_at
taken s k w is = is_there (is_free s k) (waiting_now s k) w is

-- Where none waits it is free.
pub none_waits : (s : List ℕ) (k : ℕ) → waiting_at s k ≡ none → is_free s k ≡ true
unfolding waiting_at
none_waits s k is = is_none (is_free s k) (waiting_now s k) is

-- The next number is the smallest free one.
pub next_free : {s : List ℕ} {n : ℕ} {f : ℕ → Waiting} → Places s n f → n < place_count → first_free s ≡ n
next_free {s} {n} {f} p low = go (dec_le (suc (first_free s)) n) (dec_le (suc n) (first_free s))
  where
    same : (suc (first_free s) ≤ n → ⊥) → (suc n ≤ first_free s → ⊥) → first_free s ≡ n
    same a b = omega arith

    go : Dec (suc (first_free s) ≤ n) → Dec (suc n ≤ first_free s) → first_free s ≡ n
    go (yes below) d =
        absurd (clash (smallest_free.free s (omega arith)) (taken s (first_free s) (f (first_free s)) (p.waits (first_free s) below)))
    go (no a) (yes above) = absurd (clash (none_waits s n (p.free n (omega arith) low)) (smallest_free.smaller s n above))
    go (no a) (no b) = same a b

-- A frame that is sent takes it.
pub sends : {s : List ℕ} {n : ℕ} {f : ℕ → Waiting} → Places s n f → n < place_count → (w : Waiting) → length w.bytes ≤ 45
    → Places (sent s w).stage (suc n) (put n w f) × ((sent s w).shown ≡ line_of (252 ∷ n ∷ w.to ∷ w.bytes))
unfolding sent_to waiting_bytes
sends {s} {n} {f} p low w few =
    let other : eqb n place_count ≡ false = ne_eqb n place_count (λ (e : n ≡ place_count). absurd (omega arith)) in
    let is : sent s w ≡ record { stage = with_waiting s n w; shown = line_of (252 ∷ n ∷ w.to ∷ w.bytes) } =
    ap (sent_to s w) (next_free p low) ∙ ap (λ (b : Bool). cond {A = Done} b
    (record { stage = s; shown = line_of (251 ∷ w.to ∷ w.bytes) })
    (record { stage = with_waiting s n w; shown = line_of (252 ∷ n ∷ w.to ∷ w.bytes) })) other in
    (subst (λ (d : Done). Places d.stage (suc n) (put n w f)) (sym is) there, ap (λ (d : Done). d.shown) is)
  where
    there : Places (with_waiting s n w) (suc n) (put n w f)
    there = record {
      size = place_sized s p.size n low (waiting_bytes w) (omega arith);
      waits = λ k less. ⊎_elim
          (λ same. subst (λ (j : ℕ). waiting_at (with_waiting s n w) j ≡ some (put n w f j)) (eqb-true n k same)
          (waiting_put s p.size n low w few ∙ ap some (sym (put_same n w f))))
          (λ other. place_other s p.size n low (waiting_bytes w) (omega arith) k (omega arith) (eqb-false n k other)
          ∙ p.waits k (less-than n k less (eqb-false n k other)) ∙ ap some (sym (put_other n w f k (eqb-false n k other))))
          (which (eqb n k));
      free = λ k most less. place_other s p.size n low (waiting_bytes w) (omega arith) k less (λ (e : n ≡ k). absurd (omega arith))
          ∙ p.free k (omega arith) less;
    }
      where
        less-than : (n k : ℕ) → k < suc n → (n ≡ k → ⊥) → k < n
        less-than n k less other = omega arith

-- ---- entries

-- What entries print, from a number on.
unfoldable pub shown_from : ℕ → List Entry → List ℕ
shown_from n [] = []
shown_from n (ForAll f ∷ es) = line_of (252 ∷ n ∷ 255 ∷ encode f) ++ shown_from (suc n) es
shown_from n (ForOne to f ∷ es) = line_of (252 ∷ n ∷ to ∷ encode f) ++ shown_from (suc n) es
shown_from n (Timer view millis ∷ es) = line_of (entry_bytes (Timer view millis)) ++ shown_from n es
shown_from n (Decision view plan ∷ es) = line_of (entry_bytes (Decision view plan)) ++ shown_from n es

-- How many frames wait afterwards.
unfoldable pub count_from : ℕ → List Entry → ℕ
count_from n [] = n
count_from n (ForAll f ∷ es) = count_from (suc n) es
count_from n (ForOne to f ∷ es) = count_from (suc n) es
count_from n (Timer view millis ∷ es) = count_from n es
count_from n (Decision view plan ∷ es) = count_from n es

-- And which.
unfoldable pub frames_from : ℕ → ℕ → (ℕ → Waiting) → List Entry → ℕ → Waiting
frames_from v n f [] = f
frames_from v n f (ForAll x ∷ es) = frames_from v (suc n) (put n (record { writer = v; to = 255; bytes = encode x }) f) es
frames_from v n f (ForOne to x ∷ es) = frames_from v (suc n) (put n (record { writer = v; to = to; bytes = encode x }) f) es
frames_from v n f (Timer view millis ∷ es) = frames_from v n f es
frames_from v n f (Decision view plan ∷ es) = frames_from v n f es

-- Entries take the next numbers, one after the other.
pub send_all : (v : ℕ) {s : List ℕ} {n : ℕ} {f : ℕ → Waiting} → Places s n f → (es : List Entry) → n + length es < place_count
    → Places (entries_done v s es).stage (count_from n es) (frames_from v n f es) × ((entries_done v s es).shown ≡ shown_from n es)
unfolding entries_done entry_done shown_from count_from frames_from
send_all v p [] room = (p, refl)
send_all v {s} {n} {f} p (ForAll x ∷ es) room =
    let w : Waiting = record { writer = v; to = 255; bytes = encode x } in
    let (q, line) = sends p (omega arith) w (encode_short x) in
    let (r, lines) = send_all v {s = (sent s w).stage} {n = suc n} {f = put n w f} q es (omega arith) in
    (r, (λ i. line i ++ lines i))
send_all v {s} {n} {f} p (ForOne to x ∷ es) room =
    let w : Waiting = record { writer = v; to = to; bytes = encode x } in
    let (q, line) = sends p (omega arith) w (encode_short x) in
    let (r, lines) = send_all v {s = (sent s w).stage} {n = suc n} {f = put n w f} q es (omega arith) in
    (r, (λ i. line i ++ lines i))
send_all v {s} {n} {f} p (Timer view millis ∷ es) room =
    let (r, lines) = send_all v {s = s} {n = n} {f = f} p es (omega arith) in (r, ap (λ (l : List ℕ). line_of (entry_bytes (Timer view millis)) ++ l) lines)
send_all v {s} {n} {f} p (Decision view plan ∷ es) room =
    let (r, lines) = send_all v {s = s} {n = n} {f = f} p es (omega arith) in (r, ap (λ (l : List ℕ). line_of (entry_bytes (Decision view plan)) ++ l) lines)

-- ---- calls

-- Another record changes nothing of what waits.
pub places_record : {s : List ℕ} {n : ℕ} {f : ℕ → Waiting} → Places s n f → (v : ℕ) → v ≤ 3 → (rec : List ℕ) → length rec ≡ record_size
    → n ≤ place_count → Places (with_record s v rec) n f
places_record {s} p v low rec long few = record {
  size = record_sized s p.size v low rec long;
  waits = λ k less. record_waiting s p.size v low rec long k (omega arith) ∙ p.waits k less;
  free = λ k most less. record_waiting s p.size v low rec long k less ∙ p.free k most less;
}

-- An accepted call at vault v prints its entries from the next number on.
pub record Heard (s : List ℕ) (v n : ℕ) (f : ℕ → Waiting) (o : Out) (d : Done) : Type 0 where
  pub shown : d.shown ≡ shown_from n o.wrote
  pub places : Places d.stage (count_from n o.wrote) (frames_from v n f o.wrote)
  pub this : Holds v (record_of d.stage v) (some o.left)
  pub others : (w : ℕ) → w ≤ 3 → v ≢ w → record_of d.stage w ≡ record_of s w

-- A refused one prints its number, and changes nothing.
pub record Unheard (s : List ℕ) (n : ℕ) (f : ℕ → Waiting) (k : ℕ) (d : Done) : Type 0 where
  pub shown : d.shown ≡ refusal_line k
  pub places : Places d.stage n f
  pub records : (w : ℕ) → w ≤ 3 → record_of d.stage w ≡ record_of s w

-- Anything is a frame.
pub any_frame : (v : ℕ) (es : List Entry) → OfAll (λ w. Unit {0}) v es
any_frame v [] = tt
any_frame v (ForAll x ∷ es) = (tt, any_frame v es)
any_frame v (ForOne to x ∷ es) = (tt, any_frame v es)
any_frame v (Timer view millis ∷ es) = (tt, any_frame v es)
any_frame v (Decision view plan ∷ es) = (tt, any_frame v es)

module _ {s : List ℕ} {n : ℕ} {f : ℕ → Waiting} (p : Places s n f) (v : ℕ) (low : v ≤ 3) (a : ByteCall) (b : Option Record)
    (h : Holds v (record_of s v) b) where
  -- What the call leaves, by contents.
  left_is : leaves (record_of s v) a zeroed ≡ left_after (record_of s v) zeroed (answer b (said (record_of s v) a))
  left_is = leaves_room (record_of s v) zeroed b a h.spells (omega (arith, zeroed_size))

  -- How an accepted call is followed.
  pub hears : InWidth a → OwnStart v (said (record_of s v) a) → (o : Out) → answer b (said (record_of s v) a) ≡ accepted o → n + length o.wrote < place_count
      → Heard s v n f o (done s (call v a))
  unfolding done
  hears wide starts o is room =
      let g = accepts_by v (record_of s v) a b h wide starts o is (left_is ∙ ap (left_after (record_of s v) zeroed) is) in
      let t = accepted_turns (λ w. Unit {0}) s p.size v low a g (any_frame v o.wrote) in
      let both = followed (leaves (record_of s v) a zeroed) g.is g.size g.entries in
      record {
        shown = both.1;
        places = both.0;
        this = subst (λ (r : List ℕ). Holds v r (some o.left)) (sym t.this) g.held;
        others = t.others;
      }
    where
      followed : (l : Left) → l ≡ left_after (record_of s v) zeroed (accepted o) → length (record_in l) ≡ record_size → entries_in l ≡ o.wrote
          → Places (answered s v l).stage (count_from n o.wrote) (frames_from v n f o.wrote) × ((answered s v l).shown ≡ shown_from n o.wrote)
      followed (wrote count rec out) e long es =
          subst (λ (l : List Entry). Places (entries_done v (with_record s v rec) l).stage (count_from n o.wrote) (frames_from v n f o.wrote)
          × ((entries_done v (with_record s v rec) l).shown ≡ shown_from n o.wrote)) (sym es)
          (send_all v (places_record p v low rec long (omega (arith, room))) o.wrote room)
      followed (gave k rec out) e long es = let z : ◌≡◌ {A = ℕ} 0 1 = cc in absurd (omega arith)

  -- How a refused one is.
  pub refuses : (k : ℕ) → answer b (said (record_of s v) a) ≡ refused k → n ≤ place_count → Unheard s n f k (done s (call v a))
  unfolding done
  refuses k is few =
      let left : leaves (record_of s v) a zeroed ≡ gave k (record_of s v) zeroed = left_is ∙ ap (left_after (record_of s v) zeroed) is in
      let long = record_long s p.size v low in
      subst (λ (l : Left). Unheard s n f k (answered s v l)) (sym left) (record {
        shown = refl;
        places = places_record p v low (record_of s v) long few;
        records = λ w few. ⊎_elim
            (λ same. subst (λ (i : ℕ). record_of (with_record s v (record_of s v)) i ≡ record_of s i) (eqb-true v w same)
            (record_put s p.size v low (record_of s v) long))
            (λ other. record_other s p.size v low (record_of s v) long w few (eqb-false v w other)) (which (eqb v w));
      })
