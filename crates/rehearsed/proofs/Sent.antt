-- What sending frames does to a stage. Records and liar stay as they were, and what waits afterwards waited before or is the new frame. So whatever
-- holds of each waiting frame, and of the new ones, holds of all that wait afterwards.
-- Assumes nothing.
use Prim.Native.Nat.{ℕ, zero, suc, ◌+◌, ◌≤◌, ◌<◌}
use mathlib.Core.Path.{◌≡◌, refl, sym, subst, ◌∙◌}
use mathlib.Core.Bool.{Bool, true, false, cond}
use mathlib.Core.List.{List, [], ◌∷◌}
use mathlib.Core.Option.{some}
use mathlib.Core.Logic.{◌⊎◌, inl, inr, ⊎_elim}
use native.Mathlib.Omega.{arith}
use lib.Dec.{eqb}
use borrow.Author.Tests.{eqb-true, eqb-false}
use lib.ListN.{length}
use Rattle.rules.proofs.Bools.{which}
use Rattle.frame.specs.Format.{encode}
use Rattle.frame.proofs.Theorems.{encode_short}
use Rattle.entry.specs.declared.Entry.{Entry}
use Rattle.entry.specs.declared.Entry.TheVariants.{ForAll, ForOne, Timer, Decision}
use Rattle.stage.specs.Stage.{place_count, stage_size, record_of, liar_in, Waiting, waiting_bytes, waiting_at, with_waiting, is_free, free_from, first_free}
use Rattle.stage.specs.Lines.{sent_to, sent, entry_done, entries_done}
use Rattle.stage.proofs.Apart.{place_sized, place_record, place_liar, place_other, waiting_put}

-- It holds of each frame that waits.
abbrev pub Waits : (Waiting → Type 0) → List ℕ → Type 0
Waits P s = (k : ℕ) → k < place_count → (w : Waiting) → waiting_at s k ≡ some w → P w

-- The stage has its size, the records and the liar are as before, and what held of each waiting frame still does.
pub record Stays (P : Waiting → Type 0) (s t : List ℕ) : Type 0 where
  pub size : length t ≡ stage_size
  pub records : (v : ℕ) → record_of t v ≡ record_of s v
  pub liar : liar_in t ≡ liar_in s
  pub waits : Waits P s → Waits P t

-- The smallest free number is at most the one behind those that are looked at.
free_most : (s : List ℕ) (k more : ℕ) → free_from s k more ≤ k + more
unfolding free_from
free_most s k zero = omega arith
free_most s k (suc more) = go (is_free s k) (free_most s (suc k) more)
  where
    go : (b : Bool) → free_from s (suc k) more ≤ suc k + more → cond b k (free_from s (suc k) more) ≤ k + suc more
    go true rest = omega arith
    go false rest = omega arith

-- Where 256 wait nothing changes.
sent_full : (s : List ℕ) (w : Waiting) (k : ℕ) → eqb k place_count ≡ true → (sent_to s w k).stage ≡ s
unfolding sent_to
sent_full s w k full = rw full refl

-- Else the frame waits.
sent_waits : (s : List ℕ) (w : Waiting) (k : ℕ) → eqb k place_count ≡ false → (sent_to s w k).stage ≡ with_waiting s k w
unfolding sent_to
sent_waits s w k other = rw other refl

-- A number that is at most 256, and is not, is below it.
under : (k : ℕ) → k ≤ 0 + place_count → (k ≡ place_count → ⊥) → k < place_count
under k most other = omega arith

module _ (P : Waiting → Type 0) where
  -- Nothing is done.
  pub stays_same : (s : List ℕ) → length s ≡ stage_size → Stays P s s
  stays_same s size = record { size = size; records = λ v. refl; liar = refl; waits = λ old. old }

  -- A frame put at number k: what waits is it, or waited before.
  put_waits : (s : List ℕ) → length s ≡ stage_size → (k : ℕ) → k < place_count → (w : Waiting) → length w.bytes ≤ 45 → P w → Waits P s
      → Waits P (with_waiting s k w)
  unfolding waiting_bytes
  put_waits s size k low w few new old j less x is = go (which (eqb k j))
    where
      go : (eqb k j ≡ true) ⊎ (eqb k j ≡ false) → P x
      go (inl same) =
          let here : waiting_at (with_waiting s k w) j ≡ some w =
          subst (λ (i : ℕ). waiting_at (with_waiting s k w) i ≡ some w) (eqb-true k j same) (waiting_put s size k low w few) in
          let its : w ≡ x = cc in
          subst P its new
      go (inr other) = old j less x (sym (place_other s size k low (waiting_bytes w) (omega arith) j less (eqb-false k j other)) ∙ is)

  -- A frame that is sent waits or is lost.
  pub sent_stays : (s : List ℕ) → length s ≡ stage_size → (w : Waiting) → length w.bytes ≤ 45 → P w → Stays P s (sent s w).stage
  unfolding waiting_bytes
  sent_stays s size w few new = go (first_free s) (free_most s 0 place_count)
    where
      here : (k : ℕ) → k < place_count → Stays P s (with_waiting s k w)
      here k low = record {
        size = place_sized s size k low (waiting_bytes w) (omega arith);
        records = place_record s size k low (waiting_bytes w) (omega arith);
        liar = place_liar s size k low (waiting_bytes w) (omega arith);
        waits = put_waits s size k low w few new;
      }

      go : (k : ℕ) → k ≤ 0 + place_count → Stays P s (sent_to s w k).stage
      go k most = ⊎_elim
          (λ full. subst (Stays P s) (sym (sent_full s w k full)) (stays_same s size))
          (λ other. subst (Stays P s) (sym (sent_waits s w k other)) (here k (under k most (eqb-false k place_count other))))
          (which (eqb k place_count))

  -- It holds of the frame of an entry that vault v wrote.
  abbrev pub OfEntry : ℕ → Entry → Type 0
  OfEntry v (ForAll f) = P (record { writer = v; to = 255; bytes = encode f })
  OfEntry v (ForOne to f) = P (record { writer = v; to = to; bytes = encode f })
  OfEntry v (Timer view millis) = Unit {0}
  OfEntry v (Decision view plan) = Unit {0}

  -- One thing done after the other.
  pub stays_then : {s t u : List ℕ} → Stays P s t → Stays P t u → Stays P s u
  stays_then a b = record {
    size = b.size;
    records = λ v. b.records v ∙ a.records v;
    liar = b.liar ∙ a.liar;
    waits = λ old. b.waits (a.waits old);
  }

  -- An entry that vault v wrote.
  entry_stays : (v : ℕ) (s : List ℕ) → length s ≡ stage_size → (e : Entry) → OfEntry v e → Stays P s (entry_done v s e).stage
  unfolding entry_done
  entry_stays v s size (ForAll f) new = sent_stays s size (record { writer = v; to = 255; bytes = encode f }) (encode_short f) new
  entry_stays v s size (ForOne to f) new = sent_stays s size (record { writer = v; to = to; bytes = encode f }) (encode_short f) new
  entry_stays v s size (Timer view millis) new = stays_same s size
  entry_stays v s size (Decision view plan) new = stays_same s size

  -- It holds of the frames of all entries that vault v wrote.
  abbrev pub OfAll : ℕ → List Entry → Type 0
  OfAll v [] = Unit {0}
  OfAll v (e ∷ es) = OfEntry v e × OfAll v es

  -- All the entries that vault v wrote.
  pub entries_stay : (v : ℕ) (s : List ℕ) → length s ≡ stage_size → (es : List Entry) → OfAll v es → Stays P s (entries_done v s es).stage
  unfolding entries_done
  entries_stay v s size [] all = stays_same s size
  entries_stay v s size (e ∷ es) (this, rest) =
      let now = entry_stays v s size e this in stays_then now (entries_stay v (entry_done v s e).stage now.size es rest)
