-- In a run whose starts bring 64-bit plans every record is sound, its numbers have their widths, and every entry written has bytes.
-- By induction over the list: each call is accepted on a blank or a sound record (`call_proper`), or changes nothing; and a record that comes back
-- with its own row alone is as sound as it was (`alone_proper`).
-- Assumes nothing.
use Prim.Native.Nat.{ℕ, ◌^◌, ◌<◌}
use mathlib.Core.Path.{◌≡◌, refl, sym, ◌∙◌, ap, subst}
use mathlib.Core.Logic.{inl, inr}
use mathlib.Core.List.{List, [], ◌∷◌, ◌++◌}
use mathlib.Core.Option.{Option, none, some}
use Rattle.rules.specs.Sets.{Vaults}
use Rattle.rules.proofs.Reports.{none≢some}
use Rattle.frame.specs.Refusal.{Accepted, Refused}
use Rattle.entry.specs.declared.Entry.{Entry}
use Rattle.entry.specs.Valid.{AllValid}
use Rattle.protocol.specs.Record.{Record}
use Rattle.protocol.specs.Tables.{put}
use Rattle.protocol.specs.Pass.{Out}
use Rattle.protocol.specs.Calls.{Call, start, frame, timer, short, accepted, answer}
use Rattle.protocol.specs.Fed.{Readable, Fed}
use Rattle.protocol.specs.inside.Sound.{Ranged, Proper}
use Rattle.protocol.specs.Sound.{Sound}
use Rattle.protocol.specs.inside.Runs.{ContentsSetting, Event, made, lost, back, ContentsItem, record_at, stored_at, written, Fair, Comes, ContentsRun}
use Rattle.protocol.specs.inside.Runs.{nothing_yet, and_then}
use Rattle.protocol.proofs.Items.{item, record_accepted, stored_accepted, past_accepted, Still, Again, Happens, went, stays, happens, put_each}
use Rattle.protocol.proofs.Demand.{Inv, invariant}
use Rattle.protocol.proofs.OwnRow.{alone_proper}
use Rattle.protocol.proofs.Past.{Past}
use Rattle.protocol.proofs.Good.{any_seed}
use Rattle.protocol.proofs.Proper.{all_join, call_proper}

-- 'A plan is any 64-bit number', of every start in the list.
abbrev pub Brings : Call → Type 0
Brings (start s p) = p < 2 ^ 64
Brings (frame x) = Unit {0}
Brings (timer v) = Unit {0}
Brings short = Unit {0}

-- Of every item: only a call made brings one.
abbrev pub Carries : Event → Type 0
Carries (made a) = Brings a
Carries lost = Unit {0}
Carries (back r) = Unit {0}

-- All starts of the list bring 64-bit plans.
abbrev pub Wide : List ContentsItem → Type 0
Wide [] = Unit {0}
Wide (x ∷ l) = Carries x.event × Wide l

-- What holds all along a run: records, those whose remnants are stored too, are sound with numbers of their widths, and entries have bytes.
pub record Lasting (l : List ContentsItem) : Type 0 where
  pub records : (i : ℕ) (r : Record) → record_at l i ≡ some r → Sound r × Ranged r
  pub stores : (i : ℕ) (r : Record) → stored_at l i ≡ some r → Sound r × Ranged r
  pub entries : (i : ℕ) → AllValid (written l i)

module _ (c : ContentsSetting) where
  -- What a call of the run brings, to the record that it meets.
  pub feeds : {l : List ContentsItem} → Inv c (λ p. Unit {0}) l → (i : ℕ) (a : Call) → Brings a → Fair c l i a → Fed (record_at l i) a
  feeds {l} v i a brings fair = go a (record_at l i) refl brings fair
    where
      go : (a : Call) (b : Option Record) → record_at l i ≡ b → Brings a → Fair c l i a → Fed b a
      go (start s p) b e brings fair = brings
      go (frame x) none e brings fair = tt
      go (frame (Refused k)) (some r) e brings fair = tt
      go (frame (Accepted x)) (some r) e brings fair =
          let (id, third, g) = v.good i r e in
          subst (λ (n : ℕ). Readable n r.set.id x) (sym (ap (λ (vs : Vaults). vs.n) g.vaults))
          (subst (λ (j : ℕ). Readable c.vaults.n j x) (sym id) fair.0)
      go (timer w) b e brings fair = tt
      go short b e brings fair = tt

  -- All this holds before any call.
  lasts_none : Lasting []
  unfolding record_at stored_at written
  lasts_none = record { records = λ i r e. absurd (none≢some e); stores = λ i r e. absurd (none≢some e); entries = λ i. tt }

  module _ {l : List ContentsItem} (v : Lasting l) (i : ℕ) where
    -- A record that is there again is sound.
    again_proper : (r : Record) → Again l i r → Sound r × Ranged r
    again_proper r (inl old) = v.records i r old
    again_proper r (inr (s, is, same)) = subst (λ (z : Record). Sound z × Ranged z) same (alone_proper s (v.stores i s is))

    -- It stays so where nothing new is written.
    lasts_still : {x : Event} (b : Option Record) → Still l i x b → ((r : Record) → b ≡ some r → Again l i r) → Lasting (item l i x ∷ l)
    lasts_still b s again = record {
      records = λ j r e. put_each (λ j b. (r : Record) → b ≡ some r → Sound r × Ranged r) i b (record_at l) (λ r e. again_proper r (again r e))
          (λ j other. v.records j) j r (ap (λ (t : ℕ → Option Record). t j) (sym s.records) ∙ e);
      stores = λ j r e. v.stores j r (ap (λ (t : ℕ → Option Record). t j) (sym s.stores) ∙ e);
      entries = λ j. subst (λ (t : ℕ → List Entry). AllValid (t j)) (sym s.entries) (v.entries j);
    }

    -- It stays so after an accepted call that leaves what is proper.
    lasts_accepted : (a : Call) (o : Out) → answer (record_at l i) a ≡ accepted o → Proper o → Lasting (item l i (made a) ∷ l)
    lasts_accepted a o is proper = record {
      records = λ j r e. proper_at (record_at l) v.records j r (ap (λ (t : ℕ → Option Record). t j) (sym (record_accepted l i a o is)) ∙ e);
      stores = λ j r e. proper_at (stored_at l) v.stores j r (ap (λ (t : ℕ → Option Record). t j) (sym (stored_accepted l i a o is)) ∙ e);
      entries = λ j. subst (λ (h : Past). AllValid (h.wrote j)) (sym (past_accepted l i a o is)) (entries_at j);
    }
      where
        left : (r : Record) → some o.left ≡ some r → Sound r × Ranged r
        left r e = let its : o.left ≡ r = cc in rw (← its) (proper.sound, proper.ranged)

        proper_at : (t : ℕ → Option Record) → ((j : ℕ) (r : Record) → t j ≡ some r → Sound r × Ranged r) → (j : ℕ) (r : Record)
            → put i (some o.left) t j ≡ some r → Sound r × Ranged r
        proper_at t old = put_each (λ j b. (r : Record) → b ≡ some r → Sound r × Ranged r) i (some o.left) t left (λ j other. old j)

        entries_at : (j : ℕ) → AllValid (put i (written l i ++ o.wrote) (written l) j)
        entries_at = put_each (λ j. AllValid) i (written l i ++ o.wrote) (written l) (all_join (written l i) o.wrote (v.entries i) proper.valid)
            (λ j other. v.entries j)

  -- Refusal 3 never meets a record of a run, and every output of a run reads as its entries.
  pub run_lasts : {l : List ContentsItem} → ContentsRun c l → Wide l → Lasting l
  run_lasts nothing_yet wide = lasts_none
  run_lasts (and_then {l = l} {x = x} run keeps comes) (brings, wide) =
      go (run_lasts run wide) (invariant c (λ p. Unit {0}) (any_seed c) run (λ p s. tt)) x.event comes brings (happens l x.at c x.event comes)
    where
      i : ℕ
      i = x.at

      go : Lasting l → Inv c (λ p. Unit {0}) l → (y : Event) → Comes c l i y → Carries y → Happens l i y → Lasting (item l i y ∷ l)
      go v inv y comes brings (stays b s again) = lasts_still v i b s again
      go v inv y comes brings (went a o is) =
          lasts_accepted v i a o is (call_proper (record_at l i) a (λ r e. v.records i r e) (feeds inv i a brings comes) o is)
