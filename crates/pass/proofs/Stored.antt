-- Only what an act changed is put back (document 01, 'One pass'): a view-change and a decision change one slot each, a vote the own slot of its
-- kind and that of the previous vote. So a record with these slots of the own part put in is the one that the own part makes.
-- Assumes nothing.
use Prim.Native.Nat.{ℕ, suc, ◌+◌, ◌≤◌, ◌<◌}
use mathlib.Core.Path.{◌≡◌, refl, sym, ◌∙◌, ap, subst}
use mathlib.Core.Logic.{◌⊎◌, inl, inr}
use mathlib.Core.Bool.{Bool, true, false, cond, not, ◌&&◌}
use mathlib.Core.List.{List}
use mathlib.Core.Option.{some}
use native.Mathlib.Omega.{arith}
use native.Mathlib.Decide.{ℕ_discrete}
use lib.Dec.{eqb}
use lib.ListN.{length, get_or}
use Rattle.rules.proofs.Bools.{which}
use Rattle.frame.specs.Format.{within}
use Rattle.frame.specs.Refusal.{present}
use Rattle.frame.specs.declared.Report.{Report}
use Rattle.frame.proofs.Laws.{bounds}
use Rattle.settings.specs.declared.Settings.{Settings}
use Rattle.record.specs.Slots.{Record, rows, frame_slot, previous_slot, decision_slot, slot_of}
use Rattle.record.specs.inside.Slots.{with_slot}
use Rattle.record.specs.Kept.{head_slot}
use Rattle.record.specs.inside.Kept.{keep_frame}
use Rattle.record.specs.inside.Keeping.{moves, own_slot, shifted_slots, own_broadcast}
use Rattle.record.specs.Layout.{decode_record}
use Rattle.record.specs.inside.Layout.{HoldsRecord}
use Rattle.record.proofs.Put.{held_as}
use Rattle.record.proofs.Slots.{slot_same, slot_other}
use Rattle.own.specs.Size.{remnant_size}
use Rattle.own.specs.Part as part
use Rattle.own.specs.Part.{remnant_slots, over}
use Rattle.own.specs.inside.Own.{own_in, heard_in, Fitting}
use Rattle.own.proofs.Slots.{own_head, own_last}
use Rattle.own.proofs.Changes.{slot_over}
use Rattle.protocol.specs.Record as protocol
use Rattle.protocol.specs.Record.{vote_frame, change_frame}
use Rattle.protocol.specs.Pass.{Act, ask, cast, decide, Out, taken}
use Rattle.contents.specs.Contents.{contents, contents_in, slotted}
use Rattle.contents.specs.Lent.{Clean}
use Rattle.contents.specs.inside.Ready.{Ready}
use Rattle.contents.proofs.Slotted.{slotted_contents}
use Rattle.contents.proofs.Ready.{ready_row}
use Rattle.contents.proofs.Acts.{contents_ask, clean_ask, contents_cast, clean_cast, contents_decided}
use Rattle.contents.proofs.Parts.{clean_decide, decided}
use Rattle.steps.specs.declared.Entries.{Entries}
use Rattle.steps.specs.inside.Own.{Did}
use Rattle.steps.proofs.Steps.{taken_set, taken_start}
use Rattle.pass.specs.inside.Stored.{SameBut, AtPrevious, AtVote, PartBut}

-- ---- slots put in

-- Records that differ in two slots at most are one, once these are put in: the second may be the first again.
module _ (r t : Record) (a b : ℕ) {d : ℕ → Type 0} (h : SameBut d r t) (only : (i : ℕ) → d i → (i ≡ a) ⊎ (i ≡ b)) where
  -- Both put in.
  abbrev both : Record
  both = with_slot (with_slot r a (slot_of t a)) b (slot_of t b)

  pub same_both : both ≡ t
  same_both = λ k. record { set = sym h.set k; view = sym h.view k; plan = sym h.plan k; slots = λ i. go i (ℕ_discrete i b) (ℕ_discrete i a) k }
    where
      one : Record
      one = with_slot r a (slot_of t a)

      go : (i : ℕ) → Dec (i ≡ b) → Dec (i ≡ a) → slot_of both i ≡ slot_of t i
      go i (yes e) x = subst (λ (j : ℕ). slot_of both j ≡ slot_of t j) (sym e) (slot_same one b (slot_of t b))
      go i (no other) (yes e) =
          slot_other one b (slot_of t b) i other ∙ subst (λ (j : ℕ). slot_of one j ≡ slot_of t j) (sym e) (slot_same r a (slot_of t a))
      go i (no other) (no neither) =
          slot_other one b (slot_of t b) i other ∙ slot_other r a (slot_of t a) i neither ∙ sym (h.slots i (λ x. none (only i x)))
        where
          none : (i ≡ a) ⊎ (i ≡ b) → ⊥
          none (inl e) = neither e
          none (inr e) = other e

-- The same of one slot.
module _ (r t : Record) (a : ℕ) {d : ℕ → Type 0} (h : SameBut d r t) (only : (i : ℕ) → d i → i ≡ a) where
  pub same_one : with_slot r a (slot_of t a) ≡ t
  same_one = λ k. record { set = sym h.set k; view = sym h.view k; plan = sym h.plan k; slots = λ i. go i (ℕ_discrete i a) k }
    where
      go : (i : ℕ) → Dec (i ≡ a) → slot_of (with_slot r a (slot_of t a)) i ≡ slot_of t i
      go i (yes e) = subst (λ (j : ℕ). slot_of (with_slot r a (slot_of t a)) j ≡ slot_of t j) (sym e) (slot_same r a (slot_of t a))
      go i (no other) = slot_other r a (slot_of t a) i other ∙ sym (h.slots i (λ x. other (only i x)))

-- ---- of an own part

module _ (rec : List ℕ) (id : ℕ) (s : List ℕ) (long : length s ≡ remnant_size) {d : ℕ → Type 0} (p : PartBut d rec id s) where
  -- The record that it makes.
  abbrev target : Record
  target = over (heard_in rec) s

  -- The own number is that of the part.
  named : id ≡ get_or s 2 0
  named = p.fits.own ∙ sym (ap (λ (x : Settings). x.id) p.fits.set)

  -- What its slot t holds is what the target holds at its place.
  held : (t : ℕ) → t < remnant_slots → own_in s t ≡ slot_of target (part.own_slot id t)
  held t low =
      sym (slot_over s long (subst (λ (i : ℕ). i < rows) named p.fits.row) (heard_in rec) t low)
      ∙ ap (λ (i : ℕ). slot_of target (part.own_slot i t)) (sym named)

  -- Where they differ in one slot, that is put back.
  pub stored_one : {left : List ℕ} (t : ℕ) → t < remnant_slots → ((i : ℕ) → d i → i ≡ part.own_slot id t)
      → HoldsRecord left (with_slot (decode_record rec) (part.own_slot id t) (own_in s t)) → HoldsRecord left target
  stored_one t low only put =
      let e = held t low in
      held_as put ((λ i. with_slot (decode_record rec) (part.own_slot id t) (e i)) ∙ same_one (decode_record rec) target (part.own_slot id t) p.same only)

  -- Where they differ in two, one after the other.
  pub stored_two : {first left : List ℕ} (t u : ℕ) → t < remnant_slots → u < remnant_slots → ((i : ℕ) → d i → (i ≡ part.own_slot id t) ⊎ (i ≡ part.own_slot id u))
      → HoldsRecord first (with_slot (decode_record rec) (part.own_slot id t) (own_in s t))
      → HoldsRecord left (with_slot (decode_record first) (part.own_slot id u) (own_in s u)) → HoldsRecord left target
  stored_two t u low high only one two =
      let e = held t low in
      let f = held u high in
      let was = one.is in
      held_as two ((λ i. with_slot (was i) (part.own_slot id u) (f i))
      ∙ (λ i. with_slot (with_slot (decode_record rec) (part.own_slot id t) (e i)) (part.own_slot id u) (slot_of target (part.own_slot id u)))
      ∙ same_both (decode_record rec) target (part.own_slot id t) (part.own_slot id u) p.same only)

-- A vote's slot, and that of the previous vote, as the code puts them back.
module _ (rec : List ℕ) (id k : ℕ) (s : List ℕ) (long : length s ≡ remnant_size) (p : PartBut (AtVote id k) rec id s) (low : k ≤ 4) where
  -- The vote's own slot.
  vote_at : part.own_slot id k ≡ frame_slot (k + 1) id
  vote_at = own_head id k (omega arith) ∙ omega arith

  -- A vote without a previous one.
  pub vote_stored : {left : List ℕ} → ¬ ((1 ≤ k) × (k ≤ 2)) → HoldsRecord left (with_slot (decode_record rec) (part.own_slot id k) (own_in s k))
      → HoldsRecord left (over (heard_in rec) s)
  vote_stored none = stored_one rec id s long p k (omega arith) only
    where
      only : (i : ℕ) → AtVote id k i → i ≡ part.own_slot id k
      only i (inl e) = e ∙ sym vote_at
      only i (inr (a, b, e)) = absurd (none (a, b))

  -- A vote with one.
  pub votes_stored : {at : ℕ} {first left : List ℕ} → 1 ≤ k → k ≤ 2 → at ≡ k + 1 + 12 → HoldsRecord first
      (with_slot (decode_record rec) (part.own_slot id k) (own_in s k))
      → HoldsRecord left (with_slot (decode_record first) (part.own_slot id at) (own_in s at)) → HoldsRecord left (over (heard_in rec) s)
  votes_stored {at} one two ea = stored_two rec id s long p k at (omega arith) (omega arith) only
    where
      previous_at : part.own_slot id at ≡ previous_slot (k + 1)
      previous_at = own_last id at (omega (arith, ea, one)) ∙ omega (arith, ea, one)

      only : (i : ℕ) → AtVote id k i → (i ≡ part.own_slot id k) ⊎ (i ≡ part.own_slot id at)
      only i (inl e) = inl (e ∙ sym vote_at)
      only i (inr (a, b, e)) = inr (e ∙ sym previous_at)

-- ---- what acts change

module _ (r : Record) (k p : ℕ) where
  -- To shift changes only the slot of the previous vote.
  shift_changes : SameBut (AtPrevious k) r (shifted_slots r (suc k) p)
  unfolding shifted_slots moves
  shift_changes = go (which (within 2 3 (suc k)))
    where
      own : Report
      own = own_slot r (suc k)

      moved : Bool → Record
      moved b = cond b (with_slot r (previous_slot (suc k)) own) r

      there : (2 ≤ suc k) → (suc k ≤ 3) → (b : Bool) → SameBut (AtPrevious k) r (moved b)
      there low high true = record {
        set = refl;
        view = refl;
        plan = refl;
        slots = λ i ne. slot_other r (previous_slot (suc k)) own i (λ (e : i ≡ previous_slot (suc k)). ne (omega arith, omega arith, omega arith));
      }
      there low high false = record { set = refl; view = refl; plan = refl; slots = λ i ne. refl }

      go : (within 2 3 (suc k) ≡ true) ⊎ (within 2 3 (suc k) ≡ false)
          → SameBut (AtPrevious k) r (moved (within 2 3 (suc k) && (present own && not (eqb own.plan p))))
      go (inl e) = let (low, high) = bounds 2 3 (suc k) e in there low high (within 2 3 (suc k) && (present own && not (eqb own.plan p)))
      go (inr e) = subst (λ (b : Bool). SameBut (AtPrevious k) r (moved (b && (present own && not (eqb own.plan p))))) (sym e)
          (record { set = refl; view = refl; plan = refl; slots = λ i ne. refl })

  -- To vote changes only that, and the own slot of the vote's kind.
  vote_changes : SameBut (AtVote r.set.id k) r (own_broadcast r (vote_frame (contents r) k p))
  unfolding own_broadcast keep_frame contents
  vote_changes =
      let was = shift_changes in
      record {
        set = was.set;
        view = was.view;
        plan = was.plan;
        slots = λ i ne.
            slot_other (shifted_slots r (suc k) p) (frame_slot (suc k) r.set.id) (head_slot (vote_frame (contents r) k p)) i
            (λ (e : i ≡ frame_slot (suc k) r.set.id). ne (inl (omega arith)))
            ∙ was.slots i (λ x. ne (inr x));
      }

-- ---- what an act left

-- What an act leaves has the settings and the starting plan of the record, so its own part fits.
pub fits_left : (rec : List ℕ) (id : ℕ) (t : List ℕ) {o : Out} {e : Entries} → Ready rec → id ≡ (decode_record rec).set.id
    → Did o (over (heard_in rec) t) e → o.left.set ≡ (contents_in rec).set → o.left.start ≡ (contents_in rec).start → Fitting rec id t
unfolding over contents
fits_left rec id t h own did set start = record {
  size = h.size;
  own = own;
  row = subst (λ (i : ℕ). i < rows) (sym own) (ready_row h);
  set = ap (λ (x : protocol.Record). x.set) did.left ∙ set;
  plan = ap (λ (x : protocol.Record). x.start) did.left ∙ start;
}

-- Two records with the same contents, both clean, are one.
same_clean : (r t : Record) → Clean r → Clean t → contents r ≡ contents t → r ≡ t
same_clean r t a b e = sym (slotted_contents r a) ∙ ap slotted e ∙ slotted_contents t b

module _ (rec : List ℕ) (h : Ready rec) (id : ℕ) (own : id ≡ (decode_record rec).set.id) (t : List ℕ) where
  -- The record before the act.
  abbrev r : Record
  r = decode_record rec

  -- An act that leaves a record with some slots changed leaves an own part that says all but these.
  part_left : (a : Act) (left : Record) {d : ℕ → Type 0} {e : Entries} → Clean left → contents left ≡ (taken (contents_in rec) (some a)).left → SameBut d r left
      → Did (taken (contents_in rec) (some a)) (over (heard_in rec) t) e → PartBut d rec id t
  part_left a left {d} clean is but did = record {
    fits = fits_left rec id t h own did (taken_set (contents_in rec) (some a)) (taken_start (contents_in rec) (some a));
    same = subst (SameBut d r) (same_clean left (over (heard_in rec) t) clean did.clean (is ∙ sym did.left)) but;
  }

  -- To ask for a view changes the own view-change.
  pub ask_left : (w : ℕ) {e : Entries} → Did (taken (contents_in rec) (some (ask w))) (over (heard_in rec) t) e → PartBut (λ i. i ≡ part.own_slot id 5) rec id t
  unfolding keep_frame contents
  ask_left w =
      part_left (ask w) (keep_frame r r.set.id (change_frame (contents r) w)) (clean_ask r w (ready_row h) h.clean) (contents_ask r w (ready_row h)) (record {
        set = refl;
        view = refl;
        plan = refl;
        slots = λ i ne. slot_other r (frame_slot 6 r.set.id) (head_slot (change_frame (contents r) w)) i
            (λ (is : i ≡ frame_slot 6 r.set.id). ne (is ∙ sym (ap (λ (j : ℕ). part.own_slot j 5) own ∙ own_head r.set.id 5 (omega arith))));
      })

  -- To vote, the own vote and the previous one.
  pub cast_left : (k p : ℕ) {e : Entries} → k ≤ 4 → Did (taken (contents_in rec) (some (cast k p))) (over (heard_in rec) t) e → PartBut (AtVote id k) rec id t
  cast_left k p low =
      part_left (cast k p) (own_broadcast r (vote_frame (contents r) k p)) (clean_cast r k p low (ready_row h) h.clean) (contents_cast r k p low (ready_row h))
      (subst (λ (j : ℕ). SameBut (AtVote j k) r (own_broadcast r (vote_frame (contents r) k p))) (sym own) (vote_changes r k p))

  -- To decide, the decision.
  pub decide_left : (p : ℕ) {e : Entries} → Did (taken (contents_in rec) (some (decide p))) (over (heard_in rec) t) e → PartBut
      (λ i. i ≡ part.own_slot id 16) rec id t
  decide_left p =
      part_left (decide p) (decided r r.view p) (clean_decide r r.view p h.clean) (contents_decided r p) (record {
        set = refl;
        view = refl;
        plan = refl;
        slots = λ i ne. slot_other r decision_slot (record { mark = 1; view = r.view; plan = p }) i
            (λ (is : i ≡ decision_slot). ne (is ∙ sym (own_last id 16 (omega arith))));
      })
