-- 'the rehearsal can show no two plans decided by the others'. A script's accepted calls at the vaults that its end has not declared are a run of
-- demand 3: each is the vault's own step at the record that the last one left (`Staged`, by induction over the lines). A frame that waits for
-- them was written by its writer's calls, or its writer is the liar, whose frames are any bytes. A suggest is accepted only by the vault that
-- leads its view, which is the one that it is for. Refused calls, and those at the liar, are no items.
-- Assumes nothing.
use Prim.Native.Nat.{ℕ, zero, suc, ◌-◌, ◌≤◌}
use mathlib.Core.Path.{◌≡◌, refl, sym, ap, subst, ◌∙◌}
use mathlib.Core.Logic.{◌⊎◌, inl, inr, ⊎_elim}
use mathlib.Core.Bool.{Bool, true, false, not, cond}
use mathlib.Core.List.Memᴰ
use mathlib.Core.List.{List, [], ◌∷◌, ◌++◌}
use native.Mathlib.Omega.{arith}
use lib.Dec.{eqb}
use borrow.Author.Tests.{eqb-true, eqb-false, eq-eqb, ne_eqb}
use lib.ListN.{length-replicate}
use Rattle.rules.specs.Sets.{equals, weigh, size, total}
use Rattle.rules.proofs.Bools.{which, clash}
use Rattle.frame.specs.declared.Frame.{Frame}
use Rattle.frame.specs.Format.{encode}
use Rattle.frame.specs.Valid.{Valid}
use Rattle.frame.specs.Refusal.{leader_of}
use Rattle.entry.specs.declared.Entry.{Entry}
use Rattle.entry.specs.declared.Entry.TheVariants.{ForAll, ForOne, Timer, Decision}
use Rattle.entry.specs.Valid.{AllValid}
use Rattle.record.specs.Layout.{decode_record}
use Rattle.record.specs.Size.{record_size}
use Rattle.protocol.specs.Pass.{Out}
use Rattle.protocol.specs.Tables.{put, ◌∈◌}
use Rattle.protocol.proofs.Tables.{put_same, put_other}
use Rattle.protocol.proofs.ReadsBack.{AllRight}
use Rattle.contents.specs.Left.{Left, gave}
use Rattle.own.specs.Part.{remnant_of}
use Rattle.runs.specs.Runs.{ByteCall, frame, made, Item, record_in, entries_in, entries_after, IsBlank, Setting, record_at, written, Sent, Fair}
use Rattle.runs.specs.Runs.{Run, nothing_yet, and_then}
use Rattle.runs.specs.Fixed.{leaves}
use Rattle.runs.specs.Five.{Fixed}
use Rattle.runs.specs.Uncut.{Uncut}
use Rattle.runs.proofs.Demand.{demand3_fixed}
use Rattle.runs.proofs.Spelled.{sound_stores}
use Rattle.runs.proofs.Uncut.{start_blank, uncut_by}
use Rattle.answers.specs.Lines.{zeroed, blank_record}
use Rattle.lines.specs.Lines.{after}
use Rattle.stage.proofs.Apart.{liar_record, liar_waiting}
use Rattle.stage.specs.Stage.{is_liar, empty_stage, record_of, liar_in, Waiting}
use Rattle.stage.specs.Lines.{Meant, refuse, call, free, declare, make_up, line_meant, done, rehearsal}
use Rattle.rehearsed.specs.Agrees.{wrote_at, written_at, Undeclared, RehearsalAgrees}
use Rattle.rehearsed.proofs.Means.{CallWell, by_start, by_frame, by_timer, MeantWell, meant_well}
use Rattle.rehearsed.proofs.Sent.{Waits, OfAll, sent_stays}
use Rattle.rehearsed.proofs.Calls.{Accepts, comes}
use Rattle.rehearsed.proofs.Staged.{refused_turns, accepted_turns, Good, blank_at, call_fits, freed_stays, goes_onward, good_empty, liar_lasts, nothing_waits}

-- ---- the run

-- Three of four vaults weigh enough, whoever the liar is; so do all four.
most_keep : (liar : ℕ) → total (equals 4 1) - 1 ≤ size (equals 4 1) (λ i. not (eqb liar (suc i)))
unfolding weigh
most_keep zero = omega arith
most_keep (suc zero) = omega arith
most_keep (suc (suc zero)) = omega arith
most_keep (suc (suc (suc zero))) = omega arith
most_keep (suc (suc (suc (suc zero)))) = omega arith
most_keep (suc (suc (suc (suc (suc liar))))) =
    let other : (k : ℕ) → k ≤ 4 → eqb (suc (suc (suc (suc (suc liar))))) k ≡ false =
    λ k low. ne_eqb (suc (suc (suc (suc (suc liar))))) k (λ (e : suc (suc (suc (suc (suc liar)))) ≡ k). absurd (omega arith)) in
    rw (other 1 (omega arith), other 2 (omega arith), other 3 (omega arith), other 4 (omega arith)) (omega arith)

-- n = 4, f = 1; all but the liar keep the rules; all records are blank at first.
setting : ℕ → Setting
setting liar = record {
  vaults = equals 4 1;
  keeps = λ i. not (eqb liar (suc i));
  most = most_keep liar;
  first = λ i. blank_record;
  blank = λ i keeps. (length-replicate {A = ℕ} record_size 0, refl);
}

-- More items write more.
written_more : (l : List Item) (x : Item) (i : ℕ) (e : Entry) → e ∈ written l i → e ∈ written (x ∷ l) i
unfolding written
written_more l x i e at = ⊎_elim
    (λ same. subst (λ (j : ℕ). e ∈ put x.at (written l x.at ++ entries_after x.event) (written l) j) (eqb-true x.at i same)
    (subst (λ (es : List Entry). e ∈ es) (sym (put_same x.at (written l x.at ++ entries_after x.event) (written l)))
    (Memᴰ.append_left (entries_after x.event) (subst (λ (j : ℕ). e ∈ written l j) (sym (eqb-true x.at i same)) at))))
    (λ other. subst (λ (es : List Entry). e ∈ es)
    (sym (put_other x.at (written l x.at ++ entries_after x.event) (written l) i (eqb-false x.at i other))) at)
    (which (eqb x.at i))

-- The newest item writes its entries.
written_now : (l : List Item) (x : Item) (e : Entry) → e ∈ entries_after x.event → e ∈ written (x ∷ l) x.at
unfolding written
written_now l x e at =
    subst (λ (es : List Entry). e ∈ es) (sym (put_same x.at (written l x.at ++ entries_after x.event) (written l)))
    (Memᴰ.append_right (written l x.at) at)

module _ (liar : ℕ) where
  c : Setting
  c = setting liar

  -- A frame that its writer's calls wrote, for all or, a suggest, for its view's leader.
  record Wrote (l : List Item) (v to : ℕ) (bytes : List ℕ) : Type 0 where
    frame : Frame
    valid : Valid frame
    is : bytes ≡ encode frame
    there : (ForAll frame ∈ written l v) ⊎ ((ForOne to frame ∈ written l v) × ((frame.kind ≡ 7) × (leader_of frame.view 4 ≡ to)))

  -- So are those that wait of vaults that keep the rules.
  abbrev Told : List Item → Waiting → Type 0
  Told l w = c.keeps w.writer ≡ true → Wrote l w.writer w.to w.bytes

  -- What was written stays written.
  told_more : (l : List Item) (x : Item) (w : Waiting) → Told l w → Told (x ∷ l) w
  told_more l x w told keeps =
      let t = told keeps in
      record {
        frame = t.frame;
        valid = t.valid;
        is = t.is;
        there = ⊎_elim (λ at. inl (written_more l x w.writer (ForAll t.frame) at))
            (λ (at, led). inr (written_more l x w.writer (ForOne w.to t.frame) at, led)) t.there;
      }

  -- The frames of entries that a vault wrote, where it keeps the rules.
  entries_told : (l : List Item) (v : ℕ) (es : List Entry) → AllValid es → AllRight 4 v es
      → (c.keeps v ≡ true → (e : Entry) → e ∈ es → e ∈ written l v) → OfAll (Told l) v es
  entries_told l v [] valid right there = tt
  entries_told l v (ForAll f ∷ es) (ok, valid) (goes, right) there = (
    λ keeps. record { frame = f; valid = ok; is = refl; there = inl (there keeps (ForAll f) (Memᴰ.head refl)) },
    entries_told l v es valid right (λ keeps e at. there keeps e (Memᴰ.tail at)),
  )
  entries_told l v (ForOne to f ∷ es) (ok, valid) ((goes, led), right) there = (
    λ keeps. record { frame = f; valid = ok.1; is = refl; there = inr (there keeps (ForOne to f) (Memᴰ.head refl), led) },
    entries_told l v es valid right (λ keeps e at. there keeps e (Memᴰ.tail at)),
  )
  entries_told l v (Timer view millis ∷ es) (ok, valid) (goes, right) there =
      (tt, entries_told l v es valid right (λ keeps e at. there keeps e (Memᴰ.tail at)))
  entries_told l v (Decision view plan ∷ es) (ok, valid) (goes, right) there =
      (tt, entries_told l v es valid right (λ keeps e at. there keeps e (Memᴰ.tail at)))

  -- The run so far: it left the records of the vaults that keep the rules, and their frames that wait.
  record Tied (s : List ℕ) (l : List Item) : Type 0 where
    run : Run c Fixed l
    uncut : Uncut l
    same : (v : ℕ) → v ≤ 3 → c.keeps v ≡ true → record_at c l v ≡ record_of s v
    told : Waits (Told l) s

  -- A line's items, what they wrote, and what was written before.
  record Next (s : List ℕ) (l : List Item) (m : Meant) : Type 0 where
    items : List Item
    tied : Tied (done s m).stage items
    old : (i : ℕ) (e : Entry) → e ∈ written l i → e ∈ written items i
    new : (i : ℕ) → c.keeps i ≡ true → (e : Entry) → e ∈ wrote_at s m i → e ∈ written items i

  -- ---- a line without an item

  -- Where records and what waits stay, and nothing is written at those who keep the rules, the run is the same.
  idle : (s : List ℕ) (l : List Item) (m : Meant) → Tied s l
      → ((v : ℕ) → v ≤ 3 → c.keeps v ≡ true → record_of (done s m).stage v ≡ record_of s v) → (Waits (Told l) s → Waits (Told l) (done s m).stage)
      → ((i : ℕ) → c.keeps i ≡ true → wrote_at s m i ≡ []) → Next s l m
  idle s l m t records waits silent = record {
    items = l;
    tied = record { run = t.run; uncut = t.uncut; same = λ v low keeps. t.same v low keeps ∙ sym (records v low keeps); told = waits t.told };
    old = λ i e at. at;
    new = λ i keeps e at. elim (subst (λ (es : List Entry). e ∈ es) (silent i keeps) at) [ ];
  }

  -- A refused call is no item.
  refused_next : (s : List ℕ) (l : List Item) → Good s → Tied s l → (v : ℕ) → v ≤ 3 → (a : ByteCall) (k : ℕ)
      → leaves (record_of s v) a zeroed ≡ gave k (record_of s v) zeroed → Next s l (call v a)
  refused_next s l g t v low a k is =
      let u = refused_turns (Told l) s g.size v low a k is in
      idle s l (call v a) t
      (λ w few keeps. ⊎_elim
      (λ same. subst (λ (i : ℕ). record_of (done s (call v a)).stage i ≡ record_of s i) (eqb-true v w same) u.this)
      (λ other. u.others w few (eqb-false v w other)) (which (eqb v w)))
      u.waits (λ i keeps. nothing i (eqb v i))
    where
      nothing : (i : ℕ) (b : Bool) → cond b (entries_in (leaves (record_of s v) a zeroed)) [] ≡ []
      nothing i true = ap entries_in is
      nothing i false = refl

  -- A call at the liar is no item either, and its frames may be any.
  liar_next : (s : List ℕ) (l : List Item) → Good s → Tied s l → (v : ℕ) → v ≤ 3 → (a : ByteCall) (o : Out)
      → Accepts v (record_of s v) a o → c.keeps v ≡ false → Next s l (call v a)
  liar_next s l g t v low a o acc lies =
      let u = accepted_turns (Told l) s g.size v low a acc
      (entries_told l v o.wrote acc.valid acc.right (λ keeps. absurd (clash keeps lies))) in
      idle s l (call v a) t
      (λ w few keeps. u.others w few (λ (e : v ≡ w). clash keeps (ap c.keeps (sym e) ∙ lies))) u.waits
      (λ i keeps. nothing i keeps (eqb v i) refl)
    where
      nothing : (i : ℕ) → c.keeps i ≡ true → (b : Bool) → eqb v i ≡ b → cond b (entries_in (leaves (record_of s v) a zeroed)) [] ≡ []
      nothing i keeps true same = absurd (clash keeps (ap c.keeps (sym (eqb-true v i same)) ∙ lies))
      nothing i keeps false same = refl

  -- ---- an item

  -- What a call at vault v leaves.
  abbrev left_by : List ℕ → ℕ → ByteCall → Left
  left_by s v a = leaves (record_of s v) a zeroed

  -- The item of a call at vault v: made, and its remnant is stored.
  abbrev item_of : List ℕ → ℕ → ByteCall → Item
  item_of s v a = record { at = v; event = made a zeroed (left_by s v a) (remnant_of (decode_record (record_in (left_by s v a)))) }

  -- An accepted call of a line is one that a run may have.
  fair : (s : List ℕ) (l : List Item) → Tied s l → (v : ℕ) → v ≤ 3 → c.keeps v ≡ true → (a : ByteCall) → CallWell s v a → (o : Out)
      → Accepts v (record_of s v) a o
      → Fair c l v a (leaves (record_of s v) a zeroed)
  unfolding c setting
  fair s l t v few rules a (by_start class plan low) o acc = λ went. (
    refl,
    refl,
    uncut_by (λ rec a out left e. e) c l t.run t.uncut v
        (subst IsBlank (sym (t.same v few rules)) (start_blank (record_of s v) (record { n = 4; f = 1; id = v; class = class }) plan zeroed went)),
  )
  fair s l t v few rules a (by_frame k w low is) o acc = λ keeps. sent_by (t.told k low w is keeps)
    where
      sent_by : Wrote l w.writer w.to w.bytes → Sent l v w.writer w.bytes
      sent_by told = (
        told.frame,
        told.is,
        ⊎_elim inl (λ (at, (seven, led)).
            inr (subst (λ (j : ℕ). ForOne j told.frame ∈ written l w.writer)
            (sym led ∙ acc.led w.writer told.frame (ap (frame w.writer) told.is) told.valid seven) at)) told.there,
      )
  fair s l t v few rules a (by_timer view) o acc = tt

  -- An accepted call at a vault that keeps the rules is the run's next item.
  item_next : (s : List ℕ) (l : List Item) → Good s → Tied s l → (v : ℕ) → v ≤ 3 → (a : ByteCall) → CallWell s v a → (o : Out)
      → Accepts v (record_of s v) a o → c.keeps v ≡ true → Next s l (call v a)
  unfolding record_at
  item_next s l g t v low a well o acc keeps =
      let x : Item = item_of s v a in
      let wrote : (e : Entry) → e ∈ o.wrote → e ∈ written (x ∷ l) v = λ e at.
      written_now l x e (subst (λ (es : List Entry). e ∈ es) (sym acc.entries) at) in
      let u = accepted_turns (Told (x ∷ l)) s g.size v low a acc (entries_told (x ∷ l) v o.wrote acc.valid acc.right (λ k. wrote)) in
      record {
        items = x ∷ l;
        tied = record {
          run = and_then {x = x} t.run keeps (
            (call_fits s g.bytes v a well (record_of s v)).0,
            ap (λ (rec : List ℕ). leaves rec a zeroed) (sym (t.same v low keeps)),
            fair s l t v low keeps a well o acc,
            λ went. sound_stores (record_in (left_by s v a)) acc.held.spells.sound,
          );
          uncut = (tt, t.uncut);
          same = λ w few honest. ⊎_elim
              (λ is. subst (λ (i : ℕ). record_at c (x ∷ l) i ≡ record_of (done s (call v a)).stage i) (eqb-true v w is)
              (put_same v (record_in (leaves (record_of s v) a zeroed)) (record_at c l) ∙ sym u.this))
              (λ other. put_other v (record_in (leaves (record_of s v) a zeroed)) (record_at c l) w (eqb-false v w other)
              ∙ t.same w few honest ∙ sym (u.others w few (eqb-false v w other)))
              (which (eqb v w));
          told = u.waits (λ k few w is. told_more l x w (t.told k few w is));
        };
        old = written_more l x;
        new = λ i honest e at. new_at i e (eqb v i) refl at;
      }
    where
      new_at : (i : ℕ) (e : Entry) (b : Bool) → eqb v i ≡ b → e ∈ cond b (entries_in (leaves (record_of s v) a zeroed)) [] → e ∈ written (item_of s v a ∷ l) i
      new_at i e true same at = subst (λ (j : ℕ). e ∈ written (item_of s v a ∷ l) j) (eqb-true v i same) (written_now l (item_of s v a) e at)
      new_at i e false same at = elim at [ ]

  -- ---- every line

  -- A call.
  call_next : (s : List ℕ) (l : List Item) → Good s → Tied s l → (v : ℕ) → v ≤ 3 → (a : ByteCall) → CallWell s v a → Next s l (call v a)
  call_next s l g t v low a well =
      let (wide, starts) = call_fits s g.bytes v a well (record_of s v) in
      ⊎_elim
      (λ (k, is). refused_next s l g t v low a k is)
      (λ (o, acc). ⊎_elim (item_next s l g t v low a well o acc) (liar_next s l g t v low a o acc) (which (c.keeps v)))
      (comes v (record_of s v) a (g.held v low) wide starts)

  -- Every line, where a liar that is declared is the one of the script's end.
  line_next : (s : List ℕ) (l : List Item) → Good s → Tied s l → ((v : ℕ) → liar_in s ≡ suc v → liar ≡ suc v) → (m : Meant) → MeantWell s m → Next s l m
  unfolding done c setting
  line_next s l g t last (refuse number) well = idle s l (refuse number) t (λ v low keeps. refl) (λ w. w) (λ i keeps. refl)
  line_next s l g t last (call v a) (low, well) = call_next s l g t v low a well
  line_next s l g t last (free k) low =
      let u = freed_stays (Told l) s g.size k low in
      idle s l (free k) t (λ v few keeps. u.records v) u.waits (λ i keeps. refl)
  line_next s l g t last (declare v) well =
      idle s l (declare v) t (λ w few keeps. liar_record s g.size v w)
      (λ told k low w is. told k low w (sym (liar_waiting s g.size v k low) ∙ is)) (λ i keeps. refl)
  line_next s l g t last (make_up v bytes) (is, low, few) =
      let lies : not (eqb liar (suc v)) ≡ false = ap not (eq-eqb liar (suc v) (last v is)) in
      let u = sent_stays (Told l) s g.size (record { writer = v; to = 255; bytes = bytes }) few (λ keeps. absurd (clash keeps lies)) in
      idle s l (make_up v bytes) t (λ w low keeps. u.records w) u.waits (λ i keeps. refl)

  -- ---- all lines

  -- A script's run, from a stage on: its items wrote what was written before, and what the lines write.
  record Follows (s : List ℕ) (l : List Item) (texts : List (List ℕ)) : Type 0 where
    items : List Item
    run : Run c Fixed items
    old : (i : ℕ) (e : Entry) → e ∈ written l i → e ∈ written items i
    new : (i : ℕ) → c.keeps i ≡ true → (e : Entry) → e ∈ written_at s texts i → e ∈ written items i

  -- Line by line.
  follows : (texts : List (List ℕ)) (s : List ℕ) (l : List Item) → Good s → Tied s l → liar_in (after rehearsal s texts) ≡ liar → Follows s l texts
  unfolding written_at after rehearsal
  follows [] s l g t ends = record { items = l; run = t.run; old = λ i e at. at; new = λ i keeps e at. elim at [ ] }
  follows (text ∷ texts) s l g t ends =
      let well = meant_well s text in
      let onward = goes_onward s g (line_meant s text) well in
      let next = line_next s l g t (λ v is. sym ends ∙ liar_lasts (text ∷ texts) s g v is) (line_meant s text) well in
      let rest = follows texts (done s (line_meant s text)).stage next.items onward.good next.tied ends in
      record {
        items = rest.items;
        run = rest.run;
        old = λ i e at. rest.old i e (next.old i e at);
        new = λ i keeps e at. ⊎_elim (λ now. rest.old i e (next.new i keeps e now)) (rest.new i keeps e)
            (Memᴰ.append_cases (wrote_at s (line_meant s text) i) at);
      }

-- ---- the claim

-- 'the rehearsal can show no two plans decided by the others'
pub rehearsal_agrees : RehearsalAgrees
unfolding record_at c setting
rehearsal_agrees texts i j p q not_i not_j (v, a) (w, b) =
    (demand3_fixed (setting liar) f.items f.run).agreement i j p q
    (v, f.new i (keeps i not_i) (Decision v p) a) (w, f.new j (keeps j not_j) (Decision w q) b)
  where
    liar : ℕ
    liar = liar_in (after rehearsal empty_stage texts)

    keeps : (k : ℕ) → Undeclared texts k → not (eqb liar (suc k)) ≡ true
    keeps k other = let lies : is_liar (after rehearsal empty_stage texts) k ≡ false = other in ap not lies

    tied : Tied liar empty_stage []
    tied = record { run = nothing_yet; uncut = tt; same = λ v low keeps. sym (blank_at v low); told = nothing_waits (Told liar []) }

    f : Follows liar empty_stage [] texts
    f = follows liar texts empty_stage [] good_empty tied refl
