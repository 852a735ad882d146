-- What the code of an act leaves in bytes and entries is what document 01's act leaves by contents ('One pass').
-- A frame goes into the own row by the laws of crate contents; the entries are the same frames. A step that does only what it may
-- leaves a sound record (`act_whole` of crate protocol), so the next step finds one.
-- Assumes nothing.
use Prim.Native.Nat.{ℕ, zero, suc, ◌+◌, ◌-◌, ◌*◌, ◌^◌, ◌≤◌, ◌<◌}
use mathlib.Core.Path.{◌≡◌, refl, sym, ◌∙◌, ap, subst}
use mathlib.Core.Logic.{⊎_elim}
use mathlib.Core.Bool.{Bool, true, false, not, cond}
use mathlib.Core.List.{List, [], ◌∷◌}
use mathlib.Core.Option.{Option, none, some}
use native.Mathlib.Omega.{arith}
use lib.ListN.{length, get_or}
use borrow.Author.Tests.{eq-eqb, ne_eqb}
use Rattle.rules.specs.Rules.{Rule, rule1, rule3, claim_vote, lock_vote}
use Rattle.rules.specs.Options.{is_none}
use Rattle.rules.specs.Quorums.{is_blocking}
use Rattle.settings.specs.declared.Settings.{Settings}
use Rattle.settings.specs.Settings.{delay_of}
use Rattle.frame.specs.declared.Report.{Report}
use Rattle.frame.specs.declared.Reports.{Reports}
use Rattle.frame.specs.declared.Body.TheVariants.{Empty}
use Rattle.frame.specs.declared.Frame.{Frame}
use Rattle.frame.specs.Refusal.{leader_of}
use Rattle.frame.specs.inside.Reading.{present_at}
use Rattle.entry.specs.declared.Entry.{Entry}
use Rattle.entry.specs.declared.Entry.TheVariants.{ForAll, ForOne, Timer, Decision}
use Rattle.record.specs.Slots as slots
use Rattle.record.specs.Slots.{rows, slot_of, decision_slot, frame_slot, report_slot, previous_slot}
use Rattle.record.specs.inside.Slots.{with_view, with_slot}
use Rattle.record.specs.Layout.{decode_record}
use Rattle.record.specs.inside.Layout.{HoldsRecord}
use Rattle.record.specs.inside.Kept.{told, keep_frame, with_reports}
use Rattle.record.specs.inside.Keeping.{moves, shifted_slots, own_broadcast}
use Rattle.record.proofs.Kept.{shifted_moves, shifted_stays, moves_kind}
use Rattle.rules.specs.Rules.{Vote}
use Rattle.frame.specs.Refusal.{bad_previous}
use Rattle.protocol.specs.Sound.{InRow}
use Rattle.protocol.specs.Record.{Record, spelt, kind_of, highest, leads, leader, change_of, plan_now, sent_now, report_frame}
use Rattle.protocol.specs.Pass.{Act, ask, enter, cast, decide, does, writes, suggest_entry, taken, Out, Step}
use Rattle.protocol.specs.Pass.{asked, is_news, can_enter, may_propose, chosen, approves, agreed, act_vote, step_a, step_b, step_c, step_d, step_vote, step_h}
use Rattle.rules.proofs.Reports.{none≢some}
use Rattle.protocol.proofs.May.{Lawful, Sure, done, and, sure_a}
use Rattle.protocol.proofs.Tables.{when_some, keep_was}
use Rattle.protocol.proofs.Size.{act_is}
use Rattle.protocol.proofs.Good.{vote_kept, previous_below}
use Rattle.protocol.proofs.Slots.{Sendable, change_sendable}
use Rattle.protocol.proofs.Sound.{Whole, id_below, size_below, rows_by, act_whole}
use Rattle.contents.specs.Contents.{contents, contents_in}
use Rattle.contents.specs.Lent.{Clean}
use Rattle.contents.specs.inside.Ready.{Ready}
use Rattle.contents.proofs.Parts.{decided, clean_decide}
use Rattle.contents.proofs.Acts.{contents_cast, clean_cast, contents_ask, clean_ask, tells_at, entered_by, contents_enter, clean_enter, contents_decided}
use Rattle.contents.proofs.Ready.{ready_as, ready_row}
use Rattle.acts.specs.inside.Acts.{act_at}
use Rattle.steps.specs.declared.Entries.{Entries}
use Rattle.steps.specs.declared.Entries.TheVariants.{Sent, Decided, Led, Followed}
use Rattle.own.specs.Size.{remnant_size}
use Rattle.own.specs.Part.{remnant_slots, own_slot, over}
use Rattle.own.specs.inside.Own.{heard_in, own_in, settings_in, view_in, reports_in, OwnOf, Changes}
use Rattle.own.proofs.Slots.{own_head, own_last, own_report}
use Rattle.own.proofs.Changes.{slot_over}
use Rattle.steps.specs.inside.Steps.{list_of, changes, votes, own_reports, OwnReports}
use Rattle.steps.specs.inside.Own.{Did, Does, Takes}
use Rattle.steps.specs.inside.Order.{step_at, ActOf}

-- ---- what an act does

-- A record that is the one that an act leaves.
did_held : {o : Out} {t r : slots.Record} {e : Entries} → t ≡ r → contents r ≡ o.left → Clean r → list_of e ≡ o.wrote → Did o t e
did_held held left clean wrote = record { left = ap contents held ∙ left; clean = subst Clean (sym held) clean; wrote = wrote }

module _ (rec : List ℕ) (h : Ready rec) where
  -- The record's slots.
  abbrev r : slots.Record
  r = decode_record rec

  -- What they hold.
  abbrev c : Record
  c = contents r

  -- The own number has a row.
  row : r.set.id < rows
  row = ready_row h

  -- The own number as the code has it.
  pub row_of : {id : ℕ} → id ≡ r.set.id → id < rows
  row_of own = subst (λ (i : ℕ). i < rows) (sym own) row

  -- The same of the settings whole.
  pub row_set : {set : Settings} → set ≡ r.set → set.id < rows
  row_set own = row_of (ap (λ (s : Settings). s.id) own)

  -- To ask for a view: the view-change in the own row, and sent to all.
  pub did_ask : {id w : ℕ} {left : slots.Record} → id ≡ r.set.id → left ≡ (keep_frame r id (changes id w))
      → Did (taken c (some (ask w))) left (Sent (changes id w))
  unfolding contents writes
  did_ask {id} {w} {left} own held =
      did_held (subst (◌≡◌ left) (λ i. keep_frame r (own i) (changes (own i) w)) held)
      (contents_ask r w row) (clean_ask r w row h.clean) (λ i. ForAll (changes (own i) w) ∷ [])

  -- To vote or propose: the frame in the own row, and sent to all.
  pub did_cast : {k p kind id view : ℕ} {left : slots.Record} → k ≤ 4 → kind ≡ suc k → id ≡ r.set.id → view ≡ r.view
      → left ≡ (own_broadcast r (votes kind id view p)) → Did (taken c (some (cast k p))) left (Sent (votes kind id view p))
  unfolding contents writes
  did_cast {k} {p} {left = left} low is own now held =
      did_held (subst (◌≡◌ left) (λ i. own_broadcast r (votes (is i) (own i) (now i) p)) held)
      (contents_cast r k p low row) (clean_cast r k p low row h.clean) (λ i. ForAll (votes (is i) (own i) (now i) p) ∷ [])

  -- To decide: the decision in its slot, and told to the host.
  pub did_decide : {p view : ℕ} {slot : Report} {left : slots.Record} → view ≡ r.view → slot ≡ present_at view p → left ≡ (with_slot r decision_slot slot)
      → Did (taken c (some (decide p))) left (Decided view p)
  unfolding contents writes
  did_decide {p} {left = left} now is held =
      did_held (subst (◌≡◌ left) (λ i. decided r (now i) p) (subst (λ (x : Report). left ≡ (with_slot r decision_slot x)) is held))
      (contents_decided r p) (clean_decide r r.view p h.clean) (λ i. Decision (now i) p ∷ [])

  -- To enter a view: the frames that are told, the timer and the leader as the code has them.
  module _ (set : Settings) (own : set ≡ r.set) (w : ℕ) (proofs suggests : Reports) (tells_own : OwnReports r set.id proofs suggests) where
    abbrev proof : Frame
    proof = told 8 set.id w proofs

    abbrev suggest : Frame
    suggest = told 7 set.id w suggests

    -- Reports of the own slots are those that 01's frame tells.
    tells : (rule : Rule) {t : Reports} → t ≡ own_reports (slot_of r) set.id (suc (claim_vote rule)) (suc (lock_vote rule))
        → told (kind_of rule) set.id w t ≡ report_frame c rule w
    unfolding contents
    tells rule e =
        let there = tells_at r rule h.clean row in
        (λ i. told (kind_of rule) set.id w (e i))
        ∙ (λ i. told (kind_of rule) (own i).id w (own_reports (slot_of r) (own i).id (suc (claim_vote rule)) (suc (lock_vote rule))))
        ∙ (λ i. told (kind_of rule) r.set.id w (sym there i))

    proof_told : proof ≡ report_frame c rule3 w
    proof_told = tells rule3 tells_own.proofs

    suggest_told : suggest ≡ report_frame c rule1 w
    suggest_told = tells rule1 tells_own.suggests

    module _ (millis to : ℕ) (em : millis ≡ 9 * delay_of set.class) (et : to ≡ leader_of w set.n) {proved : slots.Record}
        (hp : proved ≡ (keep_frame (with_view r w) set.id proof)) where
      abbrev heads : List Entry → List Entry
      heads l = Timer w (9 * delay_of r.set.class) ∷ ForAll (report_frame c rule3 w) ∷ l

      -- The view and the proof are kept, as 01's frame has it.
      there : proved ≡ (entered_by r w false)
      there = subst (◌≡◌ proved) (λ i. keep_frame (with_view r w) (own i).id (proof_told i)) hp

      -- The timer and the leader that the settings' equation gives.
      timed : millis ≡ 9 * delay_of r.set.class
      timed = em ∙ ap (λ (s : Settings). 9 * delay_of s.class) own

      led : to ≡ leader_of w r.set.n
      led = et ∙ ap (λ (s : Settings). leader_of w s.n) own

      -- Whether or not the vault leads: a record that holds what 01's act leaves, with its entries.
      entered : (b : Bool) → leads c w ≡ b → {left : slots.Record} → left ≡ (entered_by r w b) → (l : Entries)
          → list_of l ≡ heads (suggest_entry c w b) → Did (taken c (some (enter w))) left l
      unfolding contents writes
      entered b lead held l same =
          did_held held (ap (λ (x : Bool). contents (entered_by r w x)) (sym lead) ∙ contents_enter r w row)
          (clean_enter r w h.clean row b) (same ∙ ap (λ (x : Bool). heads (suggest_entry c w x)) (sym lead))

      -- It leads, and keeps its suggest.
      pub did_lead : to ≡ set.id → {left : slots.Record} → left ≡ (keep_frame proved set.id suggest)
          → Did (taken c (some (enter w))) left (Led w millis proof)
      unfolding contents
      did_lead mine {left} held =
          entered true (eq-eqb (leader_of w r.set.n) r.set.id (sym led ∙ mine ∙ ap (λ (s : Settings). s.id) own))
          (subst (◌≡◌ left) (λ i. keep_frame (there i) (own i).id (suggest_told i)) held)
          (Led w millis proof) (λ i. Timer w (timed i) ∷ ForAll (proof_told i) ∷ [])

      -- Another leads, and is sent the suggest.
      pub did_follow : (to ≡ set.id → ⊥) → Did (taken c (some (enter w))) proved (Followed w millis proof to suggest)
      unfolding contents
      did_follow other =
          entered false (ne_eqb (leader_of w r.set.n) r.set.id (λ e. other (led ∙ e ∙ ap (λ (s : Settings). s.id) (sym own)))) there
          (Followed w millis proof to suggest)
          (λ i. Timer w (timed i) ∷ ForAll (proof_told i) ∷ ForOne (led i) (suggest_told i) ∷ [])

-- ---- on an own part

-- One change after the other.
pub and_then : {f g : slots.Record → slots.Record} {s m t : List ℕ} → Changes f s m → Changes g m t → ((x : slots.Record) → (f x).set.id ≡ x.set.id)
    → Changes (λ x. g (f x)) s t
unfolding over
and_then {f} {g} {s} {m} {t} one two same = record {
  size = two.size;
  is = λ row heard. two.is (subst (λ (i : ℕ). i < rows) (sym (ap (λ (x : slots.Record). x.set.id) (one.is row heard) ∙ same (over heard s))) row) heard
      ∙ ap (λ (x : slots.Record). g x) (one.is row heard);
}

-- The same change, told otherwise.
pub told_as : {f g : slots.Record → slots.Record} {s t : List ℕ} → Changes f s t → ((x : slots.Record) → f x ≡ g x) → Changes g s t
told_as {s = s} one same = record { size = one.size; is = λ row heard. one.is row heard ∙ same (over heard s) }

-- A slot put, by the number that the code has.
pub put_as : (slot : Report) {at t : ℕ} {s m : List ℕ} → at ≡ t → Changes (λ x. with_slot x (own_slot x.set.id at) slot) s m
    → Changes (λ x. with_slot x (own_slot x.set.id t) slot) s m
put_as slot {s = s} {m} = subst (λ (u : ℕ). Changes (λ x. with_slot x (own_slot x.set.id u) slot) s m)

module _ {s : List ℕ} (rec : List ℕ) (h : Ready rec) (own : OwnOf rec s) where
  -- What the part says is the record's.
  set_is : settings_in s ≡ (decode_record rec).set
  unfolding over
  set_is = ap (λ (x : slots.Record). x.set) own.is

  id_is : get_or s 2 0 ≡ (decode_record rec).set.id
  id_is = ap (λ (x : Settings). x.id) set_is

  view_is : view_in s ≡ (decode_record rec).view
  unfolding over
  view_is = ap (λ (x : slots.Record). x.view) own.is

  -- A change of the part is one of the record.
  changed : {f : slots.Record → slots.Record} {t : List ℕ} → Changes f s t → over (heard_in rec) t ≡ f (decode_record rec)
  changed {f} ch = ch.is (row_of rec h id_is) (heard_in rec) ∙ ap (λ (x : slots.Record). f x) own.is

  -- What an own slot holds.
  slot_is : length s ≡ remnant_size → (t : ℕ) → t < remnant_slots → own_in s t ≡ slot_of (decode_record rec) (own_slot (decode_record rec).set.id t)
  slot_is size t low = sym (slot_over s size (row_of rec h id_is) (heard_in rec) t low) ∙ (λ i. slot_of (own.is i) (own_slot (id_is i) t))

  -- So the reports that are read are the own ones.
  reports_are : length s ≡ remnant_size → (claim lock : ℕ) → 2 ≤ claim → claim ≤ 3 → 1 ≤ lock → lock ≤ 8
      → reports_in s claim lock ≡ own_reports (slot_of (decode_record rec)) (decode_record rec).set.id claim lock
  reports_are size claim lock two three one eight =
      let at = slot_of (decode_record rec) in
      let id = (decode_record rec).set.id in
      let a : own_slot id (claim - 1) ≡ frame_slot claim id = own_head id (claim - 1) (omega arith) ∙ omega arith in
      let b : own_slot id (claim + 12) ≡ previous_slot claim = own_last id (claim + 12) (omega arith) ∙ omega arith in
      let c : own_slot id (lock - 1) ≡ frame_slot lock id = own_head id (lock - 1) (omega arith) ∙ omega arith in
      let x = slot_is size (claim - 1) (omega arith) ∙ ap at a in
      let y = slot_is size (claim + 12) (omega arith) ∙ ap at b in
      let z = slot_is size (lock - 1) (omega arith) ∙ ap at c in
      λ i. record { highest = x i; previous = y i; lock = z i }

-- No shift changes the settings.
shifted_set : (x : slots.Record) (kind p : ℕ) → (shifted_slots x kind p).set ≡ x.set
unfolding shifted_slots
shifted_set x kind p = go (moves (slot_of x (frame_slot kind x.set.id)) kind p)
  where
    go : (b : Bool) → (cond b (with_slot x (previous_slot kind) (slot_of x (frame_slot kind x.set.id))) x).set ≡ x.set
    go true = refl
    go false = refl

-- The own kept vote, where it stays and where it moves to the previous one.
module _ (s : List ℕ) (size : length s ≡ remnant_size) (kind p : ℕ) (low : 1 ≤ kind) (high : kind ≤ 5) {slot : Report}
    (es : slot ≡ own_in s (kind - 1)) where
  -- What is read is the own frame of the kind.
  vote_read : get_or s 2 0 < rows → (heard : ℕ → Report) → slot ≡ slot_of (over heard s) (frame_slot kind (over heard s).set.id)
  unfolding over
  vote_read row heard =
      let place : own_slot (get_or s 2 0) (kind - 1) ≡ frame_slot kind (get_or s 2 0) = own_head (get_or s 2 0) (kind - 1) (omega arith) ∙ omega arith in
      es ∙ sym (slot_over s size row heard (kind - 1) (omega arith)) ∙ ap (slot_of (over heard s)) place

  pub shift_stays : moves slot kind p ≡ false → Changes (λ x. shifted_slots x kind p) s s
  shift_stays stays = record {
    size = size;
    is = λ row heard. sym (shifted_stays (over heard s) kind p (ap (λ (y : Report). moves y kind p) (sym (vote_read row heard)) ∙ stays));
  }

  pub shift_moves : moves slot kind p ≡ true → {t : List ℕ} → Changes (λ x. with_slot x (own_slot x.set.id (kind + 12)) slot) s t
      → Changes (λ x. shifted_slots x kind p) s t
  shift_moves goes {t} ch = record {
    size = ch.size;
    is = λ row heard.
        let x = over heard s in
        let (two, three) = moves_kind slot kind p goes in
        let place : own_slot x.set.id (kind + 12) ≡ previous_slot kind = own_last x.set.id (kind + 12) (omega arith) ∙ omega arith in
        let own = vote_read row heard in
        ch.is row heard ∙ (λ i. with_slot x (place i) (own i)) ∙ sym (shifted_moves x kind p (ap (λ (y : Report). moves y kind p) (sym own) ∙ goes));
  }

-- To ask for a view.
pub does_ask : {s t : List ℕ} {id w : ℕ} {f : Frame} {slot : Report} → id ≡ get_or s 2 0 → f ≡ changes id w → slot ≡ present_at w 0
    → Changes (λ x. with_slot x (own_slot x.set.id 5) slot) s t → Does (some (ask w)) s t (Sent f)
unfolding keep_frame
does_ask {s} {t} {id} {w} {f} {slot} ei ef es ch = record {
  size = ch.size;
  did = λ rec h own.
      let r = decode_record rec in
      let e : id ≡ r.set.id = ei ∙ id_is rec h own in
      subst (λ (g : Frame). Did (taken (contents_in rec) (some (ask w))) (over (heard_in rec) t) (Sent g)) (sym ef)
      (did_ask rec h e
      (changed rec h own ch ∙ (λ i. with_slot r (own_head r.set.id 5 (omega arith) i) (es i)) ∙ (λ i. keep_frame r (sym e i) (changes (sym e i) w))));
}

-- To vote or propose.
pub does_cast : {s m t : List ℕ} {k p kind id view : ℕ} {slot : Report} → k ≤ 4 → kind ≡ suc k → id ≡ get_or s 2 0 → view ≡ view_in s → slot ≡ present_at view p
    → Changes (λ x. shifted_slots x kind p) s m → Changes (λ x. with_slot x (own_slot x.set.id k) slot) m t
    → Does (some (cast k p)) s t (Sent (votes kind id view p))
unfolding keep_frame own_broadcast
does_cast {s} {m} {t} {k} {p} {kind} {id} {view} {slot} low is ei ev es one two =
    let both = and_then one two (λ x. ap (λ (y : Settings). y.id) (shifted_set x kind p)) in
    record {
      size = two.size;
      did = λ rec h own.
          let r = decode_record rec in
          let place : own_slot (shifted_slots r kind p).set.id k ≡ frame_slot kind r.set.id =
          (λ i. own_slot (shifted_set r kind p i).id k) ∙ own_head r.set.id k (omega arith) ∙ (λ i. frame_slot (sym is i) r.set.id) in
          did_cast rec h low is (ei ∙ id_is rec h own) (ev ∙ view_is rec h own)
          (changed rec h own both ∙ (λ i. with_slot (shifted_slots r kind p) (place i) (es i)));
    }

-- To decide.
pub does_decide : {s t : List ℕ} {p view : ℕ} {slot : Report} → view ≡ view_in s → slot ≡ present_at view p
    → Changes (λ x. with_slot x (own_slot x.set.id 16) slot) s t → Does (some (decide p)) s t (Decided view p)
does_decide {s} {t} {p} {view} {slot} ev es ch = record {
  size = ch.size;
  did = λ rec h own.
      let r = decode_record rec in
      did_decide rec h (ev ∙ view_is rec h own) es (changed rec h own ch ∙ (λ i. with_slot r (own_last r.set.id 16 (omega arith) i) slot));
}

-- A suggest or a proof kept in four slots.
pub keeps_told : {s a b c d : List ℕ} {kind w first : ℕ} (t : Reports) {head : Report} → 7 ≤ kind → kind ≤ 8 → first ≡ 8 + 3 * (kind - 7) → head ≡ present_at w 0
    → Changes (λ x. with_slot x (own_slot x.set.id (kind - 1)) head) s a → Changes (λ x. with_slot x (own_slot x.set.id first) t.highest) a b
    → Changes (λ x. with_slot x (own_slot x.set.id (first + 1)) t.previous) b c → Changes
    (λ x. with_slot x (own_slot x.set.id (first + 2)) t.lock) c d
    → Changes (λ x. keep_frame x x.set.id (told kind x.set.id w t)) s d
unfolding keep_frame with_reports
keeps_told {kind = kind} {w} {first} t {head} low high ef eh one two three four =
    told_as (and_then (and_then (and_then one two (λ x. refl)) three (λ x. refl)) four (λ x. refl))
    (λ x.
    let id = x.set.id in
    let p : own_slot id (kind - 1) ≡ frame_slot kind id = own_head id (kind - 1) (omega arith) ∙ omega arith in
    let q : own_slot id first ≡ report_slot kind 0 id = ap (own_slot id) (ef ∙ omega arith) ∙ own_report id kind 0 low high (omega arith) in
    let u : own_slot id (first + 1) ≡ report_slot kind 1 id = ap (λ (n : ℕ). own_slot id (n + 1)) ef ∙ own_report id kind 1 low high (omega arith) in
    let v : own_slot id (first + 2) ≡ report_slot kind 2 id = ap (λ (n : ℕ). own_slot id (n + 2)) ef ∙ own_report id kind 2 low high (omega arith) in
    λ i. with_slot (with_slot (with_slot (with_slot x (p i) (eh i)) (q i) t.highest) (u i) t.previous) (v i) t.lock)

-- To enter a view.
module _ {s : List ℕ} (size : length s ≡ remnant_size) {set : Settings} (es : set ≡ settings_in s) (w : ℕ) {proof suggest : Reports}
    (ep : proof ≡ reports_in s 2 5) (eg : suggest ≡ reports_in s 3 4) {millis to : ℕ} (em : millis ≡ 9 * delay_of set.class) (et : to ≡ leader_of w set.n)
    {viewed kept : List ℕ} (one : Changes (λ x. with_view x w) s viewed)
    (two : Changes (λ x. keep_frame x x.set.id (told 8 x.set.id w proof)) viewed kept) where
  -- The settings are the record's, and the reports the own ones.
  module _ (rec : List ℕ) (h : Ready rec) (own : OwnOf rec s) where
    set_as : set ≡ (decode_record rec).set
    set_as = es ∙ set_is rec h own

    id_as : set.id ≡ (decode_record rec).set.id
    id_as = ap (λ (x : Settings). x.id) set_as

    told2 : OwnReports (decode_record rec) set.id proof suggest
    told2 =
        let back = sym id_as in
        record {
          proofs = ep ∙ reports_are rec h own size 2 5 (omega arith) (omega arith) (omega arith) (omega arith)
              ∙ ap (λ (i : ℕ). own_reports (slot_of (decode_record rec)) i 2 5) back;
          suggests = eg ∙ reports_are rec h own size 3 4 (omega arith) (omega arith) (omega arith) (omega arith)
              ∙ ap (λ (i : ℕ). own_reports (slot_of (decode_record rec)) i 3 4) back;
        }

    -- The view and the proof kept.
    proved_is : over (heard_in rec) kept ≡ keep_frame (with_view (decode_record rec) w) set.id (told 8 set.id w proof)
    proved_is =
        let back = sym id_as in
        changed rec h own (and_then one two (λ x. refl)) ∙ (λ i. keep_frame (with_view (decode_record rec) w) (back i) (told 8 (back i) w proof))

  pub does_follow : (to ≡ set.id → ⊥) → Does (some (enter w)) s kept (Followed w millis (told 8 set.id w proof) to (told 7 set.id w suggest))
  does_follow other = record {
    size = two.size;
    did = λ rec h own. did_follow rec h set (set_as rec h own) w proof suggest (told2 rec h own) millis to em et (proved_is rec h own) other;
  }

  pub does_lead : {left : List ℕ} → to ≡ set.id → Changes (λ x. keep_frame x x.set.id (told 7 x.set.id w suggest)) kept left
      → Does (some (enter w)) s left (Led w millis (told 8 set.id w proof))
  unfolding keep_frame with_reports over
  does_lead {left} mine three = record {
    size = three.size;
    did = λ rec h own.
        let id : get_or kept 2 0 ≡ set.id = ap (λ (x : slots.Record). x.set.id) (proved_is rec h own) ∙ sym (id_as rec h own) in
        let held : over (heard_in rec) left ≡ keep_frame (over (heard_in rec) kept) set.id (told 7 set.id w suggest) =
        three.is (subst (λ (i : ℕ). i < rows) (sym id) (row_set rec h (set_as rec h own))) (heard_in rec)
        ∙ (λ i. keep_frame (over (heard_in rec) kept) (id i) (told 7 (id i) w suggest)) in
        did_lead rec h set (set_as rec h own) w proof suggest (told2 rec h own) millis to em et (proved_is rec h own) mine held;
  }

-- ---- steps

-- The steps of a list do only what they may, so the one of a number does.
law_at : {l : List Step} → Sure l → (k : ℕ) → k < length l → Lawful (get_or l k (λ c. taken c none))
law_at done k low = absurd (omega arith)
law_at (and law rest) zero low = law
law_at (and law rest) (suc k) low = law_at rest k (omega arith)

-- The step of a number does the act of that number.
pub step_by : (k : ℕ) (c : Record) → step_at k c ≡ taken c (act_at k c)
unfolding act_at step_a step_b step_c step_d step_vote step_h
step_by zero c = refl
step_by (suc zero) c = refl
step_by (suc (suc zero)) c = refl
step_by (suc (suc (suc zero))) c = refl
step_by (suc (suc (suc (suc zero)))) c = refl
step_by (suc (suc (suc (suc (suc zero))))) c = refl
step_by (suc (suc (suc (suc (suc (suc zero)))))) c = refl
step_by (suc (suc (suc (suc (suc (suc (suc zero))))))) c = refl
step_by (suc (suc (suc (suc (suc (suc (suc (suc k)))))))) c = refl

-- The code's match knows the vote: what an arm's step left is what the step of that vote leaves.
pub takes_as : {k j p : ℕ} {s t : List ℕ} {e : Entries} → k ≡ j → Takes (act_at (j + 2)) (step_at (j + 2)) (some (cast j p)) s t e
    → Takes (act_at (k + 2)) (step_at (k + 2)) (some (cast k p)) s t e
takes_as {p = p} {s} {t} {e} is = subst (λ (i : ℕ). Takes (act_at (i + 2)) (step_at (i + 2)) (some (cast i p)) s t e) (sym is)

-- A step without an act leaves record and output as they are, so crate pass may leave it out.
pub idle_step : (k : ℕ) (c : Record) → act_at k c ≡ none → step_at k c ≡ taken c none
idle_step k c e = step_by k c ∙ ap (taken c) e

-- A step that does only what it may leaves contents that are sound and have their widths.
whole_step : (s : Step) → Lawful s → (c : Record) → Whole c → Whole (s c).left
whole_step s law c w = subst (λ (o : Out). Whole o.left) (sym (law.does c)) (go (law.act c) refl)
  where
    go : (o : Option Act) → law.act c ≡ o → Whole (taken c o).left
    go none e = w
    go (some a) e = act_whole w a (law.may c a e)

-- No act changes the settings.
pub taken_set : (c : Record) (o : Option Act) → (taken c o).left.set ≡ c.set
unfolding does
taken_set c none = refl
taken_set c (some (ask w)) = refl
taken_set c (some (enter w)) = refl
taken_set c (some (cast k p)) = refl
taken_set c (some (decide p)) = refl

-- Nor the starting plan.
pub taken_start : (c : Record) (o : Option Act) → (taken c o).left.start ≡ c.start
unfolding does
taken_start c none = refl
taken_start c (some (ask w)) = refl
taken_start c (some (enter w)) = refl
taken_start c (some (cast k p)) = refl
taken_start c (some (decide p)) = refl

pub step_start : (k : ℕ) (c : Record) → (step_at k c).left.start ≡ c.start
step_start k c = ap (λ (o : Out). o.left.start) (step_by k c) ∙ taken_start c (act_at k c)

-- So no step does: the settings that are read once, before a pass, hold for all of it.
pub step_set : (k : ℕ) (c : Record) → (step_at k c).left.set ≡ c.set
step_set k c = ap (λ (o : Out). o.left.set) (step_by k c) ∙ taken_set c (act_at k c)

-- What a step's act does is what the step does.
pub takes : (k : ℕ) {a : Option Act} {s t : List ℕ} {e : Entries} → Does a s t e → Takes (act_at k) (step_at k) a s t e
takes k {a} {s} {t} {e} d = record {
  size = d.size;
  took = λ rec h own is.
      subst (λ (o : Out). Did o (over (heard_in rec) t) e) (ap (taken (contents_in rec)) is ∙ sym (step_by k (contents_in rec))) (d.did rec h own);
}

-- Bytes of a record that hold what an act leaves, where its contents are sound and have their widths.
pub ready_did : {o : Out} {r : slots.Record} {rec : List ℕ} {e : Entries} → Did o r e → HoldsRecord rec r → Whole o.left → Ready rec
ready_did did held whole = ready_as held did.left did.clean whole.sound whole.ranged

-- So what a step leaves is a record for the next.
pub ready_step : (k : ℕ) → k < 8 → {was rec : List ℕ} → Ready was → {r : slots.Record} {e : Entries} → Did (step_at k (contents_in was)) r e
    → HoldsRecord rec r → Ready rec
ready_step k low {was} h did held =
    ready_did did held (whole_step (step_at k) (law_at sure_a k low) (contents_in was) (record { sound = h.sound; ranged = h.ranged }))

-- ---- which act a step does

module _ (c : Record) {a : Act} where
  -- An act that is known.
  is_one : (k : ℕ) {x : Act} → x ≡ a → ActOf k x → ActOf k a
  is_one k e = subst (ActOf k) e

  -- E, F and G send vote-2 to vote-4.
  vote_of : (j : ℕ) → j ≤ 3 → act_vote c j ≡ some a → ActOf (j + 3) a
  vote_of j high e = is_one (j + 3) (act_is (agreed c j) (λ p. not (sent_now c (suc j))) (cast (suc j)) e).1 (omega arith, omega arith)

  -- The act of a step is one of its kind.
  pub act_of : (k : ℕ) → act_at k c ≡ some a → ActOf k a
  unfolding act_at
  act_of zero e = is_one 0 (act_is (highest (asked c is_blocking) (change_of c) c.set.n) (is_news c) ask e).1 refl
  act_of (suc zero) e = is_one 1 (act_is (highest (can_enter c) (change_of c) c.set.n) (λ w. true) enter e).1 refl
  act_of (suc (suc zero)) e = is_one 2 (act_is (chosen c) (λ p. true) (cast 0) (when_some (may_propose c) _ e).1).1 (refl, omega arith)
  act_of (suc (suc (suc zero))) e = is_one 3 (act_is (plan_now c 0 (leader c c.view)) (approves c) (cast 1) e).1 (refl, omega arith)
  act_of (suc (suc (suc (suc zero)))) e = vote_of 1 (omega arith) e
  act_of (suc (suc (suc (suc (suc zero))))) e = vote_of 2 (omega arith) e
  act_of (suc (suc (suc (suc (suc (suc zero)))))) e = vote_of 3 (omega arith) e
  act_of (suc (suc (suc (suc (suc (suc (suc zero))))))) e = is_one 7 (act_is (agreed c 4) (λ p. is_none c.decision) decide e).1 refl
  act_of (suc (suc (suc (suc (suc (suc (suc (suc k)))))))) e = absurd (none≢some e)

-- ---- to ask for a view when the timer says so

-- Whatever later view is asked for, the record stays sound: the view-change is sendable, and nothing else changes.
ask_whole : (c : Record) → Whole c → (w : ℕ) → c.view < w → w < 2 ^ 32 → Whole (does c (ask w))
unfolding does
ask_whole c whole w later low = record {
  sound = record {
    settings = whole.sound.settings;
    kept = rows_by whole new c.kept here whole.sound.kept;
    own = λ k x e other. ⊎_elim (λ (kind, sender, same). absurd (other (sym kind))) (λ was. whole.sound.own k x was other)
        (keep_was new c.kept k c.set.id e);
    previous = λ k has. subst (λ (o : Option Vote). bad_previous (spelt o) (spelt (c.previous k)) ≡ false)
        (sym (vote_kept c (ask w) k c.set.id (previous_below k has) (λ p e. no_cast e))) (whole.sound.previous k has);
  };
  ranged =
      let was = whole.ranged in
      record { start = was.start; view = was.view; previous = was.previous; decision = was.decision };
}
  where
    new : Frame
    new = record { kind = 6; sender = c.set.id; view = w; body = Empty }

    no_cast : {k p : ℕ} → ask w ≡ cast k p → ⊥
    no_cast e = let z : ◌≡◌ {A = ℕ} 0 1 = cc in omega arith

    fine : Sendable c.set.n c.set.id new
    fine =
        let set = whole.sound.settings in
        change_sendable c.set.n c.set.id (omega (arith, id_below c.set set, size_below c.set set)) w (omega arith) low

    here : InRow c.set 6 c.set.id new
    here = record {
      row = id_below c.set whole.sound.settings;
      kind = refl;
      sender = refl;
      valid = fine.valid;
      content = fine.content;
      leader = fine.leader (λ (e : 6 ≡ 7). absurd (omega arith));
    }

module _ (rec : List ℕ) (h : Ready rec) (w : ℕ) (later : (decode_record rec).view < w) (low : w < 2 ^ 32) where
  -- So after a timer's view-change the record is one that the pass may begin with.
  pub ready_ask : {r : slots.Record} {left : List ℕ} {e : Entries} → Did (taken (contents_in rec) (some (ask w))) r e → HoldsRecord left r → Ready left
  unfolding contents
  ready_ask did held = ready_did did held (ask_whole (contents_in rec) (record { sound = h.sound; ranged = h.ranged }) w later low)
