-- The test of soundness on slots is soundness by contents, of slots that hold just their contents (document 01, 'It is sound when
-- its settings pass 5 to 8, every kept frame passes 9 to 15 for its row .., no frame in its own row but the view-change is above
-- the current view, and each previous vote stands to its highest as in 14', which is 22 now). So what a call leaves is sound when it is lent again.
-- Assumes nothing.
use Prim.Native.Nat.{ℕ, suc, ◌+◌, ◌-◌, ◌≤◌, ◌<◌}
use mathlib.Core.Path.{◌≡◌, refl, sym, ◌∙◌, ap, subst}
use mathlib.Core.Logic.{◌≢◌, ◌⊎◌, inl, inr}
use mathlib.Core.Bool.{Bool, true, false, cond, not, ◌&&◌}
use mathlib.Core.List.{List, ◌++◌}
use mathlib.Core.Option.{some}
use native.Mathlib.Omega.{arith}
use lib.Dec.{ltb, eqb}
use lib.ListN.{length}
use borrow.Author.Tests.{eqb-true, eqb-false, eq-eqb, ne_eqb, ltb-true, ltb-false, lt-ltb, le-ltb, not-true}
use Rattle.rules.proofs.Bools.{which, both_split, both_join, either}
use Rattle.rules.proofs.Reports.{none≢some}
use Rattle.wire.specs.Fields.{Bytes}
use Rattle.frame.specs.declared.Report.{Report}
use Rattle.frame.specs.declared.Frame.{Frame}
use Rattle.frame.specs.Format.{within}
use Rattle.frame.specs.Refusal.{first, present, bad_form, bad_previous, content_rows, leader_rows}
use Rattle.frame.proofs.Laws.{form, bounds, Positive, first_none, first_both}
use Rattle.settings.specs.declared.Settings.{Settings}
use Rattle.record.specs.Slots as slots
use Rattle.record.specs.Slots.{rows, kinds, frame_slot, previous_slot, decision_slot, slot_of}
use Rattle.record.specs.inside.Layout as layout
use Rattle.record.specs.Layout.{encode_record, decode_record}
use Rattle.record.specs.Size.{record_size}
use Rattle.record.proofs.Laws.{fits_decoded}
use Rattle.record.proofs.Theorems.{decode_encode, encode_size}
use Rattle.record.specs.Kept.{frame_held, kept_frame}
use Rattle.record.proofs.Forms.{kept_there, kept_nothing}
use Rattle.sound.specs.declared.Lent.TheVariants as lent
use Rattle.sound.specs.inside.Sound.{empty_at, no_plan, ahead, frame_sound, place_sound, kind_sound, rows_sound, stands, previous_sound, votes_sound}
use Rattle.sound.specs.inside.Sound.{sound_in, sound, lent_is}
use Rattle.sound.proofs.Laws.{place_empty, place_of_frame, lent_other}
use Rattle.protocol.specs.Record.{Record, spelt, vote_of}
use Rattle.protocol.specs.Pass.{has_previous}
use Rattle.settings.specs.Settings.{setting_rows}
use Rattle.protocol.specs.inside.Sound.{Ranged}
use Rattle.protocol.specs.Sound.{InRow, Sound}
use Rattle.protocol.proofs.Tables.{when_some}
use Rattle.protocol.proofs.Sound.{id_below, size_below}
use Rattle.contents.specs.Contents.{kept_of, contents, head_of, slotted}
use Rattle.contents.specs.Lent.{Clean}
use Rattle.contents.proofs.Kept.{previous_bounds}
use Rattle.contents.proofs.Clean.{kept_at, clean_of, filled_of}
use Rattle.contents.proofs.Acts.{vote_spelt, previous_spelt}
use Rattle.contents.proofs.Slotted.{Placed, contents_slotted, clean_slotted}
use Rattle.contents.proofs.Widths.{ranged_fits, fits_slotted}
use Rattle.contents.proofs.Tests.{all_at, all_of, formed_is, formed_of, Held, plan_only, held_there, held_not, empty_of, valid_in}

-- ---- a kept frame

-- What the test of a kept frame says.
record Passed (set : Settings) (view : ℕ) (f : Frame) : Type 0 where
  row : f.sender < set.n
  behind : ahead set view f ≡ false
  content : first (content_rows f) ≡ 0
  leader : first (leader_rows f set.n set.id) ≡ 0

module _ (set : Settings) (view : ℕ) (f : Frame) where
  -- No row of these has number 0, so a table's answer 0 says that none applies.
  positive : Positive (content_rows f)
  positive = (omega arith, (omega arith, (omega arith, (omega arith, tt))))

  -- The test of a kept frame, taken apart.
  passed_of : frame_sound set view f ≡ true → Passed set view f
  unfolding frame_sound
  passed_of h =
      let (a, t) = both_split (ltb f.sender set.n) (not (ahead set view f) && eqb (first (content_rows f ++ leader_rows f set.n set.id)) 0) h in
      let (b, c) = both_split (not (ahead set view f)) (eqb (first (content_rows f ++ leader_rows f set.n set.id)) 0) t in
      let (d, e) = first_both (content_rows f) (leader_rows f set.n set.id) positive
      (eqb-true (first (content_rows f ++ leader_rows f set.n set.id)) 0 c) in
      record { row = ltb-true f.sender set.n a; behind = not-true (ahead set view f) b; content = d; leader = e }

  -- And put together again.
  passed_sound : Passed set view f → frame_sound set view f ≡ true
  unfolding frame_sound
  passed_sound p = both_join (ltb f.sender set.n) (not (ahead set view f) && eqb (first (content_rows f ++ leader_rows f set.n set.id)) 0)
      (lt-ltb f.sender set.n p.row)
      (both_join (not (ahead set view f)) (eqb (first (content_rows f ++ leader_rows f set.n set.id)) 0) (ap not p.behind)
      (eq-eqb (first (content_rows f ++ leader_rows f set.n set.id)) 0
      (first_none (content_rows f) (leader_rows f set.n set.id) positive p.content ∙ p.leader)))

  -- 'no frame in its own row but the view-change is above the current view'.
  not_ahead : f.sender ≡ set.id → f.kind ≢ 6 → ahead set view f ≡ false → f.view ≤ view
  unfolding ahead
  not_ahead own other h = ltb-false view f.view (rw (eq-eqb f.sender set.id own, ne_eqb f.kind 6 other) at h)

  -- And back: a frame of another row, a view-change, or one not above the current view is not ahead.
  behind_of : (f.sender ≡ set.id → f.kind ≢ 6 → f.view ≤ view) → ahead set view f ≡ false
  unfolding ahead
  behind_of low = go (which (eqb f.sender set.id)) (which (eqb f.kind 6))
    where
      go : (eqb f.sender set.id ≡ true) ⊎ (eqb f.sender set.id ≡ false) → (eqb f.kind 6 ≡ true) ⊎ (eqb f.kind 6 ≡ false)
          → (eqb f.sender set.id && (not (eqb f.kind 6) && ltb view f.view)) ≡ false
      go (inr a) b = rw a
      go (inl a) (inl b) = rw (a, b)
      go (inl a) (inr b) = rw (a, b, le-ltb view f.view (low (eqb-true f.sender set.id a) (eqb-false f.kind 6 b)))

-- A kept frame of the contents is the one that its slots hold.
record There (r : slots.Record) (k j : ℕ) (x : Frame) : Type 0 where
  low : 1 ≤ k
  high : k ≤ kinds
  row : j < rows
  mark : (slot_of r (frame_slot k j)).mark ≡ 1
  is : frame_held (slot_of r) k j ≡ x

-- Whatever the contents keep stands in slots.
kept_was : (r : slots.Record) (k j : ℕ) (x : Frame) → (contents r).kept k j ≡ some x → There r k j x
unfolding contents kept_of
kept_was r k j x e =
    let (g, is) = when_some (within 1 kinds k && ltb j rows) (kept_frame r k j) e in
    let (gk, gj) = both_split (within 1 kinds k) (ltb j rows) g in
    let (low, high) = bounds 1 kinds k gk in
    let (mark, same) = go is (which (present (slot_of r (frame_slot k j)))) in
    record { low = low; high = high; row = ltb-true j rows gj; mark = mark; is = same }
  where
    some_is : {y : Frame} → some y ≡ some x → y ≡ x
    some_is e = cc

    go : kept_frame r k j ≡ some x → (present (slot_of r (frame_slot k j)) ≡ true) ⊎ (present (slot_of r (frame_slot k j)) ≡ false)
        → ((slot_of r (frame_slot k j)).mark ≡ 1) × (frame_held (slot_of r) k j ≡ x)
    go is (inl p) =
        let m = eqb-true (slot_of r (frame_slot k j)).mark 1 p in
        (m, some_is (sym (kept_there (slot_of r) k j m) ∙ is))
    go is (inr p) = absurd (none≢some (sym (kept_nothing (slot_of r) k j (eqb-false (slot_of r (frame_slot k j)).mark 1 p)) ∙ is))

-- A previous vote stands to its highest by contents as it does in slots.
stands_spelt : (r : slots.Record) → Clean r → r.set.id < rows → (k : ℕ) → has_previous k ≡ true
    → bad_previous (spelt (vote_of (contents r) k r.set.id)) (spelt ((contents r).previous k))
    ≡ bad_previous (slot_of r (frame_slot (suc k) r.set.id)) (slot_of r (previous_slot (suc k)))
stands_spelt r h row k has =
    let (low, high) = previous_bounds k has in
    let e₁ = vote_spelt r k r.set.id (omega arith) row h in
    let e₂ = previous_spelt r k has h in
    λ i. bad_previous (e₁ i) (e₂ i)

-- ---- from the test on slots

module _ (r : slots.Record) (z : layout.FitsBytes r) (h : sound r ≡ true) where
  -- The slots.
  abbrev s : ℕ → Report
  s = slot_of r

  -- The test's three parts: settings, rows and votes.
  parts_pass : (first (setting_rows r.set) ≡ 0) × (rows_sound s r.set r.view ≡ true) × (votes_sound s r.set.id ≡ true)
  unfolding sound_in
  parts_pass =
      let (a, t) = both_split (eqb (first (setting_rows r.set)) 0) (rows_sound s r.set r.view && votes_sound s r.set.id) h in
      let (b, c) = both_split (rows_sound s r.set r.view) (votes_sound s r.set.id) t in
      (eqb-true (first (setting_rows r.set)) 0 a, b, c)

  -- The own number has a row.
  id_row : r.set.id < rows
  id_row = omega (arith, id_below r.set parts_pass.0, size_below r.set parts_pass.0)

  -- The test of each kind and sender passes.
  place_pass : (k j : ℕ) → 1 ≤ k → k ≤ kinds → j < rows → place_sound s r.set r.view k j ≡ true
  unfolding rows_sound kind_sound
  place_pass k j low high row =
      let is : k - 1 + 1 ≡ k = omega arith in
      let kind : kind_sound s r.set r.view (k - 1 + 1) ≡ true = all_at (λ k. kind_sound s r.set r.view (k + 1)) kinds (k - 1) parts_pass.1
      (omega arith) in
      all_at (place_sound s r.set r.view k) rows j (subst (λ (k : ℕ). kind_sound s r.set r.view k ≡ true) is kind) row

  -- Where a frame is kept, it has a plan only in kinds 1 to 5, and passes.
  frame_pass : (k j : ℕ) → 1 ≤ k → k ≤ kinds → j < rows → (s (frame_slot k j)).mark ≡ 1
      → (no_plan k (s (frame_slot k j)).plan ≡ true) × (frame_sound r.set r.view (frame_held s k j) ≡ true)
  unfolding place_sound
  frame_pass k j low high row e =
      both_split (no_plan k (s (frame_slot k j)).plan) (frame_sound r.set r.view (frame_held s k j))
      (ap (λ (b : Bool). cond b (no_plan k (s (frame_slot k j)).plan && frame_sound r.set r.view (frame_held s k j)) (empty_at s k j))
      (sym (eq-eqb (s (frame_slot k j)).mark 1 e))
      ∙ place_pass k j low high row)

  -- So their slots hold what is read off them, and nothing besides.
  held_pass : (k j : ℕ) → 1 ≤ k → k ≤ kinds → j < rows → Held s k j
  held_pass k j low high row = go (which (present (s (frame_slot k j))))
    where
      go : (present (s (frame_slot k j)) ≡ true) ⊎ (present (s (frame_slot k j)) ≡ false) → Held s k j
      go (inl e) = let m = eqb-true (s (frame_slot k j)).mark 1 e in held_there s k j (form k low high) m (frame_pass k j low high row m).0
      go (inr e) =
          let m = eqb-false (s (frame_slot k j)).mark 1 e in
          held_not s k j m (sym (place_empty s r.set r.view k j m) ∙ place_pass k j low high row)

  -- The tests of the two previous votes and of the decision pass.
  votes_pass : (previous_sound s r.set.id 2 ≡ true) × (previous_sound s r.set.id 3 ≡ true) × (bad_form (s decision_slot) ≡ false)
  unfolding votes_sound
  votes_pass =
      let (a, t) = both_split (previous_sound s r.set.id 2) (previous_sound s r.set.id 3 && not (bad_form (s decision_slot))) parts_pass.2 in
      let (b, c) = both_split (previous_sound s r.set.id 3) (not (bad_form (s decision_slot))) t in
      (a, b, not-true (bad_form (s decision_slot)) c)

  -- The same, by the vote's number.
  previous_pass : (k : ℕ) → has_previous k ≡ true → previous_sound s r.set.id (suc k) ≡ true
  previous_pass k has = go (either (eqb k 1) (eqb k 2) has)
    where
      go : (eqb k 1 ≡ true) ⊎ (eqb k 2 ≡ true) → previous_sound s r.set.id (suc k) ≡ true
      go (inl e) = subst (λ (k : ℕ). previous_sound s r.set.id (suc k) ≡ true) (sym (eqb-true k 1 e)) votes_pass.0
      go (inr e) = subst (λ (k : ℕ). previous_sound s r.set.id (suc k) ≡ true) (sym (eqb-true k 2 e)) votes_pass.1

  -- 'each previous vote stands to its highest as in 14' (22 now).
  stands_pass : (k : ℕ) → has_previous k ≡ true → (bad_form (s (previous_slot (suc k))) ≡ false)
      × (bad_previous (s (frame_slot (suc k) r.set.id)) (s (previous_slot (suc k))) ≡ false)
  unfolding previous_sound stands
  stands_pass k has =
      let (a, b) = both_split (not (bad_form (s (previous_slot (suc k))))) (not (bad_previous (s (frame_slot (suc k) r.set.id)) (s (previous_slot (suc k)))))
      (previous_pass k has) in
      (not-true (bad_form (s (previous_slot (suc k)))) a, not-true (bad_previous (s (frame_slot (suc k) r.set.id)) (s (previous_slot (suc k)))) b)

  -- A record that passes the test is clean.
  pub clean_sound : Clean r
  clean_sound = clean_of r z.beyond (record {
    head = λ k j low high row. (held_pass k j low high row).head;
    told = λ k w j low high lw row. (held_pass k j (omega arith) high row).told w lw low;
    previous = λ k has. formed_is (s (previous_slot (suc k))) (stands_pass k has).0;
    decision = formed_is (s decision_slot) votes_pass.2;
  })

  -- Each kept frame passes 9 to 15, 21 and 22 for its row.
  in_row : (k j : ℕ) (x : Frame) → There r k j x → InRow r.set k j x
  unfolding frame_held
  in_row k j x t =
      let p = passed_of r.set r.view (frame_held s k j) (frame_pass k j t.low t.high t.row t.mark).1 in
      subst (λ (y : Frame). InRow r.set k j y) t.is (record {
        row = p.row;
        kind = refl;
        sender = refl;
        valid = valid_in s k j (form k t.low t.high) t.high t.row z.slots;
        content = p.content;
        leader = p.leader;
      })

  -- No frame in the own row but the view-change is above the current view.
  own_low : (k : ℕ) (x : Frame) → There r k r.set.id x → k ≢ 6 → x.view ≤ r.view
  unfolding frame_held
  own_low k x t other =
      let p = passed_of r.set r.view (frame_held s k r.set.id) (frame_pass k r.set.id t.low t.high t.row t.mark).1 in
      subst (λ (y : Frame). y.view ≤ r.view) t.is (not_ahead r.set r.view (frame_held s k r.set.id) refl other p.behind)

  -- The contents of a record that passes the test are sound.
  pub contents_sound : Sound (contents r)
  unfolding contents
  contents_sound = record {
    settings = parts_pass.0;
    kept = λ k j x e. in_row k j x (kept_was r k j x e);
    own = λ k x e other. own_low k x (kept_was r k r.set.id x e) other;
    previous = λ k has. stands_spelt r clean_sound id_row k has ∙ (stands_pass k has).1;
  }

-- ---- to the test on slots

module _ (r : slots.Record) (clean : Clean r) (given : Sound (contents r)) where
  -- The slots.
  abbrev u : ℕ → Report
  u = slot_of r

  -- The settings pass 5 to 8.
  settings_given : first (setting_rows r.set) ≡ 0
  unfolding contents
  settings_given = given.settings

  -- So the own number has a row.
  id_given : r.set.id < rows
  id_given = omega (arith, id_below r.set settings_given, size_below r.set settings_given)

  -- The slots of each kind and sender hold what is read off them.
  held_given : (k j : ℕ) → 1 ≤ k → k ≤ kinds → j < rows → Held u k j
  held_given k j low high row = record {
    head = (filled_of r clean).head k j low high row;
    told = λ w lw seven. (filled_of r clean).told k w j seven high lw row;
  }

  -- A frame that is kept passes its test.
  passed_given : (k j : ℕ) → 1 ≤ k → k ≤ kinds → j < rows → (u (frame_slot k j)).mark ≡ 1 → Passed r.set r.view (frame_held u k j)
  unfolding contents frame_held
  passed_given k j low high row e =
      let kept : (contents r).kept k j ≡ some (frame_held u k j) = kept_at r k j low high row ∙ kept_there u k j e in
      let is = given.kept k j (frame_held u k j) kept in
      record {
        row = is.row;
        behind = behind_of r.set r.view (frame_held u k j)
            (λ own other. given.own k (frame_held u k j) (subst (λ (i : ℕ). (contents r).kept k i ≡ some (frame_held u k j)) own kept) other);
        content = is.content;
        leader = is.leader;
      }

  -- So each kind and sender passes its test, with a frame or without.
  place_given : (k j : ℕ) → 1 ≤ k → k ≤ kinds → j < rows → place_sound u r.set r.view k j ≡ true
  unfolding frame_held
  place_given k j low high row = go (which (present (u (frame_slot k j))))
    where
      go : (present (u (frame_slot k j)) ≡ true) ⊎ (present (u (frame_slot k j)) ≡ false) → place_sound u r.set r.view k j ≡ true
      go (inl e) =
          let m = eqb-true (u (frame_slot k j)).mark 1 e in
          let head = (held_given k j low high row).head ∙ ap head_of (kept_there u k j m) in
          place_of_frame u r.set r.view k j m (plan_only u k j (form k low high) (ap (λ (x : Report). x.plan) head))
          ∙ passed_sound r.set r.view (frame_held u k j) (passed_given k j low high row m)
      go (inr e) =
          let m = eqb-false (u (frame_slot k j)).mark 1 e in
          place_empty u r.set r.view k j m ∙ empty_of u k j m (held_given k j low high row)

  -- And all of them together.
  rows_given : rows_sound u r.set r.view ≡ true
  unfolding rows_sound kind_sound
  rows_given = all_of (λ k. kind_sound u r.set r.view (k + 1)) kinds (λ k low.
      all_of (place_sound u r.set r.view (k + 1)) rows (λ j row. place_given (k + 1) j (omega arith) (omega arith) row))

  -- Each previous vote passes its test.
  previous_given : (k : ℕ) → has_previous k ≡ true → previous_sound u r.set.id (suc k) ≡ true
  unfolding previous_sound stands contents
  previous_given k has =
      both_join (not (bad_form (u (previous_slot (suc k))))) (not (bad_previous (u (frame_slot (suc k) r.set.id)) (u (previous_slot (suc k)))))
      (ap not (formed_of (u (previous_slot (suc k))) ((filled_of r clean).previous k has)))
      (ap not (sym (stands_spelt r clean id_given k has) ∙ given.previous k has))

  -- And with them the decision.
  votes_given : votes_sound u r.set.id ≡ true
  unfolding votes_sound
  votes_given =
      both_join (previous_sound u r.set.id 2) (previous_sound u r.set.id 3 && not (bad_form (u decision_slot))) (previous_given 1 refl)
      (both_join (previous_sound u r.set.id 3) (not (bad_form (u decision_slot))) (previous_given 2 refl)
      (ap not (formed_of (u decision_slot) (filled_of r clean).decision)))

  -- A clean record whose contents are sound passes the test.
  pub sound_contents : sound r ≡ true
  unfolding sound_in
  sound_contents =
      both_join (eqb (first (setting_rows r.set)) 0) (rows_sound u r.set r.view && votes_sound u r.set.id)
      (eq-eqb (first (setting_rows r.set)) 0 settings_given)
      (both_join (rows_sound u r.set r.view) (votes_sound u r.set.id) rows_given votes_given)

-- ---- what is lent

-- The test says sound only where the length is right and the slots pass.
sound_only : (a b c : Bool) → cond a (cond b lent.Blank (cond c lent.Sound lent.Unsound)) lent.Unsound ≡ lent.Sound
    → (a ≡ true) × (c ≡ true)
sound_only true true c e = let z : ◌≡◌ {A = ℕ} 0 1 = cc in absurd (omega arith)
sound_only true false true e = (refl, refl)
sound_only true false false e = let z : ◌≡◌ {A = ℕ} 0 1 = cc in absurd (omega arith)
sound_only false b c e = let z : ◌≡◌ {A = ℕ} 0 1 = cc in absurd (omega arith)

-- Lent bytes that are sound have a record's length.
pub size_sound : (rec : List ℕ) → lent_is rec ≡ lent.Sound → length rec ≡ record_size
unfolding lent_is
size_sound rec e =
    eqb-true (length rec) record_size (sound_only (eqb (length rec) record_size) (eqb (decode_record rec).set.n 0) (sound (decode_record rec)) e).0

-- They hold just their contents, and these are sound and have their widths.
pub sound_read : (rec : List ℕ) → Bytes rec → lent_is rec ≡ lent.Sound
    → Clean (decode_record rec) × Sound (contents (decode_record rec)) × Ranged (contents (decode_record rec))
unfolding lent_is
sound_read rec bytes e =
    let given = (sound_only (eqb (length rec) record_size) (eqb (decode_record rec).set.n 0) (sound (decode_record rec)) e).1 in
    let fit = fits_decoded rec bytes in
    (clean_sound (decode_record rec) fit given, contents_sound (decode_record rec) fit given, ranged_fits (decode_record rec) fit)

-- ---- what is written and lent again

module _ (c : Record) (held : Sound c) (ranged : Ranged c) (two : Placed c) where
  -- The bytes that contents spell are read as the record that they fill.
  pub decoded_back : decode_record (encode_record (slotted c)) ≡ slotted c
  decoded_back = decode_encode (slotted c) (fits_slotted c held ranged)

  -- So the contents are read back from their bytes.
  pub held_back : contents (decode_record (encode_record (slotted c))) ≡ c
  held_back = ap contents decoded_back ∙ contents_slotted c held two

  -- The bytes are not blank, as n is above the own number.
  not_blank : (decode_record (encode_record (slotted c))).set.n ≡ 0 → ⊥
  unfolding slotted
  not_blank e =
      let is : c.set.n ≡ 0 = sym (ap (λ (q : slots.Record). q.set.n) decoded_back) ∙ e in
      omega (arith, id_below c.set held.settings)

  -- The slots that they fill pass the test.
  sound_back : sound (slotted c) ≡ true
  sound_back = sound_contents (slotted c) (clean_slotted c held) (subst Sound (sym (contents_slotted c held two)) held)

  -- So bytes that contents spell are sound when they are lent.
  pub lent_back : lent_is (encode_record (slotted c)) ≡ lent.Sound
  lent_back =
      lent_other (encode_record (slotted c)) (encode_size (slotted c)) not_blank
      ∙ ap (λ (b : Bool). cond b lent.Sound lent.Unsound) (ap sound decoded_back ∙ sound_back)
