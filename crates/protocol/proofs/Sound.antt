-- An accepted call leaves a sound record whose numbers have their widths, and writes entries that have bytes.
-- Each act is looked at once: the frame that it puts into the own row is sendable (Slots), of the current view, and the previous
-- vote stands to the new highest one. Plans that it writes come from kept frames or from the start. So refusal 3 never meets a
-- record that calls left.
-- Assumes nothing.
use Prim.Native.Nat.{ℕ, zero, suc, ◌^◌, ◌≤◌, ◌<◌}
use mathlib.Core.Path.{◌≡◌, refl, sym, ◌∙◌, ap, subst}
use mathlib.Core.Logic.{◌≢◌, ◌⊎◌, inl, inr, ⊎_elim}
use mathlib.Core.Bool.{Bool, true, false, cond}
use mathlib.Core.Option.{Option, none, some}
use native.Mathlib.Omega.{arith}
use native.Mathlib.Nat.{mod-lt}
use lib.Dec.{ltb, eqb}
use borrow.Author.Tests.{eqb-true, eqb-false, leb-false, ltb-false}
use Rattle.rules.specs.Quorums.{Quorum}
use Rattle.rules.proofs.Bools.{which, clash, either}
use Rattle.rules.specs.Options.{holds}
use Rattle.rules.specs.Rules.{Vote, Report, Rule, rule1, rule3, claim_vote, lock_vote, Chosen}
use Rattle.rules.specs.Rules as Rules
use Rattle.rules.specs.inside.Counts.{names}
use Rattle.rules.proofs.Laws.{holds_where, safe_named}
use Rattle.rules.proofs.Reports.{none≢some}
use Rattle.frame.specs.declared.Frame.{Frame}
use Rattle.frame.specs.Refusal.{first, leader_of}
use Rattle.frame.proofs.Laws.{neither}
use Rattle.entry.specs.Valid.{AllValid}
use Rattle.settings.specs.Settings.{setting_rows, delay_of}
use Rattle.protocol.specs.Record.{Record, kind_of, keeping, vaults, leader, leads, vote_of, reports_of, sent_now, change_frame, vote_frame, report_frame}
use Rattle.protocol.specs.Tables.{put}
use Rattle.settings.specs.declared.Settings.{Settings}
use Rattle.protocol.specs.Pass.{Act, ask, enter, cast, decide, shift, has_previous, entered, does, suggest_entry, writes}
use Rattle.protocol.specs.inside.Sound.{FitsVote, Ranged}
use Rattle.protocol.specs.Sound.{InRow, Sound}
use Rattle.protocol.proofs.Tables.{keep_was, each_some, when_some}
use Rattle.protocol.proofs.May.{Held, Reached, Wished, May, proposed_chosen}
use Rattle.protocol.proofs.Good.{vote_by_plan, is_cast, vote_kept, vote_cast, previous_kept, previous_cast, previous_below}
use Rattle.protocol.proofs.Tops.{claim_below, lock_below}
use Rattle.protocol.proofs.Went.{none_given, third_of}
use Rattle.protocol.proofs.Agreed.{quorum_member}
use Rattle.protocol.proofs.Slots.{Under, Stands, stands_of, stands_to, shift_stands, Sendable, change_sendable, vote_sendable, report_sendable}
use Rattle.protocol.proofs.Slots.{view_fits, vote_fits, ReportFits, report_fits}

-- ---- settings

-- Row 7 leaves the vault's number below n.
pub id_below : (s : Settings) → first (setting_rows s) ≡ 0 → s.id < s.n
id_below s e = leb-false s.n s.id (none_given (setting_rows s) e).1.1.0

-- Row 5 leaves n at most 64.
pub size_below : (s : Settings) → first (setting_rows s) ≡ 0 → s.n ≤ 64
size_below s e = ltb-false 64 s.n (neither (ltb s.n 4) (ltb 64 s.n) (none_given (setting_rows s) e).0).1

-- No delay is above 5000 milliseconds, so a timer entry's number fits.
pub delay_low : (class : ℕ) → delay_of class ≤ 5000
unfolding delay_of
delay_low zero = omega arith
delay_low (suc zero) = omega arith
delay_low (suc (suc zero)) = omega arith
delay_low (suc (suc (suc zero))) = omega arith
delay_low (suc (suc (suc (suc zero)))) = omega arith
delay_low (suc (suc (suc (suc (suc zero))))) = omega arith
delay_low (suc (suc (suc (suc (suc (suc zero)))))) = omega arith
delay_low (suc (suc (suc (suc (suc (suc (suc zero))))))) = omega arith
delay_low (suc (suc (suc (suc (suc (suc (suc (suc c)))))))) = omega arith

-- Of votes without a previous one, none is kept.
untold_cast : (r : Record) (k p : ℕ) → has_previous k ≡ false → (does r (cast k p)).previous k ≡ r.previous k
unfolding does
untold_cast r k p has = ap (λ (b : Bool). cond b (put k (shift p (vote_of r k r.set.id) (r.previous k)) r.previous) r.previous k) has

-- ---- a record with both

-- Sound, with numbers of their widths: what one act is shown to keep.
pub record Whole (r : Record) : Type 0 where
  pub sound : Sound r
  pub ranged : Ranged r

module _ {r : Record} (w : Whole r) where
  -- The vault's number is one byte.
  small : r.set.id < 256
  small = omega (arith, id_below r.set w.sound.settings, size_below r.set w.sound.settings)

  -- A vote of the own row is not above the current view, and below it where it was not sent now.
  own_low : (k : ℕ) (x : Vote) → k < 5 → vote_of r k r.set.id ≡ some x → x.view ≤ r.view
  own_low k x low e =
      let (y, is, v) = each_some (r.kept (suc k) r.set.id) _ e in
      let (body, view) = vote_by_plan y.view y.body v in
      let le : y.view ≤ r.view = w.sound.own (suc k) y is (λ (z : suc k ≡ 6). omega arith) in
      omega arith

  -- A vote of the own row that was not sent in this view is of an earlier one.
  own_before : (k : ℕ) → k < 5 → sent_now r k ≡ false → Under r.view (vote_of r k r.set.id)
  own_before k low new x e =
      let le : x.view ≤ r.view = own_low k x low e in
      go (which (eqb x.view r.view)) le
    where
      go : (eqb x.view r.view ≡ true) ⊎ (eqb x.view r.view ≡ false) → x.view ≤ r.view → x.view < r.view
      go (inl same) le = let sent : sent_now r k ≡ true = rw (e, same) in absurd (clash sent new)
      go (inr other) le = let ne : x.view ≢ r.view = eqb-false x.view r.view other in omega arith

  -- The previous vote stands to the highest one, as row 22 asks.
  previous_stands : (k : ℕ) → has_previous k ≡ true → Stands (vote_of r k r.set.id) (r.previous k)
  previous_stands k has = stands_of (vote_of r k r.set.id) (r.previous k) (w.sound.previous k has)

  -- The previous vote is not above the current view.
  previous_low : (k : ℕ) (x : Vote) → has_previous k ≡ true → r.previous k ≡ some x → x.view ≤ r.view
  previous_low k x has e =
      let (y, is, low, other) = previous_stands k has x e in
      let le : y.view ≤ r.view = own_low k y (previous_below k has) is in
      omega arith

  -- ---- the widths of what may be written

  -- A kept vote has its widths.
  vote_width : (k j : ℕ) (x : Vote) → vote_of r k j ≡ some x → FitsVote x
  vote_width k j x e = let (y, is, v) = each_some (r.kept (suc k) j) _ e in vote_fits y (w.sound.kept (suc k) j y is).valid x v

  -- A view for which a view-change is kept is 32 bits wide.
  pub wish_width : (v : ℕ) → Wished r v → v < 2 ^ 32
  wish_width v (j, e) =
      let (y, is, q) = each_some (r.kept 6 j) _ e in
      let same : y.view ≡ v = cc in
      rw same at (view_fits y (w.sound.kept 6 j y is).valid)

  -- The votes of a kept report have their widths.
  report_width : (rule : Rule) (j : ℕ) (x : Report) → reports_of r rule j ≡ some x → ReportFits x
  report_width rule j x e =
      let (y, is, q) = each_some (r.kept (kind_of rule) j) _ e in
      let (now, body) = when_some (eqb y.view r.view) _ q in
      report_fits y (w.sound.kept (kind_of rule) j y is).valid x body

  -- Some kept vote is among a quorum.
  some_held : (k p : ℕ) → Quorum (vaults r) (Held r k p) → (j : ℕ) × Held r k p j
  some_held k p q = let (j, low, held) = quorum_member r (third_of r.set w.sound.settings) q in (j, held)

  -- The plan of a kept vote is 64 bits wide.
  held_width : (k p j : ℕ) → Held r k p j → p < 2 ^ 64
  held_width k p j e = (vote_width k j _ e).1

  -- A plan that a report names is 64 bits wide.
  named_width : (p : ℕ) (x : Report) → ReportFits x → names p x ≡ true → p < 2 ^ 64
  unfolding names
  named_width p x fit h = ⊎_elim (of x.lock fit.lock) (of x.highest fit.highest) (either (holds (λ y. eqb y.plan p) x.lock) _ h)
    where
      of : (o : Option Vote) → ((y : Vote) → o ≡ some y → FitsVote y) → holds (λ y. eqb y.plan p) o ≡ true → p < 2 ^ 64
      of o fit h = let (y, is, same) = holds_where o (λ y. eqb y.plan p) h in rw (eqb-true y.plan p same) at (fit y is).1

  -- Step C's choice is 64 bits wide: the starting plan is, and another is named by a report.
  chosen_width : (p : ℕ) {o : Option ℕ} → Chosen (vaults r) (reports_of r rule1) r.view r.start o → o ≡ some p → p < 2 ^ 64
  chosen_width p (Rules.own safe) e = let is : r.start ≡ p = cc in rw is at w.ranged.start
  chosen_width p (Rules.other {o = none} never least) e = absurd (none≢some e)
  chosen_width p (Rules.other {o = some q} never least) e =
      let is : q ≡ p = cc in
      let (j, low, named) = safe_named (vaults r) (reports_of r rule1) r.view r.start q never least.0 in
      let (x, at, h) = holds_where (reports_of r rule1 j) (names q) named in
      rw is at (named_width q x (report_width rule1 j x at) h)

  -- So is every plan that the vault may vote for or decide.
  plan_width : (k p : ℕ) → Reached r k p → p < 2 ^ 64
  plan_width zero p (lead, e) = chosen_width p (proposed_chosen r p e) refl
  plan_width (suc zero) p (safe, held) = held_width 0 p (leader r r.view) held
  plan_width (suc (suc k)) p q = let (j, held) = some_held (suc k) p q in held_width (suc k) p j held

  -- ---- the frames

  -- A vault that may propose leads the view.
  pub leads_first : (k p : ℕ) → Reached r k p → k ≡ 0 → leader_of r.view r.set.n ≡ r.set.id
  leads_first zero p (lead, chosen) e = lead
  leads_first (suc k) p why e = absurd (omega arith)

  -- The vote that it may send is sendable.
  pub vote_goes : (k p : ℕ) → May r (cast k p) → Sendable r.set.n r.set.id (vote_frame r k p)
  vote_goes k p may = vote_sendable r.set.n r.set.id small k r.view p may.0 (leads_first k p may.2) w.ranged.view (plan_width k p may.2)

  -- The suggest and proof that it sends on entering a view are sendable.
  pub report_goes : (v : ℕ) → r.view < v → v < 2 ^ 32 → (rule : Rule) → Sendable r.set.n r.set.id (report_frame r rule v)
  report_goes v later low rule =
      report_sendable r.set.n r.set.id small rule v (vote_of r (claim_vote rule) r.set.id) (r.previous (claim_vote rule))
      (vote_of r (lock_vote rule) r.set.id)
      (omega arith) low
      (λ x e. omega (arith, own_low (claim_vote rule) x (claim_below rule).0 e))
      (λ x e. omega (arith, previous_low (claim_vote rule) x (claim_below rule).1 e))
      (λ x e. omega (arith, own_low (lock_vote rule) x (lock_below rule) e))
      (w.sound.previous (claim_vote rule) (claim_below rule).1)
      (vote_width (claim_vote rule) r.set.id) (w.ranged.previous (claim_vote rule)) (vote_width (lock_vote rule) r.set.id)

  -- A sendable frame of its own belongs into its own row.
  own_row : (y : Frame) → y.sender ≡ r.set.id → Sendable r.set.n r.set.id y → (y.kind ≡ 7 → leader_of y.view r.set.n ≡ r.set.id)
      → InRow r.set y.kind y.sender y
  own_row y own ok led = record {
    row = subst (λ (j : ℕ). j < r.set.n) (sym own) (id_below r.set w.sound.settings);
    kind = refl;
    sender = refl;
    valid = ok.valid;
    content = ok.content;
    leader = ok.leader led;
  }

  -- ---- the acts

  -- Every kept frame is still in its row, once a frame that belongs there is kept.
  pub rows_by : (y : Frame) (t : ℕ → ℕ → Option Frame) → InRow r.set y.kind y.sender y → ((k j : ℕ) (x : Frame) → t k j ≡ some x → InRow r.set k j x)
      → (k j : ℕ) (x : Frame) → keeping y t k j ≡ some x → InRow r.set k j x
  rows_by y t new old k j x e = ⊎_elim
      (λ (kind, sender, same). subst (λ (z : Frame). InRow r.set k j z) same
      (subst (λ (i : ℕ). InRow r.set k i y) sender (subst (λ (i : ℕ). InRow r.set i y.sender y) kind new)))
      (old k j x) (keep_was y t k j e)

  -- No frame of the own row but the view-change is above view v, once one that is not is kept.
  own_by : (v : ℕ) (y : Frame) (t : ℕ → ℕ → Option Frame) → (y.kind ≢ 6 → y.view ≤ v) → ((k : ℕ) (x : Frame) → t k r.set.id ≡ some x → k ≢ 6 → x.view ≤ v)
      → (k : ℕ) (x : Frame) → keeping y t k r.set.id ≡ some x → k ≢ 6 → x.view ≤ v
  own_by v y t new old k x e other = ⊎_elim
      (λ (kind, sender, same). subst (λ (z : Frame). z.view ≤ v) same (new (λ (six : y.kind ≡ 6). other (sym kind ∙ six))))
      (λ was. old k x was other) (keep_was y t k r.set.id e)

  -- After an act the previous vote stands to the highest one, old or new.
  previous_now : (a : Act) → May r a → (k : ℕ) → has_previous k ≡ true → Stands (vote_of (does r a) k r.set.id) ((does r a).previous k)
  previous_now a may k has = go (is_cast a k)
    where
      go : ((p : ℕ) × (a ≡ cast k p)) ⊎ ((p : ℕ) → a ≡ cast k p → ⊥) → Stands (vote_of (does r a) k r.set.id) ((does r a).previous k)
      go (inr other) =
          subst (λ (o : Option Vote). Stands o ((does r a).previous k)) (sym (vote_kept r a k r.set.id (previous_below k has) other))
          (subst (Stands (vote_of r k r.set.id)) (sym (previous_kept r a k other)) (previous_stands k has))
      go (inl (p, is)) =
          let (low, new, why) = subst (May r) is may in
          subst (λ (o : Option Vote). Stands o ((does r a).previous k)) (sym (ap (λ (b : Act). vote_of (does r b) k r.set.id) is ∙ vote_cast r k p))
          (subst (Stands (some (record { view = r.view; plan = p }))) (sym (ap (λ (b : Act). (does r b).previous k) is ∙ previous_cast r k p has))
          (shift_stands r.view p (vote_of r k r.set.id) (r.previous k) (own_before k low new) (previous_stands k has)))

  -- The view that it may ask for is 32 bits wide.
  ask_width : (v : ℕ) → May r (ask v) → v < 2 ^ 32
  ask_width v (above, from) = ⊎_elim (wish_width v) (λ (is, room). omega (arith, w.ranged.view, is, room)) from

  -- The view-change that it may send is sendable.
  pub change_goes : (v : ℕ) → May r (ask v) → Sendable r.set.n r.set.id (change_frame r v)
  change_goes v may = change_sendable r.set.n r.set.id small v (omega (arith, may.0)) (ask_width v may)

  -- An act that the record allows leaves it sound.
  act_sound : (a : Act) → May r a → Sound (does r a)
  unfolding does
  act_sound (ask v) may = record {
    settings = w.sound.settings;
    kept = rows_by (change_frame r v) r.kept (own_row (change_frame r v) refl (change_goes v may) (λ (e : 6 ≡ 7). absurd (omega arith))) w.sound.kept;
    own = own_by r.view (change_frame r v) r.kept (λ six. absurd (six refl)) w.sound.own;
    previous = λ k has. stands_to (vote_of (does r (ask v)) k r.set.id) (r.previous k) (previous_now (ask v) may k has);
  }
  act_sound (enter v) may = record {
    settings = w.sound.settings;
    kept = rows (leads r v) refl;
    own = owns (leads r v);
    previous = λ k has. stands_to (vote_of (does r (enter v)) k r.set.id) (r.previous k) (previous_now (enter v) may k has);
  }
    where
      goes : (rule : Rule) → Sendable r.set.n r.set.id (report_frame r rule v)
      goes = report_goes v may.0 (wish_width v may.1)

      proofs : (k j : ℕ) (x : Frame) → keeping (report_frame r rule3 v) r.kept k j ≡ some x → InRow r.set k j x
      proofs =
          rows_by (report_frame r rule3 v) r.kept (own_row (report_frame r rule3 v) refl (goes rule3) (λ (e : 8 ≡ 7). absurd (omega arith))) w.sound.kept

      rows : (b : Bool) → leads r v ≡ b → (k j : ℕ) (x : Frame) → entered r v b k j ≡ some x → InRow r.set k j x
      rows true lead = rows_by (report_frame r rule1 v) (keeping (report_frame r rule3 v) r.kept)
          (own_row (report_frame r rule1 v) refl (goes rule1) (λ e. eqb-true (leader r v) r.set.id lead)) proofs
      rows false other = proofs

      older : (k : ℕ) (x : Frame) → r.kept k r.set.id ≡ some x → k ≢ 6 → x.view ≤ v
      older k x e other = omega (arith, may.0, w.sound.own k x e other)

      own_proofs : (k : ℕ) (x : Frame) → keeping (report_frame r rule3 v) r.kept k r.set.id ≡ some x → k ≢ 6 → x.view ≤ v
      own_proofs = own_by v (report_frame r rule3 v) r.kept (λ six. omega arith) older

      owns : (b : Bool) (k : ℕ) (x : Frame) → entered r v b k r.set.id ≡ some x → k ≢ 6 → x.view ≤ v
      owns true = own_by v (report_frame r rule1 v) (keeping (report_frame r rule3 v) r.kept) (λ six. omega arith) own_proofs
      owns false = own_proofs
  act_sound (cast k p) may = record {
    settings = w.sound.settings;
    kept = rows_by (vote_frame r k p) r.kept (own_row (vote_frame r k p) refl
        (vote_goes k p may)
        (λ (e : suc k ≡ 7). absurd (omega (arith, may.0)))) w.sound.kept;
    own = own_by r.view (vote_frame r k p) r.kept (λ six. omega arith) w.sound.own;
    previous = λ k' has. stands_to (vote_of (does r (cast k p)) k' r.set.id) ((does r (cast k p)).previous k') (previous_now (cast k p) may k' has);
  }
  act_sound (decide p) may = record { settings = w.sound.settings; kept = w.sound.kept; own = w.sound.own; previous = w.sound.previous }

  -- After an act the previous votes have their widths: each is an old one, or was the highest.
  previous_width : (a : Act) (k : ℕ) (x : Vote) → (does r a).previous k ≡ some x → FitsVote x
  previous_width a k x e = go (is_cast a k)
    where
      shifts : (p : ℕ) (top : Option Vote) → vote_of r k r.set.id ≡ top → shift p top (r.previous k) ≡ some x → FitsVote x
      shifts p none is e = w.ranged.previous k x e
      shifts p (some y) is e = by (eqb y.plan p) e
        where
          by : (b : Bool) → cond b (r.previous k) (some y) ≡ some x → FitsVote x
          by true e = w.ranged.previous k x e
          by false e = let same : y ≡ x = cc in rw same at (vote_width k r.set.id y is)

      casts : (p : ℕ) → a ≡ cast k p → (has_previous k ≡ true) ⊎ (has_previous k ≡ false) → FitsVote x
      casts p is (inl has) = shifts p (vote_of r k r.set.id) refl (sym (previous_cast r k p has) ∙ ap (λ (b : Act). (does r b).previous k) (sym is) ∙ e)
      casts p is (inr has) = w.ranged.previous k x (sym (untold_cast r k p has) ∙ ap (λ (b : Act). (does r b).previous k) (sym is) ∙ e)

      go : ((p : ℕ) × (a ≡ cast k p)) ⊎ ((p : ℕ) → a ≡ cast k p → ⊥) → FitsVote x
      go (inl (p, is)) = casts p is (which (has_previous k))
      go (inr other) = w.ranged.previous k x (sym (previous_kept r a k other) ∙ e)

  -- An act that the record allows leaves numbers of their widths.
  act_ranged : (a : Act) → May r a → Ranged (does r a)
  unfolding does
  act_ranged (ask v) may = record { start = w.ranged.start; view = w.ranged.view; previous = w.ranged.previous; decision = w.ranged.decision }
  act_ranged (enter v) may = record { start = w.ranged.start; view = wish_width v may.1; previous = w.ranged.previous; decision = w.ranged.decision }
  act_ranged (cast k p) may = record { start = w.ranged.start; view = w.ranged.view; previous = previous_width (cast k p); decision = w.ranged.decision }
  act_ranged (decide p) may = record {
    start = w.ranged.start;
    view = w.ranged.view;
    previous = w.ranged.previous;
    decision = λ x e. let is : record { view = r.view; plan = p } ≡ x = cc in rw (← is) (w.ranged.view, plan_width 5 p may.1);
  }

  -- Both together.
  pub act_whole : (a : Act) → May r a → Whole (does r a)
  act_whole a may = record { sound = act_sound a may; ranged = act_ranged a may }

  -- The entries that an act writes have bytes.
  pub act_valid : (a : Act) → May r a → AllValid (writes r a)
  unfolding writes
  act_valid (ask v) may = ((change_goes v may).valid, tt)
  act_valid (enter v) may =
      ((wish_width v may.1, omega (arith, delay_low r.set.class)), ((goes rule3).valid, rest (leads r v)))
    where
      goes : (rule : Rule) → Sendable r.set.n r.set.id (report_frame r rule v)
      goes = report_goes v may.0 (wish_width v may.1)

      leader_below : leader r v < r.set.n
      leader_below = mod-lt v (omega (arith, id_below r.set w.sound.settings))

      rest : (b : Bool) → AllValid (suggest_entry r v b)
      rest true = tt
      rest false = ((omega (arith, leader_below, size_below r.set w.sound.settings), (goes rule1).valid), tt)
  act_valid (cast k p) may = ((vote_goes k p may).valid, tt)
  act_valid (decide p) may = ((w.ranged.view, plan_width 5 p may.1), tt)
