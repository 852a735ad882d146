-- The call on the 39 bytes of a suggest or proof that was read, or is kept in a sound record, answers with what the search asks (document 02, wish 7: 'Everything
-- that asks about claims uses this answer'). Such a frame is valid and passes 14 and 22, and its bytes behind the view spell its three reports.
-- Assumes nothing.
use Prim.Native.Nat.{ℕ, ◌+◌, ◌≤◌}
use mathlib.Core.Path.{◌≡◌, refl, sym, ap, subst, subst⁻¹, ◌∙◌}
use mathlib.Core.List.{List, []}
use mathlib.Core.Option.{some}
use native.Mathlib.Omega.{arith}
use lib.ListN.{length, get_or, take, drop, length-drop}
use lib.Seq.{take_all}
use Rattle.wire.specs.Digits.{number_at}
use native.Mathlib.Nat.{add_assoc}
use Rattle.rules.specs.Rules.{Report, reach}
use Rattle.rules.proofs.Reports.{none≢some}
use Rattle.frame.specs.declared.Reports.{Reports}
use Rattle.frame.specs.declared.Body.{Body}
use Rattle.frame.specs.declared.Body.TheVariants.{Plan, Empty, Told}
use Rattle.frame.specs.declared.Frame.{Frame}
use Rattle.frame.specs.Format.{three_reports, reports_of, report_at, reports_at, encode, decode}
use Rattle.frame.specs.Refusal.{first, content_rows}
use Rattle.frame.specs.Valid.{fits, Valid}
use Rattle.frame.specs.Sentences.{Faultless}
use Rattle.frame.proofs.Laws.{bounds, length_reports, body_of_reports}
use Rattle.frame.proofs.Faults.{faultless}
use Rattle.frame.proofs.Theorems as read
use Rattle.frame.proofs.Theorems.{decode_encoded, encode_length, only_spelling, accepted_valid}
use Rattle.record.proofs.Bytes.{byte_part, number_part}
use Rattle.protocol.specs.Record.{report_by}
use Rattle.contents.proofs.Lent.{lent_is_said}
use Rattle.reach.specs.Call.{View}
use Rattle.reach.specs.Call.{told_rows, said_reach, claim_reach}
use Rattle.reach.specs.Sentences.{votes_of, behind_view, KeptReach, ReadReach}
use Rattle.reach.proofs.Laws.{passed, reach_is_said, answered_by}

-- ---- the bytes behind the view

module _ (s : List ℕ) where
  -- A report there is the one at its place in the frame.
  report_behind : (at : ℕ) → at + 13 ≤ 39 → report_at (take 39 (drop 6 s)) at ≡ report_at s (6 + at)
  report_behind at inside =
      let view : number_at 4 (take 39 (drop 6 s)) (at + 1) ≡ number_at 4 s (6 + at + 1) =
      number_part 4 6 39 s (at + 1) (omega arith) ∙ ap (number_at 4 s) (sym (add_assoc 6 at 1)) in
      let plan : number_at 8 (take 39 (drop 6 s)) (at + 5) ≡ number_at 8 s (6 + at + 5) =
      number_part 8 6 39 s (at + 5) (omega arith) ∙ ap (number_at 8 s) (sym (add_assoc 6 at 5)) in
      λ i. record { mark = byte_part 6 39 s at (omega arith) i; view = view i; plan = plan i }

  -- So are all three.
  reports_behind : reports_at (take 39 (drop 6 s)) 0 ≡ reports_at s 6
  reports_behind = λ i. record {
    highest = report_behind 0 (omega arith) i;
    previous = report_behind 13 (omega arith) i;
    lock = report_behind 26 (omega arith) i;
  }

-- ---- a frame with reports

-- The reports that a body tells.
abbrev told_in : Body → Reports
told_in (Plan p) = reports_at [] 0
told_in Empty = reports_at [] 0
told_in (Told t) = t

module _ (x : Frame) (valid : Valid x) (t : Reports) (is : x.body ≡ Told t) where
  -- It is a suggest or a proof.
  reports_kind : (7 ≤ x.kind) × (x.kind ≤ 8)
  reports_kind = bounds 7 8 x.kind (ap (fits x.kind) (sym is) ∙ valid.shape)

  -- Behind its view are 39 bytes.
  size_behind : length (behind_view (encode x)) ≡ 39
  size_behind =
      let whole : length (encode x) ≡ 45 = encode_length x valid ∙ length_reports x.kind reports_kind.0 reports_kind.1 in
      omega (arith, length-drop 6 (encode x))

  -- They spell its reports.
  told_behind : t ≡ reports_at (behind_view (encode x)) 0
  unfolding decode
  told_behind =
      let s = encode x in
      let says = decode_encoded x valid in
      let kind : 7 ≤ get_or s 0 0 = subst⁻¹ (λ (k : ℕ). 7 ≤ k) (ap (λ (f : Frame). f.kind) says) reports_kind.0 in
      let body : Told (reports_at s 6) ≡ Told t = sym (body_of_reports (get_or s 0 0) s kind) ∙ (ap (λ (f : Frame). f.body) says ∙ is) in
      let cut : take 39 (drop 6 s) ≡ drop 6 s = take_all 39 (drop 6 s) (omega (arith, size_behind)) in
      sym (ap told_in body) ∙ (sym (reports_behind s) ∙ ap (λ (z : List ℕ). reports_at z 0) cut)

  -- Where it passes 14 and 22, so do they.
  free_behind : first (content_rows x) ≡ 0 → first (told_rows (three_reports t)) ≡ 0
  free_behind content =
      let faults = subst (λ (b : Body). Faultless x.view (reports_of b)) is (faultless x content) in
      rw (faults.form, faults.previous) refl

-- The call on the bytes behind the view answers with the reach of what the frame tells.
frame_reach : (x : Frame) (p : ℕ) (r : Report) → Valid x → first (content_rows x) ≡ 0 → report_by x.body ≡ some r
    → claim_reach (behind_view (encode x)) p ≡ View (reach r p)
frame_reach x p r valid content tells = go x.body refl tells
  where
    go : (b : Body) → x.body ≡ b → report_by b ≡ some r → claim_reach (behind_view (encode x)) p ≡ View (reach r p)
    go (Plan q) is e = absurd (none≢some e)
    go Empty is e = absurd (none≢some e)
    go (Told t) is e =
        let free = free_behind x valid t is content in
        let same : votes_of t ≡ r = cc in
        let said : said_reach t p ≡ reach r p = sym (reach_is_said t p (passed t free).1) ∙ ap (λ (y : Report). reach y p) same in
        sym (answered_by (behind_view (encode x)) p t (size_behind x valid t is) (told_behind x valid t is) (said_reach t p) free refl)
        ∙ ap (λ (k : ℕ). View k) said

-- So it is of every frame that a sound record keeps.
pub kept_reach : KeptReach
kept_reach s b sound k j p x r kept tells =
    let row = ((lent_is_said.sound s b).1 sound).sound.kept k j x kept in
    frame_reach x p r row.valid row.content tells

-- And of every frame that is read.
pub read_reach : ReadReach
read_reach s link n own p x r b reads tells =
    let spelt : encode x ≡ s = sym (only_spelling s link n own x b reads) in
    subst (λ (z : List ℕ). claim_reach (behind_view z) p ≡ View (reach r p)) spelt
    (frame_reach x p r (accepted_valid s link n own x b reads) (read.passed s link n own x reads).content tells)
