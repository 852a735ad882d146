-- A suggest is refused at a vault that does not lead its view. A frame call that is accepted, on whatever record and with whatever output space,
-- has read a frame; the bytes of a valid frame say that frame; and row 15 is not given where a suggest is read.
-- Assumes nothing.
use Prim.Native.Nat.{ℕ}
use mathlib.Core.Path.{◌≡◌, refl, sym, ap, subst, ◌∙◌}
use mathlib.Core.Logic.{⊎_elim}
use mathlib.Core.Bool.{Bool, true, false, not, ◌&&◌, cond}
use mathlib.Core.List.{List}
use native.Mathlib.Omega.{arith}
use lib.Dec.{ltb, eqb}
use borrow.Author.Tests.{eqb-true, eq-eqb}
use lib.ListN.{length}
use Rattle.rules.proofs.Bools.{which, clash, both_join}
use Rattle.frame.specs.declared.Frame.{Frame}
use Rattle.frame.specs.Refusal.{Reading, Accepted, Refused}
use Rattle.frame.specs.Format.{encode}
use Rattle.frame.specs.Valid.{Valid}
use Rattle.frame.specs.Refusal.{first, leader_of, misled, leader_rows, read_frame}
use Rattle.frame.proofs.Laws.{none as row_free, neither}
use Rattle.frame.proofs.Theorems.{decode_encoded, passed}
use Rattle.record.specs.Layout.{decode_record}
use Rattle.sound.specs.declared.Lent.{Lent}
use Rattle.sound.specs.declared.Lent.TheVariants.{Blank, Unsound, Sound}
use Rattle.sound.specs.inside.Sound.{lent_is}
use Rattle.protocol.specs.Calls as by
use Rattle.protocol.specs.Calls.{answer}
use Rattle.contents.specs.Calls.{left_after, on_lent, called, frame_left}
use Rattle.contents.specs.Contents.{contents_in}
use Rattle.contents.specs.Left.{gave}
use Rattle.runs.specs.Runs.{frame, is_accepted}
use Rattle.runs.specs.Fixed.{leaves}
use Rattle.rehearsed.specs.Sentences.{SuggestsAreForLeaders}

-- A vault that passes row 15 with a suggest leads its view.
leads_here : (x : Frame) (n v : ℕ) → x.kind ≡ 7 → first (leader_rows x n v) ≡ 0 → leader_of x.view n ≡ v
unfolding misled
leads_here x n v seven passes =
    let (both, _) = row_free (misled x.kind x.sender x.view n v) 15 0 (omega arith) passes in
    let (_, off) = neither (eqb x.kind 1 && not (eqb (leader_of x.view n) x.sender)) (eqb x.kind 7 && not (eqb (leader_of x.view n) v)) both in
    ⊎_elim (eqb-true (leader_of x.view n) v)
    (λ other. absurd (clash (both_join (eqb x.kind 7) (not (eqb (leader_of x.view n) v)) (eq-eqb x.kind 7 seven) (ap not other)) off))
    (which (eqb (leader_of x.view n) v))

-- A frame call that is accepted has read a frame.
accepted_reads : (rec out : List ℕ) (link : ℕ) (bytes : List ℕ) → is_accepted (frame_left rec link bytes out) ≡ true
    → (y : Frame) × (read_frame bytes link (decode_record rec).set.n (decode_record rec).set.id ≡ Accepted y)
unfolding frame_left called answer
accepted_reads rec out link bytes = go (ltb (length out) 256) (lent_is rec) reading refl
  where
    reading : Reading
    reading = read_frame bytes link (decode_record rec).set.n (decode_record rec).set.id

    go : (short : Bool) (l : Lent) (x : Reading) → reading ≡ x
        → is_accepted (cond short (gave 1 rec out) (left_after rec out (on_lent l 3 (contents_in rec) (by.frame x)))) ≡ true
        → (y : Frame) × (reading ≡ Accepted y)
    go true l x is goes = absurd (clash goes refl)
    go false Blank x is goes = absurd (clash goes refl)
    go false Unsound x is goes = absurd (clash goes refl)
    go false Sound (Refused k) is goes = absurd (clash goes refl)
    go false Sound (Accepted y) is goes = (y, is)

-- So a vault that accepts a suggest leads its view.
pub accepted_leads : (rec out : List ℕ) (link : ℕ) (x : Frame) → Valid x → x.kind ≡ 7 → is_accepted (leaves rec (frame link (encode x)) out) ≡ true
    → leader_of x.view (decode_record rec).set.n ≡ (decode_record rec).set.id
accepted_leads rec out link x valid seven goes =
    let n = (decode_record rec).set.n in
    let id = (decode_record rec).set.id in
    let (y, read) = accepted_reads rec out link (encode x) goes in
    let p = passed (encode x) link n id y read in
    let same : y ≡ x = sym p.said ∙ decode_encoded x valid in
    leads_here x n id seven (subst (λ (z : Frame). first (leader_rows z n id) ≡ 0) same p.leader)

-- And one that does not lead it refuses.
pub suggests_are_for_leaders : SuggestsAreForLeaders
suggests_are_for_leaders rec out link x valid seven other =
    ⊎_elim (λ goes. absurd (other (accepted_leads rec out link x valid seven goes))) (λ refuses. refuses)
    (which (is_accepted (leaves rec (frame link (encode x)) out)))
