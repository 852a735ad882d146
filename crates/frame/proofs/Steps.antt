-- Reading step by step, as 'Checked downwards' has it (01, Refusals): each group of rows gives its number, or the next group decides.
-- A reader that tests the groups in this order cites one law at each of its answers.
-- Assumes nothing.
use Prim.Native.Nat.{ℕ, ◌<◌}
use mathlib.Core.Path.{◌≡◌, sym, ap, ◌∙◌}
use mathlib.Core.Bool.{◌||◌}
use mathlib.Core.List.{List, ◌++◌}
use native.Mathlib.Omega.{arith}
use borrow.Author.Tests.{ne_eqb, leb-false}
use lib.Dec.{leb, eqb}
use lib.ListN.{get_or}
use Rattle.frame.specs.declared.Frame.{Frame}
use Rattle.frame.specs.Refusal.{Accepted, Refused}
use Rattle.frame.specs.Format.{decode}
use Rattle.frame.specs.Refusal.{first, form_rows, link_rows, content_rows, leader_rows, refusal, read_frame}
use Rattle.frame.proofs.Laws.{first_some, first_none, none, neither}

module _ (s : List ℕ) (link n own : ℕ) where
  -- a table that gives a number
  refused : (k : ℕ) → (k ≡ 0 → ⊥) → refusal s link n own ≡ k → Refused k ≡ read_frame s link n own
  unfolding read_frame
  refused k z e = rw e (simp (ne_eqb k 0 z))

  -- a number given by rows 9 and 10 is the reader's answer
  pub by_form : (k : ℕ) → (k ≡ 0 → ⊥) → k ≡ first (form_rows s) → Refused k ≡ read_frame s link n own
  unfolding refusal
  by_form k z e =
      refused k z
      (first_some (form_rows s) (link_rows (get_or s 1 0) link n own ++ (content_rows (decode s) ++ leader_rows (decode s) n own)) (λ y. z (e ∙ y)) ∙ sym e)

  module _ (form : first (form_rows s) ≡ 0) where
    -- where rows 9 and 10 give nothing, rows 11 to 15, 21 and 22 decide
    after_form : refusal s link n own ≡ first (link_rows (get_or s 1 0) link n own ++ (content_rows (decode s) ++ leader_rows (decode s) n own))
    unfolding refusal
    after_form = first_none (form_rows s) (link_rows (get_or s 1 0) link n own ++ (content_rows (decode s) ++ leader_rows (decode s) n own)) (omega arith) form

    -- a number given by rows 11 and 12 is the reader's answer
    pub by_link : (k : ℕ) → (k ≡ 0 → ⊥) → k ≡ first (link_rows (get_or s 1 0) link n own) → Refused k ≡ read_frame s link n own
    by_link k z e =
        refused k z
        (after_form ∙ (first_some (link_rows (get_or s 1 0) link n own) (content_rows (decode s) ++ leader_rows (decode s) n own) (λ y. z (e ∙ y)) ∙ sym e))

    module _ (linked : first (link_rows (get_or s 1 0) link n own) ≡ 0) (f : Frame) (said : f ≡ decode s) where
      -- where rows 9 to 12 give nothing, rows 13 to 15, 21 and 22 decide, on the frame that the bytes say
      after_link : refusal s link n own ≡ first (content_rows f ++ leader_rows f n own)
      after_link =
          rw said (after_form ∙ first_none (link_rows (get_or s 1 0) link n own) (content_rows (decode s) ++ leader_rows (decode s) n own) (omega arith) linked)

      -- a number given by rows 13 to 15, 21 and 22 is the reader's answer
      pub by_the_frame : (k : ℕ) → (k ≡ 0 → ⊥) → k ≡ first (content_rows f ++ leader_rows f n own) → Refused k ≡ read_frame s link n own
      by_the_frame k z e = refused k z (after_link ∙ sym e)

      -- where no row gives a number, the reader accepts the frame that the bytes say
      pub accepts : 0 ≡ first (content_rows f ++ leader_rows f n own) → Accepted f ≡ read_frame s link n own
      unfolding read_frame
      accepts e = rw (after_link ∙ sym e) (ap (λ (g : Frame). Accepted g) said)

-- a link that passes 11 has a number below n
pub link_below : (sender link n own : ℕ) → first (link_rows sender link n own) ≡ 0 → link < n
link_below sender link n own e =
    let a = none (leb n link || eqb link own) 11 _ (omega arith) e in
    leb-false n link (neither (leb n link) (eqb link own) a.0).0
