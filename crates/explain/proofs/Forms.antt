-- A line of a rehearsal that passes 9 and 10 has the form that crate stage reads it by: each row of the table that is not given says so.
-- Assumes nothing.
use Prim.Native.Nat.{ℕ}
use mathlib.Core.Path.{◌≡◌}
use mathlib.Core.Bool.{◌||◌}
use mathlib.Core.List.{List}
use native.Mathlib.Omega.{arith}
use borrow.Author.Tests.{eqb-false, ltb-false}
use lib.Dec.{ltb, eqb}
use lib.ListN.{length}
use Rattle.frame.specs.Refusal.{first}
use Rattle.frame.proofs.Laws.{neither, none}
use Rattle.stage.specs.Lines.{kind_of, wrong_length}
use Rattle.stage.specs.inside.Parts.{Formed}
use Rattle.stage.proofs.Refusals.{formed}
use Rattle.explain.specs.inside.Forms.{line_form}

pub passed_formed : (b : List ℕ) → first (line_form b) ≡ 0 → Formed b
passed_formed b e =
    let nine = none (eqb (length b) 0 || ltb 5 (kind_of b)) 9 _ (omega arith) e in
    let ten = none (wrong_length (kind_of b) (length b)) 10 _ (omega arith) nine.1 in
    let parts = neither (eqb (length b) 0) (ltb 5 (kind_of b)) nine.0 in
    formed b (eqb-false (length b) 0 parts.0) (ltb-false 5 (kind_of b) parts.1) ten.0
