-- `questions::put` meets its contract: the text is copied whole, or nothing is written.
-- Assumes nothing.
use Prim.Native.Nat.{ℕ}
use mathlib.Core.List.{List, ◌++◌}
use mathlib.Core.Path.{◌≡◌, refl, sym, ap, ◌∙◌}
use native.Mathlib.Omega.{arith}
use lib.ListN.{length, take, drop}
use lib.Seq.{take_all}
use Rattle.questions.proofs.Sentences.{none_fits, all_fit}
use Rattle.questions.proofs.put.Goals as goal

pub returns-then-out-text : goal.returns-then-out-text
returns-then-out-text c = none_fits _ _ c.if-out-text.true

pub returns : goal.returns
returns c =
    let text = c.args.text.now in
    let out = c.args.out.now in
    let whole : c.copy_from_slice.new.self ≡ take (length text) text =
    c.copy_from_slice.ensures.after ∙ sym (take_all (length text) text (omega arith)) in
    all_fit text out _ _ (omega arith) refl (ap (λ (x : List ℕ). x ++ drop (length text) out) whole)
