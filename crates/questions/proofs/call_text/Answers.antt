-- `questions::call_text` meets its contract: each arm copies the sentence of its number. 0 has none.
-- Assumes nothing.
use native.Mathlib.Omega.{arith}
use Prim.Native.Nat.{◌<◌}
use mathlib.Core.Path.{refl}
use Rattle.questions.specs.Texts.{text_bytes, sentence_of}
use Rattle.questions.proofs.Sentences.{said, no_number, none_said}
use Rattle.questions.proofs.call_text.Goals as goal

pub returns-in-1 : goal.returns-in-1
unfolding sentence_of text_bytes
returns-in-1 c = said _ 1 _ _ _ _ c.put.ensures c.in-1.is refl

pub returns-in-2 : goal.returns-in-2
unfolding sentence_of text_bytes
returns-in-2 c = said _ 2 _ _ _ _ c.put-in-2.ensures c.in-2.is refl

pub returns-in-3 : goal.returns-in-3
unfolding sentence_of text_bytes
returns-in-3 c = said _ 3 _ _ _ _ c.put-in-3.ensures c.in-3.is refl

pub returns-in-4 : goal.returns-in-4
unfolding sentence_of text_bytes
returns-in-4 c = said _ 4 _ _ _ _ c.put-in-4.ensures c.in-4.is refl

pub returns-in-5 : goal.returns-in-5
unfolding sentence_of text_bytes
returns-in-5 c = said _ 5 _ _ _ _ c.put-in-5.ensures c.in-5.is refl

pub returns-in-6 : goal.returns-in-6
unfolding sentence_of text_bytes
returns-in-6 c = said _ 6 _ _ _ _ c.put-in-6.ensures c.in-6.is refl

pub returns-in-7 : goal.returns-in-7
unfolding sentence_of text_bytes
returns-in-7 c = said _ 7 _ _ _ _ c.put-in-7.ensures c.in-7.is refl

pub returns-in-8 : goal.returns-in-8
unfolding sentence_of text_bytes
returns-in-8 c = said _ 8 _ _ _ _ c.put-in-8.ensures c.in-8.is refl

pub returns-in_default : goal.returns-in_default
returns-in_default c =
    let number = c.args.number in
    let high : 0 < number → 26 < number = λ (h : 0 < number). absurd (omega (arith, c.requires)) in
    none_said number _ (no_number number high)
