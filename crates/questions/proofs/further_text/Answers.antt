-- `questions::further_text` meets its contract: each arm copies the sentence of its number. 23 has none, and beyond 26 there is none.
-- Assumes nothing.
use native.Mathlib.Omega.{arith}
use mathlib.Core.Path.{refl}
use Rattle.questions.specs.Texts.{text_bytes, sentence_of}
use Rattle.questions.proofs.Sentences.{said, beyond_last, none_said}
use Rattle.questions.proofs.further_text.Goals as goal

pub returns-in-18 : goal.returns-in-18
unfolding sentence_of text_bytes
returns-in-18 c = said _ 18 _ _ _ _ c.put.ensures c.in-18.is refl

pub returns-in-19 : goal.returns-in-19
unfolding sentence_of text_bytes
returns-in-19 c = said _ 19 _ _ _ _ c.put-in-19.ensures c.in-19.is refl

pub returns-in-20 : goal.returns-in-20
unfolding sentence_of text_bytes
returns-in-20 c = said _ 20 _ _ _ _ c.put-in-20.ensures c.in-20.is refl

pub returns-in-21 : goal.returns-in-21
unfolding sentence_of text_bytes
returns-in-21 c = said _ 21 _ _ _ _ c.put-in-21.ensures c.in-21.is refl

pub returns-in-22 : goal.returns-in-22
unfolding sentence_of text_bytes
returns-in-22 c = said _ 22 _ _ _ _ c.put-in-22.ensures c.in-22.is refl

pub returns-in-24 : goal.returns-in-24
unfolding sentence_of text_bytes
returns-in-24 c = said _ 24 _ _ _ _ c.put-in-24.ensures c.in-24.is refl

pub returns-in-25 : goal.returns-in-25
unfolding sentence_of text_bytes
returns-in-25 c = said _ 25 _ _ _ _ c.put-in-25.ensures c.in-25.is refl

pub returns-in-26 : goal.returns-in-26
unfolding sentence_of text_bytes
returns-in-26 c = said _ 26 _ _ _ _ c.put-in-26.ensures c.in-26.is refl

pub returns-in_default : goal.returns-in_default
returns-in_default c =
    let number = c.args.number in
    none_said number _ (beyond_last number (omega (arith, c.requires)) (omega arith) (omega arith) (omega arith))
