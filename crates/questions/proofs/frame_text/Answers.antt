-- `questions::frame_text` meets its contract: each arm copies the sentence of its number, and there is no other number.
-- Assumes nothing.
use native.Mathlib.Omega.{arith}
use mathlib.Core.Path.{refl}
use Rattle.questions.specs.Texts.{text_bytes, sentence_of}
use Rattle.questions.proofs.Sentences.{said}
use Rattle.questions.proofs.frame_text.Goals as goal

pub returns-in-9 : goal.returns-in-9
unfolding sentence_of text_bytes
returns-in-9 c = said _ 9 _ _ _ _ c.put.ensures c.in-9.is refl

pub returns-in-10 : goal.returns-in-10
unfolding sentence_of text_bytes
returns-in-10 c = said _ 10 _ _ _ _ c.put-in-10.ensures c.in-10.is refl

pub returns-in-11 : goal.returns-in-11
unfolding sentence_of text_bytes
returns-in-11 c = said _ 11 _ _ _ _ c.put-in-11.ensures c.in-11.is refl

pub returns-in-12 : goal.returns-in-12
unfolding sentence_of text_bytes
returns-in-12 c = said _ 12 _ _ _ _ c.put-in-12.ensures c.in-12.is refl

pub returns-in-13 : goal.returns-in-13
unfolding sentence_of text_bytes
returns-in-13 c = said _ 13 _ _ _ _ c.put-in-13.ensures c.in-13.is refl

pub returns-in-14 : goal.returns-in-14
unfolding sentence_of text_bytes
returns-in-14 c = said _ 14 _ _ _ _ c.put-in-14.ensures c.in-14.is refl

pub returns-in-15 : goal.returns-in-15
unfolding sentence_of text_bytes
returns-in-15 c = said _ 15 _ _ _ _ c.put-in-15.ensures c.in-15.is refl

pub returns-in-16 : goal.returns-in-16
unfolding sentence_of text_bytes
returns-in-16 c = said _ 16 _ _ _ _ c.put-in-16.ensures c.in-16.is refl

pub returns-in-17 : goal.returns-in-17
unfolding sentence_of text_bytes
returns-in-17 c = said _ 17 _ _ _ _ c.put-in-17.ensures c.in-17.is refl

pub returns-in_default : goal.returns-in_default
returns-in_default c =
    absurd (omega (arith, c.requires))
