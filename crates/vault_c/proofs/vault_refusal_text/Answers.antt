-- `vault_c::vault_refusal_text` meets its contract: a sentence is short.
-- Assumes nothing.
use native.Mathlib.Omega.{arith}
use Rattle.questions.proofs.Sentences.{short_texts, short_written}
use Rattle.vault_c.proofs.vault_refusal_text.Goals as goal

pub overflow_cast-result : goal.overflow_cast-result
overflow_cast-result c =
    omega (arith, short_written _ _ _ _ (short_texts c.args.number) c.refusal_text-count.ensures)
