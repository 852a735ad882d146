-- `vault_c::vault_claim_reach` meets its contract: each case of the answer has its number.
-- Assumes nothing.
use mathlib.Core.Path.{sym, ap, ◌∙◌}
use Rattle.reach.specs.Call.{reached}
use Rattle.vault_c.specs.Asked.{reach_number}
use Rattle.vault_c.proofs.vault_claim_reach.Goals as goal

pub returns-in-Ok : goal.returns-in-Ok
returns-in-Ok c = ap reach_number (sym (ap reached c.in-Ok.is) ∙ c.claim_reach.ensures)

pub returns-in-Err : goal.returns-in-Err
returns-in-Err c = c.refused.ensures ∙ ap reach_number (sym (ap reached c.in-Err.is) ∙ c.claim_reach.ensures)
