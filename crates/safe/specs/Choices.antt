-- The rule that a call asks for, and the plan of its answer.
-- Assumes nothing.
use Rattle.std.specs.Prelude as prelude
use Rattle.std.specs.Prelude.{ℕ, Bool, true, false, Some, None}
use Rattle.std.proofs.Math.Option.{Option, none, some}
use Rattle.rules.specs.Rules.{Rule, rule1, rule3}

-- The rule of a call: Rule 3 where it asks for it, else Rule 1.
abbrev pub rule_of : Bool → Rule
rule_of true = rule3
rule_of false = rule1

-- The plan of an answer: 'else waits' is none.
abbrev pub chosen : prelude.Option ℕ → Option ℕ
chosen (Some p) = some p
chosen None = none
