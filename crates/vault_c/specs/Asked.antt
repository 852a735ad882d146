-- What a host sees of a question: the number of the answer, and of a question on a stored record the numbers that it lent for it.
-- Assumes nothing.
use Rattle.std.specs.Prelude.{Option, Some, None, Result, Ok, Err, ℕ, ◌+◌, cond, List, ◌∷◌, ltb, length, drop}
use Rattle.questions.specs.declared.Current.{Current}
use Rattle.frame.specs.declared.Refusal.{Refusal}
use Rattle.frame.specs.Numbers.{number_of}
use Rattle.questions.specs.declared.Decision.{Decision}
use Rattle.reach.specs.Call.{Reach, View, Refused}

-- The version of the library, major * 10000 + minor * 100 + patch: VAULT_VERSION of include/vault.h.
abbrev pub version : ℕ
version = 10400

pub data Told : Type 0 where
  told : ℕ → List ℕ → Told

-- A view and a number, then what was there beyond them.
abbrev pub two : ℕ → ℕ → List ℕ → List ℕ
two view number out = view ∷ number ∷ drop 2 out

-- 'Each gives its number, .. output unchanged'; 256 for an answer: here the view and the milliseconds of its timer.
abbrev pub tell_current : Result Current Refusal → List ℕ → Told
tell_current (Ok c) out = told 256 (two c.view c.millis out)
tell_current (Err why) out = told (number_of why) out

-- The same for the decision's view and plan, which is one answer more than none.
abbrev pub tell_decision : Result (Option Decision) Refusal → List ℕ → Told
tell_decision (Ok (Some d)) out = told 257 (two d.view d.plan out)
tell_decision (Ok None) out = told 256 out
tell_decision (Err why) out = told (number_of why) out

-- On the way in, refusal 1: there is no room for two numbers.
unfoldable pub with_room : List ℕ → Told → Told
with_room out t = cond (ltb (length out) 2) (told 1 out) t

-- Of a claim's reach: 'Each gives its number', and a view stands above 256.
abbrev pub reach_number : Reach → ℕ
reach_number (View view) = 256 + view
reach_number (Refused number) = number
