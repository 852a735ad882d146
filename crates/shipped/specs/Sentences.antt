-- What is proved of the shipped calls besides demand 3: their contracts are what the paper fixes, and a host's number says what a call left.
-- Assumes nothing.
use Rattle.std.specs.Prelude.{ℕ, ◌≡◌, ◌↔◌, Bool, true, ◌||◌, List, eqb}
use Rattle.frame.specs.Format.{within}
use Rattle.vault_c.specs.Numbers.{numbered}
use Rattle.vault_c.specs.Refusals.{is_refusal}
use Rattle.contents.specs.Left.{Left, wrote, gave}
use Rattle.runs.specs.Runs.{HostCall, call, write, restart, Rules}
use Rattle.runs.specs.Five.{leaves_all, Fixed}
use Rattle.shipped.specs.Exports.{left_of}

-- 'They answer every call as this paper fixes, and so as the program's own calls do': calls by these rules are the calls that the paper fixes, with none left
-- out. Proved as `contract_as_fixed` and `export_as_fixed`.
abbrev pub AsFixed : Rules → Type 0
AsFixed keeps_rules = (rec : List ℕ) (a : HostCall) (out : List ℕ) (left : Left) → keeps_rules rec a out left ↔ Fixed rec a out left

-- The refusals of each call: 1 to 19, 21 and 22 of start, frame and timer; 'Writing meets 1 .. then 2 and 3'; 'A restart meets 1 and 4, then 25 .. and 26'.
abbrev pub is_given : HostCall → ℕ → Bool
is_given (call a) number = is_refusal number
is_given write number = within 1 3 number
is_given (restart remnant) number = eqb number 1 || (eqb number 4 || within 25 26 number)

-- 'Each gives its number': a refusal's is one of those. Proved as `refusal_numbers` in proofs/Exports.
abbrev pub InTable : HostCall → Left → Type 0
InTable a (wrote count rec out) = Unit {0}
InTable a (gave number rec out) = is_given a number ≡ true

abbrev pub RefusalNumbers : Type 0
RefusalNumbers = (rec : List ℕ) (a : HostCall) (out : List ℕ) → InTable a (leaves_all rec a out)

-- And it says what the call left. Proved as `numbers_tell` in proofs/Exports.
abbrev pub NumbersTell : Type 0
NumbersTell = (rec : List ℕ) (a : HostCall) (out : List ℕ) → left_of (numbered (leaves_all rec a out)) ≡ leaves_all rec a out
