-- What each of a host's five calls at a record leaves, as the papers fix it.
-- Assumes nothing.
use Rattle.std.specs.Prelude.{ℕ, ◌≡◌, List}
use Rattle.contents.specs.Remnant.{remnant_left, restart_left}
use Rattle.contents.specs.Left.{Left}
use Rattle.runs.specs.Runs.{HostCall, call, write, restart, Rules}
use Rattle.runs.specs.Fixed.{leaves}

-- Start, frame and timer as document 01 has it; a remnant that is written and a restart as document 02, wish 6, does.
abbrev pub leaves_all : List ℕ → HostCall → List ℕ → Left
leaves_all rec (call a) out = leaves rec a out
leaves_all rec write out = remnant_left rec out
leaves_all rec (restart remnant) out = restart_left rec remnant out

-- The rules by which a call leaves just that.
abbrev pub Fixed : Rules
Fixed rec a out left = left ≡ leaves_all rec a out
