-- What a call at a record leaves 'as this paper fixes': crate contents' definitions.
-- Assumes nothing.
use Rattle.std.specs.Prelude.{ℕ, List}
use Rattle.contents.specs.Calls.{start_left, frame_left, timer_left}
use Rattle.contents.specs.Left.{Left}
use Rattle.runs.specs.Runs.{ByteCall, start, frame, timer}

-- Start, frame and timer, down to each byte.
abbrev pub leaves : List ℕ → ByteCall → List ℕ → Left
leaves rec (start set plan) out = start_left rec set plan out
leaves rec (frame link bytes) out = frame_left rec link bytes out
leaves rec (timer view) out = timer_left rec view out
