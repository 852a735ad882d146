-- The one number that a host gets as a call's answer, and what a call leaves as the host sees it.
-- Assumes nothing.
use Rattle.std.specs.Prelude.{ℕ, ◌+◌, List}
use Rattle.contents.specs.Left.{Left, wrote, gave}

-- What a call leaves: its number, the record's bytes and the output's bytes.
pub data Seen : Type 0 where
  seen : ℕ → List ℕ → List ℕ → Seen

-- 'Each gives its number'; 'Accepted calls return the byte count written', here above 256.
abbrev pub numbered : Left → Seen
numbered (wrote count rec out) = seen (256 + count) rec out
numbered (gave number rec out) = seen number rec out
