-- Output: some bytes put at a place, and every other byte as it was.
-- Assumes nothing.
use Rattle.std.specs.Prelude.{ℕ, ◌+◌, List, ◌++◌, length, take, drop}

-- 'bytes beyond it keep their contents': the output with some bytes at a place, unchanged before and after them.
unfoldable pub placed : List ℕ → ℕ → List ℕ → List ℕ
placed out at bytes = take at out ++ (bytes ++ drop (at + length bytes) out)
