-- Laws of reading: pieces fed one after the other are the input so far.
-- Assumes nothing.
use Prim.Native.Nat.{ℕ, ◌+◌, ◌≤◌, ◌<◌}
use mathlib.Core.List.{List, [], ◌++◌}
use native.Mathlib.Omega.{arith}
use lib.ListN.{length, take, length-append}
use Rattle.std.specs.Prelude.{Some}
use Rattle.lines.specs.Lines.{Program}
use Rattle.lines.specs.Steps.{Fed, first, and_then}
use Rattle.lines.specs.inside.Reading.{EndedWell, FedFor}

module _ {S : Type 0} (p : Program S) (room : ℕ) where
  -- Nothing is read yet.
  pub ended_none : (s : S) (text : List ℕ) → EndedWell p room s (Some 0) s text
  ended_none s text = (omega arith, ([], [], first))

  -- One piece more is fed.
  pub ended_more : (s₀ s : S) (text : List ℕ) (len : ℕ) → EndedWell p room s₀ (Some len) s text → (piece : List ℕ) (s' : S) (text' : List ℕ) (len' : ℕ)
      (page : List ℕ) → Fed p room s (take len text) piece s' (take len' text') page → len' ≤ room → EndedWell p room s₀ (Some len') s' text'
  ended_more s₀ s text len so piece s' text' len' page fed small =
      let (input, pages, reads) = so.1 in
      (small, (input ++ piece, pages ++ page, and_then reads fed))

  -- The same two, with the bytes counted.
  pub fed_for_none : (s : S) (text : List ℕ) → FedFor p room 0 s 0 s text
  fed_for_none s text = (omega arith, ([], [], first, omega arith))

  pub fed_for_more : (s₀ s : S) (text : List ℕ) (least len : ℕ) → FedFor p room least s₀ len s text → (piece : List ℕ) → 0 < length piece → (s' : S)
      (text' : List ℕ) (len' : ℕ) (page : List ℕ) → Fed p room s (take len text) piece s' (take len' text') page → len' ≤ room
      → FedFor p room (least + 1) s₀ len' s' text'
  fed_for_more s₀ s text least len so piece some s' text' len' page fed small =
      let (input, pages, reads, long) = so.1 in
      (small, (input ++ piece, pages ++ page, and_then reads fed, omega (arith, length-append input piece)))
