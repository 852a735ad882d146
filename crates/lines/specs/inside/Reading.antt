-- What the reading of a program over lines promises.
-- Assumes nothing.
use Rattle.std.specs.Prelude.{Option, Some, None, ℕ, ◌≤◌, ◌⊎◌, List, length, take}
use Rattle.lines.specs.Lines.{Program}
use Rattle.lines.specs.Steps.{Finished, Reads}

-- The turns that the reading's loop takes at most: u64::MAX.
abbrev pub turns : ℕ
turns = 18446744073709551615

module _ {S : Type 0} (p : Program S) (room : ℕ) where
  -- Where the input ran dry, with so much kept of a line that has not ended, pieces of some input were fed one after the other, from the state at
  -- first to the state and the line begun. That they are the standard input's is not said.
  abbrev pub EndedWell : S → Option ℕ → S → List ℕ → Type 0
  EndedWell s (Some len) s' text' = (len ≤ room) × ((input : List ℕ) × (pages : List ℕ) × Reads p room s input pages s' (take len text'))
  EndedWell s None s' text' = Unit {0}

  -- The same, and the input that was fed has at least so many bytes.
  abbrev pub FedFor : ℕ → S → ℕ → S → List ℕ → Type 0
  FedFor least s len s' text' =
      (len ≤ room) × ((input : List ℕ) × (pages : List ℕ) × Reads p room s input pages s' (take len text') × (least ≤ length input))

  -- Where the loop's turns were used up, each of them had fed a byte or more.
  abbrev pub UsedUp : S → Option ℕ → S → List ℕ → Type 0
  UsedUp s (Some len) s' text' = Unit {0}
  UsedUp s None s' text' = (len : ℕ) × FedFor turns s len s' text'

  -- The input ran dry, and then its last line was answered on the page.
  abbrev pub LastAnswered : S → S → List ℕ → List ℕ → Type 0
  LastAnswered s s' text' page' =
      (len : ℕ) × (mid : S) × EndedWell s (Some len) mid text' × ((at : ℕ) × Finished p mid (take len text') s' (take at page'))

  -- A run that went well ended so, or the loop's turns were used up before.
  abbrev pub RanWell : S → S → List ℕ → List ℕ → Type 0
  RanWell s s' text' page' = LastAnswered s s' text' page' ⊎ UsedUp s None s' text'

  -- A run in which a read or a write failed: whole pieces were fed up to there, or the last line was answered too.
  abbrev pub RanUpTo : S → S → List ℕ → List ℕ → Type 0
  RanUpTo s s' text' page' = ((len : ℕ) × EndedWell s (Some len) s' text') ⊎ LastAnswered s s' text' page'
