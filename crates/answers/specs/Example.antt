-- Document 01's example.
-- Assumes nothing.
use Rattle.std.specs.Prelude.{ℕ, ◌≡◌, List, [], ◌∷◌}
use Prim.Native.Char.{code}
use Prim.Native.String.{String, [] as []ˢ, ◌∷◌ as ◌∷ˢ◌}
use Rattle.answers.specs.Lines.{program_prints}

-- The bytes of a text.
abbrev pub text : String → List ℕ
text []ˢ = []
text (c ∷ˢ s) = code c ∷ text s

-- Document 01's example, as a whole input.
abbrev pub input : String
input = "00040100020000000000000007\n0201000000000000000000000007\n0202000000000000000000000007\n0201000000000000000000000007\n"

-- It 'prints timer, proposal, vote-1, vote-2, refusal 17'. Proved as `document` in proofs/Example.
abbrev pub Document : Type 0
Document = program_prints (text input)
    ≡ text "fe0b0000000000000384\nff0100000000000000000000000007\nff0200000000000000000000000007\nff0300000000000000000000000007\nfd11\n"
