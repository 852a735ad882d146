-- The first lines of a rehearsal: vaults 0 and 1 are started with plan 7, and vault 0's proposal is delivered.
-- Assumes nothing.
use Prim.Native.String.{String}
use Rattle.std.specs.Prelude.{◌≡◌, ◌++◌}
use Rattle.answers.specs.Example.{text}
use Rattle.stage.specs.Lines.{rehearsal_prints}

-- Two starts; frame 0, a proposal, to vault 1, and to it again; and to vault 0, which wrote it.
abbrev pub input : String
input = "0000020000000000000007\n0001020000000000000007\n010001\n010001\n010000\n"

-- The starts: timer, proposal, vote-1; timer. Each frame has the smallest number that is free.
abbrev pub started : String
started = "fe0b0000000000000384\nfc00ff0100000000000000000000000007\nfc01ff0200000000000000000000000007\nfe0b0000000000000384\n"

-- The deliveries: vote-1; refusal 17; refusal 11.
abbrev pub delivered : String
delivered = "fc02ff0201000000000000000000000007\nfd11\nfd0b\n"

-- Proved as `document` in proofs/Example.
abbrev pub Document : Type 0
Document = rehearsal_prints (text input) ≡ text started ++ text delivered
