-- Each frame that an accepted call writes is accepted, as itself, by every vault that it is for: by contents. The promise is stated over
-- bytes, in crates/runs/specs/Left.
-- Assumes nothing.
use Rattle.std.specs.Prelude.{◌≡◌}
use Rattle.std.proofs.Math.Option.{Option, some}
use Rattle.protocol.specs.Record.{Record}
use Rattle.protocol.specs.Pass.{Out}
use Rattle.protocol.specs.Calls.{Call, accepted, answer}
use Rattle.protocol.specs.inside.Sound.{Ranged}
use Rattle.protocol.specs.Sound.{Sound}
use Rattle.protocol.specs.Fed.{Fed}
use Rattle.protocol.specs.ReadsBack.{ReadBy}

-- Of every accepted call on a blank record or a sound one. Proved as `call_reads_back` in proofs/ReadsBack.
abbrev pub ContentsReadBack : Type 0
ContentsReadBack = (b : Option Record) (a : Call) → ((r : Record) → b ≡ some r → Sound r × Ranged r) → Fed b a
    → (o : Out) → answer b a ≡ accepted o → ReadBy o.left.set o.wrote
