-- How much a call writes: VAULT_LONGEST_OUTPUT of include/vault.h.
-- Assumes nothing.
use Rattle.std.specs.Prelude.{◌≤◌, ◌≡◌, length}
use Rattle.std.proofs.Math.Option.{Option}
use Rattle.entry.specs.Layout.{layout}
use Rattle.protocol.specs.Record.{Record}
use Rattle.protocol.specs.Pass.{Out}
use Rattle.protocol.specs.Calls.{Call, accepted, answer}

-- 'Accepted calls return the byte count written': it is at most 205. Proved as `output_short` in proofs/Size.
abbrev pub OutputIsShort : Type 0
OutputIsShort = (b : Option Record) (a : Call) (o : Out) → answer b a ≡ accepted o → length (layout o.wrote) ≤ 205
