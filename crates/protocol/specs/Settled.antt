-- 'After each accepted call, in this order, every frame going out once': a pass right after a call writes nothing.
-- Assumes nothing.
use Rattle.std.specs.Prelude.{◌≡◌, []}
use Rattle.std.proofs.Math.Option.{Option}
use Rattle.protocol.specs.Record.{Record}
use Rattle.protocol.specs.Pass.{Out, pass, from_a}
use Rattle.protocol.specs.Calls.{Call, accepted, answer}
use Rattle.protocol.specs.Alone.{alone}

-- Proved as `call_settles` in proofs/Settled.
abbrev pub AlwaysSettled : Type 0
AlwaysSettled = (b : Option Record) (a : Call) (o : Out) → answer b a ≡ accepted o → pass from_a o.left ≡ record { left = o.left; wrote = [] }

-- And where that is so, it is so after a restart: 'it sends no frame', and there is none to send. Proved as `restart_settles` in proofs/Alone.
abbrev pub RestartSettles : Type 0
RestartSettles = (r : Record) → pass from_a r ≡ record { left = r; wrote = [] } → pass from_a (alone r) ≡ record { left = alone r; wrote = [] }
