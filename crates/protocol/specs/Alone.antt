-- What comes back after a power cut, by contents (document 02, wish 6).
-- Assumes nothing.
use Rattle.std.specs.Prelude.{[], ◌∷◌, eqb}
use Rattle.protocol.specs.Record.{Record, changed, when}
use Rattle.protocol.specs.Pass.{timer_entry, Out}

-- 'A restart makes a record with that row and no others': the vault's own.
unfoldable pub alone : Record → Record
alone r = changed r r.view (λ k j. when (eqb j r.set.id) (r.kept k j)) r.previous r.decision

-- '.. and a timer entry; it sends no frame.'
unfoldable pub restarted : Record → Out
restarted r = record { left = alone r; wrote = timer_entry r r.view ∷ [] }
