-- The widths of a record's numbers, and what accepted calls leave.
-- Assumes nothing.
use Rattle.std.specs.Prelude.{ℕ, ◌^◌, ◌≤◌, ◌<◌, ◌≡◌, length}
use Rattle.std.proofs.Math.Option.{Option, some}
use Rattle.rules.specs.Rules.{Vote}
use Rattle.protocol.specs.Record.{Record}
use Rattle.entry.specs.Layout.{layout}
use Rattle.entry.specs.Valid.{AllValid}
use Rattle.entry.specs.Reading.{entries_of}
use Rattle.protocol.specs.Pass.{Out}
use Rattle.protocol.specs.Calls.{Call, accepted, answer}
use Rattle.protocol.specs.Fed.{Fed}
use Rattle.protocol.specs.Sound.{Sound}

-- 'A view is 32 bits wide', 'A plan is any 64-bit number'.
abbrev pub FitsVote : Vote → Type 0
FitsVote x = (x.view < 2 ^ 32) × (x.plan < 2 ^ 64)

-- Its numbers have their widths; those of kept frames do by `Valid`.
pub record Ranged (r : Record) : Type 0 where
  pub start : r.start < 2 ^ 64
  pub view : r.view < 2 ^ 32
  pub previous : (k : ℕ) (x : Vote) → r.previous k ≡ some x → FitsVote x
  pub decision : (x : Vote) → r.decision ≡ some x → FitsVote x

-- What an accepted call leaves: a sound record, numbers of their widths, and entries that have bytes, which read as these entries
-- and are no more than 256.
pub record Proper (o : Out) : Type 0 where
  pub sound : Sound o.left
  pub ranged : Ranged o.left
  pub valid : AllValid o.wrote
  pub reads : entries_of (layout o.wrote) ≡ o.wrote
  pub fits : length (layout o.wrote) ≤ 256

-- On a blank record, or a sound one, every accepted call leaves what is proper (`call_proper`, in proofs/Proper).
abbrev pub AlwaysProper : Type 0
AlwaysProper = (b : Option Record) (a : Call) → ((r : Record) → b ≡ some r → Sound r × Ranged r) → Fed b a → (o : Out) → answer b a ≡ accepted o → Proper o
