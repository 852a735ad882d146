-- Steps that are taken over lent bytes: the record's bytes afterwards, and the entries from a place of the output on.
-- Assumes nothing.
use Rattle.std.specs.Prelude.{ℕ, ◌+◌, ◌≤◌, ◌<◌, ◌≡◌, List, length}
use Rattle.std.proofs.Math.Option.{Option}
use Rattle.wire.specs.Placed.{placed}
use Rattle.entry.specs.Layout.{layout}
use Rattle.record.specs.Layout.{decode_record}
use Rattle.protocol.specs.Pass.{Act, Out}
use Rattle.contents.specs.Contents.{contents_in}
use Rattle.contents.specs.inside.Ready.{Ready}
use Rattle.acts.specs.inside.Acts.{act_at}

-- There is room for the entries from a place on.
abbrev pub Room : Out → ℕ → List ℕ → Type 0
Room o at out = at + length (layout o.wrote) ≤ length out

-- The step of a number is to be taken at a record, whose own number is known: this is its act.
pub record Due (k : ℕ) (act : Option Act) (rec : List ℕ) (id : ℕ) : Type 0 where
  pub ready : Ready rec
  pub low : k < 8
  pub is : act ≡ act_at k (contents_in rec)
  pub own : id ≡ (decode_record rec).set.id

-- 'Accepted calls return the byte count written; bytes beyond it keep their contents': steps are taken, and their entries lie from a
-- place on.
pub record Ran (o : Out) (at : ℕ) (before after : List ℕ) (n : ℕ) (rec : List ℕ) : Type 0 where
  pub left : contents_in rec ≡ o.left
  pub ready : Ready rec
  pub count : n ≡ at + length (layout o.wrote)
  pub bytes : after ≡ placed before at (layout o.wrote)
