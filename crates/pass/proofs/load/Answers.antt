-- `pass::load` meets its contract: what is read off the record is its own part.
-- Assumes nothing.
use mathlib.Core.Path.{refl}
use Rattle.contents.proofs.Ready.{ready_row}
use Rattle.own.proofs.Stored.{own_read}
use borrow.Author.Rules.{rules}
use Rattle.pass.proofs.load.Goals as goal

pub load-requires : goal.load-requires
load-requires c =
    let h = c.requires in
    (h.size, ready_row h, search rules)

pub returns : goal.returns
returns c =
    own_read c.args.rec.now _ (λ i. (c.type_inv.rec i).fits) (ready_row c.requires) refl c.load.ensures
