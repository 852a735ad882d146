-- `stored::made` meets its contract: the decision is what its slot reports.
-- Assumes nothing.
use native.Mathlib.Omega.{arith}
use Rattle.contents.proofs.Sound.{size_sound}
use Rattle.questions.proofs.Laws.{none_made, one_made}
use Rattle.questions.proofs.made.Goals as goal

pub slot_of-slot-requires : goal.slot_of-slot-requires
slot_of-slot-requires c = (size_sound c.args.rec.now c.requires, omega arith)

pub returns-then-slot-ne-PRESENT : goal.returns-then-slot-ne-PRESENT
returns-then-slot-ne-PRESENT c =
    none_made c.args.rec.now c.slot_of-slot.result c.slot_of-slot.ensures c.if-slot-ne-PRESENT.true

pub returns : goal.returns
returns c =
    one_made c.args.rec.now c.slot_of-slot.result c.slot_of-slot.ensures c.if-slot-ne-PRESENT.false
