-- `reader::parse` meets its contract. 'Byte 0 is the kind, byte 1 the sender, bytes 2 to 5 the view' (01, Frames).
-- Each field is what was read at its place; bytes of the form of a frame have its head.
-- Assumes nothing.
use native.Mathlib.Omega.{arith}
use Rattle.frame.specs.Format.{decode}
use Rattle.frame.proofs.Laws.{head_is_there}
use Rattle.frame.proofs.reader.parse.Goals as goal

pub bounds-s-0 : goal.bounds-s-0
bounds-s-0 c = omega (arith, head_is_there c.args.s.now c.requires)

pub bounds-s-1 : goal.bounds-s-1
bounds-s-1 c = omega (arith, head_is_there c.args.s.now c.requires)

pub number32-view-requires : goal.number32-view-requires
number32-view-requires c = omega (arith, head_is_there c.args.s.now c.requires)

pub body_as-body-requires : goal.body_as-body-requires
body_as-body-requires c = (c.requires.kind, c.requires.size)

pub returns : goal.returns
unfolding decode
returns c = cc
