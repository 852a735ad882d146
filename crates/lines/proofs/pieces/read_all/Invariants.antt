-- `lines::pieces::read_all` meets its contract: each piece is fed where the one before it ended.
-- Assumes nothing.
use mathlib.Core.Path.{◌≡◌}
use lib.ListN.{length}
use Rattle.std.specs.Prelude.{Some}
use Rattle.lines.specs.inside.Reading.{EndedWell, FedFor}
use Rattle.lines.specs.inside.Sizes.{page_of}
use Rattle.lines.proofs.pieces.read_all.Given as goal

abbrev pub invariant-loop : goal.invariant-loop
invariant-loop g l =
    let p = g.L.LineProgram in
    (length l.state ≡ length l.initial.state)
    × (length l.text ≡ p.sizes.room)
    × (length l.page ≡ page_of p.sizes)
    × (length l.piece ≡ p.sizes.piece)
    × EndedWell p.program p.sizes.room l.initial.state (Some l.len) l.state l.text
    × FedFor p.program p.sizes.room l.counter l.initial.state l.len l.state l.text
