-- `lines::pieces::run_pieces` meets its contract: the line that is answered last is what the reading kept. It is written out, so that another is refused here.
-- Assumes nothing.
use lib.ListN.{take}
use borrow.Author.Rules.{rules}
use Rattle.lines.specs.Steps.{Finished}
use Rattle.lines.proofs.pieces.run_pieces.Goals as goal

pub returns-clause-ok : goal.returns-clause-ok
returns-clause-ok g c =
    let p = g.L.LineProgram in
    let r = c.read_all.new in
    let f = c.finish-at in
    let last : Finished p.program r.state (take c.in-Some.len r.text) f.new.state (take f.result f.new.page) = f.ensures.finished in
    search rules
