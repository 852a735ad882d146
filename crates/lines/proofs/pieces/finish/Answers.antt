-- `lines::pieces::finish` meets its contract: 'A line ends at byte 0a or at the input's end; after a final 0a there is no further line'.
-- Assumes nothing.
use Rattle.lines.proofs.Paged.{finish_none, finish_line}
use Rattle.lines.proofs.pieces.finish.Goals as goal

pub returns-then-len-eq0 : goal.returns-then-len-eq0
returns-then-len-eq0 g c =
    let a = c.args in
    let p = g.L.LineProgram in
    let both = finish_none p.program p.sizes a.state.now a.text.now a.page.now a.len c.if-len-eq0.true in
    record { finished = both.0; upper_bound = both.1 }

pub returns : goal.returns
returns g c =
    let a = c.args in
    let p = g.L.LineProgram in
    let r = c.answer_line in
    let s = c.requires.sized in
    let both = finish_line p.program p.sizes g.met.L.LineProgram.some_piece a.state.now a.text.now a.page.now a.len c.if-len-eq0.false s.1 s.0
    r.new.state r.new.page r.result r.ensures.answered r.ensures.upper_bound in
    record { finished = both.0; upper_bound = both.1 }
