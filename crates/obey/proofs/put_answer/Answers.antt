-- `obey::put_answer` meets its contract: 'one output entry a line, or fd and the refusal number as one byte'.
-- Assumes nothing.
use Rattle.answers.proofs.Answers.{count_fits, written_may}
use Rattle.obey.proofs.Answers.{written_done, refused_done}
use Rattle.obey.proofs.put_answer.Goals as goal

pub slice_bounds-put_entries-end : goal.slice_bounds-put_entries-end
slice_bounds-put_entries-end c =
    count_fits c.args.answer c.args.out.now c.requires.0 c.in-Ok.count c.in-Ok.is

pub put_entries-requires : goal.put_entries-requires
put_entries-requires c =
    let a = c.args in
    let may = written_may a.answer a.out.now c.requires.0 c.in-Ok.count c.in-Ok.is a.page.now a.at c.requires.1 in
    (may.1, may.0)

pub returns-in-Ok : goal.returns-in-Ok
returns-in-Ok c =
    let a = c.args in
    let p = c.put_entries in
    written_done a.answer a.stage.now a.writer a.out.now c.in-Ok.count c.in-Ok.is a.page.now a.at
    p.new.stage p.new.page p.result p.ensures

pub returns-in-Err : goal.returns-in-Err
returns-in-Err c =
    let a = c.args in
    let p = c.put_refusal in
    refused_done a.answer a.stage.now a.writer a.out.now c.in-Err.why c.in-Err.is c.from.result c.from.ensures a.page.now a.at
    p.new.page p.result p.ensures
