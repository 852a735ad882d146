-- `answers::put_answer` meets its contract: 'one output entry a line, or fd and the refusal number as one byte'.
-- Assumes nothing.
use Rattle.answers.proofs.Answers.{count_fits, written_may, written_shown, refused_shown}
use Rattle.answers.proofs.put_answer.Goals as goal

pub slice_bounds-put_entries-end : goal.slice_bounds-put_entries-end
slice_bounds-put_entries-end c =
    count_fits c.args.answer c.args.out.now c.requires.1 _ c.in-Ok.is

pub put_entries-requires : goal.put_entries-requires
put_entries-requires c =
    written_may c.args.answer c.args.out.now c.requires.1 _ c.in-Ok.is c.args.page.now c.args.at c.requires.0

pub returns-in-Ok : goal.returns-in-Ok
returns-in-Ok c =
    let p = c.put_entries in
    written_shown c.args.answer c.args.out.now c.requires.1 _ c.in-Ok.is c.args.page.now c.args.at p.new.page p.result p.ensures

pub returns-in-Err : goal.returns-in-Err
returns-in-Err c =
    let p = c.put_refusal in
    refused_shown c.args.answer c.args.out.now c.in-Err.why c.in-Err.is c.from.result c.from.ensures c.args.page.now c.args.at p.new.page p.result p.ensures
