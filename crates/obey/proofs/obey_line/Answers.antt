-- `obey::obey_line` meets its contract: 20 is tested before all else, 'Here 20 allows 94 digits', then the bytes are obeyed.
-- Assumes nothing.
use borrow.Author.Rules.{rules}
use Rattle.answers.proofs.Answers.{count_within}
use Rattle.obey.proofs.Answers.{bad_obeyed, count_obeyed}
use Rattle.obey.proofs.obey_line.Goals as goal

pub returns-in_default : goal.returns-in_default
returns-in_default c =
    let p = c.put_refusal in
    let a = c.args in
    let both = bad_obeyed a.stage.now a.text.now a.page.now a.at c.bytes_in.result c.bytes_in.new.bytes
    c.bytes_in.ensures.0 c.in_default.is p.new.page p.result _ p.ensures c.from.ensures in
    record { answered = both.0; upper_bound = both.1 }

pub slice_bounds-obey-end : goal.slice_bounds-obey-end
slice_bounds-obey-end c =
    let b = c.bytes_in in
    let few = count_within b.result c.in-Some.count _ c.in-Some.is b.ensures.1 in
    search rules

pub unwrap-whole-requires : goal.unwrap-whole-requires
unwrap-whole-requires c = c.as_mut_array.ensures.variant.1 c.requires.0

pub returns : goal.returns
returns c =
    let a = c.args in
    let whole = rw c.unwrap-whole.ensures at c.as_mut_array.ensures.cases in
    let e = c.obey.ensures in
    let both = count_obeyed a.stage.now a.text.now a.page.now a.at c.bytes_in.result c.bytes_in.new.bytes
    c.bytes_in.ensures.0 c.in-Some.count c.in-Some.is c.obey.new.stage c.obey.new.page c.obey.result
    (rw whole.same at e.done_at, e.upper_bound) in
    record { answered = both.0; upper_bound = both.1 }
