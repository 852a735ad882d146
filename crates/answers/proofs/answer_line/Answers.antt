-- `answers::answer_line` meets its contract: '20 is tested before all else', then the call that the bytes make.
-- Assumes nothing.
use borrow.Author.Rules.{rules}
use Rattle.answers.proofs.Answers.{bad_answered, count_answered, count_within}
use Rattle.answers.proofs.answer_line.Goals as goal

pub returns-in_default : goal.returns-in_default
returns-in_default c =
    let p = c.put_refusal in
    let told = c.in_default.is in
    let both = bad_answered c.args.rec.now c.args.text.now c.args.page.now c.args.at c.bytes_in.result
    c.bytes_in.new.bytes c.bytes_in.ensures.0 told p.new.page p.result _ p.ensures c.from.ensures in
    record { answered = both.0; upper_bound = both.1 }

pub slice_bounds-answer-end : goal.slice_bounds-answer-end
slice_bounds-answer-end c =
    let b = c.bytes_in in
    let few = count_within b.result _ _ c.in-Some.is b.ensures.1 in
    search rules

pub returns : goal.returns
returns c =
    let a = c.answer in
    let both = count_answered c.args.rec.now c.args.text.now c.args.page.now c.args.at c.bytes_in.result
    c.bytes_in.new.bytes c.bytes_in.ensures.0 _ c.in-Some.is a.new.rec a.new.page a.result a.ensures in
    record { answered = both.0; upper_bound = both.1 }
