-- `answers::answer` meets its contract: the call's written bytes are entries end to end (`call_printable`), so they can be printed.
-- Assumes nothing.
use borrow.Author.Rules.{rules}
use Rattle.wire.specs.Fields.{Bytes}
use Rattle.answers.specs.Lines.{zeroed}
use Rattle.answers.proofs.Answers.{call_printable, put_by}
use Rattle.answers.proofs.answer.Goals as goal

pub put_answer-requires : goal.put_answer-requires
unfolding zeroed
put_answer-requires c =
    let k = c.call-a in
    let rec : Bytes c.args.rec.now = λ i. search rules in
    let bytes : Bytes c.args.bytes.now = λ i. (c.type_inv.bytes i).fits in
    (c.requires, call_printable c.args.rec.now c.args.bytes.now rec bytes k.result k.new.rec k.new.out k.ensures)

pub returns : goal.returns
unfolding zeroed
returns c =
    let p = c.put_answer in
    let k = c.call-a in
    let rec : Bytes c.args.rec.now = λ i. search rules in
    let bytes : Bytes c.args.bytes.now = λ i. (c.type_inv.bytes i).fits in
    let may = call_printable c.args.rec.now c.args.bytes.now rec bytes k.result k.new.rec k.new.out k.ensures in
    put_by c.args.rec.now c.args.bytes.now c.args.page.now c.args.at k.result k.new.rec k.new.out p.new.page p.result
    k.ensures may p.ensures
