-- `obey::answer` meets its contract: the call's written bytes are entries end to end (`call_printable`), so they can be printed and sent.
-- Assumes nothing.
use borrow.Author.Rules.{rules}
use Rattle.wire.specs.Fields.{Bytes}
use Rattle.answers.specs.Lines.{zeroed}
use Rattle.obey.proofs.Answers.{call_printable, call_acted}
use Rattle.obey.proofs.answer.Goals as goal

pub put_answer-requires : goal.put_answer-requires
unfolding zeroed
put_answer-requires c =
    let a = c.args in
    let stage : Bytes a.stage.now = λ i. search rules in
    let bytes : Bytes a.bytes.now = λ i. (c.type_inv.bytes i).fits in
    let d = c.call-a in
    let may = call_printable a.stage.now a.bytes.now d.result d.new.stage d.new.out d.ensures.called stage bytes in
    (may, c.requires.1)

pub returns : goal.returns
unfolding zeroed
returns c =
    let a = c.args in
    let stage : Bytes a.stage.now = λ i. search rules in
    let bytes : Bytes a.bytes.now = λ i. (c.type_inv.bytes i).fits in
    let d = c.call-a in
    let may = call_printable a.stage.now a.bytes.now d.result d.new.stage d.new.out d.ensures.called stage bytes in
    let both = call_acted a.stage.now a.bytes.now a.page.now a.at d.result d.new.stage d.new.out c.vault_in.result
    c.put_answer.new.stage c.put_answer.new.page c.put_answer.result d.ensures.called may c.vault_in.ensures c.put_answer.ensures in
    record { done_at = both.0; upper_bound = both.1 }
