-- `reader::read` meets its contract. 'Checked downwards' (01, Refusals): the rows 9 to 15, 21 and 22, in four groups.
-- Each answer cites the law of its group, by what the calls before it gave.
-- Assumes nothing.
use mathlib.Core.Path.{◌≡◌, sym}
use native.Mathlib.Omega.{arith}
use borrow.Author.Rules.{rules}
use lib.ListN.{get_or}
use Rattle.std.specs.Prelude.{Err}
use Rattle.frame.proofs.Laws.{numbered, formed, head_is_there}
use Rattle.frame.proofs.Steps.{by_form, by_link, by_the_frame, accepts, link_below}
use Rattle.frame.proofs.reader.read.Goals as goal

pub returns-in_err-form_refusal : goal.returns-in_err-form_refusal
returns-in_err-form_refusal c =
    let a = c.args in
    let is : c.from_residual.result ≡ Err c.in_err-form_refusal.field-0.0 = search rules in
    rw is (by_form a.s.now a.link a.n a.own _ (numbered _) c.in_err-form_refusal.ensures)

pub bounds-s-1 : goal.bounds-s-1
bounds-s-1 c =
    let s = c.args.s.now in
    omega (arith, head_is_there s (formed s (sym c.in_ok-form_refusal.ensures)))

pub returns-in_err-link_refusal : goal.returns-in_err-link_refusal
returns-in_err-link_refusal c =
    let a = c.args in
    let is : c.from_residual-in_err-link_refusal.result ≡ Err c.in_err-link_refusal.field-0.0 = search rules in
    rw is (by_link a.s.now a.link a.n a.own (sym c.in_ok-form_refusal.ensures) _ (numbered _) c.in_err-link_refusal.ensures)

pub parse-f-requires : goal.parse-f-requires
parse-f-requires c = formed c.args.s.now (sym c.in_ok-form_refusal.ensures)

pub frame_refusal-requires : goal.frame_refusal-requires
frame_refusal-requires c =
    let a = c.args in
    omega (arith, link_below (get_or a.s.now 1 0) a.link a.n a.own (sym c.in_ok-link_refusal.ensures))

pub returns-in_err-frame_refusal : goal.returns-in_err-frame_refusal
returns-in_err-frame_refusal c =
    let a = c.args in
    let formed = sym c.in_ok-form_refusal.ensures in
    let link = sym c.in_ok-link_refusal.ensures in
    let is : c.from_residual-in_err-frame_refusal.result ≡ Err c.in_err-frame_refusal.field-0.0 = search rules in
    rw is (by_the_frame a.s.now a.link a.n a.own formed link _ c.parse-f.ensures _ (numbered _) c.in_err-frame_refusal.ensures)

pub returns : goal.returns
returns c =
    let a = c.args in
    let formed = sym c.in_ok-form_refusal.ensures in
    let link = sym c.in_ok-link_refusal.ensures in
    accepts a.s.now a.link a.n a.own formed link _ c.parse-f.ensures c.in_ok-frame_refusal.ensures
