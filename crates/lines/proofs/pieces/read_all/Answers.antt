-- `lines::pieces::read_all` meets its contract: each piece is fed where the one before it ended, and where it can't be written out it was fed.
-- Assumes nothing.
use mathlib.Core.Path.{refl, ◌∙◌}
use native.Mathlib.Omega.{arith}
use lib.ListN.{length-take}
use borrow.Author.Rules.{rules}
use Rattle.std.specs.Prelude.{Some}
use Rattle.lines.specs.inside.Reading.{EndedWell}
use Rattle.lines.proofs.Reading.{ended_none, ended_more, fed_for_none, fed_for_more}
use Rattle.lines.proofs.pieces.read_all.Goals as goal

pub loop-init : goal.loop-init
loop-init g c =
    let p = g.L.LineProgram in
    let s = c.requires.sized in (
      refl,
      s.0,
      s.1,
      s.2,
      ended_none p.program p.sizes.room c.args.state.now c.args.text.now,
      fed_for_none p.program p.sizes.room c.args.state.now c.args.text.now,
    )

pub returns-in_err-write_all-clause-err : goal.returns-in_err-write_all-clause-err
returns-in_err-write_all-clause-err g c =
    let p = g.L.LineProgram in
    let l = c.loop in
    let f = c.feed-place in
    let e = f.ensures in
    let fed : EndedWell p.program p.sizes.room c.args.state.now (Some f.result.len) f.new.state f.new.text =
    ended_more p.program p.sizes.room _ l.state l.text l.len l.invariant.4 _ f.new.state f.new.text f.result.len _ e.fed e.within.0 in
    search rules

pub loop-preserved : goal.loop-preserved
loop-preserved g c =
    let p = g.L.LineProgram in
    let l = c.loop in
    let f = c.feed-place in
    let e = f.ensures in (
      f.auto.state ∙ l.invariant.0,
      f.auto.text ∙ l.invariant.1,
      f.auto.page ∙ l.invariant.2,
      c.read.auto.buf ∙ l.invariant.3,
      ended_more p.program p.sizes.room _ l.state l.text l.len l.invariant.4 _ f.new.state f.new.text f.result.len _ e.fed e.within.0,
      fed_for_more p.program p.sizes.room _ l.state l.text _ l.len l.invariant.5 _ (rw length-take (omega (arith, c.in_ok-count.ensures.bound)))
          f.new.state f.new.text f.result.len _ e.fed e.within.0,
    )

pub returns-clause-used_up : goal.returns-clause-used_up
returns-clause-used_up g c =
    let (few, fed) = c.loop.invariant.5 in
    let (input, pages, reads, long) = fed in
    (c.loop.len, (few, (input, pages, reads, omega (arith, long, c.loop-test.false))))
