-- `stage::places::first_free` meets its contract: 'a new frame gets the smallest free one'. The invariant is `SearchedTo`.
-- Assumes nothing.
use Prim.Native.Nat.{◌+◌}
use native.Mathlib.Omega.{arith}
use Rattle.frame.proofs.Laws.{told}
use Rattle.stage.proofs.Waiting.{searched_none, searched_free, searched_more, searched_all}
use Rattle.stage.proofs.places.first_free.Goals as goal

pub loop-k-init : goal.loop-k-init
loop-k-init c = searched_none c.args.stage.now

pub returns-then-is_free : goal.returns-then-is_free
returns-then-is_free c =
    let l = c.loop-k in
    searched_free c.args.stage.now l.k l.invariant (omega arith) (told c.is_free.ensures c.if-is_free.true)

pub loop-k-preserved : goal.loop-k-preserved
loop-k-preserved c =
    let l = c.loop-k in
    searched_more c.args.stage.now l.k l.invariant (omega arith) (told c.is_free.ensures c.if-is_free.false)

pub returns-else-is_free : goal.returns-else-is_free
returns-else-is_free c =
    let l = c.loop-k in
    let last = searched_more c.args.stage.now l.k l.invariant (omega arith) (told c.is_free.ensures c.if-is_free.false) in
    searched_all c.args.stage.now (l.k + 1) last (omega arith)
