-- `equivocation::spoke_twice` meets its contract: 'kept vote frames only'. The invariant: in none of the votes passed do two records differ.
-- Assumes nothing.
use Prim.Native.Nat.{◌+◌}
use mathlib.Core.Path.{◌≡◌, sym, ap, ◌∙◌}
use native.Mathlib.Omega.{arith}
use Rattle.frame.proofs.Laws.{told}
use Rattle.rules.proofs.Bools.{any_at}
use Rattle.record.specs.Slots.{frame_slot}
use Rattle.equivocation.specs.inside.Records.{clashing, vote_clashes, twice_in}
use Rattle.equivocation.proofs.Laws.{any_more, any_less, no_vote}
use Rattle.equivocation.proofs.spoke_twice.Goals as goal

pub loop-vote-init : goal.loop-vote-init
loop-vote-init c = (omega arith, no_vote _)

pub differs-requires : goal.differs-requires
differs-requires c = (c.requires.0, omega (arith, c.frame_slot-slot.ensures.1))

pub returns-then-differs : goal.returns-then-differs
unfolding twice_in
returns-then-differs c =
    let a = c.args in
    let s = a.records.now in
    let slot : c.frame_slot-slot.result ≡ frame_slot (2 + c.loop-vote.vote) a.sender = c.frame_slot-slot.ensures.0 in
    let tested = c.differs.ensures ∙ ap (clashing s a.count) slot in
    sym (any_at (vote_clashes s a.count a.sender) 4 c.loop-vote.vote c.loop-vote-test.true (told tested c.if-differs.true))

pub loop-vote-preserved : goal.loop-vote-preserved
loop-vote-preserved c =
    let a = c.args in
    let s = a.records.now in
    let tested = c.differs.ensures ∙ ap (clashing s a.count) c.frame_slot-slot.ensures.0 in
    (omega arith, any_more (vote_clashes s a.count a.sender) c.loop-vote.vote c.loop-vote.invariant.1 (told tested c.if-differs.false))

pub returns : goal.returns
unfolding twice_in
returns c =
    let a = c.args in
    sym (any_less (vote_clashes a.records.now a.count a.sender) 4 c.loop-vote.vote c.loop-vote-test.false c.loop-vote.invariant.1)
