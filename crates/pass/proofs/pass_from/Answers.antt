-- `pass::pass_from` meets its contract: one step after the other, up to the last. The view that is at hand is the record's.
-- Assumes nothing.
use mathlib.Core.Path.{sym, ap, ◌∙◌}
use Rattle.settings.specs.declared.Settings.{Settings}
use Rattle.pass.proofs.Passes.{view_stays, going_first, room_step, going_step, going_done}
use Rattle.pass.proofs.pass_from.Goals as goal

pub loop-k-init : goal.loop-k-init
loop-k-init c =
    going_first c.view_of-view.ensures c.requires.0 c.requires.2 c.requires.3

pub take_step-count-requires : goal.take_step-count-requires
take_step-count-requires c =
    let g = c.loop-k.invariant in
    let low = c.loop-k-test.true in
    let own = ap (λ (x : Settings). x.id) (c.requires.1 ∙ sym g.same) in
    (record { ready = g.ready; low = low; is = c.act_at-act.ensures; own = own }, room_step g low)

pub view_after-view-requires : goal.view_after-view-requires
view_after-view-requires c =
    let l = c.loop-k in
    let ran = c.take_step-count.ensures in
    (ran.ready.size, λ ne. l.invariant.here ∙ sym (view_stays l.k l.rec ran ne))

pub loop-k-preserved : goal.loop-k-preserved
loop-k-preserved c =
    going_step c.loop-k.invariant c.loop-k-test.true
    c.take_step-count.ensures c.view_after-view.ensures

pub returns : goal.returns
returns c = going_done c.loop-k.invariant c.loop-k-test.false
