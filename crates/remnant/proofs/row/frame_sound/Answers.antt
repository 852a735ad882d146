-- `row::frame_sound` meets its contract: above the current view, or as the table of refusals decides.
-- Assumes nothing.
use mathlib.Core.Path.{sym, ap, ◌∙◌}
use Prim.Native.Nat.{ℕ}
use lib.Dec.{eqb}
use Rattle.frame.proofs.Laws.{passing}
use Rattle.remnant.proofs.Frames.{frame_above, frame_rows}
use Rattle.remnant.proofs.row.frame_sound.Goals as goal

pub returns-then-above : goal.returns-then-above
returns-then-above c =
    let a = c.args in
    sym (frame_above a.set a.view a.f c.requires.0 c.requires.1 (sym c.above.ensures ∙ c.if-above.true))

pub returns : goal.returns
returns c =
    let a = c.args in
    c.is_ok.ensures.value ∙ passing _ ∙ ap (λ (k : ℕ). eqb k 0) c.frame_refusal.ensures
    ∙ sym (frame_rows a.set a.view a.f c.requires.0 c.requires.1 (sym c.above.ensures ∙ c.if-above.false))
