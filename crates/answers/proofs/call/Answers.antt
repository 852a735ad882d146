-- `answers::call` meets its contract: its two tests are those of the definition.
-- Assumes nothing.
use mathlib.Core.Path.{sym, ◌∙◌}
use Rattle.answers.proofs.Calls.{kind_starts, kind_times, kind_frames}
use Rattle.answers.proofs.call.Goals as goal

pub returns-then-is_kind : goal.returns-then-is_kind
returns-then-is_kind c =
    let a = c.args in
    kind_starts a.rec.now a.out.now a.bytes.now _ (sym c.is_kind.ensures ∙ c.if-is_kind.true) c.start.ensures

pub returns-then-is_kind-2 : goal.returns-then-is_kind-2
returns-then-is_kind-2 c =
    let a = c.args in
    kind_times a.rec.now a.out.now a.bytes.now _ (sym c.is_kind.ensures ∙ c.if-is_kind.false)
    (sym c.is_kind-2.ensures ∙ c.if-is_kind-2.true) c.timer.ensures

pub returns : goal.returns
returns c =
    let a = c.args in
    kind_frames a.rec.now a.out.now a.bytes.now _ (sym c.is_kind.ensures ∙ c.if-is_kind.false)
    (sym c.is_kind-2.ensures ∙ c.if-is_kind-2.false) c.frame.ensures
