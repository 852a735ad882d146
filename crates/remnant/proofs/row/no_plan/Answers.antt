-- `row::no_plan` meets its contract: kinds below 6 have a plan.
-- Assumes nothing.
use mathlib.Core.Path.{refl}
use borrow.Author.Tests.{lt-ltb, le-ltb}
use Rattle.sound.specs.inside.Sound.{no_plan}
use Rattle.remnant.proofs.row.no_plan.Goals as goal

pub returns-then-kind-lt-VIEW_CHANGE : goal.returns-then-kind-lt-VIEW_CHANGE
unfolding no_plan
returns-then-kind-lt-VIEW_CHANGE c = rw (lt-ltb _ _ c.if-kind-lt-VIEW_CHANGE.true) refl

pub returns : goal.returns
unfolding no_plan
returns c = rw (le-ltb _ _ c.if-kind-lt-VIEW_CHANGE.false) refl
