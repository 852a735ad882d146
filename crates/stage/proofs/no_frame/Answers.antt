-- `stage::no_frame` meets its contract: 'naming a frame not waiting'. 01 and 02 name a frame, and its number is a byte.
-- Assumes nothing.
use Prim.Native.Nat.{ℕ, ◌≤◌, ◌<◌}
use mathlib.Core.Path.{◌∙◌, refl, ap, subst}
use Rattle.frame.proofs.Laws.{inside, under, over}
use Rattle.stage.specs.Lines.{kind_of}
use Rattle.stage.specs.Stage.{is_free}
use Rattle.stage.proofs.no_frame.Goals as goal

pub returns-then-kind-lt-DELIVER : goal.returns-then-kind-lt-DELIVER
returns-then-kind-lt-DELIVER c =
    let b = c.args.bytes.now in
    rw (under 1 2 (kind_of b) (subst (λ (k : ℕ). k < 1) c.byte_at-kind.ensures c.if-kind-lt-DELIVER.true)) refl

pub returns-then-kind-gt-DROP : goal.returns-then-kind-gt-DROP
returns-then-kind-gt-DROP c =
    let b = c.args.bytes.now in
    let is = c.byte_at-kind.ensures in
    rw (over 1 2 (kind_of b) (subst (λ (k : ℕ). 1 ≤ k) is c.if-kind-lt-DELIVER.false) (subst (λ (k : ℕ). 2 < k) is c.if-kind-gt-DROP.true)) refl

pub returns : goal.returns
returns c =
    let b = c.args.bytes.now in
    let is = c.byte_at-kind.ensures in
    rw (inside 1 2 (kind_of b) (subst (λ (k : ℕ). 1 ≤ k) is c.if-kind-lt-DELIVER.false) (subst (λ (k : ℕ). k ≤ 2) is c.if-kind-gt-DROP.false))
    (c.is_free.ensures ∙ ap (is_free c.args.stage.now) c.byte_at-number.ensures)
