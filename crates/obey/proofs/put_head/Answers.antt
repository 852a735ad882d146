-- `obey::put_head` meets its contract: 'led by fc and its number, or by fb where 256 wait and it is lost'.
-- Assumes nothing.
use Prim.Native.Nat.{ℕ, ◌<◌}
use mathlib.Core.Path.{◌≡◌, ap, subst}
use mathlib.Core.List.{List}
use native.Mathlib.Omega.{arith}
use Rattle.lines.specs.inside.Steps.{digits_of, OnPage}
use Rattle.stage.specs.inside.Parts.{free_number}
use Rattle.obey.proofs.Sent.{lost_head, waits_head}
use Rattle.obey.proofs.put_head.Goals as goal

pub returns-in-Some : goal.returns-in-Some
returns-in-Some c =
    let d = c.put_digits in
    let a = c.args in
    let below : c.in-Some.k < 256 = omega arith in
    let led = subst (λ (h : List ℕ). OnPage (digits_of h) a.page.now a.at d.new.page d.result) (waits_head c.in-Some.k a.to below) d.ensures in
    rw c.in-Some.is led

pub returns-in-None : goal.returns-in-None
returns-in-None c =
    let d = c.put_digits-in-None in
    let a = c.args in
    let none_free : free_number a.number ≡ 256 = ap free_number c.in-None.is in
    subst (λ (h : List ℕ). OnPage (digits_of h) a.page.now a.at d.new.page d.result) (lost_head (free_number a.number) a.to none_free) d.ensures
