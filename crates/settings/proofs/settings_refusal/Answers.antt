-- `settings::settings_refusal` meets its contract: the branches on the way to each `return` decide the rows 5 to 8.
-- Assumes nothing.
use Prim.Native.Nat.{◌*◌, ◌≤◌, ◌<◌}
use native.Mathlib.Omega.{arith}
use Rattle.frame.proofs.Laws.{tests}
use Rattle.settings.proofs.settings_refusal.Goals as goal

pub returns-then-s-lt4 : goal.returns-then-s-lt4
returns-then-s-lt4 c =
    let a = c.args.s in
    let few : a.n < 4 = c.if-s-lt4.true in
    search tests

pub returns-then-s-gt64 : goal.returns-then-s-gt64
returns-then-s-gt64 c = search tests

pub returns-then-s-eq0 : goal.returns-then-s-eq0
returns-then-s-eq0 c = search tests

pub returns-then-s : goal.returns-then-s
returns-then-s c =
    let a = c.args.s in
    let h : a.n ≤ 3 * a.f = omega arith in
    search tests

pub returns-then-s-2 : goal.returns-then-s-2
returns-then-s-2 c =
    let a = c.args.s in
    let h : 3 * a.f < a.n = omega arith in
    let none : a.n ≤ a.id = c.if-s-2.true in
    search tests

pub returns-then-s-gt7 : goal.returns-then-s-gt7
returns-then-s-gt7 c =
    let a = c.args.s in
    let h : 3 * a.f < a.n = omega arith in
    let beyond : 7 < a.class = c.if-s-gt7.true in
    search tests

pub returns : goal.returns
returns c =
    let a = c.args.s in
    let h : 3 * a.f < a.n = omega arith in
    search tests
