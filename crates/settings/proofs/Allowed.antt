-- Settings that are not refused are those of 'Words and ranges' (01): a table that gives nothing has no row that is given, and each
-- row's test is false just where its number is in range.
-- Assumes nothing.
use Prim.Native.Nat.{ℕ, ◌*◌, ◌≤◌}
use mathlib.Core.Path.{◌≡◌}
use mathlib.Core.Bool.{◌||◌}
use mathlib.Core.List.{[], ◌∷◌}
use native.Mathlib.Omega.{arith}
use borrow.Author.Tests.{leb-false, ltb-false, eqb-false}
use lib.Dec.{leb, ltb, eqb}
use Rattle.frame.specs.Refusal.{row, first}
use Rattle.frame.proofs.Laws.{none, neither}
use Rattle.settings.specs.declared.Settings.{Settings}
use Rattle.settings.specs.Settings.{setting_rows}
use Rattle.settings.specs.inside.Allowed.{Allowed}

-- Settings for which rows 5 to 8 give nothing are in range.
pub allowed : (s : Settings) → first (setting_rows s) ≡ 0 → Allowed s
allowed s e =
    let n : ℕ = s.n in
    let f : ℕ = s.f in
    let id : ℕ = s.id in
    let class : ℕ = s.class in
    let row₈ = row 8 (ltb 7 class) ∷ [] in
    let row₇ = row 7 (leb n id) ∷ row₈ in
    let row₆ = row 6 (eqb f 0 || leb n (3 * f)) ∷ row₇ in
    let a = none (ltb n 4 || ltb 64 n) 5 (first row₆) (omega arith) e in
    let b = none (eqb f 0 || leb n (3 * f)) 6 (first row₇) (omega arith) a.1 in
    let c = none (leb n id) 7 (first row₈) (omega arith) b.1 in
    let d = none (ltb 7 class) 8 0 (omega arith) c.1 in
    let range = neither (ltb n 4) (ltb 64 n) a.0 in
    let third = neither (eqb f 0) (leb n (3 * f)) b.0 in
    let least : 4 ≤ n = ltb-false n 4 range.0 in
    let most : n ≤ 64 = ltb-false 64 n range.1 in
    let liars : f ≡ 0 → ⊥ = eqb-false f 0 third.0 in
    record {
      least = least;
      most = most;
      liars = omega arith;
      third = leb-false n (3 * f) third.1;
      own = leb-false n id c.0;
      link = ltb-false 7 class d.0;
    }
