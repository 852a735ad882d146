-- Tests that fall or rise with the view hold in the first so many views, or from there on: one number says where.
-- Assumes nothing.
use Rattle.std.specs.Prelude.{ℕ, ◌<◌, min, ◌≡◌, Bool, false, not, leb}
use Rattle.std.proofs.Math.Option.{Option, none, some}
use Rattle.rules.specs.Sets.{Vaults, weigh}
use Rattle.rules.specs.Quorums.{is_quorum}
use Rattle.rules.specs.Rules.{Report, Reports, view_of, reporting}
use Rattle.rules.specs.inside.Counts.{free}

-- How many views below v pass a test.
abbrev pub views : (ℕ → Bool) → ℕ → ℕ
views test v = weigh (λ u. 1) test v

-- 'no lock .. above v'', of one report.
unfoldable pub under : ℕ → Report → Bool
under u r = leb (view_of r.lock) u

-- 'no lock in q above v'', for some quorum q of reporters.
unfoldable pub cleared : Vaults → Reports → ℕ → Bool
cleared vs rs u = is_quorum vs (reporting rs (under u))

-- In how many views below v a report has a lock above the view; in all where there is no report.
abbrev pub lock_span : ℕ → Option Report → ℕ
lock_span v none = v
lock_span v (some r) = min (view_of r.lock) v

-- In how many views below v no quorum is cleared: the number of the lowest view with one, v where there is none.
unfoldable pub lowest_view : Vaults → Reports → ℕ → ℕ
lowest_view vs rs v = views (λ u. not (cleared vs rs u)) v

-- View u is below v and the lowest view with a cleared quorum, and no quorum is without a lock.
pub record Lowest (vs : Vaults) (rs : Reports) (v u : ℕ) : Type 0 where
  pub locked : free vs rs ≡ false
  pub below : u < v
  pub is : u ≡ lowest_view vs rs v
