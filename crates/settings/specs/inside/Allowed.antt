-- Settings that pass 5 to 8, as facts.
-- Assumes nothing.
use Rattle.std.specs.Prelude.{◌*◌, ◌≤◌, ◌<◌}
use Rattle.settings.specs.declared.Settings.{Settings}

-- Settings that pass 5 to 8: 'n is 4 to 64; f is at least 1 with 3f below n'; 'id, 0 to n - 1'; 'The link class, 0 to 7'.
pub record Allowed (s : Settings) : Type 0 where
  pub least : 4 ≤ s.n
  pub most : s.n ≤ 64
  pub liars : 1 ≤ s.f
  pub third : 3 * s.f < s.n
  pub own : s.id < s.n
  pub link : s.class ≤ 7
