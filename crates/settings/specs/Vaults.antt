-- The vaults that settings speak of.
-- Assumes nothing.
use Rattle.rules.specs.Sets.{Vaults, equals}
use Rattle.settings.specs.declared.Settings.{Settings}

-- 'n is 4 to 64; f is at least 1': the vaults that the settings speak of, each of weight 1.
abbrev pub vaults_of : Settings → Vaults
vaults_of s = equals s.n s.f
