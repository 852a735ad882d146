-- `layout::settings_of` meets its contract: the first four bytes.
-- Assumes nothing.
use mathlib.Core.Path.{refl}
use Rattle.record.specs.Layout.{decode_record}
use Rattle.record.proofs.settings_of.Goals as goal

pub returns : goal.returns
unfolding decode_record
returns c = refl
