-- Bytes of a record that calls leave.
-- Assumes nothing.
use Rattle.std.specs.Prelude.{ℕ, ◌≡◌, List, length}
use Rattle.record.specs.Layout.{decode_record}
use Rattle.record.specs.Size.{record_size}
use Rattle.protocol.specs.inside.Sound.{Ranged}
use Rattle.protocol.specs.Sound.{Sound}
use Rattle.contents.specs.Contents.{contents_in}
use Rattle.contents.specs.Lent.{Clean}

-- Bytes of a record that calls leave: its slots hold its contents alone, and these are sound and have their widths.
pub record Ready (s : List ℕ) : Type 0 where
  pub size : length s ≡ record_size
  pub clean : Clean (decode_record s)
  pub sound : Sound (contents_in s)
  pub ranged : Ranged (contents_in s)
