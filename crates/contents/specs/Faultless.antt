-- What document 02, wish 1, asks of a lent record: 'A sound record passes these as well', 14, 21 and 22.
-- Assumes nothing.
use Rattle.std.specs.Prelude.{ℕ, ◌≡◌, true, false, List}
use Rattle.std.proofs.Math.Option.{some}
use Rattle.wire.specs.Fields.{Bytes}
use Rattle.frame.specs.declared.Frame.{Frame}
use Rattle.frame.specs.Format.{reports_of}
use Rattle.frame.specs.Refusal.{bad_previous}
use Rattle.frame.specs.Sentences.{Faultless}
use Rattle.sound.specs.declared.Lent.TheVariants as lent
use Rattle.sound.specs.inside.Sound.{lent_is}
use Rattle.protocol.specs.Record.{Record, spelt, vote_of}
use Rattle.protocol.specs.Pass.{has_previous}
use Rattle.contents.specs.Contents.{contents_in}

-- A record without the three faults: no kept suggest or proof has one, and no own previous vote is at odds with its highest. Of an own previous vote
-- 21 is not asked, since it is in no frame.
pub record NoFaults (r : Record) : Type 0 where
  pub kept : (k j : ℕ) (x : Frame) → r.kept k j ≡ some x → Faultless x.view (reports_of x.body)
  pub own : (k : ℕ) → has_previous k ≡ true → bad_previous (spelt (vote_of r k r.set.id)) (spelt (r.previous k)) ≡ false

-- Lent bytes that the calls take for a sound record have none. Proved as `sound_has_no_faults` in proofs/Lent.
abbrev pub SoundHasNoFaults : Type 0
SoundHasNoFaults = (s : List ℕ) → Bytes s → lent_is s ≡ lent.Sound → NoFaults (contents_in s)
