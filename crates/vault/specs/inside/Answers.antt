-- What the calls' parts promise each other: the way in, a record that calls left, a frame that was read.
-- Assumes nothing.
use Rattle.std.specs.Prelude.{ℕ, ◌≡◌, cond, List, ltb}
use Rattle.std.proofs.Math.Option.{some}
use Rattle.frame.specs.declared.Frame.{Frame}
use Rattle.frame.specs.Refusal.{Accepted}
use Rattle.frame.specs.Refusal.{first}
use Rattle.settings.specs.declared.Settings.{Settings}
use Rattle.record.specs.Layout.{decode_record}
use Rattle.sound.specs.declared.Lent.{Lent}
use Rattle.sound.specs.declared.Lent.TheVariants.{Blank, Unsound, Sound}
use Rattle.sound.specs.inside.Sound.{lent_is}
use Rattle.protocol.specs.Record.{Record}
use Rattle.protocol.specs.Calls.{frame, timer_rows, answer}
use Rattle.protocol.specs.Fed.{Readable}
use Rattle.contents.specs.Contents.{contents_in}
use Rattle.contents.specs.inside.Ready.{Ready}
use Rattle.contents.specs.Calls.{left_after}
use Rattle.contents.specs.Left.{Left}

-- Refusals 2 and 3 by what the lent record is; 0 where it is sound.
abbrev pub by_lent : Lent → ℕ
by_lent Blank = 2
by_lent Unsound = 3
by_lent Sound = 0

-- The way in to a vault's record, of a frame and of a timer: 'output space below 256 bytes' gives 1, an unsound record 3, a blank one 2.
unfoldable pub way_in : List ℕ → ℕ → ℕ
way_in rec room = cond (ltb room 256) 1 (by_lent (lent_is rec))

-- Lent bytes that calls left, with the settings that they hold.
pub record Held (rec : List ℕ) (set : Settings) : Type 0 where
  pub ready : Ready rec
  pub its : set ≡ (decode_record rec).set

-- The same, with a frame that the reader of these settings accepted.
pub record Read (rec : List ℕ) (set : Settings) (f : Frame) : Type 0 where
  pub held : Held rec set
  pub readable : Readable set.n set.id f

-- 'against the record': what a frame that the reader accepted leaves.
abbrev pub read_left : List ℕ → Frame → List ℕ → Left
read_left rec f out = left_after rec out (answer (some (contents_in rec)) (frame (Accepted f)))

-- Rows 18 and 19 look at the record's view alone: the number that they give, 0 where neither does, of every record at a view.
abbrev pub TimerGives : ℕ → ℕ → ℕ → Type 0
TimerGives current v k = (r : Record) → r.view ≡ current → k ≡ first (timer_rows r v)
