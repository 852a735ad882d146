-- What a call may bring: a 64-bit plan, and a frame that the reader accepted.
-- Assumes nothing.
use Rattle.std.specs.Prelude.{ℕ, ◌^◌, ◌<◌, ◌≡◌}
use Rattle.frame.specs.declared.Frame.{Frame}
use Rattle.frame.specs.Valid.{Valid}
use Rattle.frame.specs.Refusal.{first, link_rows, content_rows, leader_rows}
use Rattle.std.proofs.Math.Option.{Option, none, some}
use Rattle.frame.specs.Refusal.{Accepted, Refused}
use Rattle.protocol.specs.Record.{Record}
use Rattle.protocol.specs.Calls.{Call, start, frame, timer, short}

-- What the frame reader of vault i of n accepts: a frame that has bytes, to which no row from 11 to 15, 21 and 22 applies.
pub record Readable (n i : ℕ) (x : Frame) : Type 0 where
  pub valid : Valid x
  pub link : first (link_rows x.sender x.sender n i) ≡ 0
  pub content : first (content_rows x) ≡ 0
  pub leader : first (leader_rows x n i) ≡ 0

-- What a call brings: 'A plan is any 64-bit number', and of a frame, that the vault's reader accepted it.
abbrev pub Fed : Option Record → Call → Type 0
Fed b (start s p) = p < 2 ^ 64
Fed none (frame x) = Unit {0}
Fed (some r) (frame (Accepted x)) = Readable r.set.n r.set.id x
Fed (some r) (frame (Refused k)) = Unit {0}
Fed b (timer v) = Unit {0}
Fed b short = Unit {0}
