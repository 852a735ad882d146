-- Sound records, by contents (document 01, 'What a vault keeps').
-- Assumes nothing.
use Rattle.std.specs.Prelude.{ℕ, ◌≤◌, ◌<◌, ◌≡◌, ◌≢◌, true, false}
use Rattle.std.proofs.Math.Option.{some}
use Rattle.frame.specs.declared.Frame.{Frame}
use Rattle.frame.specs.Valid.{Valid}
use Rattle.frame.specs.Refusal.{first, bad_previous, content_rows, leader_rows}
use Rattle.protocol.specs.Record.{Record, spelt, vote_of}
use Rattle.settings.specs.declared.Settings.{Settings}
use Rattle.protocol.specs.Pass.{has_previous}
use Rattle.settings.specs.Settings.{setting_rows}

-- 'every kept frame passes 9 to 15 for its row (its own row excused from the own-number half of 11)', and 21 and 22 ('A sound record passes
-- these as well', 02, wish 1): x, of kind k, in row j.
pub record InRow (s : Settings) (k j : ℕ) (x : Frame) : Type 0 where
  pub row : j < s.n
  pub kind : x.kind ≡ k
  pub sender : x.sender ≡ j
  pub valid : Valid x
  pub content : first (content_rows x) ≡ 0
  pub leader : first (leader_rows x s.n s.id) ≡ 0

-- 'It is sound when its settings pass 5 to 8, every kept frame passes 9 to 15 for its row .., no frame in its own row but the
-- view-change is above the current view, and each previous vote stands to its highest as in 14' (22 now).
pub record Sound (r : Record) : Type 0 where
  pub settings : first (setting_rows r.set) ≡ 0
  pub kept : (k j : ℕ) (x : Frame) → r.kept k j ≡ some x → InRow r.set k j x
  pub own : (k : ℕ) (x : Frame) → r.kept k r.set.id ≡ some x → k ≢ 6 → x.view ≤ r.view
  pub previous : (k : ℕ) → has_previous k ≡ true → bad_previous (spelt (vote_of r k r.set.id)) (spelt (r.previous k)) ≡ false
