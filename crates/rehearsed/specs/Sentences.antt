-- What document 02, wish 2, rests on besides Agrees: which vault takes a suggest, and where the frames on their way come from.
-- Proved as `suggests_are_for_leaders` in proofs/Suggests and `waiting_was_written` in proofs/Written.
-- Assumes nothing.
use Rattle.std.specs.Prelude.{ℕ, ◌<◌, ◌≡◌, ◌≢◌, ◌⊎◌, false, List}
use Rattle.std.proofs.Math.Option.{some}
use Rattle.frame.specs.declared.Frame.{Frame}
use Rattle.frame.specs.Format.{encode}
use Rattle.frame.specs.Valid.{Valid}
use Rattle.frame.specs.Refusal.{leader_of}
use Rattle.entry.specs.declared.Entry.TheVariants.{ForAll, ForOne}
use Rattle.record.specs.Layout.{decode_record}
use Rattle.protocol.specs.Tables.{◌∈◌}
use Rattle.runs.specs.Runs.{frame, is_accepted}
use Rattle.runs.specs.Fixed.{leaves}
use Rattle.lines.specs.Lines.{after}
use Rattle.stage.specs.Stage.{place_count, empty_stage, Waiting, waiting_at}
use Rattle.stage.specs.Lines.{rehearsal}
use Rattle.rehearsed.specs.Agrees.{written_at, Undeclared}

-- A suggest at a vault that does not lead its view is refused, whatever the record and the output space.
abbrev pub SuggestsAreForLeaders : Type 0
SuggestsAreForLeaders = (rec out : List ℕ) (link : ℕ) (x : Frame) → Valid x → x.kind ≡ 7
    → leader_of x.view (decode_record rec).set.n ≢ (decode_record rec).set.id → is_accepted (leaves rec (frame link (encode x)) out) ≡ false

-- What waits was written by its writer, for all or for the vault that the recipient byte names; or its writer is declared by the script's end.
abbrev pub WaitingWasWritten : Type 0
WaitingWasWritten = (texts : List (List ℕ)) (k : ℕ) (w : Waiting) → k < place_count → waiting_at (after rehearsal empty_stage texts) k ≡ some w
    → Undeclared texts w.writer
    → (x : Frame) × (w.bytes ≡ encode x)
    × (((w.to ≡ 255) × (ForAll x ∈ written_at empty_stage texts w.writer)) ⊎ (ForOne w.to x ∈ written_at empty_stage texts w.writer))
