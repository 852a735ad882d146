-- The public calls on lent bytes: the answer, and every byte of record and output afterwards (document 01, 'Refusals, place by
-- place'). The record's layout is the program's choice; the rest is document 01's.
-- Assumes nothing.
use Rattle.std.specs.Prelude.{ℕ, cond, List, ltb, length}
use Rattle.std.proofs.Math.Option.{none, some}
use Rattle.wire.specs.Placed.{placed}
use Rattle.frame.specs.Refusal.{read_frame}
use Rattle.entry.specs.Layout.{layout}
use Rattle.settings.specs.declared.Settings.{Settings}
use Rattle.record.specs.Layout.{encode_record, decode_record}
use Rattle.sound.specs.declared.Lent.{Lent}
use Rattle.sound.specs.declared.Lent.TheVariants.{Blank, Unsound, Sound}
use Rattle.sound.specs.inside.Sound.{lent_is}
use Rattle.protocol.specs.Record.{Record}
use Rattle.protocol.specs.Calls.{Call, start, frame, timer, Answer, refused, accepted, answer}
use Rattle.contents.specs.Contents.{contents, slotted}
use Rattle.contents.specs.Left.{Left, wrote, gave}

-- 'Each gives its number, zero bytes written, record and output unchanged.' 'Accepted calls return the byte count written; bytes
-- beyond it keep their contents.'
abbrev pub left_after : List ℕ → List ℕ → Answer → Left
left_after rec out (refused k) = gave k rec out
left_after rec out (accepted o) = wrote (length (layout o.wrote)) (encode_record (slotted o.left)) (placed out 0 (layout o.wrote))

-- A call on a lent record, by what it is (`LentIsSaid` in Lent): 3 or 4 where it is unsound (4 is 'start on a record not blank').
abbrev pub on_lent : Lent → ℕ → Record → Call → Answer
on_lent Blank k r a = answer none a
on_lent Unsound k r a = refused k
on_lent Sound k r a = answer (some r) a

-- 'output space below 256 bytes' first; then the record; then the call by contents.
unfoldable pub called : ℕ → List ℕ → List ℕ → Call → Left
called k rec out a =
    cond (ltb (length out) 256) (gave 1 rec out) (left_after rec out (on_lent (lent_is rec) k (contents (decode_record rec)) a))

-- Start: settings and a starting plan.
unfoldable pub start_left : List ℕ → Settings → ℕ → List ℕ → Left
start_left rec set plan out = called 4 rec out (start set plan)

-- Frame: bytes that came over the link from a sender. The vault's n and number are those of its record.
unfoldable pub frame_left : List ℕ → ℕ → List ℕ → List ℕ → Left
frame_left rec link bytes out =
    called 3 rec out (frame (read_frame bytes link (decode_record rec).set.n (decode_record rec).set.id))

-- Timer: the view that the host names.
unfoldable pub timer_left : List ℕ → ℕ → List ℕ → Left
timer_left rec view out = called 3 rec out (timer view)
