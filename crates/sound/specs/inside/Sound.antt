-- When a lent record is blank, and when it is sound (document 01, 'What a vault keeps'). Slots are given as a function from places
-- to what stands there. Since every string of 11,703 bytes spells a record, what a record of document 01 can't hold (a mark that
-- is neither 0 nor 1, an absent slot that is not zero, a report without its frame, a plan beside a view-change) is unsound here.
-- Assumes nothing.
use Rattle.std.specs.Prelude.{Result, Ok, Err, ℕ, zero, suc, ◌+◌, Bool, true, not, ◌&&◌, ◌||◌, cond, List, ◌++◌, ltb, eqb, length}
use Rattle.frame.specs.declared.Report.{Report}
use Rattle.frame.specs.declared.Frame.{Frame}
use Rattle.frame.specs.Refusal.{first, present, absent, bad_form, bad_previous, content_rows, leader_rows}
use Rattle.settings.specs.declared.Settings.{Settings}
use Rattle.settings.specs.Settings.{setting_rows}
use Rattle.record.specs.Slots.{rows, kinds, Record, frame_slot, report_slot, previous_slot, decision_slot, slot_of}
use Rattle.record.specs.Layout.{decode_record}
use Rattle.record.specs.Size.{record_size}
use Rattle.record.specs.Kept.{frame_held}
use Rattle.frame.specs.declared.Refusal.{Refusal}
use Rattle.frame.specs.declared.Refusal.TheVariants as why
use Rattle.sound.specs.declared.Lent.{Lent}
use Rattle.sound.specs.declared.Lent.TheVariants.{Blank, Unsound, Sound}

-- A test holds of every number below n.
unfoldable pub all : (ℕ → Bool) → ℕ → Bool
all test zero = true
all test (suc n) = all test n && test n

-- ---- a place: a kind and a sender

-- No report stands at the places of a kind and a sender.
unfoldable pub reports_absent : (ℕ → Report) → ℕ → ℕ → Bool
reports_absent slots kind sender =
    absent (slots (report_slot kind 0 sender))
    && (absent (slots (report_slot kind 1 sender)) && absent (slots (report_slot kind 2 sender)))

-- Nothing is kept for a kind and a sender: no frame, and no report of a suggest or a proof.
unfoldable pub empty_at : (ℕ → Report) → ℕ → ℕ → Bool
empty_at slots kind sender = absent (slots (frame_slot kind sender)) && (ltb kind 7 || reports_absent slots kind sender)

-- The table's column 'Rest': only kinds 1 to 5 have a plan.
unfoldable pub no_plan : ℕ → ℕ → Bool
no_plan kind plan = ltb kind 6 || eqb plan 0

-- 'no frame in its own row but the view-change is above the current view'
unfoldable pub ahead : Settings → ℕ → Frame → Bool
ahead set view f = eqb f.sender set.id && (not (eqb f.kind 6) && ltb view f.view)

-- 'every kept frame passes 9 to 15 for its row (its own row excused from the own-number half of 11)', and 21 and 22 ('A sound record passes these
-- as well'): 9, 10 and 12 are passed by place, and of 11 the half is left that the sender is below n.
unfoldable pub frame_sound : Settings → ℕ → Frame → Bool
frame_sound set view f =
    ltb f.sender set.n && (not (ahead set view f) && eqb (first (content_rows f ++ leader_rows f set.n set.id)) 0)

-- 'For each sender and kind it keeps one frame': a sound one, or nothing stands there.
unfoldable pub place_sound : (ℕ → Report) → Settings → ℕ → ℕ → ℕ → Bool
place_sound slots set view kind sender =
    cond (present (slots (frame_slot kind sender)))
    (no_plan kind (slots (frame_slot kind sender)).plan && frame_sound set view (frame_held slots kind sender))
    (empty_at slots kind sender)

-- The places of a kind, of each sender that the layout has a row for.
unfoldable pub kind_sound : (ℕ → Report) → Settings → ℕ → ℕ → Bool
kind_sound slots set view kind = all (place_sound slots set view kind) rows

-- The places of kinds 1 to 8.
unfoldable pub rows_sound : (ℕ → Report) → Settings → ℕ → Bool
rows_sound slots set view = all (λ k. kind_sound slots set view (k + 1)) kinds

-- ---- the own votes

-- 'each previous vote stands to its highest as in 14', which is 22 since wish 1 of document 02
unfoldable pub stands : Report → Report → Bool
stands highest previous = not (bad_form previous) && not (bad_previous highest previous)

-- The own previous vote of a kind (2 is vote-1, 3 is vote-2), against the own kept one.
unfoldable pub previous_sound : (ℕ → Report) → ℕ → ℕ → Bool
previous_sound slots id kind = stands (slots (frame_slot kind id)) (slots (previous_slot kind))

-- 'its own previous vote-1 and vote-2, and the decision'
unfoldable pub votes_sound : (ℕ → Report) → ℕ → Bool
votes_sound slots id =
    previous_sound slots id 2 && (previous_sound slots id 3 && not (bad_form (slots decision_slot)))

-- ---- the record

-- 'It is sound when its settings pass 5 to 8, every kept frame passes .., and each previous vote stands to its highest as in 14.' (22 now)
unfoldable pub sound_in : (ℕ → Report) → Settings → ℕ → Bool
sound_in slots set view =
    eqb (first (setting_rows set)) 0 && (rows_sound slots set view && votes_sound slots set.id)

-- The same of a record.
abbrev pub sound : Record → Bool
sound r = sound_in (slot_of r) r.set r.view

-- 'Otherwise it is blank when its n is 0.'
abbrev pub is_blank : Record → Bool
is_blank r = eqb r.set.n 0

-- 'A lent record of the wrong length, or whose bytes spell no record, is unsound and not blank.'
unfoldable pub lent_is : List ℕ → Lent
lent_is s =
    cond (eqb (length s) record_size)
    (cond (is_blank (decode_record s)) Blank (cond (sound (decode_record s)) Sound Unsound))
    Unsound

-- 'frame or timer on a blank record' gives 2, 'on an unsound record' 3; a sound one is not refused.
abbrev pub lent_refusal : Lent → Result Unit Refusal
lent_refusal Blank = Err why.Blank
lent_refusal Unsound = Err why.Unsound
lent_refusal Sound = Ok tt
