-- The first lines of a rehearsal, of the definitions. Each line is followed by what is known of the stage: the contents that two vaults' records hold, and
-- the frames that wait (crate's proofs/Numbered). The calls on contents compute.
-- Assumes nothing.
use Prim.Native.Nat.{ℕ}
use mathlib.Core.Path.{◌≡◌, refl, sym, ap, subst, ◌∙◌}
use mathlib.Core.Bool.{Bool, cond}
use mathlib.Core.List.{List, [], ◌∷◌, ◌++◌}
use mathlib.Core.Option.{Option, none, some}
use native.Mathlib.Omega.{arith}
use lib.ListN.{length, length-replicate}
use Rattle.wire.specs.Digits.{number_at, digits}
use Rattle.rules.specs.Sets.{weigh}
use Rattle.rules.specs.Quorums.{is_quorum, is_blocking}
use Rattle.rules.specs.inside.Bools.{any_below}
use Rattle.rules.specs.inside.Counts.{safe, choice}
use Rattle.frame.specs.declared.Body.TheVariants.{Plan}
use Rattle.frame.specs.declared.Frame.{Frame}
use Rattle.frame.specs.Refusal.{first, read_frame, refusal, view_missing, misled}
use Rattle.frame.specs.Format.{within, length_of, encode, decode, body_as}
use Rattle.settings.specs.declared.Settings.{Settings}
use Rattle.settings.specs.Settings.{setting_rows, delay_of}
use Rattle.protocol.specs.Record.{Record, highest}
use Rattle.protocol.specs.Pass.{Out, does, writes, agreed, pass, step_a, step_b, step_c, step_d, step_vote, step_h}
use Rattle.protocol.specs.Calls as by
use Rattle.protocol.specs.Calls.{accepted, refused, unless, answer, started, keep, heard}
use Rattle.runs.specs.Runs.{ByteCall, start, frame}
use Rattle.runs.proofs.Carry.{said, said_frame}
use Rattle.rehearsed.specs.Example.{input, Document}
use Rattle.rehearsed.proofs.Calls.{Holds}
use Rattle.rehearsed.proofs.Staged.{blank_at, blank_held, none_at_first}
use Rattle.frame.proofs.Theorems.{encoded_bytes}
use Rattle.entry.specs.declared.Entry.{Entry}
use Rattle.entry.specs.declared.Entry.TheVariants.{ForAll, Timer}
use Rattle.entry.specs.Layout.{entry_bytes}
use Rattle.protocol.specs.Tables.{put}
use Rattle.lines.specs.Digits.{between, value_of, digit_of, line_of, refusal_line, all_digits, bad_line, spelled, bytes_of}
use Rattle.lines.specs.Lines.{ended, begun as begun_line, lines_of, prints}
use Rattle.answers.specs.Example.{text}
use Rattle.answers.specs.Lines.{blank_record}
use Rattle.stage.specs.Stage.{stage_size, empty_stage, record_of, Waiting, waiting_at}
use Rattle.stage.specs.Lines.{Meant, call, wrong_length, vault_in, misnamed}
use Rattle.stage.specs.Lines.{waiting_now, call_of, taken as meant_taken, meant, line_meant, done, rehearsal}
use Rattle.rehearsed.proofs.Numbered.{Heard, Places, Unheard, count_from, frames_from, hears, refuses, shown_from, taken}

-- ---- the calls of the example, by contents

-- Vault v of 4, of which 1 may be bad, with link class 2.
abbrev settings : ℕ → Settings
settings v = record { n = 4; f = 1; id = v; class = 2 }

-- Vault 0's proposal.
abbrev proposal : Frame
proposal = record { kind = 1; sender = 0; view = 0; body = Plan 7 }

-- What the starts leave, and what vault 1 leaves when it has heard the proposal.
abbrev begun : ℕ → Out
begun v = started (settings v) 7

-- After the proposal.
abbrev voted : Out
voted = heard (begun 1).left proposal

-- A start is accepted.
begins : (v : ℕ) → first (setting_rows (settings v)) ≡ 0 → answer none (by.start (settings v) 7) ≡ accepted (begun v)
unfolding answer
begins v passes = ap (λ (k : ℕ). unless k (started (settings v) 7)) passes

-- The proposal is accepted by vault 1.
votes : answer (some (begun 1).left) (by.frame (read_frame (encode proposal) 0 4 1)) ≡ accepted voted
unfolding delay_of answer started pass step_c step_d step_vote step_h does writes agreed highest safe choice any_below weigh is_quorum is_blocking read_frame
    refusal view_missing misled within length_of encode decode body_as number_at digits
votes = refl

-- It is kept then.
keeps_it : answer (some voted.left) (by.frame (read_frame (encode proposal) 0 4 1)) ≡ refused 17
unfolding delay_of answer started keep heard pass step_a step_b step_c step_d step_vote step_h does writes agreed highest safe choice any_below weigh is_quorum
    is_blocking read_frame refusal view_missing misled within length_of encode decode body_as number_at digits
keeps_it = refl

-- Its writer refuses it.
own_refused : answer (some (begun 0).left) (by.frame (read_frame (encode proposal) 0 4 0)) ≡ refused 11
unfolding delay_of answer started pass step_c step_d step_vote step_h does writes agreed highest safe choice any_below weigh is_quorum is_blocking read_frame
    refusal view_missing misled within length_of encode decode body_as number_at digits
own_refused = refl

-- ---- its lines

-- The frame that waits, by its place.
now_is : (s : List ℕ) (k : ℕ) (w : Waiting) → waiting_at s k ≡ some w → waiting_now s k ≡ w
unfolding waiting_at
now_is s k w is = let there : some (waiting_now s k) ≡ some w = ap (λ (b : Bool). cond b none (some (waiting_now s k))) (sym (taken s k w is)) ∙ is in cc

-- The first two lines start vaults 0 and 1, on any stage.
starts_zero : (s : List ℕ) → line_meant s (text "0000020000000000000007") ≡ call 0 (start (settings 0) 7)
unfolding between value_of all_digits bad_line spelled bytes_of line_meant meant misnamed wrong_length vault_in within call_of meant_taken number_at
starts_zero s = refl

starts_one : (s : List ℕ) → line_meant s (text "0001020000000000000007") ≡ call 1 (start (settings 1) 7)
unfolding between value_of all_digits bad_line spelled bytes_of line_meant meant misnamed wrong_length vault_in within call_of meant_taken number_at
starts_one s = refl

-- The third and fourth deliver frame 0 to vault 1, where it waits.
delivers_to_one : (s : List ℕ) (w : Waiting) → waiting_at s 0 ≡ some w → line_meant s (text "010001") ≡ call 1 (frame w.writer w.bytes)
unfolding between value_of all_digits bad_line spelled bytes_of line_meant meant misnamed wrong_length vault_in within call_of meant_taken number_at
delivers_to_one s w is = rw (taken s 0 w is) (ap (λ (x : Waiting). call 1 (frame x.writer x.bytes)) (now_is s 0 w is))

-- The fifth delivers it to vault 0.
delivers_to_zero : (s : List ℕ) (w : Waiting) → waiting_at s 0 ≡ some w → line_meant s (text "010000") ≡ call 0 (frame w.writer w.bytes)
unfolding between value_of all_digits bad_line spelled bytes_of line_meant meant misnamed wrong_length vault_in within call_of meant_taken number_at
delivers_to_zero s w is = rw (taken s 0 w is) (ap (λ (x : Waiting). call 0 (frame x.writer x.bytes)) (now_is s 0 w is))

-- A line, and then the others.
line : (s text : List ℕ) (texts : List (List ℕ)) (m : Meant) → line_meant s text ≡ m → (shown : List ℕ) → (done s m).shown ≡ shown
    → (rest : List ℕ) → prints rehearsal (done s m).stage texts ≡ rest → prints rehearsal s (text ∷ texts) ≡ shown ++ rest
unfolding prints rehearsal
line s text texts m is shown first-line rest others =
    (λ i. (done s (is i)).shown ++ prints rehearsal (done s (is i)).stage texts) ∙ (λ i. first-line i ++ others i)

-- The frame call of a delivery, by contents.
delivered_is : (v : ℕ) (rec : List ℕ) (r : Record) → Holds v rec (some r) → (b : List ℕ) → said rec (frame 0 b) ≡ by.frame (read_frame b 0 4 v)
delivered_is v rec r h b =
    let (four, own) = h.own r refl in
    said_frame rec r 0 b h.spells ∙ (λ i. by.frame (read_frame b 0 (four i) (own i)))

-- The input's lines.
input_lines : lines_of (text input)
    ≡ text "0000020000000000000007" ∷ text "0001020000000000000007" ∷ text "010001" ∷ text "010001" ∷ text "010000" ∷ []
unfolding ended begun_line
input_lines = refl

-- ---- the stage after each line

-- Vault v's proposal (kind 1) or vote-1 (kind 2) for plan 7 in view 0, as a frame and on its way.
abbrev said7 : ℕ → ℕ → Frame
said7 kind v = record { kind = kind; sender = v; view = 0; body = Plan 7 }

abbrev on_its_way : ℕ → ℕ → Waiting
on_its_way kind v = record { writer = v; to = 255; bytes = encode (said7 kind v) }

-- Nothing is known of numbers at which nothing waits.
abbrev nothing : ℕ → Waiting
nothing k = record { writer = 0; to = 0; bytes = [] }

-- What waits after the first line.
abbrev first_two : ℕ → Waiting
first_two = put 1 (on_its_way 2 0) (put 0 (on_its_way 1 0) nothing)

-- What the three accepted calls write.
zero_wrote : (begun 0).wrote ≡ Timer 0 900 ∷ ForAll (said7 1 0) ∷ ForAll (said7 2 0) ∷ []
unfolding delay_of answer started pass step_c step_d step_vote step_h does writes agreed highest safe choice any_below weigh is_quorum is_blocking
zero_wrote = refl

one_wrote : (begun 1).wrote ≡ Timer 0 900 ∷ []
unfolding delay_of answer started pass step_c step_d step_vote step_h does writes agreed highest safe choice any_below weigh is_quorum is_blocking
one_wrote = refl

voted_wrote : voted.wrote ≡ ForAll (said7 2 1) ∷ []
unfolding delay_of answer started keep heard pass step_a step_b step_c step_d step_vote step_h does writes agreed highest safe choice any_below weigh is_quorum
    is_blocking
voted_wrote = refl

-- What a vault's record holds stays, where its bytes do.
still_holds : (v : ℕ) {r t : List ℕ} {b : Option Record} → t ≡ r → Holds v r b → Holds v t b
still_holds v {b = b} same h = subst (λ (r : List ℕ). Holds v r b) (sym same) h

-- The stages, and what is known of them.
s₁ : List ℕ
s₁ = (done empty_stage (call 0 (start (settings 0) 7))).stage

s₂ : List ℕ
s₂ = (done s₁ (call 1 (start (settings 1) 7))).stage

-- Vault 0 is started.
first₁ : Heard empty_stage 0 0 nothing (begun 0) (done empty_stage (call 0 (start (settings 0) 7)))
first₁ =
    hears (record { size = length-replicate {A = ℕ} stage_size 0; waits = λ k less. absurd (omega arith); free = λ k most less. none_at_first k })
    0 (omega arith) (start (settings 0) 7) none (still_holds 0 (blank_at 0 (omega arith)) (blank_held 0))
    (omega arith) (refl, refl) (begun 0) (begins 0 refl) (omega (arith, ap length zero_wrote))

-- Its proposal and its vote-1 wait.
places₁ : Places s₁ 2 first_two
unfolding s₁ count_from frames_from
places₁ = subst (λ (es : List Entry). Places s₁ (count_from 0 es) (frames_from 0 0 nothing es)) zero_wrote first₁.places

-- Vault 1 is started.
second : Heard s₁ 1 2 first_two (begun 1) (done s₁ (call 1 (start (settings 1) 7)))
unfolding s₁
second =
    let blank : record_of s₁ 1 ≡ blank_record = first₁.others 1 (omega arith) (λ (e : 0 ≡ 1). absurd (omega arith)) ∙ blank_at 1 (omega arith) in
    hears places₁ 1 (omega arith) (start (settings 1) 7) none (still_holds 1 blank (blank_held 1))
    (omega arith) (refl, refl) (begun 1) (begins 1 refl) (omega (arith, ap length one_wrote))

-- The same frames wait.
places₂ : Places s₂ 2 first_two
unfolding s₂ count_from frames_from
places₂ = subst (λ (es : List Entry). Places s₂ (count_from 2 es) (frames_from 1 2 first_two es)) one_wrote second.places

-- The call that delivers vault 0's proposal.
abbrev delivery : ByteCall
delivery = frame 0 (encode (said7 1 0))

s₃ : List ℕ
s₃ = (done s₂ (call 1 delivery)).stage

s₄ : List ℕ
s₄ = (done s₃ (call 1 delivery)).stage

-- Vault 1 hears the proposal.
third : Heard s₂ 1 2 first_two voted (done s₂ (call 1 delivery))
unfolding s₂
third =
    hears places₂ 1 (omega arith) delivery (some (begun 1).left) second.this (encoded_bytes (said7 1 0)) tt voted
    (ap (answer (some (begun 1).left)) (delivered_is 1 (record_of s₂ 1) (begun 1).left second.this (encode (said7 1 0))) ∙ votes)
    (omega (arith, ap length voted_wrote))

-- Its vote-1 waits too.
places₃ : Places s₃ 3 (put 2 (on_its_way 2 1) first_two)
unfolding s₃ count_from frames_from
places₃ = subst (λ (es : List Entry). Places s₃ (count_from 2 es) (frames_from 1 2 first_two es)) voted_wrote third.places

-- It hears the proposal again.
fourth : Unheard s₃ 3 (put 2 (on_its_way 2 1) first_two) 17 (done s₃ (call 1 delivery))
unfolding s₃
fourth =
    refuses places₃ 1 (omega arith) delivery (some voted.left) third.this 17
    (ap (answer (some voted.left)) (delivered_is 1 (record_of s₃ 1) voted.left third.this (encode (said7 1 0))) ∙ keeps_it)
    (omega arith)

-- Vault 0 hears its own proposal.
fifth : Unheard s₄ 3 (put 2 (on_its_way 2 1) first_two) 11 (done s₄ (call 0 delivery))
unfolding s₁ s₂ s₃ s₄
fifth =
    let zeroth : Holds 0 (record_of s₄ 0) (some (begun 0).left) =
    still_holds 0 (fourth.records 0 (omega arith) ∙ third.others 0 (omega arith) (λ (e : 1 ≡ 0). absurd (omega arith))
    ∙ second.others 0 (omega arith) (λ (e : 1 ≡ 0). absurd (omega arith))) first₁.this in
    refuses fourth.places 0 (omega arith) delivery (some (begun 0).left) zeroth 11
    (ap (answer (some (begun 0).left)) (delivered_is 0 (record_of s₄ 0) (begun 0).left zeroth (encode (said7 1 0))) ∙ own_refused)
    (omega arith)

-- ---- the whole

-- What is printed, line by line, is the text.
prints_all : shown_from 0 (begun 0).wrote ++ (shown_from 2 (begun 1).wrote ++ (shown_from 2 voted.wrote ++ (refusal_line 17 ++ (refusal_line 11 ++ []))))
    ≡ text "fe0b0000000000000384\nfc00ff0100000000000000000000000007\nfc01ff0200000000000000000000000007\nfe0b0000000000000384\n"
    ++ text "fc02ff0201000000000000000000000007\nfd11\nfd0b\n"
unfolding delay_of answer started keep heard pass step_a step_b step_c step_d step_vote step_h does writes agreed highest safe choice any_below weigh is_quorum
    is_blocking within length_of entry_bytes encode digits line_of digit_of shown_from
prints_all = refl

-- The lines that are left after each.
abbrev left₄ : List (List ℕ)
left₄ = text "010000" ∷ []

abbrev left₃ : List (List ℕ)
left₃ = text "010001" ∷ left₄

abbrev left₂ : List (List ℕ)
left₂ = text "010001" ∷ left₃

abbrev left₁ : List (List ℕ)
left₁ = text "0001020000000000000007" ∷ left₂

-- The first lines of a rehearsal, whole.
pub document : Document
unfolding s₁ s₂ s₃ s₄ prints
document =
    ap (prints rehearsal empty_stage) input_lines
    ∙ line empty_stage (text "0000020000000000000007") left₁ _ (starts_zero empty_stage) _ first₁.shown _
    (line s₁ (text "0001020000000000000007") left₂ _ (starts_one s₁) _ second.shown _
    (line s₂ (text "010001") left₃ _ (delivers_to_one s₂ (on_its_way 1 0) (places₂.waits 0 (omega arith))) _ third.shown _
    (line s₃ (text "010001") left₄ _ (delivers_to_one s₃ (on_its_way 1 0) (places₃.waits 0 (omega arith))) _ fourth.shown _
    (line s₄ (text "010000") [] _ (delivers_to_zero s₄ (on_its_way 1 0) (fourth.places.waits 0 (omega arith))) _ fifth.shown _ refl))))
    ∙ prints_all
