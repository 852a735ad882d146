-- Three runs of four vaults, by computation: one in which all four decide; one with a vault that says different votes to different
-- vaults, and the others decide all the same; and one in which nothing is decided in view 0, and all decide in view 1 the plan for
-- which they are locked, which is not the leader's own (document 01, 'Runs, as demand 3 means them'). Each is a script, so it is a
-- run (`script_runs`), and what its vaults write is computed. The newest move stands first.
-- Assumes nothing.
use Prim.Native.Nat.{ℕ, ◌+◌}
use mathlib.Core.Path.{◌≡◌, refl}
use mathlib.Core.Bool.{true, not, cond}
use mathlib.Core.List.{List, [], ◌∷◌, ◌++◌}
use mathlib.Core.Option.{Option, none, some}
use lib.Dec.{eqb}
use Rattle.wire.specs.Digits.{number_at, digits}
use Rattle.rules.specs.Sets.{Set, weigh}
use Rattle.rules.specs.Quorums.{is_quorum, is_blocking}
use Rattle.rules.specs.inside.Bools.{any_below}
use Rattle.rules.specs.Rules.{reach, claims, unlocked, allows}
use Rattle.rules.specs.inside.Counts.{claimed, free, allowed, two_sets, backed, safe, smallest, choice}
use Rattle.frame.specs.declared.Body.TheVariants.{Plan}
use Rattle.frame.specs.declared.Frame.{Frame}
use Rattle.frame.specs.Format.{within, length_of, encode, body_as, decode}
use Rattle.frame.specs.Refusal.{bad_form, too_high, bad_previous, view_missing, misled, refusal, read_frame}
use Rattle.entry.specs.declared.Entry.{Entry}
use Rattle.entry.specs.declared.Entry.TheVariants.{Decision}
use Rattle.settings.specs.Settings.{delay_of}
use Rattle.protocol.specs.Record.{Record, highest}
use Rattle.protocol.specs.Pass.{does, writes, agreed, pass, step_a, step_b, step_c, step_d, step_vote, step_h}
use Rattle.protocol.specs.Calls.{answer, started, keep, heard, timed_out}
use Rattle.protocol.specs.Alone.{alone}
use Rattle.protocol.specs.inside.Runs.{record_at, stored_at, written}
use Rattle.protocol.proofs.Scripts.{Move, begin, hear, time_out, lie, cut, come_back, has_back, pick, calls, all_fair}

-- ---- moves

-- Vault i hears entry k of vault j; the leader of view 0 has written its proposal besides, so its entries stand one further.
abbrev says : ℕ → ℕ → ℕ → Move
says i j k = hear i j (k + cond (eqb j 0) 1 0)

-- Vaults 0 to 2 hear each other's entry k; or all four do.
abbrev three : ℕ → List Move
three k = says 0 1 k ∷ says 0 2 k ∷ says 1 0 k ∷ says 1 2 k ∷ says 2 0 k ∷ says 2 1 k ∷ []

-- All four hear each other's entry k.
abbrev all : ℕ → List Move
all k = says 0 3 k ∷ says 1 3 k ∷ says 2 3 k ∷ says 3 0 k ∷ says 3 1 k ∷ says 3 2 k ∷ three k

-- Each vault starts with a plan of its own, and the proposal of vault 0 comes to all.
abbrev begun : List Move
begun = hear 1 0 1 ∷ hear 2 0 1 ∷ hear 3 0 1 ∷ begin 3 6 ∷ begin 2 9 ∷ begin 1 8 ∷ begin 0 7 ∷ []

-- All vaults keep the rules.
abbrev pub everyone : Set
everyone i = true

-- What vault i wrote as entry k.
abbrev pub wrote : List Move → ℕ → ℕ → Option Entry
wrote ms i k = pick k (written (calls ms) i)

-- The frame of kind k and sender j that a record keeps.
abbrev pub kept_in : Option Record → ℕ → ℕ → Option Frame
kept_in none k j = none
kept_in (some r) k j = r.kept k j

-- ---- all decide

-- Four rounds of votes in view 0.
abbrev pub plain : List Move
plain = all 4 ++ (all 3 ++ (all 2 ++ (all 1 ++ begun)))

-- The script is fair, so it is a run.
pub plain_fair : all_fair everyone plain ≡ true
plain_fair = refl

-- All four decide 7 in view 0.
pub plain_decides : (wrote plain 0 6 ≡ some (Decision 0 7))
    × (wrote plain 1 5 ≡ some (Decision 0 7))
    × (wrote plain 2 5 ≡ some (Decision 0 7))
    × (wrote plain 3 5 ≡ some (Decision 0 7))
unfolding delay_of answer started keep heard timed_out pass step_a step_b step_c step_d step_vote step_h does writes agreed highest safe free allowed claimed
    two_sets backed choice smallest any_below weigh is_quorum is_blocking reach claims unlocked allows record_at stored_at written calls
plain_decides = (refl, refl, refl, refl)

-- ---- a vault that lies

-- All but vault 3.
abbrev pub but_one : Set
but_one i = not (eqb i 3)

-- Vote-1 of vault 3 in view 0.
abbrev pub vote_of3 : ℕ → Frame
vote_of3 p = record { kind = 2; sender = 3; view = 0; body = Plan p }

-- Vault 3 says vote-1 for 7 to vaults 0 and 1, and for 9 to vault 2; the others take four rounds of votes.
abbrev pub lied : List Move
lied = three 4 ++ (three 3 ++ (three 2 ++ (three 1
    ++ (lie 0 (vote_of3 7) ∷ lie 1 (vote_of3 7) ∷ lie 2 (vote_of3 9) ∷ hear 1 0 1 ∷ hear 2 0 1 ∷ begin 2 9 ∷ begin 1 8 ∷ begin 0 7 ∷ []))))

-- The script is fair, so it is a run.
pub lied_fair : all_fair but_one lied ≡ true
lied_fair = refl

-- Vaults 0 and 2 keep different votes of vault 3.
pub lied_kept : (kept_in (record_at (calls lied) 0) 2 3 ≡ some (vote_of3 7)) × (kept_in (record_at (calls lied) 2) 2 3 ≡ some (vote_of3 9))
unfolding delay_of answer started keep heard timed_out pass step_a step_b step_c step_d step_vote step_h does writes agreed highest safe free allowed claimed
    two_sets backed choice smallest any_below weigh is_quorum is_blocking reach claims unlocked allows record_at stored_at written calls within length_of encode
    body_as decode bad_form too_high bad_previous view_missing misled refusal read_frame number_at digits
lied_kept = (refl, refl)

-- The three others decide 7 all the same.
pub lied_decides : (wrote lied 0 6 ≡ some (Decision 0 7)) × (wrote lied 1 5 ≡ some (Decision 0 7)) × (wrote lied 2 5 ≡ some (Decision 0 7))
unfolding delay_of answer started keep heard timed_out pass step_a step_b step_c step_d step_vote step_h does writes agreed highest safe free allowed claimed
    two_sets backed choice smallest any_below weigh is_quorum is_blocking reach claims unlocked allows record_at stored_at written calls within length_of encode
    body_as decode bad_form too_high bad_previous view_missing misled refusal read_frame number_at digits
lied_decides = (refl, refl, refl)

-- ---- a decision in view 1

-- Two rounds of votes in view 0, so that all have sent vote-3 for 7; all timers; view-changes; proofs to all, and suggests to vault 1.
abbrev locked : List Move
locked = says 1 0 7 ∷ says 1 2 7 ∷ says 1 3 7 ∷ all 6 ++ (all 4 ++ (time_out 0 0 ∷ time_out 1 0 ∷ time_out 2 0 ∷ time_out 3 0 ∷ all 2 ++ (all 1 ++ begun)))

-- Then the proposal of vault 1, and four rounds of votes in view 1.
abbrev pub later : List Move
later = all 11 ++ (all 10 ++ (all 9 ++ (all 8 ++ (hear 0 1 7 ∷ hear 2 1 7 ∷ hear 3 1 7 ∷ locked))))

-- The script is fair, so it is a run.
pub later_fair : all_fair everyone later ≡ true
later_fair = refl

-- All four decide 7 in view 1.
pub later_decides : (wrote later 0 13 ≡ some (Decision 1 7))
    × (wrote later 1 12 ≡ some (Decision 1 7))
    × (wrote later 2 12 ≡ some (Decision 1 7))
    × (wrote later 3 12 ≡ some (Decision 1 7))
unfolding delay_of answer started keep heard timed_out pass step_a step_b step_c step_d step_vote step_h does writes agreed highest safe free allowed claimed
    two_sets backed choice smallest any_below weigh is_quorum is_blocking reach claims unlocked allows record_at stored_at written calls
later_decides = (refl, refl, refl, refl)

-- ---- vaults that come back

-- After each of the first three rounds of votes vault 0 is cut off and comes back, after the second one twice. Vault 3 is away from the second round
-- to the third.
abbrev pub returned : List Move
returned = all 4 ++ (come_back 0 ∷ cut 0 ∷ come_back 3 ∷ all 3 ++ (come_back 0 ∷ cut 0 ∷ come_back 0 ∷ cut 0 ∷ all 2
    ++ (cut 3 ∷ come_back 0 ∷ cut 0 ∷ all 1 ++ begun)))

-- The script is fair, so it is a run.
pub returned_fair : all_fair everyone returned ≡ true
returned_fair = refl

-- The other three decide 7 in view 0.
pub returned_decides : (wrote returned 0 6 ≡ some (Decision 0 7))
    × (wrote returned 1 5 ≡ some (Decision 0 7))
    × (wrote returned 2 5 ≡ some (Decision 0 7))
unfolding delay_of answer started keep heard timed_out pass step_a step_b step_c step_d step_vote step_h does writes agreed highest safe free allowed claimed
    two_sets backed choice smallest any_below weigh is_quorum is_blocking reach claims unlocked allows record_at stored_at written calls alone
returned_decides = (refl, refl, refl)

-- Vaults 0 and 3 come back.
pub returned_back : (has_back 0 (calls returned) ≡ true) × (has_back 3 (calls returned) ≡ true)
unfolding delay_of answer started keep heard timed_out pass step_a step_b step_c step_d step_vote step_h does writes agreed highest safe free allowed claimed
    two_sets backed choice smallest any_below weigh is_quorum is_blocking reach claims unlocked allows record_at stored_at written calls alone
returned_back = (refl, refl)
