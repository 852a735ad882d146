-- Worked calls, by computation: document 01's example, each step, the timer, the leader's choices, the two_set vote, restarts.
-- Assumes nothing.
use Prim.Native.Nat.{ℕ, suc}
use mathlib.Core.Path.{◌≡◌, refl}
use mathlib.Core.List.{List, [], ◌∷◌}
use mathlib.Core.Option.{Option, none, some}
use Rattle.rules.specs.Sets.{weigh}
use Rattle.rules.specs.Quorums.{is_quorum, is_blocking}
use Rattle.rules.specs.inside.Bools.{any_below}
use Rattle.rules.specs.Rules.{Vote, Rule, rule1, rule3, reach, claims, unlocked, allows}
use Rattle.rules.specs.inside.Counts.{claimed, free, allowed, two_sets, backed, safe, smallest, choice}
use Rattle.frame.specs.declared.Body.{Body}
use Rattle.frame.specs.declared.Body.TheVariants.{Plan, Empty, Told}
use Rattle.frame.specs.declared.Frame.{Frame}
use Rattle.frame.specs.Refusal.{Accepted, Refused}
use Rattle.entry.specs.declared.Entry.{Entry}
use Rattle.entry.specs.declared.Entry.TheVariants.{ForAll, ForOne, Timer, Decision}
use Rattle.settings.specs.Settings.{delay_of}
use Rattle.protocol.specs.Record.{Record, changed, each, highest, spelt, kind_of}
use Rattle.protocol.specs.Pass.{does, writes, agreed, pass, step_a, step_b, step_c, step_d, step_vote, step_h}
use Rattle.protocol.specs.Alone.{alone, restarted}
use Rattle.protocol.specs.Calls.{Call, start, frame, timer, short, Answer, refused, accepted, started, keep, heard, timed_out, answer}

-- ---- a script of calls at one vault, and what it replies

-- What one call of a script replies.
data Reply : Type 0 where
  refusal : ℕ → Reply
  wrote : List Entry → Reply

-- The replies of all calls, each on the record that the one before it left.
unfoldable replies : List Call → Option Record → List Reply
replies [] b = []
replies (c ∷ cs) b = go (replies cs) (answer b c)
  where
    go : (Option Record → List Reply) → Answer → List Reply
    go rest (refused k) = refusal k ∷ rest b
    go rest (accepted o) = wrote o.wrote ∷ rest (some o.left)

-- Vault id of 4, of which 1 may break the rules, with link class 2 and a starting plan.
abbrev starts : ℕ → ℕ → Call
starts id p = start (record { n = 4; f = 1; id = id; class = 2 }) p

-- A frame of sender j.
abbrev from : ℕ → ℕ → ℕ → Body → Frame
from j kind v body = record { kind = kind; sender = j; view = v; body = body }

-- Sender j's vote-k (k = 0: proposal), view-change, suggest (rule1) or proof (rule3).
abbrev vote : ℕ → ℕ → ℕ → ℕ → Frame
vote j k v p = from j (suc k) v (Plan p)

-- Sender j's view-change for v.
abbrev change : ℕ → ℕ → Frame
change j v = from j 6 v Empty

-- Sender j's suggest (rule1) or proof (rule3) for view v, with these reports.
abbrev told : Rule → ℕ → ℕ → Option Vote → Option Vote → Option Vote → Frame
told rule j v highest previous lock = from j (kind_of rule) v (Told (record { highest = spelt highest; previous = spelt previous; lock = spelt lock }))

-- A vote for p in view v, as a report tells it.
abbrev for : ℕ → ℕ → Option Vote
for v p = some (record { view = v; plan = p })

-- The call with an accepted frame.
abbrev hears : Frame → Call
hears f = frame (Accepted f)

-- The timer entry of link class 2.
abbrev timed : ℕ → Entry
timed v = Timer v 900

-- A suggest or proof that reports nothing.
abbrev silent : Rule → ℕ → ℕ → Frame
silent rule j v = told rule j v none none none

-- ---- the scripts

-- Document 01's example: timer, proposal, vote-1; nothing; vote-2; refusal 17.
abbrev document : Type 0
document = replies (starts 0 7 ∷ hears (vote 1 1 0 7) ∷ hears (vote 2 1 0 7) ∷ hears (vote 1 1 0 7) ∷ []) none
    ≡ wrote (timed 0 ∷ ForAll (vote 0 0 0 7) ∷ ForAll (vote 0 1 0 7) ∷ []) ∷ wrote [] ∷ wrote (ForAll (vote 0 2 0 7) ∷ []) ∷ refusal 17 ∷ []

-- Step D, then E to H as the third vote of each number comes.
abbrev all_votes : Type 0
all_votes = replies (
    starts 3 7 ∷ hears (vote 0 0 0 5) ∷ hears (vote 0 1 0 5) ∷ hears (vote 1 1 0 5) ∷ hears (vote 0 2 0 5) ∷ hears (vote 1 2 0 5)
    ∷ hears (vote 0 3 0 5) ∷ hears (vote 1 3 0 5) ∷ hears (vote 0 4 0 5) ∷ hears (vote 1 4 0 5) ∷ hears (vote 2 4 0 5) ∷ []
    ) none
    ≡ wrote (timed 0 ∷ []) ∷ wrote (ForAll (vote 3 1 0 5) ∷ []) ∷ wrote [] ∷ wrote (ForAll (vote 3 2 0 5) ∷ []) ∷ wrote [] ∷ wrote (ForAll (vote 3 3 0 5) ∷ [])
    ∷ wrote [] ∷ wrote (ForAll (vote 3 4 0 5) ∷ []) ∷ wrote [] ∷ wrote (Decision 0 5 ∷ []) ∷ wrote [] ∷ []

-- 'whether or not the earlier vote was sent': vote-4 and no other. Two votes of a kind are no quorum.
abbrev late_vote : Type 0
late_vote = replies (starts 3 7 ∷ hears (vote 0 3 0 5) ∷ hears (vote 1 3 0 5) ∷ hears (vote 2 3 0 5) ∷ []) none
    ≡ wrote (timed 0 ∷ []) ∷ wrote [] ∷ wrote [] ∷ wrote (ForAll (vote 3 4 0 5) ∷ []) ∷ []

-- Step A on the second view-change, and B in the same pass, as the own one counts.
abbrev view_changes : Type 0
view_changes = replies (starts 3 7 ∷ hears (change 0 2) ∷ hears (change 1 2) ∷ hears (change 2 2) ∷ hears (vote 2 0 1 4) ∷ []) none
    ≡ wrote (timed 0 ∷ []) ∷ wrote []
    ∷ wrote (ForAll (change 3 2) ∷ timed 2 ∷ ForAll (silent rule3 3 2) ∷ ForOne 2 (silent rule1 3 2) ∷ []) ∷ refusal 16 ∷ refusal 16 ∷ []

-- The timer asks for the next view, and repeats that.
abbrev timer_repeats : Type 0
timer_repeats = replies (starts 3 7 ∷ timer 1 ∷ timer 0 ∷ timer 0 ∷ hears (change 0 1) ∷ hears (change 1 1) ∷ timer 1 ∷ []) none
    ≡ wrote (timed 0 ∷ []) ∷ refusal 18 ∷ wrote (ForAll (change 3 1) ∷ []) ∷ wrote (ForAll (change 3 1) ∷ []) ∷ wrote []
    ∷ wrote (timed 1 ∷ ForAll (silent rule3 3 1) ∷ ForOne 1 (silent rule1 3 1) ∷ []) ∷ wrote (ForAll (change 3 2) ∷ []) ∷ []

-- It repeats its own view-change beyond the next view too: here n = 7 and f = 2.
abbrev timer_beyond : Type 0
timer_beyond = replies (
    start (record { n = 7; f = 2; id = 3; class = 0 }) 7 ∷ hears (change 0 5) ∷ hears (change 1 5) ∷ hears (change 2 5) ∷ timer 0 ∷ []
    ) none
    ≡ wrote (Timer 0 180 ∷ []) ∷ wrote [] ∷ wrote [] ∷ wrote (ForAll (change 3 5) ∷ []) ∷ wrote (ForAll (change 3 5) ∷ []) ∷ []

-- The hang of wish 3: a view-change for 2 counts for 1 too, so vault 0 enters view 1 with vault 1.
abbrev later_backs : Type 0
later_backs = replies (starts 0 7 ∷ timer 0 ∷ hears (change 2 1) ∷ hears (change 2 2) ∷ hears (change 1 1) ∷ []) none
    ≡ wrote (timed 0 ∷ ForAll (vote 0 0 0 7) ∷ ForAll (vote 0 1 0 7) ∷ []) ∷ wrote (ForAll (change 0 1) ∷ []) ∷ wrote [] ∷ wrote []
    ∷ wrote (timed 1 ∷ ForAll (told rule3 0 1 (for 0 7) none none) ∷ ForOne 1 (silent rule1 0 1) ∷ []) ∷ []

-- Step A asks for view 5 and B enters view 3 in one pass, by view-changes for 3, 5 and 9; the timer of view 3 then repeats the one for 5.
abbrev scattered : Type 0
scattered = replies (
    start (record { n = 7; f = 2; id = 0; class = 2 }) 7 ∷ hears (change 1 5) ∷ hears (change 2 3) ∷ hears (change 3 9) ∷ hears (change 4 9) ∷ timer 3 ∷ []
    ) none
    ≡ wrote (timed 0 ∷ ForAll (vote 0 0 0 7) ∷ ForAll (vote 0 1 0 7) ∷ []) ∷ wrote [] ∷ wrote [] ∷ wrote (ForAll (change 0 3) ∷ [])
    ∷ wrote (ForAll (change 0 5) ∷ timed 3 ∷ ForAll (told rule3 0 3 (for 0 7) none none) ∷ ForOne 3 (silent rule1 0 3) ∷ [])
    ∷ wrote (ForAll (change 0 5) ∷ []) ∷ []

-- The view that is entered by view-changes for 4 and 5 is 4, and one for 3 comes too late.
abbrev lower_entered : Type 0
lower_entered = replies (starts 3 7 ∷ hears (change 0 5) ∷ hears (change 1 4) ∷ hears (change 2 3) ∷ []) none
    ≡ wrote (timed 0 ∷ []) ∷ wrote []
    ∷ wrote (ForAll (change 3 4) ∷ timed 4 ∷ ForAll (silent rule3 3 4) ∷ ForOne 0 (silent rule1 3 4) ∷ []) ∷ refusal 16 ∷ []

-- A leader enters its view: its suggest counts and is not written; with two others that report no lock it proposes its plan.
abbrev own_plan : Type 0
own_plan = replies (starts 1 7 ∷ hears (change 0 1) ∷ hears (change 2 1) ∷ hears (silent rule1 0 1) ∷ hears (silent rule1 2 1) ∷ []) none
    ≡ wrote (timed 0 ∷ []) ∷ wrote [] ∷ wrote (ForAll (change 1 1) ∷ timed 1 ∷ ForAll (silent rule3 1 1) ∷ [])
    ∷ wrote [] ∷ wrote (ForAll (vote 1 0 1 7) ∷ []) ∷ []

-- A lock (0, 5) among three suggests: 7 is not safe, and 5 is the smallest safe plan. A fourth without lock comes too late.
abbrev locked_plan : Type 0
locked_plan = replies (
    starts 1 7 ∷ hears (change 0 1) ∷ hears (change 2 1) ∷ hears (told rule1 0 1 (for 0 5) none (for 0 5)) ∷ hears (silent rule1 2 1) ∷ hears (silent rule1 3 1)
    ∷ []
    ) none
    ≡ wrote (timed 0 ∷ []) ∷ wrote [] ∷ wrote (ForAll (change 1 1) ∷ timed 1 ∷ ForAll (silent rule3 1 1) ∷ [])
    ∷ wrote [] ∷ wrote (ForAll (vote 1 0 1 5) ∷ []) ∷ wrote [] ∷ []

-- A vault votes-1 only for a plan that is safe by Rule 3: not for 6 while a lock (0, 5) stands against it, but once a fourth proof without lock is there.
abbrev locked_vote : Type 0
locked_vote = replies (
    starts 3 7 ∷ hears (change 0 1) ∷ hears (change 2 1) ∷ hears (vote 1 0 1 6) ∷ hears (told rule3 0 1 (for 0 5) none (for 0 5)) ∷ hears (silent rule3 2 1)
    ∷ hears (silent rule3 1 1) ∷ []
    ) none
    ≡ wrote (timed 0 ∷ []) ∷ wrote [] ∷ wrote (ForAll (change 3 1) ∷ timed 1 ∷ ForAll (silent rule3 3 1) ∷ ForOne 1 (silent rule1 3 1) ∷ [])
    ∷ wrote [] ∷ wrote [] ∷ wrote [] ∷ wrote (ForAll (vote 3 1 1 6) ∷ []) ∷ []

-- M7 in a run: vault 0 voted-1 for 4 and voted-4 for 6 in view 1; in view 3 plan 6 is safe by the two-set clause alone.
abbrev two_set_vote : Type 0
two_set_vote = replies (
    starts 0 7 ∷ hears (change 1 1) ∷ hears (change 2 1) ∷ hears (vote 1 0 1 4) ∷ hears (silent rule3 1 1) ∷ hears (silent rule3 2 1)
    ∷ hears (vote 1 3 1 6) ∷ hears (vote 2 3 1 6) ∷ hears (vote 3 3 1 6) ∷ hears (change 1 3) ∷ hears (change 2 3) ∷ hears (vote 3 0 3 6)
    ∷ hears (told rule3 1 3 (for 1 4) none none) ∷ hears (told rule3 2 3 (for 2 5) none (for 1 6)) ∷ hears (told rule3 3 3 (for 2 5) none none) ∷ []
    ) none
    ≡ wrote (timed 0 ∷ ForAll (vote 0 0 0 7) ∷ ForAll (vote 0 1 0 7) ∷ []) ∷ wrote []
    ∷ wrote (ForAll (change 0 1) ∷ timed 1 ∷ ForAll (told rule3 0 1 (for 0 7) none none) ∷ ForOne 1 (silent rule1 0 1) ∷ [])
    ∷ wrote [] ∷ wrote [] ∷ wrote (ForAll (vote 0 1 1 4) ∷ []) ∷ wrote [] ∷ wrote [] ∷ wrote (ForAll (vote 0 4 1 6) ∷ []) ∷ wrote []
    ∷ wrote (ForAll (change 0 3) ∷ timed 3 ∷ ForAll (told rule3 0 3 (for 1 4) (for 0 7) (for 1 6)) ∷ ForOne 3 (silent rule1 0 3) ∷ [])
    ∷ wrote [] ∷ wrote [] ∷ wrote [] ∷ wrote (ForAll (vote 0 1 3 6) ∷ []) ∷ []

-- Votes-1 for 5, 6, 5: the previous vote stays the one for 6. The vault leads view 3, and writes no suggest there.
abbrev previous_stays : Type 0
previous_stays = replies (
    starts 3 7 ∷ hears (vote 0 0 0 5) ∷ hears (change 0 1) ∷ hears (change 1 1) ∷ hears (silent rule3 0 1) ∷ hears (silent rule3 1 1) ∷ hears (vote 1 0 1 6)
    ∷ hears (change 0 2) ∷ hears (change 1 2) ∷ hears (silent rule3 0 2) ∷ hears (silent rule3 1 2) ∷ hears (vote 2 0 2 5) ∷ hears (change 0 3) ∷ hears
    (change 1 3) ∷ []
    ) none
    ≡ wrote (timed 0 ∷ []) ∷ wrote (ForAll (vote 3 1 0 5) ∷ []) ∷ wrote []
    ∷ wrote (ForAll (change 3 1) ∷ timed 1 ∷ ForAll (told rule3 3 1 (for 0 5) none none) ∷ ForOne 1 (silent rule1 3 1) ∷ [])
    ∷ wrote [] ∷ wrote [] ∷ wrote (ForAll (vote 3 1 1 6) ∷ []) ∷ wrote []
    ∷ wrote (ForAll (change 3 2) ∷ timed 2 ∷ ForAll (told rule3 3 2 (for 1 6) (for 0 5) none) ∷ ForOne 2 (silent rule1 3 2) ∷ [])
    ∷ wrote [] ∷ wrote [] ∷ wrote (ForAll (vote 3 1 2 5) ∷ []) ∷ wrote []
    ∷ wrote (ForAll (change 3 3) ∷ timed 3 ∷ ForAll (told rule3 3 3 (for 2 5) (for 1 6) none) ∷ []) ∷ []

-- One decision for ever, and 'The vault goes on taking part': a quorum of vote-4 in a later view writes nothing.
abbrev decides_once : Type 0
decides_once = replies (
    starts 3 7 ∷ hears (vote 0 4 0 5) ∷ hears (vote 1 4 0 5) ∷ hears (vote 2 4 0 5) ∷ hears (change 0 1) ∷ hears (change 1 1)
    ∷ hears (vote 0 4 1 5) ∷ hears (vote 1 4 1 5) ∷ hears (vote 2 4 1 5) ∷ hears (vote 0 1 1 5) ∷ hears (vote 1 1 1 5) ∷ hears (vote 2 1 1 5) ∷ []
    ) none
    ≡ wrote (timed 0 ∷ []) ∷ wrote [] ∷ wrote [] ∷ wrote (Decision 0 5 ∷ []) ∷ wrote []
    ∷ wrote (ForAll (change 3 1) ∷ timed 1 ∷ ForAll (silent rule3 3 1) ∷ ForOne 1 (silent rule1 3 1) ∷ [])
    ∷ wrote [] ∷ wrote [] ∷ wrote [] ∷ wrote [] ∷ wrote [] ∷ wrote (ForAll (vote 3 2 1 5) ∷ []) ∷ []

-- 'it keeps one frame: the one with the highest view so far': the first sender's vote-1 of view 0 no longer counts.
abbrev later_replaces : Type 0
later_replaces =
    replies (starts 3 7 ∷ hears (vote 0 1 0 5) ∷ hears (vote 0 1 1 5) ∷ hears (vote 1 1 0 5) ∷ hears (vote 2 1 0 5) ∷ hears (vote 0 1 0 5) ∷ []) none
    ≡ wrote (timed 0 ∷ []) ∷ wrote [] ∷ wrote [] ∷ wrote [] ∷ wrote [] ∷ refusal 17 ∷ []

-- Refusals on the way in, of settings, and of what the reader refuses.
abbrev refusals : Type 0
refusals = replies (
    short ∷ timer 0 ∷ frame (Refused 9) ∷ start (record { n = 3; f = 1; id = 0; class = 0 }) 7 ∷ start (record { n = 64; f = 22; id = 0; class = 0 }) 7
    ∷ start (record { n = 4; f = 1; id = 4; class = 0 }) 7 ∷ start (record { n = 4; f = 1; id = 3; class = 8 }) 7
    ∷ start (record { n = 64; f = 21; id = 63; class = 7 }) 7 ∷ starts 0 7 ∷ frame (Refused 9) ∷ short ∷ []
    ) none
    ≡ refusal 1 ∷ refusal 2 ∷ refusal 2 ∷ refusal 5 ∷ refusal 6 ∷ refusal 7 ∷ refusal 8 ∷ wrote (Timer 0 45000 ∷ []) ∷ refusal 4 ∷ refusal 9 ∷ refusal 1 ∷ []

-- What the calls of a script leave.
unfoldable leaves : List Call → Option Record → Option Record
leaves [] b = b
leaves (c ∷ cs) b = leaves cs (go (answer b c))
  where
    go : Answer → Option Record
    go (refused k) = b
    go (accepted o) = some o.left

-- The record that a restart leaves, and what it writes.
abbrev returned : Option Record → Option Record
returned b = each b (λ r. some (restarted r).left)

abbrev says : Option Record → Option (List Entry)
says b = each b (λ r. some (restarted r).wrote)

-- Document 02, wish 6: vault 0 took vote-1 for 7 from 1 and 2, and sent vote-2.
abbrev voted : Option Record
voted = leaves (starts 0 7 ∷ hears (vote 1 1 0 7) ∷ hears (vote 2 1 0 7) ∷ []) none

-- The same frames again, two of vote-2, and the timer, once it is back.
abbrev goes_on : List Call
goes_on = hears (vote 1 1 0 7) ∷ hears (vote 2 1 0 7) ∷ hears (vote 1 2 0 7) ∷ hears (vote 2 2 0 7) ∷ timer 0 ∷ []

-- 'A restart makes a record with that row and no others, and a timer entry; it sends no frame': it has its votes, and has to hear the others' again.
abbrev comes_back : Type 0
comes_back = (says voted ≡ some (timed 0 ∷ []))
    × (replies goes_on (returned voted)
    ≡ wrote [] ∷ wrote [] ∷ wrote [] ∷ wrote (ForAll (vote 0 3 0 7) ∷ []) ∷ wrote (ForAll (change 0 1) ∷ []) ∷ [])
    × (replies (timer 0 ∷ starts 0 8 ∷ []) (returned (leaves goes_on (returned voted))) ≡ wrote (ForAll (change 0 1) ∷ []) ∷ refusal 4 ∷ [])

-- The record in the last view of all.
abbrev last_view : Option Record
last_view = each voted (λ r. some (changed r 4294967295 r.kept r.previous r.decision))

-- A restart is made there too, and the timer then gives 19.
abbrev comes_back_last : Type 0
comes_back_last = (says last_view ≡ some (timed 4294967295 ∷ [])) × (replies (timer 4294967295 ∷ []) (returned last_view) ≡ refusal 19 ∷ [])

-- All of them hold by computation.
worked : document × all_votes × late_vote × view_changes × timer_repeats × timer_beyond × later_backs × scattered × lower_entered × own_plan × locked_plan
    × locked_vote × two_set_vote × previous_stays × decides_once × later_replaces × refusals × comes_back × comes_back_last
unfolding delay_of replies leaves alone restarted answer started keep heard timed_out pass step_a step_b step_c step_d step_vote step_h does writes agreed highest
    safe free allowed claimed two_sets backed choice smallest any_below weigh is_quorum is_blocking reach claims unlocked allows
worked = (refl, refl, refl, refl, refl, refl, refl, refl, refl, refl, refl, refl, refl, refl, refl, refl, refl, (refl, refl, refl), (refl, refl))
