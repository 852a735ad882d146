-- Scripts: what happens in a run of four vaults of which one may break the rules, and the calls that this is (document 01, 'Runs,
-- as demand 3 means them'). A script names whom a vault hears and which of the entries that this one wrote, so every list of calls
-- that a script gives is a run (`script_runs`): each frame was sent, and its vault's reader accepts it (`run_readable`). A vault that
-- breaks the rules says any frame at all. A vault may be cut off and come back. So runs in which something happens can be shown by computation.
-- Assumes nothing.
use Prim.Native.Nat.{ℕ, zero, suc, ◌^◌, ◌-◌, ◌≤◌, ◌<◌}
use mathlib.Core.Path.{◌≡◌, refl, sym, subst}
use mathlib.Core.Logic.{◌≢◌, inl, inr}
use mathlib.Core.Bool.{Bool, true, false, cond, not, ◌&&◌, ◌||◌}
use mathlib.Core.List.Memᴰ
use mathlib.Core.List.{List, [], ◌∷◌}
use mathlib.Core.Option.{Option, none, some}
use lib.Dec.{ltb, eqb}
use borrow.Author.Tests.{ltb-true, eqb-true, eqb-false, not-true}
use Rattle.rules.specs.Sets.{Set, equals, size, total}
use Rattle.rules.proofs.Bools.{both_split, clash}
use Rattle.rules.proofs.Reports.{none≢some}
use Rattle.frame.specs.declared.Frame.{Frame}
use Rattle.frame.specs.Refusal.{Reading, Accepted, Refused}
use Rattle.frame.specs.Format.{encode}
use Rattle.frame.specs.Refusal.{read_frame}
use Rattle.frame.proofs.Theorems.{encoded_bytes}
use Rattle.entry.specs.declared.Entry.{Entry}
use Rattle.entry.specs.declared.Entry.TheVariants.{ForAll, ForOne, Timer, Decision}
use Rattle.settings.specs.declared.Settings.{Settings}
use Rattle.protocol.specs.Calls.{Call, start, frame, timer, short}
use Rattle.protocol.specs.Record.{Record}
use Rattle.protocol.specs.Tables.{◌∈◌}
use Rattle.protocol.specs.inside.Runs.{ContentsSetting, Event, made, lost, back, ContentsItem, record_at, stored_at, written, Fair, Comes}
use Rattle.protocol.specs.inside.Runs.{ContentsRun, nothing_yet, and_then}
use Rattle.protocol.specs.ReadsBack.{IsFor}
use Rattle.protocol.proofs.Read.{accepted_readable}
use Rattle.protocol.proofs.Lasting.{Carries, Wide}
use Rattle.protocol.proofs.Sent.{run_readable}

-- Vault i starts with plan p; vault i hears the frame of entry k that vault j wrote; vault i's timer for view v; vault i hears x from
-- a vault that breaks the rules; vault i's power is cut; vault i restarts with what is stored.
pub data Move : Type 0 where
  begin : ℕ → ℕ → Move
  hear : ℕ → ℕ → ℕ → Move
  time_out : ℕ → ℕ → Move
  lie : ℕ → Frame → Move
  cut : ℕ → Move
  come_back : ℕ → Move

-- Entry k of a list, from 0.
abbrev pub pick : ℕ → List Entry → Option Entry
pick k [] = none
pick zero (e ∷ es) = some e
pick (suc k) (e ∷ es) = pick k es

-- A picked entry is one of the list.
pub pick_in : (k : ℕ) (es : List Entry) {e : Entry} → pick k es ≡ some e → e ∈ es
pick_in k [] is = absurd (none≢some is)
pick_in zero (d ∷ es) {e} is = let same : e ≡ d = cc in Memᴰ.head same
pick_in (suc k) (d ∷ es) is = Memᴰ.tail (pick_in k es is)

-- The settings of vault i of four, with link class 2.
abbrev pub four : ℕ → Settings
four i = record { n = 4; f = 1; id = i; class = 2 }

-- What vault i hears of an entry: a frame for all or for i, and nothing of others.
abbrev pub heard_of : ℕ → Option Entry → Call
heard_of i none = short
heard_of i (some (ForAll x)) = frame (Accepted x)
heard_of i (some (ForOne j x)) = cond (eqb j i) (frame (Accepted x)) short
heard_of i (some (Timer v m)) = short
heard_of i (some (Decision v p)) = short

-- A vault starts while nothing is stored.
abbrev pub start_of : Option Record → ℕ → ℕ → Call
start_of none i p = start (four i) p
start_of (some r) i p = short

-- A vault without a record comes back with what is stored; else nothing happens.
abbrev pub back_of : Option Record → Option Record → Event
back_of none none = made short
back_of none (some r) = back r
back_of (some b) s = made short

-- The item that a move makes, after the items so far. A liar's frame is given as the vault's reader answers its bytes.
abbrev pub call_of : List ContentsItem → Move → ContentsItem
call_of l (begin i p) = record { at = i; event = made (start_of (stored_at l i) i p) }
call_of l (hear i j k) = record { at = i; event = made (heard_of i (pick k (written l j))) }
call_of l (time_out i v) = record { at = i; event = made (timer v) }
call_of l (lie i x) = record { at = i; event = made (frame (read_frame (encode x) x.sender 4 i)) }
call_of l (cut i) = record { at = i; event = lost }
call_of l (come_back i) = record { at = i; event = back_of (record_at l i) (stored_at l i) }

-- The calls of a script, the newest first in both.
unfoldable pub calls : List Move → List ContentsItem
calls [] = []
calls (m ∷ ms) = call_of (calls ms) m ∷ calls ms

-- The item is a restart of vault i.
abbrev pub is_back : ℕ → ContentsItem → Bool
is_back i x = returns x.event && eqb i x.at
  where
    returns : Event → Bool
    returns (made a) = false
    returns lost = false
    returns (back r) = true

-- Some item of the list is one.
abbrev pub has_back : ℕ → List ContentsItem → Bool
has_back i [] = false
has_back i (x ∷ l) = is_back i x || has_back i l

module _ (keeps : Set) where
  -- Rule-keepers are called, with plans of 64 bits; they hear others; and only vaults that break the rules lie.
  abbrev pub is_fair : Move → Bool
  is_fair (begin i p) = keeps i && ltb p (2 ^ 64)
  is_fair (hear i j k) = keeps i && not (eqb i j)
  is_fair (time_out i v) = keeps i
  is_fair (lie i x) = keeps i && not (keeps x.sender)
  is_fair (cut i) = keeps i
  is_fair (come_back i) = keeps i

  -- Every move of the script is fair.
  abbrev pub all_fair : List Move → Bool
  all_fair [] = true
  all_fair (m ∷ ms) = is_fair m && all_fair ms

module _ (keeps : Set) (most : total (equals 4 1) - 1 ≤ size (equals 4 1) keeps) where
  -- Four vaults, of which one may break the rules.
  abbrev pub of_four : ContentsSetting
  of_four = record { vaults = equals 4 1; keeps = keeps; most = most }

  -- What a script gives is a run whose starts bring 64-bit plans.
  pub record Runs (l : List ContentsItem) : Type 0 where
    pub run : ContentsRun of_four l
    pub wide : Wide l

  -- One more item of a run.
  record Next (l : List ContentsItem) (x : ContentsItem) : Type 0 where
    pub called : keeps x.at ≡ true
    pub comes : Comes of_four l x.at x.event
    pub brings : Carries x.event

  module _ {l : List ContentsItem} (so : Runs l) where
    -- A frame for vault i that vault j wrote may come.
    sent_fair : (i j : ℕ) (x : Frame) → i ≢ j → IsFor i x (written l j) → Fair of_four l i (frame (Accepted x))
    sent_fair i j x other for =
        let (own, can) = run_readable of_four so.run so.wide i j x other for in
        (can, λ rules. subst (λ (k : ℕ). IsFor i x (written l k)) (sym own) for)

    -- A vault may hear an entry that another wrote: a frame for it comes, and anything else comes to nothing.
    hear_next : (i j : ℕ) (o : Option Entry) → keeps i ≡ true → i ≢ j → ((e : Entry) → o ≡ some e → e ∈ written l j)
        → Next l (record { at = i; event = made (heard_of i o) })
    hear_next i j none rules other has = record { called = rules; comes = tt; brings = tt }
    hear_next i j (some (ForAll x)) rules other has = record { called = rules; comes = sent_fair i j x other (inl (has (ForAll x) refl)); brings = tt }
    hear_next i j (some (ForOne k x)) rules other has = go (eqb k i) refl
      where
        go : (b : Bool) → eqb k i ≡ b → Next l (record { at = i; event = made (cond b (frame (Accepted x)) short) })
        go true is = record {
          called = rules;
          comes = sent_fair i j x other (inr (subst (λ (m : ℕ). ForOne m x ∈ written l j) (eqb-true k i is) (has (ForOne k x) refl)));
          brings = tt;
        }
        go false is = record { called = rules; comes = tt; brings = tt }
    hear_next i j (some (Timer v m)) rules other has = record { called = rules; comes = tt; brings = tt }
    hear_next i j (some (Decision v p)) rules other has = record { called = rules; comes = tt; brings = tt }

    -- Of a vault that breaks the rules anything may come.
    lie_next : (i : ℕ) (x : Frame) → keeps i ≡ true → keeps x.sender ≡ false → Next l (call_of l (lie i x))
    lie_next i x rules lies = go (read_frame (encode x) x.sender 4 i) refl
      where
        go : (y : Reading) → read_frame (encode x) x.sender 4 i ≡ y → Next l (record { at = i; event = made (frame y) })
        go (Refused k) read = record { called = rules; comes = tt; brings = tt }
        go (Accepted y) read =
            let (own, can) = accepted_readable (encode x) x.sender 4 i y (encoded_bytes x) read in
            record { called = rules; comes = (can, λ bad. absurd (clash (subst (λ (j : ℕ). keeps j ≡ true) own bad) lies)); brings = tt }

    -- A fair move makes a call with which the run can go on.
    move_next : (m : Move) → is_fair keeps m ≡ true → Next l (call_of l m)
    move_next (begin i p) ok =
        let (rules, low) = both_split (keeps i) (ltb p (2 ^ 64)) ok in
        start_next (stored_at l i) refl rules (ltb-true p (2 ^ 64) low)
      where
        start_next : (s : Option Record) → stored_at l i ≡ s → keeps i ≡ true → p < 2 ^ 64 → Next l (record { at = i; event = made (start_of s i p) })
        start_next none is rules low = record { called = rules; comes = λ o e. (refl, refl, is); brings = low }
        start_next (some r) is rules low = record { called = rules; comes = tt; brings = tt }
    move_next (hear i j k) ok =
        let (rules, other) = both_split (keeps i) (not (eqb i j)) ok in
        hear_next i j (pick k (written l j)) rules (eqb-false i j (not-true (eqb i j) other)) (λ e is. pick_in k (written l j) is)
    move_next (time_out i v) ok = record { called = ok; comes = tt; brings = tt }
    move_next (lie i x) ok =
        let (rules, lies) = both_split (keeps i) (not (keeps x.sender)) ok in
        lie_next i x rules (not-true (keeps x.sender) lies)
    move_next (cut i) ok = record { called = ok; comes = tt; brings = tt }
    move_next (come_back i) ok = back_next (record_at l i) (stored_at l i) refl refl
      where
        back_next : (b s : Option Record) → record_at l i ≡ b → stored_at l i ≡ s → Next l (record { at = i; event = back_of b s })
        back_next none none gone is = record { called = ok; comes = tt; brings = tt }
        back_next none (some r) gone is = record { called = ok; comes = (gone, is); brings = tt }
        back_next (some r) s there is = record { called = ok; comes = tt; brings = tt }

  -- So a script of fair moves is a run.
  pub script_runs : (ms : List Move) → all_fair keeps ms ≡ true → Runs (calls ms)
  unfolding calls
  script_runs [] ok = record { run = nothing_yet; wide = tt }
  script_runs (m ∷ ms) ok =
      let (this, rest) = both_split (is_fair keeps m) (all_fair keeps ms) ok in
      let so : Runs (calls ms) = script_runs ms rest in
      let next = move_next so m this in
      record { run = and_then so.run next.called next.comes; wide = (next.brings, so.wide) }
