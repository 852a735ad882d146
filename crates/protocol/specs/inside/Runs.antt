-- Runs, as demand 3 means them (document 01, 'Runs, as demand 3 means them'; document 02, wish 6), by contents. The newest item stands first.
-- Demand 3 itself is stated over bytes, in crates/runs.
-- Assumes nothing.
use Rattle.std.specs.Prelude.{ℕ, ◌-◌, ◌≤◌, ◌≡◌, ◌⊎◌, true, List, [], ◌∷◌, ◌++◌}
use Rattle.std.proofs.Math.Option.{Option, none, some}
use Rattle.rules.specs.Sets.{Vaults, Set, size, total}
use Rattle.frame.specs.declared.Frame.{Frame}
use Rattle.frame.specs.Refusal.{Accepted, Refused}
use Rattle.entry.specs.declared.Entry.{Entry}
use Rattle.entry.specs.declared.Entry.TheVariants.{ForAll, ForOne, Decision}
use Rattle.protocol.specs.Record.{Record}
use Rattle.protocol.specs.Tables.{put, ◌∈◌}
use Rattle.settings.specs.declared.Settings.{Settings}
use Rattle.settings.specs.Vaults.{vaults_of}
use Rattle.protocol.specs.Pass.{Out}
use Rattle.protocol.specs.Calls.{Call, start, frame, timer, short, Answer, refused, accepted, answer}
use Rattle.protocol.specs.Alone.{alone}
use Rattle.protocol.specs.Fed.{Readable}

-- 'A run has an n, an f, a set of at least n - f numbers below n': the set's vaults keep the rules, and weigh what all do, less f.
pub record ContentsSetting : Type 0 where
  pub vaults : Vaults
  pub keeps : Set
  pub most : total vaults - vaults.f ≤ size vaults keeps

-- A call made; the record lost, by a cut between calls or in one; or a restart with what was stored, the remnant of r.
pub data Event : Type 0 where
  made : Call → Event
  lost : Event
  back : Record → Event

-- 'Each item is one .. call at one of them, accepted or refused', or a cut or restart there.
pub record ContentsItem : Type 0 where
  pub at : ℕ
  pub event : Event

-- 'zero bytes written, record and output unchanged', where the call is refused.
abbrev pub record_after : Option Record → Answer → Option Record
record_after b (refused k) = b
record_after b (accepted o) = some o.left

abbrev pub wrote_by : Answer → List Entry
wrote_by (refused k) = []
wrote_by (accepted o) = o.wrote

-- After a cut the record is blank, and a restart brings back the own row.
abbrev pub record_next : Option Record → Event → Option Record
record_next b (made a) = record_after b (answer b a)
record_next b lost = none
record_next b (back r) = some (alone r)

-- Frames and decisions count in calls that were made.
abbrev pub wrote_next : Option Record → Event → List Entry
wrote_next b (made a) = wrote_by (answer b a)
wrote_next b lost = []
wrote_next b (back r) = []

-- 'The host stores the remnant whole before any entry of that call .. leaves': that of the record left, where the call is accepted. Cuts leave it.
abbrev pub stored_next : Option Record → Option Record → Event → Option Record
stored_next b s (made a) = record_after s (answer b a)
stored_next b s lost = s
stored_next b s (back r) = s

-- 'at first any blank one. Each call gets the record that the last call at the same vault left'.
unfoldable pub record_at : List ContentsItem → ℕ → Option Record
record_at [] = λ i. none
record_at (x ∷ l) = put x.at (record_next (record_at l x.at) x.event) (record_at l)

-- The record whose remnant is stored at a vault; at first none.
unfoldable pub stored_at : List ContentsItem → ℕ → Option Record
stored_at [] = λ i. none
stored_at (x ∷ l) = put x.at (stored_next (record_at l x.at) (stored_at l x.at) x.event) (stored_at l)

-- What the calls made at a vault wrote, in their order.
unfoldable pub written : List ContentsItem → ℕ → List Entry
written [] = λ i. []
written (x ∷ l) = put x.at (written l x.at ++ wrote_next (record_at l x.at) x.event) (written l)

-- 'a frame that an accepted call at that sender, earlier in the list, wrote in an entry for all or for this vault'.
abbrev pub ContentsSent : List ContentsItem → ℕ → Frame → Type 0
ContentsSent l i x = (ForAll x ∈ written l x.sender) ⊎ (ForOne i x ∈ written l x.sender)

module _ (c : ContentsSetting) where
  -- What the run says of a call at vault i, after the items l. A start: 'an accepted one brings this n, this f and the vault's
  -- own number. Class and plan are free', and nothing is stored. A frame: 'Where the sender is any other number, the bytes are anything.'
  abbrev pub Fair : List ContentsItem → ℕ → Call → Type 0
  Fair l i (start s p) =
      (o : Out) → answer (record_at l i) (start s p) ≡ accepted o → (vaults_of s ≡ c.vaults) × (s.id ≡ i) × (stored_at l i ≡ none)
  Fair l i (frame (Accepted x)) = Readable c.vaults.n i x × (c.keeps x.sender ≡ true → ContentsSent l i x)
  Fair l i (frame (Refused k)) = Unit {0}
  Fair l i (timer v) = Unit {0}
  Fair l i short = Unit {0}

  -- A restart brings back what is stored, where the record is blank; a cut may come at any time.
  abbrev pub Comes : List ContentsItem → ℕ → Event → Type 0
  Comes l i (made a) = Fair l i a
  Comes l i lost = Unit {0}
  Comes l i (back r) = (record_at l i ≡ none) × (stored_at l i ≡ some r)

  -- 'a list of calls of any length, the empty one included', at the vaults that keep the rules.
  pub data ContentsRun : List ContentsItem → Type 0 where
    nothing_yet : ContentsRun []
    and_then : {l : List ContentsItem} {x : ContentsItem} → ContentsRun l → c.keeps x.at ≡ true → Comes l x.at x.event → ContentsRun (x ∷ l)

-- 'A vault decides p where an accepted call at it writes the host entry 0a with plan p, in whatever view.'
abbrev pub ContentsDecides : List ContentsItem → ℕ → ℕ → Type 0
ContentsDecides l i p = (v : ℕ) × (Decision v p ∈ written l i)

-- 'the plan of its accepted start': some vault of the list was started with p, in a call made.
pub data ContentsStarted (p : ℕ) : List ContentsItem → Type 0 where
  here : {l : List ContentsItem} {x : ContentsItem} {s : Settings} {o : Out} → x.event ≡ made (start s p)
      → answer (record_at l x.at) (start s p) ≡ accepted o → ContentsStarted p (x ∷ l)
  earlier : {l : List ContentsItem} {x : ContentsItem} → ContentsStarted p l → ContentsStarted p (x ∷ l)
