-- Runs, as demand 3 means them (document 01, 'Runs, as demand 3 means them'), with vaults that stop and return (document 02, wish 6), over the bytes of
-- records, frames, outputs and remnants. The newest item stands first. A list without cuts is document 01's run.
-- Assumes nothing.
use Rattle.std.specs.Prelude.{ℕ, ◌-◌, ◌^◌, ◌≤◌, ◌<◌, ◌≡◌, ◌⊎◌, Bool, true, false, cond, List, [], ◌∷◌, ◌++◌, length, get_or, take}
use Rattle.std.proofs.Math.Option.{Option, none, some}
use Rattle.rules.specs.Sets.{Vaults, Set, size, total}
use Rattle.wire.specs.Fields.{Bytes}
use Rattle.frame.specs.declared.Frame.{Frame}
use Rattle.frame.specs.Format.{encode}
use Rattle.entry.specs.declared.Entry.{Entry}
use Rattle.entry.specs.declared.Entry.TheVariants.{ForAll, ForOne, Decision}
use Rattle.entry.specs.Reading.{entries_of}
use Rattle.settings.specs.declared.Settings.{Settings}
use Rattle.settings.specs.Vaults.{vaults_of}
use Rattle.record.specs.Size.{record_size}
use Rattle.protocol.specs.Tables.{put, ◌∈◌}
use Rattle.contents.specs.Left.{Left, wrote, gave}
use Rattle.own.specs.Size.{remnant_size}

-- A start brings settings and a plan; a frame call a link's sender and bytes; a timer a view.
pub data ByteCall : Type 0 where
  start : Settings → ℕ → ByteCall
  frame : ℕ → List ℕ → ByteCall
  timer : ℕ → ByteCall

-- 'A plan is any 64-bit number', and bytes are below 256. What else a call brings may be any number at all.
abbrev pub InWidth : ByteCall → Type 0
InWidth (start set plan) = plan < 2 ^ 64
InWidth (frame link bytes) = Bytes bytes
InWidth (timer view) = Unit {0}

-- The five calls of a host at a record: those three; that a remnant is written; and a restart with a remnant's bytes.
pub data HostCall : Type 0 where
  call : ByteCall → HostCall
  write : HostCall
  restart : List ℕ → HostCall

-- Which calls keep the rules: record before, call, output space before, and what is left. By the papers it is just this one.
abbrev pub Rules : Type 1
Rules = List ℕ → HostCall → List ℕ → Left → Type 0

-- What happens at a vault. A call made: with its output space, what it leaves, and the remnant that the host stores if it is accepted. A call cut: with
-- the blank record that is lent afterwards. A cut between calls: with such a record. A restart: with its output space, and what it leaves.
pub data Event : Type 0 where
  made : ByteCall → List ℕ → Left → List ℕ → Event
  cut_in : ByteCall → List ℕ → Left → List ℕ → Event
  cut : List ℕ → Event
  returned : List ℕ → Left → Event

-- 'Each item is one start, frame or timer call at one of them, accepted or refused, with output space of any size and contents', or a cut or a restart.
pub record Item : Type 0 where
  pub at : ℕ
  pub event : Event

-- ---- what an item leaves

-- The record's bytes afterwards.
abbrev pub record_in : Left → List ℕ
record_in (wrote count rec out) = rec
record_in (gave number rec out) = rec

-- The entries that the written bytes say: 'Accepted calls return the byte count written'.
abbrev pub entries_in : Left → List Entry
entries_in (wrote count rec out) = entries_of (take count out)
entries_in (gave number rec out) = []

abbrev pub is_accepted : Left → Bool
is_accepted (wrote count rec out) = true
is_accepted (gave number rec out) = false

-- The record that the next call gets. 'a cut leaves the old or the new one': of the remnants, and of the record nothing.
abbrev pub record_after : Event → List ℕ
record_after (made a out left remnant) = record_in left
record_after (cut_in a out left blank) = blank
record_after (cut blank) = blank
record_after (returned out left) = record_in left

-- 'A call of which only the old one is left counts as never made, its decision too'; and a restart 'sends no frame'.
abbrev pub entries_after : Event → List Entry
entries_after (made a out left remnant) = entries_in left
entries_after (cut_in a out left blank) = []
entries_after (cut blank) = []
entries_after (returned out left) = []

-- 'The host stores the remnant whole before any entry of that call .. leaves': of an accepted one. What is stored outlives cuts and restarts.
abbrev pub stored_after : Event → Option (List ℕ) → Option (List ℕ)
stored_after (made a out left remnant) old = cond (is_accepted left) (some remnant) old
stored_after (cut_in a out left blank) old = old
stored_after (cut blank) old = old
stored_after (returned out left) old = old

-- What the accepted calls at a vault wrote, in their order.
unfoldable pub written : List Item → ℕ → List Entry
written [] = λ i. []
written (x ∷ l) = put x.at (written l x.at ++ entries_after x.event) (written l)

-- The remnant that is stored at a vault; at first none.
unfoldable pub stored_at : List Item → ℕ → Option (List ℕ)
stored_at [] = λ i. none
stored_at (x ∷ l) = put x.at (stored_after x.event (stored_at l x.at)) (stored_at l)

-- 'the bytes are a frame that an accepted call at that sender, earlier in the list, wrote in an entry for all or for this vault'.
abbrev pub Sent : List Item → ℕ → ℕ → List ℕ → Type 0
Sent l i link bytes = (x : Frame) × (bytes ≡ encode x) × ((ForAll x ∈ written l link) ⊎ (ForOne i x ∈ written l link))

-- 'A lent record of the wrong length .. is .. not blank. Otherwise it is blank when its n is 0': n is the first byte. The calls' contracts
-- say the same of it (`LentIsSaid` in crates/contents/specs/Lent).
abbrev pub IsBlank : List ℕ → Type 0
IsBlank s = (length s ≡ record_size) × (get_or s 0 0 ≡ 0)

-- 'A run has an n, an f, a set of at least n - f numbers below n': the set's vaults weigh what all do, less f. 'Record: at first any blank one.'
pub record Setting : Type 0 where
  pub vaults : Vaults
  pub keeps : Set
  pub most : total vaults - vaults.f ≤ size vaults keeps
  pub first : ℕ → List ℕ
  pub blank : (i : ℕ) → keeps i ≡ true → IsBlank (first i)

-- 'The host stores the remnant': what the call writes of a record, into space enough.
pub record Stores (keeps_rules : Rules) (rec remnant : List ℕ) : Type 0 where
  pub out : List ℕ
  pub left : List ℕ
  pub count : ℕ
  pub room : remnant_size ≤ length out
  pub ruled : keeps_rules rec write out (wrote count rec left)
  pub is : remnant ≡ take count left

module _ (c : Setting) where
  -- 'Each call gets the record that the last call at the same vault left, and nobody else writes it in between.'
  unfoldable pub record_at : List Item → ℕ → List ℕ
  record_at [] = c.first
  record_at (x ∷ l) = put x.at (record_after x.event) (record_at l)

  -- 'Start: any settings, but an accepted one brings this n, this f and the vault's own number. Class and plan are free.' 'A vault that restarts may not
  -- start afresh': nothing is stored then.
  -- 'Timer: any view, at any place in the list.' 'Frame: a link's sender and bytes. Where the sender keeps the rules, the bytes are a
  -- frame that .. Where the sender is any other number, the bytes are anything.'
  abbrev pub Fair : List Item → ℕ → ByteCall → Left → Type 0
  Fair l i (start set plan) left = is_accepted left ≡ true → (vaults_of set ≡ c.vaults) × (set.id ≡ i) × (stored_at l i ≡ none)
  Fair l i (frame link bytes) left = c.keeps link ≡ true → Sent l i link bytes
  Fair l i (timer view) left = Unit {0}

  -- What an item at vault i is, after the items l. A call cut brings whatever it may bring. After a cut the lent record is any blank one. A restart is
  -- with the remnant that is stored.
  abbrev pub Ruled : Rules → List Item → ℕ → Event → Type 0
  Ruled keeps_rules l i (made a out left remnant) =
      InWidth a × keeps_rules (record_at l i) (call a) out left × Fair l i a left × (is_accepted left ≡ true → Stores keeps_rules (record_in left) remnant)
  Ruled keeps_rules l i (cut_in a out left blank) = keeps_rules (record_at l i) (call a) out left × IsBlank blank
  Ruled keeps_rules l i (cut blank) = IsBlank blank
  Ruled keeps_rules l i (returned out left) = (s : List ℕ) × (stored_at l i ≡ some s) × keeps_rules (record_at l i) (restart s) out left

  -- 'a list of calls of any length, the empty one included .. at all of them, mixed in any order'. 'The vaults of that set keep the
  -- rules: they answer every call as this paper fixes, and so as the program's own calls do.'
  pub data Run (keeps_rules : Rules) : List Item → Type 0 where
    nothing_yet : Run keeps_rules []
    and_then : {l : List Item} {x : Item} → Run keeps_rules l → c.keeps x.at ≡ true → Ruled keeps_rules l x.at x.event → Run keeps_rules (x ∷ l)

-- 'A vault decides p where an accepted call at it writes the host entry 0a with plan p, in whatever view.'
abbrev pub Decides : List Item → ℕ → ℕ → Type 0
Decides l i p = (v : ℕ) × (Decision v p ∈ written l i)

-- 'It was started with the plan of its accepted start': some vault of the list was, with p, in a call made.
pub data Started (p : ℕ) : List Item → Type 0 where
  here : {l : List Item} {x : Item} {set : Settings} {out remnant : List ℕ} {left : Left} → x.event ≡ made (start set p) out left remnant
      → is_accepted left ≡ true → Started p (x ∷ l)
  earlier : {l : List Item} {x : Item} → Started p l → Started p (x ∷ l)
