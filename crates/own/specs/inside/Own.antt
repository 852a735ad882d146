-- An own part read, changed and put back, as the code does it.
-- Assumes nothing.
use Rattle.std.specs.Prelude.{ℕ, ◌+◌, ◌-◌, ◌<◌, ◌≡◌, List, ◌∷◌, ◌++◌, length, get_or}
use Rattle.wire.specs.Digits.{number_at, digits}
use Rattle.frame.specs.declared.Report.{Report}
use Rattle.frame.specs.declared.Reports.{Reports}
use Rattle.settings.specs.declared.Settings.{Settings}
use Rattle.record.specs.Slots.{Record, rows, slot_of}
use Rattle.record.specs.Size.{record_size}
use Rattle.record.specs.Layout.{slot_in, spelled_slots, decode_record}
use Rattle.own.specs.Size.{remnant_size}
use Rattle.own.specs.Part.{own_slot, remnant_place, put_over, over}

-- ---- its bytes

-- What stands before the slots.
unfoldable pub head_bytes : Record → List ℕ
head_bytes r = (r.set.n ∷ r.set.f ∷ r.set.id ∷ r.set.class ∷ digits 4 r.view) ++ digits 8 r.plan

-- The first slots of the own part of vault id, end to end.
unfoldable pub own_bytes : Record → ℕ → ℕ → List ℕ
own_bytes r id t = spelled_slots (λ k. slot_of r (own_slot id k)) 0 t

-- What its slot t holds.
abbrev pub own_in : List ℕ → ℕ → Report
own_in s t = slot_in s (remnant_place t)

-- The settings that its bytes say.
abbrev pub settings_in : List ℕ → Settings
settings_in s = record { n = get_or s 0 0; f = get_or s 1 0; id = get_or s 2 0; class = get_or s 3 0 }

-- The current view, and the starting plan.
abbrev pub view_in : List ℕ → ℕ
view_in s = number_at 4 s 4

abbrev pub plan_in : List ℕ → ℕ
plan_in s = number_at 8 s 8

-- 'reports highest vote-2, previous vote-2, highest vote-3': the own votes of a kind, and the lock of another.
abbrev pub reports_in : List ℕ → ℕ → ℕ → Reports
reports_in s claim lock = record { highest = own_in s (claim - 1); previous = own_in s (claim + 12); lock = own_in s (lock - 1) }

-- ---- of a record

-- What a record's own part is to be put over.
abbrev pub heard_in : List ℕ → ℕ → Report
heard_in rec = (decode_record rec).slots

-- The own part of a record: put over the record it changes nothing.
pub record OwnOf (rec s : List ℕ) : Type 0 where
  pub is : over (heard_in rec) s ≡ decode_record rec

-- An own part is changed as a record is: whatever was heard.
pub record Changes (f : Record → Record) (s t : List ℕ) : Type 0 where
  pub size : length t ≡ remnant_size
  pub is : get_or s 2 0 < rows → (heard : ℕ → Report) → over heard t ≡ f (over heard s)

-- ---- put back

-- An own part that says the settings and the starting plan of a record.
pub record Fitting (rec : List ℕ) (id : ℕ) (s : List ℕ) : Type 0 where
  pub size : length rec ≡ record_size
  pub own : id ≡ (decode_record rec).set.id
  pub row : id < rows
  pub set : settings_in s ≡ (decode_record rec).set
  pub plan : plan_in s ≡ (decode_record rec).plan

-- A record with the view and the first slots of an own part put back.
unfoldable pub stored_to : Record → ℕ → List ℕ → ℕ → Record
stored_to r id s t = record { set = r.set; view = view_in s; plan = r.plan; slots = put_over id (own_in s) r.slots t }
