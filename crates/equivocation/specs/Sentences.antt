-- What document 02, wish 5, promises of the vaults named: 'Each one named has two such frames in the records handed in, and nobody with two is missed.
-- If two records show quorums of vote-4 for different plans in one view, at least n - 2f vaults are named.'
-- Assumes nothing.
use Rattle.std.specs.Prelude.{ℕ, ◌-◌, ◌*◌, ◌≤◌, ◌<◌, ◌≡◌, ◌↔◌, ◌≢◌, length, get_or, take}
use mathlib.Core.List.{List, [], map, Memᴰ}
use Rattle.std.proofs.Math.Option.{some}
use Rattle.rules.specs.Sets.{Vaults, size, total}
use Rattle.rules.specs.Quorums.{Quorum}
use Rattle.frame.specs.declared.Body.TheVariants.{Plan}
use Rattle.settings.specs.declared.Settings.{Settings}
use Rattle.settings.specs.Vaults.{vaults_of}
use Rattle.record.specs.Slots.{rows, Record}
use Rattle.record.specs.Layout.{decode_record}
use Rattle.record.specs.Kept.{kept_frame}
use Rattle.contents.specs.Left.{wrote}
use Rattle.equivocation.specs.Named.{spoke_twice}
use Rattle.equivocation.specs.Call.{handed_in, equivocators_left}

-- Record i of those handed in.
abbrev pub record_at : List (List ℕ) → ℕ → Record
record_at bs i = decode_record (get_or bs i [])

-- The record keeps in row s a frame of kind k, for view v and plan p.
abbrev pub Keeps : Record → ℕ → ℕ → ℕ → ℕ → Type 0
Keeps r k s v p = kept_frame r k s ≡ some (record { kind = k; sender = s; view = v; body = Plan p })

-- 'appears in them with two different plans for one view and one kind, kept vote frames only': in records i and j.
pub record Twice (bs : List (List ℕ)) (s : ℕ) : Type 0 where
  pub i : ℕ
  pub j : ℕ
  pub kind : ℕ
  pub view : ℕ
  pub p : ℕ
  pub q : ℕ
  pub records : (i < length bs) × (j < length bs)
  pub row : s < rows
  pub vote : (2 ≤ kind) × (kind ≤ 5)
  pub plans : p ≢ q
  pub here : Keeps (record_at bs i) kind s view p
  pub there : Keeps (record_at bs j) kind s view q

-- The call was accepted: it wrote so many bytes, and left this output.
abbrev pub Accepted : List ℕ → List ℕ → List ℕ → ℕ → List ℕ → Type 0
Accepted records lengths out count left = equivocators_left records lengths out ≡ wrote count records left

-- 'Each one named has two such frames in the records handed in, and nobody with two is missed.' Proved as `named_iff` in proofs/Sentences.
abbrev pub NamedIff : Type 0
NamedIff = (records lengths out left : List ℕ) (count s : ℕ) → Accepted records lengths out count left
    → Memᴰ s (take count left) ↔ Twice (handed_in lengths records) s

-- 'by rising number, one byte each': at most n of them, and n is at most 64, so that 256 bytes suffice. Proved as `named_rise` in proofs/Sentences.
abbrev pub NamedRise : Type 0
NamedRise = (records lengths out left : List ℕ) (count : ℕ) → Accepted records lengths out count left
    → (count ≤ (record_at (handed_in lengths records) 0).set.n) × ((record_at (handed_in lengths records) 0).set.n ≤ 64)
    × ((i j : ℕ) → i < j → j < count → get_or left i 0 < get_or left j 0)

-- 'If two records show quorums of vote-4 for different plans in one view, at least n - 2f vaults are named', over any weights and for each of the
-- four votes; vote-4 is kind 5. Who keeps the rules is not asked. Proved as `quorums_named` in proofs/Sentences.
abbrev pub QuorumsNamed : Type 0
QuorumsNamed = (vs : Vaults) (bs : List (List ℕ)) (i j kind v p q : ℕ) → i < length bs → j < length bs → 2 ≤ kind → kind ≤ 5 → p ≢ q
    → Quorum vs (λ s. Keeps (record_at bs i) kind s v p) → Quorum vs (λ s. Keeps (record_at bs j) kind s v q)
    → total vs - 2 * vs.f ≤ size vs (spoke_twice (map decode_record bs))

-- The same of an accepted call: n - 2f or more bytes were written. Proved as `quorums_counted` in proofs/Sentences.
abbrev pub QuorumsCounted : Type 0
QuorumsCounted = (records lengths out left : List ℕ) (count i j kind v p q : ℕ) → Accepted records lengths out count left
    → i < length lengths → j < length lengths → 2 ≤ kind → kind ≤ 5 → p ≢ q
    → (set : Settings) → set ≡ (record_at (handed_in lengths records) 0).set
    → Quorum (vaults_of set) (λ s. Keeps (record_at (handed_in lengths records) i) kind s v p)
    → Quorum (vaults_of set) (λ s. Keeps (record_at (handed_in lengths records) j) kind s v q)
    → set.n - 2 * set.f ≤ count
