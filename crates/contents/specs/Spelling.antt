-- The layout loses nothing (document 01, 'The weight of each public call', 1).
-- Assumes nothing.
use Rattle.std.specs.Prelude.{ℕ, ◌≤◌, ◌≡◌, List, length}
use Rattle.std.proofs.Math.Option.{Option, none, some}
use Rattle.wire.specs.Fields.{Bytes}
use Rattle.wire.specs.Placed.{placed}
use Rattle.entry.specs.Layout.{layout}
use Rattle.record.specs.Layout.{encode_record}
use Rattle.sound.specs.declared.Lent.TheVariants as lent
use Rattle.sound.specs.inside.Sound.{lent_is}
use Rattle.protocol.specs.Record.{Record}
use Rattle.protocol.specs.Pass.{Out}
use Rattle.protocol.specs.Calls.{Call, accepted, answer}
use Rattle.protocol.specs.Fed.{Fed}
use Rattle.contents.specs.Contents.{contents_in, slotted}
use Rattle.contents.specs.Calls.{called}
use Rattle.contents.specs.Left.{Left, wrote, gave}

-- Bytes that are lent as a sound record, and are read as contents r.
pub record HoldsContents (s : List ℕ) (r : Record) : Type 0 where
  pub sound : lent_is s ≡ lent.Sound
  pub holds : contents_in s ≡ r

-- What bytes spell: a blank record (none), or a vault's contents.
abbrev pub Spells : List ℕ → Option Record → Type 0
Spells s none = lent_is s ≡ lent.Blank
Spells s (some r) = HoldsContents s r

-- 'every content that accepted calls reach from a blank record'. A start brings a 64-bit plan, and a frame is one that the reader accepted (`Fed`).
pub data Reached : Option Record → Type 0 where
  blank : Reached none
  next : {b : Option Record} {o : Out} → Reached b → (a : Call) → Fed b a → answer b a ≡ accepted o → Reached (some o.left)

-- A call left just the output that o says, and a record that spells o's.
abbrev pub LeavesSpelled : Out → List ℕ → Left → Type 0
LeavesSpelled o out (gave number rec' out') = ⊥
LeavesSpelled o out (wrote count rec' out') =
    (count ≡ length (layout o.wrote)) × (out' ≡ placed out 0 (layout o.wrote)) × Bytes rec' × Spells rec' (some o.left)

-- Proved as `loses_nothing` in proofs/Spelling.
pub record LosesNothing : Type 0 where
  -- 'each layout can spell a blank record'.
  pub blank : (s : List ℕ) × (Bytes s × Spells s none)
  -- 'and every content that accepted calls reach from a blank record': its bytes are read as that content.
  pub reached : (r : Record) → Reached (some r) → Bytes (encode_record (slotted r)) × Spells (encode_record (slotted r)) (some r)
  -- 'every byte of record .. afterwards': no other bytes are read so.
  pub once : (r : Record) (s t : List ℕ) → Bytes s → Bytes t → Spells s (some r) → Spells t (some r) → s ≡ t
  -- 'A call's contract names .. every byte of record and output afterwards': the bytes that an accepted call leaves spell the new contents.
  pub left : (k : ℕ) (rec out : List ℕ) (b : Option Record) (a : Call) → Bytes rec → Spells rec b → Fed b a → 256 ≤ length out
      → (o : Out) → answer b a ≡ accepted o → LeavesSpelled o out (called k rec out a)
