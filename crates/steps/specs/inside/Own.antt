-- Acts and steps on an own part by itself: whatever was heard.
-- Assumes nothing.
use Rattle.std.specs.Prelude.{ℕ, ◌≡◌, List, length}
use Rattle.std.proofs.Math.Option.{Option}
use Rattle.frame.specs.declared.Reports.{Reports}
use Rattle.record.specs.Slots as slots
use Rattle.own.specs.Size.{remnant_size}
use Rattle.own.specs.Part.{over}
use Rattle.own.specs.inside.Own.{reports_in, heard_in, OwnOf}
use Rattle.protocol.specs.Record.{Record}
use Rattle.protocol.specs.Pass.{Act, Step, taken, Out}
use Rattle.contents.specs.Contents.{contents, contents_in}
use Rattle.contents.specs.Lent.{Clean}
use Rattle.contents.specs.inside.Ready.{Ready}
use Rattle.steps.specs.declared.Entries.{Entries}
use Rattle.steps.specs.inside.Steps.{list_of}

-- Reports that are those of the own proof ('highest vote-1, previous vote-1, highest vote-4') and of the own suggest.
pub record Tell (s : List ℕ) (proof suggest : Reports) : Type 0 where
  pub proofs : proof ≡ reports_in s 2 5
  pub suggests : suggest ≡ reports_in s 3 4

-- An act is done: the record is what it leaves, and the entries are those that it writes.
pub record Did (o : Out) (r : slots.Record) (e : Entries) : Type 0 where
  pub left : contents r ≡ o.left
  pub clean : Clean r
  pub wrote : list_of e ≡ o.wrote

-- An act is done on an own part: of every record that calls leave and that has this part, it leaves what 01's act leaves.
pub record Does (a : Option Act) (s t : List ℕ) (e : Entries) : Type 0 where
  pub size : length t ≡ remnant_size
  pub did : (rec : List ℕ) → Ready rec → OwnOf rec s → Did (taken (contents_in rec) a) (over (heard_in rec) t) e

-- A step is taken, where its act is the one that the record asks for.
pub record Takes (asks : Record → Option Act) (step : Step) (a : Option Act) (s t : List ℕ) (e : Entries) : Type 0 where
  pub size : length t ≡ remnant_size
  pub took : (rec : List ℕ) → Ready rec → OwnOf rec s → a ≡ asks (contents_in rec) → Did (step (contents_in rec)) (over (heard_in rec) t) e
