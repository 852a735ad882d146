-- However an input is split into pieces, feeding them one after the other is feeding it whole; with the last line answered, the pages are
-- what the program prints for it (`AnySplit`).
-- Assumes nothing.
use Prim.Native.Nat.{ℕ, suc}
use mathlib.Core.Path.{◌≡◌, refl, sym, ap, ◌∙◌}
use mathlib.Core.List.{List, [], ◌++◌}
use native.Mathlib.Omega.{arith}
use lib.ListN.{take}
use lib.Seq.{take_all, take-take}
use Rattle.lines.specs.Lines.{ended, begun, last_line, Program, after, prints, answers}
use Rattle.lines.specs.Steps.{Fed, Finished, Reads, first, and_then}
use Rattle.lines.specs.inside.Steps.{Enough, ReadsAs, AnySplit}
use Rattle.lines.proofs.Lines.{ended_more, begun_more, after_more, prints_more, after_same, prints_same, begun_same, last_same}

module _ {S : Type 0} (p : Program S) (room : ℕ) (enough : Enough p room) (s : S) where
  -- One piece more.
  module _ (input pages : List ℕ) (s' : S) (line' piece page : List ℕ) (s'' : S) (line'' : List ℕ)
      (so : ReadsAs p room s input pages s' line') (fed : Fed p room s' line' piece s'' line'' page) where
    line : List ℕ
    line = begun [] input

    state : S
    state = after p s (ended [] input)

    alike : take room line' ≡ take room line
    unfolding line
    alike = ap (take room) so.kept ∙ take-take room room (begun [] input) (omega arith)

    reads_more : ReadsAs p room s (input ++ piece) (pages ++ page) s'' line''
    unfolding line state
    reads_more = record {
      left = fed.left
          ∙ (λ i. after p (so.left i) (ended line' piece))
          ∙ after_same p room enough state line' line piece alike
          ∙ sym (ap (after p s) (ended_more [] input piece) ∙ after_more p s (ended [] input) (ended line piece));
      kept = fed.kept ∙ begun_same room line' line piece alike ∙ sym (ap (take room) (begun_more [] input piece));
      says = (λ i. so.says i ++ (fed.says i))
          ∙ (λ i. prints p s (ended [] input) ++ prints p (so.left i) (ended line' piece))
          ∙ ap (λ (l : List ℕ). prints p s (ended [] input) ++ l) (prints_same p room enough state line' line piece alike)
          ∙ sym (ap (prints p s) (ended_more [] input piece) ∙ prints_more p s (ended [] input) (ended line piece));
    }

  -- Pieces fed one after the other leave and print what their whole does.
  pub reads_as : {input pages : List ℕ} {s' : S} {line' : List ℕ} → Reads p room s input pages s' line' → ReadsAs p room s input pages s' line'
  unfolding ended begun after prints
  reads_as first = record { left = refl; kept = sym (take_all room [] (omega arith)); says = refl }
  reads_as (and_then {input} {pages} {s'} {line'} {piece} {page} {s''} {line''} so fed) =
      reads_more input pages s' line' piece page s'' line'' (reads_as so) fed

-- So for every program, and every cut of its input, the pages are what the program prints for the input.
pub any_split : {S : Type 0} (p : Program S) → AnySplit p
any_split {S} p room enough s input pages s' line' reads = (all, λ s'' page finished. finish s'' page finished)
  where
    all : ReadsAs p (suc room) s input pages s' line'
    all = reads_as p (suc room) enough s reads

    finish : (s'' : S) (page : List ℕ) → Finished p s' line' s'' page → pages ++ page ≡ answers p s input
    finish s'' page finished =
        (λ i. all.says i ++ finished.says i)
        ∙ (λ i. prints p s (ended [] input) ++ prints p (all.left i) (last_line (all.kept i)))
        ∙ ap (λ (l : List ℕ). prints p s (ended [] input) ++ l) (last_same p room enough (after p s (ended [] input)) (begun [] input))
        ∙ sym (prints_more p s (ended [] input) (last_line (begun [] input)))
