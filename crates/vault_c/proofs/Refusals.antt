-- A refusal's number is 1 to 19, 21 or 22 (document 01, 'Refusals, place by place', and document 02, wish 1). Each table of refusals has such
-- numbers, and a call gives the number of a row, or one of 1 to 4 itself.
-- Assumes nothing.
use Prim.Native.Nat.{ℕ, zero, suc, ◌<◌}
use mathlib.Core.Path.{◌≡◌, refl, sym}
use mathlib.Core.Logic.{◌⊎◌, inl, inr}
use mathlib.Core.Bool.{Bool, true, false, ◌&&◌, ◌||◌, cond, true≢false}
use mathlib.Core.List.{List, [], ◌∷◌, ◌++◌}
use mathlib.Core.Option.{Option, none, some}
use native.Mathlib.Omega.{arith}
use lib.Dec.{eqb}
use lib.ListN.{get_or}
use borrow.Author.Tests.{eqb-false}
use Rattle.frame.specs.Refusal.{Accepted, Refused}
use Rattle.frame.specs.Format.{within, decode}
use Rattle.frame.specs.Refusal.{Row, row, first, form_rows, link_rows, content_rows, leader_rows, refusal, read_frame}
use Rattle.frame.proofs.Laws.{both, bounds}
use Rattle.settings.specs.Settings.{setting_rows}
use Rattle.protocol.specs.Record.{Record}
use Rattle.protocol.specs.Pass.{Out}
use Rattle.protocol.specs.Calls.{Call, start, frame, timer, short, Answer, refused, accepted, unless, record_rows, timer_rows, started, heard, timed_out, answer}
use Rattle.vault_c.specs.Refusals.{is_refusal}

-- The numbers of refusals that a call gives.
abbrev pub Refusal : ℕ → Type 0
Refusal k = is_refusal k ≡ true

-- They are below 256, from which on a call is accepted.
pub refusal_low : (k : ℕ) → Refusal k → k < 256
refusal_low k e = go (within 1 19 k) (within 21 22 k) refl refl e
  where
    go : (a b : Bool) → within 1 19 k ≡ a → within 21 22 k ≡ b → (a || b) ≡ true → k < 256
    go true b is other e = let h = bounds 1 19 k is in omega arith
    go false true is other e = let h = bounds 21 22 k other in omega arith
    go false false is other e = absurd (true≢false (sym e))

-- A test that computes: each number of a table's rows is one of them.
all_listed : List Row → Bool
all_listed [] = true
all_listed (row k given ∷ rows) = is_refusal k && all_listed rows

-- What a table gives: no number, or one of them.
abbrev Given : ℕ → Type 0
Given k = (k ≡ 0) ⊎ Refusal k

-- Such a table gives nothing else.
first_listed : (rows : List Row) → all_listed rows ≡ true → Given (first rows)
unfolding all_listed
first_listed [] all = inl refl
first_listed (row k true ∷ rows) all = inr (both (is_refusal k) (all_listed rows) all).0
first_listed (row k false ∷ rows) all = first_listed rows (both (is_refusal k) (all_listed rows) all).1

-- What the answer of a call by contents has as its number.
abbrev pub Named : Answer → Type 0
Named (refused k) = Refusal k
Named (accepted o) = Unit {0}

-- A call that a table decides answers with such a number, or is accepted.
unless_named : (k : ℕ) (o : Out) → Given k → Named (unless k o)
unless_named zero o given = tt
unless_named (suc k) o (inl is-0) = absurd (omega arith)
unless_named (suc k) o (inr named) = named

-- Where the reader refused a frame call's bytes, its number is one too.
abbrev pub Brings : Call → Type 0
Brings (start set plan) = Unit {0}
Brings (frame (Accepted f)) = Unit {0}
Brings (frame (Refused k)) = Refusal k
Brings (timer view) = Unit {0}
Brings short = Unit {0}

-- The reader's number is one: its rows are 9 to 15, 21 and 22.
pub read_named : (s : List ℕ) (link n own : ℕ) → Brings (frame (read_frame s link n own))
unfolding read_frame refusal all_listed within
read_named s link n own = go (eqb (refusal s link n own) 0) refl (first_listed rows refl)
  where
    rows : List Row
    rows = form_rows s ++ (link_rows (get_or s 1 0) link n own ++ (content_rows (decode s) ++ leader_rows (decode s) n own))

    go : (b : Bool) → eqb (refusal s link n own) 0 ≡ b → Given (refusal s link n own)
        → Brings (frame (cond b (Accepted (decode s)) (Refused (refusal s link n own))))
    go true e given = tt
    go false e (inl is-0) = absurd (eqb-false (refusal s link n own) 0 e is-0)
    go false e (inr named) = named

-- So every call by contents answers with such a number, or is accepted.
pub answer_named : (b : Option Record) (a : Call) → Brings a → Named (answer b a)
unfolding answer all_listed within
answer_named b short brings = refl
answer_named none (start set plan) brings = unless_named (first (setting_rows set)) (started set plan) (first_listed (setting_rows set) refl)
answer_named none (frame x) brings = refl
answer_named none (timer view) brings = refl
answer_named (some r) (start set plan) brings = refl
answer_named (some r) (frame (Refused k)) brings = brings
answer_named (some r) (frame (Accepted f)) brings = unless_named (first (record_rows r f)) (heard r f) (first_listed (record_rows r f) refl)
answer_named (some r) (timer view) brings = unless_named (first (timer_rows r view)) (timed_out r) (first_listed (timer_rows r view) refl)
