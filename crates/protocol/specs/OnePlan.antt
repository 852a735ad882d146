-- 'A quorum of vote-1 (vote-2, vote-3) for this view and one plan', 'A quorum of vote-4 for this view and one plan': at most one plan has
-- one, so it doesn't matter how steps E to H find it.
-- Assumes nothing.
use Rattle.std.specs.Prelude.{ℕ, ◌*◌, ◌<◌, ◌≡◌, ◌↔◌, true}
use Rattle.std.proofs.Math.Option.{some}
use Rattle.protocol.specs.Record.{Record}
use Rattle.protocol.specs.Pass.{has_quorum, agreed}

-- 'f is at least 1 with 3f below n': no two plans have a quorum of vote-k. Proved as `one_plan` in proofs/Agreed.
abbrev pub AtMostOnePlan : Type 0
AtMostOnePlan = (r : Record) → 3 * r.set.f < r.set.n → (k p q : ℕ) → has_quorum r k p ≡ true → has_quorum r k q ≡ true → p ≡ q

-- The plan that steps E to H act on is the one that has a quorum; where none is found, none has. Proved as `agreed_is` in proofs/Agreed.
abbrev pub AgreedIsThePlan : Type 0
AgreedIsThePlan = (r : Record) → 3 * r.set.f < r.set.n → (k p : ℕ) → (agreed r k ≡ some p) ↔ (has_quorum r k p ≡ true)
