-- 'a kept view-change for w counts for every view up to w, in A and in B alike. Highest is meant as before' (document 02, wish 3).
-- Assumes nothing.
use Rattle.std.specs.Prelude.{ℕ, ◌*◌, ◌≤◌, ◌<◌, ◌≡◌, Bool, true, false, leb}
use Rattle.std.proofs.Math.Option.{Option, none, some}
use Rattle.rules.specs.Quorums.{is_quorum, is_blocking}
use Rattle.rules.specs.Options.{holds}
use Rattle.protocol.specs.Record.{Record, highest, change_of}
use Rattle.protocol.specs.Pass.{Out, asked, can_enter}
use Rattle.protocol.specs.Calls.{Call, accepted, answer}

-- 'for every view up to w': a view that enough ask for has enough at every lower view. Proved as `asked_falls` in proofs/Asked.
abbrev pub AskedFalls : Type 0
AskedFalls = (r : Record) (w x : ℕ) → w ≤ x
    → (asked r is_blocking x ≡ true → asked r is_blocking w ≡ true) × (asked r is_quorum x ≡ true → asked r is_quorum w ≡ true)

-- 'the highest view' of all views that pass a test; none where none passes.
abbrev pub HighestOfAll : (ℕ → Bool) → Option ℕ → Type 0
HighestOfAll test none = (x : ℕ) → test x ≡ false
HighestOfAll test (some w) = (test w ≡ true) × ((x : ℕ) → test x ≡ true → x ≤ w)

-- The highest of the kept views, which steps A and B act on, is the highest of all views. Proved as `asked_highest` in proofs/Asked.
abbrev pub AskedHighest : Type 0
AskedHighest = (r : Record) → HighestOfAll (asked r is_blocking) (highest (asked r is_blocking) (change_of r) r.set.n)
    × (3 * r.set.f < r.set.n → HighestOfAll (can_enter r) (highest (can_enter r) (change_of r) r.set.n))

-- 'the two behind it could no longer count it for view 1': after an accepted call no quorum asks for a view above the current one, and where a
-- blocking set does, the vault itself asks for that view or a later one. Proved as `no_view_missed` in proofs/Settled.
abbrev pub NoViewMissed : Type 0
NoViewMissed = (b : Option Record) (a : Call) (o : Out) → answer b a ≡ accepted o → 3 * o.left.set.f < o.left.set.n → (x : ℕ) → o.left.view < x
    → (asked o.left is_quorum x ≡ false) × (asked o.left is_blocking x ≡ true → holds (leb x) (change_of o.left o.left.set.id) ≡ true)
