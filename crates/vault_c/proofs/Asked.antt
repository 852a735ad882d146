-- Laws of the questions on a stored record, as a host sees them: refusal 1 comes first; then the answer decides what is told.
-- Assumes nothing.
use Prim.Native.Nat.{ℕ, ◌≤◌, ◌<◌}
use mathlib.Core.Path.{◌≡◌, refl, ap, ◌∙◌}
use mathlib.Core.List.{List, [], ◌∷◌}
use native.Mathlib.Omega.{arith}
use borrow.Author.Tests.{lt-ltb, le-ltb}
use lib.ListN.{length, set}
use Rattle.std.specs.Prelude.{Option, Result}
use Rattle.frame.specs.declared.Refusal.{Refusal}
use Rattle.questions.specs.declared.Current.{Current}
use Rattle.questions.specs.declared.Decision.{Decision}
use Rattle.vault_c.specs.Asked.{Told, told, two, tell_current, tell_decision, with_room}

-- There is no room for two numbers.
pub no_room : (out : List ℕ) (t : Told) → length out < 2 → told 1 out ≡ with_room out t
unfolding with_room
no_room out t h = rw (lt-ltb (length out) 2 h) refl

-- There is.
room : (out : List ℕ) (t : Told) → 2 ≤ length out → t ≡ with_room out t
unfolding with_room
room out t h = rw (le-ltb (length out) 2 h) refl

-- With room, the host is told what crate questions answers on the current view.
pub current_told : (out : List ℕ) (t : Told) (x y : Result Current Refusal) → 2 ≤ length out → x ≡ y → t ≡ tell_current x out → t ≡ with_room out (tell_current y out)
current_told out t x y h same is = is ∙ ap (λ (z : Result Current Refusal). tell_current z out) same ∙ room out (tell_current y out) h

-- With room, the host is told what crate questions answers on the decision.
pub decision_told : (out : List ℕ) (t : Told) (x y : Result (Option Decision) Refusal) → 2 ≤ length out → x ≡ y → t ≡ tell_decision x out → t ≡ with_room out (tell_decision y out)
decision_told out t x y h same is = is ∙ ap (λ (z : Result (Option Decision) Refusal). tell_decision z out) same ∙ room out (tell_decision y out) h

-- The first two numbers are stored, and the others stay.
pub two_set : (out : List ℕ) (view number : ℕ) → 2 ≤ length out → set (set out 0 view) 1 number ≡ two view number out
two_set [] view number h = absurd (omega arith)
two_set (x ∷ []) view number h = absurd (omega arith)
two_set (x ∷ y ∷ out) view number h = refl
