-- Laws of slots: what is put into a slot stands there, and every other slot is as it was.
-- Assumes nothing.
use Prim.Native.Nat.{ℕ}
use mathlib.Core.Path.{◌≡◌, ap, sym, refl}
use mathlib.Core.Logic.{◌≢◌}
use mathlib.Core.Bool.{Bool, cond}
use borrow.Author.Tests.{eq-eqb, ne_eqb}
use Rattle.frame.specs.declared.Report.{Report}
use Rattle.record.specs.Slots.{Record, slot_of}
use Rattle.record.specs.inside.Slots.{slot_put, with_slot}

module _ (r : Record) (at : ℕ) (slot : Report) where
  pub slot_same : slot_of (with_slot r at slot) at ≡ slot
  unfolding slot_put
  slot_same = ap (λ (b : Bool). cond b slot (r.slots at)) (eq-eqb at at refl)

  pub slot_other : (other : ℕ) → other ≢ at → slot_of (with_slot r at slot) other ≡ slot_of r other
  unfolding slot_put
  slot_other other h = ap (λ (b : Bool). cond b slot (r.slots other)) (ne_eqb at other (λ e. h (sym e)))
