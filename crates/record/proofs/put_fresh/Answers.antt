-- `layout::put_fresh` meets its contract: zeros, then the settings and the starting plan.
-- Assumes nothing.
use Prim.Native.Nat.{ℕ}
use mathlib.Core.Path.{◌≡◌, ap, sym, subst, ◌∙◌}
use mathlib.Core.List.{List}
use lib.ListN.{length, get_or}
use Rattle.record.specs.inside.Slots.{fresh_slots}
use Rattle.record.specs.inside.Layout.{HoldsRecord}
use Rattle.record.proofs.Bytes.{zeros_at}
use Rattle.record.proofs.Laws.{holds_fresh}
use borrow.Author.Rules.{rules}
use Rattle.record.proofs.put_fresh.Goals as goal

pub returns : goal.returns
returns c =
    let z = c.fill.new.self in
    let zeros : (k : ℕ) → get_or z k 0 ≡ 0 =
    λ (k : ℕ). ap (λ (l : List ℕ). get_or l k 0) (c.fill.ensures.after (λ y same. same)) ∙ zeros_at (length c.args.rec.now) k in
    subst (λ (l : List ℕ). HoldsRecord l (fresh_slots c.args.set c.args.plan)) (sym c.put.ensures)
    (holds_fresh z c.args.set c.args.plan (c.fill.ensures.len ∙ c.requires) zeros (search rules))
