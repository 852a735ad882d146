-- `obey::obey` meets its contract: 'an empty line or unknown kind gives 9 and a wrong length 10', 23 after these, and else the line is obeyed.
-- Assumes nothing.
use mathlib.Core.Path.{◌≡◌, refl, sym, ◌∙◌}
use Rattle.frame.proofs.Laws.{numbered}
use Rattle.obey.proofs.Answers.{refused_obeyed, acted_obeyed}
use Rattle.obey.proofs.obey.Goals as goal

pub returns-in-Err : goal.returns-in-Err
returns-in-Err c =
    let k = c.from.result in
    let a = c.args in
    let given : k ≡ 0 → ⊥ = λ (e : k ≡ 0). numbered c.in-Err.why (sym c.from.ensures ∙ e) in
    let both = refused_obeyed a.stage.now a.bytes.now a.page.now a.at k (c.from.ensures ∙ c.in-Err.ensures) given c.put_refusal.new.page
    c.put_refusal.result c.put_refusal.ensures in
    record { done_at = both.0; upper_bound = both.1 }

pub returns : goal.returns
returns c =
    let a = c.args in
    let e = c.act.ensures in
    let both = acted_obeyed a.stage.now a.bytes.now a.page.now a.at 0 c.in_default.ensures refl c.act.new.stage c.act.new.page c.act.result
    (e.done_at, e.upper_bound) in
    record { done_at = both.0; upper_bound = both.1 }
