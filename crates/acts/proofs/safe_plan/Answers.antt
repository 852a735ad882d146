-- `acts::safe_plan` meets its contract: in view 0 every plan is safe, else the search tells by the table of the reports kept.
-- Assumes nothing.
use mathlib.Core.Path.{◌≡◌, sym, ◌∙◌}
use mathlib.Core.Bool.{Bool, true, false, cond}
use mathlib.Core.Option.{none, some}
use Rattle.rules.specs.Rules.{rule3}
use Rattle.rules.specs.inside.Counts.{safe}
use Rattle.claims.specs.Table.{reports_in_table}
use Rattle.settings.specs.Vaults.{vaults_of}
use Rattle.contents.specs.Contents.{contents_in}
use Rattle.acts.specs.inside.Proposals.{safe_plan}
use Rattle.acts.proofs.Searched.{planned_first, planned_one, planned_three}
use Rattle.acts.proofs.safe_plan.Goals as goal
use Rattle.acts.proofs.safe_plan.Goals.{After-safe_by}

pub returns-then-view-eq0 : goal.returns-then-view-eq0
returns-then-view-eq0 c =
    planned_first _ _ c.requires.0 c.args.kind c.args.p c.if-view-eq0.true

pub returns-then-kind-eq-SUGGEST : goal.returns-then-kind-eq-SUGGEST
returns-then-kind-eq-SUGGEST c =
    c.choose.ensures
    ∙ planned_one _ _ c.requires.0 c.args.kind c.args.p c.requires.1 c.requires.2 c.gather-table.result c.gather-table.ensures c.if-kind-eq-SUGGEST.true

-- The search has told whether p is safe by Rule 3.
told : (c : After-safe_by) (b : Bool) → c.safe_by.result ≡ b
    → cond b (some c.args.p) none ≡ safe_plan (contents_in c.args.rec.now) c.args.kind c.args.p
told c b is =
    let table = c.gather-table in
    let a = c.args in
    let rule : c.safe_by.result ≡ safe rule3 (vaults_of a.set) (reports_in_table table.result) a.view a.p = c.safe_by.ensures in
    planned_three _ _ c.requires.0 a.kind a.p c.requires.1 c.requires.2 table.result table.ensures c.if-kind-eq-SUGGEST.false b (sym is ∙ rule)

pub returns-then-safe_by : goal.returns-then-safe_by
returns-then-safe_by c = told (goal.at.returns-then-safe_by c).After-safe_by true c.if-safe_by.true

pub returns : goal.returns
returns c = told (goal.at.returns c).After-safe_by false c.if-safe_by.false
