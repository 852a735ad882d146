-- `reach::content_refusal` meets its contract: 14 and 22, one row each (document 02, wish 7). Each return is decided by the flags that led to it.
-- Assumes nothing.
use mathlib.Core.Path.{◌≡◌, refl}
use mathlib.Core.Bool.{true, false}
use Rattle.frame.specs.Format.{three_reports}
use Rattle.frame.specs.Refusal.{any, bad_form, bad_previous_of}
use Rattle.frame.proofs.Laws.{told}
use Rattle.reach.proofs.content_refusal.Goals as goal

pub returns-then-form : goal.returns-then-form
returns-then-form c =
    let t = c.args.told in
    let bad : c.any_bad_form-form.result ≡ true = c.if-form.true in
    let form : any bad_form (three_reports t) ≡ true = told c.any_bad_form-form.ensures bad in
    rw form refl

pub returns-then-at_odds : goal.returns-then-at_odds
returns-then-at_odds c =
    let t = c.args.told in
    let form : any bad_form (three_reports t) ≡ false = told c.any_bad_form-form.ensures c.if-form.false in
    let odds : bad_previous_of (three_reports t) ≡ true = told c.bad_previous-at_odds.ensures c.if-at_odds.true in
    rw (form, odds) refl

pub returns : goal.returns
returns c =
    let t = c.args.told in
    let form : any bad_form (three_reports t) ≡ false = told c.any_bad_form-form.ensures c.if-form.false in
    let odds : bad_previous_of (three_reports t) ≡ false = told c.bad_previous-at_odds.ensures c.if-at_odds.false in
    rw (form, odds) refl
