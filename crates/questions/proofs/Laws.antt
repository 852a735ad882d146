-- Laws of the questions on a stored record: each answer is the one for what the lent bytes are, and a sound record's is read off its bytes.
-- Assumes nothing.
use Prim.Native.Nat.{ℕ, ◌*◌}
use mathlib.Core.Path.{◌≡◌, refl, sym, ap, ◌∙◌}
use mathlib.Core.Bool.{true≢false}
use mathlib.Core.List.{List}
use borrow.Author.Tests.{eq-eqb, ne_eqb}
use Rattle.frame.specs.declared.Report.{Report}
use Rattle.settings.specs.declared.Settings.{Settings}
use Rattle.settings.specs.Settings.{delay_of}
use Rattle.record.specs.Slots.{decision_slot}
use Rattle.record.specs.Layout.{decode_record}
use Rattle.sound.specs.declared.Lent.{Lent}
use Rattle.sound.specs.declared.Lent.TheVariants.{Blank, Unsound, Sound}
use Rattle.sound.specs.inside.Sound.{lent_refusal, lent_is}
use Rattle.protocol.specs.Record.{reported}
use Rattle.contents.specs.Contents.{contents, contents_in}
use Rattle.std.specs.Prelude.{Some, None, Result, Ok, Err, is_ok}
use Rattle.frame.specs.declared.Refusal.{Refusal}
use Rattle.frame.specs.declared.Refusal.TheVariants as why
use Rattle.questions.specs.declared.Current.{Current}
use Rattle.questions.specs.Stored.{entered_by, current_by, current_of, made_by, decision_by, decision_of}

-- What the bytes are decides which answer is given.
pub current_is : (rec : List ℕ) (l : Lent) → lent_is rec ≡ l → current_by l (contents_in rec) ≡ current_of rec
unfolding current_of
current_is rec l e = ap (λ (k : Lent). current_by k (contents_in rec)) (sym e)

-- The same of the answer on the decision.
pub decision_is : (rec : List ℕ) (l : Lent) → lent_is rec ≡ l → decision_by l (contents_in rec) ≡ decision_of rec
unfolding decision_of
decision_is rec l e = ap (λ (k : Lent). decision_by k (contents_in rec)) (sym e)

-- Which refusal an answer gives, one where it gives none.
abbrev why_in : Result Unit Refusal → Refusal
why_in (Ok x) = why.Blank
why_in (Err w) = w

-- Equal answers give the same refusal.
why_is : {v w : Refusal} → ◌≡◌ {A = Result Unit Refusal} (Err v) (Err w) → v ≡ w
why_is e = ap why_in e

-- Lent bytes that give no refusal are a sound record.
pub sound_lent : (l : Lent) (x : Unit) → Ok x ≡ lent_refusal l → l ≡ Sound
sound_lent Blank x e = absurd (true≢false (ap is_ok e))
sound_lent Unsound x e = absurd (true≢false (ap is_ok e))
sound_lent Sound x e = refl

-- Where they give one, that is the answer on the view,
pub unsound_current : (rec : List ℕ) (why : Refusal) → Err why ≡ lent_refusal (lent_is rec) → Err why ≡ current_of rec
unfolding current_of
unsound_current rec why e = go (lent_is rec) e
  where
    go : (l : Lent) → Err why ≡ lent_refusal l → Err why ≡ current_by l (contents_in rec)
    go Blank e = ap (λ (w : Refusal). Err w) (why_is e)
    go Unsound e = ap (λ (w : Refusal). Err w) (why_is e)
    go Sound e = absurd (true≢false (sym (ap is_ok e)))

-- and on the decision.
pub unsound_decision : (rec : List ℕ) (why : Refusal) → Err why ≡ lent_refusal (lent_is rec) → Err why ≡ decision_of rec
unfolding decision_of
unsound_decision rec why e = go (lent_is rec) e
  where
    go : (l : Lent) → Err why ≡ lent_refusal l → Err why ≡ decision_by l (contents_in rec)
    go Blank e = ap (λ (w : Refusal). Err w) (why_is e)
    go Unsound e = ap (λ (w : Refusal). Err w) (why_is e)
    go Sound e = absurd (true≢false (sym (ap is_ok e)))

-- The contents' view and class are those of the bytes.
pub entered_is : (rec : List ℕ) (set : Settings) (c : Current) → set ≡ (decode_record rec).set → c.view ≡ (decode_record rec).view
    → c.millis ≡ 9 * delay_of set.class → c ≡ entered_by (contents_in rec)
unfolding contents
entered_is rec set c s v m = λ i. record { view = v i; millis = (m ∙ ap (λ (t : Settings). 9 * delay_of t.class) s) i }

-- The decision is what the decision slot reports.
pub none_made : (rec : List ℕ) (slot : Report) → slot ≡ (decode_record rec).slots decision_slot → (slot.mark ≡ 1 → ⊥)
    → None ≡ made_by (contents_in rec).decision
unfolding contents
none_made rec slot e h =
    let none_reported : None ≡ made_by (reported slot) = rw (ne_eqb slot.mark 1 h) refl in
    none_reported ∙ ap (λ (x : Report). made_by (reported x)) e

-- A marked slot is a decision made, in its view and for its plan.
pub one_made : (rec : List ℕ) (slot : Report) → slot ≡ (decode_record rec).slots decision_slot → slot.mark ≡ 1
    → Some (record { view = slot.view; plan = slot.plan }) ≡ made_by (contents_in rec).decision
unfolding contents
one_made rec slot e h =
    let one_reported : Some (record { view = slot.view; plan = slot.plan }) ≡ made_by (reported slot) = rw (eq-eqb slot.mark 1 h) refl in
    one_reported ∙ ap (λ (x : Report). made_by (reported x)) e
