-- What a stored record tells a host that comes back: the current view with its timer, and the decision.
-- Assumes nothing.
use Rattle.std.specs.Prelude.{ℕ, ◌*◌, List, Option, Some, None, Result, Ok, Err}
use Rattle.std.proofs.Math.Option as maybe
use Rattle.frame.specs.declared.Refusal.{Refusal}
use Rattle.frame.specs.declared.Refusal.TheVariants as why
use Rattle.settings.specs.Settings.{delay_of}
use Rattle.sound.specs.declared.Lent.{Lent}
use Rattle.sound.specs.declared.Lent.TheVariants.{Blank, Unsound, Sound}
use Rattle.sound.specs.inside.Sound.{lent_is}
use Rattle.rules.specs.Rules.{Vote}
use Rattle.protocol.specs.Record.{Record}
use Rattle.contents.specs.Contents.{contents_in}
use Rattle.questions.specs.declared.Current.{Current}
use Rattle.questions.specs.declared.Decision.{Decision}

-- 'current view'; 'A timer is 9 × Δ'.
abbrev pub entered_by : Record → Current
entered_by r = record { view = r.view; millis = 9 * delay_of r.set.class }

-- 'frame or timer on a blank record' gives 2, 'on an unsound record' 3; so does this question.
abbrev pub current_by : Lent → Record → Result Current Refusal
current_by Blank r = Err why.Blank
current_by Unsound r = Err why.Unsound
current_by Sound r = Ok (entered_by r)

-- The view that lent bytes are in, with the milliseconds of its timer.
unfoldable pub current_of : List ℕ → Result Current Refusal
current_of rec = current_by (lent_is rec) (contents_in rec)

-- 'and the decision': there is one, or there is none yet.
abbrev pub made_by : maybe.Option Vote → Option Decision
made_by maybe.none = None
made_by (maybe.some x) = Some (record { view = x.view; plan = x.plan })

-- The same refusals; else the record's decision.
abbrev pub decision_by : Lent → Record → Result (Option Decision) Refusal
decision_by Blank r = Err why.Blank
decision_by Unsound r = Err why.Unsound
decision_by Sound r = Ok (made_by r.decision)

-- The decision that lent bytes hold.
unfoldable pub decision_of : List ℕ → Result (Option Decision) Refusal
decision_of rec = decision_by (lent_is rec) (contents_in rec)
