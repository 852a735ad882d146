-- What no call takes from a vault's record: what holds of it through each act, and through keeping a frame, holds of what a call
-- leaves (`call_stays`). So its settings stay (`call_set`), and each frame that a vault of a run reads is read with the run's n and
-- the vault's own number; and of votes without a previous one none is kept there (`call_placed`).
-- Assumes nothing.
use Prim.Native.Nat.{ℕ}
use mathlib.Core.Path.{◌≡◌, refl, sym, ◌∙◌, ap, subst}
use mathlib.Core.Bool.{Bool, true, false, cond}
use mathlib.Core.List.{List}
use mathlib.Core.Option.{Option, none, some}
use Rattle.rules.proofs.Bools.{clash}
use Rattle.rules.specs.Rules.{Vote}
use Rattle.frame.specs.declared.Frame.{Frame}
use Rattle.protocol.specs.Record.{Record}
use Rattle.protocol.specs.Tables.{put}
use Rattle.settings.specs.declared.Settings.{Settings}
use Rattle.protocol.specs.Pass.{Act, ask, enter, cast, decide, has_previous, does, Out, Step, taken, pass}
use Rattle.protocol.specs.Calls.{fresh, started, keep, heard, wanted, timed_out, Call, start, frame, timer, short, accepted, answer}
use Rattle.protocol.proofs.Tables.{put_other}
use Rattle.protocol.proofs.Good.{does_set}
use Rattle.protocol.proofs.May.{Sure, done, and, sure_c, sure_a}
use Rattle.protocol.proofs.Went.{accepted_by}
use Rattle.contents.proofs.Slotted.{Placed}

-- It holds of the record that a call begins with: the vault's own, or that of a start.
abbrev pub From : (Record → Type 0) → Option Record → Call → Type 0
From P none (start s p) = P (fresh s p)
From P none (frame x) = Unit {0}
From P none (timer v) = Unit {0}
From P none short = Unit {0}
From P (some r) a = P r

module _ (P : Record → Type 0) (acts : (r : Record) (a : Act) → P r → P (does r a)) (keeps : (x : Frame) (r : Record) → P r → P (keep x r)) where
  -- What holds through each act holds of what a pass leaves.
  pass_stays : {steps : List Step} → Sure steps → (r : Record) → P r → P (pass steps r).left
  unfolding pass
  pass_stays done r h = h
  pass_stays (and {s = step} {l = rest} law sure) r h =
      subst (λ (o : Out). P (pass rest o.left).left) (sym (law.does r)) (pass_stays sure (taken r (law.act r)).left (go (law.act r)))
    where
      go : (b : Option Act) → P (taken r b).left
      go none = h
      go (some a) = acts r a h

  -- And of what an accepted call leaves, as it holds through keeping a frame too.
  call_stays : (b : Option Record) (a : Call) → From P b a → (o : Out) → answer b a ≡ accepted o → P o.left
  unfolding started heard timed_out
  call_stays b a h o e =
      accepted_by (λ b a o. From P b a → P o.left)
      (λ s p given h. pass_stays sure_c (fresh s p) h)
      (λ r x given h. pass_stays sure_a (keep x r) (keeps x r h))
      (λ r v given h. pass_stays sure_a (does r (ask (wanted r))) (acts r (ask (wanted r)) h)) b a o e h

-- An accepted call leaves a record with the settings that it began with.
pub call_set : (b : Option Record) (a : Call) (t : Settings) → From (λ r. r.set ≡ t) b a → (o : Out) → answer b a ≡ accepted o → o.left.set ≡ t
unfolding keep
call_set b a t = call_stays (λ r. r.set ≡ t) (λ r a e. does_set r a ∙ e) (λ x r e. e) b a

-- A table without other previous votes stays so when vote-1's or vote-2's is put in.
put_placed : (b : Bool) (k : ℕ) (x : Option Vote) (t : ℕ → Option Vote) → has_previous k ≡ b → ((j : ℕ) → has_previous j ≡ false → t j ≡ none)
    → (j : ℕ) → has_previous j ≡ false → cond b (put k x t) t j ≡ none
put_placed true k x t has old j lacks = put_other k x t j (λ (e : k ≡ j). clash (ap has_previous (sym e) ∙ has) lacks) ∙ old j lacks
put_placed false k x t has old j lacks = old j lacks

-- So an act adds no other previous vote.
does_placed : (r : Record) (a : Act) → Placed r → Placed (does r a)
unfolding does
does_placed r (ask w) h = h
does_placed r (enter w) h = h
does_placed r (cast k p) h = put_placed (has_previous k) k _ r.previous refl h
does_placed r (decide p) h = h

-- It keeps no previous votes but vote-1's and vote-2's.
pub call_placed : (b : Option Record) (a : Call) → ((r : Record) → b ≡ some r → Placed r) → (o : Out) → answer b a ≡ accepted o → Placed o.left
unfolding keep
call_placed b a was = call_stays Placed does_placed (λ x r h. h) b a (go b a was)
  where
    go : (b : Option Record) (a : Call) → ((r : Record) → b ≡ some r → Placed r) → From Placed b a
    go none (start s p) was = λ k lacks. refl
    go none (frame x) was = tt
    go none (timer v) was = tt
    go none short was = tt
    go (some r) a was = was r refl
