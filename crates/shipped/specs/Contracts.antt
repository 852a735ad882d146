-- The calls of a run, as the contracts of `start`, `frame` and `timer` of crate vault and of `write_remnant` and `restart` of crate remnant have them:
-- whoever calls learns this and no more.
-- Assumes nothing.
use Rattle.std.specs.Prelude.{ℕ, Result, List}
use contract.Lifetimes.{Lfts}
use denote.Bor.{Bor}
use denote.Ref.{MutBor, at_last}
use Rattle.settings.specs.declared.Settings.{Settings}
use Rattle.frame.specs.declared.Refusal.{Refusal}
use Rattle.vault.specs.Answers.{left_by}
use Rattle.vault.proofs.start.Reads as of_start
use Rattle.vault.proofs.frame.Reads as of_frame
use Rattle.vault.proofs.timer.Reads as of_timer
use Rattle.remnant.proofs.write_remnant.Reads as of_write
use Rattle.remnant.proofs.restart.Reads as of_restart
use Rattle.contents.specs.Left.{Left}
use Rattle.runs.specs.Runs.{start, frame, timer, HostCall, call, write, restart}

-- Record r and output space o are lent, and have the bytes rec' and out' when the call is back.
pub data Contract : List ℕ → HostCall → List ℕ → Left → Type 0 where
  by_start : (κs : Lfts 2) (r o : MutBor (List ℕ)) (set : Settings) (plan : ℕ) (a : Result ℕ Refusal) (rec' out' : List ℕ)
      → of_start.Learnt κs (r, (set, (plan, (o, tt)))) a (at_last r rec', (set, (plan, (at_last o out', tt))))
      → Contract r.now (call (start set plan)) o.now (left_by a rec' out')
  by_frame : (κs : Lfts 3) (r : MutBor (List ℕ)) (s : Bor (List ℕ)) (o : MutBor (List ℕ)) (link : ℕ) (a : Result ℕ Refusal) (rec' out' : List ℕ)
      → of_frame.Learnt κs (r, (link, (s, (o, tt)))) a (at_last r rec', (link, (s, (at_last o out', tt))))
      → Contract r.now (call (frame link s.now)) o.now (left_by a rec' out')
  by_timer : (κs : Lfts 2) (r o : MutBor (List ℕ)) (view : ℕ) (a : Result ℕ Refusal) (rec' out' : List ℕ)
      → of_timer.Learnt κs (r, (view, (o, tt))) a (at_last r rec', (view, (at_last o out', tt)))
      → Contract r.now (call (timer view)) o.now (left_by a rec' out')
  by_write : (κs : Lfts 2) (r : Bor (List ℕ)) (o : MutBor (List ℕ)) (a : Result ℕ Refusal) (out' : List ℕ) → of_write.Learnt κs (r, (o, tt)) a (r, (at_last o out', tt))
      → Contract r.now write o.now (left_by a r.now out')
  by_restart : (κs : Lfts 3) (r : MutBor (List ℕ)) (s : Bor (List ℕ)) (o : MutBor (List ℕ)) (a : Result ℕ Refusal) (rec' out' : List ℕ)
      → of_restart.Learnt κs (r, (s, (o, tt))) a (at_last r rec', (s, (at_last o out', tt)))
      → Contract r.now (restart s.now) o.now (left_by a rec' out')
