-- 'Proved, hence the caller learns this', in one statement for each shipped call: the routine, run by the machine, ends, and this equation holds
-- of its answer and of the bytes that the lent slices have then. Proved in proofs/Tells.
-- Assumes nothing.
use Rattle.std.specs.Prelude.{ℕ, ◌≡◌, List}
use mir.Val.{Val}
use base.Logic.{sep}
use prog.Memory.{Memory}
use prog.Machine.{done}
use prog.Routine.{Callee, Env, Routine, step}
use prog.Wired.{Code, Wired}
use Rattle.std.specs.Borrow.{sem}
use contract.Adequate.{Satisfies}
use denote.Triple.Entry.{on_entry}
use denote.Triple.Bound.{Bound, passed}
use denote.Triple.Spec.{Back}
use denote.Triple.Clauses.{Lasts, at_exit, lasts}
use borrow.Fn.Kind.{ParamKind, ResultKind}
use borrow.Fn.Kinds.{Out, res_t, sig_of, ended_of}
use borrow.Fn.World.{World, Pr}
use Rattle.vault.specs.Answers.{left_by}
use Rattle.vault.proofs.start.Kinds as start_kinds
use Rattle.vault.proofs.frame.Kinds as frame_kinds
use Rattle.vault.proofs.timer.Kinds as timer_kinds
use Rattle.remnant.proofs.write_remnant.Kinds as write_kinds
use Rattle.remnant.proofs.restart.Kinds as restart_kinds
use Rattle.vault.proofs.start.Symbol as start
use Rattle.vault.proofs.frame.Symbol as frame
use Rattle.vault.proofs.timer.Symbol as timer
use Rattle.remnant.proofs.write_remnant.Symbol as write
use Rattle.remnant.proofs.restart.Symbol as restart
use Rattle.vault_c.specs.Numbers.{seen, numbered}
use Rattle.vault_c.proofs.vault_start.Kinds as export_start_kinds
use Rattle.vault_c.proofs.vault_frame.Kinds as export_frame_kinds
use Rattle.vault_c.proofs.vault_timer.Kinds as export_timer_kinds
use Rattle.vault_c.proofs.vault_write_remnant.Kinds as export_write_kinds
use Rattle.vault_c.proofs.vault_restart.Kinds as export_restart_kinds
use Rattle.vault_c.proofs.vault_start.Symbol as export_start
use Rattle.vault_c.proofs.vault_frame.Symbol as export_frame
use Rattle.vault_c.proofs.vault_timer.Symbol as export_timer
use Rattle.vault_c.proofs.vault_write_remnant.Symbol as export_write
use Rattle.vault_c.proofs.vault_restart.Symbol as export_restart
use Rattle.contents.specs.Calls.{start_left, frame_left, timer_left}
use Rattle.contents.specs.Remnant.{remnant_left, restart_left}

module _ (n : ℕ) (ps : List (ParamKind n)) (r : ResultKind n) (w : World) where
  -- A call's arguments, as the logic has them: lifetimes .0 with shares .1, values .3, and machine values .4.
  abbrev pub Arguments : Type 0
  Arguments = Bound w.𝓛 (sig_of n ps r)

  abbrev pub Answer : Arguments → Type 0
  Answer x = (res_t r x.0).Denot

  -- What the lent slices hold at the end.
  abbrev pub Last : Arguments → Type 0
  Last x = Lasts (ended_of n ps r) x.0 x.3

  -- The machine's memory is σ, and in it P is owned, and F besides.
  abbrev pub Owned : Memory → Pr w → Pr w → Type 1
  Owned σ P F = Satisfies w.𝓤 w.𝓛.H w.𝓜 σ (sep w.𝓤 P F)

  -- The arguments are lent.
  abbrev pub lent : Arguments → Pr w
  lent x = on_entry w.𝓛 (sig_of n ps r) x.0 x.1 x.3 x.4

  -- They are given back as they are at the end, with the answer, which is v to the machine.
  abbrev pub given : (x : Arguments) → Val → Answer x → Last x → Pr w
  given x v answer last =
      sep w.𝓤 (sem w.𝓛 (lasts (ended_of n ps r) x.0 x.3 last)) (Back w.𝓛 (sig_of n ps r) x v answer)

  -- The machine has run ρ from memory σ, to its end; what is said holds of answer and last values, and what else was owned, F, is untouched.
  pub record Ran (ρ : Routine) (Says : Out n ps r) (x : Arguments) (σ : Memory) (F : Pr w) : Type 1 where
    pub steps : ℕ
    pub value : Val
    pub after : Memory
    pub runs : step ρ steps (passed w.𝓛 (sig_of n ps r) x) σ ≡ done (value, after)
    pub answer : Answer x
    pub last : Last x
    pub says : Says x.0 x.3 answer (at_exit (ended_of n ps r) x.0 x.3 last)
    pub back : Owned after (given x value answer last) F

-- From every memory in which the arguments are lent, with nothing else asked, a call of f ends and its caller learns what is said: in whatever
-- environment γ has the code c, in which f and all that it calls stand.
abbrev pub Tells : (n : ℕ) (ps : List (ParamKind n)) (r : ResultKind n) → Callee → Code → Out n ps r → Type 2
Tells n ps r f c Says =
    (w : World) (γ : Env) → Wired γ c → (x : Arguments n ps r w) (σ : Memory) (F : Pr w) → Owned n ps r w σ (lent n ps r w x) F
    → ∥ Ran n ps r w (γ f) Says x σ F ∥₁

-- `start`, `frame` and `timer` of crate vault.
abbrev pub StartTells : Type 2
StartTells = Tells 2 start_kinds.ps start_kinds.r start.name start.code
    (λ κs (rec, (set, (plan, (out, _)))) a (rec', (_, (_, (out', _)))). left_by a rec'.now out'.now ≡ start_left rec.now set plan out.now)

abbrev pub FrameTells : Type 2
FrameTells = Tells 3 frame_kinds.ps frame_kinds.r frame.name frame.code
    (λ κs (rec, (link, (bytes, (out, _)))) a (rec', (_, (_, (out', _)))). left_by a rec'.now out'.now ≡ frame_left rec.now link bytes.now out.now)

abbrev pub TimerTells : Type 2
TimerTells = Tells 2 timer_kinds.ps timer_kinds.r timer.name timer.code
    (λ κs (rec, (view, (out, _))) a (rec', (_, (out', _))). left_by a rec'.now out'.now ≡ timer_left rec.now view out.now)

-- `write_remnant` and `restart` of crate remnant.
abbrev pub WriteTells : Type 2
WriteTells = Tells 2 write_kinds.ps write_kinds.r write.name write.code
    (λ κs (rec, (out, _)) a (_, (out', _)). left_by a rec.now out'.now ≡ remnant_left rec.now out.now)

abbrev pub RestartTells : Type 2
RestartTells = Tells 3 restart_kinds.ps restart_kinds.r restart.name restart.code
    (λ κs (rec, (remnant, (out, _))) a (rec', (_, (out', _))). left_by a rec'.now out'.now ≡ restart_left rec.now remnant.now out.now)

-- The exports of crate vault_c.
abbrev pub ExportStartTells : Type 2
ExportStartTells = Tells 2 export_start_kinds.ps export_start_kinds.r export_start.name export_start.code
    (λ κs (rec, (n, (f, (id, (class, (plan, (out, _))))))) number (rec', (_, (_, (_, (_, (_, (out', _))))))).
    seen number rec'.now out'.now ≡ numbered (start_left rec.now (record { n = n; f = f; id = id; class = class }) plan out.now))

abbrev pub ExportFrameTells : Type 2
ExportFrameTells = Tells 3 export_frame_kinds.ps export_frame_kinds.r export_frame.name export_frame.code
    (λ κs (rec, (link, (bytes, (out, _)))) number (rec', (_, (_, (out', _)))).
    seen number rec'.now out'.now ≡ numbered (frame_left rec.now link bytes.now out.now))

abbrev pub ExportTimerTells : Type 2
ExportTimerTells = Tells 2 export_timer_kinds.ps export_timer_kinds.r export_timer.name export_timer.code
    (λ κs (rec, (view, (out, _))) number (rec', (_, (out', _))). seen number rec'.now out'.now ≡ numbered (timer_left rec.now view out.now))

abbrev pub ExportWriteTells : Type 2
ExportWriteTells = Tells 2 export_write_kinds.ps export_write_kinds.r export_write.name export_write.code
    (λ κs (rec, (out, _)) number (_, (out', _)). seen number rec.now out'.now ≡ numbered (remnant_left rec.now out.now))

abbrev pub ExportRestartTells : Type 2
ExportRestartTells = Tells 3 export_restart_kinds.ps export_restart_kinds.r export_restart.name export_restart.code
    (λ κs (rec, (remnant, (out, _))) number (rec', (_, (out', _))).
    seen number rec'.now out'.now ≡ numbered (restart_left rec.now remnant.now out.now))
