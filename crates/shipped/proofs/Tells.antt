-- What is proved of each shipped routine, put together with what its caller learns. The prover's `met` says that the routine meets its contract, its
-- `known` reads that contract as a caller does, and the logic's `adequate` carries this to the machine's run.
-- Assumes nothing.
use Prim.Native.Nat.{ℕ}
use mathlib.Core.Path.{◌≡◌, refl}
use mathlib.Core.Logic.{∥∥₁_prop, ∥∥₁_elim, ∥∥₁_map}
use mathlib.Core.List.{List}
use mir.Val.{Val}
use base.Logic.{ent, sep, ex, via, mono_l, fst∗, snd∗}
use prog.Memory.{Memory}
use prog.Machine.{done}
use prog.Routine.{Callee, Env, Routine, step}
use prog.Wired.{Code, Wired}
use types.Logic.{sem}
use contract.Monad.{fact}
use contract.CodeStep.{c_Tables}
use contract.Running.{strict, tables, tables_of, within}
use contract.Adequate.{sat_weaken, sat_⇛, sat_ex∗, sat_fact}
use denote.Triple.Bound.{passed}
use denote.Triple.Statement.{Contract, Triple}
use denote.Triple.Spec.{Back}
use denote.Triple.Clauses.{at_exit, lasts}
use denote.Triple.Walked.{Fit}
use denote.Triple.Adequate.{adequate}
use borrow.Fn.Kind.{ParamKind, ResultKind}
use borrow.Fn.Kinds.{Out, sig_of, ended_of, stays}
use borrow.Fn.Claims.{with_fact}
use borrow.Fn.Function.{known_of}
use borrow.Fn.Run.{Over}
use borrow.Fn.World.{World, Pr}
use Rattle.vault.proofs.start.Kinds as start_kinds
use Rattle.vault.proofs.frame.Kinds as frame_kinds
use Rattle.vault.proofs.timer.Kinds as timer_kinds
use Rattle.remnant.proofs.write_remnant.Kinds as write_kinds
use Rattle.remnant.proofs.restart.Kinds as restart_kinds
use Rattle.vault.proofs.start.Symbol as start
use Rattle.vault.proofs.frame.Symbol as frame
use Rattle.vault.proofs.timer.Symbol as timer
use Rattle.remnant.proofs.write_remnant.Symbol as write
use Rattle.remnant.proofs.restart.Symbol as restart
use Rattle.vault.proofs.start.Reads as read_start
use Rattle.vault.proofs.frame.Reads as read_frame
use Rattle.vault.proofs.timer.Reads as read_timer
use Rattle.remnant.proofs.write_remnant.Reads as read_write
use Rattle.remnant.proofs.restart.Reads as read_restart
use Rattle.vault.proofs.start.Met as met_start
use Rattle.vault.proofs.frame.Met as met_frame
use Rattle.vault.proofs.timer.Met as met_timer
use Rattle.remnant.proofs.write_remnant.Met as met_write
use Rattle.remnant.proofs.restart.Met as met_restart
use Rattle.vault_c.proofs.vault_start.Kinds as export_start_kinds
use Rattle.vault_c.proofs.vault_frame.Kinds as export_frame_kinds
use Rattle.vault_c.proofs.vault_timer.Kinds as export_timer_kinds
use Rattle.vault_c.proofs.vault_write_remnant.Kinds as export_write_kinds
use Rattle.vault_c.proofs.vault_restart.Kinds as export_restart_kinds
use Rattle.vault_c.proofs.vault_start.Symbol as export_start
use Rattle.vault_c.proofs.vault_frame.Symbol as export_frame
use Rattle.vault_c.proofs.vault_timer.Symbol as export_timer
use Rattle.vault_c.proofs.vault_write_remnant.Symbol as export_write
use Rattle.vault_c.proofs.vault_restart.Symbol as export_restart
use Rattle.vault_c.proofs.vault_start.Reads as read_export_start
use Rattle.vault_c.proofs.vault_frame.Reads as read_export_frame
use Rattle.vault_c.proofs.vault_timer.Reads as read_export_timer
use Rattle.vault_c.proofs.vault_write_remnant.Reads as read_export_write
use Rattle.vault_c.proofs.vault_restart.Reads as read_export_restart
use Rattle.vault_c.proofs.vault_start.Met as met_export_start
use Rattle.vault_c.proofs.vault_frame.Met as met_export_frame
use Rattle.vault_c.proofs.vault_timer.Met as met_export_timer
use Rattle.vault_c.proofs.vault_write_remnant.Met as met_export_write
use Rattle.vault_c.proofs.vault_restart.Met as met_export_restart
use Rattle.shipped.specs.Tells.{Arguments, Answer, Last, Owned, lent, given, Ran, Tells}
use Rattle.shipped.specs.Tells.{StartTells, FrameTells, TimerTells, WriteTells, RestartTells}
use Rattle.shipped.specs.Tells.{ExportStartTells, ExportFrameTells, ExportTimerTells, ExportWriteTells, ExportRestartTells}

module _ (n : ℕ) (ps : List (ParamKind n)) (r : ResultKind n) (ρ : Routine) (Says : Out n ps r) where
  module _ (w : World) (x : Arguments n ps r w) (σ : Memory) (F : Pr w) where
    -- P and Q are owned apart, in world w.
    abbrev ◌∗◌ : Pr w → Pr w → Pr w
    P ∗ Q = sep w.𝓤 P Q

    -- P entails Q, in world w.
    abbrev ◌⊢◌ : Pr w → Pr w → Type 1
    P ⊢ Q = ent w.𝓤 P Q

    infix 26 ◌⊢◌
    infixr 35 ◌∗◌
    -- The lent slices hold their last values.
    abbrev lastly : Last n ps r w x → Pr w
    lastly last = sem w.𝓛 (lasts (ended_of n ps r) x.0 x.3 last)

    -- The answer is handed back, and is v to the machine.
    abbrev handed : Val → Answer n ps r w x → Pr w
    handed v a = Back w.𝓛 (sig_of n ps r) x v a

    -- What the caller is told at the end, of the answer and the last values.
    abbrev Told : Answer n ps r w x → Last n ps r w x → Type 0
    Told a last = Fit (ended_of n ps r) (stays ps) x.0 x.3 last × Says x.0 x.3 a (at_exit (ended_of n ps r) x.0 x.3 last)

    -- The same, as a fact of the logic.
    abbrev told : Answer n ps r w x → Last n ps r w x → Pr w
    told a last = fact w.𝓤 (Told a last)

    -- The contract's end, at an answer and last values.
    abbrev ended : Val → Answer n ps r w x → Last n ps r w x → Pr w
    ended v a last = (lastly last ∗ told a last) ∗ handed v a

    -- What is told is a plain fact beside what is owned,
    from_ended : (v : Val) (a : Answer n ps r w x) (last : Last n ps r w x) → ended v a last ∗ F ⊢ told a last
    from_ended v a last =
        via w.𝓤 (ended v a last) (fst∗ w.𝓤 (ended v a last) F)
        (via w.𝓤 (lastly last ∗ told a last) (fst∗ w.𝓤 (lastly last ∗ told a last) (handed v a)) (snd∗ w.𝓤 (lastly last) (told a last)))

    -- and what is owned stays without it.
    left_owned : (v : Val) (a : Answer n ps r w x) (last : Last n ps r w x) → ended v a last ∗ F ⊢ given n ps r w x v a last ∗ F
    left_owned v a last = mono_l w.𝓤 F (mono_l w.𝓤 (handed v a) (fst∗ w.𝓤 (lastly last) (told a last)))

    module _ (steps : ℕ) (v : Val) (after : Memory) (runs : step ρ steps (passed w.𝓛 (sig_of n ps r) x) σ ≡ done (v, after)) where
      -- The run, at an answer and last values for which the contract's end is owned.
      ran_with : (a : Answer n ps r w x) (last : Last n ps r w x) → Owned n ps r w after (ended v a last) F → ∥ Ran n ps r w ρ Says x σ F ∥₁
      ran_with a last owned =
          ∥∥₁_map (sat_fact w.𝓤 w.𝓛.H w.𝓜 after (ended v a last ∗ F) (Told a last)
          (via w.𝓤 (ended v a last ∗ F) (snd∗ w.𝓤 (w.𝓜.mem after) (ended v a last ∗ F)) (from_ended v a last)) owned)
          (λ is. record {
            steps = steps;
            value = v;
            after = after;
            runs = runs;
            answer = a;
            last = last;
            says = is.1;
            back = sat_weaken w.𝓤 w.𝓛.H w.𝓜 after (left_owned v a last) owned;
          })

      -- The answer and the last values are those that the contract's end says to be there.
      ran : Owned n ps r w after (w.𝓛.H.⇛ (ex w.𝓤 (λ (a : Answer n ps r w x). ex w.𝓤 (ended v a)))) F → ∥ Ran n ps r w ρ Says x σ F ∥₁
      ran owned =
          ∥∥₁_elim (sat_ex∗ w.𝓤 w.𝓛.H w.𝓜 after (λ (a : Answer n ps r w x). ex w.𝓤 (ended v a)) F
          (sat_⇛ w.𝓤 w.𝓛.H w.𝓜 after (ex w.𝓤 (λ (a : Answer n ps r w x). ex w.𝓤 (ended v a))) F owned)) ∥∥₁_prop (λ (a, some).
          ∥∥₁_elim (sat_ex∗ w.𝓤 w.𝓛.H w.𝓜 after (ended v a) F some) ∥∥₁_prop (λ (last, is). ran_with a last is))

  -- What a caller knows f by: nothing is asked, and what is said holds at the end.
  abbrev plain : (w : World) → Contract w.𝓤
  plain w = known_of w.𝓛 n ps r (λ κs a. Unit {0}) Says

-- The world w, with the machine's plain run for its run: nothing stops the process, and no other thread is beside it. Names mean what they mean in γ.
abbrev alone : World → Env → World
alone w γ = record { M = w.M; 𝓤 = w.𝓤; 𝓛 = w.𝓛; 𝓜 = w.𝓜; 𝓡 = within w.𝓤 w.𝓛.H w.𝓜 (strict w.𝓤 w.𝓛.H w.𝓜 w.𝓡) γ }

-- What is known of f to its callers wherever its code is.
abbrev KnownWhere : (n : ℕ) (ps : List (ParamKind n)) (r : ResultKind n) → Callee → Code → Out n ps r → Type 2
KnownWhere n ps r f c Says =
    (w : World) (γ : Env) → Wired γ c → Triple w.𝓤 ((Over w.𝓛 w.𝓜 (alone w γ).𝓡 γ).C f) (plain n ps r (γ f) Says w)

-- A function that is so known to its callers tells them what is said.
tells : (n : ℕ) (ps : List (ParamKind n)) (r : ResultKind n) (f : Callee) (c : Code) (Says : Out n ps r) → KnownWhere n ps r f c Says → Tells n ps r f c Says
unfolding tables_of c_Tables
tells n ps r f c Says known w γ wired x σ F owned =
    ∥∥₁_elim (adequate w.𝓤 w.𝓛.H w.𝓜 (tables w.𝓤 w.𝓛.H w.𝓜 (alone w γ).𝓡 γ) (λ s none. none, tt) f (plain n ps r (γ f) Says w) (known w γ wired) (x, tt) σ F
    (sat_weaken w.𝓤 w.𝓛.H w.𝓜 σ (mono_l w.𝓤 F (with_fact w.𝓤 (Unit {0}) (lent n ps r w x) tt)) owned)) ∥∥₁_prop
    (λ (steps, v, after, runs, is). ran n ps r (γ f) Says w x σ F steps v after runs is)

-- ---- the calls of crate vault

-- `start` ends, and leaves what `start_left` says.
pub start_tells : StartTells
start_tells =
    tells 2 start_kinds.ps start_kinds.r start.name start.code _
    (λ w γ wired. read_start.known (alone w γ) γ start.name (γ start.name) refl (met_start.met w.𝓤 w.𝓛 w.𝓜 (alone w γ).𝓡 wired))

-- `frame` ends, and leaves what `frame_left` says.
pub frame_tells : FrameTells
frame_tells =
    tells 3 frame_kinds.ps frame_kinds.r frame.name frame.code _
    (λ w γ wired. read_frame.known (alone w γ) γ frame.name (γ frame.name) refl (met_frame.met w.𝓤 w.𝓛 w.𝓜 (alone w γ).𝓡 wired))

-- `timer` ends, and leaves what `timer_left` says.
pub timer_tells : TimerTells
timer_tells =
    tells 2 timer_kinds.ps timer_kinds.r timer.name timer.code _
    (λ w γ wired. read_timer.known (alone w γ) γ timer.name (γ timer.name) refl (met_timer.met w.𝓤 w.𝓛 w.𝓜 (alone w γ).𝓡 wired))

-- ---- the calls of crate remnant

-- `write_remnant` ends, and leaves what `remnant_left` says.
pub write_tells : WriteTells
write_tells =
    tells 2 write_kinds.ps write_kinds.r write.name write.code _
    (λ w γ wired. read_write.known (alone w γ) γ write.name (γ write.name) refl (met_write.met w.𝓤 w.𝓛 w.𝓜 (alone w γ).𝓡 wired))

-- `restart` ends, and leaves what `restart_left` says.
pub restart_tells : RestartTells
restart_tells =
    tells 3 restart_kinds.ps restart_kinds.r restart.name restart.code _
    (λ w γ wired. read_restart.known (alone w γ) γ restart.name (γ restart.name) refl (met_restart.met w.𝓤 w.𝓛 w.𝓜 (alone w γ).𝓡 wired))

-- ---- the exports of crate vault_c

-- `vault_start` ends, and its number and bytes are those of what `start_left` says.
pub export_start_tells : ExportStartTells
export_start_tells =
    tells 2 export_start_kinds.ps export_start_kinds.r export_start.name export_start.code _
    (λ w γ wired. read_export_start.known (alone w γ) γ export_start.name (γ export_start.name) refl (met_export_start.met w.𝓤 w.𝓛 w.𝓜 (alone w γ).𝓡 wired))

-- `vault_frame` ends, and its number and bytes are those of what `frame_left` says.
pub export_frame_tells : ExportFrameTells
export_frame_tells =
    tells 3 export_frame_kinds.ps export_frame_kinds.r export_frame.name export_frame.code _
    (λ w γ wired. read_export_frame.known (alone w γ) γ export_frame.name (γ export_frame.name) refl (met_export_frame.met w.𝓤 w.𝓛 w.𝓜 (alone w γ).𝓡 wired))

-- `vault_timer` ends, and its number and bytes are those of what `timer_left` says.
pub export_timer_tells : ExportTimerTells
export_timer_tells =
    tells 2 export_timer_kinds.ps export_timer_kinds.r export_timer.name export_timer.code _
    (λ w γ wired. read_export_timer.known (alone w γ) γ export_timer.name (γ export_timer.name) refl (met_export_timer.met w.𝓤 w.𝓛 w.𝓜 (alone w γ).𝓡 wired))

-- `vault_write_remnant` ends, and its number and bytes are those of what `remnant_left` says.
pub export_write_tells : ExportWriteTells
export_write_tells =
    tells 2 export_write_kinds.ps export_write_kinds.r export_write.name export_write.code _
    (λ w γ wired. read_export_write.known (alone w γ) γ export_write.name (γ export_write.name) refl (met_export_write.met w.𝓤 w.𝓛 w.𝓜 (alone w γ).𝓡 wired))

-- `vault_restart` ends, and its number and bytes are those of what `restart_left` says.
pub export_restart_tells : ExportRestartTells
export_restart_tells =
    tells 3 export_restart_kinds.ps export_restart_kinds.r export_restart.name export_restart.code _
    (λ w γ wired. read_export_restart.known (alone w γ) γ export_restart.name (γ export_restart.name) refl (met_export_restart.met w.𝓤 w.𝓛 w.𝓜 (alone w γ).𝓡 wired))
