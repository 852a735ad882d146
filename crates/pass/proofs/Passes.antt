-- A pass from a step on (document 01, 'One pass'): each step writes its entries after those before it, on the record that the one
-- before it left, and after the last there is nothing left.
-- Assumes nothing.
use Prim.Native.Nat.{ℕ, suc, ◌+◌, ◌≤◌, ◌<◌}
use mathlib.Core.Path.{◌≡◌, refl, sym, ◌∙◌, ap, subst}
use mathlib.Core.List.{List, []}
use mathlib.Core.Logic.{◌≢◌}
use mathlib.Core.Option.{Option, none, some}
use native.Mathlib.Omega.{arith}
use native.Mathlib.Numerals.{add-one}
use lib.ListN.{length}
use lib.Seq.{drop-cons}
use Rattle.record.specs.Size.{record_size}
use Rattle.record.specs.Layout.{decode_record}
use Rattle.protocol.specs.Record.{Record}
use Rattle.protocol.specs.Pass.{Act, ask, enter, cast, decide, does, Out, Step, taken, pass, from_a}
use Rattle.protocol.proofs.Passes.{pass_none, pass_more}
use Rattle.contents.specs.Contents.{contents, contents_in}
use Rattle.contents.specs.inside.Ready.{Ready}
use Rattle.acts.specs.declared.Act as acts
use Rattle.std.specs.Prelude as prelude
use Rattle.std.specs.Prelude.{None}
use Rattle.acts.specs.inside.Acts.{as_act, act_at}
use Rattle.pass.specs.inside.Steps.{Room, Due, Ran}
use Rattle.steps.specs.inside.Order.{step_at, ActOf}
use Rattle.pass.specs.inside.Passes.{steps_from, Going}
use Rattle.steps.proofs.Steps.{idle_step, step_by, step_set, act_of}
use Rattle.pass.proofs.Runs.{ran_nothing, joined, room_first, size_next, room_next, ran_join}

-- One step, and then those that follow it.
pass_step : (k : ℕ) → k < 8 → (c : Record) → pass (steps_from k) c ≡ joined (step_at k c) (steps_from (suc k))
pass_step k low c =
    ap (λ (l : List Step). pass l c) (drop-cons from_a k (λ c. taken c none) low) ∙ pass_more (step_at k) (steps_from (suc k)) c

-- A step that has nothing to do.
pub ran_idle : (k : ℕ) (act : prelude.Option acts.Act) (rec : List ℕ) → Ready rec → as_act act ≡ act_at k (contents_in rec) → act ≡ None → (at : ℕ) (out : List ℕ)
    → Ran (step_at k (contents_in rec)) at out out at rec
ran_idle k act rec ready e is at out =
    ran_nothing (step_at k (contents_in rec)) at out rec (idle_step k (contents_in rec) (sym e ∙ ap as_act is)) ready

-- The act of a step that is due says which step it is.
module _ {k id : ℕ} {rec : List ℕ} (act : prelude.Option acts.Act) (due : Due k (as_act act) rec id) where
  pub number_is : {a : Act} → as_act act ≡ some a → ActOf k a
  number_is e = act_of (contents_in rec) k (sym due.is ∙ e)

  -- So that step is due.
  pub due_as : {a : Act} → as_act act ≡ some a → {j : ℕ} → k ≡ j → Due j (some a) rec id
  due_as {a} e same =
      subst (λ (i : ℕ). Due i (some a) rec id) same (record { ready = due.ready; low = due.low; is = sym e ∙ due.is; own = due.own })

-- Only to enter changes the view.
taken_view : (k : ℕ) (c : Record) (o : Option Act) → act_at k c ≡ o → k ≢ 1 → (taken c o).left.view ≡ c.view
unfolding does
taken_view k c none e ne = refl
taken_view k c (some (ask w)) e ne = refl
taken_view k c (some (enter w)) e ne = absurd (ne (act_of c k e))
taken_view k c (some (cast j p)) e ne = refl
taken_view k c (some (decide p)) e ne = refl

-- So after any step but B it is the one before.
pub view_stays : (k : ℕ) (rec : List ℕ) {left : List ℕ} {at : ℕ} {out after : List ℕ} {n : ℕ} → Ran (step_at k (contents_in rec)) at out after n left → k ≢ 1
    → (decode_record left).view ≡ (decode_record rec).view
unfolding contents
view_stays k rec ran ne =
    let c = contents_in rec in
    ap (λ (x : Record). x.view) (ran.left ∙ ap (λ (o : Out). o.left) (step_by k c)) ∙ taken_view k c (act_at k c) refl ne

-- Its room and what it ran are those of that number.
module _ {k j : ℕ} (same : k ≡ j) (c : Record) (at : ℕ) (out : List ℕ) where
  pub room_as : Room (step_at k c) at out → Room (step_at j c) at out
  room_as = subst (λ (i : ℕ). Room (step_at i c) at out) same

  pub ran_as : {after : List ℕ} {n : ℕ} {rec : List ℕ} → Ran (step_at j c) at out after n rec → Ran (step_at k c) at out after n rec
  ran_as {after} {n} {rec} = subst (λ (i : ℕ). Ran (step_at i c) at out after n rec) (sym same)

module _ {first : List ℕ} {from at : ℕ} {out : List ℕ} where
  -- Before the first step: nothing is written, and the whole pass is to come.
  pub going_first : {view : ℕ} → view ≡ (decode_record first).view → Ready first → from ≤ 8 → Room (pass (steps_from from) (contents_in first)) at out
      → Going first from at out first from at out view
  going_first e h high room = record { here = e; ready = h; same = refl; most = high; size = refl; room = room; rest = λ after n left ran. ran }

  module _ {rec : List ℕ} {k n : ℕ} {there : List ℕ} {view : ℕ} (g : Going first from at out rec k n there view) where
    -- A step is taken.
    module _ (low : k < 8) where
      abbrev step : Out
      step = step_at k (contents_in rec)

      -- The entries of the pass to come, told as this step's and the rest's, have room.
      room : Room (joined step (steps_from (suc k))) n there
      room = subst (λ (o : Out). Room o n there) (pass_step k low (contents_in rec)) g.room

      -- So this step's entries have room, which `run_step` asks for.
      pub room_step : Room step n there
      room_step = room_first step (steps_from (suc k)) n there room

      -- After it the loop's promise holds of the next step.
      pub going_step : {after : List ℕ} {m : ℕ} {left : List ℕ} {next : ℕ} → Ran step n there after m left → next ≡ (decode_record left).view
          → Going first from at out left (k + 1) m after next
      unfolding contents
      going_step {after} {m} {left} {next} one e =
          subst (λ (j : ℕ). Going first from at out left j m after next) (sym (add-one k)) (record {
            here = e;
            ready = one.ready;
            same = ap (λ (c : Record). c.set) one.left ∙ step_set k (contents_in rec) ∙ g.same;
            most = omega arith;
            size = size_next step (steps_from (suc k)) n there room one ∙ g.size;
            room = room_next step (steps_from (suc k)) n there room one;
            rest = λ last n' left' ran. g.rest last n' left'
                (subst (λ (o : Out). Ran o n there last n' left') (sym (pass_step k low (contents_in rec)))
                (ran_join step (steps_from (suc k)) n there room one ran));
          })

    -- After the last step there is nothing left.
    pub going_done : 8 ≤ k → Ran (pass (steps_from from) (contents_in first)) at out there n rec
    going_done last =
        g.rest there n rec (ran_nothing (pass (steps_from k) (contents_in rec)) n there rec nothing g.ready)
      where
        end : k ≡ 8
        end = omega (arith, last, g.most)

        nothing : pass (steps_from k) (contents_in rec) ≡ record { left = contents_in rec; wrote = [] }
        nothing = ap (λ (j : ℕ). pass (steps_from j) (contents_in rec)) end ∙ pass_none (contents_in rec)

    -- The record keeps its size.
    pub going_size : length first ≡ record_size → length rec ≡ length first
    going_size size = g.ready.size ∙ sym size
