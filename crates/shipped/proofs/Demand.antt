-- Demand 3 of the calls of crates vault and remnant: what their contracts say is what the papers fix, and back.
-- Assumes nothing.
use Prim.Native.Nat.{ℕ}
use mathlib.Core.Path.{◌≡◌, sym, ap, subst, ◌∙◌}
use mathlib.Core.Logic.{⊎_elim}
use mathlib.Core.List.{List, []}
use denote.Bor.{Bor}
use denote.MutBor.{MutBor}
use Rattle.std.specs.Prelude.{Ok, Err}
use Rattle.contents.specs.Left.{Left, wrote, gave}
use Rattle.contents.specs.Remnant.{remnant_left}
use Rattle.contents.specs.Calls.{start_left, frame_left, timer_left}
use Rattle.contents.proofs.Remnant.{written_any}
use Rattle.frame.specs.Numbers.{number_of}
use Rattle.vault_c.proofs.Small.{small_start, small_frame, small_timer}
use Rattle.shipped.proofs.Refused.{small_number, written_number, restarted_number}
use Rattle.runs.specs.Runs.{start, frame, timer, HostCall, call, write, restart, record_in}
use Rattle.runs.specs.Five.{Fixed}
use Rattle.runs.specs.Claim.{Demand3}
use Rattle.runs.proofs.Demand.{demand3_by}
use Rattle.shipped.specs.Contracts.{Contract, by_start, by_frame, by_timer, by_write, by_restart}
use Rattle.shipped.specs.Sentences.{AsFixed}

-- A run by the contracts is a run by what the paper fixes.
pub contract_fixed : (rec : List ℕ) (a : HostCall) (out : List ℕ) (left : Left) → Contract rec a out left → Fixed rec a out left
contract_fixed rec a out left (by_start κs r o set plan answer rec' out' learnt) = learnt
contract_fixed rec a out left (by_frame κs r s o link answer rec' out' learnt) = learnt
contract_fixed rec a out left (by_timer κs r o view answer rec' out' learnt) = learnt
contract_fixed rec a out left (by_write κs r o answer out' learnt) = learnt
contract_fixed rec a out left (by_restart κs r s o answer rec' out' learnt) = learnt

-- The theorem of these calls.
pub demand3 : Demand3 Contract
demand3 = demand3_by contract_fixed

-- ---- and back: what the paper fixes is what the contracts let be

-- A slice that is lent with these bytes, to be read,
unfoldable pub lent : List ℕ → Bor (List ℕ)
lent xs = record { ref_ptr = (0, 0); now = xs }

-- and one that is lent to be written.
unfoldable pub lent_mut : List ℕ → MutBor (List ℕ)
lent_mut xs = record { ref_ptr = (0, 0); ghost_name = 0; now = xs }

-- Where a remnant is written, or that is refused, the record stays.
pub writes_nothing : (rec out : List ℕ) (left : Left) → left ≡ remnant_left rec out → record_in left ≡ rec
writes_nothing rec out left e = ⊎_elim (λ (k, is). ap record_in (e ∙ is)) (λ (room, sound, is). ap record_in (e ∙ is)) (written_any rec out)

-- Each answer of a call is one of crate vault's answers.
fixed_contract : (rec : List ℕ) (a : HostCall) (out : List ℕ) (left : Left) → Fixed rec a out left → Contract rec a out left
unfolding lent lent_mut
fixed_contract rec (call (start set plan)) out (wrote count rec' out') e = by_start ([], ([], tt)) (lent_mut rec) (lent_mut out) set plan (Ok count) rec' out' e
fixed_contract rec (call (start set plan)) out (gave number rec' out') e =
    let (w, is) = small_number number rec' out' (start_left rec set plan out) e (small_start rec set plan out) in
    subst (λ (k : ℕ). Contract rec (call (start set plan)) out (gave k rec' out')) is
    (by_start ([], ([], tt)) (lent_mut rec) (lent_mut out) set plan (Err w) rec' out' (ap (λ (k : ℕ). gave k rec' out') is ∙ e))
fixed_contract rec (call (frame link bytes)) out (wrote count rec' out') e =
    by_frame ([], ([], ([], tt))) (lent_mut rec) (lent bytes) (lent_mut out) link (Ok count) rec' out' e
fixed_contract rec (call (frame link bytes)) out (gave number rec' out') e =
    let (w, is) = small_number number rec' out' (frame_left rec link bytes out) e (small_frame rec link bytes out) in
    subst (λ (k : ℕ). Contract rec (call (frame link bytes)) out (gave k rec' out')) is
    (by_frame ([], ([], ([], tt))) (lent_mut rec) (lent bytes) (lent_mut out) link (Err w) rec' out' (ap (λ (k : ℕ). gave k rec' out') is ∙ e))
fixed_contract rec (call (timer view)) out (wrote count rec' out') e = by_timer ([], ([], tt)) (lent_mut rec) (lent_mut out) view (Ok count) rec' out' e
fixed_contract rec (call (timer view)) out (gave number rec' out') e =
    let (w, is) = small_number number rec' out' (timer_left rec view out) e (small_timer rec view out) in
    subst (λ (k : ℕ). Contract rec (call (timer view)) out (gave k rec' out')) is
    (by_timer ([], ([], tt)) (lent_mut rec) (lent_mut out) view (Err w) rec' out' (ap (λ (k : ℕ). gave k rec' out') is ∙ e))
fixed_contract rec write out (wrote count rec' out') e =
    subst (λ (r : List ℕ). Contract rec write out (wrote count r out')) (sym same)
    (by_write ([], ([], tt)) (lent rec) (lent_mut out) (Ok count) out' (ap (λ (r : List ℕ). wrote count r out') (sym same) ∙ e))
  where
    same : rec' ≡ rec
    same = writes_nothing rec out (wrote count rec' out') e
fixed_contract rec write out (gave number rec' out') e =
    let (w, is) = written_number number rec' out' rec out e in
    subst (λ (k : ℕ). Contract rec write out (gave k rec' out')) is
    (subst (λ (r : List ℕ). Contract rec write out (gave (number_of w) r out')) (sym same)
    (by_write ([], ([], tt)) (lent rec) (lent_mut out) (Err w) out' ((let back = sym same in λ i. gave (is i) (back i) out') ∙ e)))
  where
    same : rec' ≡ rec
    same = writes_nothing rec out (gave number rec' out') e
fixed_contract rec (restart remnant) out (wrote count rec' out') e =
    by_restart ([], ([], ([], tt))) (lent_mut rec) (lent remnant) (lent_mut out) (Ok count) rec' out' e
fixed_contract rec (restart remnant) out (gave number rec' out') e =
    let (w, is) = restarted_number number rec' out' rec remnant out e in
    subst (λ (k : ℕ). Contract rec (restart remnant) out (gave k rec' out')) is
    (by_restart ([], ([], ([], tt))) (lent_mut rec) (lent remnant) (lent_mut out) (Err w) rec' out' (ap (λ (k : ℕ). gave k rec' out') is ∙ e))

-- The calls by the contracts are the calls that the paper fixes.
pub contract_as_fixed : AsFixed Contract
contract_as_fixed rec a out left = (contract_fixed rec a out left, fixed_contract rec a out left)
