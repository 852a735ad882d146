-- Demand 3 of the exports. Their contracts say `numbered` of what the call leaves, and a number tells what that is: refusals are below 256,
-- and counts stand above it. So a run by the exports is a run by what the papers fix, and back.
-- Assumes nothing.
use Prim.Native.Nat.{ℕ, ◌+◌, ◌-◌, ◌<◌}
use mathlib.Core.Path.{◌≡◌, refl, sym, ap, subst, ◌∙◌}
use mathlib.Core.Logic.{⊎_elim}
use mathlib.Core.Bool.{Bool, true, false, cond, not, ◌&&◌, ◌||◌}
use mathlib.Core.List.{List, [], ◌∷◌}
use native.Mathlib.Omega.{arith}
use lib.Dec.{leb, ltb, eqb}
use lib.ListN.{length}
use borrow.Author.Tests.{lt-ltb, le-ltb, leb-true, eqb-true}
use Rattle.rules.proofs.Bools.{both_split, either}
use Rattle.wire.specs.Placed.{placed}
use Rattle.frame.specs.Format.{within}
use Rattle.frame.specs.Refusal.{row, first}
use Rattle.record.specs.Layout.{encode_record, decode_record}
use Rattle.sound.specs.declared.Lent.{Lent}
use Rattle.sound.specs.declared.Lent.TheVariants.{Blank, Unsound, Sound}
use Rattle.sound.specs.inside.Sound.{lent_is}
use Rattle.vault_c.specs.Numbers.{Seen, seen, numbered}
use Rattle.vault_c.proofs.Refusals.{refusal_low}
use Rattle.vault_c.proofs.Small.{Small, small_start, small_frame, small_timer}
use Rattle.contents.specs.Left.{Left, wrote, gave}
use Rattle.own.specs.Size.{remnant_size}
use Rattle.contents.specs.Which.{is_blank, is_sound}
use Rattle.own.specs.Part.{remnant_of, restored}
use Rattle.contents.specs.Remnant.{unless_given, remnant_left, made_back, restart_left}
use Rattle.runs.specs.Runs.{ByteCall, start, frame, timer, HostCall, call, write, restart, record_in}
use Rattle.runs.specs.Fixed.{leaves}
use Rattle.runs.specs.Five.{leaves_all, Fixed}
use Rattle.runs.specs.Claim.{Demand3}
use Rattle.runs.proofs.Demand.{demand3_by}
use Rattle.shipped.specs.Sentences.{AsFixed, is_given, InTable, RefusalNumbers, NumbersTell}
use Rattle.shipped.specs.Exports.{left_of, ExportContract, by_start, by_frame, by_timer, by_write, by_restart}
use Rattle.shipped.proofs.Demand.{writes_nothing, lent, lent_mut}

-- ---- a number tells what the call gave

-- Every call leaves little: a refusal of the table, or a count of at most 205.
small_left : (rec : List ℕ) (a : ByteCall) (out : List ℕ) → Small (leaves rec a out)
small_left rec (start set plan) out = small_start rec set plan out
small_left rec (frame link bytes) out = small_frame rec link bytes out
small_left rec (timer view) out = small_timer rec view out

-- Of a refusal, being small says that its number is in the table.
small_number : (a : ByteCall) (left : Left) → Small left → InTable (call a) left
small_number a (wrote count rec out) small = tt
small_number a (gave number rec out) small = small

-- Writing a remnant gives 1, 2 or 3.
write_number : (rec out : List ℕ) → InTable write (remnant_left rec out)
unfolding remnant_left within
write_number rec out = go (ltb (length out) remnant_size) (lent_is rec)
  where
    go : (short : Bool) (u : Lent) → InTable write (unless_given (first (row 1 short ∷ row 2 (is_blank u) ∷ row 3 (not (is_sound u)) ∷ [])) rec out
        (wrote remnant_size rec (placed out 0 (remnant_of (decode_record rec)))))
    go true u = refl
    go false Blank = refl
    go false Unsound = refl
    go false Sound = tt

-- A restart gives 1, 4, 25 or 26.
restart_number : (rec remnant out : List ℕ) → InTable (restart remnant) (restart_left rec remnant out)
unfolding restart_left within
restart_number rec remnant out =
    go (ltb (length out) 256) (not (is_blank (lent_is rec))) (not (eqb (length remnant) remnant_size)) (not (is_sound (lent_is (encode_record (restored remnant)))))
  where
    go : (short used long bad : Bool) → InTable (restart remnant) (unless_given (first (row 1 short ∷ row 4 used ∷ row 25 long ∷ row 26 bad ∷ [])) rec out
        (made_back (restored remnant) out))
    go true used long bad = refl
    go false true long bad = refl
    go false false true bad = refl
    go false false false true = refl
    go false false false false = tt

-- 'Each gives its number': each refusal has one of the table.
pub refusal_numbers : RefusalNumbers
refusal_numbers rec (call a) out = small_number a (leaves rec a out) (small_left rec a out)
refusal_numbers rec write out = write_number rec out
refusal_numbers rec (restart remnant) out = restart_number rec remnant out

-- All of them are below 256.
given_low : (a : HostCall) (number : ℕ) → is_given a number ≡ true → number < 256
unfolding within
given_low (call a) number given = refusal_low number given
given_low write number given = let (low, high) = both_split (leb 1 number) (leb number 3) given in omega (arith, leb-true number 3 high)
given_low (restart remnant) number given = ⊎_elim (λ e. omega (arith, eqb-true number 1 e)) (λ more. ⊎_elim (λ e. omega (arith, eqb-true number 4 e))
    (λ last. let (low, high) = both_split (leb 25 number) (leb number 26) last in omega (arith, leb-true number 26 high))
    (either (eqb number 4) (leb 25 number && leb number 26) more)) (either (eqb number 1) (eqb number 4 || (leb 25 number && leb number 26)) given)

-- Below 256 is a refusal, and 256 taken off again is the count.
tells_left : (a : HostCall) (left : Left) → InTable a left → left_of (numbered left) ≡ left
unfolding left_of
tells_left a (wrote count rec out) given =
    let high : ltb (256 + count) 256 ≡ false = le-ltb (256 + count) 256 (omega arith) in
    let less : 256 + count - 256 ≡ count = omega arith in
    ap (λ (b : Bool). cond b (gave (256 + count) rec out) (wrote (256 + count - 256) rec out)) high ∙ ap (λ (k : ℕ). wrote k rec out) less
tells_left a (gave number rec out) given =
    let low : ltb number 256 ≡ true = lt-ltb number 256 (given_low a number given) in
    ap (λ (b : Bool). cond b (gave number rec out) (wrote (number - 256) rec out)) low

-- A host can tell from its number what the call left.
pub numbers_tell : NumbersTell
numbers_tell rec a out = tells_left a (leaves_all rec a out) (refusal_numbers rec a out)

-- ---- the exports' runs are those that the paper fixes

-- A run by the exports is a run by what the paper fixes.
pub export_fixed : (rec : List ℕ) (a : HostCall) (out : List ℕ) (left : Left) → ExportContract rec a out left → Fixed rec a out left
export_fixed rec a out left (by_start κs r o n f id class plan number rec' out' learnt) = ap left_of learnt ∙ numbers_tell rec a out
export_fixed rec a out left (by_frame κs r s o link number rec' out' learnt) = ap left_of learnt ∙ numbers_tell rec a out
export_fixed rec a out left (by_timer κs r o view number rec' out' learnt) = ap left_of learnt ∙ numbers_tell rec a out
export_fixed rec a out left (by_write κs r o number out' learnt) = ap left_of learnt ∙ numbers_tell rec a out
export_fixed rec a out left (by_restart κs r s o number rec' out' learnt) = ap left_of learnt ∙ numbers_tell rec a out

-- The theorem of the exports.
pub demand3_of_exports : Demand3 ExportContract
demand3_of_exports = demand3_by export_fixed

-- ---- and back: what the paper fixes is what the contracts let be

-- The record that a host sees.
abbrev record_seen : Seen → List ℕ
record_seen (seen number rec out) = rec

-- It is the one that the call left.
seen_left : (left : Left) → record_seen (numbered left) ≡ record_in left
seen_left (wrote count rec out) = refl
seen_left (gave number rec out) = refl

-- Each answer of a call is one of the exports' numbers.
fixed_export : (rec : List ℕ) (a : HostCall) (out : List ℕ) (left : Left) → Fixed rec a out left → ExportContract rec a out left
unfolding lent lent_mut
fixed_export rec a out left e =
    subst (ExportContract rec a out) (ap (λ (l : Left). left_of (numbered l)) e ∙ numbers_tell rec a out ∙ sym e) (by a (numbered left) (ap numbered e))
  where
    kept : {number : ℕ} {rec' out' : List ℕ} → seen number rec' out' ≡ numbered (remnant_left rec out) → rec' ≡ rec
    kept is = ap record_seen is ∙ seen_left (remnant_left rec out) ∙ writes_nothing rec out (remnant_left rec out) refl

    by : (b : HostCall) (s : Seen) → s ≡ numbered (leaves_all rec b out) → ExportContract rec b out (left_of s)
    by (call (start set plan)) (seen number rec' out') is =
        by_start ([], ([], tt)) (lent_mut rec) (lent_mut out) set.n set.f set.id set.class plan number rec' out' is
    by (call (frame link bytes)) (seen number rec' out') is = by_frame ([], ([], ([], tt))) (lent_mut rec) (lent bytes) (lent_mut out) link number rec' out' is
    by (call (timer view)) (seen number rec' out') is = by_timer ([], ([], tt)) (lent_mut rec) (lent_mut out) view number rec' out' is
    by write (seen number rec' out') is =
        subst (λ (r : List ℕ). ExportContract rec write out (left_of (seen number r out'))) (sym (kept is))
        (by_write ([], ([], tt)) (lent rec) (lent_mut out) number out' (ap (λ (r : List ℕ). seen number r out') (sym (kept is)) ∙ is))
    by (restart remnant) (seen number rec' out') is = by_restart ([], ([], ([], tt))) (lent_mut rec) (lent remnant) (lent_mut out) number rec' out' is

-- The calls by the exports are the calls that the paper fixes.
pub export_as_fixed : AsFixed ExportContract
export_as_fixed rec a out left = (export_fixed rec a out left, fixed_export rec a out left)
