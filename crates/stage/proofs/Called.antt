-- Laws of a vault's call on a stage: 'Each step is the vault's own step'. The vault's record is a part of the stage that is lent to its call,
-- and the record that the call leaves is put back in its place (`called`). The kind of a line decides which call it makes.
-- Assumes nothing.
use Prim.Native.Nat.{ℕ, ◌+◌, ◌-◌, ◌≤◌}
use mathlib.Core.Path.{◌≡◌, refl, sym, ap, subst, ◌∙◌}
use mathlib.Core.Bool.{Bool, true, false, cond}
use mathlib.Core.List.{List, ◌++◌}
use native.Mathlib.Omega.{arith}
use borrow.Author.Tests.{eq-eqb, ne_eqb}
use lib.Dec.{eqb}
use lib.ListN.{length, get_or, take, drop, length-drop}
use lib.Seq.{length-take-le, drop-drop}
use Rattle.wire.specs.Fields.{Bytes}
use Rattle.wire.specs.Placed.{placed}
use Rattle.wire.specs.Digits.{number_at}
use Rattle.wire.proofs.Laws.{number_below}
use Rattle.wire.proofs.Output.{bytes_placed}
use Rattle.settings.specs.declared.Settings.{Settings}
use Rattle.record.specs.Size.{record_size}
use Rattle.record.specs.Layout.{decode_record}
use Rattle.contents.specs.Calls.{start_left, frame_left, timer_left}
use Rattle.contents.specs.Left.{Left}
use Rattle.runs.specs.Runs.{ByteCall, InWidth, record_in}
use Rattle.runs.specs.Fixed.{leaves}
use Rattle.runs.proofs.Left.{call_leaves_bytes}
use Rattle.std.specs.Prelude.{Result, Ok, Err}
use Rattle.frame.specs.declared.Refusal.{Refusal}
use Rattle.vault.specs.Answers.{left_by}
use Rattle.stage.specs.Stage.{record_place, record_of, with_record, part}
use Rattle.stage.specs.Lines.{kind_of, vault_in, start_of, delivered, waiting_now, timer_of, call_of}
use Rattle.stage.specs.inside.Parts.{Named}
use Rattle.stage.specs.inside.Parts.{Called}
use Rattle.stage.proofs.Part.{bytes_part}
use Rattle.stage.proofs.Waiting.{bytes_waiting}

-- ---- the vault that a line names

-- '01 deliver (frame number, vault)': the vault stands behind the frame's number.
vault_third : (b : List ℕ) → kind_of b ≡ 1 → vault_in b ≡ get_or b 2 0
unfolding vault_in
vault_third b is = simp (eq-eqb (kind_of b) 1 is)

-- In every other kind it stands behind the kind.
pub vault_second : (b : List ℕ) → (kind_of b ≡ 1 → ⊥) → vault_in b ≡ get_or b 1 0
unfolding vault_in
vault_second b other = simp (ne_eqb (kind_of b) 1 other)

-- So a delivery's third byte is a vault of the stage.
pub third_named : {b : List ℕ} → Named b → kind_of b ≡ 1 → get_or b 2 0 ≤ 3
third_named {b} n is = subst (λ (k : ℕ). k ≤ 3) (vault_third b is) n.vault

-- And any other line's second byte is.
pub second_named : {b : List ℕ} → Named b → (kind_of b ≡ 1 → ⊥) → get_or b 1 0 ≤ 3
second_named {b} n other = subst (λ (k : ℕ). k ≤ 3) (vault_second b other) n.vault

-- ---- a record is lent

-- What is lent of a stage at a place.
abbrev lent : List ℕ → ℕ → List ℕ
lent s at = take (at + record_size - at) (drop at s)

-- The stage with what was lent given back.
abbrev back : List ℕ → ℕ → List ℕ → List ℕ
back s at rec = take at s ++ (rec ++ drop (at + record_size - at) (drop at s))

module _ (s : List ℕ) (v at : ℕ) (is : at ≡ record_place v) where
  -- So many bytes as a record has are lent.
  all_of_it : at + record_size - at ≡ record_size
  all_of_it = omega arith

  -- What is lent is the vault's record.
  pub lent_is : lent s at ≡ record_of s v
  unfolding part
  lent_is = ap (λ (k : ℕ). take k (drop at s)) all_of_it ∙ ap (λ (k : ℕ). take record_size (drop k s)) is

  -- Given back, it is the stage with another record of the vault.
  back_is : (rec : List ℕ) → length rec ≡ length (lent s at) → at + record_size ≤ length s → back s at rec ≡ with_record s v rec
  unfolding placed
  back_is rec same fits =
      let long : length (lent s at) ≡ at + record_size - at = length-take-le (at + record_size - at) (drop at s) (rw length-drop (omega arith)) in
      let size : at + record_size - at ≡ length rec = omega arith in
      ap (λ (k : ℕ). take at s ++ (rec ++ drop k (drop at s))) size
      ∙ ap (λ (l : List ℕ). take at s ++ (rec ++ l)) (drop-drop (length rec) at s)
      ∙ ap (λ (k : ℕ). take k s ++ (rec ++ drop (k + length rec) s)) is

  -- A call on what is lent is the call at the vault.
  pub called : (a : ByteCall) (out : List ℕ) (r : Result ℕ Refusal) (rec out' : List ℕ) → length rec ≡ length (lent s at) → at + record_size ≤ length s
      → left_by r rec out' ≡ leaves (lent s at) a out → Called s v a out r (back s at rec) out'
  called a out r rec out' same fits left =
      record { rec = rec; left = left ∙ ap (λ (l : List ℕ). leaves l a out) lent_is; stage = back_is rec same fits }

-- ---- each kind's call

module _ (s out : List ℕ) (at : ℕ) (r : Result ℕ Refusal) (rec out' : List ℕ) (same : length rec ≡ length (lent s at)) (fits : at + record_size ≤ length s) where
  -- '00 start (vault, class, plan)', '4 vaults, numbers 0 to 3 with n = 4 and f = 1'
  pub start_called : (b : List ℕ) → kind_of b ≡ 0 → at ≡ record_place (get_or b 1 0) → (plan : ℕ) → plan ≡ number_at 8 b 3
      → left_by r rec out' ≡ start_left (lent s at) (record { n = 4; f = 1; id = get_or b 1 0; class = get_or b 2 0 }) plan out
      → Called s (vault_in b) (start_of b) out r (back s at rec) out'
  start_called b kind is plan is_plan left =
      let set : Settings = record { n = 4; f = 1; id = get_or b 1 0; class = get_or b 2 0 } in
      let named : vault_in b ≡ get_or b 1 0 = vault_second b (λ (e : kind_of b ≡ 1). omega arith) in
      called s (vault_in b) at (is ∙ ap record_place (sym named)) (start_of b) out r rec out' same fits
      (left ∙ ap (λ (k : ℕ). start_left (lent s at) set k out) is_plan)

  -- '01 deliver (frame number, vault)': the frame is heard over the link from its writer.
  pub deliver_called : (k v : ℕ) → at ≡ record_place v → (writer len : ℕ) (bytes : List ℕ) → writer ≡ (waiting_now s k).writer
      → take len bytes ≡ (waiting_now s k).bytes → left_by r rec out' ≡ frame_left (lent s at) writer (take (len - 0) bytes) out
      → Called s v (delivered (waiting_now s k)) out r (back s at rec) out'
  deliver_called k v is writer len bytes is_writer is_frame left =
      let all : len - 0 ≡ len = omega arith in
      called s v at is (delivered (waiting_now s k)) out r rec out' same fits
      (left ∙ ap (λ (n : ℕ). frame_left (lent s at) writer (take n bytes) out) all
      ∙ (λ i. frame_left (lent s at) (is_writer i) (is_frame i) out))

  -- '05 let a vault's timer for its current view expire'
  pub timer_called : (v : ℕ) → at ≡ record_place v → (view : ℕ) → view ≡ (decode_record (lent s at)).view
      → left_by r rec out' ≡ timer_left (lent s at) view out → Called s v (timer_of (record_of s v)) out r (back s at rec) out'
  timer_called v is view is_view left =
      let now : view ≡ (decode_record (record_of s v)).view = is_view ∙ ap (λ (l : List ℕ). (decode_record l).view) (lent_is s v at is) in
      called s v at is (timer_of (record_of s v)) out r rec out' same fits (left ∙ ap (λ (k : ℕ). timer_left (lent s at) k out) now)

-- ---- the kind decides

module _ (s b out : List ℕ) (r : Result ℕ Refusal) (s' out' : List ℕ) where
  -- A call at the vault named, that the line's kind makes.
  made : (v : ℕ) (a : ByteCall) → v ≡ vault_in b → a ≡ call_of s b → Called s v a out r s' out' → Called s (vault_in b) (call_of s b) out r s' out'
  made v a is_vault is_call = subst (λ (w : ℕ). Called s v a out r s' out' → Called s w (call_of s b) out r s' out') is_vault
      (subst (λ (x : ByteCall). Called s v x out r s' out') is_call)

  -- Kind 00 starts.
  pub kind_starts : kind_of b ≡ 0 → Called s (vault_in b) (start_of b) out r s' out' → Called s (vault_in b) (call_of s b) out r s' out'
  unfolding call_of
  kind_starts is k = simp (eq-eqb (kind_of b) 0 is) k

  -- Kind 01 delivers.
  pub kind_delivers : kind_of b ≡ 1 → Called s (get_or b 2 0) (delivered (waiting_now s (get_or b 1 0))) out r s' out'
      → Called s (vault_in b) (call_of s b) out r s' out'
  unfolding call_of
  kind_delivers is k =
      made (get_or b 2 0) (delivered (waiting_now s (get_or b 1 0))) (sym (vault_third b is)) (rw (ne_eqb (kind_of b) 0 (omega arith), eq-eqb (kind_of b) 1 is)) k

  -- The others that call are timers.
  pub kind_times : (kind_of b ≡ 0 → ⊥) → (kind_of b ≡ 1 → ⊥) → Called s (get_or b 1 0) (timer_of (record_of s (get_or b 1 0))) out r s' out'
      → Called s (vault_in b) (call_of s b) out r s' out'
  unfolding call_of
  kind_times no0 no1 k =
      let named : get_or b 1 0 ≡ vault_in b = sym (vault_second b no1) in
      let call : call_of s b ≡ timer_of (record_of s (vault_in b)) = rw (ne_eqb (kind_of b) 0 no0, ne_eqb (kind_of b) 1 no1) refl in
      made (get_or b 1 0) (timer_of (record_of s (get_or b 1 0))) named (ap (λ (v : ℕ). timer_of (record_of s v)) named ∙ sym call) k

-- ---- what is left is bytes

-- Whichever call a test picks, it is in width where both are.
either : (t : Bool) (x y : ByteCall) → InWidth x → InWidth y → InWidth (cond t x y)
either true x y p q = p
either false x y p q = q

-- A line's numbers and frames come from bytes, so its call is one that the runs of crate runs allow.
pub call_in_width : (s b : List ℕ) → Bytes s → Bytes b → InWidth (call_of s b)
unfolding call_of
call_in_width s b bs bb =
    let frames : ByteCall = delivered (waiting_now s (get_or b 1 0)) in
    let times : ByteCall = timer_of (record_of s (vault_in b)) in
    either (eqb (kind_of b) 0) (start_of b) (cond (eqb (kind_of b) 1) frames times) (number_below 8 b 3 bb)
    (either (eqb (kind_of b) 1) frames times (bytes_waiting s (get_or b 1 0) bs) tt)

-- So the stage that it leaves is bytes.
pub bytes_called : (s b out : List ℕ) (r : Result ℕ Refusal) (s' out' : List ℕ) → Bytes s → Bytes b
    → Called s (vault_in b) (call_of s b) out r s' out' → Bytes s'
bytes_called s b out r s' out' bs bb k = subst Bytes (sym k.stage) (bytes_placed s (record_place (vault_in b)) k.rec bs (go r k.left))
  where
    before : List ℕ
    before = record_of s (vault_in b)

    left : Bytes (record_in (leaves before (call_of s b) out))
    left =
        call_leaves_bytes before out (call_of s b) (bytes_part (record_place (vault_in b)) record_size s bs) (call_in_width s b bs bb)

    go : (a : Result ℕ Refusal) → left_by a k.rec out' ≡ leaves before (call_of s b) out → Bytes k.rec
    go (Ok n) is = subst (λ (l : Left). Bytes (record_in l)) (sym is) left
    go (Err why) is = subst (λ (l : Left). Bytes (record_in l)) (sym is) left
