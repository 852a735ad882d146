-- Laws of the call that a line's bytes make: what each way through the code calls is what `call_of` says; whatever it is, the bytes that it
-- writes are entries end to end (`call_leaves_well` of crate runs). A frame without a byte 1 is refused before its sender is looked at, and
-- a line of fewer than five bytes is refused (`short_refused`).
-- Assumes nothing.
use Prim.Native.Nat.{ℕ, ◌<◌}
use mathlib.Core.Path.{◌≡◌, refl, sym, ap, subst, ◌∙◌}
use mathlib.Core.Bool.{Bool, true, false, cond}
use mathlib.Core.List.{List}
use mathlib.Core.Option.{Option, none, some}
use native.Mathlib.Omega.{arith}
use borrow.Author.Tests.{eq-eqb, ne_eqb}
use lib.Dec.{ltb, eqb}
use lib.ListN.{length, get_or, get_or-eq_default}
use Rattle.wire.specs.Digits.{number_at}
use Rattle.wire.specs.Fields.{Bytes}
use Rattle.wire.proofs.Laws.{number_below}
use Rattle.frame.specs.Refusal.{Reading, Refused}
use Rattle.frame.specs.Refusal.{first, form_rows, read_frame}
use Rattle.frame.proofs.Laws.{formed, head_is_there}
use Rattle.frame.proofs.Steps.{by_form}
use Rattle.record.specs.Layout.{decode_record}
use Rattle.sound.specs.declared.Lent.{Lent}
use Rattle.sound.specs.declared.Lent.TheVariants.{Blank, Unsound, Sound}
use Rattle.sound.specs.inside.Sound.{lent_is}
use Rattle.protocol.specs.Calls as by
use Rattle.protocol.specs.Calls.{answer}
use Rattle.contents.specs.Contents.{contents}
use Rattle.contents.specs.Calls.{left_after, on_lent, called, start_left, frame_left, timer_left}
use Rattle.contents.specs.Left.{Left, gave}
use Rattle.runs.specs.Runs.{ByteCall, start, timer, InWidth}
use Rattle.runs.specs.Left.{LeavesWell}
use Rattle.runs.proofs.Left.{call_leaves_well}
use Rattle.answers.specs.Lines.{is_kind, settings_in, start_of, timer_of, frame_of, call_of, call_left}

-- ---- each kind's call

module _ (rec out s : List ℕ) where
  -- 'A wrong length for 00 or 09 gives 10, before the call'.
  pub start_wrong : (length s ≡ 13 → ⊥) → gave 10 rec out ≡ call_left rec out (start_of s)
  unfolding start_of
  start_wrong wrong = simp (ne_eqb (length s) 13 wrong)

  -- The same of a timer's length.
  pub timer_wrong : (length s ≡ 5 → ⊥) → gave 10 rec out ≡ call_left rec out (timer_of s)
  unfolding timer_of
  timer_wrong wrong = simp (ne_eqb (length s) 5 wrong)

  -- With the right length it is a start, of the settings and the plan that the code read.
  pub start_made : length s ≡ 13 → (plan : ℕ) → plan ≡ number_at 8 s 5 → (left : Left)
      → left ≡ start_left rec (settings_in s) plan out → left ≡ call_left rec out (start_of s)
  unfolding start_of
  start_made right plan is left e = e ∙ rw (is, eq-eqb (length s) 13 right)

  -- With the right length it is a timer, of the view that the code read.
  pub timer_made : length s ≡ 5 → (view : ℕ) → view ≡ number_at 4 s 1 → (left : Left) → left ≡ timer_left rec view out → left ≡ call_left rec out (timer_of s)
  unfolding timer_of
  timer_made right view is left e = e ∙ rw (is, eq-eqb (length s) 5 right)

  -- 'other lines are frames whose byte 1 is also the link's sender'
  pub frame_made : (left : Left) → left ≡ frame_left rec (get_or s 1 0) s out → left ≡ call_left rec out (frame_of s)
  unfolding frame_of
  frame_made left e = e

  -- Where there is no byte 1 the code gives sender 0, which is what the definition reads beyond the end.
  pub frame_bare : length s < 2 → (left : Left) → left ≡ frame_left rec 0 s out → left ≡ call_left rec out (frame_of s)
  unfolding frame_of
  frame_bare short left e = e ∙ ap (λ (k : ℕ). frame_left rec k s out) (sym (get_or-eq_default s 0 {n = 1} (omega arith)))

-- ---- the kind decides

module _ (rec out s : List ℕ) (left : Left) where
  -- The call that two tests pick.
  abbrev picked : Bool → Bool → Left
  picked starts times = call_left rec out (cond starts (start_of s) (cond times (timer_of s) (frame_of s)))

  -- Kind 00 starts.
  pub kind_starts : is_kind 0 s ≡ true → left ≡ call_left rec out (start_of s) → left ≡ call_left rec out (call_of s)
  unfolding call_of
  kind_starts is e = e ∙ (λ i. picked (sym is i) (is_kind 9 s))

  -- Kind 09 is a timer.
  pub kind_times : is_kind 0 s ≡ false → is_kind 9 s ≡ true → left ≡ call_left rec out (timer_of s) → left ≡ call_left rec out (call_of s)
  unfolding call_of
  kind_times other is e = e ∙ (λ i. picked (sym other i) (sym is i))

  -- 'other lines are frames'
  pub kind_frames : is_kind 0 s ≡ false → is_kind 9 s ≡ false → left ≡ call_left rec out (frame_of s) → left ≡ call_left rec out (call_of s)
  unfolding call_of
  kind_frames other others e = e ∙ (λ i. picked (sym other i) (sym others i))

-- ---- where there is no byte 1

-- 9 or 10 is given first.
short_read : (s : List ℕ) (a b n own : ℕ) → length s < 2 → read_frame s a n own ≡ read_frame s b n own
short_read s a b n own short =
    let given : first (form_rows s) ≡ 0 → ⊥ = λ (e : first (form_rows s) ≡ 0). omega (arith, head_is_there s (formed s e)) in
    sym (by_form s a n own (first (form_rows s)) given refl) ∙ by_form s b n own (first (form_rows s)) given refl

-- No sender is looked at: any two leave the same.
pub sender_unread : (rec s out : List ℕ) (a b : ℕ) → length s < 2 → frame_left rec a s out ≡ frame_left rec b s out
unfolding frame_left
sender_unread rec s out a b short =
    ap (λ (x : Reading). called 3 rec out (by.frame x)) (short_read s a b (decode_record rec).set.n (decode_record rec).set.id short)

-- ---- what a line's call leaves can be printed

-- What bytes say is in width.
abbrev InWidthIf : Option ByteCall → Type 0
InWidthIf none = Unit {0}
InWidthIf (some a) = InWidth a

-- Whichever call a test picks, it is in width where both are.
either : (b : Bool) (x y : Option ByteCall) → InWidthIf x → InWidthIf y → InWidthIf (cond b x y)
either true x y p q = p
either false x y p q = q

-- A line's numbers come from bytes, so its call is one that the runs of crate runs allow.
call_in_width : (s : List ℕ) → Bytes s → InWidthIf (call_of s)
unfolding call_of start_of timer_of frame_of
call_in_width s bytes =
    either (is_kind 0 s) (start_of s) (cond (is_kind 9 s) (timer_of s) (frame_of s)) (either (eqb (length s) 13) (some starts) none (number_below 8 s 5 bytes) tt)
    (either (is_kind 9 s) (timer_of s) (frame_of s) (either (eqb (length s) 5) (some (timer (number_at 4 s 1))) none tt tt) bytes)
  where
    starts : ByteCall
    starts = start (settings_in s) (number_at 8 s 5)

-- So what a line's call writes is entries end to end, and can be printed.
pub call_well : (rec out s : List ℕ) → Bytes rec → Bytes s → LeavesWell rec out (call_left rec out (call_of s))
call_well rec out s br bs = go (call_of s) (call_in_width s bs)
  where
    go : (o : Option ByteCall) → InWidthIf o → LeavesWell rec out (call_left rec out o)
    go none low = (refl, refl)
    go (some a) low = call_leaves_well rec out a br low

-- ---- a line of fewer than five bytes is refused

-- A frame that the reader refuses is refused by the call, with some number: room and record are tested before it.
called_refused : (k : ℕ) (rec out : List ℕ) (x : Reading) (j : ℕ) → Refused j ≡ x → (i : ℕ) × (called k rec out (by.frame x) ≡ gave i rec out)
unfolding called answer
called_refused k rec out x j is = subst (λ (y : Reading). (i : ℕ) × (called k rec out (by.frame y) ≡ gave i rec out)) is (go (ltb (length out) 256) (lent_is rec))
  where
    go : (t : Bool) (l : Lent) → (i : ℕ)
        × (cond t (gave 1 rec out) (left_after rec out (on_lent l k (contents (decode_record rec)) (by.frame (Refused j)))) ≡ gave i rec out)
    go true l = (1, refl)
    go false Blank = (2, refl)
    go false Unsound = (k, refl)
    go false Sound = (j, refl)

-- Fewer than five bytes are no frame's head, so the reader refuses them.
frame_short : (rec out s : List ℕ) (link : ℕ) → length s < 5 → (i : ℕ) × (frame_left rec link s out ≡ gave i rec out)
unfolding frame_left
frame_short rec out s link short =
    let given : first (form_rows s) ≡ 0 → ⊥ = λ (e : first (form_rows s) ≡ 0). omega (arith, head_is_there s (formed s e)) in
    let n = (decode_record rec).set.n in
    let own = (decode_record rec).set.id in
    called_refused 3 rec out (read_frame s link n own) (first (form_rows s)) (by_form s link n own (first (form_rows s)) given refl)

-- So a short line prints one refusal: why a page has room for the lines of a piece (`line_share`).
pub short_refused : (rec out s : List ℕ) → length s < 5 → (i : ℕ) × (call_left rec out (call_of s) ≡ gave i rec out)
unfolding call_of frame_of
short_refused rec out s short = go (is_kind 0 s) (is_kind 9 s)
  where
    go : (t u : Bool) → (i : ℕ) × (call_left rec out (cond t (start_of s) (cond u (timer_of s) (frame_of s))) ≡ gave i rec out)
    go true u = (10, sym (start_wrong rec out s (λ (e : length s ≡ 13). omega arith)))
    go false true = (10, sym (timer_wrong rec out s (λ (e : length s ≡ 5). omega arith)))
    go false false = frame_short rec out s (get_or s 1 0) short
