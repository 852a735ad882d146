-- One call on bytes is one call by contents. Where a vault's bytes spell contents, a call that is not refused is the accepted call
-- by contents that its bytes say (`carried`), and what it leaves spells the contents that this leaves, with output bytes that read
-- as its entries (`left_well`). Of the layout this uses that it loses nothing (`call_fine`, `fine_spells` of contents).
-- Assumes nothing.
use Prim.Native.Nat.{ℕ, ◌+◌, ◌≤◌}
use mathlib.Core.Path.{◌≡◌, refl, ◌∙◌, ap, subst}
use mathlib.Core.Logic.{◌⊎◌, inl, inr}
use mathlib.Core.Bool.{Bool, true, false, cond}
use mathlib.Core.List.{List}
use mathlib.Core.Option.{Option, none, some}
use lib.Dec.{ltb}
use borrow.Author.Tests.{ltb-false}
use lib.ListN.{length, take, drop}
use lib.Seq.{take_at}
use Rattle.wire.specs.Fields.{Bytes}
use Rattle.wire.specs.Placed.{placed}
use Rattle.frame.specs.Refusal.{Reading, Accepted, Refused}
use Rattle.frame.specs.Refusal.{read_frame}
use Rattle.entry.specs.declared.Entry.{Entry}
use Rattle.entry.specs.Layout.{layout}
use Rattle.entry.specs.Valid.{AllValid}
use Rattle.entry.specs.Reading.{entries_of}
use Rattle.entry.proofs.Theorems.{entries_read_back}
use Rattle.record.specs.Layout.{decode_record}
use Rattle.sound.specs.inside.Sound.{lent_is}
use Rattle.protocol.specs.Record.{Record}
use Rattle.protocol.specs.Pass.{Out}
use Rattle.protocol.specs.Calls as by
use Rattle.protocol.specs.Calls.{Answer, refused, accepted, answer}
use Rattle.protocol.specs.Fed.{Readable, Fed}
use Rattle.protocol.proofs.Read.{accepted_readable}
use Rattle.protocol.proofs.Proper.{call_proper}
use Rattle.contents.specs.Contents.{contents}
use Rattle.contents.specs.Calls.{left_after, on_lent, called, start_left, frame_left, timer_left}
use Rattle.contents.specs.Left.{Left, gave}
use Rattle.contents.specs.Spelling.{HoldsContents, Spells}
use Rattle.contents.proofs.Spelling.{Fine, call_fine, fine_spells, on_spelled, called_room}
use Rattle.runs.specs.Runs.{ByteCall, start, frame, timer, InWidth, record_in, entries_in}
use Rattle.runs.specs.Fixed.{leaves}

-- ---- the call that bytes say

-- The call by contents: a frame's bytes are read with the n and the number in the record.
abbrev pub said : List ℕ → ByteCall → by.Call
said rec (start set plan) = by.start set plan
said rec (frame link bytes) = by.frame (read_frame bytes link (decode_record rec).set.n (decode_record rec).set.id)
said rec (timer view) = by.timer view

-- A call by contents was refused, with record and output unchanged, or accepted, with what `left_after` says.
abbrev pub Comes : List ℕ → List ℕ → Option Record → by.Call → Left → Type 0
Comes rec out b a left =
    ((k : ℕ) × (left ≡ gave k rec out)) ⊎ ((o : Out) × (256 ≤ length out) × (answer b a ≡ accepted o) × (left ≡ left_after rec out (accepted o)))

-- A call on bytes that spell something is refused or accepted as the call by contents is.
called_comes : (k : ℕ) (rec out : List ℕ) (b : Option Record) (a : by.Call) → Spells rec b → Comes rec out b a (called k rec out a)
unfolding called
called_comes k rec out b a h = go (ltb (length out) 256) (answer b a) refl refl (on_spelled k rec b a h)
  where
    go : (t : Bool) (u : Answer) → ltb (length out) 256 ≡ t → answer b a ≡ u → on_lent (lent_is rec) k (contents (decode_record rec)) a ≡ answer b a
        → Comes rec out b a (cond t (gave 1 rec out) (left_after rec out (on_lent (lent_is rec) k (contents (decode_record rec)) a)))
    go true u room is e = inl (1, refl)
    go false (refused number) room is e = inl (number, ap (left_after rec out) (e ∙ is))
    go false (accepted o) room is e = inr (o, ltb-false (length out) 256 room, is, ap (left_after rec out) (e ∙ is))

-- A call on bytes that hold contents comes to a call on the contents.
pub carried : (rec out : List ℕ) (b : Option Record) (a : ByteCall) → Spells rec b → Comes rec out b (said rec a) (leaves rec a out)
unfolding start_left frame_left timer_left
carried rec out b (start set plan) h = called_comes 4 rec out b (said rec (start set plan)) h
carried rec out b (frame link bytes) h = called_comes 3 rec out b (said rec (frame link bytes)) h
carried rec out b (timer view) h = called_comes 3 rec out b (said rec (timer view)) h

-- Where there is room, it comes to what the call on contents answers.
pub leaves_room : (rec out : List ℕ) (b : Option Record) (a : ByteCall) → Spells rec b → 256 ≤ length out
    → leaves rec a out ≡ left_after rec out (answer b (said rec a))
unfolding start_left frame_left timer_left
leaves_room rec out b (start set plan) h room = called_room 4 rec out b (said rec (start set plan)) h room
leaves_room rec out b (frame link bytes) h room = called_room 3 rec out b (said rec (frame link bytes)) h room
leaves_room rec out b (timer view) h room = called_room 3 rec out b (said rec (timer view)) h room

-- The frame reader of a vault has the n and the number that its bytes spell.
pub said_frame : (rec : List ℕ) (r : Record) (link : ℕ) (bytes : List ℕ) → HoldsContents rec r
    → said rec (frame link bytes) ≡ by.frame (read_frame bytes link r.set.n r.set.id)
unfolding contents
said_frame rec r link bytes h = ap (λ (z : Record). by.frame (read_frame bytes link z.set.n z.set.id)) h.holds

-- ---- what a call brings

-- A frame that the reader accepted is one that the contents let it accept.
read_said : (rec : List ℕ) (r : Record) (link : ℕ) (bytes : List ℕ) → HoldsContents rec r → Bytes bytes → (y : Reading)
    → read_frame bytes link (decode_record rec).set.n (decode_record rec).set.id ≡ y → Fed (some r) (by.frame y)
unfolding contents
read_said rec r link bytes h low (Refused k) read = tt
read_said rec r link bytes h low (Accepted x) read =
    let n_is : (decode_record rec).set.n ≡ r.set.n = ap (λ (z : Record). z.set.n) h.holds in
    let id_is : (decode_record rec).set.id ≡ r.set.id = ap (λ (z : Record). z.set.id) h.holds in
    let can = (accepted_readable bytes link (decode_record rec).set.n (decode_record rec).set.id x low read).1 in
    subst (λ (k : ℕ). Readable k r.set.id x) n_is (subst (λ (k : ℕ). Readable (decode_record rec).set.n k x) id_is can)

-- A call whose numbers have their widths feeds the call on contents.
pub fed_said : (rec : List ℕ) (b : Option Record) (a : ByteCall) → Spells rec b → InWidth a → Fed b (said rec a)
fed_said rec b (start set plan) h low = low
fed_said rec none (frame link bytes) h low = tt
fed_said rec (some r) (frame link bytes) h low =
    read_said rec r link bytes h low (read_frame bytes link (decode_record rec).set.n (decode_record rec).set.id) refl
fed_said rec none (timer view) h low = tt
fed_said rec (some r) (timer view) h low = tt

-- ---- what is left

-- Bytes put at the start of an output are its first ones.
pub placed_take : (out bytes : List ℕ) → take (length bytes) (placed out 0 bytes) ≡ bytes
unfolding placed
placed_take out bytes = take_at bytes (drop (0 + length bytes) out) (length bytes) refl

-- The written bytes of an output read as the entries written.
pub read_back : (out : List ℕ) (es : List Entry) → AllValid es → entries_of (take (length (layout es)) (placed out 0 (layout es))) ≡ es
read_back out es valid = ap entries_of (placed_take out (layout es)) ∙ entries_read_back es valid

-- What an accepted call leaves: bytes that hold the new contents, and an output that says its entries.
pub record LeftWell (rec out : List ℕ) (o : Out) : Type 0 where
  pub fine : Fine o.left
  pub held : Spells (record_in (left_after rec out (accepted o))) (some o.left)
  pub entries : entries_in (left_after rec out (accepted o)) ≡ o.wrote
  pub valid : AllValid o.wrote
  pub short : length (layout o.wrote) ≤ 256

-- Every accepted call on contents that a vault may have leaves that.
pub left_well : (rec out : List ℕ) (b : Option Record) (a : by.Call) → ((r : Record) → b ≡ some r → Fine r) → Fed b a
    → (o : Out) → answer b a ≡ accepted o → LeftWell rec out o
left_well rec out b a fine fed o is =
    let proper = call_proper b a (λ r e. ((fine r e).sound, (fine r e).ranged)) fed o is in
    let left = call_fine b a fine fed o is in
    record {
      fine = left;
      held = fine_spells o.left left;
      entries = read_back out o.wrote proper.valid;
      valid = proper.valid;
      short = proper.fits;
    }
