-- Entries written one after the other, and parts of a pass run one after the other (document 01, 'Entries lie end to end'; 'One pass').
-- Assumes nothing.
use Prim.Native.Nat.{ℕ, ◌+◌, ◌≤◌, ◌<◌}
use mathlib.Core.Path.{◌≡◌, refl, sym, ◌∙◌, ap, subst}
use mathlib.Core.List.{List, [], ◌∷◌, ◌++◌, append_assoc}
use mathlib.Core.Bool.{true}
use mathlib.Core.Option.{Option, some}
use native.Mathlib.Omega.{arith}
use native.Mathlib.Nat.{add-zero}
use lib.ListN.{length, get_or, length-append}
use Rattle.wire.specs.Placed.{placed}
use Rattle.wire.proofs.Output.{placed_none, placed_more, length_placed}
use Rattle.frame.specs.declared.Frame.{Frame}
use Rattle.frame.specs.Valid.{fits}
use Rattle.entry.specs.declared.Entry.{Entry}
use Rattle.entry.specs.Layout.{entry_bytes, layout}
use Rattle.entry.proofs.Theorems.{layout_more}
use Rattle.record.specs.Slots as slots
use Rattle.record.specs.Layout.{decode_record}
use Rattle.record.specs.inside.Layout.{HoldsRecord}
use Rattle.record.specs.inside.Kept.{keep_frame}
use Rattle.own.specs.Part.{over}
use Rattle.own.specs.inside.Own.{heard_in, OwnOf}
use Rattle.protocol.specs.Record.{Record}
use Rattle.protocol.specs.Pass.{Act, ask, Out, Step, taken, onward, pass}
use Rattle.contents.specs.Contents.{contents_in}
use Rattle.contents.specs.inside.Ready.{Ready}
use Rattle.contents.proofs.Ready.{contents_held, ready_allowed}
use Rattle.steps.specs.declared.Entries.{Entries}
use Rattle.steps.specs.declared.Entries.TheVariants.{Sent}
use Rattle.steps.specs.inside.Steps.{list_of, changes}
use Rattle.acts.specs.inside.Acts.{act_at}
use Rattle.steps.specs.inside.Own.{Did, Takes}
use Rattle.steps.specs.inside.Order.{step_at}
use Rattle.steps.proofs.Steps.{did_ask, step_by, ready_step}
use Rattle.pass.specs.inside.Steps.{Room, Due, Ran}

-- ---- entries

-- Some entries lie from a place on: where they end, and the output.
abbrev pub EntriesPut : ℕ → List ℕ → List Entry → ℕ → List ℕ → Type 0
EntriesPut at o es next o' = (next ≡ at + length (layout es)) × (o' ≡ placed o at (layout es))

-- One entry is put.
abbrev pub EntryPut : ℕ → List ℕ → Entry → ℕ → List ℕ → Type 0
EntryPut at o e next o' = (next ≡ at + length (entry_bytes e)) × (o' ≡ placed o at (entry_bytes e))

-- Entries with one more at their end are longer by that one.
length_more : (es : List Entry) (e : Entry) → length (layout (es ++ (e ∷ []))) ≡ length (layout es) + length (entry_bytes e)
length_more [] e = omega (arith, length-append (entry_bytes e) [])
length_more (x ∷ es) e =
    omega (arith, length-append (entry_bytes x) (layout (es ++ (e ∷ []))), length-append (entry_bytes x) (layout es), length_more es e)

module _ (at : ℕ) (o : List ℕ) (low : at ≤ length o) where
  -- No entries are written yet.
  wrote_none : EntriesPut at o [] at o
  wrote_none = (sym (add-zero at), sym (placed_none o at))

  -- One more is put where they end.
  wrote_more : (es : List Entry) (e : Entry) {n m : ℕ} {o' o'' : List ℕ} → EntriesPut at o es n o' → EntryPut n o' e m o''
      → EntriesPut at o (es ++ (e ∷ [])) m o''
  wrote_more es e (n, p) (m, q) =
      (omega (arith, n, m, length_more es e), q ∙ (λ i. placed (p i) (n i) (entry_bytes e)) ∙ layout_more o at es e low)

module _ (e : Entries) (at : ℕ) (o : List ℕ) (room : at + length (layout (list_of e)) ≤ length o) where
  -- Room for the entries: so the place is within the output.
  low : at ≤ length o
  low = omega (arith, room)

  -- The entries of the code's enum, told as a list.
  as_listed : (es : List Entry) → list_of e ≡ es → {n : ℕ} {o' : List ℕ} → EntriesPut at o es n o' → EntriesPut at o (list_of e) n o'
  as_listed es is {n} {o'} = subst (λ (fs : List Entry). EntriesPut at o fs n o') (sym is)

  -- The four shapes of what a step writes: none,
  pub wrote_zero : list_of e ≡ [] → EntriesPut at o (list_of e) at o
  wrote_zero is = as_listed [] is (wrote_none at o low)

  module _ (a : Entry) {n : ℕ} {p : List ℕ} (one : EntryPut at o a n p) where
    -- one entry,
    pub wrote_one : list_of e ≡ a ∷ [] → EntriesPut at o (list_of e) n p
    wrote_one is = as_listed (a ∷ []) is (wrote_more at o low [] a (wrote_none at o low) one)

    module _ (b : Entry) {m : ℕ} {q : List ℕ} (two : EntryPut n p b m q) where
      -- two, where the vault leads the view that it enters,
      pub wrote_two : list_of e ≡ a ∷ b ∷ [] → EntriesPut at o (list_of e) m q
      wrote_two is = as_listed (a ∷ b ∷ []) is (wrote_more at o low (a ∷ []) b (wrote_more at o low [] a (wrote_none at o low) one) two)

      -- three, where it does not.
      pub wrote_three : (c : Entry) {k : ℕ} {s : List ℕ} → EntryPut m q c k s → list_of e ≡ a ∷ b ∷ c ∷ [] → EntriesPut at o (list_of e) k s
      wrote_three c three is =
          as_listed (a ∷ b ∷ c ∷ []) is (wrote_more at o low (a ∷ b ∷ []) c
          (wrote_more at o low (a ∷ []) b (wrote_more at o low [] a (wrote_none at o low) one) two) three)

-- The size of one entry: the room that writing it takes.
pub size_one : (e : Entries) (a : Entry) → list_of e ≡ a ∷ [] → length (layout (list_of e)) ≡ length (entry_bytes a)
size_one e a is = ap (λ (es : List Entry). length (layout es)) is ∙ omega (arith, length_more [] a)

-- The size of two.
pub size_two : (e : Entries) (a b : Entry) → list_of e ≡ a ∷ b ∷ [] → length (layout (list_of e)) ≡ length (entry_bytes a) + length (entry_bytes b)
size_two e a b is = ap (λ (es : List Entry). length (layout es)) is ∙ omega (arith, length_more (a ∷ []) b, length_more [] a)

-- The size of three.
pub size_three : (e : Entries) (a b c : Entry) → list_of e ≡ a ∷ b ∷ c ∷ []
    → length (layout (list_of e)) ≡ length (entry_bytes a) + length (entry_bytes b) + length (entry_bytes c)
size_three e a b c is =
    ap (λ (es : List Entry). length (layout es)) is ∙ omega (arith, length_more (a ∷ b ∷ []) c, length_more (a ∷ []) b, length_more [] a)

-- ---- what an act or a step leaves, with its entries written

module _ (o : Out) (e : Entries) (wrote : list_of e ≡ o.wrote) (at : ℕ) (out : List ℕ) where
  -- The entries have the room that the act's have.
  pub room_written : Room o at out → at + length (layout (list_of e)) ≤ length out
  room_written = subst (λ (es : List Entry). at + length (layout es) ≤ length out) (sym wrote)

  -- The record left and the entries written are what the act leaves: the step has run.
  pub ran_written : {rec : List ℕ} {n : ℕ} {after : List ℕ} → contents_in rec ≡ o.left → Ready rec → EntriesPut at out (list_of e) n after
      → Ran o at out after n rec
  ran_written left ready (count, bytes) = record {
    left = left;
    ready = ready;
    count = count ∙ ap (λ (es : List Entry). at + length (layout es)) wrote;
    bytes = bytes ∙ ap (λ (es : List Entry). placed out at (layout es)) wrote;
  }

-- With the own part put back and the entries written, an act has run on the lent bytes.
pub ran_stored : (o : Out) (e : Entries) {r : slots.Record} → Did o r e → (at : ℕ) (out : List ℕ) {rec : List ℕ} {n : ℕ} {after : List ℕ}
    → HoldsRecord rec r → Ready rec → EntriesPut at out (list_of e) n after → Ran o at out after n rec
ran_stored o e did at out held ready = ran_written o e did.wrote at out (contents_held held ∙ did.left) ready

module _ (k : ℕ) {a : Option Act} (rec : List ℕ) {id : ℕ} (due : Due k a rec id) {s : List ℕ} (own : OwnOf rec s) (t : List ℕ) {e : Entries}
    (step : Takes (act_at k) (step_at k) a s t e) where
  -- A step on the own part of a record, which asks for its act, is done.
  pub did_step : Did (step_at k (contents_in rec)) (over (heard_in rec) t) e
  did_step = step.took rec due.ready own due.is

  -- So its act is.
  pub did_act : Did (taken (contents_in rec) a) (over (heard_in rec) t) e
  did_act = subst (λ (o : Out). Did o (over (heard_in rec) t) e) (step_by k (contents_in rec) ∙ ap (taken (contents_in rec)) (sym due.is)) did_step

  -- Its entries have room.
  pub room_taken : (at : ℕ) (out : List ℕ) → Room (step_at k (contents_in rec)) at out → at + length (layout (list_of e)) ≤ length out
  room_taken at out = room_written (step_at k (contents_in rec)) e did_step.wrote at out

  -- With the own part put back and the entries written, it has run on the lent bytes.
  pub ran_step : (at : ℕ) (out : List ℕ) {left : List ℕ} {n : ℕ} {after : List ℕ} → HoldsRecord left (over (heard_in rec) t) → EntriesPut at out
      (list_of e) n after
      → Ran (step_at k (contents_in rec)) at out after n left
  ran_step at out held = ran_stored (step_at k (contents_in rec)) e did_step at out held (ready_step k due.low due.ready did_step held)

-- A record that calls leave has vaults, and its own part says so.
pub some_own : (rec : List ℕ) {s : List ℕ} → Ready rec → OwnOf rec s → 0 < get_or s 0 0
unfolding over
some_own rec h own = subst (λ (n : ℕ). 0 < n) (sym (ap (λ (x : slots.Record). x.set.n) own.is)) (omega (arith, (ready_allowed h).own))

-- The timer's view-change is a frame that may be kept,
pub change_fits : {id w : ℕ} {f : Frame} → f ≡ changes id w → (fits f.kind f.body ≡ true) × (f.kind ≤ 6)
change_fits is = (subst (λ (g : Frame). fits g.kind g.body ≡ true) (sym is) refl, subst (λ (g : Frame). g.kind ≤ 6) (sym is) (omega arith))

-- and kept where the record lies it is the act of asking.
pub ask_for : (rec : List ℕ) → Ready rec → {id w : ℕ} {f : Frame} → id ≡ (decode_record rec).set.id → f ≡ changes id w
    → Did (taken (contents_in rec) (some (ask w))) (keep_frame (decode_record rec) id f) (Sent f)
ask_for rec h {id} {w} own is =
    subst (λ (g : Frame). Did (taken (contents_in rec) (some (ask w))) (keep_frame (decode_record rec) id g) (Sent g)) (sym is) (did_ask rec h own refl)

-- Where there is nothing to do, nothing is written.
pub ran_nothing : (o : Out) (at : ℕ) (out rec : List ℕ) → o ≡ record { left = contents_in rec; wrote = [] } → Ready rec → Ran o at out out at rec
ran_nothing o at out rec e ready =
    subst (λ (u : Out). Ran u at out out at rec) (sym e)
    (record { left = refl; ready = ready; count = sym (add-zero at); bytes = sym (placed_none out at) })

-- ---- one part of a pass after the other

-- Two lists of entries end to end lie as one list does.
layout_append : (es fs : List Entry) → layout (es ++ fs) ≡ layout es ++ layout fs
layout_append [] fs = refl
layout_append (e ∷ es) fs = rw (append_assoc, layout_append es fs)

-- So their room is the sum of both.
length_join : (es fs : List Entry) → length (layout (es ++ fs)) ≡ length (layout es) + length (layout fs)
length_join es fs = ap length (layout_append es fs) ∙ length-append (layout es) (layout fs)

-- What an act or a step leaves, and then the steps of a list.
abbrev pub joined : Out → List Step → Out
joined o rest = onward o.wrote (pass rest o.left)

module _ (o : Out) (rest : List Step) (at : ℕ) (out : List ℕ) where
  -- The room of the whole is that of the first part and that of the rest.
  size : length (layout (joined o rest).wrote) ≡ length (layout o.wrote) + length (layout (pass rest o.left).wrote)
  size = length_join o.wrote (pass rest o.left).wrote

  -- Room for the whole is room for the first part.
  pub room_first : Room (joined o rest) at out → Room o at out
  room_first room = omega (arith, room, size)

  module _ (room : Room (joined o rest) at out) {out' : List ℕ} {n : ℕ} {rec : List ℕ} (one : Ran o at out out' n rec) where
    -- The output keeps its size.
    pub size_next : length out' ≡ length out
    size_next = ap length one.bytes ∙ length_placed out at (layout o.wrote) (room_first room)

    -- Behind the first part there is room for the rest.
    pub room_next : Room (pass rest (contents_in rec)) n out'
    room_next = subst (λ (x : Record). Room (pass rest x) n out') (sym one.left) (omega (arith, room, size, one.count, size_next))

    -- The first part run, and the rest run from where it ended: the whole has run.
    pub ran_join : {out'' : List ℕ} {m : ℕ} {left : List ℕ} → Ran (pass rest (contents_in rec)) n out' out'' m left
        → Ran (joined o rest) at out out'' m left
    ran_join {out''} {m} {left} two =
        let low : at ≤ length out = omega (arith, room) in
        record {
          left = next.left;
          ready = next.ready;
          count = omega (arith, next.count, one.count, size);
          bytes = next.bytes ∙ (λ i. placed (one.bytes i) (one.count i) more)
              ∙ placed_more out at (layout o.wrote) more low
              ∙ ap (placed out at) (sym (layout_append o.wrote (pass rest o.left).wrote));
        }
      where
        more : List ℕ
        more = layout (pass rest o.left).wrote

        next : Ran (pass rest o.left) n out' out'' m left
        next = subst (λ (x : Record). Ran (pass rest x) n out' out'' m left) one.left two
