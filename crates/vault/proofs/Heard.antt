-- A frame (document 01, 'Refusals, place by place', rows 9 to 17, and 'One pass'): the code's rows 16 and 17 read slots, and document
-- 01's read contents; they agree. A frame that the reader accepted, once kept, leaves a record from which a pass can run.
-- Assumes nothing.
use Prim.Native.Nat.{ℕ, ◌≤◌, ◌<◌}
use mathlib.Core.Path.{◌≡◌, refl, sym, ◌∙◌, ap, subst}
use mathlib.Core.Logic.{◌⊎◌, inl, inr}
use mathlib.Core.Bool.{Bool, true, false, cond, ◌&&◌, ◌||◌, or-false}
use mathlib.Core.List.{List}
use mathlib.Core.Option.{none, some}
use native.Mathlib.Omega.{arith}
use lib.Dec.{leb, ltb, eqb}
use lib.ListN.{length}
use borrow.Author.Tests.{le-leb, lt-leb, eqb-true, eqb-false, ltb-true, ltb-false, leb-false}
use Rattle.rules.proofs.Bools.{which}
use Rattle.rules.specs.Options.{holds}
use Rattle.wire.specs.Fields.{Bytes}
use Rattle.frame.specs.declared.Frame.{Frame}
use Rattle.frame.specs.Refusal.{Reading, Accepted, Refused}
use Rattle.frame.specs.Valid.{fits}
use Rattle.frame.specs.Refusal.{first, present, link_rows, read_frame}
use Rattle.frame.proofs.Laws.{neither}
use Rattle.settings.specs.declared.Settings.{Settings}
use Rattle.record.specs.Slots as slots
use Rattle.record.specs.Slots.{rows, frame_slot, slot_of}
use Rattle.record.specs.inside.Slots.{RowPlace}
use Rattle.record.specs.Layout.{decode_record}
use Rattle.record.specs.Size.{record_size}
use Rattle.record.specs.inside.Layout.{HoldsRecord}
use Rattle.record.specs.Kept.{frame_held, kept_in}
use Rattle.record.specs.inside.Kept.{keep_frame}
use Rattle.record.specs.inside.Keeping.{stale, outdone, keep_rows}
use Rattle.record.proofs.Forms.{fits_kind}
use Rattle.sound.specs.declared.Lent.TheVariants.{Sound}
use Rattle.sound.specs.inside.Sound.{lent_is}
use Rattle.protocol.specs.Record.{Record}
use Rattle.protocol.specs.Pass.{pass, from_a}
use Rattle.protocol.specs.Calls.{record_rows, keep, heard, frame, unless, accepted, answer}
use Rattle.protocol.specs.Fed.{Readable}
use Rattle.protocol.proofs.Sound.{Whole}
use Rattle.protocol.proofs.Went.{none_given}
use Rattle.protocol.proofs.Proper.{heard_whole}
use Rattle.protocol.proofs.Read.{accepted_readable}
use Rattle.contents.specs.Contents.{contents, contents_in}
use Rattle.contents.specs.inside.Ready.{Ready}
use Rattle.contents.specs.Calls.{left_after, frame_left}
use Rattle.contents.specs.Left.{gave}
use Rattle.contents.proofs.Kept.{contents_keep}
use Rattle.contents.proofs.Clean.{kept_at, clean_keep}
use Rattle.contents.proofs.Ready.{contents_held, ready_as, ready_allowed, ready_lent}
use Rattle.pass.specs.inside.Steps.{Room, Ran}
use Rattle.vault.specs.inside.Answers.{way_in, Read, read_left}
use Rattle.vault.proofs.Laws.{accepted_room, refused_by, accepted_by, called_lent, way_refused}

-- ---- rows 16 and 17

-- 'at or below' is below or equal.
at_or_below : (v current : ℕ) → (ltb v current || eqb v current) ≡ leb v current
at_or_below v current = go (which (ltb v current)) (which (eqb v current))
  where
    go : (ltb v current ≡ true) ⊎ (ltb v current ≡ false) → (eqb v current ≡ true) ⊎ (eqb v current ≡ false) → (ltb v current || eqb v current) ≡ leb v current
    go (inl low) e = let h : v ≤ current = omega (arith, ltb-true v current low) in rw (low, le-leb v current h)
    go (inr high) (inl e) = let h : v ≤ current = omega (arith, eqb-true v current e) in rw (high, e, le-leb v current h)
    go (inr high) (inr ne) = let h : current < v = above (ltb-false v current high) (eqb-false v current ne) in rw (high, ne, lt-leb v current h)
      where
        above : current ≤ v → (v ≡ current → ⊥) → current < v
        above low other = omega arith

-- 'view below current (kind 6: at or below)'.
stale_old : (current kind v : ℕ) → stale current kind v ≡ cond (eqb kind 6) (leb v current) (ltb v current)
unfolding stale
stale_old current kind v = go (eqb kind 6)
  where
    go : (b : Bool) → (ltb v current || (b && eqb v current)) ≡ cond b (leb v current) (ltb v current)
    go true = at_or_below v current
    go false = or-false (ltb v current)

module _ (r : slots.Record) (f : Frame) (at : RowPlace f.kind f.sender) where
  -- 'same sender and kind kept at this view or a higher one'.
  outdone_kept : outdone (slot_of r (frame_slot f.kind f.sender)) f.view
      ≡ holds (λ (g : Frame). leb f.view g.view) ((contents r).kept f.kind f.sender)
  unfolding outdone kept_in frame_held
  outdone_kept =
      go (present (slot_of r (frame_slot f.kind f.sender)))
      ∙ ap (holds (λ (g : Frame). leb f.view g.view)) (sym (kept_at r f.kind f.sender at.low at.high at.row))
    where
      go : (b : Bool) → (b && leb f.view (slot_of r (frame_slot f.kind f.sender)).view)
          ≡ holds (λ (g : Frame). leb f.view g.view) (cond b (some (frame_held (slot_of r) f.kind f.sender)) none)
      go true = refl
      go false = refl

  -- Rows 16 and 17 on slots are those on contents.
  rows_contents : first (keep_rows (slot_of r) r.view f.sender f.kind f.view) ≡ first (record_rows (contents r) f)
  unfolding contents
  rows_contents = let old = stale_old r.view f.kind f.view in λ i. cond (old i) 16 (cond (outdone_kept i) 17 0)

-- ---- a frame that the reader accepted, against the record

module _ {rec : List ℕ} {set : Settings} {f : Frame} (g : Read rec set f) where
  -- The record is one that calls leave.
  abbrev ready : Ready rec
  ready = g.held.ready

  -- The frame's body is one of its kind.
  abbrev shape : fits f.kind f.body ≡ true
  shape = g.readable.valid.shape

  -- Rows 9 and 11 leave a kind and a sender that a record has a slot for.
  pub place_of : RowPlace f.kind f.sender
  place_of =
      let (low, high) = fits_kind f.kind f.body shape in
      let given = (none_given (link_rows f.sender f.sender set.n set.id) g.readable.link).0 in
      let row = leb-false set.n f.sender (neither (leb set.n f.sender) (eqb f.sender set.id) given).0 in
      record { low = low; high = high; row = omega (arith, row, ap (λ (s : Settings). s.n) g.held.its, (ready_allowed ready).most) }

  -- What `keep` asks for.
  pub keep_requires : (fits f.kind f.body ≡ true) × (f.sender < rows) × (length rec ≡ record_size)
  keep_requires = (shape, place_of.row, ready.size)

  -- Rows 16 and 17, by the number that the code finds.
  module _ (view : ℕ) (current : view ≡ (decode_record rec).view) (k : ℕ)
      (found : k ≡ first (keep_rows (slot_of (decode_record rec)) view f.sender f.kind f.view)) where
    -- The code's number is that of rows 16 and 17 on contents.
    given : k ≡ first (record_rows (contents_in rec) f)
    given =
        found
        ∙ ap (λ (v : ℕ). first (keep_rows (slot_of (decode_record rec)) v f.sender f.kind f.view)) current
        ∙ rows_contents (decode_record rec) f place_of

    -- The code finds none: neither row is given.
    pub rows_pass : k ≡ 0 → first (record_rows (contents_in rec) f) ≡ 0
    rows_pass e = sym given ∙ e

    -- It finds one: that is the answer, record and output unchanged.
    pub rows_refused : (out : List ℕ) → (k ≡ 0 → ⊥) → gave k rec out ≡ read_left rec f out
    unfolding answer
    rows_refused out = refused_by rec out (heard (contents_in rec) f) (first (record_rows (contents_in rec) f)) k given

    -- It finds none: the frame is accepted.
    pub rows_accepted : (out : List ℕ) → k ≡ 0 → left_after rec out (accepted (heard (contents_in rec) f)) ≡ read_left rec f out
    unfolding answer
    rows_accepted out e = accepted_by rec out (heard (contents_in rec) f) (first (record_rows (contents_in rec) f)) (rows_pass e)

  -- ---- the frame is kept

  module _ (rec' : List ℕ) (holds : HoldsRecord rec' (keep_frame (decode_record rec) f.sender f)) where
    -- The bytes hold the contents with the frame kept.
    held : contents_in rec' ≡ keep f (contents_in rec)
    held = contents_held holds ∙ contents_keep (decode_record rec) f refl place_of.row shape

    -- The record is one that calls leave.
    heard_ready : Ready rec'
    unfolding contents
    heard_ready = ready_as holds (contents_keep (decode_record rec) f refl place_of.row shape)
        (clean_keep (decode_record rec) f refl ready.clean place_of.row shape) whole.sound whole.ranged
      where
        whole : Whole (keep f (contents_in rec))
        whole = heard_whole (contents_in rec) f (subst (λ (s : Settings). Readable s.n s.id f) g.held.its g.readable)
            (record { sound = ready.sound; ranged = ready.ranged })

    -- The settings are the same.
    heard_set : set ≡ (decode_record rec').set
    unfolding contents keep
    heard_set = g.held.its ∙ ap (λ (c : Record). c.set) (sym held)

    -- What `pass_from` asks for, to go from A.
    pub hear_requires : (out : List ℕ) → first (record_rows (contents_in rec) f) ≡ 0 → 256 ≤ length out
        → Ready rec' × (set ≡ (decode_record rec').set) × (0 ≤ 8) × Room (pass from_a (contents_in rec')) 0 out
    unfolding heard answer
    hear_requires out passed room = (
      heard_ready,
      heard_set,
      omega arith,
      subst (λ (c : Record). Room (pass from_a c) 0 out) (sym held)
          (accepted_room (some (contents_in rec)) (frame (Accepted f)) (heard (contents_in rec) f) out accepts room),
    )
      where
        accepts : answer (some (contents_in rec)) (frame (Accepted f)) ≡ accepted (heard (contents_in rec) f)
        accepts = ap (λ (k : ℕ). unless k (heard (contents_in rec) f)) passed

    -- With that pass run, the whole frame call has run.
    pub hear_ran : (out out' : List ℕ) (n : ℕ) (rec'' : List ℕ) → Ran (pass from_a (contents_in rec')) 0 out out' n rec''
        → Ran (heard (contents_in rec) f) 0 out out' n rec''
    unfolding heard
    hear_ran out out' n rec'' ran = subst (λ (c : Record). Ran (pass from_a c) 0 out out' n rec'') held ran

-- ---- what the reader answers on a sound record

module _ (rec bytes : List ℕ) (link : ℕ) (out : List ℕ) where
  -- The reader has the settings of the record.
  abbrev reading : Reading
  reading = read_frame bytes link (decode_record rec).set.n (decode_record rec).set.id

  module _ (sound : lent_is rec ≡ Sound) (room : 256 ≤ length out) (set : Settings) (is : set ≡ (decode_record rec).set) (x : Reading)
      (got : x ≡ read_frame bytes link set.n set.id) where
    -- The code reads with the same settings, so it gets the same answer.
    reads : x ≡ reading
    reads = got ∙ ap (λ (s : Settings). read_frame bytes link s.n s.id) is

    -- So what the call leaves is what that answer gives.
    pub frame_answered : left_after rec out (answer (some (contents_in rec)) (frame x)) ≡ frame_left rec link bytes out
    unfolding frame_left
    frame_answered =
        ap (λ (y : Reading). left_after rec out (answer (some (contents_in rec)) (frame y))) reads ∙ called_lent 3 rec out (frame reading) room Sound sound

    -- 'Each gives its number, .. record and output unchanged': the reader's refusal is passed on.
    pub read_refused : (k : ℕ) → x ≡ Refused k → gave k rec out ≡ frame_left rec link bytes out
    unfolding answer
    read_refused k e =
        ap (λ (y : Reading). left_after rec out (answer (some (contents_in rec)) (frame y))) (sym e) ∙ frame_answered

    -- An accepted frame goes on against the record.
    pub read_accepted : (f : Frame) → x ≡ Accepted f → read_left rec f out ≡ frame_left rec link bytes out
    read_accepted f e = ap (λ (y : Reading). left_after rec out (answer (some (contents_in rec)) (frame y))) (sym e) ∙ frame_answered

    -- What `frame_read` asks for: a sound record, and a frame that its reader accepted.
    pub read_then : Bytes rec → Bytes bytes → (f : Frame) → x ≡ Accepted f → Read rec set f
    read_then lent known f e = record {
      held = record { ready = ready_lent rec lent sound; its = is };
      readable = (accepted_readable bytes link set.n set.id f known (sym got ∙ e)).1;
    }

-- ---- the way in

-- Refusals 1 to 3: the number is the answer, record and output unchanged.
pub frame_refused : (rec : List ℕ) (link : ℕ) (bytes out : List ℕ) (k : ℕ) → k ≡ way_in rec (length out) → (k ≡ 0 → ⊥)
    → gave k rec out ≡ frame_left rec link bytes out
unfolding frame_left answer
frame_refused rec link bytes out k way = way_refused rec out k way (frame (reading rec bytes link out)) refl
