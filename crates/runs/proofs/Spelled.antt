-- Every run by contents whose starts bring 64-bit plans is a run over bytes, in which each vault writes the same and its bytes spell
-- its record (`run_spelled`; document 01, 'Runs, as demand 3 means them'). By induction over the list: a refused call is one without output
-- space, an accepted one is made on the bytes, with 256 bytes of output. Its frame's own bytes are read as that frame, by the run's n
-- and the vault's number, what it leaves spells what the call by contents leaves (`left_well`), and its remnant is stored. A cut leaves
-- zeros, and a restart is made with the remnant.
-- Assumes nothing.
use Prim.Native.Nat.{ℕ, ◌≤◌}
use mathlib.Core.Path.{◌≡◌, refl, sym, ◌∙◌, ap, subst}
use mathlib.Core.Logic.{⊎_elim}
use mathlib.Core.Bool.{true, cond}
use mathlib.Core.List.{List, [], ◌∷◌, ◌++◌}
use mathlib.Core.Option.{Option, none, some}
use native.Mathlib.Omega.{arith}
use lib.ListN.{length, take, replicate, length-replicate}
use borrow.Author.Tests.{eqb-true}
use Rattle.rules.proofs.Bools.{either}
use Rattle.rules.proofs.Reports.{none≢some}
use Rattle.rules.specs.Sets.{Vaults}
use Rattle.wire.specs.Placed.{placed}
use Rattle.frame.specs.Refusal.{Accepted, Refused}
use Rattle.frame.specs.Format.{encode}
use Rattle.frame.specs.Refusal.{read_frame}
use Rattle.frame.proofs.Theorems.{encoded_bytes}
use Rattle.entry.specs.declared.Entry.{Entry}
use Rattle.record.specs.Slots as slots
use Rattle.record.specs.Layout.{encode_record, decode_record}
use Rattle.sound.specs.declared.Lent.TheVariants.{Blank, Sound}
use Rattle.sound.specs.inside.Sound.{lent_is}
use Rattle.protocol.specs.Record.{Record}
use Rattle.protocol.specs.Pass.{Out}
use Rattle.protocol.specs.Calls as by
use Rattle.protocol.specs.Calls.{Answer, refused, accepted, answer}
use Rattle.protocol.specs.Alone.{alone, restarted}
use Rattle.protocol.specs.inside.Runs as model
use Rattle.protocol.specs.ReadsBack.{IsFor}
use Rattle.protocol.proofs.Read.{readable_accepted}
use Rattle.protocol.proofs.Good.{any_seed}
use Rattle.protocol.proofs.Demand.{Inv, invariant}
use Rattle.protocol.proofs.Lasting.{Brings, Carries, Wide, feeds}
use Rattle.protocol.proofs.Scripts.{is_back, has_back}
use Rattle.contents.specs.Contents.{slotted}
use Rattle.contents.specs.Calls.{left_after, called, timer_left}
use Rattle.contents.specs.Left.{Left, gave}
use Rattle.contents.specs.Spelling.{Spells}
use Rattle.own.specs.Size.{remnant_size}
use Rattle.own.specs.Part.{remnant_of}
use Rattle.contents.specs.Remnant.{restart_left}
use Rattle.contents.proofs.Lent.{blank_is_lent}
use Rattle.contents.proofs.Sound.{decoded_back}
use Rattle.contents.proofs.Spelling.{Fine, fine_spells, loses_nothing}
use Rattle.own.proofs.Stored.{remnant_length}
use Rattle.contents.proofs.Remnant.{alone_fine, sound_written, fine_restarts_room}
use Rattle.runs.specs.Runs.{ByteCall, start, frame, timer, InWidth, Event, made, cut, returned, Item, record_in, entries_in, is_accepted}
use Rattle.runs.specs.Runs.{record_after, entries_after, stored_after, Setting, Stores, record_at, stored_at, written, Fair, Ruled, Run, nothing_yet, and_then}
use Rattle.runs.specs.Fixed.{leaves}
use Rattle.runs.specs.Five.{Fixed}
use Rattle.runs.specs.Shown.{Restarts, here, before}
use Rattle.runs.proofs.Carry.{said, leaves_room, said_frame, placed_take, LeftWell, left_well}
use Rattle.runs.proofs.Demand.{put_six, never, Remnant}

-- ---- calls

-- The call on bytes; one that is refused by contents whatever the record stands for no call.
abbrev spell : by.Call → ByteCall
spell (by.start s p) = start s p
spell (by.frame (Accepted x)) = frame x.sender (encode x)
spell (by.frame (Refused k)) = timer 0
spell (by.timer v) = timer v
spell by.short = timer 0

-- Output space.
abbrev space : List ℕ
space = replicate 256 0

-- The space passes refusal 1.
room : 256 ≤ length space
room = omega (arith, length-replicate {A = ℕ} 256 0)

-- The remnant of a sound record can be stored.
pub sound_stores : (rec : List ℕ) → lent_is rec ≡ Sound → Stores Fixed rec (remnant_of (decode_record rec))
sound_stores rec sound = record {
  out = space;
  left = placed space 0 (remnant_of (decode_record rec));
  count = remnant_size;
  room = omega (arith, room);
  ruled = sym (sound_written rec space sound (omega (arith, room)));
  is = sym (placed_take space (remnant_of (decode_record rec)))
      ∙ ap (λ (n : ℕ). take n (placed space 0 (remnant_of (decode_record rec)))) (remnant_length (decode_record rec));
}

module _ (c : model.ContentsSetting) where
  -- The same vaults, with blank bytes at first.
  abbrev pub spelled : Setting
  spelled = record {
    vaults = c.vaults;
    keeps = c.keeps;
    most = c.most;
    first = λ i. loses_nothing.blank.0;
    blank = λ i keeps. (blank_is_lent loses_nothing.blank.0).1 loses_nothing.blank.1.1;
  }

  -- A vault's bytes, stored bytes and entries in the run over bytes, and its record, stored record and entries in the run by contents.
  pub record Same (rec : List ℕ) (b : Option Record) (s : Option (List ℕ)) (t : Option Record) (es fs : List Entry) : Type 0 where
    pub spells : Spells rec b
    pub fine : (r : Record) → b ≡ some r → Fine r
    pub stored : Remnant s t
    pub fine_stored : (r : Record) → t ≡ some r → Fine r
    pub agree : es ≡ fs

  -- A run over bytes in which each vault writes the same, its bytes spell its record, and it restarts where it does by contents.
  pub record Spelled (l : List model.ContentsItem) : Type 0 where
    pub items : List Item
    pub run : Run spelled Fixed items
    pub same : (i : ℕ) → Same (record_at spelled items i) (model.record_at l i) (stored_at items i) (model.stored_at l i) (written items i) (model.written l i)
    pub backs : (i : ℕ) → has_back i l ≡ true → Restarts i items

  -- The empty run, with all records blank.
  spelled_none : Spelled []
  unfolding record_at stored_at written model.record_at model.stored_at model.written
  spelled_none = record {
    items = [];
    run = nothing_yet;
    same = λ i. record {
      spells = loses_nothing.blank.1.1;
      fine = λ r e. absurd (none≢some e);
      stored = tt;
      fine_stored = λ r e. absurd (none≢some e);
      agree = refl;
    };
    backs = λ i e. let z : ◌≡◌ {A = ℕ} 0 1 = cc in absurd (omega arith);
  }

  -- ---- an accepted call

  module _ {l : List model.ContentsItem} (v : Spelled l) (inv : Inv c (λ p. Unit {0}) l) (i : ℕ) where
    -- The bytes of vault i.
    abbrev rec : List ℕ
    rec = record_at spelled v.items i

    -- The bytes of the call say it.
    says_it : (a : by.Call) (b : Option Record) → model.record_at l i ≡ b → Spells rec b → model.Fair c l i a → (o : Out) → answer b a ≡ accepted o
        → said rec (spell a) ≡ a
    unfolding answer
    says_it (by.start s p) b at spells fair o is = refl
    says_it (by.timer w) b at spells fair o is = refl
    says_it (by.frame (Refused k)) none at spells fair o is = never is
    says_it (by.frame (Refused k)) (some r) at spells fair o is = never is
    says_it (by.frame (Accepted x)) none at spells fair o is = never is
    says_it (by.frame (Accepted x)) (some r) at spells fair o is =
        let (id, third, good) = inv.good i r at in
        let n = ap (λ (vs : Vaults). vs.n) good.vaults in
        said_frame rec r x.sender (encode x) spells
        ∙ ap (λ (k : ℕ). by.frame (read_frame (encode x) x.sender k r.set.id)) n
        ∙ ap (λ (k : ℕ). by.frame (read_frame (encode x) x.sender c.vaults.n k)) id
        ∙ ap by.frame (readable_accepted c.vaults.n i x fair.0)
    says_it by.short none at spells fair o is = never is
    says_it by.short (some r) at spells fair o is = never is

    -- The plan is 64 bits wide, and a frame's bytes are bytes.
    spell_width : (a : by.Call) → Brings a → InWidth (spell a)
    spell_width (by.start s p) low = low
    spell_width (by.timer w) low = tt
    spell_width (by.frame (Refused k)) low = tt
    spell_width (by.frame (Accepted x)) low = encoded_bytes x
    spell_width by.short low = tt

    -- Where no record is stored no bytes are.
    nothing : model.stored_at l i ≡ none → stored_at v.items i ≡ none
    nothing empty = go (stored_at v.items i) (model.stored_at l i) empty (v.same i).stored
      where
        go : (s : Option (List ℕ)) (t : Option Record) → t ≡ none → Remnant s t → s ≡ none
        go none t e is = refl
        go (some s) none e is = absurd is
        go (some s) (some r) e is = absurd (none≢some (sym e))

    -- The call is one that the run over bytes lets come: a frame that was sent there was sent here.
    spell_fair : (a : by.Call) (left : Left) → model.Fair c l i a → (o : Out) → answer (model.record_at l i) a ≡ accepted o
        → Fair spelled v.items i (spell a) left
    spell_fair (by.start s p) left fair o is = λ went. let (vaults, id, empty) = fair o is in (vaults, id, nothing empty)
    spell_fair (by.timer w) left fair o is = tt
    spell_fair (by.frame (Refused k)) left fair o is = tt
    spell_fair (by.frame (Accepted x)) left fair o is =
        λ keeps. (x, refl, subst (IsFor i x) (sym (v.same x.sender).agree) (fair.1 keeps))
    spell_fair by.short left fair o is = tt

  -- ---- one more item

  module _ {l : List model.ContentsItem} (v : Spelled l) (i : ℕ) where
    abbrev bytes : List ℕ
    bytes = record_at spelled v.items i

    abbrev b : Option Record
    b = model.record_at l i

    abbrev t : Option Record
    t = model.stored_at l i

    -- What vault i has and wrote, after an item, is the same in both.
    abbrev Now : Event → model.Event → Type 0
    Now x y = Same (record_after x) (model.record_next b y) (stored_after x (stored_at v.items i)) (model.stored_next b t y)
        (written v.items i ++ entries_after x) (model.written l i ++ model.wrote_next b y)

    -- One more item, from what it does at its vault.
    spelled_next : (x : Event) (y : model.Event) → c.keeps i ≡ true → Ruled spelled Fixed v.items i x → Now x y
        → ((j : ℕ) → is_back j (record { at = i; event = y }) ≡ true → Restarts j (record { at = i; event = x } ∷ v.items))
        → Spelled (record { at = i; event = y } ∷ l)
    unfolding record_at stored_at written model.record_at model.stored_at model.written
    spelled_next x y keeps ruled new back = record {
      items = record { at = i; event = x } ∷ v.items;
      run = and_then v.run keeps ruled;
      same = put_six (λ j. Same) i (record_at spelled v.items) (model.record_at l) (stored_at v.items) (model.stored_at l) (written v.items)
          (model.written l) new v.same;
      backs = λ j e. ⊎_elim (back j) (λ old. before (v.backs j old)) (either (is_back j (record { at = i; event = y })) (has_back j l) e);
    }

    -- A call is no restart.
    not_back : {A : Type 0} (a : by.Call) (j : ℕ) → is_back j (record { at = i; event = model.made a }) ≡ true → A
    not_back a j e = let z : ◌≡◌ {A = ℕ} 0 1 = cc in absurd (omega arith)

    -- A refused call is one without output space.
    spelled_refused : (a : by.Call) (k : ℕ) → answer b a ≡ refused k → c.keeps i ≡ true → Spelled (record { at = i; event = model.made a } ∷ l)
    unfolding timer_left called
    spelled_refused a k is keeps =
        spelled_next (made (timer 0) [] (gave 1 bytes []) []) (model.made a) keeps
        (tt, refl, tt, λ went. let z : ◌≡◌ {A = ℕ} 0 1 = cc in absurd (omega arith))
        (subst (λ (u : Answer). Same bytes (model.record_after b u) (stored_at v.items i) (model.record_after t u) (written v.items i ++ [])
        (model.written l i ++ model.wrote_by u)) (sym is) (record {
          spells = (v.same i).spells;
          fine = (v.same i).fine;
          stored = (v.same i).stored;
          fine_stored = (v.same i).fine_stored;
          agree = ap (λ (es : List Entry). es ++ []) (v.same i).agree;
        })) (λ j e. not_back a j e)

    -- A cut leaves zeros.
    spelled_lost : c.keeps i ≡ true → Spelled (record { at = i; event = model.lost } ∷ l)
    spelled_lost keeps =
        spelled_next (cut loses_nothing.blank.0) model.lost keeps (spelled.blank i keeps) (record {
          spells = loses_nothing.blank.1.1;
          fine = λ r e. absurd (none≢some e);
          stored = (v.same i).stored;
          fine_stored = (v.same i).fine_stored;
          agree = ap (λ (es : List Entry). es ++ []) (v.same i).agree;
        }) (λ j e. let z : ◌≡◌ {A = ℕ} 0 1 = cc in absurd (omega arith))

    -- A restart is made with the remnant that is stored.
    spelled_back : (r : Record) → b ≡ none → t ≡ some r → c.keeps i ≡ true → Spelled (record { at = i; event = model.back r } ∷ l)
    unfolding restarted
    spelled_back r gone is keeps = go (stored_at v.items i) t refl is (v.same i).stored
      where
        fine : Fine r
        fine = (v.same i).fine_stored r is

        left : Left
        left = left_after bytes space (accepted (restarted r))

        blank : lent_is bytes ≡ Blank
        blank = subst (Spells bytes) gone (v.same i).spells

        now : {j : ℕ} → j ≡ i → Restarts j (record { at = i; event = returned space left } ∷ v.items)
        now e = here (sym e) refl

        go : (s : Option (List ℕ)) (u : Option Record) → stored_at v.items i ≡ s → u ≡ some r → Remnant s u
            → Spelled (record { at = i; event = model.back r } ∷ l)
        go none none at e same = absurd (none≢some e)
        go none (some q) at e same = absurd same
        go (some s) none at e same = absurd same
        go (some s) (some q) at e same =
            let its : q ≡ r = cc in
            let bytes_of : s ≡ remnant_of (slotted r) = same ∙ ap (λ (z : Record). remnant_of (slotted z)) its in
            spelled_next (returned space left) (model.back r) keeps
            (s, at, sym (ap (λ (m : List ℕ). restart_left bytes m space) bytes_of ∙ fine_restarts_room r fine bytes space room blank)) (record {
              spells = fine_spells (alone r) (alone_fine r fine);
              fine = λ z e. let same : alone r ≡ z = cc in subst Fine same (alone_fine r fine);
              stored = (v.same i).stored;
              fine_stored = (v.same i).fine_stored;
              agree = ap (λ (es : List Entry). es ++ []) (v.same i).agree;
            }) (λ j e. now (eqb-true j i e))

    -- An accepted call is made on the bytes.
    spelled_accepted : (a : by.Call) (o : Out) → answer b a ≡ accepted o → c.keeps i ≡ true → Brings a → model.Fair c l i a → Inv c (λ p. Unit {0}) l
        → Spelled (record { at = i; event = model.made a } ∷ l)
    spelled_accepted a o is keeps brings fair inv =
        spelled_next (made (spell a) space (leaves bytes (spell a) space) remnant) (model.made a) keeps
        (spell_width v inv i a brings, refl, spell_fair v inv i a (leaves bytes (spell a) space) fair o is, λ went. kept) new (λ j e. not_back a j e)
      where
        remnant : List ℕ
        remnant = remnant_of (slotted o.left)

        comes : leaves bytes (spell a) space ≡ left_after bytes space (accepted o)
        comes = leaves_room bytes space b (spell a) (v.same i).spells room
            ∙ ap (λ (d : by.Call). left_after bytes space (answer b d)) (says_it v inv i a b refl (v.same i).spells fair o is) ∙ ap (left_after bytes space) is

        well : LeftWell bytes space o
        well = left_well bytes space b a (v.same i).fine (feeds c inv i a brings fair) o is

        kept : Stores Fixed (record_in (leaves bytes (spell a) space)) remnant
        kept = subst (λ (u : Left). Stores Fixed (record_in u) remnant) (sym comes)
            (subst (λ (q : slots.Record). Stores Fixed (encode_record (slotted o.left)) (remnant_of q))
            (decoded_back o.left well.fine.sound well.fine.ranged well.fine.placed)
            (sound_stores (encode_record (slotted o.left)) well.held.sound))

        fine : (r : Record) → some o.left ≡ some r → Fine r
        fine r e = let same : o.left ≡ r = cc in subst Fine same well.fine

        left : Same (record_in (left_after bytes space (accepted o))) (some o.left) (some remnant) (some o.left)
            (written v.items i ++ entries_in (left_after bytes space (accepted o))) (model.written l i ++ o.wrote)
        left = record { spells = well.held; fine = fine; stored = refl; fine_stored = fine; agree = λ z. (v.same i).agree z ++ well.entries z }

        new : Now (made (spell a) space (leaves bytes (spell a) space) remnant) (model.made a)
        new = subst (λ (u : Left). Same (record_in u) (model.record_after b (answer b a)) (cond (is_accepted u) (some remnant) (stored_at v.items i))
            (model.record_after t (answer b a)) (written v.items i ++ entries_in u) (model.written l i ++ model.wrote_by (answer b a))) (sym comes)
            (subst (λ (u : Answer). Same (record_in (left_after bytes space (accepted o))) (model.record_after b u) (some remnant) (model.record_after t u)
            (written v.items i ++ entries_in (left_after bytes space (accepted o))) (model.written l i ++ model.wrote_by u)) (sym is) left)

  -- So every run by contents whose starts bring 64-bit plans is a run over bytes.
  pub run_spelled : {l : List model.ContentsItem} → model.ContentsRun c l → Wide l → Spelled l
  run_spelled model.nothing_yet wide = spelled_none
  run_spelled (model.and_then {l = l} {x = x} run keeps comes) (brings, wide) = go (run_spelled run wide) x.event comes brings
    where
      i : ℕ
      i = x.at

      called : Spelled l → (a : by.Call) → Brings a → model.Fair c l i a → (u : Answer) → answer (model.record_at l i) a ≡ u
          → Spelled (record { at = i; event = model.made a } ∷ l)
      called v a brings fair (refused k) is = spelled_refused v i a k is keeps
      called v a brings fair (accepted o) is = spelled_accepted v i a o is keeps brings fair (invariant c (λ p. Unit {0}) (any_seed c) run (λ p s. tt))

      go : Spelled l → (y : model.Event) → model.Comes c l i y → Carries y → Spelled (record { at = i; event = y } ∷ l)
      go v (model.made a) comes brings = called v a brings comes (answer (model.record_at l i) a) refl
      go v model.lost comes brings = spelled_lost v i keeps
      go v (model.back r) (gone, is) brings = spelled_back v i r gone is keeps
