-- Demand 3 over bytes. By induction over the list each byte run is carried to a run by contents (`carry`): every rule-keeping
-- vault's bytes are blank, or hold the record of the run by contents; what is stored is the remnant of the record that is stored there; and the
-- entries that were written agree. A refused call or restart is carried to a call without output space, an accepted one to the call that
-- its bytes say, or to a restart by contents; a cut, and a call cut, to the loss of the record. Then the claim is protocol's.
-- Assumes nothing.
use Prim.Native.Nat.{ℕ}
use mathlib.Core.Path.{◌≡◌, refl, sym, ◌∙◌, ap, subst}
use mathlib.Core.Logic.{◌≢◌, ◌⊎◌, inl, inr, ⊎_elim}
use mathlib.Core.Bool.{Bool, true, false, cond}
use mathlib.Core.List.Memᴰ
use mathlib.Core.List.{List, [], ◌∷◌, ◌++◌}
use mathlib.Core.Option.{Option, none, some}
use native.Mathlib.Omega.{arith}
use lib.Dec.{eqb}
use lib.ListN.{take}
use borrow.Author.Tests.{eqb-true}
use Rattle.rules.specs.Sets.{Vaults}
use Rattle.rules.proofs.Reports.{none≢some}
use Rattle.wire.specs.Placed.{placed}
use Rattle.frame.specs.declared.Frame.{Frame}
use Rattle.frame.specs.Refusal.{Reading, Accepted, Refused}
use Rattle.frame.specs.Format.{decode, encode}
use Rattle.frame.specs.Valid.{Valid}
use Rattle.frame.specs.Refusal.{read_frame}
use Rattle.frame.proofs.Theorems.{passed, decode_encoded}
use Rattle.entry.specs.declared.Entry.{Entry}
use Rattle.entry.specs.declared.Entry.TheVariants.{ForAll, ForOne, Decision}
use Rattle.entry.specs.Valid.{ValidEntry, AllValid}
use Rattle.record.specs.Layout.{encode_record, decode_record}
use Rattle.sound.specs.declared.Lent.TheVariants.{Blank, Unsound}
use Rattle.sound.specs.inside.Sound.{lent_is}
use Rattle.protocol.specs.Record.{Record}
use Rattle.protocol.specs.Tables.{put, ◌∈◌}
use Rattle.settings.specs.declared.Settings.{Settings}
use Rattle.settings.specs.Vaults.{vaults_of}
use Rattle.protocol.specs.Pass.{Out}
use Rattle.protocol.specs.Calls as by
use Rattle.protocol.specs.Calls.{Answer, refused, accepted, answer}
use Rattle.protocol.specs.Alone.{alone, restarted}
use Rattle.protocol.specs.Fed.{Readable, Fed}
use Rattle.protocol.specs.inside.Runs as model
use Rattle.protocol.specs.inside.Claim as whole
use Rattle.protocol.proofs.Read.{accepted_readable}
use Rattle.protocol.proofs.Demand as protocol
use Rattle.contents.specs.Calls.{left_after}
use Rattle.contents.specs.Contents.{slotted}
use Rattle.contents.specs.Left.{Left, wrote}
use Rattle.contents.specs.Spelling.{Spells}
use Rattle.own.specs.Part.{remnant_of}
use Rattle.contents.specs.Remnant.{restart_left}
use Rattle.contents.proofs.Lent.{blank_is_lent}
use Rattle.contents.proofs.Stays.{From, call_set}
use Rattle.contents.proofs.Spelling.{Fine, call_fine, fine_spells}
use Rattle.own.proofs.Stored.{remnant_length}
use Rattle.contents.proofs.Remnant.{alone_fine, fine_written, fine_restarts}
use Rattle.runs.specs.Runs.{ByteCall, start, frame, timer, InWidth, HostCall, call, write, restart, Rules, Event, made, cut_in, cut, returned, Item}
use Rattle.runs.specs.Runs.{record_in, entries_in, is_accepted, record_after, entries_after, stored_after, written, stored_at, Sent, IsBlank, Setting}
use Rattle.runs.specs.Runs.{Stores, record_at, Fair, Ruled, Run, nothing_yet, and_then, Decides, Started, here, earlier}
use Rattle.runs.specs.Fixed.{leaves}
use Rattle.runs.specs.Five.{Fixed}
use Rattle.runs.specs.Claim.{Demand3}
use Rattle.runs.proofs.Carry.{said, carried, fed_said, LeftWell, left_well, placed_take}

-- ---- lists of entries, and tables

-- Entries that have bytes, after entries that have bytes.
all_join : (es fs : List Entry) → AllValid es → AllValid fs → AllValid (es ++ fs)
all_join [] fs a b = b
all_join (e ∷ es) fs (v, a) b = (v, all_join es fs a b)

-- Each of them has bytes.
valid_in : (es : List Entry) {e : Entry} → AllValid es → e ∈ es → ValidEntry e
valid_in [] valid at = elim at [ ]
valid_in (x ∷ es) {e} (v, valid) at = ⊎_elim (λ (same : e ≡ x). subst ValidEntry (sym same) v) (valid_in es valid) (Memᴰ.cases_cons at)

-- What holds of the new entries of six tables, and of all the old ones, holds of the changed tables.
pub put_six : {A B C D E F : Type 0} (P : ℕ → A → B → C → D → E → F → Type 0) (k : ℕ) {a : A} {b : B} {c : C} {d : D} {e : E} {f : F}
    (ta : ℕ → A) (tb : ℕ → B) (tc : ℕ → C) (td : ℕ → D) (te : ℕ → E) (tf : ℕ → F)
    → P k a b c d e f → ((i : ℕ) → P i (ta i) (tb i) (tc i) (td i) (te i) (tf i))
    → (i : ℕ) → P i (put k a ta i) (put k b tb i) (put k c tc i) (put k d td i) (put k e te i) (put k f tf i)
put_six P k {a} {b} {c} {d} {e} {f} ta tb tc td te tf new old i = go (eqb k i) refl
  where
    go : (s : Bool) → eqb k i ≡ s → P i (cond s a (ta i)) (cond s b (tb i)) (cond s c (tc i)) (cond s d (td i)) (cond s e (te i)) (cond s f (tf i))
    go true same = subst (λ (j : ℕ). P j a b c d e f) (eqb-true k i same) new
    go false other = old i

-- A refused call is no accepted one.
pub never : {A : Type 0} {k : ℕ} {o : Out} → refused k ≡ accepted o → A
never e = let z : ◌≡◌ {A = ℕ} 0 1 = cc in absurd (omega arith)

-- A call without output space is refused, on any record.
short_refused : (b : Option Record) → answer b by.short ≡ refused 1
unfolding answer
short_refused none = refl
short_refused (some r) = refl

-- A plan of a start is that of the newest item, or of an earlier one.
started_cases : {p : ℕ} {y : model.ContentsItem} {l : List model.ContentsItem} → model.ContentsStarted p (y ∷ l)
    → ((s : Settings) × (o : Out) × (y.event ≡ model.made (by.start s p)) × (answer (model.record_at l y.at) (by.start s p) ≡ accepted o))
    ⊎ model.ContentsStarted p l
started_cases (model.here {s = s} {o = o} event is) = inl (s, o, event, is)
started_cases (model.earlier s) = inr s

-- Events that are made are made by the same call.
same_call : {a b : by.Call} → model.made a ≡ model.made b → a ≡ b
same_call e = cc

-- ---- the run by contents

-- Calls by these rules leave no more than the paper lets them.
abbrev pub Follows : Rules → Type 0
Follows keeps_rules = (rec : List ℕ) (a : HostCall) (out : List ℕ) (left : Left) → keeps_rules rec a out left → Fixed rec a out left

-- Bytes that are stored are the remnant of the record that is stored by contents.
abbrev pub Remnant : Option (List ℕ) → Option Record → Type 0
Remnant none none = Unit {0}
Remnant none (some r) = ⊥
Remnant (some s) none = ⊥
Remnant (some s) (some r) = s ≡ remnant_of (slotted r)

module _ (c : Setting) where
  -- The same vaults and rule-keepers, for the run by contents.
  abbrev pub plain : model.ContentsSetting
  plain = record { vaults = c.vaults; keeps = c.keeps; most = c.most }

  -- The record of vault i.
  pub record Own (i : ℕ) (r : Record) : Type 0 where
    vaults : vaults_of r.set ≡ c.vaults
    id : r.set.id ≡ i
    fine : Fine r

  -- Vault i's bytes, stored bytes and entries in the byte run, and its record, stored record and entries in the run by contents.
  pub record Same (i : ℕ) (rec : List ℕ) (b : Option Record) (s : Option (List ℕ)) (t : Option Record) (es fs : List Entry) : Type 0 where
    pub held : c.keeps i ≡ true → Spells rec b
    pub own : (r : Record) → b ≡ some r → Own i r
    pub stored : Remnant s t
    pub own_stored : (r : Record) → t ≡ some r → Own i r
    pub agree : es ≡ fs
    pub valid : AllValid fs

  -- A run by contents: its records are what the bytes spell, its entries the same, and its starts are those of the byte run.
  pub record Carried (l : List Item) : Type 0 where
    pub items : List model.ContentsItem
    pub run : model.ContentsRun plain items
    pub same : (i : ℕ) → Same i (record_at c l i) (model.record_at items i) (stored_at l i) (model.stored_at items i) (written l i) (model.written items i)
    pub starts : (p : ℕ) → model.ContentsStarted p items → Started p l

  -- ---- what a run lets a call bring

  -- What a run lets the call at vault i bring; the record that it begins with has the run's n and f, and the own number.
  record Allowed (items : List model.ContentsItem) (i : ℕ) (b : Option Record) (a : by.Call) : Type 0 where
    fair : model.Fair plain items i a
    set : Settings
    goes : From (λ r. r.set ≡ set) b a
    vaults : vaults_of set ≡ c.vaults
    id : set.id ≡ i

  module _ {l : List Item} (v : Carried l) (i : ℕ) where
    -- Bytes that were sent say a frame that was sent.
    sent_said : (link : ℕ) (bytes : List ℕ) (x : Frame) → decode bytes ≡ x → x.sender ≡ link → Sent l i link bytes → model.ContentsSent v.items i x
    sent_said link bytes x is sender (y, spelt, at) =
        subst (λ (j : ℕ). (ForAll x ∈ model.written v.items j) ⊎ (ForOne i x ∈ model.written v.items j)) (sym sender)
        (⊎_elim (λ a. inl (to_all a)) (λ a. inr (to_one a)) at)
      where
        there : (e : Entry) → e ∈ written l link → e ∈ model.written v.items link
        there e = subst (λ (es : List Entry). e ∈ es) (v.same link).agree

        frame_is : Valid y → y ≡ x
        frame_is valid = let said : bytes ≡ encode y = spelt in sym (decode_encoded y valid) ∙ ap decode (sym said) ∙ is

        to_all : ForAll y ∈ written l link → ForAll x ∈ model.written v.items link
        to_all a =
            let at = there (ForAll y) a in subst (λ (z : Frame). ForAll z ∈ model.written v.items link)
            (frame_is (valid_in (model.written v.items link) (v.same link).valid at)) at

        to_one : ForOne i y ∈ written l link → ForOne i x ∈ model.written v.items link
        to_one a =
            let at = there (ForOne i y) a in subst (λ (z : Frame). ForOne i z ∈ model.written v.items link)
            (frame_is (valid_in (model.written v.items link) (v.same link).valid at).1) at

    -- Where no bytes are stored no record is.
    nothing : stored_at l i ≡ none → model.stored_at v.items i ≡ none
    nothing empty = go (stored_at l i) (model.stored_at v.items i) empty (v.same i).stored
      where
        go : (s : Option (List ℕ)) (t : Option Record) → s ≡ none → Remnant s t → t ≡ none
        go none none e is = refl
        go none (some r) e is = absurd is
        go (some s) none e is = absurd is
        go (some s) (some r) e is = absurd (none≢some (sym e))

    -- An accepted call brings what a run by contents lets it bring.
    allowed : (a : ByteCall) (b : Option Record) (left : Left) → Spells (record_at c l i) b → ((r : Record) → b ≡ some r → Own i r) → InWidth a
        → Fair c l i a left
        → is_accepted left ≡ true
        → (o : Out) → answer b (said (record_at c l i) a) ≡ accepted o → Allowed v.items i b (said (record_at c l i) a)
    unfolding answer
    allowed (start set plan) none left h own low fair went o is =
        let (same, own-id, empty) = fair went in
        record { fair = λ o e. (same, own-id, nothing empty); set = set; goes = refl; vaults = same; id = own-id }
    allowed (start set plan) (some r) left h own low fair went o is = never is
    allowed (frame link bytes) none left h own low fair went o is = never is
    allowed (frame link bytes) (some r) left h own low fair went o is =
        go (read_frame bytes link (decode_record rec).set.n (decode_record rec).set.id) refl (fed_said rec (some r) (frame link bytes) h low) is
      where
        rec : List ℕ
        rec = record_at c l i

        its : Own i r
        its = own r refl

        go : (y : Reading) → read_frame bytes link (decode_record rec).set.n (decode_record rec).set.id ≡ y → Fed (some r) (by.frame y)
            → answer (some r) (by.frame y) ≡ accepted o
            → Allowed v.items i (some r) (by.frame y)
        go (Refused k) read fed e = never e
        go (Accepted x) read fed e =
            let sender = (accepted_readable bytes link (decode_record rec).set.n (decode_record rec).set.id x low read).0 in
            record {
              fair = (
                subst (λ (vs : Vaults). Readable vs.n i x) its.vaults (subst (λ (k : ℕ). Readable r.set.n k x) its.id fed),
                λ keeps. sent_said link bytes x (passed bytes link (decode_record rec).set.n (decode_record rec).set.id x read).said sender
                    (fair (subst (λ (j : ℕ). c.keeps j ≡ true) sender keeps)),
              );
              set = r.set;
              goes = refl;
              vaults = its.vaults;
              id = its.id;
            }
    allowed (timer view) none left h own low fair went o is = never is
    allowed (timer view) (some r) left h own low fair went o is =
        record { fair = tt; set = r.set; goes = refl; vaults = (own r refl).vaults; id = (own r refl).id }

  -- ---- one more item

  -- The empty run is carried to the empty one.
  carry_none : Carried []
  unfolding record_at stored_at written model.record_at model.stored_at model.written
  carry_none = record {
    items = [];
    run = model.nothing_yet;
    same = λ i. record {
      held = λ keeps. (blank_is_lent (c.first i)).0 (c.blank i keeps);
      own = λ r e. absurd (none≢some e);
      stored = tt;
      own_stored = λ r e. absurd (none≢some e);
      agree = refl;
      valid = tt;
    };
    starts = λ p s. elim s [ ];
  }

  module _ {l : List Item} (v : Carried l) (i : ℕ) where
    -- Vault i's record, and the one stored, in the run by contents.
    abbrev b : Option Record
    b = model.record_at v.items i

    abbrev t : Option Record
    t = model.stored_at v.items i

    -- What vault i has and wrote, after an item, is the same in both.
    abbrev Now : Event → model.Event → Type 0
    Now x y = Same i (record_after x) (model.record_next b y) (stored_after x (stored_at l i)) (model.stored_next b t y)
        (written l i ++ entries_after x) (model.written v.items i ++ model.wrote_next b y)

    -- The tables after one more item, from what it did at its vault.
    same_next : (x : Event) (y : model.Event) → Now x y → (j : ℕ)
        → Same j (record_at c (record { at = i; event = x } ∷ l) j) (model.record_at (record { at = i; event = y } ∷ v.items) j)
        (stored_at (record { at = i; event = x } ∷ l) j) (model.stored_at (record { at = i; event = y } ∷ v.items) j)
        (written (record { at = i; event = x } ∷ l) j) (model.written (record { at = i; event = y } ∷ v.items) j)
    unfolding record_at stored_at written model.record_at model.stored_at model.written
    same_next x y new =
        put_six Same i (record_at c l) (model.record_at v.items) (stored_at l) (model.stored_at v.items) (written l) (model.written v.items) new v.same

    -- One more item, carried to one by contents that brings no start.
    carry_on : (x : Event) (y : model.Event) → c.keeps i ≡ true → model.Comes plain v.items i y
        → ((p : ℕ) (s : Settings) (o : Out) → y ≡ model.made (by.start s p) → answer b (by.start s p) ≡ accepted o → ⊥) → Now x y
        → Carried (record { at = i; event = x } ∷ l)
    carry_on x y keeps comes silent new = record {
      items = record { at = i; event = y } ∷ v.items;
      run = model.and_then v.run keeps comes;
      same = same_next x y new;
      starts = λ p s. ⊎_elim (λ (set, o, is, e). absurd (silent p set o is e)) (λ old. earlier (v.starts p old)) (started_cases s);
    }

    -- Nothing more was written.
    no_more : written l i ++ [] ≡ model.written v.items i ++ []
    no_more = ap (λ (es : List Entry). es ++ []) (v.same i).agree

    -- What was written has bytes.
    all_valid : AllValid (model.written v.items i ++ [])
    all_valid = all_join (model.written v.items i) [] (v.same i).valid tt

    -- Where nothing changes, a call without output space stands for the item.
    carry_still : (x : Event) → c.keeps i ≡ true → record_after x ≡ record_at c l i → stored_after x (stored_at l i) ≡ stored_at l i → entries_after x ≡ []
        → Carried (record { at = i; event = x } ∷ l)
    carry_still x keeps rec store es = carry_on x (model.made by.short) keeps tt (λ p s o is e. no_start is) (subst (λ (u : Answer).
        Same i (record_after x) (model.record_after b u) (stored_after x (stored_at l i)) (model.record_after t u) (written l i ++ entries_after x)
        (model.written v.items i ++ model.wrote_by u)) (sym (short_refused b)) (record {
          held = λ keeps. subst (λ (s : List ℕ). Spells s b) (sym rec) ((v.same i).held keeps);
          own = (v.same i).own;
          stored = subst (λ (s : Option (List ℕ)). Remnant s t) (sym store) (v.same i).stored;
          own_stored = (v.same i).own_stored;
          agree = ap (λ (new : List Entry). written l i ++ new) es ∙ no_more;
          valid = all_valid;
        }))
      where
        no_start : {s : Settings} {p : ℕ} → model.made by.short ≡ model.made (by.start s p) → ⊥
        no_start is = let same = same_call is in let z : ◌≡◌ {A = ℕ} 0 1 = cc in omega arith

    -- After a cut, in a call or between calls, the record is gone.
    carry_lost : (x : Event) → c.keeps i ≡ true → IsBlank (record_after x) → stored_after x (stored_at l i) ≡ stored_at l i → entries_after x ≡ []
        → Carried (record { at = i; event = x } ∷ l)
    carry_lost x keeps blank store es = carry_on x model.lost keeps tt (λ p s o is e. let z : ◌≡◌ {A = ℕ} 0 1 = cc in omega arith) (record {
      held = λ keeps. (blank_is_lent (record_after x)).0 blank;
      own = λ r e. absurd (none≢some e);
      stored = subst (λ (s : Option (List ℕ)). Remnant s t) (sym store) (v.same i).stored;
      own_stored = (v.same i).own_stored;
      agree = ap (λ (new : List Entry). written l i ++ new) es ∙ no_more;
      valid = all_valid;
    })

    -- A restart that is not refused brings back the own row of what is stored.
    carry_back : (out : List ℕ) (left : Left) (r : Record) → c.keeps i ≡ true → b ≡ none → t ≡ some r
        → left ≡ left_after (record_at c l i) out (accepted (restarted r)) → Carried (record { at = i; event = returned out left } ∷ l)
    unfolding restarted alone
    carry_back out left r keeps gone is e =
        carry_on (returned out left) (model.back r) keeps (gone, is) (λ p s o is e. let z : ◌≡◌ {A = ℕ} 0 1 = cc in omega arith)
        (record {
          held = λ keeps. subst (λ (u : Left). Spells (record_in u) (some (alone r))) (sym e) (fine_spells (alone r) fine);
          own = λ q same. subst (Own i) (the_same same) (record { vaults = its.vaults; id = its.id; fine = fine });
          stored = (v.same i).stored;
          own_stored = (v.same i).own_stored;
          agree = no_more;
          valid = all_valid;
        })
      where
        its : Own i r
        its = (v.same i).own_stored r is

        fine : Fine (alone r)
        fine = alone_fine r its.fine

        the_same : {q : Record} → some (alone r) ≡ some q → alone r ≡ q
        the_same same = cc

    -- An accepted call is carried to the call that its bytes say.
    carry_accepted : (a : ByteCall) (out : List ℕ) (left : Left) (remnant : List ℕ) (o : Out) → c.keeps i ≡ true → InWidth a → Fair c l i a left
        → remnant ≡ remnant_of (slotted o.left) → answer b (said (record_at c l i) a) ≡ accepted o
        → left ≡ left_after (record_at c l i) out (accepted o) → Carried (record { at = i; event = made a out left remnant } ∷ l)
    carry_accepted a out left remnant o keeps low fair stores answered is = record {
      items = record { at = i; event = y } ∷ v.items;
      run = model.and_then v.run keeps ok.fair;
      same = same_next x y (subst (λ (u : Left). Same i (record_in u) (model.record_after b (answer b d)) (cond (is_accepted u) (some remnant) (stored_at l i))
          (model.record_after t (answer b d)) (written l i ++ entries_in u) (model.written v.items i ++ model.wrote_by (answer b d))) (sym is)
          (subst (λ (u : Answer). Same i (record_in done) (model.record_after b u) (some remnant) (model.record_after t u) (written l i ++ entries_in done)
          (model.written v.items i ++ model.wrote_by u)) (sym answered) changed));
      starts = λ p s. ⊎_elim (λ (set, o, event, e). begun p set a refl (same_call event)) (λ old. earlier (v.starts p old)) (started_cases s);
    }
      where
        d : by.Call
        d = said (record_at c l i) a

        x : Event
        x = made a out left remnant

        y : model.Event
        y = model.made d

        done : Left
        done = left_after (record_at c l i) out (accepted o)

        went : is_accepted left ≡ true
        went = ap is_accepted is

        held : Spells (record_at c l i) b
        held = (v.same i).held keeps

        ok : Allowed v.items i b d
        ok = allowed v i a b left held (v.same i).own low fair went o answered

        stays : o.left.set ≡ ok.set
        stays = call_set b d ok.set ok.goes o answered

        well : LeftWell (record_at c l i) out o
        well = left_well (record_at c l i) out b d (λ r e. ((v.same i).own r e).fine) (fed_said (record_at c l i) b a held low) o answered

        own : (r : Record) → some o.left ≡ some r → Own i r
        own r e = let its : o.left ≡ r = cc in
            subst (Own i) its (record { vaults = ap vaults_of stays ∙ ok.vaults; id = ap (λ (s : Settings). s.id) stays ∙ ok.id; fine = well.fine })

        changed : Same i (record_in done) (some o.left) (some remnant) (some o.left) (written l i ++ entries_in done)
            (model.written v.items i ++ o.wrote)
        changed = record {
          held = λ keeps. well.held;
          own = own;
          stored = stores;
          own_stored = own;
          agree = λ z. (v.same i).agree z ++ well.entries z;
          valid = all_join (model.written v.items i) o.wrote (v.same i).valid well.valid;
        }

        begun : (p : ℕ) (s : Settings) (k : ByteCall) → a ≡ k → said (record_at c l i) k ≡ by.start s p → Started p (record { at = i; event = x } ∷ l)
        begun p s (start set plan) begins e =
            let its : plan ≡ p = cc in
            here {x = record { at = i; event = x }} (ap (λ (k : ByteCall). made k out left remnant) (begins ∙ ap (start set) its)) went
        begun p s (frame link bytes) hears e = let z : ◌≡◌ {A = ℕ} 0 1 = cc in absurd (omega arith)
        begun p s (timer view) times e = let z : ◌≡◌ {A = ℕ} 0 1 = cc in absurd (omega arith)

  -- ---- every item

  module _ {keeps_rules : Rules} (law : Follows keeps_rules) where
    -- What is stored of contents that a vault may have is their remnant.
    stores_remnant : (r : Record) (remnant : List ℕ) → Fine r → Stores keeps_rules (encode_record (slotted r)) remnant → remnant ≡ remnant_of (slotted r)
    stores_remnant r remnant fine s =
        let rec : List ℕ = encode_record (slotted r) in
        let whole = law rec write s.out (wrote s.count rec s.left) s.ruled ∙ fine_written r fine s.out s.room in
        s.is ∙ taken_of whole ∙ ap (λ (n : ℕ). take n (placed s.out 0 (remnant_of (slotted r)))) (sym (remnant_length (slotted r)))
        ∙ placed_take s.out (remnant_of (slotted r))
      where
        taken_of : {m n : ℕ} {rec out rec' out' : List ℕ} → wrote m rec out ≡ wrote n rec' out' → take m out ≡ take n out'
        taken_of {m} {n} {rec} {out} {rec'} {out'} e =
            let count : m ≡ n = cc in
            let bytes : out ≡ out' = cc in
            λ z. take (count z) (bytes z)

    -- One more item of a run.
    carry_item : {l : List Item} (v : Carried l) (i : ℕ) (x : Event) → c.keeps i ≡ true → Ruled c keeps_rules l i x
        → Carried (record { at = i; event = x } ∷ l)
    carry_item {l} v i (made a out left remnant) keeps (low, ruled, fair, stores) = ⊎_elim
        (λ (k, is). let same = fixed ∙ is in
        carry_still v i (made a out left remnant) keeps (ap record_in same) (ap (λ (u : Left). cond (is_accepted u) (some remnant) (stored_at l i)) same)
        (ap entries_in same))
        (λ (o, room, answered, is). carry_accepted v i a out left remnant o keeps low fair (kept o (fixed ∙ is) answered) answered (fixed ∙ is))
        (carried (record_at c l i) out (model.record_at v.items i) a ((v.same i).held keeps))
      where
        fixed : left ≡ leaves (record_at c l i) a out
        fixed = law (record_at c l i) (call a) out left ruled

        kept : (o : Out) → left ≡ left_after (record_at c l i) out (accepted o) → answer (model.record_at v.items i) (said (record_at c l i) a) ≡ accepted o
            → remnant ≡ remnant_of (slotted o.left)
        kept o is answered =
            stores_remnant o.left remnant
            (call_fine (model.record_at v.items i) (said (record_at c l i) a) (λ r e. ((v.same i).own r e).fine)
            (fed_said (record_at c l i) (model.record_at v.items i) a ((v.same i).held keeps) low) o answered)
            (subst (λ (u : Left). Stores keeps_rules (record_in u) remnant) is (stores (ap is_accepted is)))
    carry_item v i (cut_in a out left blank) keeps (ruled, empty) = carry_lost v i (cut_in a out left blank) keeps empty refl refl
    carry_item v i (cut blank) keeps empty = carry_lost v i (cut blank) keeps empty refl refl
    carry_item {l} v i (returned out left) keeps (s, is, ruled) = go (stored_at l i) (model.stored_at v.items i) refl refl (v.same i).stored is
      where
        gone : (b : Option Record) → Spells (record_at c l i) b → lent_is (record_at c l i) ≡ Blank → b ≡ none
        gone none spells blank = refl
        gone (some r) spells blank = let sound = spells.sound in let z : ◌≡◌ {A = ℕ} 0 1 = cc in absurd (omega arith)

        go : (u : Option (List ℕ)) (t : Option Record) → stored_at l i ≡ u → model.stored_at v.items i ≡ t → Remnant u t → u ≡ some s
            → Carried (record { at = i; event = returned out left } ∷ l)
        go none none at_bytes at_record same e = absurd (none≢some e)
        go none (some r) at_bytes at_record same e = absurd same
        go (some u) none at_bytes at_record same e = absurd same
        go (some u) (some r) at_bytes at_record same e =
            let its : u ≡ s = cc in
            let fixed : left ≡ restart_left (record_at c l i) (remnant_of (slotted r)) out =
            law (record_at c l i) (restart s) out left ruled ∙ ap (λ (m : List ℕ). restart_left (record_at c l i) m out) (sym its ∙ same) in
            ⊎_elim
            (λ (k, given). carry_still v i (returned out left) keeps (ap record_in (fixed ∙ given)) refl refl)
            (λ (room, blank, given). carry_back v i out left r keeps (gone (model.record_at v.items i) ((v.same i).held keeps) blank) at_record (fixed ∙ given))
            (fine_restarts r ((v.same i).own_stored r at_record).fine (record_at c l i) out)

    -- So each run is carried to a run by contents.
    pub carry : {l : List Item} → Run c keeps_rules l → Carried l
    carry nothing_yet = carry_none
    carry (and_then {l = l} {x = x} run keeps ruled) = carry_item (carry run) x.at x.event keeps ruled

    -- In a run no rule-keeping vault's record is unsound: refusal 3 never meets a record that calls left.
    pub record_stays_sound : {l : List Item} → Run c keeps_rules l → (i : ℕ) → c.keeps i ≡ true → lent_is (record_at c l i) ≢ Unsound
    record_stays_sound {l} run i keeps bad = go (model.record_at v.items i) ((v.same i).held keeps)
      where
        v : Carried l
        v = carry run

        go : (b : Option Record) → Spells (record_at c l i) b → ⊥
        go none h = let z : ◌≡◌ {A = ℕ} 0 1 = cc in omega arith
        go (some r) h = let e = h.sound in let z : ◌≡◌ {A = ℕ} 0 1 = cc in omega arith

-- ---- the claim

-- In every run any two decisions are for the same plan; and if all vaults keep the rules, for the plan of an accepted start.
-- So it is of all calls that leave no more than the paper lets them.
pub demand3_by : {keeps_rules : Rules} → Follows keeps_rules → Demand3 keeps_rules
demand3_by law c l run = record {
  agreement = λ i j p q a b. claim.agreement i j p q (decided i p a) (decided j q b);
  validity = λ all i p a. v.starts p (claim.validity all i p (decided i p a));
}
  where
    v : Carried c l
    v = carry c law run

    claim : whole.ContentsClaim (plain c) v.items
    claim = protocol.demand3_by_contents (plain c) v.items v.run

    decided : (i p : ℕ) → Decides l i p → model.ContentsDecides v.items i p
    decided i p (w, at) = (w, subst (λ (es : List Entry). Decision w p ∈ es) (v.same i).agree at)

-- Demand 3 of the calls that the paper fixes.
pub demand3_fixed : Demand3 Fixed
demand3_fixed = demand3_by (λ rec a out left e. e)
