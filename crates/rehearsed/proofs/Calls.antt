-- One call at a vault of the stage. The vault's bytes spell a blank record, or contents of a vault of 4 with its number (`Held`); so a call is refused
-- and changes nothing, or is accepted, and what it leaves is held again (`comes`). A suggest is accepted only by the vault that leads its view
-- (`suggest_led`).
-- Assumes nothing.
use Prim.Native.Nat.{ℕ}
use mathlib.Core.Path.{◌≡◌, refl, sym, ap, subst, ◌∙◌}
use mathlib.Core.Logic.{◌⊎◌, inl, inr, ⊎_elim}
use mathlib.Core.Bool.{true}
use mathlib.Core.List.{List}
use mathlib.Core.Option.{Option, none, some}
use lib.ListN.{length}
use Rattle.frame.specs.declared.Frame.{Frame}
use Rattle.frame.specs.Format.{encode}
use Rattle.frame.specs.Valid.{Valid}
use Rattle.frame.specs.Refusal.{leader_of}
use Rattle.entry.specs.Valid.{AllValid}
use Rattle.settings.specs.declared.Settings.{Settings}
use Rattle.record.specs.Size.{record_size}
use Rattle.record.specs.Layout.{decode_record}
use Rattle.record.proofs.Theorems.{encode_size}
use Rattle.protocol.specs.Record.{Record}
use Rattle.protocol.specs.Pass.{Out}
use Rattle.protocol.specs.Calls as by
use Rattle.protocol.specs.Calls.{accepted, answer}
use Rattle.protocol.proofs.ReadsBack.{AllRight, call_right}
use Rattle.contents.specs.Calls.{left_after}
use Rattle.contents.specs.Contents.{contents, slotted}
use Rattle.contents.specs.Left.{Left, gave}
use Rattle.contents.specs.Spelling.{Spells}
use Rattle.contents.proofs.Spelling.{Fine}
use Rattle.contents.proofs.Stays.{call_set}
use Rattle.runs.specs.Runs.{ByteCall, frame, InWidth, record_in, entries_in, is_accepted}
use Rattle.runs.specs.Fixed.{leaves}
use Rattle.runs.proofs.Carry.{said, carried, fed_said, LeftWell, left_well}
use Rattle.runs.proofs.Demand.{never}
use Rattle.answers.specs.Lines.{zeroed}
use Rattle.rehearsed.proofs.Suggests.{accepted_leads}

-- ---- a vault's bytes

-- Settings of vault v of 4.
abbrev pub Own : ℕ → Settings → Type 0
Own v s = (s.n ≡ 4) × (s.id ≡ v)

-- Vault v's bytes spell a blank record (none), or contents of a vault of 4 with number v.
pub record Holds (v : ℕ) (rec : List ℕ) (before : Option Record) : Type 0 where
  pub spells : Spells rec before
  pub fine : (r : Record) → before ≡ some r → Fine r
  pub own : (r : Record) → before ≡ some r → Own v r.set

-- They spell one of these.
abbrev pub Held : ℕ → List ℕ → Type 0
Held v rec = (before : Option Record) × Holds v rec before

-- A start brings the rehearsal's n and the vault's number.
abbrev pub OwnStart : ℕ → by.Call → Type 0
OwnStart v (by.start s p) = (s.n ≡ 4) × (s.id ≡ v)
OwnStart v (by.frame x) = Unit {0}
OwnStart v (by.timer view) = Unit {0}
OwnStart v by.short = Unit {0}

-- So an accepted call leaves a record with these settings.
pub own_left : (v : ℕ) (b : Option Record) (a : by.Call) → ((r : Record) → b ≡ some r → Own v r.set) → OwnStart v a
    → (o : Out) → answer b a ≡ accepted o → Own v o.left.set
own_left v none (by.start s p) was starts o e = subst (Own v) (sym (call_set none (by.start s p) s refl o e)) starts
own_left v none (by.frame x) was starts o e =
    subst (Own v) (sym (call_set none (by.frame x) (record { n = 4; f = 1; id = v; class = 0 }) tt o e)) (refl, refl)
own_left v none (by.timer view) was starts o e =
    subst (Own v) (sym (call_set none (by.timer view) (record { n = 4; f = 1; id = v; class = 0 }) tt o e)) (refl, refl)
own_left v none by.short was starts o e =
    subst (Own v) (sym (call_set none by.short (record { n = 4; f = 1; id = v; class = 0 }) tt o e)) (refl, refl)
own_left v (some r) a was starts o e = subst (Own v) (sym (call_set (some r) a r.set refl o e)) (was r refl)

-- ---- a suggest

-- Vault v accepts a suggest only where it leads its view.
pub suggest_led : (v : ℕ) (rec : List ℕ) (b : Option Record) → Holds v rec b → (link : ℕ) (x : Frame) (o : Out)
    → answer b (said rec (frame link (encode x))) ≡ accepted o → is_accepted (leaves rec (frame link (encode x)) zeroed) ≡ true
    → Valid x → x.kind ≡ 7 → leader_of x.view 4 ≡ v
unfolding answer contents
suggest_led v rec none h link x o e goes valid seven = never e
suggest_led v rec (some r) h link x o e goes valid seven =
    let (four, number) = h.own r refl in
    let n : (decode_record rec).set.n ≡ 4 = ap (λ (z : Record). z.set.n) h.spells.holds ∙ four in
    let id : (decode_record rec).set.id ≡ v = ap (λ (z : Record). z.set.id) h.spells.holds ∙ number in
    ap (leader_of x.view) (sym n) ∙ accepted_leads rec zeroed link x valid seven goes ∙ id

-- ---- a call

-- What an accepted call at vault v leaves and writes.
pub record Accepts (v : ℕ) (rec : List ℕ) (a : ByteCall) (o : Out) : Type 0 where
  pub is : leaves rec a zeroed ≡ left_after rec zeroed (accepted o)
  pub held : Holds v (record_in (leaves rec a zeroed)) (some o.left)
  pub size : length (record_in (leaves rec a zeroed)) ≡ record_size
  pub entries : entries_in (leaves rec a zeroed) ≡ o.wrote
  pub valid : AllValid o.wrote
  pub right : AllRight 4 v o.wrote
  pub led : (link : ℕ) (x : Frame) → a ≡ frame link (encode x) → Valid x → x.kind ≡ 7 → leader_of x.view 4 ≡ v

-- An accepted call by contents, over the vault's bytes.
pub accepts_by : (v : ℕ) (rec : List ℕ) (a : ByteCall) (b : Option Record) → Holds v rec b → InWidth a → OwnStart v (said rec a) → (o : Out)
    → answer b (said rec a) ≡ accepted o → leaves rec a zeroed ≡ left_after rec zeroed (accepted o) → Accepts v rec a o
accepts_by v rec a b h low starts o answers is =
    let fed = fed_said rec b a h.spells low in
    let well : LeftWell rec zeroed o = left_well rec zeroed b (said rec a) h.fine fed o answers in
    let own : Own v o.left.set = own_left v b (said rec a) h.own starts o answers in
    let right = call_right b (said rec a) (λ r e. ((h.fine r e).sound, (h.fine r e).ranged)) fed o answers in
    record {
      is = is;
      held = subst (λ (l : Left). Holds v (record_in l) (some o.left)) (sym is) (record {
        spells = well.held;
        fine = λ r (e : some o.left ≡ some r). let its : o.left ≡ r = cc in subst Fine its well.fine;
        own = λ r (e : some o.left ≡ some r). let its : o.left ≡ r = cc in subst (λ (r : Record). Own v r.set) its own;
      });
      size = ap (λ (l : Left). length (record_in l)) is ∙ encode_size (slotted o.left);
      entries = ap entries_in is ∙ well.entries;
      valid = well.valid;
      right = subst (λ (n : ℕ). AllRight n v o.wrote) own.0 (subst (λ (i : ℕ). AllRight o.left.set.n i o.wrote) own.1 right);
      led = λ link x e. suggest_led v rec b h link x o (subst (λ (k : ByteCall). answer b (said rec k) ≡ accepted o) e answers)
          (subst (λ (k : ByteCall). is_accepted (leaves rec k zeroed) ≡ true) e (ap is_accepted is));
    }

-- A call at vault v is refused, with its record unchanged, or accepted.
pub comes : (v : ℕ) (rec : List ℕ) (a : ByteCall) → Held v rec → InWidth a → OwnStart v (said rec a)
    → ((k : ℕ) × (leaves rec a zeroed ≡ gave k rec zeroed)) ⊎ ((o : Out) × Accepts v rec a o)
comes v rec a (b, h) low starts =
    ⊎_elim inl (λ (o, room, answers, is). inr (o, accepts_by v rec a b h low starts o answers is)) (carried rec zeroed b a h.spells)
