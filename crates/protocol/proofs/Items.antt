-- What one item of a run does to the tables (document 01, 'Runs, as demand 3 means them'; document 02, wish 6). An accepted call made adds what
-- it answers (`past_accepted`). Everything else, a refused call, a cut and a restart, writes nothing and leaves what is stored; the record is then
-- the old one, none, or the own row of the stored one (`happens`). So whatever holds of records and outlives the loss of other rows is shown of
-- these at once.
-- Assumes nothing.
use Prim.Native.Nat.{ℕ}
use mathlib.Core.Path.{◌≡◌, refl, ◌∙◌, ap, subst, fun_ext}
use mathlib.Core.Logic.{◌⊎◌, inl, inr}
use mathlib.Core.Bool.{Bool, true, false, cond}
use mathlib.Core.List.{List, [], ◌∷◌, ◌++◌, append-nil}
use mathlib.Core.Option.{Option, none, some}
use lib.Dec.{eqb}
use borrow.Author.Tests.{eqb-true}
use Rattle.rules.proofs.Reports.{none≢some}
use Rattle.entry.specs.declared.Entry.{Entry}
use Rattle.protocol.specs.Record.{Record}
use Rattle.protocol.specs.Tables.{put}
use Rattle.protocol.specs.Pass.{Out}
use Rattle.protocol.specs.Calls.{Call, Answer, refused, accepted, answer}
use Rattle.protocol.specs.Alone.{alone}
use Rattle.protocol.specs.inside.Runs.{ContentsSetting, Event, made, lost, back, ContentsItem, record_after, wrote_by, record_at, stored_at, written, Comes}
use Rattle.protocol.proofs.Tables.{put_own}
use Rattle.protocol.proofs.Past.{Past}
use Rattle.protocol.proofs.Good.{onto}

-- The view of a record, 0 where there is none.
abbrev pub view_in : Option Record → ℕ
view_in none = 0
view_in (some r) = r.view

-- The past of a list: what was written, and the views of what is stored.
abbrev pub past : List ContentsItem → Past
past l = record { wrote = written l; at = λ i. view_in (stored_at l i) }

module _ (l : List ContentsItem) (i : ℕ) where
  -- One more item, at vault i.
  abbrev pub item : Event → ContentsItem
  item x = record { at = i; event = x }

  -- ---- an accepted call

  module _ (a : Call) (o : Out) (is : answer (record_at l i) a ≡ accepted o) where
    -- After an accepted call its vault has the record that it left, and the others have theirs.
    pub record_accepted : record_at (item (made a) ∷ l) ≡ put i (some o.left) (record_at l)
    unfolding record_at
    record_accepted = ap (λ (u : Answer). put i (record_after (record_at l i) u) (record_at l)) is

    -- The remnant of that record is stored.
    pub stored_accepted : stored_at (item (made a) ∷ l) ≡ put i (some o.left) (stored_at l)
    unfolding stored_at
    stored_accepted = ap (λ (u : Answer). put i (record_after (stored_at l i) u) (stored_at l)) is

    -- The past is the one before it, with what the call answered.
    pub past_accepted : past (item (made a) ∷ l) ≡ onto (past l) i o
    unfolding written
    past_accepted z = record { wrote = wrote z; at = at z }
      where
        wrote : written (item (made a) ∷ l) ≡ put i (written l i ++ o.wrote) (written l)
        wrote = ap (λ (u : Answer). put i (written l i ++ wrote_by u) (written l)) is

        view : (b : Bool) (j : ℕ) → view_in (cond b (some o.left) (stored_at l j)) ≡ cond b o.left.view (view_in (stored_at l j))
        view true j = refl
        view false j = refl

        at : ◌≡◌ {A = ℕ → ℕ} (λ j. view_in (stored_at (item (made a) ∷ l) j)) (put i o.left.view (λ j. view_in (stored_at l j)))
        at = fun_ext (λ j. ap (λ (t : ℕ → Option Record). view_in (t j)) stored_accepted ∙ view (eqb i j) j)

  -- ---- everything else

  -- The vault's record is b, the others have theirs; nothing is written, and what is stored stays.
  pub record Still (x : Event) (b : Option Record) : Type 0 where
    pub records : record_at (item x ∷ l) ≡ put i b (record_at l)
    pub stores : stored_at (item x ∷ l) ≡ stored_at l
    pub entries : written (item x ∷ l) ≡ written l

  -- A record that is there again is the old one, or the own row of the stored one.
  abbrev pub Again : Record → Type 0
  Again r = (record_at l i ≡ some r) ⊎ ((s : Record) × (stored_at l i ≡ some s) × (alone s ≡ r))

  -- An accepted call, or nothing new.
  pub data Happens : Event → Type 0 where
    went : (a : Call) (o : Out) → answer (record_at l i) a ≡ accepted o → Happens (made a)
    stays : {x : Event} (b : Option Record) → Still x b → ((r : Record) → b ≡ some r → Again r) → Happens x

  -- Nothing more is written.
  no_more : put i (written l i ++ []) (written l) ≡ written l
  no_more = ap (λ (es : List Entry). put i es (written l)) (append-nil (written l i)) ∙ put_own i (written l)

  -- A refused call changes nothing.
  still_refused : (a : Call) (k : ℕ) → answer (record_at l i) a ≡ refused k → Still (made a) (record_at l i)
  unfolding record_at stored_at written
  still_refused a k is = record {
    records = ap (λ (u : Answer). put i (record_after (record_at l i) u) (record_at l)) is;
    stores = ap (λ (u : Answer). put i (record_after (stored_at l i) u) (stored_at l)) is ∙ put_own i (stored_at l);
    entries = ap (λ (u : Answer). put i (written l i ++ wrote_by u) (written l)) is ∙ no_more;
  }

  -- After a cut there is no record.
  still_lost : Still lost none
  unfolding record_at stored_at written
  still_lost = record { records = refl; stores = put_own i (stored_at l); entries = no_more }

  -- After a restart there is the own row.
  still_back : (r : Record) → Still (back r) (some (alone r))
  unfolding record_at stored_at written
  still_back r = record { records = refl; stores = put_own i (stored_at l); entries = no_more }

  -- What an item of a run does.
  pub happens : (c : ContentsSetting) (x : Event) → Comes c l i x → Happens x
  happens c lost comes = stays none still_lost (λ r e. absurd (none≢some e))
  happens c (back s) comes = stays (some (alone s)) (still_back s) (λ r e. let same : alone s ≡ r = cc in inr (s, comes.1, same))
  happens c (made a) comes = go (answer (record_at l i) a) refl
    where
      go : (u : Answer) → answer (record_at l i) a ≡ u → Happens (made a)
      go (refused k) is = stays (record_at l i) (still_refused a k is) (λ r e. inl e)
      go (accepted o) is = went a o is

  -- Where nothing is new the past is the same.
  pub past_still : {x : Event} {b : Option Record} → Still x b → past (item x ∷ l) ≡ past l
  past_still s z = record { wrote = s.entries z; at = λ j. view_in (s.stores z j) }

-- In a table with a new entry at i, what holds of the new one and of the old ones holds of each.
pub put_each : {A : Type 0} (P : ℕ → A → Type 0) (i : ℕ) (x : A) (t : ℕ → A) → P i x → ((j : ℕ) → eqb i j ≡ false → P j (t j)) → (j : ℕ) → P j (put i x t j)
put_each P i x t new old j = go (eqb i j) refl
  where
    go : (b : Bool) → eqb i j ≡ b → P j (cond b x (t j))
    go true same = subst (λ (k : ℕ). P k x) (eqb-true i j same) new
    go false other = old j other
