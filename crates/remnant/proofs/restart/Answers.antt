-- `remnant::restart` meets its contract: 1, 4, 25 and 26 in their order, else the record and its timer entry.
-- Assumes nothing.
use Prim.Native.Nat.{ℕ}
use mathlib.Core.Path.{◌≡◌, ap, ◌∙◌}
use mathlib.Core.Bool.{Bool}
use mathlib.Core.List.{List}
use Rattle.record.specs.Layout.{encode_record}
use Rattle.sound.specs.inside.Sound.{lent_is}
use Rattle.sound.proofs.Laws.{off, on}
use Rattle.own.specs.Part.{restored}
use Rattle.contents.specs.Which.{is_sound}
use Rattle.contents.specs.Remnant.{made_back}
use Rattle.remnant.proofs.Laws.{back_good, blank_by, restart_short, restart_length, restart_held, remnant_length, remnant_unsound, remnant_taken}
use Rattle.remnant.proofs.restart.Goals as goal

pub returns-then-out-lt-ROOM : goal.returns-then-out-lt-ROOM
returns-then-out-lt-ROOM c =
    let a = c.args in
    restart_short a.rec.now a.remnant.now a.out.now c.if-out-lt-ROOM.true

pub returns-then-rec-ne-SIZE : goal.returns-then-rec-ne-SIZE
returns-then-rec-ne-SIZE c =
    let a = c.args in
    restart_length a.rec.now a.remnant.now a.out.now c.if-out-lt-ROOM.false c.if-rec-ne-SIZE.true

pub returns-then-held-ne0 : goal.returns-then-held-ne0
returns-then-held-ne0 c =
    let a = c.args in
    restart_held a.rec.now a.remnant.now a.out.now c.if-out-lt-ROOM.false c.if-rec-ne-SIZE.false c.settings_of-held.ensures c.if-held-ne0.true

pub returns-in_default : goal.returns-in_default
returns-in_default c =
    let a = c.args in
    let blank = blank_by a.rec.now c.if-rec-ne-SIZE.false c.settings_of-held.ensures c.if-held-ne0.false in
    remnant_length a.rec.now a.remnant.now a.out.now c.if-out-lt-ROOM.false blank c.in_default.ensures.1

-- The array holds the bytes lent: so they make a sound record where it does.
lent_as : {part lent : List ℕ} {b : Bool} → part ≡ lent → b ≡ is_sound (lent_is (encode_record (restored part)))
    → b ≡ is_sound (lent_is (encode_record (restored lent)))
lent_as same is = is ∙ ap (λ (s : List ℕ). is_sound (lent_is (encode_record (restored s)))) same

pub returns-then-not-makes_sound : goal.returns-then-not-makes_sound
returns-then-not-makes_sound c =
    let a = c.args in
    let blank = blank_by a.rec.now c.if-rec-ne-SIZE.false c.settings_of-held.ensures c.if-held-ne0.false in
    remnant_unsound a.rec.now a.remnant.now a.out.now c.if-out-lt-ROOM.false blank
    c.in-Ok.ensures.1.long (off (lent_as c.in-Ok.ensures.1.same c.makes_sound.ensures) c.if-not-makes_sound.true)

pub come_back-requires : goal.come_back-requires
come_back-requires c = (
  c.if-rec-ne-SIZE.false,
  record {
    is = c.settings_in-set.ensures;
    good = back_good _ c.settings_in-set.ensures (on c.makes_sound.ensures c.if-not-makes_sound.false);
  },
  c.if-out-lt-ROOM.false,
)

pub returns : goal.returns
returns c =
    let a = c.args in
    let blank = blank_by a.rec.now c.if-rec-ne-SIZE.false c.settings_of-held.ensures c.if-held-ne0.false in
    c.come_back.ensures ∙ ap (λ (s : List ℕ). made_back (restored s) a.out.now) c.in-Ok.ensures.1.same
    ∙ remnant_taken a.rec.now a.remnant.now a.out.now c.if-out-lt-ROOM.false blank
    c.in-Ok.ensures.1.long (on (lent_as c.in-Ok.ensures.1.same c.makes_sound.ensures) c.if-not-makes_sound.false)
