-- Bytes that calls leave (document 01, 'What a vault keeps'): from what they hold to Ready, and what Ready says of the settings.
-- Assumes nothing.
use Prim.Native.Nat.{ℕ, ◌<◌}
use mathlib.Core.Path.{◌≡◌, ap, sym, subst, ◌∙◌}
use mathlib.Core.Bool.{Bool, cond}
use mathlib.Core.List.{List}
use native.Mathlib.Omega.{arith}
use Rattle.wire.specs.Fields.{Bytes}
use Rattle.frame.specs.Refusal.{first}
use Rattle.settings.specs.Settings.{setting_rows}
use Rattle.settings.specs.inside.Allowed.{Allowed}
use Rattle.settings.proofs.Allowed.{allowed}
use Rattle.record.specs.Slots as slots
use Rattle.record.specs.Slots.{rows}
use Rattle.record.specs.Layout.{encode_record, decode_record}
use Rattle.record.specs.inside.Layout.{HoldsRecord}
use Rattle.record.proofs.Theorems.{encode_decode}
use Rattle.sound.specs.declared.Lent.TheVariants as lent
use Rattle.sound.specs.inside.Sound.{lent_is}
use Rattle.sound.proofs.Laws.{lent_other}
use Rattle.protocol.specs.Record.{Record}
use Rattle.protocol.specs.inside.Sound.{Ranged}
use Rattle.protocol.specs.Sound.{Sound}
use Rattle.contents.specs.Contents.{contents, contents_in, slotted}
use Rattle.contents.specs.inside.Ready.{Ready}
use Rattle.contents.specs.Lent.{Clean}
use Rattle.contents.proofs.Slotted.{slotted_contents}
use Rattle.contents.proofs.Sound.{sound_contents, size_sound, sound_read}

-- ---- bytes that hold a record

module _ {s : List ℕ} {r : slots.Record} (h : HoldsRecord s r) where
  -- Their contents are the record's.
  pub contents_held : contents_in s ≡ contents r
  contents_held = ap contents h.is

  -- They are ready where the record is clean, and its contents are sound and have their widths.
  pub ready_holds : Clean r → Sound (contents r) → Ranged (contents r) → Ready s
  ready_holds clean sound ranged = record {
    size = h.size;
    clean = subst Clean (sym h.is) clean;
    sound = subst Sound (sym contents_held) sound;
    ranged = subst Ranged (sym contents_held) ranged;
  }

  -- The same where the record's contents are known as c.
  pub ready_as : {c : Record} → contents r ≡ c → Clean r → Sound c → Ranged c → Ready s
  ready_as e clean sound ranged = ready_holds clean (subst Sound (sym e) sound) (subst Ranged (sym e) ranged)

-- ---- bytes that are ready

module _ {s : List ℕ} (h : Ready s) where
  -- Their settings pass 5 to 8.
  settings_pass : first (setting_rows (decode_record s).set) ≡ 0
  unfolding contents
  settings_pass = h.sound.settings

  -- 'n is 4 to 64; f is at least 1 with 3f below n', 'id, 0 to n - 1'.
  pub ready_allowed : Allowed (decode_record s).set
  ready_allowed = allowed (decode_record s).set settings_pass

  -- So the own number has a row.
  pub ready_row : (decode_record s).set.id < rows
  ready_row = omega (arith, ready_allowed.most, ready_allowed.own)

  -- They hold the record that their contents fill.
  pub ready_slotted : slotted (contents_in s) ≡ decode_record s
  ready_slotted = slotted_contents (decode_record s) h.clean

-- ---- bytes that are lent

-- Lent bytes that are sound are ready.
pub ready_lent : (rec : List ℕ) → Bytes rec → lent_is rec ≡ lent.Sound → Ready rec
ready_lent rec bytes e =
    let (clean, held, ranged) = sound_read rec bytes e in
    record { size = size_sound rec e; clean = clean; sound = held; ranged = ranged }

-- And bytes that are ready are sound when they are lent.
pub lent_ready : {rec : List ℕ} → Ready rec → lent_is rec ≡ lent.Sound
lent_ready {rec} h =
    lent_other rec h.size (λ (e : (decode_record rec).set.n ≡ 0). omega (arith, (ready_allowed h).own))
    ∙ ap (λ (b : Bool). cond b lent.Sound lent.Unsound) (sound_contents (decode_record rec) h.clean h.sound)

-- ---- bytes that are ready are those that their contents spell

module _ {s : List ℕ} (h : Ready s) (bytes : Bytes s) where
  -- Bytes that are ready are those that their contents spell.
  pub ready_encoded : encode_record (slotted (contents_in s)) ≡ s
  ready_encoded = ap encode_record (ready_slotted h) ∙ encode_decode s bytes h.size

  -- The same where the contents are known as c.
  pub ready_spells : {c : Record} → contents_in s ≡ c → s ≡ encode_record (slotted c)
  ready_spells e = sym ready_encoded ∙ ap (λ (c : Record). encode_record (slotted c)) e
