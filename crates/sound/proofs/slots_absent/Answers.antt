-- `sound::slots_absent` meets its contract: the bytes of the slots are one part of the record.
-- Assumes nothing.
use Prim.Native.Nat.{ℕ, ◌+◌, ◌-◌, ◌*◌, ◌≤◌}
use mathlib.Core.Path.{◌≡◌, ap, ◌∙◌}
use native.Mathlib.Omega.{arith}
use lib.ListN.{length, take, drop}
use Rattle.record.specs.Layout.{slot_size}
use Rattle.sound.specs.inside.Sound.{all}
use Rattle.sound.specs.inside.Bulk.{zero_in, zero_from}
use Rattle.sound.proofs.Places.{run_absent, run_fits, zero_part}
use Rattle.sound.proofs.slots_absent.Goals as goal

pub slice_bounds-zero-end : goal.slice_bounds-zero-end
slice_bounds-zero-end c =
    let at = c.place_of-at.ensures.0 in
    let h = run_fits c.args.from c.args.count c.requires.0 in
    omega (arith, at, h, c.requires.1)

pub returns : goal.returns
returns c =
    let bytes = c.args.rec.now in
    let at = c.place_of-at.result in
    let e = c.place_of-at.ensures.0 in
    let h = run_fits c.args.from c.args.count c.requires.0 in
    let room : at + slot_size * c.args.count ≤ length bytes = omega (arith, e, h, c.requires.1) in
    let part = take (at + slot_size * c.args.count - at) (drop at bytes) in
    let zeros : c.zero.result ≡ all (zero_in part) (length part) = c.zero.ensures in
    zeros ∙ zero_part bytes at (slot_size * c.args.count) room
    ∙ ap (λ (x : ℕ). all (zero_from bytes x) (slot_size * c.args.count)) e
    ∙ run_absent bytes c.args.from c.args.count c.requires.0
