-- `remnant::write_remnant` meets its contract: 1, 2 and 3, else the remnant.
-- Assumes nothing.
use mathlib.Core.Path.{◌≡◌, sym, ap}
use borrow.Author.Rules.{rules}
use lib.ListN.{length}
use Rattle.std.specs.Prelude.{Err}
use Rattle.frame.proofs.Laws.{numbered}
use Rattle.record.specs.Layout.{decode_record}
use Rattle.contents.specs.Which.{is_sound}
use Rattle.contents.proofs.Sound.{size_sound}
use Rattle.remnant.proofs.Laws.{write_sound, sound_good, own_row, write_refused, write_accepted}
use Rattle.remnant.proofs.write_remnant.Goals as goal

pub returns-in_err-write_refusal : goal.returns-in_err-write_refusal
returns-in_err-write_refusal c =
    let a = c.args in
    let is : c.from_residual.result ≡ Err c.in_err-write_refusal.field-0.0 = search rules in
    rw is (write_refused a.rec.now a.out.now _ c.in_err-write_refusal.ensures (numbered _))

pub load-requires : goal.load-requires
load-requires c =
    let a = c.args in
    let rec = a.rec.now in
    let (room, is) = write_sound rec (length a.out.now) (sym c.in_ok-write_refusal.ensures) in
    (size_sound rec is, own_row (decode_record rec).set (sound_good rec (ap is_sound is)), room)

pub returns : goal.returns
returns c =
    let a = c.args in
    write_accepted a.rec.now a.out.now c.load.new.own (sym c.in_ok-write_refusal.ensures)
    c.load.ensures
