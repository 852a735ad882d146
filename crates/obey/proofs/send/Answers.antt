-- `obey::send` meets its contract: 'a new frame gets the smallest free one', 'led by fc and its number, or by fb where 256 wait and it is lost'.
-- Assumes nothing.
use Prim.Native.Nat.{◌<◌}
use mathlib.Core.Path.{refl}
use native.Mathlib.Omega.{arith}
use Rattle.lines.proofs.Digits.{length_digits_of}
use Rattle.stage.specs.Stage.{place_count}
use Rattle.stage.specs.inside.Parts.{free_number}
use Rattle.obey.specs.inside.Parts.{head_of}
use Rattle.obey.proofs.Sent.{head_short, lost_done, waits_done}
use Rattle.obey.proofs.send.Goals as goal

pub put_line-end-requires : goal.put_line-end-requires
put_line-end-requires c =
    let k = free_number c.first_free-number.result in
    let a = c.args in
    omega (arith, c.put_head-mid.ensures.ends, length_digits_of (head_of k a.way.to), head_short k a.way.to)

pub returns-in-Some : goal.returns-in-Some
returns-in-Some c =
    let a = c.args in
    let h = c.put_head-mid in
    let below : c.in-Some.k < place_count = omega arith in
    let head = rw c.in-Some.is at h.ensures in
    waits_done a.stage.now a.page.now a.at c.in-Some.k a.way a.frame.now c.in-Some.ensures (omega (arith, c.requires.1)) below
    c.put_waiting.new.stage h.new.page h.result c.put_line-end.new.page c.put_line-end.result head c.put_line-end.ensures c.put_waiting.ensures.with_waiting

pub returns-in_default : goal.returns-in_default
returns-in_default c =
    let a = c.args in
    let h = c.put_head-mid in
    let head = rw c.in_default.is at h.ensures in
    lost_done a.stage.now a.page.now a.at place_count a.way a.frame.now c.in_default.ensures (omega (arith, c.requires.1)) refl
    h.new.page h.result c.put_line-end.new.page c.put_line-end.result head c.put_line-end.ensures
