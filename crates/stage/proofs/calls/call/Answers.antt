-- `stage::calls::call` meets its contract: the kinds 00, 01 and 05 are calls at the vault named.
-- Assumes nothing.
use native.Mathlib.Omega.{arith}
use Rattle.stage.proofs.Refusals.{formed_two, formed_deliver}
use Rattle.stage.proofs.Called.{third_named, second_named, kind_starts, kind_delivers, kind_times, bytes_called}
use Rattle.stage.proofs.calls.call.Goals as goal

pub returns-then-bytes-eq-START : goal.returns-then-bytes-eq-START
returns-then-bytes-eq-START c =
    let a = c.args in
    let made = kind_starts a.stage.now a.bytes.now a.out.now c.start.result c.start.new.stage c.start.new.out c.if-bytes-eq-START.true
    c.start.ensures in
    record {
      called = made;
      bytes = bytes_called a.stage.now a.bytes.now a.out.now c.start.result c.start.new.stage c.start.new.out c.fits-stage (λ i. (c.type_inv.bytes i).fits) made;
    }

pub bounds-bytes-1 : goal.bounds-bytes-1
bounds-bytes-1 c =
    omega (arith, formed_deliver c.requires.formed c.if-bytes-eq-DELIVER.true)

pub bounds-bytes-2 : goal.bounds-bytes-2
bounds-bytes-2 c =
    omega (arith, formed_deliver c.requires.formed c.if-bytes-eq-DELIVER.true)

pub deliver-requires : goal.deliver-requires
deliver-requires c =
    third_named c.requires c.if-bytes-eq-DELIVER.true

pub returns-then-bytes-eq-DELIVER : goal.returns-then-bytes-eq-DELIVER
returns-then-bytes-eq-DELIVER c =
    let a = c.args in
    let made = kind_delivers a.stage.now a.bytes.now a.out.now c.deliver.result c.deliver.new.stage c.deliver.new.out c.if-bytes-eq-DELIVER.true
    c.deliver.ensures in
    record {
      called = made;
      bytes = bytes_called a.stage.now a.bytes.now a.out.now c.deliver.result c.deliver.new.stage c.deliver.new.out c.fits-stage (λ i. (c.type_inv.bytes i).fits) made;
    }

pub bounds-bytes-1-2 : goal.bounds-bytes-1-2
bounds-bytes-1-2 c =
    omega (arith, formed_two c.requires.formed)

pub timer-requires : goal.timer-requires
timer-requires c =
    second_named c.requires c.if-bytes-eq-DELIVER.false

pub returns : goal.returns
returns c =
    let a = c.args in
    let made = kind_times a.stage.now a.bytes.now a.out.now c.timer.result c.timer.new.stage c.timer.new.out c.if-bytes-eq-START.false
    c.if-bytes-eq-DELIVER.false c.timer.ensures in
    record {
      called = made;
      bytes = bytes_called a.stage.now a.bytes.now a.out.now c.timer.result c.timer.new.stage c.timer.new.out c.fits-stage (λ i. (c.type_inv.bytes i).fits) made;
    }
