-- `layout::place_of` meets its contract: the shared part's slots first, then the block's.
-- Assumes nothing.
use mathlib.Core.Path.{sym}
use native.Mathlib.Omega.{arith}
use Rattle.record.proofs.Laws.{place_shared, place_block}
use Rattle.record.proofs.place_of.Goals as goal

pub returns-then-i-lt-ROWS : goal.returns-then-i-lt-ROWS
returns-then-i-lt-ROWS c = (sym (place_shared c.args.i c.if-i-lt-ROWS.true), omega arith)

pub returns : goal.returns
returns c = (sym (place_block c.args.i c.if-i-lt-ROWS.false), omega arith)
