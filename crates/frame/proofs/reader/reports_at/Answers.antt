-- `reader::reports_at` meets its contract. 'three reports' (01, Frames).
-- Each report is what was read at its place, 13 bytes after the one before.
-- Assumes nothing.
use Rattle.frame.proofs.reader.reports_at.Goals as goal

pub returns : goal.returns
returns c = λ i. record {
  highest = c.report_at-highest.ensures i;
  previous = c.report_at-previous.ensures i;
  lock = c.report_at-lock.ensures i;
}
