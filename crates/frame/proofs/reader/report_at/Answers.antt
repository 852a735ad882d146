-- `reader::report_at` meets its contract. 'A report is a mark (1 present, 0 absent), a view (4 bytes) and a plan (8)' (01, Frames).
-- Each field is what was read at its place.
-- Assumes nothing.
use Rattle.frame.proofs.reader.report_at.Goals as goal

pub returns : goal.returns
returns c = cc
