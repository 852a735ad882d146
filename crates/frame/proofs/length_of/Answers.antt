-- `frame::length_of` meets its contract. The columns 'Kind' and 'Length' of the table of frames (01, Frames).
-- Each arm of the match is one form of kind, and each form has its length (`Laws`).
-- Assumes nothing.
use mathlib.Core.Path.{sym}
use native.Mathlib.Omega.{arith}
use Rattle.frame.proofs.Laws.{length_plan, length_bare, length_reports, length_low, length_high}
use Rattle.frame.proofs.length_of.Goals as goal

pub returns-in-6 : goal.returns-in-6
returns-in-6 c = sym (length_bare c.args.kind (omega arith))

pub returns-in-1-to-5 : goal.returns-in-1-to-5
returns-in-1-to-5 c = sym (length_plan c.args.kind (omega arith) (omega arith))

pub returns-in-7-to-8 : goal.returns-in-7-to-8
returns-in-7-to-8 c = sym (length_reports c.args.kind (omega arith) (omega arith))

pub returns-in_default : goal.returns-in_default
returns-in_default c = sym (length_low c.args.kind (omega arith))

pub returns-in_default-2 : goal.returns-in_default-2
returns-in_default-2 c = sym (length_high c.args.kind (omega arith))
