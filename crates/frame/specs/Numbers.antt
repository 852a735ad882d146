-- The numbers by which document 01 and document 02 name the refusals.
-- Assumes nothing.
use Rattle.std.specs.Prelude.{ℕ}
use Rattle.frame.specs.declared.Refusal.{Refusal}
use Rattle.frame.specs.declared.Refusal.TheVariants as why

-- The column 'No.' of the tables of refusals.
abbrev pub number_of : Refusal → ℕ
number_of why.Output = 1
number_of why.Blank = 2
number_of why.Unsound = 3
number_of why.Started = 4
number_of why.N = 5
number_of why.F = 6
number_of why.Id = 7
number_of why.Class = 8
number_of why.Kind = 9
number_of why.Length = 10
number_of why.Link = 11
number_of why.Sender = 12
number_of why.ViewZero = 13
number_of why.Report = 14
number_of why.Leader = 15
number_of why.Over = 16
number_of why.Kept = 17
number_of why.Timer = 18
number_of why.LastView = 19
number_of why.Line = 20
number_of why.ReportView = 21
number_of why.Previous = 22
number_of why.Name = 23
number_of why.Records = 24
number_of why.RemnantLength = 25
number_of why.RemnantUnsound = 26
