-- The worked lines for wish 1 of document 02: suggests and proofs of vault 1 at vault 3 of 4, which does not lead view 4.
-- Assumes nothing.
use Rattle.std.specs.Prelude.{ℕ, ◌≡◌}
use Rattle.frame.specs.declared.Report.{Report}
use Rattle.frame.specs.declared.Body.TheVariants.{Told}
use Rattle.frame.specs.declared.Frame.{Frame}
use Rattle.frame.specs.Format.{encode}
use Rattle.frame.specs.Refusal.{refusal}

-- 'A report is a mark (1 present, 0 absent), a view (4 bytes) and a plan (8). Absent means all 13 bytes zero.'
abbrev pub report : ℕ → ℕ → ℕ → Report
report mark view plan = record { mark = mark; view = view; plan = plan }

-- The three reports of a suggest (kind 7) or proof (kind 8) for a view: highest, previous, lock.
abbrev pub telling : ℕ → ℕ → Report → Report → Report → Frame
telling kind view highest previous lock =
    record { kind = kind; sender = 1; view = view; body = Told (record { highest = highest; previous = previous; lock = lock }) }

-- The number that its bytes give.
abbrev pub Gives : Frame → ℕ → Type 0
Gives f number = refusal (encode f) 1 4 3 ≡ number

-- Proved as `fault_examples` in proofs/Examples.
pub record FaultExamples : Type 0 where
  -- the highest's view is too high, the lock's mark is bad: the form of all three comes first
  pub form : Gives (telling 8 4 (report 1 4 5) (report 0 0 0) (report 2 0 0)) 14
  -- previous without highest, the lock's view too high: the view of all three comes before the previous vote
  pub view : Gives (telling 8 4 (report 0 0 0) (report 1 2 6) (report 1 4 1)) 21
  -- previous without highest
  pub previous : Gives (telling 8 4 (report 0 0 0) (report 1 2 6) (report 0 0 0)) 22
  -- the same in a suggest that is not for this vault: not 15
  pub suggest : Gives (telling 7 4 (report 0 0 0) (report 1 2 6) (report 0 0 0)) 22
  -- 'suggest for a view this vault does not lead', without a fault
  pub stray : Gives (telling 7 4 (report 0 0 0) (report 0 0 0) (report 0 0 0)) 15
  -- 'view 0 in kind 6, 7 or 8' comes before all of them
  pub zero : Gives (telling 8 0 (report 0 0 0) (report 1 2 6) (report 0 0 0)) 13
