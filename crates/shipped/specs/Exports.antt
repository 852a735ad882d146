-- The calls of a run as hosts make them: by the contracts of the exports `vault_start`, `vault_frame`, `vault_timer`, `vault_write_remnant` and
-- `vault_restart`, whose answer is one number.
-- Assumes nothing.
use Rattle.std.specs.Prelude.{ℕ, ◌-◌, cond, List, ltb}
use contract.Lifetimes.{Lfts}
use denote.Bor.{Bor}
use denote.Ref.{MutBor, at_last}
use Rattle.vault_c.specs.Numbers.{Seen, seen}
use Rattle.vault_c.proofs.vault_start.Reads as of_start
use Rattle.vault_c.proofs.vault_frame.Reads as of_frame
use Rattle.vault_c.proofs.vault_timer.Reads as of_timer
use Rattle.vault_c.proofs.vault_write_remnant.Reads as of_write
use Rattle.vault_c.proofs.vault_restart.Reads as of_restart
use Rattle.contents.specs.Left.{Left, wrote, gave}
use Rattle.runs.specs.Runs.{start, frame, timer, HostCall, call, write, restart}

-- What a host's number says. 'Each gives its number', which is below 256; 'Accepted calls return the byte count written', here above 256.
unfoldable pub left_of : Seen → Left
left_of (seen number rec out) = cond (ltb number 256) (gave number rec out) (wrote (number - 256) rec out)

-- Record r and output space o are lent, and have the bytes rec' and out' when the call is back with its number.
pub data ExportContract : List ℕ → HostCall → List ℕ → Left → Type 0 where
  by_start : (κs : Lfts 2) (r o : MutBor (List ℕ)) (n f id class plan number : ℕ) (rec' out' : List ℕ)
      → of_start.Learnt κs (r, (n, (f, (id, (class, (plan, (o, tt))))))) number (at_last r rec', (n, (f, (id, (class, (plan, (at_last o out', tt)))))))
      → ExportContract r.now (call (start (record { n = n; f = f; id = id; class = class }) plan)) o.now (left_of (seen number rec' out'))
  by_frame : (κs : Lfts 3) (r : MutBor (List ℕ)) (s : Bor (List ℕ)) (o : MutBor (List ℕ)) (link number : ℕ) (rec' out' : List ℕ)
      → of_frame.Learnt κs (r, (link, (s, (o, tt)))) number (at_last r rec', (link, (s, (at_last o out', tt))))
      → ExportContract r.now (call (frame link s.now)) o.now (left_of (seen number rec' out'))
  by_timer : (κs : Lfts 2) (r o : MutBor (List ℕ)) (view number : ℕ) (rec' out' : List ℕ)
      → of_timer.Learnt κs (r, (view, (o, tt))) number (at_last r rec', (view, (at_last o out', tt)))
      → ExportContract r.now (call (timer view)) o.now (left_of (seen number rec' out'))
  by_write : (κs : Lfts 2) (r : Bor (List ℕ)) (o : MutBor (List ℕ)) (number : ℕ) (out' : List ℕ) → of_write.Learnt κs (r, (o, tt)) number (r, (at_last o out', tt))
      → ExportContract r.now write o.now (left_of (seen number r.now out'))
  by_restart : (κs : Lfts 3) (r : MutBor (List ℕ)) (s : Bor (List ℕ)) (o : MutBor (List ℕ)) (number : ℕ) (rec' out' : List ℕ)
      → of_restart.Learnt κs (r, (s, (o, tt))) number (at_last r rec', (s, (at_last o out', tt)))
      → ExportContract r.now (restart s.now) o.now (left_of (seen number rec' out'))
