-- Whoever calls an export learns what the paper fixes, with the answer as one number. Crate shipped builds document 01's runs from the same contracts;
-- here a contract that says less, or asks for something, is refused at once.
-- Assumes nothing.
use Prim.Native.Nat.{ℕ}
use mathlib.Core.Path.{◌≡◌}
use mathlib.Core.List.{List}
use contract.Lifetimes.{Lfts}
use denote.Bor.{Bor}
use denote.Ref.{MutBor, at_last}
use Rattle.contents.specs.Calls.{start_left, frame_left, timer_left}
use Rattle.contents.specs.Remnant.{remnant_left, restart_left}
use Rattle.equivocation.specs.Call.{equivocators_left}
use Rattle.reach.specs.Call.{claim_reach}
use Rattle.vault_c.specs.Numbers.{seen, numbered}
use Rattle.vault_c.specs.Asked.{reach_number}
use Rattle.vault_c.proofs.vault_start.Reads as of_start
use Rattle.vault_c.proofs.vault_frame.Reads as of_frame
use Rattle.vault_c.proofs.vault_timer.Reads as of_timer
use Rattle.vault_c.proofs.vault_equivocators.Reads as of_equivocators
use Rattle.vault_c.proofs.vault_write_remnant.Reads as of_write
use Rattle.vault_c.proofs.vault_restart.Reads as of_restart
use Rattle.vault_c.proofs.vault_claim_reach.Reads as of_reach

-- Start asks for nothing of what it is lent.
start_takes : (κs : Lfts 2) (r o : MutBor (List ℕ)) (n f id class plan : ℕ) → of_start.Asked κs (r, (n, (f, (id, (class, (plan, (o, tt)))))))
start_takes κs r o n f id class plan = tt

-- What the caller of start's export learns: the number, and every byte of record and output.
start_said : (κs : Lfts 2) (r o : MutBor (List ℕ)) (n f id class plan number : ℕ) (rec out : List ℕ)
    → of_start.Learnt κs (r, (n, (f, (id, (class, (plan, (o, tt))))))) number (at_last r rec, (n, (f, (id, (class, (plan, (at_last o out, tt)))))))
    → seen number rec out ≡ numbered (start_left r.now (record { n = n; f = f; id = id; class = class }) plan o.now)
start_said κs r o n f id class plan number rec out learnt = learnt

-- So does frame.
frame_takes : (κs : Lfts 3) (r : MutBor (List ℕ)) (s : Bor (List ℕ)) (o : MutBor (List ℕ)) (link : ℕ) → of_frame.Asked κs (r, (link, (s, (o, tt))))
frame_takes κs r s o link = tt

-- What the caller of frame's export learns.
frame_said : (κs : Lfts 3) (r : MutBor (List ℕ)) (s : Bor (List ℕ)) (o : MutBor (List ℕ)) (link number : ℕ) (rec out : List ℕ)
    → of_frame.Learnt κs (r, (link, (s, (o, tt)))) number (at_last r rec, (link, (s, (at_last o out, tt))))
    → seen number rec out ≡ numbered (frame_left r.now link s.now o.now)
frame_said κs r s o link number rec out learnt = learnt

-- And so does timer.
timer_takes : (κs : Lfts 2) (r o : MutBor (List ℕ)) (view : ℕ) → of_timer.Asked κs (r, (view, (o, tt)))
timer_takes κs r o view = tt

-- What the caller of timer's export learns.
timer_said : (κs : Lfts 2) (r o : MutBor (List ℕ)) (view number : ℕ) (rec out : List ℕ)
    → of_timer.Learnt κs (r, (view, (o, tt))) number (at_last r rec, (view, (at_last o out, tt)))
    → seen number rec out ≡ numbered (timer_left r.now view o.now)
timer_said κs r o view number rec out learnt = learnt

-- So does the call that names vaults.
equivocators_takes : (κs : Lfts 3) (r l : Bor (List ℕ)) (o : MutBor (List ℕ)) → of_equivocators.Asked κs (r, (l, (o, tt)))
equivocators_takes κs r l o = tt

-- What the caller of its export learns.
equivocators_said : (κs : Lfts 3) (r l : Bor (List ℕ)) (o : MutBor (List ℕ)) (number : ℕ) (out : List ℕ)
    → of_equivocators.Learnt κs (r, (l, (o, tt))) number (r, (l, (at_last o out, tt)))
    → seen number r.now out ≡ numbered (equivocators_left r.now l.now o.now)
equivocators_said κs r l o number out learnt = learnt

-- So does the call that writes a remnant.
write_takes : (κs : Lfts 2) (r : Bor (List ℕ)) (o : MutBor (List ℕ)) → of_write.Asked κs (r, (o, tt))
write_takes κs r o = tt

-- What the caller of its export learns.
write_said : (κs : Lfts 2) (r : Bor (List ℕ)) (o : MutBor (List ℕ)) (number : ℕ) (out : List ℕ)
    → of_write.Learnt κs (r, (o, tt)) number (r, (at_last o out, tt)) → seen number r.now out ≡ numbered (remnant_left r.now o.now)
write_said κs r o number out learnt = learnt

-- And a restart.
restart_takes : (κs : Lfts 3) (r : MutBor (List ℕ)) (s : Bor (List ℕ)) (o : MutBor (List ℕ)) → of_restart.Asked κs (r, (s, (o, tt)))
restart_takes κs r s o = tt

-- What the caller of its export learns.
restart_said : (κs : Lfts 3) (r : MutBor (List ℕ)) (s : Bor (List ℕ)) (o : MutBor (List ℕ)) (number : ℕ) (rec out : List ℕ)
    → of_restart.Learnt κs (r, (s, (o, tt))) number (at_last r rec, (s, (at_last o out, tt)))
    → seen number rec out ≡ numbered (restart_left r.now s.now o.now)
restart_said κs r s o number rec out learnt = learnt

-- And the call that says how high a claim reaches.
reach_takes : (κs : Lfts 1) (s : Bor (List ℕ)) (p : ℕ) → of_reach.Asked κs (s, (p, tt))
reach_takes κs s p = tt

-- What the caller of its export learns: the number.
reach_said : (κs : Lfts 1) (s : Bor (List ℕ)) (p number : ℕ) → of_reach.Learnt κs (s, (p, tt)) number (s, (p, tt)) → number ≡ reach_number (claim_reach s.now p)
reach_said κs s p number learnt = learnt
