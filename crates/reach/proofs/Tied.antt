-- Whoever calls learns what the paper fixes: the contract names the answer for any bytes and any plan, and asks for nothing. So what is proved of `claim_reach`
-- holds of the call; a contract that says less is refused here.
-- Assumes nothing.
use Prim.Native.Nat.{ℕ}
use mathlib.Core.Path.{◌≡◌}
use mathlib.Core.List.{List}
use contract.Lifetimes.{Lfts}
use denote.Ref.{Bor}
use Rattle.std.specs.Prelude.{Result}
use Rattle.frame.specs.declared.Refusal.{Refusal}
use Rattle.reach.specs.Call.{reached, claim_reach}
use Rattle.reach.proofs.claim_reach.Reads as of_reach

-- The call asks for nothing of what it is lent.
reach_takes : (κs : Lfts 1) (s : Bor (List ℕ)) (p : ℕ) → of_reach.Asked κs (s, (p, tt))
reach_takes κs s p = tt

-- What its caller learns: the answer.
reach_said : (κs : Lfts 1) (s : Bor (List ℕ)) (p : ℕ) (a : Result ℕ Refusal) → of_reach.Learnt κs (s, (p, tt)) a (s, (p, tt)) → reached a ≡ claim_reach s.now p
reach_said κs s p a learnt = learnt
