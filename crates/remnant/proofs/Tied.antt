-- Whoever calls learns what the paper fixes: each contract names the answer and every byte of record and output, and asks for nothing. So what
-- crate contents proves of `remnant_left` and `restart_left` holds of the calls; a contract that says less is refused here.
-- Assumes nothing.
use Prim.Native.Nat.{ℕ}
use mathlib.Core.Path.{◌≡◌}
use mathlib.Core.List.{List}
use contract.Lifetimes.{Lfts}
use denote.Bor.{Bor}
use denote.Ref.{MutBor, at_last}
use Rattle.contents.specs.Remnant.{remnant_left, restart_left}
use Rattle.std.specs.Prelude.{Result}
use Rattle.frame.specs.declared.Refusal.{Refusal}
use Rattle.vault.specs.Answers.{left_by}
use Rattle.remnant.proofs.write_remnant.Reads as of_write
use Rattle.remnant.proofs.restart.Reads as of_restart

-- A write asks for nothing of what it is lent.
write_takes : (κs : Lfts 2) (r : Bor (List ℕ)) (o : MutBor (List ℕ)) → of_write.Asked κs (r, (o, tt))
write_takes κs r o = tt

-- What its caller learns: the answer, and every byte of the output.
write_said : (κs : Lfts 2) (r : Bor (List ℕ)) (o : MutBor (List ℕ)) (a : Result ℕ Refusal) (out : List ℕ) → of_write.Learnt κs (r, (o, tt)) a (r, (at_last o out, tt))
    → left_by a r.now out ≡ remnant_left r.now o.now
write_said κs r o a out learnt = learnt

-- Nor does a restart.
restart_takes : (κs : Lfts 3) (r : MutBor (List ℕ)) (s : Bor (List ℕ)) (o : MutBor (List ℕ)) → of_restart.Asked κs (r, (s, (o, tt)))
restart_takes κs r s o = tt

-- What its caller learns: the answer, and every byte of the record and of the output.
restart_said : (κs : Lfts 3) (r : MutBor (List ℕ)) (s : Bor (List ℕ)) (o : MutBor (List ℕ)) (a : Result ℕ Refusal) (rec out : List ℕ)
    → of_restart.Learnt κs (r, (s, (o, tt))) a (at_last r rec, (s, (at_last o out, tt)))
    → left_by a rec out ≡ restart_left r.now s.now o.now
restart_said κs r s o a rec out learnt = learnt
