-- Whoever calls learns what the paper fixes: the contract names the answer and every byte of the output, and asks for nothing. So what is promised of
-- the names (document 02, wish 5) holds of the bytes that the call wrote; a contract that says less is refused here.
-- Assumes nothing.
use Prim.Native.Nat.{ℕ}
use mathlib.Core.Path.{◌≡◌, sym}
use mathlib.Core.Logic.{◌↔◌}
use mathlib.Core.List.{List, Memᴰ}
use contract.Lifetimes.{Lfts}
use denote.Bor.{Bor}
use denote.Ref.{MutBor, at_last}
use lib.ListN.{take}
use Rattle.std.specs.Prelude.{Result, Ok}
use Rattle.frame.specs.declared.Refusal.{Refusal}
use Rattle.vault.specs.Answers.{left_by}
use Rattle.equivocation.specs.Call.{handed_in, equivocators_left}
use Rattle.equivocation.specs.Sentences.{Twice}
use Rattle.equivocation.proofs.Sentences.{named_iff}
use Rattle.equivocation.proofs.equivocators.Reads as of_equivocators

-- The call asks for nothing of what it is lent.
equivocators_takes : (κs : Lfts 3) (r l : Bor (List ℕ)) (o : MutBor (List ℕ)) → of_equivocators.Asked κs (r, (l, (o, tt)))
equivocators_takes κs r l o = tt

-- What its caller learns: the answer, and every byte of the output.
equivocators_said : (κs : Lfts 3) (r l : Bor (List ℕ)) (o : MutBor (List ℕ)) (a : Result ℕ Refusal) (out : List ℕ)
    → of_equivocators.Learnt κs (r, (l, (o, tt))) a (r, (l, (at_last o out, tt)))
    → left_by a r.now out ≡ equivocators_left r.now l.now o.now
equivocators_said κs r l o a out learnt = learnt

-- So the bytes that it wrote name just those that spoke twice in the records handed in.
equivocators_named : (κs : Lfts 3) (r l : Bor (List ℕ)) (o : MutBor (List ℕ)) (count : ℕ) (out : List ℕ)
    → of_equivocators.Learnt κs (r, (l, (o, tt))) (Ok count) (r, (l, (at_last o out, tt)))
    → (s : ℕ) → Memᴰ s (take count out) ↔ Twice (handed_in l.now r.now) s
equivocators_named κs r l o count out learnt s = named_iff r.now l.now o.now out count s (sym learnt)
