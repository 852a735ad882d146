-- Whoever calls learns what the paper fixes: the contract of each call, as its caller reads it, names the answer and every byte of
-- record and output. Crate shipped builds document 01's runs from the same contracts; here a contract that says less is refused at once.
-- Assumes nothing.
use Prim.Native.Nat.{ℕ}
use mathlib.Core.Path.{◌≡◌}
use mathlib.Core.List.{List}
use contract.Lifetimes.{Lfts}
use denote.Bor.{Bor}
use denote.Ref.{MutBor, at_last}
use Rattle.settings.specs.declared.Settings.{Settings}
use Rattle.contents.specs.Calls.{start_left, frame_left, timer_left}
use Rattle.std.specs.Prelude.{Result}
use Rattle.frame.specs.declared.Refusal.{Refusal}
use Rattle.vault.specs.Answers.{left_by}
use Rattle.vault.proofs.start.Reads as of_start
use Rattle.vault.proofs.frame.Reads as of_frame
use Rattle.vault.proofs.timer.Reads as of_timer

-- Start asks for nothing of what it is lent.
start_takes : (κs : Lfts 2) (r o : MutBor (List ℕ)) (set : Settings) (plan : ℕ) → of_start.Asked κs (r, (set, (plan, (o, tt))))
start_takes κs r o set plan = tt

-- What start's caller learns: the answer, and every byte of record and output.
start_said : (κs : Lfts 2) (r o : MutBor (List ℕ)) (set : Settings) (plan : ℕ) (a : Result ℕ Refusal) (rec out : List ℕ)
    → of_start.Learnt κs (r, (set, (plan, (o, tt)))) a (at_last r rec, (set, (plan, (at_last o out, tt))))
    → left_by a rec out ≡ start_left r.now set plan o.now
start_said κs r o set plan a rec out learnt = learnt

-- So does frame.
frame_takes : (κs : Lfts 3) (r : MutBor (List ℕ)) (s : Bor (List ℕ)) (o : MutBor (List ℕ)) (link : ℕ) → of_frame.Asked κs (r, (link, (s, (o, tt))))
frame_takes κs r s o link = tt

-- What frame's caller learns.
frame_said : (κs : Lfts 3) (r : MutBor (List ℕ)) (s : Bor (List ℕ)) (o : MutBor (List ℕ)) (link : ℕ) (a : Result ℕ Refusal) (rec out : List ℕ)
    → of_frame.Learnt κs (r, (link, (s, (o, tt)))) a (at_last r rec, (link, (s, (at_last o out, tt))))
    → left_by a rec out ≡ frame_left r.now link s.now o.now
frame_said κs r s o link a rec out learnt = learnt

-- And so does timer.
timer_takes : (κs : Lfts 2) (r o : MutBor (List ℕ)) (view : ℕ) → of_timer.Asked κs (r, (view, (o, tt)))
timer_takes κs r o view = tt

-- What timer's caller learns.
timer_said : (κs : Lfts 2) (r o : MutBor (List ℕ)) (view : ℕ) (a : Result ℕ Refusal) (rec out : List ℕ)
    → of_timer.Learnt κs (r, (view, (o, tt))) a (at_last r rec, (view, (at_last o out, tt)))
    → left_by a rec out ≡ timer_left r.now view o.now
timer_said κs r o view a rec out learnt = learnt
