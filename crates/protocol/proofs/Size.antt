-- An accepted call writes at most 205 bytes, so the 256 that refusal 1 asks for are enough.
-- Each step writes for one act at most: a view-change 7, entering a view 102, a vote 15, a decision 14 bytes.
-- Assumes nothing.
use Prim.Native.Nat.{ℕ, suc, ◌+◌, ◌≤◌}
use mathlib.Core.Path.{◌≡◌, refl, subst}
use mathlib.Core.Bool.{Bool, true, false, not}
use mathlib.Core.List.{List, [], ◌∷◌, ◌++◌}
use mathlib.Core.Option.{Option, none, some}
use native.Mathlib.Omega.{arith}
use lib.ListN.{length, length-append}
use Rattle.rules.specs.Quorums.{is_blocking}
use Rattle.rules.specs.Options.{is_none}
use Rattle.wire.specs.inside.Widths.{widths, total_width}
use Rattle.wire.proofs.Laws.{length_spell}
use Rattle.frame.specs.Format.{fields_of, encode}
use Rattle.entry.specs.declared.Entry.{Entry}
use Rattle.entry.specs.declared.Entry.TheVariants.{ForAll, ForOne, Timer, Decision}
use Rattle.entry.specs.Layout.{host_fields, entry_bytes, layout}
use Rattle.protocol.specs.Record.{Record, when, each, highest, leads, change_of, plan_now, leader, sent_now}
use Rattle.protocol.specs.Pass.{Act, ask, enter, cast, decide, does, suggest_entry, writes, asked, is_news, act_a, can_enter, act_b, may_propose}
use Rattle.protocol.specs.Pass.{chosen, act_c, approves, act_d, agreed, act_vote, act_h, Out, Step, taken, pass, step_a, step_b, step_c, step_d}
use Rattle.protocol.specs.Pass.{step_vote, step_h, from_c, from_a}
use Rattle.protocol.specs.Short.{OutputIsShort}
use Rattle.protocol.specs.Calls.{fresh, started, keep, heard, wanted, timed_out, Call, accepted, answer}
use Rattle.protocol.proofs.Tables.{each_some, when_some}
use Rattle.protocol.proofs.Went.{accepted_by}

-- ---- bytes

-- The bytes of an entry, and of several.
abbrev size : Entry → ℕ
size (ForAll x) = 1 + total_width (widths (fields_of x))
size (ForOne i x) = 1 + total_width (widths (fields_of x))
size (Timer v ms) = 10
size (Decision v p) = 14

-- The bytes of several entries.
abbrev sizes : List Entry → ℕ
sizes [] = 0
sizes (e ∷ es) = size e + sizes es

-- An entry's bytes are as many as `size` says.
entry_length : (e : Entry) → length (entry_bytes e) ≡ size e
unfolding entry_bytes encode
entry_length (ForAll x) = omega (arith, length_spell (fields_of x))
entry_length (ForOne i x) = omega (arith, length_spell (fields_of x))
entry_length (Timer v ms) = length_spell (host_fields 11 v 4 ms)
entry_length (Decision v p) = length_spell (host_fields 10 v 8 p)

-- So are those of entries end to end.
layout_length : (es : List Entry) → length (layout es) ≡ sizes es
layout_length [] = refl
layout_length (e ∷ es) = omega (arith, length-append (entry_bytes e) (layout es), entry_length e, layout_length es)

-- Entries after entries: their bytes add up.
sizes_join : (es fs : List Entry) → sizes (es ++ fs) ≡ sizes es + sizes fs
sizes_join [] fs = omega arith
sizes_join (e ∷ es) fs = omega (arith, sizes_join es fs)

-- ---- acts

-- How many bytes an act writes at most.
abbrev cost : Act → ℕ
cost (ask w) = 7
cost (enter w) = 102
cost (cast k p) = 15
cost (decide p) = 14

-- An act writes no more than that.
act_size : (r : Record) (a : Act) → sizes (writes r a) ≤ cost a
unfolding writes
act_size r (ask w) = omega arith
act_size r (enter w) = go (leads r w)
  where
    go : (b : Bool) → 10 + (46 + sizes (suggest_entry r w b)) ≤ 102
    go true = omega arith
    go false = omega arith
act_size r (cast k p) = omega arith
act_size r (decide p) = omega arith

-- ---- steps

-- The act of a step, where it has the form of the steps' definitions.
pub act_is : {A : Type 0} (o : Option A) (test : A → Bool) (f : A → Act) {a : Act} → each o (λ x. when (test x) (some (f x))) ≡ some a → (x : A) × (f x ≡ a)
act_is o test f {a} e =
    let (x, is, g) = each_some o _ e in
    let (t, q) = when_some (test x) (some (f x)) g in
    let same : f x ≡ a = cc in
    (x, same)

-- A step's act writes at most m bytes.
abbrev Costs : (Record → Option Act) → ℕ → Type 0
Costs act m = (r : Record) (a : Act) → act r ≡ some a → cost a ≤ m

-- A view-change: 7.
cost_a : Costs act_a 7
cost_a r a e = let (w, is) = act_is (highest (asked r is_blocking) (change_of r) r.set.n) (is_news r) ask e in subst (λ (b : Act). cost b ≤ 7) is (omega arith)

-- Entering a view: 102.
cost_b : Costs act_b 102
cost_b r a e = let (w, is) = act_is (highest (can_enter r) (change_of r) r.set.n) (λ w. true) enter e in subst (λ (b : Act). cost b ≤ 102) is (omega arith)

-- A proposal: 15.
cost_c : Costs act_c 15
cost_c r a e =
    let (t, g) = when_some (may_propose r) _ e in
    let (p, is) = act_is (chosen r) (λ p. true) (cast 0) g in
    subst (λ (b : Act). cost b ≤ 15) is (omega arith)

-- Vote-1: 15.
cost_d : Costs act_d 15
cost_d r a e = let (p, is) = act_is (plan_now r 0 (leader r r.view)) (approves r) (cast 1) e in subst (λ (b : Act). cost b ≤ 15) is (omega arith)

-- Votes 2 to 4: 15 each.
cost_vote : (k : ℕ) → Costs (λ r. act_vote r k) 15
cost_vote k r a e = let (p, is) = act_is (agreed r k) (λ p. not (sent_now r (suc k))) (cast (suc k)) e in subst (λ (b : Act). cost b ≤ 15) is (omega arith)

-- A decision: 14.
cost_h : Costs act_h 14
cost_h r a e = let (p, is) = act_is (agreed r 4) (λ p. is_none r.decision) decide e in subst (λ (b : Act). cost b ≤ 14) is (omega arith)

-- So a step writes at most m bytes.
taken_size : (act : Record → Option Act) (m : ℕ) → Costs act m → (r : Record) → sizes (taken r (act r)).wrote ≤ m
taken_size act m costs r = go (act r) refl
  where
    go : (o : Option Act) → act r ≡ o → sizes (taken r o).wrote ≤ m
    go none e = omega arith
    go (some a) e = omega (arith, act_size r a, costs r a e)

-- ---- passes and calls

-- A pass writes what its first step writes, and what the rest does.
pass_size : (s : Step) (l : List Step) (m k : ℕ) → ((r : Record) → sizes (s r).wrote ≤ m) → ((r : Record) → sizes (pass l r).wrote ≤ k)
    → (r : Record) → sizes (pass (s ∷ l) r).wrote ≤ m + k
unfolding pass
pass_size s l m k here rest r = omega (arith, sizes_join (s r).wrote (pass l (s r).left).wrote, here r, rest (s r).left)

-- A pass of no steps writes nothing.
none_size : (r : Record) → sizes (pass [] r).wrote ≤ 0
unfolding pass
none_size r = omega arith

-- From C on: a proposal and four votes of 15 bytes each, and a decision of 14.
size_c : (r : Record) → sizes (pass from_c r).wrote ≤ 89
unfolding step_c step_d step_vote step_h
size_c =
    pass_size step_c _ 15 74 (taken_size act_c 15 cost_c)
    (pass_size step_d _ 15 59 (taken_size act_d 15 cost_d) (pass_size (step_vote 1) _ 15 44 (taken_size (λ r. act_vote r 1) 15 (cost_vote 1))
    (pass_size (step_vote 2) _ 15 29 (taken_size (λ r. act_vote r 2) 15 (cost_vote 2)) (pass_size (step_vote 3) _ 15 14 (taken_size (λ r. act_vote r 3) 15 (cost_vote 3))
    (pass_size step_h [] 14 0 (taken_size act_h 14 cost_h) none_size)))))

-- From A on: 7 and 102 bytes more.
size_a : (r : Record) → sizes (pass from_a r).wrote ≤ 198
unfolding step_a step_b
size_a = pass_size step_a _ 7 191 (taken_size act_a 7 cost_a) (pass_size step_b from_c 102 89 (taken_size act_b 102 cost_b) size_c)

-- The longest output is a timer's: its own view-change adds 7 bytes to a pass from A.
call_size : (b : Option Record) (a : Call) (o : Out) → answer b a ≡ accepted o → sizes o.wrote ≤ 205
unfolding started heard timed_out
call_size =
    accepted_by (λ b a o. sizes o.wrote ≤ 205)
    (λ s p given. omega (arith, size_c (fresh s p)))
    (λ r x given. omega (arith, size_a (keep x r)))
    (λ r v given. omega (
      arith,
      sizes_join (writes r (ask (wanted r))) (pass from_a (does r (ask (wanted r)))).wrote,
      act_size r (ask (wanted r)),
      size_a (does r (ask (wanted r))),
    ))

-- Every accepted call writes at most 205 bytes.
pub output_short : OutputIsShort
output_short b a o e = omega (arith, layout_length o.wrote, call_size b a o e)
