-- An LLX after a finished change is undisturbed: A's change of 0 has answered yes, and only B is called. On the rules' own machine it takes
-- 9; on one that never commits it does not.
use Prim.Native.Nat.{ℕ, zero, suc, ◌/◌, ◌%◌, ◌^◌, ◌<◌}
use native.Mathlib.Omega.{arith}
use mathlib.Core.Path.{◌≡◌, refl, sym, ap, subst, ◌∙◌}
use mathlib.Core.Bool.{true}
use mathlib.Core.List.{List, ◌∷◌, ◌++◌}
use lib.Dec.{eqb}
use borrow.Author.Tests.{ltb-true, eqb-true}
use Rattle.rules.specs.Words.{Cell, Own, Machine, Call, Out, AskScx, Snapshot}
use Rattle.rules.specs.Claim.{all_below}
use Rattle.orders.specs.Demand.{at_h8, said, Change, Closes, Verdict}
use Rattle.bounds.specs.Bounds.{own, UndisturbedLlx, Bounds}
use Rattle.forged.specs.Broken.{never_commits}
use Rattle.forged.proofs.Through.{throughout, throughout_is}
use Rattle.forged.proofs.Events.{begun, starts, goes_on, verdict}
use Rattle.forged.proofs.OneChange.{only, same_call, same_verdict}
use Rattle.forged.proofs.Script.{computed, table, script, A, B, goes, reads, writes, just}
use Rattle.rules.specs.Next.{next, llx}

no_bit : (i : ℕ) → i < 1 → 0 / 2 ^ i % 2 ≡ 1 → ⊥
no_bit zero l h = let z : ◌≡◌ {A = ℕ} 0 1 = h in omega arith
no_bit (suc i) l h = omega arith

unfoldable pub left_open : ℕ → Call
left_open = script (reads A 0 ++ (writes A 0 7 ∷ goes A 4) ++ (llx B 0 ∷ goes B 12))

-- of any machine x on which A's change, started at 10, brings a yes at call 14
module _ (x : Machine → Call → Out) (the : Change x table left_open) (at-10 : the.start ≡ 10) (its : Verdict x table left_open the 14 true) where
  one : all_below 25 (only x table left_open the.start) ≡ true
  unfolding computed left_open
  one = rw at-10 refl

  all_B : throughout x table left_open (λ j m. eqb (left_open j).task B) 15 25 ≡ true
  unfolding computed left_open
  all_B = refl

  -- any change of the run is that one
  module _ (c : Change x table left_open) (l : c.start < 25) where
    same_ask : AskScx 1 0 0 0 7 ≡ AskScx c.n c.closing c.written c.field c.new
    unfolding left_open
    same_ask = ap (λ (e : Call). e.ask) (ap left_open (sym at-10) ∙ same_call the c 25 one l)

    closes_not : Closes x table left_open c 0 → ⊥
    closes_not (i, h, q, e) =
        let n : c.n ≡ 1 = let z = same_ask in cc in
        let none : c.closing ≡ 0 = let z = same_ask in cc in
        no_bit i (subst (λ n. i < n) n h) (subst (λ r. r / 2 ^ i % 2 ≡ 1) none q)

  undisturbed : UndisturbedLlx x table left_open 15 B 0 25
  undisturbed = record {
    not_closed = λ c j l E. closes_not c (omega (arith, E.during.later));
    not_held = λ c j l H. (14, true, ltb-true 14 15 refl, same_verdict the c 25 one (omega (arith, H.during.later)) 14 true its);
    since_start = λ c j a b n H. n (eqb-true (left_open j).task B
        (throughout_is x table left_open (λ j m. eqb (left_open j).task B) 15 25 all_B j a b));
  }

-- the rules' own machine: the LLX ends with its 9th own step
abbrev own_change : Change next table left_open
unfolding computed table left_open
own_change = begun next table left_open 10 A 1 (just 0) 0 0 0 7 1 refl refl refl

own_verdict : Verdict next table left_open own_change 14 true
unfolding computed table left_open
own_verdict = verdict own_change 14 A Own true refl (refl, refl) at_h8 (refl, refl)

pub undisturbed_llx_later : UndisturbedLlx next table left_open 15 B 0 25 × (own next table left_open 15 B 24 ≡ 8)
    × ((cells : List Cell) × (said next table left_open 24 ≡ Snapshot cells))
unfolding computed table left_open own own_change
undisturbed_llx_later = (undisturbed next own_change refl own_verdict, refl, (_, refl))

-- undisturbed_llx, no commit: B's LLX is in progress after 9 steps
abbrev the_change : Change never_commits table left_open
unfolding computed table left_open never_commits
the_change = begun never_commits table left_open 10 A 1 (just 0) 0 0 0 7 1 refl refl refl

the_verdict : Verdict never_commits table left_open the_change 14 true
unfolding computed table left_open never_commits
the_verdict = verdict the_change 14 A Own true refl (refl, refl) at_h8 (refl, refl)

pub never_commits_fails : Bounds never_commits table left_open → ⊥
unfolding computed table left_open never_commits own the_change
never_commits_fails D =
    let g = goes_on never_commits table left_open B 15 25 refl refl in
    let l : own never_commits table left_open 15 B 25 < 9 =
    (D.undisturbed_llx 15 B 0 25 (starts never_commits table left_open refl refl) (ltb-true 15 25 refl)
    (undisturbed never_commits the_change refl the_verdict)).0 g in
    let z : own never_commits table left_open 15 B 25 ≡ 9 = refl in
    omega arith
