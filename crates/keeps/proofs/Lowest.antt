-- "Each is given exactly then, the lowest that applies to the call": a call that fails its check breaks the rule of that refusal and
-- keeps all rules before it, and the numbers of a call's rules rise. They are those that document 01 says it can meet.
use Prim.Native.Nat.{ℕ}
use native.Mathlib.Omega.{arith}
use mathlib.Core.Path.{◌≡◌, refl, ap}
use mathlib.Core.Bool.{Bool, true, false}
use mathlib.Core.List.{List, [], ◌∷◌, ◌++◌, map}
use lib.Dec.{ltb}
use Rattle.rules.specs.Words.{Machine, Call, Refusal, Ok, Err}
use Rattle.rules.specs.Words.{Ask, AskLlx, AskScx, AskVlx, AskRead, AskStep}
use Rattle.table.specs.Table.{pick}
use Rattle.rules.specs.Claim.{test}
use Rattle.rules.specs.Answer.{refusal_number}
use Rattle.rules.specs.Refuse.{Rule, check, rules, rules_of}

-- the rule that is broken, behind rules that are all kept
pub record Broken (rs : List Rule) (why : Refusal) : Type 0 where
  pub kept : List Rule
  pub broken : Rule
  pub others : List Rule
  pub are : rs ≡ kept ++ (broken ∷ others)
  pub all_kept : check kept ≡ Ok tt
  pub fails : test 0 broken.unless ≡ false
  pub named : broken.why ≡ why

pub lowest : (rs : List Rule) (why : Refusal) → check rs ≡ Err why → Broken rs why
lowest [] why h = let z : ◌≡◌ {A = ℕ} 0 1 = cc in absurd (omega arith)
lowest (x ∷ xs) why h = go (test 0 x.unless) refl h (λ e. lowest xs why e)
  where
    go : (b : Bool) → test 0 x.unless ≡ b → pick b (check xs) (Err x.why) ≡ Err why → (check xs ≡ Err why → Broken xs why)
        → Broken (x ∷ xs) why
    go true e f later =
        let y = later f in
        record {
          kept = x ∷ y.kept;
          broken = y.broken;
          others = y.others;
          are = ap (λ (l : List Rule). x ∷ l) y.are;
          all_kept = rw e y.all_kept;
          fails = y.fails;
          named = y.named;
        }
    go false e f later = record { kept = []; broken = x; others = xs; are = refl; all_kept = refl; fails = e; named = cc }

-- each number is above the one before it
abbrev rising : ℕ → List Rule → Bool
rising n [] = true
rising n (x ∷ xs) = pick (ltb n (refusal_number x.why)) (rising (refusal_number x.why) xs) false

from_11 : (P N used : ℕ) (idle linked : Bool) (t : ℕ) (ask : Ask) (l : List ℕ) → rising 10 (rules P N used idle linked t ask l) ≡ true
from_11 P N used idle linked t (AskLlx r) l = refl
from_11 P N used idle linked t (AskScx n r written field new) l = refl
from_11 P N used idle linked t (AskVlx n) l = refl
from_11 P N used idle linked t (AskRead r f) l = refl
from_11 P N used idle linked t AskStep l = refl

pub in_order : (m : Machine) (e : Call) → rising 9 (rules_of m e) ≡ true
unfolding rules_of
in_order m e = from_11 m.p m.n m.used _ _ e.task e.ask e.list

-- "LLX can meet 10, 11, 12, 15; READ these and 17; VLX 10 to 12, 14 to 16, 18; SCX 10 to 12, 14 to 19; STEP 10, 11, 13."
abbrev pub meets : Ask → List ℕ
meets (AskLlx r) = 10 ∷ 11 ∷ 12 ∷ 15 ∷ []
meets (AskScx n r written field new) = 10 ∷ 11 ∷ 12 ∷ 14 ∷ 15 ∷ 16 ∷ 17 ∷ 18 ∷ 19 ∷ []
meets (AskVlx n) = 10 ∷ 11 ∷ 12 ∷ 14 ∷ 15 ∷ 16 ∷ 18 ∷ []
meets (AskRead r f) = 10 ∷ 11 ∷ 12 ∷ 15 ∷ 17 ∷ []
meets AskStep = 10 ∷ 11 ∷ 13 ∷ []

pub numbers : List Rule → List ℕ
numbers rs = map (λ (x : Rule). refusal_number x.why) rs

after_10 : (P N used : ℕ) (idle linked : Bool) (t : ℕ) (ask : Ask) (l : List ℕ) → 10 ∷ numbers (rules P N used idle linked t ask l) ≡ meets ask
unfolding numbers
after_10 P N used idle linked t (AskLlx r) l = refl
after_10 P N used idle linked t (AskScx n r written field new) l = refl
after_10 P N used idle linked t (AskVlx n) l = refl
after_10 P N used idle linked t (AskRead r f) l = refl
after_10 P N used idle linked t AskStep l = refl

pub can_meet : (m : Machine) (e : Call) → numbers (rules_of m e) ≡ meets e.ask
unfolding rules_of numbers
can_meet m e = after_10 m.p m.n m.used _ _ e.task e.ask e.list
