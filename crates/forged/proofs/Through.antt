-- A test of every call of a stretch of a run, and of the table before it, computed in one pass.
use Prim.Native.Nat.{ℕ, zero, suc, ◌+◌, ◌-◌, ◌<◌, ◌≤◌}
use native.Mathlib.Omega.{arith}
use native.Mathlib.Nat.{le_refl, eq-or-lt_of_le}
use mathlib.Core.Path.{◌≡◌, refl, sym, subst, ◌∙◌}
use mathlib.Core.Logic.{⊎_elim}
use mathlib.Core.Bool.{Bool, true, not, true≢false}
use borrow.Author.Tests.{not-true}
use Rattle.rules.specs.Words.{Machine, Call, Out}
use Rattle.rules.specs.Claim.{both}
use Rattle.rules.proofs.Exact.{both_is, both_on}
use Rattle.orders.specs.Demand.{before}

module _ (next : Machine → Call → Out) (m : Machine) (calls : ℕ → Call) where
  -- p of n calls from k on, where x is the table before call k
  unfoldable pub scan : (ℕ → Machine → Bool) → ℕ → ℕ → Machine → Bool
  scan p k zero x = true
  scan p k (suc n) x = both (p k x) (scan p (suc k) n (next x (calls k)).m)

  pub scan_is : (p : ℕ → Machine → Bool) (k n : ℕ) → scan p k n (before next m calls k) ≡ true
      → (j : ℕ) → k ≤ j → j < k + n → p j (before next m calls j) ≡ true
  unfolding scan before
  scan_is p k zero h j l1 l2 = absurd (omega arith)
  scan_is p k (suc n) h j l1 l2 =
      let q = both_is (p k (before next m calls k)) (scan p (suc k) n (before next m calls (suc k))) h in
      ⊎_elim (λ (e : k ≡ j). subst (λ i. p i (before next m calls i) ≡ true) e q.0)
      (λ (l : k < j). scan_is p (suc k) n q.1 j l (omega arith))
      (eq-or-lt_of_le l1)

  pub scan_on : (p : ℕ → Machine → Bool) (k n : ℕ) → ((j : ℕ) → k ≤ j → j < k + n → p j (before next m calls j) ≡ true)
      → scan p k n (before next m calls k) ≡ true
  unfolding scan before
  scan_on p k zero h = refl
  scan_on p k (suc n) h = both_on (p k (before next m calls k)) (scan p (suc k) n (before next m calls (suc k))) (h k (le_refl k) (omega arith))
      (scan_on p (suc k) n (λ j l1 l2. h j (omega arith) (omega arith)))

  -- p of every call between a and k; of none
  abbrev pub throughout : (ℕ → Machine → Bool) → ℕ → ℕ → Bool
  throughout p a k = scan p (suc a) (k - suc a) (before next m calls (suc a))

  abbrev pub silent : (ℕ → Machine → Bool) → ℕ → ℕ → Bool
  silent p a k = throughout (λ j x. not (p j x)) a k

  pub throughout_is : (p : ℕ → Machine → Bool) (a k : ℕ) → throughout p a k ≡ true
      → (j : ℕ) → a < j → j < k → p j (before next m calls j) ≡ true
  throughout_is p a k h j l1 l2 = scan_is p (suc a) (k - suc a) h j l1 (omega arith)

  pub silent_is : (p : ℕ → Machine → Bool) (a k : ℕ) → silent p a k ≡ true
      → (j : ℕ) → a < j → j < k → p j (before next m calls j) ≡ true → ⊥
  silent_is p a k h j l1 l2 e =
      true≢false (sym e ∙ not-true (p j (before next m calls j)) (throughout_is (λ i x. not (p i x)) a k h j l1 l2))
