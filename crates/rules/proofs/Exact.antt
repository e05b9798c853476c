-- The test of a claim passes exactly where the claim is a fact; and a fact stays one as more numbers are used.
use Prim.Native.Nat.{ℕ, zero, suc, ◌<◌, ◌≤◌}
use native.Mathlib.Omega.{arith}
use native.Mathlib.Nat.{le_trans, not-suc-le-zero, eq-or-lt_of_le, le_of_suc-le-suc}
use mathlib.Core.Path.{◌≡◌, refl}
use mathlib.Core.Logic.{⊎_elim}
use mathlib.Core.Bool.{Bool, true, false, false≢true}
use borrow.Author.Tests.{ltb-true, leb-true, lt-ltb, le-leb}
use Rattle.rules.specs.Claim.{Claim, always, less, known, holds, ◌&◌, each, when, both, given, all_below, test, Says}

pub both_is : (a b : Bool) → both a b ≡ true → (a ≡ true) × (b ≡ true)
unfolding both
both_is true b e = (refl, e)
both_is false b e = absurd (false≢true e)

pub both_on : (a b : Bool) → a ≡ true → b ≡ true → both a b ≡ true
unfolding both
both_on a b e f = rw e f

pub all_is : (n : ℕ) (f : ℕ → Bool) → all_below n f ≡ true → (k : ℕ) → k < n → f k ≡ true
unfolding all_below
all_is zero f h k l = absurd (not-suc-le-zero l)
all_is (suc n) f h k l =
    ⊎_elim (λ (e : k ≡ n). rw e (both_is (all_below n f) (f n) h).1) (λ (e : k < n). all_is n f (both_is (all_below n f) (f n) h).0 k e)
    (eq-or-lt_of_le (le_of_suc-le-suc l))

pub all_on : (n : ℕ) (f : ℕ → Bool) → ((k : ℕ) → k < n → f k ≡ true) → all_below n f ≡ true
unfolding all_below
all_on zero f h = refl
all_on (suc n) f h = both_on (all_below n f) (f n) (all_on n f (λ k l. h k (omega arith))) (h n (omega arith))

-- a test that passes says the claim
pub told : (used : ℕ) (x : Claim) → test used x ≡ true → Says used x
unfolding given
told used always e = tt
told used (less a b) e = ltb-true a b e
told used (known u) e = leb-true u used e
told used (holds b) e = e
told used (x & y) e = (told used x (both_is (test used x) (test used y) e).0, told used y (both_is (test used x) (test used y) e).1)
told used (each n f) e = λ k l. told used (f k) (all_is n (λ k. test used (f k)) e k l)
told used (when true x) e = λ _. told used x e
told used (when false x) e = λ h. absurd (false≢true h)

-- a claim that is a fact passes its test
pub passes : (used : ℕ) (x : Claim) → Says used x → test used x ≡ true
unfolding given
passes used always h = refl
passes used (less a b) h = lt-ltb a b h
passes used (known u) h = le-leb u used h
passes used (holds b) h = h
passes used (x & y) h = both_on (test used x) (test used y) (passes used x h.0) (passes used y h.1)
passes used (each n f) h = all_on n (λ k. test used (f k)) (λ k l. passes used (f k) (h k l))
passes used (when true x) h = passes used x (h refl)
passes used (when false x) h = refl

-- more numbers used, and the claim stands
pub stands : (used later : ℕ) → used ≤ later → (x : Claim) → Says used x → Says later x
stands used later l always h = tt
stands used later l (less a b) h = h
stands used later l (known u) h = le_trans h l
stands used later l (holds b) h = h
stands used later l (x & y) h = (stands used later l x h.0, stands used later l y h.1)
stands used later l (each n f) h = λ k q. stands used later l (f k) (h k q)
stands used later l (when b x) h = λ e. stands used later l x (h e)
