-- How long a line can be: six bytes for a number of up to five digits and what comes after it.
use Prim.Native.Nat.{ℕ, zero, suc, ◌+◌, ◌*◌, ◌/◌, ◌≤◌}
use native.Mathlib.Nat.{mul-suc}
use native.Mathlib.Numerals.{add-one}
use native.Mathlib.Omega.{arith}
use mathlib.Core.Bool.{Bool, true, false}
use mathlib.Core.List.{List, [], ◌∷◌, ◌++◌}
use lib.Dec.{eqb}
use lib.ListN.{length, get_or, length-append}
use Rattle.table.specs.Table.{pick}
use Rattle.text.specs.Text.{last, lead, digits, joined, ended, word_at, row, lettered}

both_most : (s t : List ℕ) (j k : ℕ) → length s ≤ j → length t ≤ k → length (s ++ t) ≤ j + k
both_most s t j k a b = rw (length-append s t) (omega arith)

lead_most : (x : ℕ) → length (lead x) ≤ 1
unfolding lead
lead_most x = go (eqb x 0)
  where
    go : (b : Bool) → length (pick b [] (last x)) ≤ 1
    go true = omega arith
    go false = omega arith

digits_most : (x : ℕ) → length (digits x) ≤ 5
unfolding digits
digits_most x =
    both_most (lead (x / 10000) ++ lead (x / 1000) ++ lead (x / 100) ++ lead (x / 10)) (last x) 4 1
    (both_most (lead (x / 10000) ++ lead (x / 1000) ++ lead (x / 100)) (lead (x / 10)) 3 1
    (both_most (lead (x / 10000) ++ lead (x / 1000)) (lead (x / 100)) 2 1
    (both_most (lead (x / 10000)) (lead (x / 1000)) 1 1 (lead_most (x / 10000)) (lead_most (x / 1000)))
    (lead_most (x / 100)))
    (lead_most (x / 10)))
    (omega arith)

-- pieces of at most k bytes each, in a loop: none, and one more
pub most_none : (f : ℕ → List ℕ) (k : ℕ) → length (joined f 0) ≤ k * 0
unfolding joined
most_none f k = omega arith

pub most_again : (f : ℕ → List ℕ) (k i : ℕ) → length (joined f i) ≤ k * i → length (f i) ≤ k → length (joined f (i + 1)) ≤ k * (i + 1)
unfolding joined
most_again f k i h g = rw (add-one, mul-suc) (both_most (joined f i) (f i) (k * i) k h g)

-- and all of them
joined_most : (f : ℕ → List ℕ) (k n : ℕ) → ((i : ℕ) → length (f i) ≤ k) → length (joined f n) ≤ k * n
joined_most f k zero h = most_none f k
joined_most f k (suc n) h = rw (← add-one) (most_again f k n (joined_most f k n h) (h n))

pub row_most : (xs : List ℕ) → length (row xs) ≤ 6 * length xs
row_most xs =
    joined_most (word_at xs) 6 (length xs)
    (λ i. both_most (digits (get_or xs i 0)) (ended (length xs) i ∷ []) 5 1 (digits_most (get_or xs i 0)) (omega arith))

pub lettered_most : (letter : ℕ) (xs : List ℕ) → length (lettered letter xs) ≤ 2 + 6 * length xs
lettered_most letter xs = both_most ((letter ∷ []) ++ (32 ∷ [])) (row xs) 2 (6 * length xs) (omega arith) (row_most xs)
