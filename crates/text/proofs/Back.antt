-- The digits of a number say that number: they read back as it, and do not begin with a 0 unless it is 0.
-- And a line, computed.
use Prim.Native.Nat.{ℕ, ◌+◌, ◌-◌, ◌*◌, ◌/◌, ◌<◌}
use native.Mathlib.Omega.{arith}
use mathlib.Core.Path.{◌≡◌, refl}
use mathlib.Core.Bool.{Bool, true, false}
use mathlib.Core.List.{List, [], ◌∷◌, ◌++◌, append_assoc}
use mathlib.Core.Logic.{◌≢◌}
use lib.Dec.{eqb}
use lib.ListN.{get_or}
use borrow.Author.Tests.{eqb-true, eqb-false}
use Rattle.table.specs.Table.{pick}
use Rattle.text.specs.Text.{last, lead, digits, joined, row}

-- a number, and digits after it
pub read : ℕ → List ℕ → ℕ
read a [] = a
read a (d ∷ ds) = read (a * 10 + (d - 48)) ds

read_append : (s t : List ℕ) (a : ℕ) → read a (s ++ t) ≡ read (read a s) t
unfolding read
read_append [] t a = refl
read_append (d ∷ s) t a = read_append s t (a * 10 + (d - 48))

read_last : (x : ℕ) → read (x / 10) (last x) ≡ x
unfolding read
read_last x = omega arith

read_lead : (x : ℕ) → read (x / 10) (lead x) ≡ x
unfolding read lead
read_lead x = go (eqb x 0) refl
  where
    go : (t : Bool) → eqb x 0 ≡ t → read (x / 10) (pick t [] (last x)) ≡ x
    go true e = let h : x ≡ 0 = eqb-true x 0 e in omega arith
    go false e = read_last x

pub reads_back : (x : ℕ) → x < 100000 → read 0 (digits x) ≡ x
unfolding digits
reads_back x h =
    let z : 0 ≡ x / 10000 / 10 = omega arith in
    let a : x / 10000 ≡ x / 1000 / 10 = omega arith in
    let b : x / 1000 ≡ x / 100 / 10 = omega arith in
    let d : x / 100 ≡ x / 10 / 10 = omega arith in
    simp read_append
    (rw (z, read_lead (x / 10000), a, read_lead (x / 1000), b, read_lead (x / 100), d, read_lead (x / 10)) (read_last x))

abbrev NonZero : List ℕ → Type 0
NonZero l = get_or l 0 48 ≢ 48

past_lead : (y : ℕ) (t : List ℕ) → y < 10 → (y ≡ 0 → NonZero t) → NonZero (lead y ++ t)
unfolding lead
past_lead y t h k = go (eqb y 0) refl
  where
    go : (b : Bool) → eqb y 0 ≡ b → NonZero (pick b [] (last y) ++ t)
    go true e = k (eqb-true y 0 e)
    go false e = let n : y ≢ 0 = eqb-false y 0 e in λ z. omega arith

pub no_zero_first : (x : ℕ) → 0 < x → x < 100000 → NonZero (digits x)
unfolding digits
no_zero_first x p h =
    simp append_assoc
    (past_lead (x / 10000) _ (omega arith) (λ (a : x / 10000 ≡ 0).
    past_lead (x / 1000) _ (omega arith) (λ (b : x / 1000 ≡ 0).
    past_lead (x / 100) _ (omega arith) (λ (c : x / 100 ≡ 0).
    past_lead (x / 10) _ (omega arith) (λ (d : x / 10 ≡ 0) z. omega arith)))))

-- "10 0 65535"
row_sample : row (10 ∷ 0 ∷ 65535 ∷ []) ≡ 49 ∷ 48 ∷ 32 ∷ 48 ∷ 32 ∷ 54 ∷ 53 ∷ 53 ∷ 51 ∷ 53 ∷ 10 ∷ []
unfolding joined digits lead
row_sample = refl
