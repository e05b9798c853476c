-- The places of R that are left to mark: how many they are, and the walk along them, to H6 at each and then to H7.
use Prim.Native.Nat.{ℕ, zero, suc, ◌+◌, ◌-◌, ◌/◌, ◌%◌, ◌≤◌, ◌<◌}
use mathlib.Core.Path.{◌≡◌, refl, subst}
use mathlib.Core.Bool.{Bool, true, false}
use mathlib.Core.List.{List}
use lib.ListN.{get_or}
use lib.Dec.{eqb}
use borrow.Author.Tests.{lt-ltb}
use native.Mathlib.Omega.{arith}
use native.Mathlib.Nat.{le_refl}
use Rattle.rules.specs.Words.{After, Place, H6, H7}
use Rattle.table.specs.Table.{pick}
use Rattle.rules.specs.Start.{places}
use Rattle.rules.specs.Resume.{first_from, at_mark}
use Rattle.keeps.proofs.Stores.{picked}
use Rattle.clauses.proofs.Memory.{Terms}
use Rattle.bounds.specs.Bounds.{size}

-- how many of the d places from i on are in R
abbrev pub count : (ℕ → Bool) → ℕ → ℕ → ℕ
count c i zero = 0
count c i (suc d) = pick (c i) (suc (count c (suc i) d)) (count c (suc i) d)

pub count_le : (c : ℕ → Bool) (i d : ℕ) → count c i d ≤ d
count_le c i zero = le_refl 0
count_le c i (suc d) =
    let h = count_le c (suc i) d in
    picked (λ n. n ≤ suc d) (c i) (suc (count c (suc i) d)) (count c (suc i) d) (λ e. omega arith) (λ e. omega arith)

-- all of R, of which no place is past 3
abbrev pub all : Terms → ℕ
all c = count c.closes 0 4

-- as the bits of R say
bit : (x k : ℕ) → x < 2 → pick (eqb x 1) (suc k) k ≡ x + k
bit zero k h = omega arith
bit (suc zero) k h = omega arith
bit (suc (suc x)) k h = absurd (omega arith)

pub all_bits : (r : ℕ) → count (λ i. get_or (places r) i false) 0 4 ≡ size r
all_bits r =
    let one : (x k : ℕ) → pick (eqb (x % 2) 1) (suc k) k ≡ x % 2 + k = λ x k. bit (x % 2) k (omega arith) in
    let d = one (r / 8) 0 in
    let c = one (r / 4) (count (λ i. get_or (places r) i false) 3 1) in
    let b = one (r / 2) (count (λ i. get_or (places r) i false) 2 2) in
    let a = one r (count (λ i. get_or (places r) i false) 1 3) in
    omega arith

-- a place of R is one of those from it on
pub one_less : (c : ℕ → Bool) (i : ℕ) → i < 4 → c i ≡ true → count c i (4 - i) ≡ suc (count c (suc i) (3 - i))
one_less c i h e = let left : 4 - i ≡ suc (3 - i) = omega arith in rw (left, e) refl

-- the first place of R from i on: i itself, or the first from the next on
first_step : (r : List Bool) (i : ℕ) → i < 4 → first_from r i ≡ pick (get_or r i false) i (first_from r (suc i))
first_step r zero h = refl
first_step r (suc zero) h = refl
first_step r (suc (suc zero)) h = refl
first_step r (suc (suc (suc zero))) h = refl
first_step r (suc (suc (suc (suc i)))) h = absurd (omega arith)

-- what holds at each place of R with those from it on, and at H7 with none, holds where the marking goes on
pub marks : (r : List Bool) (u : ℕ) (after : After) (P : Place → ℕ → Type 0)
    → ((i : ℕ) → i < 4 → get_or r i false ≡ true → P (H6 u i after) (count (λ i. get_or r i false) i (4 - i)))
    → P (H7 u after) 0
    → (i d : ℕ) → i + d ≡ 4 → P (at_mark u (first_from r i) after) (count (λ i. get_or r i false) i d)
marks r u after P h6 h7 i zero q = let z : i ≡ 4 = omega arith in rw z h7
marks r u after P h6 h7 i (suc d) q = rw (first_step r i (omega arith)) (go (get_or r i false) refl (marks r u after P h6 h7 (suc i) d (omega arith)))
  where
    left : 4 - i ≡ suc d
    left = omega arith

    go : (b : Bool) → get_or r i false ≡ b → P (at_mark u (first_from r (suc i)) after) (count (λ i. get_or r i false) (suc i) d)
        → P (at_mark u (pick b i (first_from r (suc i))) after) (count (λ i. get_or r i false) i (suc d))
    go true f h = rw (lt-ltb i 4 (omega arith)) (subst (λ n. P (H6 u i after) (count (λ i. get_or r i false) i n)) left (h6 i (omega arith) f))
    go false f h = rw f h
