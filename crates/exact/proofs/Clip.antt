-- A number below its bound is not clipped; a list whose first n are below 32 is not, as far as n; and the links that a turn reads
-- are then the task's own.
use Prim.Native.Nat.{ℕ, zero, suc, ◌%◌, ◌<◌}
use native.Mathlib.Omega.{arith}
use native.Mathlib.Nat.{mod-eq_of_lt}
use mathlib.Core.Path.{◌≡◌, refl, ap, ◌∙◌}
use mathlib.Core.Bool.{Bool, true, false}
use mathlib.Core.List.{List}
use lib.ListN.{get_or, get_or-map}
use Rattle.rules.specs.Words.{Link}
use Rattle.table.specs.Table.{pick, no_link, slot}
use Rattle.rules.specs.Step.{drop_first}
use Rattle.rules.specs.Claim.{all_below}
use Rattle.hand.specs.Hand.{clip, links_of}

-- a choice whose first side matters only where the test passes
pub pick_same : {A : Type 0} (b : Bool) (x y z : A) → (b ≡ true → x ≡ y) → pick b x z ≡ pick b y z
pick_same true x y z h = h refl
pick_same false x y z h = refl

pub all_same : (n : ℕ) (f g : ℕ → Bool) → ((k : ℕ) → k < n → f k ≡ g k) → all_below n f ≡ all_below n g
unfolding all_below
all_same zero f g h = refl
all_same (suc n) f g h = rw (h n (omega arith), all_same n f g (λ k l. h k (omega arith))) refl

pub drop_same : (ls : List Link) (t : ℕ) (l k : List ℕ) (n : ℕ)
    → ((i : ℕ) → i < n → get_or l i 0 ≡ get_or k i 0)
    → drop_first ls t l n ≡ drop_first ls t k n
unfolding drop_first
drop_same ls t l k zero h = refl
drop_same ls t l k (suc n) h = rw (h n (omega arith), drop_same ls t l k n (λ i q. h i (omega arith))) refl

pub clip_same : (l : List ℕ) (n : ℕ) → ((i : ℕ) → i < n → get_or l i 0 < 32) → (i : ℕ) → i < n → get_or (clip l) i 0 ≡ get_or l i 0
clip_same l n h i q = get_or-map (λ r. r % 32) l i 0 ∙ mod-eq_of_lt (h i q)

-- the i-th of the links that a turn reads
pub near : (ls : List Link) (t : ℕ) (l : List ℕ) (i : ℕ) → i < 4 → get_or l i 0 < 32
    → get_or (links_of ls t l) i no_link ≡ get_or ls (slot t (get_or l i 0)) no_link
near ls t l zero q b = ap (λ r. get_or ls (slot t r) no_link) (mod-eq_of_lt b)
near ls t l (suc zero) q b = ap (λ r. get_or ls (slot t r) no_link) (mod-eq_of_lt b)
near ls t l (suc (suc zero)) q b = ap (λ r. get_or ls (slot t r) no_link) (mod-eq_of_lt b)
near ls t l (suc (suc (suc zero))) q b = ap (λ r. get_or ls (slot t r) no_link) (mod-eq_of_lt b)
near ls t l (suc (suc (suc (suc i)))) q b = absurd (omega arith)
