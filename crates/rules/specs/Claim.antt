-- Claims that can be both tested and used: the shape and the refusals are said once, as a claim; `test` is what the code computes,
-- `Says` what a proof knows, and one law (proofs/Exact.antt) has them agree.
use Rattle.std.specs.Prelude.{ℕ, zero, suc, ◌<◌, ◌≤◌, ◌≡◌, Bool, true, false, ltb, leb}

pub data Claim : Type 0 where
  always : Claim
  -- the first number is below the second
  less : ℕ → ℕ → Claim
  -- a change number that is stored: "at most the used count"
  known : ℕ → Claim
  holds : Bool → Claim
  ◌&◌ : Claim → Claim → Claim
  -- f 0, f 1, .., f (n - 1)
  each : ℕ → (ℕ → Claim) → Claim
  when : Bool → Claim → Claim

infixr 30 ◌&◌
unfoldable pub both : Bool → Bool → Bool
both true b = b
both false b = false

unfoldable pub given : Bool → Bool → Bool
given true b = b
given false b = true

unfoldable pub all_below : ℕ → (ℕ → Bool) → Bool
all_below zero f = true
all_below (suc n) f = both (all_below n f) (f n)

-- the claim as a test, where `used` numbers are used
abbrev pub test : ℕ → Claim → Bool
test used always = true
test used (less a b) = ltb a b
test used (known u) = leb u used
test used (holds b) = b
test used (x & y) = both (test used x) (test used y)
test used (each n f) = all_below n (λ k. test used (f k))
test used (when b x) = given b (test used x)

-- the claim as a fact
abbrev pub Says : ℕ → Claim → Type 0
Says used always = Unit
Says used (less a b) = a < b
Says used (known u) = u ≤ used
Says used (holds b) = b ≡ true
Says used (x & y) = Says used x × Says used y
Says used (each n f) = (k : ℕ) → k < n → Says used (f k)
Says used (when b x) = b ≡ true → Says used x
