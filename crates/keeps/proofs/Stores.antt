-- What holds of a list's entries after a store, and of a choice from its two sides.
use Prim.Native.Nat.{ℕ, ◌<◌, ◌≤◌}
use native.Mathlib.Omega.{arith}
use native.Mathlib.Decide.{ℕ_discrete, dec_lt}
use mathlib.Core.Path.{◌≡◌, refl}
use mathlib.Core.Logic.{◌≢◌}
use mathlib.Core.Bool.{Bool, true, false}
use mathlib.Core.List.{List}
use lib.ListN.{get_or, set, length, get_or-eq_default}
use lib.Seq.{get_or-set_same, get_or-set_other, set_out}
use Rattle.table.specs.Table.{pick}

module _ {A : Type 0} (P : A → Type 0) (l : List A) (i : ℕ) (a d : A) (j : ℕ) (new : j ≡ i → P a) where
  -- a store past the end is none, so the old entry counts there and at every other place
  split : (j ≡ i → length l ≤ i → P (get_or l j d)) → (j ≢ i → P (get_or l j d)) → P (get_or (set l i a) j d)
  split past old = go (ℕ_discrete j i) (dec_lt i (length l))
    where
      go : Dec (j ≡ i) → Dec (i < length l) → P (get_or (set l i a) j d)
      go (yes e) (yes q) = rw (e, get_or-set_same l i a d q) (new e)
      go (yes e) (no q) = rw (set_out l i a (omega arith)) (past e (omega arith))
      go (no n) q = rw (get_or-set_other l i j a d n) (old n)

  -- what holds of the value stored and of the old entry holds after the store
  pub any : P (get_or l j d) → P (get_or (set l i a) j d)
  any old = split (λ e q. old) (λ n. old)

  -- what holds of the value stored, of the default and of each other entry holds after the store
  pub stored : P d → (j ≢ i → P (get_or l j d)) → P (get_or (set l i a) j d)
  stored none old = split (λ e q. rw (e, get_or-eq_default l d {n = i} q) none) old

  -- what holds of the value stored and of each other entry holds after a store before the end
  pub placed : i < length l → (j ≢ i → P (get_or l j d)) → P (get_or (set l i a) j d)
  placed q old = split (λ e p. absurd (omega arith)) old

pub picked : {A : Type 0} (P : A → Type 0) (b : Bool) (x y : A) → (b ≡ true → P x) → (b ≡ false → P y) → P (pick b x y)
picked P true x y h k = h refl
picked P false x y h k = k refl
