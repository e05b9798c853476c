-- What stands at a place of a tabulated list, its length, and what `from_fn` makes.
use Prim.Native.Nat.{ℕ, zero, suc, ◌+◌, ◌<◌, ◌≤◌}
use native.Mathlib.Omega.{arith}
use native.Mathlib.Nat.{not-suc-le-zero}
use native.Mathlib.Decide.{ℕ_discrete}
use mathlib.Core.Path.{◌≡◌, refl, sym, ap, ◌∙◌}
use mathlib.Core.List.{List}
use lib.ListN.{get_or, length}
use lib.Seq.{ext_get_or}
use denote.Param.Members.{Mut, Called}
use Rattle.std.specs.Array.{IsFromFnResult, IsFromFnResultFrom}
use Rattle.table.specs.Table.{tabulate}

pub length_tabulate : {A : Type 0} (n : ℕ) (f : ℕ → A) → length (tabulate n f) ≡ n
unfolding tabulate
length_tabulate zero f = refl
length_tabulate (suc n) f = ap suc (length_tabulate n (λ k. f (suc k)))

pub get_d_tabulate : {A : Type 0} (n : ℕ) (f : ℕ → A) (k : ℕ) (d : A) → k < n → get_or (tabulate n f) k d ≡ f k
unfolding tabulate
get_d_tabulate zero f k d l = absurd (not-suc-le-zero l)
get_d_tabulate (suc n) f zero d l = refl
get_d_tabulate (suc n) f (suc k) d l = get_d_tabulate n (λ j. f (suc j)) k d (omega arith)

-- an array that `from_fn` makes of calls that give the values of h
module _ {F A : Type 0} (g : Mut F (ℕ × Unit {0}) A) (f : F) (h : ℕ → A) (n : ℕ)
    (call : (k : ℕ) (x : A) (q : F) → k < n → Called g f (k, tt) x q → (x ≡ h k) × (q ≡ f)) where
  from : (xs : List A) (k m : ℕ) (d : A) → k + m ≤ n → IsFromFnResultFrom g f xs k m → (i : ℕ) → k ≤ i → i < k + m → get_or xs i d ≡ h i
  from xs k zero d l e i low high = absurd (omega arith)
  from xs k (suc m) d l (q, x, at, called, rest) i low high =
      let is : (x ≡ h k) × (q ≡ f) = call k x q (omega arith) called in
      let later : k < i → get_or xs i d ≡ h i = λ after. from xs (k + 1) m d (omega arith) (rw is.1 at rest) i (omega arith) (omega arith) in
      go (ℕ_discrete i k) (at.1 d ∙ is.0) later
    where
      go : Dec (i ≡ k) → get_or xs k d ≡ h k → (k < i → get_or xs i d ≡ h i) → get_or xs i d ≡ h i
      go (yes e) here later = rw e here
      go (no ne) here later = later (omega arith)

  pub from_fn_tabulates : (xs : List A) → IsFromFnResult g f xs n → A → xs ≡ tabulate n h
  from_fn_tabulates xs e d =
      ext_get_or d xs (tabulate n h) (e.long ∙ sym (length_tabulate n h))
      (λ i l. let l' : i < n = rw e.long at l in from xs 0 n d (omega arith) e.each i (omega arith) (omega arith) ∙ sym (get_d_tabulate n h i d l'))
