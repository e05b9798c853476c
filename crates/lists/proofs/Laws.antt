-- What the proofs of the tests share: an all over a range, that tests f 0, f 1, .. and ends at the first that fails; a chain of tests. Other
-- crates cite them too.
use Prim.Native.Nat.{ℕ, ◌+◌, ◌≤◌, ◌<◌}
use native.Mathlib.Numerals.{add-one}
use native.Mathlib.Omega.{arith}
use native.Mathlib.Nat.{le_antisymm}
use mathlib.Core.Path.{◌≡◌, refl, sym, subst, ap, ◌∙◌}
use mathlib.Core.Bool.{Bool, true, false, false≢true}
use mathlib.Core.List.{List, [], ◌∷◌}
use Rattle.std.proofs.Common.{Option, None, Some}
use Rattle.std.specs.Fn.{Mut, Called}
use Rattle.std.specs.declared.ops.Range.{Range}
use Rattle.std.specs.List.{FoldsTo}
use Rattle.std.specs.Option.{MatchOption}
use Rattle.std.specs.Iterator.{YieldsThen, ChecksAll}
use Rattle.std.proofs.iter.Yields.{nat_range_steps}
use Rattle.rules.specs.Claim.{both, given, all_below}
use Rattle.rules.proofs.Exact.{both_on, all_is}

-- how far an all has come at i, on its way to n
abbrev SoFar : ℕ → ℕ → (ℕ → Bool) → Type 0
SoFar n i f = (i ≤ n) × (all_below i f ≡ true)

none_yet : (n : ℕ) (f : ℕ → Bool) → SoFar n 0 f
unfolding all_below
none_yet n f = (omega arith, refl)

one_more : (n i : ℕ) (f : ℕ → Bool) → SoFar n i f → i < n → f i ≡ true → SoFar n (i + 1) f
unfolding all_below
one_more n i f p l e = (omega arith, rw add-one (both_on (all_below i f) (f i) p.1 e))

one_fails : (n i : ℕ) (f : ℕ → Bool) → i < n → f i ≡ false → false ≡ all_below n f
one_fails n i f l e = go (all_below n f) refl
  where
    go : (b : Bool) → all_below n f ≡ b → false ≡ b
    go false h = refl
    go true h = absurd (false≢true (sym e ∙ all_is n f h i l))

all_passed : (n i : ℕ) (f : ℕ → Bool) → SoFar n i f → n ≤ i → true ≡ all_below n f
all_passed n i f p l = rw (le_antisymm l p.0) (sym p.1)

-- `(0..n).all(..)`, where the closure computes f and no call changes it: `all_numbers`; by induction on the numbers that have come
module _ {F : Type 0} {g : Mut F (ℕ × Unit {0}) Bool} {n : ℕ} {f : ℕ → Bool} {t : F}
    (computes : (x : ℕ) (b : Bool) (q : F) → x < n → Called g t (x, tt) b q → (q ≡ t) × (b ≡ f x)) where
  go : (r : Bool) (u : Range ℕ) (xs : List ℕ) (s : Range ℕ) (j : F) (p : F) (o : Option ℕ) → s.end ≡ n → SoFar n s.start f → p ≡ t
      → YieldsThen nat_range_steps s xs o u → FoldsTo (λ p x q. Called g p (x, tt) true q) p xs j
      → MatchOption o (r ≡ true) (λ x. (r ≡ false) × ((h : F) × Called g j (x, tt) false h)) → r ≡ all_below n f
  go r u [] s j p None e h q y c m =
      m ∙ all_passed n s.start f h (omega (arith, e, ap (λ (k : Range ℕ). k.start) y.1, ap (λ (k : Range ℕ). k.end) y.1, y.2.1.0))
  go r u [] s j p (Some x) e h q y c m =
      let at : x ≡ s.start = y.2.1.1 ∙ sym (ap (λ (k : Range ℕ). k.start) y.1) in
      let l : x < n = omega (arith, e, ap (λ (k : Range ℕ). k.start) y.1, ap (λ (k : Range ℕ). k.end) y.1, y.2.1.0, at) in
      let no : f x ≡ false = sym (computes x false m.1.0 l (subst (λ k. Called g k (x, tt) false m.1.0) (sym c ∙ q) m.1.1)).1 in
      m.0 ∙ one_fails n x f l no
  go r u (x ∷ xs) s j p o e h q y c m =
      let step = y.1.1 in
      let l : x < n = omega (arith, e, step.1.0, step.1.1) in
      let k = computes x true c.0 l (subst (λ k. Called g k (x, tt) true c.0) q c.1) in
      let more : SoFar n (x + 1) f = one_more n x f (subst (λ (k : ℕ). SoFar n k f) (sym step.1.1) h) l (sym k.1) in
      go r u xs y.1.0 j c.0 o (step.0 ∙ e) (subst (λ (k : ℕ). SoFar n k f) (ap (λ k. k + 1) step.1.1 ∙ sym step.1.2) more) k.0 (y.0, y.1.2, y.2) c.2 m

  pub all_numbers : {r : Bool} {s u : Range ℕ} → ChecksAll nat_range_steps g s t r u → s ≡ record { start = 0; end = n } → r ≡ all_below n f
  all_numbers {r} {s} {u} h e = go r u h.0 s h.2 t h.1 (ap (λ (k : Range ℕ). k.end) e) (subst (λ (k : Range ℕ). SoFar n k.start f) (sym e) (none_yet n f)) refl h.3 h.4 h.5

-- what a chain of tests, `a && b` or `!a || b`, comes to
pub both_true : (b : Bool) → both true b ≡ b
unfolding both
both_true b = refl

pub both_false : (b : Bool) → both false b ≡ false
unfolding both
both_false b = refl

pub given_true : (b : Bool) → given true b ≡ b
unfolding given
given_true b = refl

pub given_false : (b : Bool) → given false b ≡ true
unfolding given
given_false b = refl

pub ruleset chain = (both_true, both_false, given_true, given_false)
