-- The bytes that an event's kind does not use: added up, the sum is 0 exactly where each of them is; and of the two kinds that have a list, the
-- test of its bytes past its end is that of the sum.
use Prim.Native.Nat.{ℕ, zero, suc, ◌+◌}
use native.Mathlib.Omega.{arith}
use mathlib.Core.Path.{◌≡◌, refl, sym, ap, ◌∙◌}
use mathlib.Core.Bool.{Bool, true, false, ◌&&◌}
use mathlib.Core.List.{List, [], ◌∷◌}
use lib.ListN.{drop}
use lib.Seq.{drop-nil}
use lib.Dec.{eqb, ltb}
use borrow.Author.Tests.{eqb-true, eqb-false, eq-eqb, ne_eqb, lt-ltb}
use Rattle.std.specs.List.{list_all}
use Rattle.table.specs.Table.{pick}
use Rattle.rules.specs.Claim.{both, all_below, test}
use Rattle.rules.specs.Shape.{within}
use Rattle.event.specs.Event.{byte, list_of, uses, event_fine}
use Rattle.event.specs.Twelve.{sum_below, unused_sum, past_list, scx_only}

-- the event is of another kind
abbrev pub Not : ℕ → List ℕ → Type 0
Not kind e = byte e 0 ≡ kind → ⊥

module _ (e : List ℕ) where
  pub scx_sum : Not 1 e → byte e 0 ≡ 2 → unused_sum e ≡ past_list (byte e 2) e
  unfolding unused_sum sum_below uses
  scx_sum a b = simp (ne_eqb _ _ a, eq-eqb _ _ b) (omega arith)

  pub vlx_sum : Not 1 e → Not 2 e → byte e 0 ≡ 3 → unused_sum e ≡ past_list (byte e 2) e + scx_only e + byte e 9
  unfolding unused_sum sum_below uses
  vlx_sum a b c = simp (ne_eqb _ _ a, ne_eqb _ _ b, eq-eqb _ _ c) (omega arith)

-- a sum is 0 exactly where both are
zero_both : (a b : ℕ) → eqb (a + b) 0 ≡ both (eqb a 0) (eqb b 0)
unfolding both
zero_both a b = go (eqb a 0) refl (eqb b 0) refl
  where
    go : (x : Bool) → eqb a 0 ≡ x → (y : Bool) → eqb b 0 ≡ y → eqb (a + b) 0 ≡ both x y
    go true ex true ey = eq-eqb (a + b) 0 (omega (arith, eqb-true a 0 ex, eqb-true b 0 ey))
    go true ex false ey = ne_eqb (a + b) 0 (λ z. eqb-false b 0 ey (omega arith))
    go false ex true ey = ne_eqb (a + b) 0 (λ z. eqb-false a 0 ex (omega arith))
    go false ex false ey = ne_eqb (a + b) 0 (λ z. eqb-false a 0 ex (omega arith))

zero_pick : (t : Bool) (x : ℕ) → eqb (pick t 0 x) 0 ≡ pick t true (eqb x 0)
zero_pick true x = refl
zero_pick false x = refl

zero_each : (n : ℕ) (t : ℕ → Bool) (f : ℕ → ℕ) → eqb (sum_below n (λ k. pick (t k) 0 (f k))) 0 ≡ all_below n (λ k. pick (t k) true (eqb (f k) 0))
unfolding sum_below all_below
zero_each zero t f = refl
zero_each (suc n) t f = rw (zero_both (sum_below n (λ k. pick (t k) 0 (f k))) (pick (t n) 0 (f n)), zero_each n t f, zero_pick (t n) (f n)) refl

pub all_unused : (e : List ℕ) → eqb (unused_sum e) 0 ≡ all_below 12 (λ k. pick (uses (byte e 0) (byte e 2) k) true (eqb (byte e k) 0))
unfolding unused_sum
all_unused e = zero_each 12 (uses (byte e 0) (byte e 2)) (byte e)

pub by_sum : (e : List ℕ) → both (test 0 (within 5 (byte e 0))) (eqb (unused_sum e) 0) ≡ event_fine e
unfolding event_fine
by_sum e = rw (all_unused e) refl

four : (a b c d : Bool) → (a && (b && (c && (d && true)))) ≡ both (both (both a b) c) d
unfolding both
four true true true true = refl
four true true true false = refl
four true true false d = refl
four true false c d = refl
four false b c d = refl

-- which of the list's four bytes are tested
past_four : (n a b c d : ℕ)
    → list_all (λ x. eqb x 0) (drop n (a ∷ b ∷ c ∷ d ∷ []))
    ≡ both (both (both (pick (ltb 0 n) true (eqb a 0)) (pick (ltb 1 n) true (eqb b 0))) (pick (ltb 2 n) true (eqb c 0))) (pick (ltb 3 n) true (eqb d 0))
unfolding both
past_four zero a b c d = four (eqb a 0) (eqb b 0) (eqb c 0) (eqb d 0)
past_four (suc zero) a b c d = four true (eqb b 0) (eqb c 0) (eqb d 0)
past_four (suc (suc zero)) a b c d = four true true (eqb c 0) (eqb d 0)
past_four (suc (suc (suc zero))) a b c d = four true true true (eqb d 0)
past_four (suc (suc (suc (suc n)))) a b c d =
    rw
    (drop-nil n, lt-ltb 0 (suc (suc (suc (suc n)))) (omega arith), lt-ltb 1 (suc (suc (suc (suc n)))) (omega arith), lt-ltb 2 (suc (suc (suc (suc n)))) (omega arith), lt-ltb 3 (suc (suc (suc (suc n)))) (omega arith))
    refl

-- the two kinds that have a list: the bytes past its n are tested, and a VLX uses none after it
module _ (e : List ℕ) where
  abbrev ends : Bool
  ends = list_all (λ x. eqb x 0) (drop (byte e 2) (list_of e))

  ends_sum : ends ≡ eqb (past_list (byte e 2) e) 0
  ends_sum = past_four (byte e 2) (byte e 3) (byte e 4) (byte e 5) (byte e 6) ∙ sym (simp (zero_both, zero_pick))

  by_kind : (k : ℕ) → byte e 0 ≡ k → test 0 (within 5 k) ≡ true → eqb (unused_sum e) 0 ≡ event_fine e
  unfolding both
  by_kind k a h = let s = by_sum e in rw (a, h) at s

  pub scx_fine : byte e 0 ≡ 2 → ends ≡ event_fine e
  unfolding both
  scx_fine a = ends_sum ∙ ap (λ s. eqb s 0) (sym (scx_sum e (λ z. absurd (omega arith)) a)) ∙ by_kind 2 a refl

  pub vlx_fine : byte e 0 ≡ 3 → byte e 7 ≡ 0 → byte e 8 ≡ 0 → byte e 9 ≡ 0 → byte e 10 ≡ 0 → byte e 11 ≡ 0 → ends ≡ event_fine e
  unfolding both
  vlx_fine a h i j k l =
      let s = vlx_sum e (λ z. absurd (omega arith)) (λ z. absurd (omega arith)) a in
      ends_sum ∙ ap (λ s. eqb s 0) (omega arith) ∙ by_kind 3 a refl
