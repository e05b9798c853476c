-- Own steps counted along a run against a number to come: an own step is the last or takes one from it, and no other call alters it.
-- Then there are at most so many; and exactly so many, if the task is busy as long as there is one to come.
use Prim.Native.Nat.{ℕ, zero, suc, ◌+◌, ◌≤◌, ◌<◌}
use mathlib.Core.Path.{◌≡◌, refl, sym, ap, ◌∙◌, subst}
use mathlib.Core.Logic.{◌⊎◌, inl, inr, ◌↔◌, ◌≢◌, ⊎_elim}
use mathlib.Core.Bool.{true, false}
use mathlib.Core.List.{List}
use lib.Dec.{ltb}
use borrow.Author.Tests.{lt-ltb, le-ltb}
use native.Mathlib.Omega.{arith}
use native.Mathlib.Nat.{le_refl}
use Rattle.rules.specs.Words.{Cell, Machine, Call, Change, Place, Idle, Answer, Seen, Move}
use Rattle.rules.specs.Places.{change_of, resume, is_idle}
use Rattle.rules.specs.Step.{place_of, answer_of}
use Rattle.rules.specs.Next.{next}
use Rattle.clauses.proofs.Updates.{same?, bool?, tf}
use Rattle.clauses.proofs.Memory.{Shared, apply}
use Rattle.clauses.proofs.Steps.{terms_of, act_at, Saw}
use Rattle.clauses.proofs.Course.{Course, S}
use Rattle.orders.specs.Demand.{said, place, Going}
use Rattle.orders.proofs.Busy.{longer}
use Rattle.orders.proofs.Run.{Run, course}
use Rattle.orders.proofs.Working.{moved}
use Rattle.bounds.specs.Bounds.{step_of, own}
use Rattle.bounds.proofs.Along.{resumes, does, steps, still}

-- a move to the words Z with n own steps to come: the last of them, whose answer is one of X, or one that leaves one fewer
abbrev pub Down : (Shared → Place → ℕ → Type 0) → (Answer → Type 0) → ℕ → Shared → Move → Type 0
Down Q X n Z v =
    ((n ≡ 1) × (place_of v ≡ Idle) × ((cs : List Cell) → X (answer_of cs v))) ⊎ ((d : ℕ) × (n ≡ suc d) × Q Z (place_of v) d)

module _ (m : Machine) (calls : ℕ → Call) (R : Run m calls) (s t : ℕ) (tl : t < m.p) where
  abbrev C : Course
  C = course m calls R

  abbrev at : ℕ → Place
  at k = place next m calls k t

  abbrev mine : ℕ → ℕ
  mine k = own next m calls s t k

  abbrev Mine : ℕ → Type 0
  Mine k = Going next m calls s t k

  own_one : (k : ℕ) → s < k → step_of t (calls k) ≡ true → mine (suc k) ≡ suc (mine k)
  unfolding own
  own_one k h e = rw (lt-ltb s k h, e) refl

  own_same : (k : ℕ) → step_of t (calls k) ≡ false → mine (suc k) ≡ mine k
  unfolding own
  own_same k e = ⊎_elim (λ (h : ltb s k ≡ true). rw (h, e) refl) (λ (h : ltb s k ≡ false). rw h refl) (bool? (ltb s k))

  own_none : (k : ℕ) → k ≤ suc s → mine k ≡ 0
  unfolding own
  own_none zero h = refl
  own_none (suc k) h = rw (le-ltb s k (omega arith)) (own_none k (omega arith))

  either_way : {A : Type 0} (k : ℕ) → (step_of t (calls k) ≡ true → A) → (step_of t (calls k) ≡ false → A) → A
  either_way k a b = ⊎_elim a b (bool? (step_of t (calls k)))

  busy_at : (k : ℕ) → Mine k → at k ≢ Idle
  busy_at k g = g.busy k g.later (le_refl k)

  -- in progress before the next call: in progress before this one
  sooner : (k : ℕ) → s < k → Mine (suc k) → Mine k
  sooner k h g = record { later = h; busy = λ j a b. g.busy j a (omega arith) }

  -- Q holds of the words, the place and the number to come: N at the start, and as far as call K
  module _ (Q : Shared → Place → ℕ → Type 0) (X : Answer → Type 0) (K N : ℕ) (first : Q (S C (suc s)) (at (suc s)) N)
      (falls : (k n : ℕ) → Mine k → Q (S C k) (at k) n → (s : Seen) (ch : Change) (linked : ℕ) → terms_of ch ≡ (S C k).terms (change_of (at k))
      → Saw (S C k) s (at k) → Down Q X n (apply (act_at (S C k) (at k)) (S C k)) (resume (at k) s ch linked))
      (stays : (k n : ℕ) → Mine k → k < K → Q (S C k) (at k) n → step_of t (calls k) ≡ false → Q (S C (suc k)) (at k) n) where
    abbrev Last : ℕ → ℕ → Type 0
    Last k n = (n ≡ 1) × (at (suc k) ≡ Idle) × X (said next m calls k)

    abbrev Fewer : ℕ → ℕ → Type 0
    Fewer k n = (d : ℕ) × (n ≡ suc d) × Q (S C (suc k)) (at (suc k)) d

    abbrev ToCome : ℕ → Type 0
    ToCome k = (n : ℕ) × Q (S C k) (at k) n × (mine k + n ≡ N)

    fall : (k n : ℕ) → Mine k → Q (S C k) (at k) n → step_of t (calls k) ≡ true → Last k n ⊎ Fewer k n
    fall k n g q h =
        let P = steps m calls R t tl k (busy_at k g) h in
        rw ((moved m calls R k t P).0, (moved m calls R k t P).1, does m calls R t tl k P)
        (⊎_elim (λ z. inl (z.0, z.1, z.2 _)) inr
        (resumes m calls R t tl k (λ v. Down Q X n (apply (act_at (S C k) (at k)) (S C k)) v) (falls k n g q)))

    on : (k : ℕ) → Mine k → k < K → at (suc k) ≢ Idle → ToCome k → ToCome (suc k)
    on k g h b (n, q, e) = either_way k
        (λ y. ⊎_elim (λ (z : Last k n). absurd (b z.1)) (λ (z : Fewer k n). (z.0, z.2, omega (arith, own_one k g.later y, z.1))) (fall k n g q y))
        (λ y. (n, subst (λ p. Q (S C (suc k)) p n) (sym (still m calls R t tl k (busy_at k g) y)) (stays k n g h q y), omega (arith, own_same k y)))

    to_come : (k : ℕ) → k ≤ K → Mine k → ToCome k
    to_come zero h g = absurd (omega (arith, g.later))
    to_come (suc k) h g = ⊎_elim (λ (e : k ≡ s). rw e (N, first, omega (arith, own_none (suc s) (le_refl (suc s)))))
        (λ n. let g' = sooner k (omega (arith, g.later)) g in on k g' h (busy_at (suc k) g) (to_come k (omega arith) g')) (same? k s)

    pub at_most : ((n : ℕ) → Q (S C K) (at K) n → 0 < n) → Mine K → mine K < N
    at_most some g = let (n, q, e) = to_come K (le_refl K) g in omega (arith, some n q)

    module _ (busy : (Z : Shared) (q : Place) (n : ℕ) → Q Z q n → (0 < n) × (is_idle q ≡ false)) where
      not-idle : (Z : Shared) (q : Place) (n : ℕ) → Q Z q n → q ≢ Idle
      not-idle Z q n h e = tf (ap is_idle e) (busy Z q n h).1

      -- in progress, or all of them made
      abbrev Tally : ℕ → Type 0
      Tally k = Mine k ⊎ (N ≤ mine k)

      going : (k : ℕ) → Mine k → ToCome k → Tally (suc k)
      going k g (n, q, e) = either_way k
          (λ y. ⊎_elim (λ (z : Last k n). inr (omega (arith, own_one k g.later y, z.0)))
          (λ (z : Fewer k n). inl (longer next m calls s t k g (not-idle _ _ z.0 z.2))) (fall k n g q y))
          (λ y. inl (longer next m calls s t k g (λ i. busy_at k g (sym (still m calls R t tl k (busy_at k g) y) ∙ i))))

      over : (k : ℕ) → s < k → N ≤ mine k → N ≤ mine (suc k)
      over k l h = either_way k (λ y. omega (arith, own_one k l y)) (λ y. omega (arith, own_same k y))

      begun : Mine (suc s)
      begun = record { later = le_refl (suc s); busy = λ j a l. let e : j ≡ suc s = omega arith in rw e (not-idle _ _ N first) }

      tally : (k : ℕ) → s < k → k ≤ K → Tally k
      tally zero l h = absurd (omega arith)
      tally (suc k) l h = ⊎_elim (λ (e : k ≡ s). rw e (inl begun))
          (λ n. let b : s < k = omega arith in let c : k ≤ K = omega arith in
          ⊎_elim (λ (g : Mine k). going k g (to_come k c g)) (λ z. inr (over k b z)) (tally k b c)) (same? k s)

      last-answers : Mine K → at (suc K) ≡ Idle → ToCome K → X (said next m calls K)
      last-answers g i (n, q, e) = either_way K
          (λ y. ⊎_elim (λ (z : Last K n). z.2) (λ (z : Fewer K n). absurd (not-idle _ _ z.0 z.2 i)) (fall K n g q y))
          (λ y. absurd (busy_at K g (sym (still m calls R t tl K (busy_at K g) y) ∙ i)))

      -- in progress exactly as long as fewer than N are made, and the last answers one of X
      pub exactly : (s < K → Mine K ↔ mine K < N) × (Mine K → at (suc K) ≡ Idle → X (said next m calls K))
      exactly = (
        (λ l. (
          at_most (λ n q. (busy _ _ n q).0),
          λ h. ⊎_elim (λ (g : Mine K). g) (λ z. absurd (omega arith)) (tally K l (le_refl K)),
        )),
        λ g i. last-answers g i (to_come K (le_refl K) g),
      )
