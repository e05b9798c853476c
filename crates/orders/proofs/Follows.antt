-- What demand 3 says of an SCX, for any machine that meets it: its task works on its own change until it ends, and then its answer is
-- the verdict on that change, brought by a step of its own.
use Prim.Native.Nat.{ℕ, zero, suc, ◌≤◌, ◌<◌}
use mathlib.Core.Path.{◌≡◌, refl, sym, ap, ◌∙◌, subst}
use mathlib.Core.Bool.{Bool}
use mathlib.Core.Logic.{◌⊎◌, inl, inr, ◌≢◌, ⊎_elim}
use native.Mathlib.Omega.{arith}
use native.Mathlib.Nat.{le_refl}
use Rattle.rules.specs.Words.{Machine, Call, Out, Place, Idle, After, Own, Accepted}
use Rattle.rules.specs.Places.{is_idle}
use Rattle.clauses.proofs.Updates.{same?, leb_case, tf}
use Rattle.orders.specs.Demand.{Brings, at_h3, at_h4, at_h8, Works, h1, h3, h4, h8, leads, answers}
use Rattle.orders.specs.Demand.{said, place, Steps, Change, During, Verdict, Going, Demand3}
use Rattle.orders.proofs.Busy.{longer}
use Rattle.orders.proofs.Working.{works_on}

-- a place has one `after`
same_after : (u w : ℕ) (a b : After) (f : Bool) (q : Place) (y : Bool) → Brings u a f q y → Works w b q → a ≡ b
same_after u w a b f q y (at_h3 e) h3 = refl
same_after u w a b f q y at_h4 h4 = refl
same_after u w a b f q y at_h8 h8 = refl

module _ (next : Machine → Call → Out) (m : Machine) (calls : ℕ → Call) (D : Demand3 next m calls) where
  abbrev Ch : Type 0
  Ch = Change next m calls

  abbrev On : Ch → ℕ → Type 0
  On c k = Going next m calls c.start c.task k

  abbrev Done : Ch → ℕ → Type 0
  Done c k = Steps next m calls k c.task × ((d : Ch) × (v : Bool) × (d.number ≡ c.number) × Verdict next m calls d k v)

  earlier : (c : Ch) (j k : ℕ) → c.start < j → j ≤ k → On c k → On c j
  earlier c j k a l g = record { later = a; busy = λ i p q. g.busy i p (omega arith) }

  -- who finishes is who worked
  ended : (c : Ch) (k : ℕ) → Works c.number Own (place next m calls k c.task) → (h : Done c k)
      → (place next m calls (suc k) c.task ≡ Idle) × (said next m calls k ≡ answers Own h.1.1)
  ended c k w (P, (d, v, e, B)) =
      let t : B.by ≡ c.task = sym B.steps.by ∙ P.by in
      let a : B.after ≡ Own = same_after d.number c.number B.after Own _ (place next m calls k B.by) v B.brings
      (subst (λ t. Works c.number Own (place next m calls k t)) (sym t) w) in
      (ap (λ t. place next m calls (suc k) t) (sym t) ∙ B.ends.0 ∙ ap (λ x. leads x v) a, B.ends.1 ∙ ap (λ x. answers x v) a)

  own_work : (c : Ch) (k : ℕ) → On c k → Works c.number Own (place next m calls k c.task)
  own_work c zero g = absurd (omega (arith, g.later))
  own_work c (suc k) g = ⊎_elim
      (λ (e : k ≡ c.start). subst (λ k. Works c.number Own (place next m calls (suc k) c.task)) (sym e) (rw c.takes h1))
      (λ n. later (own_work c k (earlier c k (suc k) (omega (arith, g.later)) (omega arith) g))) (same? k c.start)
    where
      later : Works c.number Own (place next m calls k c.task) → Works c.number Own (place next m calls (suc k) c.task)
      later w = ⊎_elim (λ h. h.0) (λ (h : Done c k). absurd (g.busy (suc k) g.later (le_refl _) (ended c k w h).0))
          (D.finishes k c.task c.number Own w)

  -- UNTIL IT ENDS
  pub works : (c : Ch) (k : ℕ) → On c k → Works c.number Own (place next m calls k c.task) × During next m calls c k
  works c k g = (
    own_work c k g,
    record {
      later = g.later;
      alone = λ d a b e. D.not_taken d c.task Own
          (subst (λ u. Works u Own (place next m calls d.start c.task)) (sym e) (own_work c d.start (earlier c d.start k a (omega arith) g)));
    },
  )

  -- a call belongs to at most one change of a number
  same_change : (c d : Ch) (k : ℕ) → During next m calls c k → During next m calls d k → c.number ≡ d.number → c.start ≡ d.start
  same_change c d k A B e = ⊎_elim (λ q. q)
      (λ n. ⊎_elim (λ l. absurd (A.alone d (omega arith) B.later (sym e))) (λ l. absurd (B.alone c l A.later e))
      (leb_case c.start d.start)) (same? c.start d.start)

  -- ITS ANSWER
  pub its_answer : (c : Ch) (k : ℕ) → On c k
      → On c (suc k)
      ⊎ (Steps next m calls k c.task
      × ((d : Ch) × (v : Bool) × (c.start ≡ d.start) × Verdict next m calls d k v × (said next m calls k ≡ answers Own v)))
  its_answer c k g = let (w, A) = works c k g in ⊎_elim
      (λ (h : Works c.number Own (place next m calls (suc k) c.task) × (Steps next m calls k c.task → said next m calls k ≡ Accepted)).
      inl (longer next m calls c.start c.task k g (busy h.0)))
      (λ (h : Done c k). let (P, (d, v, e, B)) = h in
      inr (P, (d, v, same_change c d k A B.during (sym e), B, (ended c k w h).1)))
      (D.finishes k c.task c.number Own w)
    where
      busy : {q : Place} → Works c.number Own q → q ≢ Idle
      busy {q} w e = tf (ap is_idle e) (works_on c.number Own q w).1
