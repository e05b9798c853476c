-- A busy task along a run: its STEP is not refused and does what its place says, and whatever the calls of others leave, every other call
-- of its own leaves too.
use Prim.Native.Nat.{ℕ, suc, ◌<◌}
use mathlib.Core.Path.{◌≡◌, refl, sym, ap, ◌∙◌, subst}
use mathlib.Core.Bool.{true, false, ◌&&◌, true≢false, false≢true}
use mathlib.Core.Logic.{◌≢◌, ⊎_elim}
use lib.Dec.{eqb}
use borrow.Author.Tests.{eqb-true, eq-eqb}
use Rattle.rules.specs.Words.{Machine, Call, Ask, AskLlx, AskScx, AskVlx, AskRead, AskStep, Record, Change, Task, Seen, Move}
use Rattle.rules.specs.Words.{Place, Idle}
use Rattle.table.specs.Table.{record_at, task_at}
use Rattle.rules.specs.Places.{change_of, resume, is_idle}
use Rattle.rules.specs.Step.{move_at}
use Rattle.rules.specs.Refuse.{idle_at}
use Rattle.rules.specs.Next.{next}
use Rattle.clauses.proofs.Updates.{same?}
use Rattle.clauses.proofs.Memory.{apply}
use Rattle.clauses.proofs.Steps.{terms_of, act_at, Saw}
use Rattle.clauses.proofs.Clauses.{Off, Live}
use Rattle.clauses.proofs.Turn.{off}
use Rattle.clauses.proofs.Course.{Course, X, S, turn}
use Rattle.orders.specs.Demand.{before, place, Steps, Starts}
use Rattle.orders.proofs.View.{record_in}
use Rattle.orders.proofs.Seen.{saw}
use Rattle.orders.proofs.Calls.{Passes}
use Rattle.orders.proofs.Busy.{idle_or, own_call, own_step}
use Rattle.orders.proofs.Run.{Run, course, inside, task_is}
use Rattle.orders.proofs.Effects.{is_in, passed_steps, act_is}
use Rattle.bounds.specs.Bounds.{is_step, step_of}

-- what counts as a STEP of t is one
step_of_lem : (t : ℕ) (ask : Ask) (by : ℕ) → is_step ask && eqb by t ≡ true → (ask ≡ AskStep) × (by ≡ t)
step_of_lem t (AskLlx r) by h = absurd (false≢true h)
step_of_lem t (AskScx n r written field new) by h = absurd (false≢true h)
step_of_lem t (AskVlx n) by h = absurd (false≢true h)
step_of_lem t (AskRead r f) by h = absurd (false≢true h)
step_of_lem t AskStep by h = (refl, eqb-true by t h)

pub busy_is : (q : Place) → q ≢ Idle → is_idle q ≡ false
busy_is q n = ⊎_elim (λ e. absurd (n e)) (λ h. h) (idle_or q)

-- no start takes a number that is 0 or live
pub not_taken : (C : Course) (k u : ℕ) → (u ≢ 0 → Live (X C k) u) → Off (C.act k) u
not_taken C k u l = off (X C k) (C.act k) (turn C k).room u (λ x N e. N.dead (subst (λ u. Live (X C k) u) e (l (λ z. N.nonzero (sym e ∙ z)))))

-- where an accepted start leads, there its task stands
pub begun : (m : Machine) (calls : ℕ → Call) → Run m calls → (s t : ℕ) (ask : Ask) → Starts next m calls s t ask → (q : Place)
    → (calls s).task < (before next m calls s).p → (task_at (before next m calls (suc s)) (calls s).task).place ≡ q
    → (t < m.p) × (place next m calls (suc s) t ≡ q)
begun m calls R s t ask B q l e = subst (λ t. (t < m.p) × (place next m calls (suc s) t ≡ q)) (ap (λ (e : Call). e.task) B.asks)
    (subst (λ p. (calls s).task < p) (R.same_p s) l, e)

module _ (m : Machine) (calls : ℕ → Call) (R : Run m calls) (t : ℕ) (tl : t < m.p) (k : ℕ) where
  abbrev M : ℕ → Machine
  M k = before next m calls k

  abbrev C : Course
  C = course m calls R

  abbrev at : ℕ → Place
  at k = place next m calls k t

  -- what holds of the work that rides on what its place's access sees, holds of its move
  pub resumes : (A : Move → Type 0)
      → ((s : Seen) (ch : Change) (linked : ℕ) → terms_of ch ≡ (S C k).terms (change_of (at k)) → Saw (S C k) s (at k) → A (resume (at k) s ch linked))
      → A (move_at (M k) t)
  unfolding move_at
  resumes A h = h _ _ _ refl (saw (M k) (R.shaped k) t (inside m calls R k t tl))

  pub does : Steps next m calls k t → S C (suc k) ≡ apply (act_at (S C k) (at k)) (S C k)
  does P = (turn C k).shared ∙ ap (λ b. apply b (S C k)) (act_is m calls R k t P)

  module _ (busy : at k ≢ Idle) where
    its_own : (calls k).task ≡ t → idle_at (M k) (calls k).task ≡ false
    its_own e = subst (λ t. idle_at (M k) t ≡ false) (sym e) (busy_is (at k) busy)

    -- its STEP is not refused
    pub steps : step_of t (calls k) ≡ true → Steps next m calls k t
    steps h =
        let (a, e) = step_of_lem t (calls k).ask (calls k).task h in
        subst (λ t. Steps next m calls k t) e (passed_steps m calls R k
        (own_step (M k) (calls k) (R.shaped k) (subst (λ t. t < (M k).p) (sym e) (inside m calls R k t tl)) (its_own e) a))

    -- any other call of its own is refused, so what those of others leave stays
    left : {A : Type 0} (f : Machine → A) → step_of t (calls k) ≡ false → ((calls k).task ≢ t → f (M (suc k)) ≡ f (M k)) → f (M (suc k)) ≡ f (M k)
    unfolding before
    left f h others = ⊎_elim
        (λ (e : (calls k).task ≡ t). ⊎_elim (λ (q : ((next (M k) (calls k)).m ≡ M k) × (Passes (M k) (calls k) AskStep → ⊥)). ap f q.0)
        (λ (P : Passes (M k) (calls k) AskStep).
        let stepping : step_of t (calls k) ≡ true = rw (P.asks, eq-eqb (calls k).task t e) refl in absurd (true≢false (sym stepping ∙ h)))
        (own_call (M k) (calls k) (its_own e)))
        others (same? (calls k).task t)

    pub still : step_of t (calls k) ≡ false → at (suc k) ≡ at k
    still h = left (λ (x : Machine). (task_at x t).place) h (λ n.
        ap (λ (x : Task). x.place) (sym (task_is m calls R (suc k) t tl) ∙ (turn C k).tasks t (λ e. n (sym e)) ∙ task_is m calls R k t tl))

    pub left_in : {A : Type 0} (f : Record → A) (r : ℕ) → r < m.n → step_of t (calls k) ≡ false
        → ((calls k).task ≢ t → f (record_at (M (suc k)) r) ≡ f (record_at (M k) r)) → f (record_in (M (suc k)) r) ≡ f (record_in (M k) r)
    left_in f r l h others =
        ap f (is_in m calls R (suc k) r l) ∙ left (λ (x : Machine). f (record_at x r)) h others ∙ ap f (sym (is_in m calls R k r l))
