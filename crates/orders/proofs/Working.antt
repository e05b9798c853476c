-- Who works on a change goes on, or finishes by a step of its own with a verdict on it; and no start takes the number of that change.
use Prim.Native.Nat.{ℕ, suc, ◌<◌}
use mathlib.Core.Path.{◌≡◌, refl, sym, ap, ◌∙◌, subst}
use mathlib.Core.Bool.{Bool, false}
use mathlib.Core.Logic.{◌⊎◌, inl, inr, ◌≢◌, ⊎_elim}
use mathlib.Core.List.{List}
use Rattle.rules.specs.Words.{Cell, After, Machine, Place, AskStep, Accepted, Task, Call, Seen, Out}
use Rattle.table.specs.Table.{change_at, task_at, link_at}
use Rattle.rules.specs.Places.{change_of, is_idle}
use Rattle.rules.specs.Perform.{record_of, seen}
use Rattle.rules.specs.Step.{place_of, answer_of, access_at, move_at, step}
use Rattle.rules.specs.Next.{next}
use Rattle.clauses.proofs.Updates.{tf}
use Rattle.clauses.proofs.Memory.{Shared}
use Rattle.clauses.proofs.History.{Ghost}
use Rattle.clauses.proofs.Clauses.{At, Live}
use Rattle.clauses.proofs.Steps.{Saw}
use Rattle.clauses.proofs.Course.{Course, X, S, history, not_taken as live-not-taken}
use Rattle.orders.specs.Demand.{Brings, at_h3, at_h4, at_h8, Works, h1, h2, h3, h4, h5, h6, h7, h8, leads, answers}
use Rattle.orders.specs.Demand.{before, said, place, Steps, Change, Verdict}
use Rattle.orders.proofs.Seen.{saw}
use Rattle.orders.proofs.Calls.{Passes, next_is, obeyed}
use Rattle.orders.proofs.Finishes.{Finishing, finishing}
use Rattle.orders.proofs.Run.{Run, course, inside, busy_inside, place_known, works_live}
use Rattle.orders.proofs.Busy.{by_steps}
use Rattle.orders.proofs.Changes.{starts, change_at_lem}
use Rattle.orders.proofs.Effects.{step_passes, passed_steps}

-- a place of work names its change, which is not 0, and is not idle
pub works_on : (u : ℕ) (after : After) (q : Place) → Works u after q → (change_of q ≡ u) × (is_idle q ≡ false)
works_on u after q h1 = (refl, refl)
works_on u after q h2 = (refl, refl)
works_on u after q h3 = (refl, refl)
works_on u after q h4 = (refl, refl)
works_on u after q h5 = (refl, refl)
works_on u after q h6 = (refl, refl)
works_on u after q h7 = (refl, refl)
works_on u after q h8 = (refl, refl)

works_nonzero : (S : Shared) (G : Ghost) (cs : List Cell) (u : ℕ) (after : After) (q : Place) → Works u after q → At S G cs q → u ≢ 0
works_nonzero S G cs u after q h1 h = h.0
works_nonzero S G cs u after q h2 h = h.0
works_nonzero S G cs u after q h3 h = h.0
works_nonzero S G cs u after q h4 h = h.0
works_nonzero S G cs u after q h5 h = h.0
works_nonzero S G cs u after q h6 h = h.0
works_nonzero S G cs u after q h7 h = h.0
works_nonzero S G cs u after q h8 h = h.0

-- what H3 sees is allFrozen
sees : (S : Shared) (s : Seen) (u : ℕ) (after : After) (q : Place) (v : Bool) → Saw S s q → Brings u after s.bit q v → Brings u after (S.frozen u) q v
sees S s u after q v w (at_h3 e) = at_h3 (sym w ∙ e)
sees S s u after q v w at_h4 = at_h4
sees S s u after q v w at_h8 = at_h8

module _ (m : Machine) (calls : ℕ → Call) (R : Run m calls) where
  abbrev M : ℕ → Machine
  M k = before next m calls k

  abbrev C : Course
  C = course m calls R

  abbrev Ch : Type 0
  Ch = Change next m calls

  -- it goes on, or is done by a step of its own
  abbrev GoingOn : ℕ → ℕ → ℕ → After → Type 0
  GoingOn k t u after = Works u after (place next m calls (suc k) t) × (Steps next m calls k t → said next m calls k ≡ Accepted)

  abbrev Done : ℕ → ℕ → ℕ → Type 0
  Done k t u = Steps next m calls k t × ((c : Ch) × (v : Bool) × (c.number ≡ u) × Verdict next m calls c k v)

  -- the step's move, as the run shows it
  pub moved : (k t : ℕ) → Steps next m calls k t
      → (place next m calls (suc k) t ≡ place_of (move_at (M k) t)) × (said next m calls k ≡ answer_of (task_at (M k) t).cells (move_at (M k) t))
  unfolding step
  moved k t P = let Q = step_passes m calls R k t P in (
    subst (λ t. place next m calls (suc k) t ≡ place_of (move_at (M k) t)) P.by (R.goes_to k AskStep Q),
    ap (λ (o : Out). o.answer) (next_is (M k) (calls k) AskStep Q) ∙ ap (λ t. answer_of (task_at (M k) t).cells (move_at (M k) t)) P.by,
  )

  finish : (k t u : ℕ) (after : After) → Steps next m calls k t → Works u after (place next m calls k t)
      → Finishing u after (change_at (M k) u).frozen (place next m calls k t) (move_at (M k) t)
  unfolding access_at move_at
  finish k t u after P W =
      let s = seen (access_at (M k) t) (M k) in
      let tl = subst (λ t. t < (M k).p) P.by (obeyed (M k) (calls k) _ (step_passes m calls R k t P)).0 in
      ⊎_elim (λ h. inl h)
      (λ (h : (v : Bool) × Brings u after s.bit (place next m calls k t) v × (place_of (move_at (M k) t) ≡ leads after v)
      × ((cs : List Cell) → answer_of cs (move_at (M k) t) ≡ answers after v)).
      inr (h.0, sees (S C k) s u after _ h.0 (saw (M k) (R.shaped k) t tl) h.1, h.2, h.3))
      (finishing u after (place next m calls k t) W s (change_at (M k) (change_of (place next m calls k t)))
      (link_at (M k) t (record_of (access_at (M k) t))).info)

  -- who works is a task of the table, and what it works on is live
  pub worker : (k t u : ℕ) (after : After) → Works u after (place next m calls k t) → t < m.p
  worker k t u after W = busy_inside m calls R k t (λ i. tf (ap is_idle i) (works_on u after _ W).1)

  pub worked_on : (k t u : ℕ) (after : After) → Works u after (place next m calls k t) → Live (X C k) u
  worked_on k t u after W = let l = worker k t u after W in
      works_live m calls R k t l u (works_on u after _ W).0
      (works_nonzero (S C k) (history C k) _ u after _ W (place_known m calls R k t l))

  -- a step of a task that works on u
  by_step : (k t u : ℕ) (after : After) → Steps next m calls k t → Works u after (place next m calls k t)
      → Finishing u after (change_at (M k) u).frozen (place next m calls k t) (move_at (M k) t) → GoingOn k t u after ⊎ Done k t u
  by_step k t u after P W (inl (w, a)) = inl (subst (λ q. Works u after q) (sym (moved k t P).0) w, λ Q. (moved k t P).1 ∙ a _)
  by_step k t u after P W (inr (v, B, q, a)) =
      let (c, e, D) = change_at_lem m calls R k u (worked_on k t u after W) in
      inr (
        P,
        (
          c,
          v,
          e,
          record {
            during = D;
            by = t;
            after = after;
            steps = P;
            brings = subst (λ u. Brings u after (change_at (M k) u).frozen (place next m calls k t) v) (sym e) B;
            ends = ((moved k t P).0 ∙ q, (moved k t P).1 ∙ a _);
          },
        ),
      )

  pub finishes : (k t u : ℕ) (after : After) → Works u after (place next m calls k t) → GoingOn k t u after ⊎ Done k t u
  unfolding before
  finishes k t u after W = ⊎_elim
      (λ (h : (task_at (M (suc k)) t ≡ task_at (M k) t) × (Passes (M k) (calls k) AskStep → (calls k).task ≢ t)).
      inl (subst (λ (x : Task). Works u after x.place) (sym h.0) W, λ P. absurd (h.1 (step_passes m calls R k t P) P.by)))
      (λ (h : Passes (M k) (calls k) AskStep × ((calls k).task ≡ t)).
      let P = subst (λ t. Steps next m calls k t) h.1 (passed_steps m calls R k h.0) in
      by_step k t u after P W (finish k t u after P W))
      (by_steps (M k) (calls k) t (inside m calls R k t l) (inside m calls R (suc k) t l) (works_on u after _ W).1)
    where
      l : t < m.p
      l = worker k t u after W

  pub not_taken : (c : Ch) (t : ℕ) (after : After) → Works c.number after (place next m calls c.start t) → ⊥
  not_taken c t after W =
      live-not-taken C c.start c.number (worked_on c.start t c.number after W) (starts m calls R c c.number refl)
