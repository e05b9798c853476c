-- A busy task moves by its own steps alone: calls of others leave it, a start of its own is refused, and its step is not. Its operation is
-- in progress until it is idle.
use Prim.Native.Nat.{ℕ, suc, ◌<◌}
use mathlib.Core.Path.{◌≡◌, refl, sym, ap, ◌∙◌, subst}
use mathlib.Core.Bool.{true, false, true≢false}
use mathlib.Core.Logic.{◌⊎◌, inl, inr, ⊎_elim, ⊎_map, ◌≢◌}
use native.Mathlib.Omega.{arith}
use borrow.Author.Tests.{lt-ltb}
use Rattle.rules.specs.Words.{Machine, Ask, AskLlx, AskScx, AskVlx, AskRead, AskStep, Call, Check, Ok, Err, Refusal, Out}
use Rattle.rules.specs.Words.{Place, Idle, L1, L2, L3, L4, L5, L6, L7, L8, L9, L10, L11, H1, H2, H3, H4, H5, H6, H7, H8, Vlx, Read}
use Rattle.table.specs.Table.{task_at}
use Rattle.rules.specs.Places.{is_idle}
use Rattle.rules.specs.Refuse.{check, rules_of, idle_at}
use Rattle.rules.specs.Shape.{shape, in_shape, InShape}
use Rattle.rules.specs.Next.{refused, answered, next}
use Rattle.rules.proofs.Exact.{passes}
use Rattle.keeps.proofs.Fine.{Fine, in_shape_lem}
use Rattle.clauses.proofs.Updates.{same?}
use Rattle.orders.specs.Demand.{place, Going}
use Rattle.orders.proofs.Frames.{tasks_stay}
use Rattle.orders.proofs.Calls.{Passes, obeyed}
use Rattle.orders.proofs.Run.{task_in_lem}

-- a place is idle or busy
pub idle_or : (q : Place) → (q ≡ Idle) ⊎ (is_idle q ≡ false)
idle_or Idle = inl refl
idle_or (L1 r) = inr refl
idle_or (L2 r m1) = inr refl
idle_or (L3 r m1 a) = inr refl
idle_or (L4 r m1 a s) = inr refl
idle_or (L5 r m1 a f) = inr refl
idle_or (L6 r m1 a) = inr refl
idle_or (L7 r m1 a) = inr refl
idle_or (L8 r m1 a) = inr refl
idle_or (L9 r) = inr refl
idle_or (L10 r b) = inr refl
idle_or (L11 r) = inr refl
idle_or (H1 u i after) = inr refl
idle_or (H2 u i after) = inr refl
idle_or (H3 u after) = inr refl
idle_or (H4 u after) = inr refl
idle_or (H5 u after) = inr refl
idle_or (H6 u i after) = inr refl
idle_or (H7 u after) = inr refl
idle_or (H8 u after) = inr refl
idle_or (Vlx n i) = inr refl
idle_or (Read r f) = inr refl

-- its own call is a step that passes, or it is none and leaves the table as it came
abbrev NoStep : Machine → Call → Machine → Type 0
NoStep m e m' = (m' ≡ m) × (Passes m e AskStep → ⊥)

pub own_call : (m : Machine) (e : Call) → idle_at m e.task ≡ false → NoStep m e (next m e).m ⊎ Passes m e AskStep
unfolding next refused
own_call m e busy = go (check (rules_of m e)) refl
  where
    started : idle_at m e.task ≡ true → Passes m e AskStep
    started h = absurd (true≢false (sym h ∙ busy))

    asked : (ask : Ask) → Passes m e ask → Passes m e AskStep
    asked (AskLlx r) P = started (obeyed m e _ P).1.0
    asked (AskScx n r written field new) P = started (obeyed m e _ P).1.0
    asked (AskVlx n) P = started (obeyed m e _ P).1.0
    asked (AskRead r f) P = started (obeyed m e _ P).1.0
    asked AskStep P = P

    failed : (why : Refusal) → check (rules_of m e) ≡ Err why → Passes m e AskStep → ⊥
    failed why h P = let q : Err why ≡ Ok tt = sym h ∙ P.passed in let z : ◌≡◌ {A = ℕ} 0 1 = cc in omega arith

    go : (c : Check) → check (rules_of m e) ≡ c → NoStep m e (answered c m e).m ⊎ Passes m e AskStep
    go (Ok _) h = inr (asked e.ask (record { passed = h; asks = refl }))
    go (Err why) h = inl (refl, failed why h)

-- any call is a step of t that passes, or it is none and leaves t
abbrev Leaves : Machine → Call → ℕ → Machine → Type 0
Leaves m e t m' = (task_at m' t ≡ task_at m t) × (Passes m e AskStep → e.task ≢ t)

pub by_steps : (m : Machine) (e : Call) (t : ℕ) → t < m.p → t < (next m e).m.p → idle_at m t ≡ false
    → Leaves m e t (next m e).m ⊎ (Passes m e AskStep × (e.task ≡ t))
by_steps m e t l l' busy = ⊎_elim
    (λ (q : t ≡ e.task). ⊎_map (λ (o : NoStep m e (next m e).m). (ap (λ (m : Machine). task_at m t) o.0, λ P. absurd (o.1 P))) (λ P. (P, sym q))
    (own_call m e (subst (λ t. idle_at m t ≡ false) q busy)))
    (λ n. inl (sym (task_in_lem (next m e).m t l') ∙ tasks_stay m e t n ∙ task_in_lem m t l, λ P q. n (sym q))) (same? t e.task)

pub own_step : (m : Machine) (e : Call) → Fine m → e.task < m.p → idle_at m e.task ≡ false → e.ask ≡ AskStep → Passes m e AskStep
unfolding rules_of in_shape InShape
own_step m e F l busy q = record {
  passed = rw (q, passes m.used (shape m) (in_shape_lem m F), lt-ltb e.task m.p l, busy) refl;
  asks = q;
}

-- in progress before call k, and busy after it: in progress before the next
pub longer : (next : Machine → Call → Out) (m : Machine) (calls : ℕ → Call) (s t k : ℕ) → Going next m calls s t k
    → place next m calls (suc k) t ≢ Idle → Going next m calls s t (suc k)
longer next m calls s t k g b = record {
  later = omega (arith, g.later);
  busy = λ j a l. ⊎_elim (λ (e : j ≡ suc k). rw e b) (λ n. g.busy j a (omega arith)) (same? j (suc k));
}
