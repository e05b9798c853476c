-- Effects of the statement are the writes of the course; with that, its sentences on effects and on closed records.
use Prim.Native.Nat.{ℕ, zero, suc, ◌/◌, ◌%◌, ◌^◌, ◌<◌}
use mathlib.Core.Path.{◌≡◌, refl, sym, ap, ◌∙◌, subst}
use mathlib.Core.Bool.{Bool, true, false, true≢false}
use mathlib.Core.Logic.{◌⊎◌, inl, inr, ⊎_elim}
use mathlib.Core.List.{List}
use native.Mathlib.Omega.{arith}
use native.Mathlib.Nat.{div-one}
use lib.ListN.{get_or}
use borrow.Author.Tests.{eqb-true, eq-eqb}
use Rattle.rules.specs.Start.{places}
use Rattle.rules.specs.Words.{Record, Machine, AskStep, Call}
use Rattle.table.specs.Table.{pick, cell_at, record_at, task_at}
use Rattle.rules.specs.Next.{next}
use Rattle.keeps.proofs.Refused.{is_refusal, passed_answers}
use Rattle.clauses.proofs.Updates.{same?, leb_case}
use Rattle.clauses.proofs.Memory.{Terms, Shared, apply, nop, write}
use Rattle.clauses.proofs.Memory.{spot as spot_of}
use Rattle.clauses.proofs.Steps.{is_old, act_at}
use Rattle.clauses.proofs.Course.{Course, S, turn, since_start}
use Rattle.clauses.proofs.Came.{Wrote, Writes, alters_by, writes_alter}
use Rattle.clauses.proofs.Sentences.{write_live, once as one-write, alters as write-alters}
use Rattle.clauses.proofs.Closed.{closed as stays_closed}
use Rattle.orders.specs.Demand.{before, place, cell, mark, info, Steps, Change, named, spot, Closes, During, Effect, Still}
use Rattle.orders.proofs.View.{shared, record_in}
use Rattle.orders.proofs.Calls.{Passes, not_refused, did_is, obeyed, wrote}
use Rattle.orders.proofs.Run.{Run, course, record_in_lem}
use Rattle.orders.proofs.Changes.{by_list, passes, terms, makes, alone, change_at_lem}

-- the bits of R, place by place, and the other way round
bits : (r i : ℕ) → i < 4 → r / 2 ^ i % 2 ≡ 1 → get_or (places r) i false ≡ true
bits r zero h q = eq-eqb _ _ (ap (λ x. x % 2) (sym (div-one r)) ∙ q)
bits r (suc zero) h q = eq-eqb _ _ q
bits r (suc (suc zero)) h q = eq-eqb _ _ q
bits r (suc (suc (suc zero))) h q = eq-eqb _ _ q
bits r (suc (suc (suc (suc i)))) h q = absurd (omega arith)

pub bit : (r i : ℕ) → i < 4 → get_or (places r) i false ≡ true → r / 2 ^ i % 2 ≡ 1
bit r zero h q = ap (λ x. x % 2) (div-one r) ∙ eqb-true _ _ q
bit r (suc zero) h q = eqb-true _ _ q
bit r (suc (suc zero)) h q = eqb-true _ _ q
bit r (suc (suc (suc zero))) h q = eqb-true _ _ q
bit r (suc (suc (suc (suc i)))) h q = absurd (omega arith)

module _ (m : Machine) (calls : ℕ → Call) (R : Run m calls) where
  abbrev M : ℕ → Machine
  M k = before next m calls k

  abbrev C : Course
  C = course m calls R

  abbrev Ch : Type 0
  Ch = Change next m calls

  -- a record of the table is the same in the statement and in the course
  pub is_in : (k r : ℕ) → r < m.n → record_in (M k) r ≡ record_at (M k) r
  is_in k r h = record_in_lem (M k) r (subst (λ n. r < n) (sym (R.same_n k)) h)

  pub cell_is : (k r f : ℕ) → r < m.n → (S C k).cell r f ≡ cell next m calls k r f
  cell_is k r f h = ap (λ (x : Record). cell_at x.cells f) (is_in k r h)

  pub inside : (c : Ch) (i : ℕ) → i < c.n → named next m calls c i < m.n
  inside c i h = subst (λ n. named next m calls c i < n) (R.same_n c.start)
      (subst (λ (l : List ℕ). get_or l i 0 < (M c.start).n) (by_list m calls R c)
      ((obeyed (M c.start) (calls c.start) _ (passes m calls R c)).1.1.1.0 i h))

  written_inside : (c : Ch) → c.written < c.n
  written_inside c = (obeyed (M c.start) (calls c.start) _ (passes m calls R c)).1.1.1.1.1.0.0

  pub field_inside : (c : Ch) → c.field < 4
  field_inside c = (obeyed (M c.start) (calls c.start) _ (passes m calls R c)).1.1.1.1.1.0.1.1

  pub spot_inside : (c : Ch) → spot next m calls c < m.n
  spot_inside c = inside c c.written (written_inside c)

  -- a step that is not refused has passed, and the other way round
  pub step_passes : (k t : ℕ) → Steps next m calls k t → Passes (M k) (calls k) AskStep
  step_passes k t P = record { passed = not_refused (M k) (calls k) P.not_refused; asks = P.step }

  pub passed_steps : (k : ℕ) → Passes (M k) (calls k) AskStep → Steps next m calls k (calls k).task
  passed_steps k P = record {
    step = P.asks;
    by = refl;
    not_refused = λ why e. true≢false (sym (ap is_refusal e) ∙ passed_answers (M k) (calls k) P.passed);
  }

  pub act_is : (k t : ℕ) → Steps next m calls k t → C.act k ≡ act_at (shared (M k)) (place next m calls k t)
  act_is k t P = did_is (M k) (calls k) AskStep (step_passes k t P) ∙ ap (λ t. act_at (shared (M k)) (task_at (M k) t).place) P.by

  -- AN EFFECT IS A WRITE
  pub writes : (c : Ch) (k : ℕ) → Effect next m calls c k → Writes C k c.number
  unfolding act_at apply
  writes c k E = go (is_old (shared (M k)) c.number) (act_is k E.by E.steps ∙ ap (λ q. act_at (shared (M k)) q) E.at_h7)
    where
      go : (b : Bool) → C.act k ≡ pick b (write c.number) nop → Writes C k c.number
      go true e = e
      go false e = absurd (E.alters (sym (cell_is (suc k) (spot next m calls c) c.field (spot_inside c))
          ∙ ap (λ (s : Shared). s.cell (spot next m calls c) c.field) ((turn C k).shared ∙ ap (λ b. apply b (S C k)) e)
          ∙ cell_is k (spot next m calls c) c.field (spot_inside c)))

  -- the terms of a change that writes are those of its start
  pub terms_at : (c : Ch) (k : ℕ) → During next m calls c k → Writes C k c.number → (S C k).terms c.number ≡ terms m calls R c
  terms_at c k D E =
      (since_start C c.start c.number (terms m calls R c) k (makes m calls R c) D.later (alone m calls R c k D) (write_live C k c.number E)).0

  -- and a write is an effect
  pub effect : (c : Ch) (k : ℕ) → During next m calls c k → Writes C k c.number → Effect next m calls c k
  effect c k D E =
      let (P, at) = wrote (M k) (calls k) c.number E in
      record {
        during = D;
        by = (calls k).task;
        after = at.0;
        steps = passed_steps k P;
        at_h7 = at.1;
        alters = λ e. writes_alter C k c.number E (subst
            (λ (t : Terms). (S C (suc k)).cell (spot_of t) t.field ≡ (S C k).cell (spot_of t) t.field) (sym (terms_at c k D E))
            (cell_is (suc k) (spot next m calls c) c.field (spot_inside c) ∙ e ∙ sym (cell_is k (spot next m calls c) c.field (spot_inside c))));
      }

  effect_of : (k u : ℕ) → Writes C k u → (c : Ch) × (c.number ≡ u) × Effect next m calls c k
  effect_of k u E = let (c, q, D) = change_at_lem m calls R k u (write_live C k u E) in (c, q, effect c k D (E ∙ ap write (sym q)))

  -- "alters its one field exactly once"
  pub once : (c : Ch) (j k : ℕ) → Effect next m calls c j → Effect next m calls c k → j ≡ k
  once c j k E D = ⊎_elim (λ e. e)
      (λ n. ⊎_elim (λ l. absurd (twice j k E D (omega arith))) (λ l. absurd (twice k j D E l)) (leb_case j k)) (same? j k)
    where
      twice : (j k : ℕ) → Effect next m calls c j → Effect next m calls c k → j < k → ⊥
      twice j k E D l = one-write C c.number j k (writes c j E) (writes c k D) l
          (λ i a b. alone m calls R c k D.during i (omega (arith, E.during.later)) b)

  pub alters_its_field : (c : Ch) (k : ℕ) → Effect next m calls c k
      → cell next m calls (suc k) (spot next m calls c) c.field ≡ record { value = c.new; stamp = c.number }
  alters_its_field c k E = sym (cell_is (suc k) (spot next m calls c) c.field (spot_inside c))
      ∙ (write-alters C c.start c.number (terms m calls R c) (makes m calls R c) k E.during.later
      (alone m calls R c k E.during) (writes c k E)).1

  -- "A change without effect alters no field"
  pub by_an_effect : (k r f : ℕ) → r < m.n
      → (cell next m calls (suc k) r f ≡ cell next m calls k r f) ⊎ ((c : Ch) × Effect next m calls c k × (r ≡ spot next m calls c) × (f ≡ c.field))
  by_an_effect k r f h = ⊎_elim (λ e. inl (sym (cell_is (suc k) r f h) ∙ e ∙ cell_is k r f h))
      (λ (w : Wrote (S C k) (C.act k) r f). inr (by w)) (alters_by C k r f)
    where
      by : Wrote (S C k) (C.act k) r f → (c : Ch) × Effect next m calls c k × (r ≡ spot next m calls c) × (f ≡ c.field)
      by (u, E, a, b) =
          let (c, q, D) = effect_of k u E in
          let P : (S C k).terms u ≡ terms m calls R c = subst (λ u. (S C k).terms u ≡ terms m calls R c) q (terms_at c k D.during (writes c k D)) in
          (c, D, a ∙ ap (λ (t : Terms). spot_of t) P, b ∙ ap (λ (t : Terms). t.field) P)

  few : (c : Ch) (i : ℕ) → i < c.n → i < 4
  few c i h = omega (arith, (obeyed (M c.start) (calls c.start) _ (passes m calls R c)).1.1.0.1)

  -- "From that moment, records it closes never alter"
  pub closed : (c : Ch) (k : ℕ) → Effect next m calls c k → (r : ℕ) → Closes next m calls c r → (j : ℕ) → k < j
      → Still next m calls j r × (mark next m calls j r ≡ true) × (info next m calls j r ≡ c.number)
  closed c k E r (i, h, q, e) j l =
      let (a, b, d) = stays_closed C c.start c.number (terms m calls R c) (makes m calls R c) k E.during.later
      (alone m calls R c k E.during) (writes c k E) i h (bits c.closing i (few c i h) q) j l in
      let n = inside c i h in
      subst (λ r. Still next m calls j r × (mark next m calls j r ≡ true) × (info next m calls j r ≡ c.number)) e (
        λ f. sym (cell_is (suc j) _ f n) ∙ a f ∙ cell_is j _ f n,
        ap (λ (x : Record). x.mark) (sym (is_in j _ n)) ∙ b,
        ap (λ (x : Record). x.info) (sym (is_in j _ n)) ∙ d,
      )
