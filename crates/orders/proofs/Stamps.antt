-- Two sentences of document 01 on runs beside demand 3. A stamp other than 0 is that of the effect that wrote the cell, so a cell that an
-- effect writes was never in that field before: the paper's constraint on repeated values holds by itself. And L11 never reads 0.
use Prim.Native.Nat.{ℕ, zero, suc, ◌≤◌, ◌<◌}
use mathlib.Core.Path.{◌≡◌, sym, ap, ◌∙◌, subst}
use mathlib.Core.Bool.{true}
use mathlib.Core.Logic.{◌≢◌, ⊎_elim}
use mathlib.Core.List.{List}
use native.Mathlib.Omega.{arith}
use lib.ListN.{length}
use Rattle.rules.specs.Words.{Cell, Record, Machine, L11, Call}
use Rattle.table.specs.Table.{cell_at, task_at, change_at, link_at}
use Rattle.rules.specs.Places.{change_of}
use Rattle.rules.specs.Claim.{Says}
use Rattle.rules.specs.Shape.{place_fine}
use Rattle.table.specs.Fresh.{in_range, fresh}
use Rattle.rules.specs.Next.{next}
use Rattle.clauses.proofs.Memory.{write}
use Rattle.clauses.proofs.Clauses.{At}
use Rattle.clauses.proofs.Course.{S, history}
use Rattle.clauses.proofs.Sentences.{once as one-write}
use Rattle.orders.specs.Demand.{before, place, cell, info, Change, spot, Effect}
use Rattle.orders.proofs.Run.{Run, course, inside, place_known}
use Rattle.orders.proofs.Number.{stamp_known}
use Rattle.orders.proofs.FromFresh.{unused, run}
use Rattle.orders.proofs.Changes.{number_is, alone}
use Rattle.orders.proofs.Effects.{is_in, field_inside, spot_inside, writes, alters_its_field, by_an_effect}
use Rattle.orders.proofs.Given.{given_once}

module _ (p n : ℕ) (values : List ℕ) (ok : in_range p n (length values) ≡ true) (calls : ℕ → Call) where
  abbrev m : Machine
  m = (fresh p n values).m

  abbrev R : Run m calls
  R = run p n values ok calls

  abbrev Ch : Type 0
  Ch = Change next m calls

  -- the effect that wrote a cell: of the change that its stamp names
  pub stamped_by : (j r f : ℕ) → r < m.n → f < 4 → (cell next m calls j r f).stamp ≢ 0
      → (c : Ch) × (i : ℕ) × (i < j) × Effect next m calls c i × (c.number ≡ (cell next m calls j r f).stamp) × (r ≡ spot next m calls c) × (f ≡ c.field)
  unfolding before
  stamped_by zero r f h l z =
      let k : (cell next m calls 0 r f).stamp ≤ m.used = subst (λ (x : Record). (cell_at x.cells f).stamp ≤ m.used) (is_in m calls R 0 r h)
      (stamp_known m (R.shaped 0) r f l) in
      absurd (z (omega (arith, unused p n values ok)))
  stamped_by (suc j) r f h l z = ⊎_elim
      (λ (e : cell next m calls (suc j) r f ≡ cell next m calls j r f).
      let (c, i, a, E, q, x, y) = stamped_by j r f h l (λ y. z (ap (λ (c : Cell). c.stamp) e ∙ y)) in
      (c, i, omega arith, E, q ∙ ap (λ (c : Cell). c.stamp) (sym e), x, y))
      (λ (w : (c : Ch) × Effect next m calls c j × (r ≡ spot next m calls c) × (f ≡ c.field)). let (c, E, a, b) = w in (
        c,
        j,
        omega arith,
        E,
        sym (ap (λ (c : Cell). c.stamp) (ap (λ r. cell next m calls (suc j) r f) a
            ∙ ap (λ f. cell next m calls (suc j) (spot next m calls c) f) b ∙ alters_its_field m calls R c j E)),
        a,
        b,
      ))
      (by_an_effect m calls R j r f h)

  -- "its constraint on repeated values always holds"
  pub new_every_time : (c : Ch) (k : ℕ) → Effect next m calls c k → (j : ℕ) → j ≤ k
      → cell next m calls j (spot next m calls c) c.field ≢ record { value = c.new; stamp = c.number }
  new_every_time c k E j l e =
      let s = ap (λ (c : Cell). c.stamp) e in
      let (d, i, a, D, q, x, y) = stamped_by j (spot next m calls c) c.field (spot_inside m calls R c) (field_inside m calls R c)
      (λ z. nonzero (sym s ∙ z)) in
      let u : d.number ≡ c.number = q ∙ s in
      let same : d.start ≡ c.start = given_once p n values ok calls d c u in
      one-write (course m calls R) c.number i k (writes m calls R d i D ∙ ap write u) (writes m calls R c k E) (omega arith)
      (λ z p q. alone m calls R c k E.during z (omega (arith, D.during.later)) q)
    where
      nonzero : c.number ≢ 0
      nonzero z = omega (arith, number_is m calls R c)

  -- "If c is 0, which only an unreachable state can give, L11 itself answers Fail"
  pub l11_reads_a_change : (k t r : ℕ) → t < m.p → place next m calls k t ≡ L11 r → info next m calls k r ≢ 0
  l11_reads_a_change k t r h e z =
      let C = course m calls R in
      let tl = inside m calls R k t h in
      let rl = subst (λ q. Says (before next m calls k).used (place_fine (before next m calls k).n (change_at (before next m calls k) (change_of q)).n
      (change_at (before next m calls k) (change_of q)).r (λ r. (link_at (before next m calls k) t r).there) (task_at (before next m calls k) t).cells
      (task_at (before next m calls k) t).list q)) e ((R.shaped k).task_fine_lem t tl) in
      subst (λ q. At (S C k) (history C k) (task_at (before next m calls k) t).cells q) e (place_known m calls R k t h)
      (ap (λ (x : Record). x.info) (is_in m calls R k r (subst (λ n. r < n) (R.same_n k) rl)) ∙ z)
