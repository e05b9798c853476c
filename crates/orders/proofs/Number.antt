-- The base takes the next number, and no number in the table is above the used count: so the next one is not in use. This is all that
-- demand 3 asks of the numbering.
use Prim.Native.Nat.{ℕ, zero, suc, ◌+◌, ◌≤◌, ◌<◌, zero-le}
use mathlib.Core.Path.{◌≡◌, refl, subst}
use mathlib.Core.Bool.{true, false≢true}
use mathlib.Core.Logic.{◌⊎◌, inl, inr, ◌≢◌}
use native.Mathlib.Omega.{arith}
use lib.Dec.{ltb}
use borrow.Author.Tests.{ltb-true}
use Rattle.rules.specs.Words.{Machine, Record, Link, Task}
use Rattle.table.specs.Table.{pick, no_record, no_task, no_link, cell_at, record_at, change_at, task_at, link_at}
use Rattle.rules.specs.Places.{change_of}
use Rattle.keeps.proofs.Fine.{Fine}
use Rattle.keeps.proofs.Stores.{picked}
use Rattle.keeps.proofs.Places.{named}
use Rattle.clauses.proofs.Clauses.{Live, Fresh}
use Rattle.orders.proofs.View.{record_in, task_in, link_in, view}

module _ (m : Machine) (F : Fine m) where
  pub info_known : (r : ℕ) → (record_in m r).info ≤ m.used
  info_known r = picked (λ (x : Record). x.info ≤ m.used) (ltb r m.n) (record_at m r) no_record
      (λ e. (F.record_fine_lem r (ltb-true r m.n e)).0) (λ e. zero-le)

  place_known : (t : ℕ) → change_of (task_in m t).place ≤ m.used
  place_known t = picked (λ (x : Task). change_of x.place ≤ m.used) (ltb t m.p) (task_at m t) no_task
      (λ e. let x = task_at m t in let ch = change_at m (change_of x.place) in
      named m.used m.n ch.n ch.r (λ r. (link_at m t r).there) x.cells x.list x.place (F.task_fine_lem t (ltb-true t m.p e)))
      (λ e. zero-le)

  pub stamp_known : (r f : ℕ) → f < 4 → (cell_at (record_in m r).cells f).stamp ≤ m.used
  stamp_known r f l = picked (λ (x : Record). (cell_at x.cells f).stamp ≤ m.used) (ltb r m.n) (record_at m r) no_record
      (λ e. (F.record_fine_lem r (ltb-true r m.n e)).1 f l) (λ e. zero-le)

  -- who is live is used
  pub live_known : (u : ℕ) → Live (view m) u → (0 < u) × (u ≤ m.used)
  live_known u (z, l) = (positive u z, known l)
    where
      positive : (u : ℕ) → u ≢ 0 → 0 < u
      positive zero n = absurd (n refl)
      positive (suc u) n = omega arith

      known : ((r : ℕ) × ((record_in m r).info ≡ u)) ⊎ ((t : ℕ) × (change_of (task_in m t).place ≡ u)) → u ≤ m.used
      known (inl (r, e)) = subst (λ x. x ≤ m.used) e (info_known r)
      known (inr (t, e)) = subst (λ x. x ≤ m.used) e (place_known t)

  abbrev LinkKnown : Link → Type 0
  LinkKnown k = k.there ≡ true → (k.info ≤ m.used) × ((f : ℕ) → f < 4 → (cell_at k.cells f).stamp ≤ m.used)

  link_known : (t r : ℕ) → LinkKnown (link_in m t r)
  link_known t r = picked LinkKnown (ltb t m.p) (pick (ltb r m.n) (link_at m t r) no_link) no_link
      (λ e. picked LinkKnown (ltb r m.n) (link_at m t r) no_link
      (λ q. F.link_fine_lem t (ltb-true t m.p e) r (ltb-true r m.n q)) (λ q h. absurd (false≢true h)))
      (λ e h. absurd (false≢true h))

  above : {u : ℕ} → u ≤ m.used → u ≢ m.used + 1
  above h e = omega arith

  -- THE NEXT NUMBER IS FRESH
  pub next_number_lem : Fresh (view m) (m.used + 1)
  next_number_lem = record {
    nonzero = λ e. omega arith;
    dead = λ l. above (live_known (m.used + 1) l).1 refl;
    no_stamp = λ r f l. above (stamp_known r f l);
    no_link_lem = λ t r h. (above (link_known t r h).0, λ f l. above ((link_known t r h).1 f l));
    no_stored = λ x l i h. let (a, b) = live_known x l in above ((F.change_fine_lem x a b).1.1.1.1.1 i h);
    no_old = λ x l. let (a, b) = live_known x l in above (F.change_fine_lem x a b).1.1.1.1.0;
  }
