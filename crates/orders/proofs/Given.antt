-- In the base a number is given once, so a change has its number for good. Demand 3 does not need this: it is what the numbering adds.
use Prim.Native.Nat.{ℕ, zero, suc, ◌≤◌, ◌<◌}
use mathlib.Core.Path.{◌≡◌, sym, ap, ◌∙◌}
use mathlib.Core.Bool.{true}
use mathlib.Core.Logic.{⊎_elim}
use mathlib.Core.List.{List}
use native.Mathlib.Omega.{arith}
use native.Mathlib.Nat.{le_refl}
use lib.ListN.{length}
use Rattle.rules.specs.Words.{Machine, Call, Out}
use Rattle.table.specs.Fresh.{in_range, fresh}
use Rattle.rules.specs.Start.{start}
use Rattle.rules.specs.Next.{started, next}
use Rattle.keeps.proofs.Fixed.{used_rises}
use Rattle.clauses.proofs.Updates.{same?, leb_case, le_split}
use Rattle.orders.specs.Demand.{before, Change, During}
use Rattle.orders.proofs.Calls.{next_is}
use Rattle.orders.proofs.Run.{Run}
use Rattle.orders.proofs.FromFresh.{run}
use Rattle.orders.proofs.Changes.{passes, number_is}

module _ (m : Machine) (calls : ℕ → Call) (R : Run m calls) where
  abbrev M : ℕ → Machine
  M k = before next m calls k

  abbrev Ch : Type 0
  Ch = Change next m calls

  rises : (j k : ℕ) → j ≤ k → (M j).used ≤ (M k).used
  unfolding before
  rises j zero h = let e : j ≡ 0 = omega arith in rw e (le_refl _)
  rises j (suc k) h = ⊎_elim (λ (e : j ≡ suc k). rw e (le_refl _))
      (λ l. omega (arith, rises j k l, used_rises (M k) (calls k))) (le_split j k h)

  taken : (c : Ch) → (M (suc c.start)).used ≡ c.number
  unfolding before started start
  taken c = ap (λ (o : Out). o.m.used) (next_is (M c.start) (calls c.start) _ (passes m calls R c)) ∙ sym (number_is m calls R c)

  later : (c d : Ch) → c.start < d.start → c.number < d.number
  later c d h = omega (arith, taken c, number_is m calls R d, rises (suc c.start) d.start h)

  same : (c d : Ch) → c.number ≡ d.number → c.start ≡ d.start
  same c d e = ⊎_elim (λ q. q) (λ n. ⊎_elim (λ l. absurd (let h = later c d (omega arith) in omega arith))
      (λ l. absurd (let h = later d c l in omega arith)) (leb_case c.start d.start)) (same? c.start d.start)

module _ (p n : ℕ) (values : List ℕ) (ok : in_range p n (length values) ≡ true) (calls : ℕ → Call) where
  pub given_once : (c d : Change next (fresh p n values).m calls) → c.number ≡ d.number → c.start ≡ d.start
  given_once = same (fresh p n values).m calls (run p n values ok calls)

  pub for_good : (c : Change next (fresh p n values).m calls) (k : ℕ) → c.start < k → During next (fresh p n values).m calls c k
  for_good c k h = record { later = h; alone = λ d a b e. let s = given_once d c e in omega arith }
