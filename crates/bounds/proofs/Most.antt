-- "LLX 39, VLX n, READ 1, SCX 2n + f + 3": along a run the rank falls with each own step and never rises, so its value at the start
-- bounds them.
use Prim.Native.Nat.{ℕ, suc, ◌+◌, ◌-◌, ◌*◌, ◌≤◌, ◌<◌}
use mathlib.Core.Path.{◌≡◌, refl, ap, ◌∙◌, subst}
use mathlib.Core.Logic.{inr, ◌≢◌}
use native.Mathlib.Omega.{arith}
use native.Mathlib.Nat.{le_refl}
use Rattle.rules.specs.Words.{Machine, Call, Ask, AskLlx, AskScx, AskVlx, AskRead, Place, Idle, L1, H1, Vlx, Read, Own, Yes, Change, Seen}
use Rattle.table.specs.Table.{task_at}
use Rattle.rules.specs.Places.{change_of, resume}
use Rattle.rules.specs.Step.{place_of}
use Rattle.rules.specs.Next.{next}
use Rattle.clauses.proofs.Memory.{Terms, Shared, apply}
use Rattle.clauses.proofs.Steps.{terms_of, act_at, Saw}
use Rattle.clauses.proofs.Course.{Course, X, S, history, fine, turn, started}
use Rattle.orders.specs.Demand.{before, place, Going, Starts}
use Rattle.orders.specs.Demand.{Change as Asked}
use Rattle.orders.proofs.Calls.{Passes, obeyed}
use Rattle.orders.proofs.Run.{Run, course, place_known, works_live}
use Rattle.orders.proofs.Changes.{start_passes, terms, makes}
use Rattle.orders.proofs.Untouched.{task_inside}
use Rattle.bounds.specs.Bounds.{size, own}
use Rattle.bounds.proofs.Marks.{all, all_bits}
use Rattle.bounds.proofs.Rank.{rank, keeps}
use Rattle.bounds.proofs.Lower.{lower}
use Rattle.bounds.proofs.Along.{begun, not_taken, resumes}
use Rattle.bounds.proofs.Count.{at_most}

rank_scx : (S : Shared) (u : ℕ) (c : Terms) → S.terms u ≡ c → rank S (H1 u 0 Own) ≡ 2 * c.n + all c + 3
unfolding rank
rank_scx S u c e = rw e (omega arith)

module _ (m : Machine) (calls : ℕ → Call) (R : Run m calls) where
  abbrev M : ℕ → Machine
  M k = before next m calls k

  abbrev C : Course
  C = course m calls R

  module _ (t : ℕ) (tl : t < m.p) where
    abbrev at : ℕ → Place
    at k = place next m calls k t

    lowers : (k : ℕ) → at k ≢ Idle → (s : Seen) (ch : Change) (linked : ℕ) → terms_of ch ≡ (S C k).terms (change_of (at k)) → Saw (S C k) s (at k)
        → rank (apply (act_at (S C k) (at k)) (S C k)) (place_of (resume (at k) s ch linked)) < rank (S C k) (at k)
    lowers k b s ch linked e w = lower (X C k) (history C k) (fine C k) (task_at (M k) t).cells s ch linked (at k) e w
        (works_live m calls R k t tl _ refl) (place_known m calls R k t tl) b

    stays : (k : ℕ) → rank (S C (suc k)) (at k) ≤ rank (S C k) (at k)
    stays k = rw (turn C k).shared (keeps (S C k) (history C k) (C.who k) (C.reads k) (C.act k) (turn C k).guard (at k)
        (not_taken C k (change_of (at k)) (works_live m calls R k t tl _ refl)))

    most : (s k : ℕ) → Going next m calls s t k → own next m calls s t k < rank (S C (suc s)) (at (suc s))
    most s k g = at_most m calls R s t tl (λ Z q n. rank Z q ≤ n) (λ x. x ≡ Yes) k _ (le_refl _)
        (λ k n g h s ch linked e w. let l = lowers k (g.busy k g.later (le_refl k)) s ch linked e w in inr (n - 1, omega arith, omega arith))
        (λ k n g l h y. omega (arith, stays k))
        (λ n h. resumes m calls R t tl k (λ v. 0 < n)
        (λ s ch linked e w. omega (arith, lowers k (g.busy k g.later (le_refl k)) s ch linked e w))) g

  -- from an accepted start on, by the rank of the place where it leads
  from_start : (s t : ℕ) (ask : Ask) → Starts next m calls s t ask → (q : Place)
      → (Passes (M s) (calls s) ask → ((calls s).task < (M s).p) × ((task_at (M (suc s)) (calls s).task).place ≡ q))
      → (k : ℕ) → Going next m calls s t k → own next m calls s t k < rank (S C (suc s)) q
  from_start s t ask B q h k g =
      let P = start_passes m calls R s t ask B in
      let (l, e) = begun m calls R s t ask B q (h P).0 (h P).1 in
      subst (λ q. own next m calls s t k < rank (S C (suc s)) q) e (most t l s k g)

  pub llx_most : (s t r k : ℕ) → Starts next m calls s t (AskLlx r) → Going next m calls s t k → own next m calls s t k < 39
  unfolding rank
  llx_most s t r k B = from_start s t (AskLlx r) B (L1 r) (λ P. ((obeyed (M s) (calls s) _ P).0, R.goes_to s (AskLlx r) P)) k

  pub vlx_most : (s t n k : ℕ) → Starts next m calls s t (AskVlx n) → Going next m calls s t k → own next m calls s t k < n
  unfolding rank
  vlx_most s t n k B g =
      let h = from_start s t (AskVlx n) B (Vlx n 0) (λ P. ((obeyed (M s) (calls s) _ P).0, R.goes_to s (AskVlx n) P)) k g in
      omega arith

  pub read_most : (s t r f k : ℕ) → Starts next m calls s t (AskRead r f) → Going next m calls s t k → own next m calls s t k < 1
  unfolding rank
  read_most s t r f k B = from_start s t (AskRead r f) B (Read r f) (λ P. ((obeyed (M s) (calls s) _ P).0, R.goes_to s (AskRead r f) P)) k

  of_change : (c : Asked next m calls) (k : ℕ) → Going next m calls c.start c.task k
      → own next m calls c.start c.task k < 2 * c.n + size c.closing + 3
  of_change c k g =
      subst (λ x. own next m calls c.start c.task k < x)
      (ap (rank (S C (suc c.start))) c.takes
      ∙ rank_scx (S C (suc c.start)) c.number _ (started C c.start c.number (terms m calls R c) (makes m calls R c)).0
      ∙ ap (λ f. 2 * c.n + f + 3) (all_bits c.closing))
      (most c.task (task_inside m calls R c) c.start k g)

  pub scx_most : (s t n r written field new k : ℕ) → Starts next m calls s t (AskScx n r written field new) → Going next m calls s t k
      → own next m calls s t k < 2 * n + size r + 3
  scx_most s t n r written field new k B g =
      let P = start_passes m calls R s t _ B in
      of_change (record {
        start = s;
        task = t;
        n = n;
        list = B.list;
        closing = r;
        written = written;
        field = field;
        new = new;
        number = (M s).used + 1;
        asks = B.asks;
        accepted = B.accepted;
        takes = (begun m calls R s t _ B _ (obeyed (M s) (calls s) _ P).0 (R.goes_to s (AskScx n r written field new) P)).1;
      }) k g
