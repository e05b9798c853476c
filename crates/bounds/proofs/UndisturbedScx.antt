-- "An undisturbed SCX takes n + f + 3", and answers yes: it finds every info as its linked reads left it, so each H1 takes hold, and each
-- place of R is marked once.
use Prim.Native.Nat.{ℕ, suc, ◌+◌, ◌-◌, ◌≤◌, ◌<◌}
use mathlib.Core.Path.{◌≡◌, refl, sym, ap, ◌∙◌, subst}
use mathlib.Core.Bool.{Bool, true, false}
use mathlib.Core.Logic.{◌⊎◌, inl, inr, ◌↔◌, ◌≢◌, ⊎_elim}
use lib.Dec.{ltb}
use borrow.Author.Tests.{ltb-true, ltb-false, eq-eqb}
use native.Mathlib.Omega.{arith}
use native.Mathlib.Nat.{le_refl}
use Rattle.rules.specs.Words.{Change, Own, Seen, Machine, Call, Task, Yes, Place, Idle, H1, H5, H6, H7, H8}
use Rattle.table.specs.Table.{pick}
use Rattle.rules.specs.Places.{change_of, resume, is_idle}
use Rattle.rules.specs.Resume.{first_from, at_mark}
use Rattle.rules.specs.Next.{next}
use Rattle.clauses.proofs.Updates.{upd_miss, same?}
use Rattle.clauses.proofs.Memory.{Terms, Shared, hold, make, apply}
use Rattle.clauses.proofs.Clauses.{Made}
use Rattle.clauses.proofs.Steps.{terms_of, is_stored, act_at, Saw}
use Rattle.clauses.proofs.Course.{Course, S, history, turn, guard, since_start}
use Rattle.clauses.proofs.Came.{Sets, took_came}
use Rattle.orders.specs.Demand.{said, place, named, Going, Holds}
use Rattle.orders.specs.Demand.{Change as Asked}
use Rattle.orders.proofs.Run.{Run, course, task_is}
use Rattle.orders.proofs.Changes.{terms, makes, alone}
use Rattle.orders.proofs.Effects.{inside}
use Rattle.orders.proofs.Verdicts.{holds}
use Rattle.orders.proofs.Holders.{by_a_hold}
use Rattle.orders.proofs.Untouched.{task_inside, read_of}
use Rattle.orders.proofs.Working.{works_on}
use Rattle.orders.proofs.Follows.{works}
use Rattle.orders.proofs.Every.{demand3}
use Rattle.bounds.specs.Bounds.{size, own, UndisturbedScx}
use Rattle.bounds.proofs.Marks.{all_bits, count, all, one_less, marks}
use Rattle.bounds.proofs.Along.{left_in}
use Rattle.bounds.proofs.Count.{Down, exactly}

-- every record of the terms c from place i on still has the info that was stored
abbrev Unheld : Shared → Terms → ℕ → Type 0
Unheld S c i = (j : ℕ) → i ≤ j → j < c.n → S.info (c.rec j) ≡ c.infos j

-- the places it passes, with the own steps to come
data Scx (c : Terms) (u : ℕ) (S : Shared) : Place → ℕ → Type 0 where
  at_h1 : (i k : ℕ) → i < c.n → Unheld S c i → k ≡ c.n - i + all c + 3 → Scx c u S (H1 u i Own) k
  at_h5 : (k : ℕ) → k ≡ all c + 3 → Scx c u S (H5 u Own) k
  at_h6 : (i k : ℕ) → i < 4 → c.closes i ≡ true → k ≡ count c.closes i (4 - i) + 2 → Scx c u S (H6 u i Own) k
  at_h7 : Scx c u S (H7 u Own) 2
  at_h8 : Scx c u S (H8 u Own) 1

busy : (c : Terms) (u : ℕ) (S : Shared) (q : Place) (n : ℕ) → Scx c u S q n → (0 < n) × (is_idle q ≡ false)
busy c u S q n (at_h1 i k h w z) = (omega arith, refl)
busy c u S q n (at_h5 k z) = (omega arith, refl)
busy c u S q n (at_h6 i k h f z) = (omega arith, refl)
busy c u S q n at_h7 = (omega arith, refl)
busy c u S q n at_h8 = (omega arith, refl)

-- only the infos matter
same_infos : (c : Terms) (u : ℕ) (S Z : Shared) → ((i : ℕ) → i < c.n → Z.info (c.rec i) ≡ S.info (c.rec i))
    → (q : Place) (n : ℕ) → Scx c u S q n → Scx c u Z q n
same_infos c u S Z e q n (at_h1 i k h w z) = at_h1 i k h (λ j l b. e j b ∙ w j l b) z
same_infos c u S Z e q n (at_h5 k z) = at_h5 k z
same_infos c u S Z e q n (at_h6 i k h f z) = at_h6 i k h f z
same_infos c u S Z e q n at_h7 = at_h7
same_infos c u S Z e q n at_h8 = at_h8

module _ (S : Shared) (c : Terms) (u : ℕ) (s : Seen) (ch : Change) (linked : ℕ) (of-u : S.terms u ≡ c) (of-ch : terms_of ch ≡ c)
    (apart : (i j : ℕ) → i < c.n → j < c.n → c.rec i ≡ c.rec j → i ≡ j) where
  -- after the hold of place i: the others are as they were
  held : (i : ℕ) → i < c.n → Unheld S c i → Unheld (apply (hold u i) S) c (i + 1)
  unfolding apply
  held i h w j l n = rw of-u (upd_miss S.info (c.rec i) u (λ q. let z = apart j i n h q in omega arith) ∙ w j (omega arith) n)

  next_place : (i : ℕ) → i < c.n → Unheld S c i → (b : Bool) → ltb (i + 1) ch.n ≡ b
      → Scx c u (apply (hold u i) S) (pick b (H1 u (i + 1) Own) (H5 u Own)) (c.n - i + all c + 2)
  next_place i h w true q =
      let n = ap (λ (c : Terms). c.n) of-ch in
      let l = ltb-true (i + 1) ch.n q in
      at_h1 (i + 1) (c.n - i + all c + 2) (omega arith) (held i h w) (omega arith)
  next_place i h w false q =
      let n = ap (λ (c : Terms). c.n) of-ch in
      let l = ltb-false (i + 1) ch.n q in
      at_h5 (c.n - i + all c + 2) (omega arith)

  to_mark : (Z : Shared) (i d : ℕ) → i + d ≡ 4 → Scx c u Z (at_mark u (first_from ch.r i) Own) (count c.closes i d + 2)
  to_mark Z = rw (← of-ch) (marks ch.r u Own (λ q n. Scx (terms_of ch) u Z q (n + 2))
      (λ i h f. at_h6 i (count (terms_of ch).closes i (4 - i) + 2) h f refl) at_h7)

  one_step : (q : Place) (n : ℕ) → Scx c u S q n → Saw S s q → Down (Scx c u) (λ x. x ≡ Yes) n (apply (act_at S q) S) (resume q s ch linked)
  unfolding act_at
  one_step q n (at_h1 i k h w z) saw =
      let stored : is_stored S u i ≡ true = rw of-u (eq-eqb _ _ (w i (le_refl i) h)) in
      let bit : s.bit ≡ true = saw ∙ stored in
      inr (c.n - i + all c + 2, omega arith, rw (bit, stored) (next_place i h w (ltb (i + 1) ch.n) refl))
  one_step q n (at_h5 k z) saw = inr (all c + 2, omega arith, to_mark _ 0 4 refl)
  one_step q n (at_h6 i k h f z) saw =
      let next : i + 1 ≡ suc i = omega arith in
      let fewer = one_less c.closes i h f in
      inr (count c.closes (suc i) (3 - i) + 2, omega arith, rw next (to_mark _ (suc i) (3 - i) (omega arith)))
  one_step q n at_h7 saw = inr (1, refl, at_h8)
  one_step q n at_h8 saw = inl (refl, refl, λ cs. refl)

module _ (m : Machine) (calls : ℕ → Call) (R : Run m calls) (c : Asked next m calls) (K : ℕ) (U : UndisturbedScx next m calls c K) where
  abbrev C : Course
  C = course m calls R

  abbrev s : ℕ
  s = c.start

  abbrev t : ℕ
  t = c.task

  abbrev u : ℕ
  u = c.number

  abbrev T : Terms
  T = terms m calls R c

  abbrev at : ℕ → Place
  at k = place next m calls k t

  tl : t < m.p
  tl = task_inside m calls R c

  made : Made (S C s) (history C s) (C.who s) u T
  made = guard C s (make u T) (makes m calls R c)

  -- nobody took hold since the linked reads, so at the start every info is the one that is stored
  linked : (i : ℕ) → i < c.n → (S C s).info (named next m calls c i) ≡ T.infos i
  linked i h = ⊎_elim (λ e. e) (λ n. absurd (moved n (took_came C s r))) (same? ((S C s).info r) (T.infos i))
    where
      r : ℕ
      r = named next m calls c i

      moved : (S C s).info r ≢ T.infos i
          → ((history C s).took r ≡ 0) ⊎ ((h : ℕ) × (h < s) × ((history C s).took r ≡ suc h) × Sets C h ((S C s).info r) r) → ⊥
      moved n (inl z) = omega (arith, (made.anchors i h).taken_law n)
      moved n (inr (j, l, z, D)) =
          let (e, A, time) = read_of m calls R c i h in
          let (d, q, B) = holds m calls R j ((S C s).info r) r (inside m calls R c i h) D in
          U.since_read d i e j h A (omega (arith, (made.anchors i h).taken_law n)) l B

  unheld : (i : ℕ) → i < c.n → (S C (suc s)).info (named next m calls c i) ≡ T.infos i
  unfolding apply
  unheld i h =
      ap (λ (Z : Shared). Z.info (named next m calls c i)) ((turn C s).shared ∙ ap (λ b. apply b (S C s)) (makes m calls R c))
      ∙ linked i h

  first : Scx T u (S C (suc s)) (at (suc s)) (c.n + all T + 3)
  first = subst (λ q. Scx T u (S C (suc s)) q (c.n + all T + 3)) (sym c.takes)
      (at_h1 0 (c.n + all T + 3) (omega (arith, made.shape.1)) (λ i l h. unheld i h) (omega arith))

  -- until it ends, what it wrote down stands
  terms_are : (k : ℕ) → Going next m calls s t k → ((S C k).terms u ≡ T) × (change_of (at k) ≡ u)
  terms_are k g =
      let (w, D) = works next m calls (demand3 m calls R) c k g in
      let e = (works_on u Own (at k) w).0 in (
        (since_start C s u T k (makes m calls R c) g.later (alone m calls R c k D)
            (made.nonzero, inr (t, ap (λ (x : Task). change_of x.place) (task_is m calls R k t tl) ∙ e))).0,
        e,
      )

  pub scx_takes : (s < K → Going next m calls s t K ↔ own next m calls s t K < c.n + size c.closing + 3)
      × (Going next m calls s t K → at (suc K) ≡ Idle → said next m calls K ≡ Yes)
  scx_takes = subst (λ f. (s < K → Going next m calls s t K ↔ own next m calls s t K < c.n + f + 3)
      × (Going next m calls s t K → at (suc K) ≡ Idle → said next m calls K ≡ Yes)) (all_bits c.closing)
      (exactly m calls R s t tl (Scx T u) (λ x. x ≡ Yes) K (c.n + all T + 3) first
      (λ k n g p s ch linked e w. let (a, b) = terms_are k g in
      one_step (S C k) T u s ch linked a (e ∙ ap (S C k).terms b ∙ a) made.apart (at k) n p w)
      (λ k n g l p h. same_infos T u (S C k) (S C (suc k)) (λ i b. left_in m calls R t tl k (g.busy k g.later (le_refl k)) (λ x. x.info)
      (named next m calls c i) (inside m calls R c i b) h (λ o. ⊎_elim (λ e. e)
      (λ (d : (d : Asked next m calls) × Holds next m calls d k (named next m calls c i)). absurd (U.since_start d.0 i k b g.later l o d.1))
      (by_a_hold m calls R k (named next m calls c i) (inside m calls R c i b)))) (at k) n p)
      (busy T u))
