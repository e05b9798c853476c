-- The sentences on verdicts: all agree, yes only after the effect, no only if there never is one and another change took hold. A change with
-- a verdict has ended, and an H1 that sets an info is a change that takes hold.
use Prim.Native.Nat.{ℕ, suc, ◌≤◌, ◌<◌}
use mathlib.Core.Path.{◌≡◌, refl, sym, ap, ◌∙◌, subst}
use mathlib.Core.Bool.{Bool, true, false}
use mathlib.Core.Logic.{◌≢◌, ⊎_elim}
use mathlib.Core.List.{List}
use native.Mathlib.Omega.{arith}
use native.Mathlib.Nat.{le_refl}
use Rattle.rules.specs.Words.{Cell, Record, InProgress, Committed, After, Machine, Place, H1, Call}
use Rattle.table.specs.Table.{task_at}
use Rattle.rules.specs.Next.{next}
use Rattle.clauses.proofs.Updates.{upd_hit}
use Rattle.clauses.proofs.Memory.{Terms, Shared, hold, apply}
use Rattle.clauses.proofs.Steps.{act_at}
use Rattle.clauses.proofs.Frame.{stay_ended}
use Rattle.clauses.proofs.History.{Ghost}
use Rattle.clauses.proofs.Clauses.{OkOf, LostOf, At, Live}
use Rattle.clauses.proofs.Rights.{ci, ai, lost_frozen, hold_going}
use Rattle.clauses.proofs.Course.{Course, X, S, history, fine, turn, guard, ever, since_start}
use Rattle.clauses.proofs.Came.{Sets}
use Rattle.clauses.proofs.Sentences.{happened, because, never}
use Rattle.orders.specs.Demand.{Brings, at_h3, at_h4, at_h8, Works, h3, h4, h8}
use Rattle.orders.specs.Demand.{before, place, Change, named, During, Effect, Holds, LinkedRead, Verdict}
use Rattle.orders.proofs.Calls.{held}
use Rattle.orders.proofs.Run.{Run, course, place_known}
use Rattle.orders.proofs.Changes.{another, terms, makes, alone, during, change_at_lem}
use Rattle.orders.proofs.Effects.{is_in, inside, passed_steps, act_is, writes, effect}
use Rattle.orders.proofs.Untouched.{read_of}
use Rattle.orders.proofs.Working.{worker, worked_on}

-- what a place tells of the verdict that it brings: the change has happened, or is lost
abbrev Tells : Shared → Ghost → ℕ → Bool → Type 0
Tells S G u true = G.hap u ≡ true
Tells S G u false = LostOf S G u

tells : (S : Shared) (G : Ghost) (u : ℕ) → OkOf S G u → (cs : List Cell) (after : After) (q : Place) (v : Bool)
    → Brings u after (S.frozen u) q v → At S G cs q → Tells S G u v
tells S G u O cs after q v (at_h3 frozen) h = ⊎_elim (λ c. O.committed_law c) (λ l. lost_frozen S G u O l frozen) h.1
tells S G u O cs after q v at_h4 h = h.1
tells S G u O cs after q v at_h8 h = h.1

-- who brings a verdict worked on the change
works : (u : ℕ) (after : After) (frozen : Bool) (q : Place) (v : Bool) → Brings u after frozen q v → Works u after q
works u after frozen q v (at_h3 e) = h3
works u after frozen q v at_h4 = h4
works u after frozen q v at_h8 = h8

module _ (m : Machine) (calls : ℕ → Call) (R : Run m calls) where
  abbrev M : ℕ → Machine
  M k = before next m calls k

  abbrev C : Course
  C = course m calls R

  abbrev H : ℕ → Ghost
  H k = history C k

  abbrev Ch : Type 0
  Ch = Change next m calls

  its_work : (c : Ch) (k : ℕ) (v : Bool) (B : Verdict next m calls c k v) → Works c.number B.after (place next m calls k B.by)
  its_work c k v B = works _ _ _ _ v B.brings

  -- so the clauses know its place, and the change is live
  known_at : (c : Ch) (k : ℕ) (v : Bool) (B : Verdict next m calls c k v)
      → At (S C k) (H k) (task_at (M k) B.by).cells (place next m calls k B.by)
  known_at c k v B = place_known m calls R k B.by (worker m calls R k B.by c.number B.after (its_work c k v B))

  verdict_live : (c : Ch) (k : ℕ) (v : Bool) → Verdict next m calls c k v → Live (X C k) c.number
  verdict_live c k v B = worked_on m calls R k B.by c.number B.after (its_work c k v B)

  said_of : (c : Ch) (k : ℕ) (v : Bool) → Verdict next m calls c k v → Tells (S C k) (H k) c.number v
  said_of c k v B = tells (S C k) (H k) c.number ((fine C k).changes_law c.number (verdict_live c k v B)) _ _ _ v B.brings
      (known_at c k v B)

  -- who brings a verdict finds the change ended, or ends it
  pub ended : (c : Ch) (j : ℕ) (v : Bool) → Verdict next m calls c j v → (k : ℕ) → j < k → During next m calls c k → Live (X C k) c.number
      → (S C k).state c.number ≢ InProgress
  unfolding act_at apply
  ended c j v B k l D live = go (place next m calls j B.by) v refl B.brings (known_at c j v B)
    where
      u : ℕ
      u = c.number

      on : (i : ℕ) → j ≤ i → i ≤ k → (S C i).state u ≢ InProgress → (S C k).state u ≢ InProgress
      on i a b h = ever C u (λ S G. S.state u ≢ InProgress) (λ S G t l b g o O p. stay_ended S G t l b g u o p) i k b
          (λ x p q. alone m calls R c k D x (omega (arith, B.during.later)) q) live h

      after : (q : Place) → place next m calls j B.by ≡ q → S C (suc j) ≡ apply (act_at (S C j) q) (S C j)
      after q e = (turn C j).shared ∙ ap (λ b. apply b (S C j)) (act_is m calls R j B.by B.steps ∙ ap (λ q. act_at (S C j) q) e)

      go : (q : Place) (y : Bool) → place next m calls j B.by ≡ q → Brings u B.after ((S C j).frozen u) q y
          → At (S C j) (H j) (task_at (M j) B.by).cells q
          → (S C k).state u ≢ InProgress
      go q y e (at_h3 f) h = on j (le_refl _) (omega arith) (λ z. ⊎_elim (λ (y : (S C j).state u ≡ Committed). ci y z)
          (λ y. lost_frozen (S C j) (H j) u ((fine C j).changes_law u (verdict_live c j v B)) y f) h.1)
      go q y e at_h4 h = on (suc j) (omega arith) l (λ z. ai (ap (λ (s : Shared). s.state u) (after _ e) ∙ upd_hit (S C j).state u _ refl) z)
      go q y e at_h8 h = on (suc j) (omega arith) l (λ z. ci (ap (λ (s : Shared). s.state u) (after _ e) ∙ upd_hit (S C j).state u _ refl) z)

  -- "yes only after the effect"
  pub yes_after : (c : Ch) (k : ℕ) → Verdict next m calls c k true → (j : ℕ) × (j < k) × Effect next m calls c j
  yes_after c k B =
      let D = B.during in
      let (j, a, b, E) = happened C c.start c.number (terms m calls R c) (makes m calls R c) k D.later
      (alone m calls R c k D) (said_of c k true B) in
      (j, b, effect m calls R c j (during m calls R c j a (λ i p q. alone m calls R c k D i p (omega arith))) E)

  -- "no only if there never is one"
  pub no_never : (c : Ch) (k : ℕ) → Verdict next m calls c k false → (j : ℕ) → Effect next m calls c j → ⊥
  no_never c k B j E = never C c.start c.number k j B.during.later E.during.later (alone m calls R c k B.during)
      (alone m calls R c j E.during) (verdict_live c k false B) (said_of c k false B) (writes m calls R c j E)

  -- "All tasks that finish work on one change bring the same verdict"
  pub agree : (c : Ch) (j k : ℕ) (a b : Bool) → Verdict next m calls c j a → Verdict next m calls c k b → a ≡ b
  agree c j k true true B W = refl
  agree c j k false false B W = refl
  agree c j k true false B W = let (i, l, E) = yes_after c j B in absurd (no_never c k W i E)
  agree c j k false true B W = let (i, l, E) = yes_after c k W in absurd (no_never c j B i E)

  -- an H1 that sets an info is a change taking hold
  pub holds : (k x r : ℕ) → r < m.n → Sets C k x r → (d : Ch) × (d.number ≡ x) × Holds next m calls d k r
  holds k x r rl B =
      let (d, q, D) = change_at_lem m calls R k x B.live in
      let (P, at) = held (M k) (calls k) x B.i B.act in
      let T : (S C k).terms x ≡ terms m calls R d =
      subst (λ x. (S C k).terms x ≡ terms m calls R d) q (since_start C d.start d.number (terms m calls R d) k (makes m calls R d) D.later
      (alone m calls R d k D) (subst (λ x. Live (X C k) x) (sym q) B.live)).0 in (
        d,
        q,
        record {
          during = D;
          by = (calls k).task;
          after = at.0;
          i = B.i;
          steps = passed_steps m calls R k P;
          at_h1 = at.1 ∙ ap (λ x. H1 x B.i at.0) (sym q);
          names = (subst (λ (t : Terms). B.i < t.n) T B.inside, ap (λ (t : Terms). t.rec B.i) (sym T) ∙ B.rec);
          takes = ap (λ (x : Record). x.info) (sym (is_in m calls R (suc k) r rl)) ∙ B.to ∙ sym q;
          alters = λ e. B.from (ap (λ (x : Record). x.info) (is_in m calls R k r rl) ∙ e ∙ q);
          unfinished = λ j v l W. ended d j v W k l D (subst (λ x. Live (X C k) x) (sym q) B.live)
              (ap (S C k).state q ∙ hold_going (S C k) (H k) (C.who k) x B.i (guard C k (hold x B.i) B.act));
        },
      )

  -- "and another change took hold of a record it named after the linked read"
  pub no_because : (c : Ch) (k : ℕ) → Verdict next m calls c k false
      → (d : Ch) × (i e h : ℕ) × (i < c.n) × LinkedRead next m calls c (named next m calls c i) e × (e < h) × (h < k) × (d.start ≢ c.start)
      × Holds next m calls d h (named next m calls c i)
  no_because c k B =
      let (i, l, f) = because C c.start c.number (terms m calls R c) (makes m calls R c) k B.during.later (alone m calls R c k B.during)
      (verdict_live c k false B) (said_of c k false B) in
      let (e, A, time) = read_of m calls R c i l in
      let (h, x, a, b, other, sets) = f e time in
      let (d, q, D) = holds h x (named next m calls c i) (inside m calls R c i l) sets in
      (d, i, e, h, l, A, a, b, another m calls R c d x q other, D)
