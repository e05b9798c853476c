-- Each record that a change names has its linked read, and from its end to the effect nothing happens to the record.
use Prim.Native.Nat.{ℕ, suc, ◌<◌}
use mathlib.Core.Path.{◌≡◌, sym, ap, ◌∙◌, subst}
use mathlib.Core.Bool.{true}
use Rattle.rules.specs.Words.{Machine, Link, Call}
use Rattle.table.specs.Table.{link_at}
use Rattle.rules.specs.Shape.{all_linked}
use Rattle.rules.specs.Refuse.{linked_at}
use Rattle.rules.specs.Next.{next}
use Rattle.rules.proofs.Exact.{told}
use Rattle.clauses.proofs.Memory.{Terms}
use Rattle.clauses.proofs.Course.{Course, history}
use Rattle.clauses.proofs.LinkedReads.{Ends, read_at}
use Rattle.clauses.proofs.Sentences.{untouched as none-touched}
use Rattle.orders.specs.Demand.{before, Change, named, Names, Effect, Snap, LinkedRead, Still}
use Rattle.orders.proofs.View.{link_in}
use Rattle.orders.proofs.Calls.{obeyed}
use Rattle.orders.proofs.Run.{Run, course, link_in_lem}
use Rattle.orders.proofs.Snaps.{snap_of, read_is}
use Rattle.orders.proofs.Changes.{by_task, passes, terms, makes, alone}
use Rattle.orders.proofs.Effects.{cell_is, inside, writes, terms_at}

module _ (m : Machine) (calls : ℕ → Call) (R : Run m calls) where
  abbrev M : ℕ → Machine
  M k = before next m calls k

  abbrev C : Course
  C = course m calls R

  abbrev Ch : Type 0
  Ch = Change next m calls

  -- the end of a linked read, as the statement and as the course have it
  ends_of : (e t r : ℕ) → Snap next m calls e t r → Ends C e t r
  ends_of e t r B = let (w, h, q) = read_is m calls R e t r B in record { by = w; ends = h; of = q }

  -- the links of a change's task to the records that it names stand at its start
  linked : (c : Ch) (i : ℕ) → i < c.n → (link_at (M c.start) c.task (named next m calls c i)).there ≡ true
  unfolding linked_at
  linked c = go (obeyed (M s) (calls s) _ (passes m calls R c)).1.1.1.1.1.1.0
    where
      s : ℕ
      s = c.start

      go : linked_at (M s) (calls s) ≡ true → (i : ℕ) → i < c.n → (link_at (M s) c.task (named next m calls c i)).there ≡ true
      go h = told 0 (all_linked c.n c.list (λ r. (link_at (M s) c.task r).there)) (rw c.asks at h)

  pub task_inside : (c : Ch) → c.task < m.p
  task_inside c = subst (λ q. c.task < q) (R.same_p c.start)
      (subst (λ t. t < (M c.start).p) (by_task m calls R c) (obeyed (M c.start) (calls c.start) _ (passes m calls R c)).0)

  link_is : (c : Ch) (k i : ℕ) → i < c.n → link_in (M k) c.task (named next m calls c i) ≡ link_at (M k) c.task (named next m calls c i)
  link_is c k i h = link_in_lem (M k) c.task (named next m calls c i) (subst (λ p. c.task < p) (sym (R.same_p k)) (task_inside c))
      (subst (λ n. named next m calls c i < n) (sym (R.same_n k)) (inside m calls R c i h))

  -- THE LINKED READ of each record that a change names, with the time that the history has for it
  pub read_of : (c : Ch) (i : ℕ) → i < c.n
      → (e : ℕ) × LinkedRead next m calls c (named next m calls c i) e × ((history C c.start).read (C.who c.start) (named next m calls c i) ≡ suc e)
  read_of c i h =
      let r = named next m calls c i in
      let (e, A) = read_at C c.start c.task r (ap (λ (k : Link). k.there) (link_is c c.start i h) ∙ linked c i h) in (
        e,
        record {
          before_start = A.before;
          ends = snap_of m calls R e c.task r A.ended.by A.ended.ends A.ended.of;
          last = λ j a b B. A.last j a b (ends_of j c.task r B);
          there = ap (λ (k : Link). k.there) (sym (link_is c (suc e) i h)) ∙ A.there;
          stands = λ j a b. sym (link_is c j i h) ∙ A.stands j a b ∙ link_is c (suc e) i h;
        },
        ap (λ t. (history C c.start).read t r) (by_task m calls R c) ∙ A.time,
      )

  -- "From the end of each linked read to that moment .."
  pub untouched : (c : Ch) (k : ℕ) → Effect next m calls c k → (i : ℕ) → i < c.n
      → (e : ℕ) × LinkedRead next m calls c (named next m calls c i) e
      × ((j : ℕ) → e < j → j < k
      → Still next m calls j (named next m calls c i) × ((d : Ch) → Effect next m calls d j → Names next m calls d (named next m calls c i) → ⊥))
  untouched c k E i h =
      let (e, A, time) = read_of c i h in (
        e,
        A,
        λ j a b.
            let (same, others) = none-touched C c.start c.number (terms m calls R c) (makes m calls R c) k E.during.later
            (alone m calls R c k E.during) (writes m calls R c k E) i e h time j a b in (
              λ f. sym (cell_is m calls R (suc j) _ f (inside m calls R c i h)) ∙ same f ∙ cell_is m calls R j _ f (inside m calls R c i h),
              λ d D N. let P = terms_at m calls R d j D.during (writes m calls R d j D) in
                  others d.number (writes m calls R d j D) N.0 (subst (λ (t : Terms). N.0 < t.n) (sym P) N.1)
                  (subst (λ (t : Terms). t.rec N.0 ≡ named next m calls c i) (sym P) N.2),
            ),
      )
