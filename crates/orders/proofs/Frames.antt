-- What a call leaves of the tasks and links: those of other tasks stay as they were, and a link of its own task is as it was, dropped,
-- or the one that a linked read just stored.
use Prim.Native.Nat.{ℕ, ◌<◌}
use native.Mathlib.Omega.{arith}
use native.Mathlib.Decide.{ℕ_discrete}
use mathlib.Core.Path.{◌≡◌, refl, ap, ◌∙◌}
use mathlib.Core.Logic.{inl, inr, ◌≢◌}
use mathlib.Core.Bool.{Bool, true, false, false≢true}
use mathlib.Core.List.{List, [], ◌∷◌}
use lib.ListN.{get_or, set}
use lib.Seq.{get_or-set_other, set-get_or}
use lib.Dec.{ltb}
use borrow.Author.Tests.{ltb-true}
use Rattle.rules.specs.Words.{Task, Link, Machine, Ask, AskLlx, AskScx, AskVlx, AskRead, AskStep, Call, Check, Ok, Err}
use Rattle.table.specs.Table.{pick, no_task, no_link, task_at, link_at, slot}
use Rattle.rules.specs.Perform.{record_of, seen, perform}
use Rattle.rules.specs.Step.{stores_link, drop_of, link_by, drop_first, settle, access_at, move_at, step}
use Rattle.rules.specs.Start.{start}
use Rattle.rules.specs.Refuse.{check, rules_of}
use Rattle.rules.specs.Next.{refused, started, accepted, answered, next}
use Rattle.keeps.proofs.Fine.{Fine, in_shape_lem}
use Rattle.keeps.proofs.Links.{drop_each, slots_apart, drop_apart}
use Rattle.keeps.proofs.Bounds.{record<32, list<32}
use Rattle.keeps.proofs.Obeyed.{Obeys, passed}
use Rattle.clauses.proofs.History.{Reading}
use Rattle.clauses.proofs.Turn.{Relinked}
use Rattle.orders.proofs.Stored.{entry_in}
use Rattle.orders.proofs.View.{task_in, link_in, no_reading, ending, read_by, reading}

-- OTHER TASKS
another : (p : ℕ) (ts : List Task) (t : ℕ) (x : Task) (s : ℕ) → s ≢ t → entry_in p (set ts t x) no_task s ≡ entry_in p ts no_task s
another p ts t x s d = ap (λ (y : Task). pick (ltb s p) y no_task) (get_or-set_other ts t s x no_task d)

accepted_tasks : (m : Machine) (t : ℕ) (ask : Ask) (l : List ℕ) (s : ℕ) → s ≢ t → task_in (accepted m t ask l).m s ≡ task_in m s
unfolding started start step settle perform
accepted_tasks m t (AskLlx r) l s d = another m.p m.tasks t _ s d
accepted_tasks m t (AskScx n r written field new) l s d = another m.p m.tasks t _ s d
accepted_tasks m t (AskVlx n) l s d = another m.p m.tasks t _ s d
accepted_tasks m t (AskRead r f) l s d = another m.p m.tasks t _ s d
accepted_tasks m t AskStep l s d = another m.p m.tasks t _ s d

-- the link of task t to record r, by the counts of tasks and records
abbrev link_within : ℕ → ℕ → List Link → ℕ → ℕ → Link
link_within p n ls t r = pick (ltb t p) (pick (ltb r n) (get_or ls (slot t r) no_link) no_link) no_link

same_link_lem : (p n : ℕ) (ls later : List Link) (t r : ℕ) → (r < n → get_or later (slot t r) no_link ≡ get_or ls (slot t r) no_link)
    → link_within p n later t r ≡ link_within p n ls t r
same_link_lem p n ls later t r h = go (ltb r n) refl
  where
    go : (b : Bool) → ltb r n ≡ b
        → pick (ltb t p) (pick b (get_or later (slot t r) no_link) no_link) no_link
        ≡ pick (ltb t p) (pick b (get_or ls (slot t r) no_link) no_link) no_link
    go true e = ap (λ (k : Link). pick (ltb t p) k no_link) (h (ltb-true r n e))
    go false e = refl

module _ (m : Machine) (F : Fine m) where
  -- links dropped by a start, to records that exist
  not_dropped : (t : ℕ) (l : List ℕ) (n : ℕ) → ((k : ℕ) → k < n → get_or l k 0 < m.n) → (s : ℕ) → s ≢ t → (r : ℕ)
      → link_within m.p m.n (drop_first m.links t l n) s r ≡ link_in m s r
  not_dropped t l n h s d r =
      same_link_lem m.p m.n m.links (drop_first m.links t l n) s r
      (λ q. drop_apart m.links t l n s r d (omega (arith, F.n<33)) (λ k z. omega (arith, h k z, F.n<33)))

  accepted_links : (t : ℕ) (ask : Ask) (l : List ℕ) → Obeys m t ask l
      → (s : ℕ) → s ≢ t → (r : ℕ) → link_in (accepted m t ask l).m s r ≡ link_in m s r
  unfolding started start step settle perform
  accepted_links t (AskLlx x) l h s d r = not_dropped t (x ∷ []) 1 one s d r
    where
      one : (k : ℕ) → k < 1 → get_or (x ∷ []) k 0 < m.n
      one k q = let e : k ≡ 0 = omega arith in rw e h.1.1.0
  accepted_links t (AskScx n x written field new) l h s d r = not_dropped t l n h.1.1.1.0 s d r
  accepted_links t (AskVlx n) l h s d r = refl
  accepted_links t (AskRead x f) l h s d r = refl
  accepted_links t AskStep l h s d r =
      let S = in_shape_lem m F in
      let a = record_of (access_at m t) in
      let x = task_at m t in
      let v = move_at m t in
      let link = link_by (link_at m t a) x (seen (access_at m t) m) v in
      let stored = set m.links (slot t a) link in
      same_link_lem m.p m.n m.links (drop_first stored t x.list (drop_of v)) s r
      (λ q. let r32 : r < 32 = omega (arith, F.n<33) in
      drop_apart stored t x.list (drop_of v) s r d r32 (list<32 m S t h.0)
      ∙ get_or-set_other m.links (slot t a) (slot s r) link no_link (slots_apart t s a r d (record<32 m S t h.0) r32))

-- THE TASK'S OWN LINKS
module _ (ls : List Link) (t r : ℕ) where
  -- a link as it was, or dropped
  dropped_or_same : (l : List ℕ) (n : ℕ) → Relinked no_reading (get_or ls (slot t r) no_link) r (get_or (drop_first ls t l n) (slot t r) no_link)
  dropped_or_same l n =
      drop_each (λ (k : Link). Relinked no_reading (get_or ls (slot t r) no_link) r k) (λ k h. inl refl) ls t l n (slot t r)
      (inr (inl (refl, λ e. absurd (false≢true e))))

  -- or the new one, where the call stores it
  module _ (new : Link) (a : ℕ) where
    abbrev stored : Bool → List Link
    stored b = set ls (slot t a) (pick b new (get_or ls (slot t a) no_link))

    stored_or_same : (b : Bool) → Relinked (record { ends = b; at = a }) (get_or ls (slot t r) no_link) r (get_or (stored b) (slot t r) no_link)
    stored_or_same false =
        inr (inl (ap (λ (k : List Link). get_or k (slot t r) no_link) (set-get_or ls (slot t a) no_link), λ e. absurd (false≢true e)))
    stored_or_same true = go (ℕ_discrete r a)
      where
        go : Dec (r ≡ a) → Relinked (record { ends = true; at = a }) (get_or ls (slot t r) no_link) r (get_or (stored true) (slot t r) no_link)
        go (yes e) = inr (inr (refl, e))
        go (no d) = inr (inl (get_or-set_other ls (slot t a) (slot t r) new no_link (λ e. d (omega arith)), λ e. d))

    relinked : (b : Bool) (l : List ℕ) (n : ℕ)
        → Relinked (record { ends = b; at = a }) (get_or ls (slot t r) no_link) r (get_or (drop_first (stored b) t l n) (slot t r) no_link)
    relinked b l n =
        drop_each (λ (k : Link). Relinked (record { ends = b; at = a }) (get_or ls (slot t r) no_link) r k) (λ k h. inl refl) (stored b) t l n
        (slot t r) (stored_or_same b)

-- what the table shows of it: past its counts there is no link
shown : (a b : Bool) (k : Reading) (r : ℕ) (old new : Link) → Relinked k old r new
    → Relinked k (pick a (pick b old no_link) no_link) r (pick a (pick b new no_link) no_link)
shown false b k r old new h = inl refl
shown true false k r old new h = inl refl
shown true true k r old new h = h

accepted_own : (m : Machine) (t : ℕ) (ask : Ask) (l : List ℕ) (r : ℕ)
    → Relinked (ending m t ask) (link_in m t r) r (link_in (accepted m t ask l).m t r)
unfolding started start step settle perform
accepted_own m t (AskLlx x) l r = shown (ltb t m.p) (ltb r m.n) no_reading r _ _ (dropped_or_same m.links t r (x ∷ []) 1)
accepted_own m t (AskScx n x written field new) l r = shown (ltb t m.p) (ltb r m.n) no_reading r _ _ (dropped_or_same m.links t r l n)
accepted_own m t (AskVlx n) l r = inr (inl (refl, λ e. absurd (false≢true e)))
accepted_own m t (AskRead x f) l r = inr (inl (refl, λ e. absurd (false≢true e)))
accepted_own m t AskStep l r =
    let a = record_of (access_at m t) in
    let x = task_at m t in
    let v = move_at m t in
    let new : Link = record { there = true; info = (seen (access_at m t) m).number; cells = x.cells } in
    shown (ltb t m.p) (ltb r m.n) (ending m t AskStep) r _ _ (relinked m.links t r new a (stores_link v) x.list (drop_of v))

-- A CALL
pub tasks_stay : (m : Machine) (e : Call) (s : ℕ) → s ≢ e.task → task_in (next m e).m s ≡ task_in m s
unfolding next refused
tasks_stay m e s d = go (check (rules_of m e))
  where
    go : (c : Check) → task_in (answered c m e).m s ≡ task_in m s
    go (Ok _) = accepted_tasks m e.task e.ask e.list s d
    go (Err why) = refl

pub links_stay : (m : Machine) → Fine m → (e : Call) (s : ℕ) → s ≢ e.task → (r : ℕ) → link_in (next m e).m s r ≡ link_in m s r
unfolding next rules_of refused
links_stay m F e s d r = go (check (rules_of m e)) refl
  where
    go : (c : Check) → check (rules_of m e) ≡ c → link_in (answered c m e).m s r ≡ link_in m s r
    go (Ok _) h = accepted_links m F e.task e.ask e.list (passed (rules_of m e) h).1 s d r
    go (Err why) h = refl

pub relinks : (m : Machine) (e : Call) (r : ℕ) → Relinked (reading m e) (link_in m e.task r) r (link_in (next m e).m e.task r)
unfolding next refused
relinks m e r = go (check (rules_of m e))
  where
    go : (c : Check) → Relinked (read_by c m e) (link_in m e.task r) r (link_in (answered c m e).m e.task r)
    go (Ok _) = accepted_own m e.task e.ask e.list r
    go (Err why) = inr (inl (refl, λ e. absurd (false≢true e)))
