-- A run whose tables are in shape and whose calls are turns is a course of the clauses.
use Prim.Native.Nat.{ℕ, suc, ◌≤◌, ◌<◌}
use mathlib.Core.Path.{◌≡◌, refl, sym, ap, ◌∙◌, subst}
use mathlib.Core.Logic.{inr, ◌≢◌, ⊎_elim}
use mathlib.Core.Bool.{true, false}
use borrow.Author.Tests.{lt-ltb}
use Rattle.rules.specs.Words.{Machine, Task, Idle, Ask, AskStep, Call}
use Rattle.table.specs.Table.{no_record, no_task, record_at, task_at, link_at}
use Rattle.rules.specs.Places.{change_of}
use Rattle.rules.specs.Perform.{record_of}
use Rattle.rules.specs.Step.{stores_link, access_at, move_at}
use Rattle.rules.specs.Next.{next}
use Rattle.keeps.proofs.Fine.{Fine}
use Rattle.clauses.proofs.Updates.{leb_case}
use Rattle.clauses.proofs.History.{Ghost, none_yet}
use Rattle.clauses.proofs.Clauses.{Live, At}
use Rattle.clauses.proofs.Clauses.{Fine as Clauses}
use Rattle.clauses.proofs.Turn.{Turn}
use Rattle.clauses.proofs.Course.{Course, X, S, history, fine}
use Rattle.orders.specs.Demand.{before, place}
use Rattle.orders.proofs.Stored.{entry_is}
use Rattle.orders.proofs.View.{record_in, task_in, link_in, view, did, reading, leads_to}
use Rattle.orders.proofs.Calls.{Passes}

pub record Run (m : Machine) (calls : ℕ → Call) : Type 0 where
  pub shaped : (k : ℕ) → Fine (before next m calls k)
  pub same_p : (k : ℕ) → (before next m calls k).p ≡ m.p
  pub same_n : (k : ℕ) → (before next m calls k).n ≡ m.n
  pub begins : Clauses (view (before next m calls 0)) none_yet
  pub no_changes : (u : ℕ) → Live (view (before next m calls 0)) u → ⊥
  pub no_links : (t r : ℕ) → (link_in (before next m calls 0) t r).there ≡ false
  pub turns : (k : ℕ) (G : Ghost) → Clauses (view (before next m calls k)) G
      → Turn (view (before next m calls k)) (view (before next m calls (suc k))) G (calls k).task (did (before next m calls k) (calls k))
      (reading (before next m calls k) (calls k))
  -- at first no record is marked
  pub unmarked : (r : ℕ) → (record_in (before next m calls 0) r).mark ≡ false
  -- at first all tasks are idle, and those past P for good
  pub idle : (t : ℕ) → (task_at (before next m calls 0) t).place ≡ Idle
  pub past : (k t : ℕ) → m.p ≤ t → (task_at (before next m calls k) t).place ≡ Idle
  -- a snapshot stores a link, and its cells are the snapshot's
  pub snapshots : (k : ℕ) → Passes (before next m calls k) (calls k) AskStep → stores_link (move_at (before next m calls k) (calls k).task) ≡ true
      → ((link_in (before next m calls (suc k)) (calls k).task (record_of (access_at (before next m calls k) (calls k).task))).there ≡ true)
      × ((link_in (before next m calls (suc k)) (calls k).task (record_of (access_at (before next m calls k) (calls k).task))).cells
      ≡ (task_at (before next m calls k) (calls k).task).cells)
  pub goes_to : (k : ℕ) (ask : Ask) → Passes (before next m calls k) (calls k) ask
      → (task_at (before next m calls (suc k)) (calls k).task).place ≡ leads_to (before next m calls k) (calls k).task ask

abbrev pub course : (m : Machine) (calls : ℕ → Call) → Run m calls → Course
course m calls R =
    record {
      table = λ k. view (before next m calls k);
      who = λ k. (calls k).task;
      act = λ k. did (before next m calls k) (calls k);
      reads = λ k. reading (before next m calls k) (calls k);
      begins = R.begins;
      no_changes = R.no_changes;
      no_links = R.no_links;
      turns = R.turns;
    }

-- inside the table the view is the table
pub record_in_lem : (m : Machine) (r : ℕ) → r < m.n → record_in m r ≡ record_at m r
record_in_lem m r h = entry_is m.n m.records no_record r h

pub task_in_lem : (m : Machine) (t : ℕ) → t < m.p → task_in m t ≡ task_at m t
task_in_lem m t h = entry_is m.p m.tasks no_task t h

pub link_in_lem : (m : Machine) (t r : ℕ) → t < m.p → r < m.n → link_in m t r ≡ link_at m t r
link_in_lem m t r h l = rw (lt-ltb t m.p h, lt-ltb r m.n l) refl

-- a busy task is one of the table's
pub busy_inside : (m : Machine) (calls : ℕ → Call) → Run m calls → (k t : ℕ) → place next m calls k t ≢ Idle → t < m.p
busy_inside m calls R k t b = ⊎_elim (λ h. absurd (b (R.past k t h))) (λ l. l) (leb_case m.p t)

-- what the clauses know of a task of the table before call k
module _ (m : Machine) (calls : ℕ → Call) (R : Run m calls) (k t : ℕ) (tl : t < m.p) where
  pub inside : t < (before next m calls k).p
  inside = subst (λ p. t < p) (sym (R.same_p k)) tl

  pub task_is : task_in (before next m calls k) t ≡ task_at (before next m calls k) t
  task_is = task_in_lem (before next m calls k) t inside

  pub place_known : At (S (course m calls R) k) (history (course m calls R) k) (task_at (before next m calls k) t).cells (place next m calls k t)
  place_known = subst (λ (x : Task). At (S (course m calls R) k) (history (course m calls R) k) x.cells x.place) task_is
      ((fine (course m calls R) k).places_law t)

  pub works_live : (u : ℕ) → change_of (place next m calls k t) ≡ u → u ≢ 0 → Live (X (course m calls R) k) u
  works_live u e z = (z, inr (t, ap (λ (x : Task). change_of x.place) task_is ∙ e))
