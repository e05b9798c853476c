-- Where a call leaves its own task: a STEP where its move leads, a start at the first place of its operation.
use Prim.Native.Nat.{ℕ, ◌+◌, ◌<◌}
use native.Mathlib.Omega.{arith}
use mathlib.Core.Path.{◌≡◌, ◌∙◌}
use mathlib.Core.List.{List}
use lib.ListN.{set, length}
use lib.Seq.{get_or-set_same}
use Rattle.rules.specs.Words.{Own, L1, H1, Vlx, Read, Task, Machine, AskLlx, AskScx, AskVlx, AskRead}
use Rattle.table.specs.Table.{no_task, task_at}
use Rattle.rules.specs.Perform.{seen, perform}
use Rattle.rules.specs.Step.{task_by, settle, access_at, move_at, step}
use Rattle.rules.specs.Start.{start}
use Rattle.keeps.proofs.Fine.{Fine}
use Rattle.keeps.proofs.Lengths.{Sized}
use Rattle.orders.proofs.Stored.{entry_in, entry_is}
use Rattle.orders.proofs.View.{task_in}

-- a task put among those of the table
placed : (p : ℕ) (ts : List Task) (t : ℕ) (x : Task) → t < p → t < length ts → entry_in p (set ts t x) no_task t ≡ x
placed p ts t x q h = entry_is p (set ts t x) no_task t q ∙ get_or-set_same ts t x no_task h

module _ (m : Machine) (F : Fine m) (Z : Sized m) (t : ℕ) (tl : t < m.p) where
  put : (x : Task) → entry_in m.p (set m.tasks t x) no_task t ≡ x
  put x = placed m.p m.tasks t x tl (omega (arith, F.p<9, Z.tasks))

  pub steps_to : task_in (step m t).m t ≡ task_by (task_at m t) (seen (access_at m t) m) (move_at m t)
  unfolding step settle perform
  steps_to = put (task_by (task_at m t) (seen (access_at m t) m) (move_at m t))

  pub llx_starts : (r : ℕ) (l : List ℕ) → task_in (start m t (AskLlx r) l) t
      ≡ record { place = L1 r; cells = (task_at m t).cells; list = (task_at m t).list }
  unfolding start
  llx_starts r l = put _

  pub scx_starts : (n r written field new : ℕ) (l : List ℕ) → task_in (start m t (AskScx n r written field new) l) t
      ≡ record { place = H1 (m.used + 1) 0 Own; cells = (task_at m t).cells; list = (task_at m t).list }
  unfolding start
  scx_starts n r written field new l = put _

  pub vlx_starts : (n : ℕ) (l : List ℕ) → task_in (start m t (AskVlx n) l) t ≡ record { place = Vlx n 0; cells = (task_at m t).cells; list = l }
  unfolding start
  vlx_starts n l = put _

  pub read_starts : (r f : ℕ) (l : List ℕ) → task_in (start m t (AskRead r f) l) t
      ≡ record { place = Read r f; cells = (task_at m t).cells; list = (task_at m t).list }
  unfolding start
  read_starts r f l = put _
