-- The table as the clauses see it, and what a call does there. Only what belongs to the table shows: its N records and P tasks; past
-- them, where no accepted call looks, the defaults stand.
use Prim.Native.Nat.{ℕ, ◌+◌}
use mathlib.Core.Bool.{false}
use mathlib.Core.List.{List}
use lib.Dec.{ltb}
use Rattle.rules.specs.Words.{Place, L1, H1, Own, Vlx, Read}
use Rattle.rules.specs.Words.{Record, Task, Link, Machine, Ask, AskLlx, AskScx, AskVlx, AskRead, AskStep, Call, Check, Ok, Err}
use Rattle.table.specs.Table.{pick, no_record, no_task, no_link, task_at, link_at}
use Rattle.rules.specs.Perform.{record_of}
use Rattle.rules.specs.Step.{place_of, stores_link, access_at, move_at}
use Rattle.rules.specs.Start.{filled}
use Rattle.rules.specs.Refuse.{check, rules_of}
use Rattle.clauses.proofs.Memory.{Shared, Table, Act, nop, make}
use Rattle.clauses.proofs.History.{Reading}
use Rattle.clauses.proofs.Steps.{terms_of, act_at}
use Rattle.orders.proofs.Stored.{entry_in, shared_in}

abbrev pub record_in : Machine → ℕ → Record
record_in m r = entry_in m.n m.records no_record r

abbrev pub task_in : Machine → ℕ → Task
task_in m t = entry_in m.p m.tasks no_task t

abbrev pub link_in : Machine → ℕ → ℕ → Link
link_in m t r = pick (ltb t m.p) (pick (ltb r m.n) (link_at m t r) no_link) no_link

abbrev pub shared : Machine → Shared
shared m = shared_in m.n m.records m.changes

abbrev pub view : Machine → Table
view m = record { sh = shared m; task = λ t. task_in m t; link = λ t r. link_in m t r }

-- what an accepted call does to the shared words, and whether it ends a linked read
abbrev pub doing : Machine → ℕ → Ask → List ℕ → Act
doing m t (AskLlx r) l = nop
doing m t (AskScx n r written field new) l = make (m.used + 1) (terms_of (filled m t n l r written field new))
doing m t (AskVlx n) l = nop
doing m t (AskRead r f) l = nop
doing m t AskStep l = act_at (shared m) (task_at m t).place

abbrev pub no_reading : Reading
no_reading = record { ends = false; at = 0 }

abbrev pub ending : Machine → ℕ → Ask → Reading
ending m t (AskLlx r) = no_reading
ending m t (AskScx n r written field new) = no_reading
ending m t (AskVlx n) = no_reading
ending m t (AskRead r f) = no_reading
ending m t AskStep = record { ends = stores_link (move_at m t); at = record_of (access_at m t) }

abbrev pub done_by : Check → Machine → Call → Act
done_by (Ok _) m e = doing m e.task e.ask e.list
done_by (Err why) m e = nop

abbrev pub read_by : Check → Machine → Call → Reading
read_by (Ok _) m e = ending m e.task e.ask
read_by (Err why) m e = no_reading

-- the same of any call: a refused one does nothing
abbrev pub did : Machine → Call → Act
did m e = done_by (check (rules_of m e)) m e

abbrev pub reading : Machine → Call → Reading
reading m e = read_by (check (rules_of m e)) m e

-- where an accepted call leaves its task
abbrev pub leads_to : Machine → ℕ → Ask → Place
leads_to m t (AskLlx r) = L1 r
leads_to m t (AskScx n r written field new) = H1 (m.used + 1) 0 Own
leads_to m t (AskVlx n) = Vlx n 0
leads_to m t (AskRead r f) = Read r f
leads_to m t AskStep = place_of (move_at m t)
