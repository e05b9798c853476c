-- THE STEP of a task: one access, and the local work that rides on it.
use Rattle.std.specs.Prelude.{ℕ, zero, suc, Bool, true, false, List, get_or, set}
use Rattle.rules.specs.Words.{Cell, Place, Idle, Access, Task, Link, Machine, Seen, Move, On, Keep, Done, Store, Unlink, Out}
use Rattle.rules.specs.Words.{Answer, Accepted, Snapshot, No}
use Rattle.table.specs.Table.{pick, no_link, change_at, task_at, slot, link_at, remade}
use Rattle.rules.specs.Places.{change_of, access_of, resume}
use Rattle.rules.specs.Perform.{record_of, seen, perform}

-- what a move does: the new place; the task's cells after it, by the cell seen; whether the link is stored; how many links of the task's
-- list are dropped; and the answer, by the task's cells
abbrev pub place_of : Move → Place
place_of (On q) = q
place_of (Keep q f) = q
place_of other = Idle

abbrev pub cells_by : List Cell → Cell → Move → List Cell
cells_by cs c (Keep q f) = set cs f c
cells_by cs c other = cs

abbrev pub stores_link : Move → Bool
stores_link Store = true
stores_link other = false

abbrev pub drop_of : Move → ℕ
drop_of (Unlink n) = n
drop_of other = 0

abbrev pub answer_of : List Cell → Move → Answer
answer_of cs (On q) = Accepted
answer_of cs (Keep q f) = Accepted
answer_of cs (Done answer) = answer
answer_of cs Store = Snapshot cs
answer_of cs (Unlink n) = No

-- the task after it: at the new place, with the cell seen if it is kept
abbrev pub task_by : Task → Seen → Move → Task
task_by x s v = record { place = place_of v; cells = cells_by x.cells s.cell v; list = x.list }

-- the link to the record read: stored anew with the info seen and the cells kept, or as it was
abbrev pub link_by : Link → Task → Seen → Move → Link
link_by k x s v = pick (stores_link v) (record { there = true; info = s.number; cells = x.cells }) k

-- a link dropped: its info and cells are kept, and looked at no more. So Link is a flag with values beside it, and no Option
abbrev pub dropped : Link → Link
dropped k = record { there = false; info = k.info; cells = k.cells }

-- the links without those of task t to the first n records of the list
unfoldable pub drop_first : List Link → ℕ → List ℕ → ℕ → List Link
drop_first ls t l zero = ls
drop_first ls t l (suc n) =
    let at = slot t (get_or l n 0) in
    let rest = drop_first ls t l n in
    set rest at (dropped (get_or rest at no_link))

-- the local work put in place: the task, the link to record r, and the links dropped
unfoldable pub settle : Machine → ℕ → ℕ → Seen → Move → Machine
settle m t r s v =
    let tasks = set m.tasks t (task_by (task_at m t) s v) in
    let links = drop_first (set m.links (slot t r) (link_by (link_at m t r) (task_at m t) s v)) t (task_at m t).list (drop_of v) in
    remade m m.used m.records m.changes tasks links

-- the access of task t, and the work that rides on it
unfoldable pub access_at : Machine → ℕ → Access
access_at m t = let q = (task_at m t).place in access_of q (change_at m (change_of q)) (task_at m t).list

unfoldable pub move_at : Machine → ℕ → Move
move_at m t =
    let q = (task_at m t).place in
    let a = access_at m t in
    resume q (seen a m) (change_at m (change_of q)) (link_at m t (record_of a)).info

unfoldable pub step : Machine → ℕ → Out
step m t =
    let a = access_at m t in
    let v = move_at m t in
    record { m = settle (perform a m) t (record_of a) (seen a m) v; answer = answer_of (task_at m t).cells v }
