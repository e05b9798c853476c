-- The limits, and what stands where in the table. Past an array's end, where no accepted call looks in a state in shape, the logic's
-- own default stands: zeros, empty lists, an enum's first case. Nothing can be set there.
use Rattle.std.specs.Prelude.{ℕ, zero, suc, ◌+◌, ◌*◌, List, [], ◌∷◌, Bool, true, false, get_or, eqb}
use Rattle.table.specs.declared.Cell.{Cell}
use Rattle.table.specs.declared.Record.{Record}
use Rattle.table.specs.declared.State.{State}
use Rattle.table.specs.declared.Change.{Change}
use Rattle.table.specs.declared.Task.{Task}
use Rattle.table.specs.declared.Link.{Link}
use Rattle.table.specs.declared.Machine.{Machine}
use Rattle.table.specs.declared.State.TheVariants.{InProgress, Aborted}
use Rattle.table.specs.declared.Place.TheVariants.{Idle}

-- THE LIMITS, "Sizes": tasks 1 to 8, records 1 to 32, change numbers 1 to 255, lists of 1 to 4, four fields a record, 0 to 5,000 events
abbrev pub max_tasks : ℕ
max_tasks = 8

abbrev pub max_records : ℕ
max_records = 32

abbrev pub max_changes : ℕ
max_changes = 255

abbrev pub max_list : ℕ
max_list = 4

abbrev pub max_fields : ℕ
max_fields = 4

abbrev pub max_events : ℕ
max_events = 5000

-- the first where the test holds, else the second
abbrev pub pick : {A : Type 0} → Bool → A → A → A
pick true a b = a
pick false a b = b

-- the values of f at 0, 1, .., n - 1
unfoldable pub tabulate : {A : Type 0} → ℕ → (ℕ → A) → List A
tabulate zero f = []
tabulate (suc n) f = f 0 ∷ tabulate n (λ k. f (suc k))

abbrev pub no_cell : Cell
no_cell = record { value = 0; stamp = 0 }

abbrev pub no_cells : List Cell
no_cells = no_cell ∷ no_cell ∷ no_cell ∷ no_cell ∷ []

abbrev pub no_record : Record
no_record = record { cells = []; mark = false; info = 0 }

abbrev pub no_change : Change
no_change =
    record { n = 0; v = []; r = []; written = 0; field = 0; new = 0; old = no_cell; state = InProgress; frozen = false; infos = [] }

abbrev pub no_task : Task
no_task = record { place = Idle; cells = []; list = [] }

abbrev pub no_link : Link
no_link = record { there = false; info = 0; cells = [] }

abbrev pub cell_at : List Cell → ℕ → Cell
cell_at cs f = get_or cs f no_cell

abbrev pub record_at : Machine → ℕ → Record
record_at m r = get_or m.records r no_record

abbrev pub change_at : Machine → ℕ → Change
change_at m u = get_or m.changes u no_change

abbrev pub task_at : Machine → ℕ → Task
task_at m t = get_or m.tasks t no_task

-- where the link of task t to record r stands among the links
abbrev pub slot : ℕ → ℕ → ℕ
slot t r = t * max_records + r

abbrev pub link_at : Machine → ℕ → ℕ → Link
link_at m t r = get_or m.links (slot t r) no_link

-- the table m with another used count and with other records, changes, tasks and links
abbrev pub remade : Machine → ℕ → List Record → List Change → List Task → List Link → Machine
remade m used rs xs ts ls = record { p = m.p; n = m.n; used = used; records = rs; changes = xs; tasks = ts; links = ls }

-- "Number 0 is the dummy: its state is always Aborted", whatever stands in entry 0
abbrev pub state_of : ℕ → Change → State
state_of u ch = pick (eqb u 0) Aborted ch.state

-- two cells are equal if both value and stamp are
unfoldable pub same_cell : Cell → Cell → Bool
same_cell a b = pick (eqb a.value b.value) (eqb a.stamp b.stamp) false

-- the four cells of a snapshot or a link, compared as an array
unfoldable pub same_cells : List Cell → List Cell → Bool
same_cells a b =
    pick (same_cell (cell_at a 0) (cell_at b 0))
    (pick (same_cell (cell_at a 1) (cell_at b 1))
    (pick (same_cell (cell_at a 2) (cell_at b 2)) (same_cell (cell_at a 3) (cell_at b 3)) false)
    false)
    false
