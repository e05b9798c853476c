-- THE STARTS: "Starting an operation makes no shared access."
use Rattle.std.specs.Prelude.{ℕ, ◌+◌, ◌/◌, ◌%◌, Bool, false, List, [], ◌∷◌, get_or, set, eqb, ltb}
use Rattle.rules.specs.Words.{InProgress, Change, Own, Place, L1, H1, Vlx, Read, Machine}
use Rattle.rules.specs.Words.{Ask, AskLlx, AskScx, AskVlx, AskRead, AskStep}
use Rattle.table.specs.Table.{pick, tabulate, cell_at, task_at, link_at, remade, max_list}
use Rattle.rules.specs.Step.{drop_first}

-- the set R of an SCX, a bit for each place, as the bools of places 0 to 3
abbrev pub places : ℕ → List Bool
places r = eqb (r % 2) 1 ∷ eqb (r / 2 % 2) 1 ∷ eqb (r / 4 % 2) 1 ∷ eqb (r / 8 % 2) 1 ∷ []

-- a task put at a place, with a list; its links to the first n of a list dropped
abbrev pub at_place : Machine → ℕ → Place → List ℕ → Machine
at_place m t q l =
    let tasks = set m.tasks t (record { place = q; cells = (task_at m t).cells; list = l }) in
    remade m m.used m.records m.changes tasks m.links

abbrev pub dropping : Machine → ℕ → List ℕ → ℕ → Machine
dropping m t l n = remade m m.used m.records m.changes m.tasks (drop_first m.links t l n)

-- "fills the change from the links": the infos and the old cell are those of the task's links to V; infos past n are 0
abbrev pub filled : Machine → ℕ → ℕ → List ℕ → ℕ → ℕ → ℕ → ℕ → Change
filled m t n l r written field new =
    record {
      n = n;
      v = l;
      r = places r;
      written = written;
      field = field;
      new = new;
      old = cell_at (link_at m t (get_or l written 0)).cells field;
      state = InProgress;
      frozen = false;
      infos = tabulate max_list (λ i. pick (ltb i n) (link_at m t (get_or l i 0)).info 0);
    }

-- "takes the next number"
abbrev pub taking : Machine → Change → Machine
taking m x = remade m (m.used + 1) m.records (set m.changes (m.used + 1) x) m.tasks m.links

-- task t starts an operation with the list l; a STEP is no start
unfoldable pub start : Machine → ℕ → Ask → List ℕ → Machine
start m t (AskLlx r) l = at_place (dropping m t (r ∷ []) 1) t (L1 r) (task_at m t).list
start m t (AskScx n r written field new) l =
    at_place (dropping (taking m (filled m t n l r written field new)) t l n) t (H1 (m.used + 1) 0 Own) (task_at m t).list
start m t (AskVlx n) l = at_place m t (Vlx n 0) l
start m t (AskRead r f) l = at_place m t (Read r f) (task_at m t).list
start m t AskStep l = m
