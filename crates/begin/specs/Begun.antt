-- What a start leaves, on small values: the meaning of this crate's functions. `start` of the rules says the same on the table;
-- the crate exact has the two agree.
use Rattle.std.specs.Prelude.{ℕ, ◌+◌, false, List, [], ◌∷◌, get_or, replicate, ltb}
use Rattle.rules.specs.Words.{Cell, InProgress, Change, Own, Place, L1, H1, Vlx, Read, Task, Link}
use Rattle.rules.specs.Words.{Ask, AskLlx, AskScx, AskVlx, AskRead, AskStep}
use Rattle.table.specs.Table.{pick, cell_at, no_link, max_changes}
use Rattle.rules.specs.Start.{places}
use Rattle.begin.specs.declared.Begun.{Begun}

-- the number that an SCX takes, 0 where all are used
abbrev pub next_number : ℕ → ℕ
next_number used = pick (ltb used max_changes) (used + 1) 0

-- for each place of V the info of its link, 0 past n
abbrev pub info_in : ℕ → ℕ → Link → ℕ
info_in n i link = pick (ltb i n) link.info 0

abbrev pub infos_in : ℕ → List Link → List ℕ
infos_in n ls =
    info_in n 0 (get_or ls 0 no_link) ∷ info_in n 1 (get_or ls 1 no_link) ∷ info_in n 2 (get_or ls 2 no_link) ∷ info_in n 3 (get_or ls 3 no_link) ∷ []

abbrev pub old_in : List Link → ℕ → ℕ → Cell
old_in ls written field = cell_at (get_or ls written no_link).cells field

unfoldable pub filled_by : ℕ → List ℕ → ℕ → ℕ → ℕ → ℕ → List Link → Change
filled_by n l r written field new ls =
    record {
      n = n;
      v = l;
      r = places r;
      written = written;
      field = field;
      new = new;
      old = old_in ls written field;
      state = InProgress;
      frozen = false;
      infos = infos_in n ls;
    }

abbrev pub puts : Task → Place → List ℕ → Task
puts x q l = record { place = q; cells = x.cells; list = l }

abbrev pub begun_by : Ask → List ℕ → ℕ → Task → Change → List Link → Begun
begun_by (AskLlx r) l used x ch ls =
    record { used = used; change = ch; task = puts x (L1 r) x.list; drop = 1; list = r ∷ 0 ∷ 0 ∷ 0 ∷ [] }
begun_by (AskScx n r written field new) l used x ch ls =
    record {
      used = next_number used;
      change = filled_by n l r written field new ls;
      task = puts x (H1 (next_number used) 0 Own) x.list;
      drop = n;
      list = l;
    }
begun_by (AskVlx n) l used x ch ls =
    record { used = used; change = ch; task = puts x (Vlx n 0) l; drop = 0; list = replicate 4 0 }
begun_by (AskRead r f) l used x ch ls =
    record { used = used; change = ch; task = puts x (Read r f) x.list; drop = 0; list = replicate 4 0 }
begun_by AskStep l used x ch ls = record { used = used; change = ch; task = x; drop = 0; list = replicate 4 0 }
