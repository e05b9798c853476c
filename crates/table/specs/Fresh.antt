-- The fresh table: "all idle, no links, no change used", every mark no, every info 0, each value with stamp 0.
-- Its one refusal is 22: P or N out of range, or other than 4N values; it then holds no task and no record.
use Rattle.std.specs.Prelude.{ℕ, suc, ◌+◌, ◌*◌, List, [], ◌∷◌, Bool, false, get_or, length, replicate, ltb, leb, eqb}
use Rattle.table.specs.declared.Cell.{Cell}
use Rattle.table.specs.declared.Record.{Record}
use Rattle.table.specs.declared.Change.{Change}
use Rattle.table.specs.declared.Task.{Task}
use Rattle.table.specs.declared.Link.{Link}
use Rattle.table.specs.declared.Machine.{Machine}
use Rattle.table.specs.declared.Out.{Out}
use Rattle.table.specs.declared.State.TheVariants.{Aborted}
use Rattle.table.specs.declared.Place.TheVariants.{Idle}
use Rattle.table.specs.declared.Refusal.TheVariants.{Counts}
use Rattle.table.specs.declared.Answer.TheVariants.{Accepted, Refused}
use Rattle.table.specs.Table.{pick, tabulate, no_cell, no_cells, max_tasks, max_records, max_changes, max_list, max_fields}

abbrev pub initial : List ℕ → ℕ → Cell
initial values k = record { value = get_or values k 0; stamp = 0 }

-- record r with its four values
abbrev pub fresh_record : List ℕ → ℕ → Record
fresh_record values r =
    record {
      cells =
          initial values (max_fields * r)
          ∷ initial values (max_fields * r + 1)
          ∷ initial values (max_fields * r + 2)
          ∷ initial values (max_fields * r + 3)
          ∷ [];
      mark = false;
      info = 0;
    }

abbrev pub empty_record : Record
empty_record = record { cells = no_cells; mark = false; info = 0 }

unfoldable pub fresh_records : ℕ → List ℕ → List Record
fresh_records n values = tabulate max_records (λ r. pick (ltb r n) (fresh_record values r) empty_record)

abbrev pub empty_change : Change
empty_change =
    record {
      n = 0;
      v = replicate max_list 0;
      r = replicate max_list false;
      written = 0;
      field = 0;
      new = 0;
      old = no_cell;
      state = Aborted;
      frozen = false;
      infos = replicate max_list 0;
    }

abbrev pub idle_task : Task
idle_task = record { place = Idle; cells = no_cells; list = replicate max_list 0 }

abbrev pub empty_link : Link
empty_link = record { there = false; info = 0; cells = no_cells }

unfoldable pub fresh_machine : ℕ → ℕ → List Record → Machine
fresh_machine p n records =
    record {
      p = p;
      n = n;
      used = 0;
      records = records;
      changes = replicate (suc max_changes) empty_change;
      tasks = replicate max_tasks idle_task;
      links = replicate (max_tasks * max_records) empty_link;
    }

-- k is from 1 to most
abbrev pub within : ℕ → ℕ → Bool
within most k = pick (ltb 0 k) (leb k most) false

abbrev pub in_range : ℕ → ℕ → ℕ → Bool
in_range p n given = pick (within max_tasks p) (pick (within max_records n) (eqb given (max_fields * n)) false) false

unfoldable pub fresh : ℕ → ℕ → List ℕ → Out
fresh p n values =
    pick (in_range p n (length values))
    (record { m = fresh_machine p n (fresh_records n values); answer = Accepted })
    (record { m = fresh_machine 0 0 (replicate max_records empty_record); answer = Refused Counts })
