-- THE TEXT OF A RUN, document 01's last paragraph on the sheet: "A refused sheet prints `X` and the number. Otherwise a line for each
-- event .. Then for each record `R` .. Last `T`". All of it by the answers that `next` gives from the sheet's fresh table.
use Rattle.std.specs.Prelude.{ℕ, zero, suc, ◌+◌, ◌*◌, List, ◌++◌, leb, length, drop}
use Rattle.table.specs.Table.{pick, record_at, task_at}
use Rattle.table.specs.Fresh.{fresh}
use Rattle.rules.specs.Words.{Machine, Out, Refusal, Result, Ok, Err}
use Rattle.rules.specs.Next.{next}
use Rattle.sheet.specs.declared.Layout.{Layout}
use Rattle.event.specs.Event.{event_at}
use Rattle.sheet.specs.Layout.{events_part, parts_of, sheet_of}
use Rattle.tally.specs.declared.Told.{Told}
use Rattle.rules.specs.Places.{operation_of}
use Rattle.tally.specs.Count.{tally_of, first_of}
use Rattle.text.specs.Text.{joined}
use Rattle.lines.specs.Lines.{answer_line, record_line, tally_line, refusal_line}
use Rattle.runner.specs.declared.Short.{Short}

-- the machine after the first i events, and what event i gives; "A refused event doesn't stop the run."
unfoldable pub machine_at : Machine → List ℕ → ℕ → Machine
machine_at m es zero = m
machine_at m es (suc i) = (next (machine_at m es i) (event_at es i)).m

unfoldable pub out_at : Machine → List ℕ → ℕ → Out
out_at m es i = next (machine_at m es i) (event_at es i)

-- what event i told: the operation that its task was in, and the answer
unfoldable pub told_at : Machine → List ℕ → ℕ → Told
told_at m es i =
    record { operation = operation_of (task_at (machine_at m es i) (event_at es i).task).place; answer = (out_at m es i).answer }

-- the line of event i, "event number from 1"
unfoldable pub event_line : Machine → List ℕ → ℕ → List ℕ
event_line m es i = answer_line (i + 1) (event_at es i).task (out_at m es i).answer

abbrev pub record_line_at : Machine → ℕ → List ℕ
record_line_at m r = record_line r (record_at m r)

-- the run of so many events on a table of n records
unfoldable pub run_text : Machine → List ℕ → ℕ → ℕ → List ℕ
run_text m es count n =
    joined (event_line m es) count
    ++ joined (record_line_at (machine_at m es count)) n
    ++ tally_line (tally_of (first_of (told_at m es) count))

-- the fresh table of a sheet
unfoldable pub table_of : List ℕ → Layout → Machine
table_of s at = (fresh at.p at.n (parts_of s at).values).m

abbrev pub run_of : List ℕ → Layout → List ℕ
run_of s at = run_text (table_of s at) (events_part s at) at.count at.n

abbrev pub text_as : List ℕ → Result Layout Refusal → List ℕ
text_as s (Ok at) = run_of s at
text_as s (Err why) = refusal_line why

unfoldable pub text_of : List ℕ → List ℕ
text_of s = text_as s (sheet_of s)

-- THE LENT BUFFER: the runner asks for room for the longest text that so many events and records could have, which is known before the
-- run (six bytes for each number with what comes after it). A shorter buffer stays as it was, and the answer is how long it must be.
abbrev pub room_as : Result Layout Refusal → ℕ
room_as (Ok at) = 42 * at.count + 38 * at.n + 20
room_as (Err why) = 8

unfoldable pub ran_of : List ℕ → ℕ → Result ℕ Short
ran_of s size =
    let room = room_as (sheet_of s) in
    pick (leb room size) (Ok (length (text_of s))) (Err (record { room = room }))

unfoldable pub printed_of : List ℕ → List ℕ → List ℕ
printed_of s old = pick (leb (room_as (sheet_of s)) (length old)) (text_of s ++ drop (length (text_of s)) old) old
