-- A run of calls in hand, every index clipped: the machine after the first events, what each gives and tells, and its line. From a
-- table in shape it is the run of the rules' own calls (the crate runner).
use Rattle.std.specs.Prelude.{ℕ, zero, suc, ◌+◌, ◌*◌, ◌%◌, ◌≤◌, ◌≡◌, List, length}
use Rattle.table.specs.Table.{task_at}
use Rattle.rules.specs.Words.{Machine, Out}
use Rattle.event.specs.Event.{event_at}
use Rattle.hand.specs.Hand.{turn_in}
use Rattle.tally.specs.declared.Told.{Told}
use Rattle.rules.specs.Places.{operation_of}
use Rattle.tally.specs.Count.{tally_of, first_of}
use Rattle.text.specs.Text.{joined}
use Rattle.text.specs.Put.{Put}
use Rattle.lines.specs.Lines.{answer_line}
use Rattle.play.specs.declared.Played.{Played}

unfoldable pub turns_to : Machine → List ℕ → ℕ → Machine
turns_to m es zero = m
turns_to m es (suc i) = (turn_in (turns_to m es i) (event_at es i)).m

abbrev pub turn_at : Machine → List ℕ → ℕ → Out
turn_at m es i = turn_in (turns_to m es i) (event_at es i)

unfoldable pub told_in : Machine → List ℕ → ℕ → Told
told_in m es i =
    record { operation = operation_of (task_at (turns_to m es i) ((event_at es i).task % 8)).place; answer = (turn_at m es i).answer }

unfoldable pub line_in : Machine → List ℕ → ℕ → List ℕ
line_in m es i = answer_line (i + 1) (event_at es i).task (turn_at m es i).answer

-- what the first count events leave: the machine, the tally, and their lines at the front of the buffer, at most 42 bytes each
pub record Plays (m : Machine) (es : List ℕ) (count : ℕ) (old new : List ℕ) (o : Played) : Type 0 where
  pub machine : o.m ≡ turns_to m es count
  pub tally : o.tally ≡ tally_of (first_of (told_in m es) count)
  pub lines : Put old 0 (joined (line_in m es) count) new o.next
  pub most : length (joined (line_in m es) count) ≤ 42 * count
