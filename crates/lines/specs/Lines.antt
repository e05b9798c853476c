-- THE LINES OF A RUN: an event's, "event number from 1, task, number from the table, then four values for 1 or one value for 6"; a
-- record's, "`R`, its number, mark (0 or 1), four values"; the last, "`T` with the changes made"; and a refused sheet's, "`X` and the number".
-- In ASCII `R` is 82, `T` is 84 and `X` is 88.
use Rattle.std.specs.Prelude.{ℕ, Bool, List, [], ◌∷◌, map}
use Rattle.table.specs.Table.{pick}
use Rattle.rules.specs.Words.{Cell, Record, Refusal, Answer}
use Rattle.rules.specs.Answer.{refusal_number, number, values}
use Rattle.tally.specs.declared.Tally.{Tally}
use Rattle.text.specs.Text.{row, lettered}

unfoldable pub answer_line : ℕ → ℕ → Answer → List ℕ
answer_line k t answer = row (k ∷ t ∷ number answer ∷ values answer)

abbrev pub bit : Bool → ℕ
bit b = pick b 1 0

abbrev pub cells_line : ℕ → Bool → List Cell → List ℕ
cells_line r mark cells = lettered 82 (r ∷ bit mark ∷ map (λ c. c.value) cells)

unfoldable pub record_line : ℕ → Record → List ℕ
record_line r x = cells_line r x.mark x.cells

unfoldable pub tally_line : Tally → List ℕ
tally_line t = lettered 84 (t.made ∷ t.no ∷ t.fail ∷ [])

unfoldable pub refusal_line : Refusal → List ℕ
refusal_line why = lettered 88 (refusal_number why ∷ [])
