-- What an access sees, and what it leaves. This is all that touches shared words: six accesses write, and each writes one word.
use Rattle.std.specs.Prelude.{ℕ, Bool, true, false, List, set, eqb}
use Rattle.rules.specs.Words.{Cell, Record, State, InProgress, Committed, Aborted, Change, Machine, Seen}
use Rattle.rules.specs.Words.{Access, Nothing, ReadMark, ReadInfo, ReadCell, ReadState, ReadFrozen, Hold, Close, Write, Freeze, Abort, Commit}
use Rattle.table.specs.Table.{pick, no_cell, cell_at, record_at, change_at, remade, state_of, same_cell}

abbrev pub saw_nothing : Seen
saw_nothing = record { bit = false; number = 0; cell = no_cell; state = InProgress }

abbrev pub saw_bit : Bool → Seen
saw_bit b = record { bit = b; number = 0; cell = no_cell; state = InProgress }

abbrev pub saw_number : ℕ → Seen
saw_number n = record { bit = false; number = n; cell = no_cell; state = InProgress }

abbrev pub saw_cell : Cell → Seen
saw_cell c = record { bit = false; number = 0; cell = c; state = InProgress }

abbrev pub saw_state : State → Seen
saw_state s = record { bit = false; number = 0; cell = no_cell; state = s }

-- WHAT AN ACCESS DOES: the record and the change whose words it touches, 0 where it touches none; what it sees of them; and what it makes
-- of the words of a record, cells, mark and info, and of those of a change, state and allFrozen
pub record Touch : Type 0 where
  pub touched : ℕ
  pub change : ℕ
  pub sees : Record → Change → Seen
  pub cells : List Cell → List Cell
  pub mark : Bool → Bool
  pub info : ℕ → ℕ
  pub state : State → State
  pub frozen : Bool → Bool

-- one that leaves all as it was; one that sets words of a record; one that sets words of a change
abbrev pub reading : ℕ → ℕ → (Record → Change → Seen) → Touch
reading r u sees =
    record { touched = r; change = u; sees = sees; cells = λ cs. cs; mark = λ b. b; info = λ i. i; state = λ s. s; frozen = λ b. b }

abbrev pub on_record : ℕ → (Record → Seen) → (List Cell → List Cell) → (Bool → Bool) → (ℕ → ℕ) → Touch
on_record r sees cells mark info =
    record { touched = r; change = 0; sees = λ x ch. sees x; cells = cells; mark = mark; info = info; state = λ s. s; frozen = λ b. b }

abbrev pub on_change : ℕ → (State → State) → (Bool → Bool) → Touch
on_change u state frozen =
    record { touched = 0; change = u; sees = λ x ch. saw_nothing; cells = λ cs. cs; mark = λ b. b; info = λ i. i; state = state; frozen = frozen }

abbrev pub touch : Access → Touch
touch Nothing = reading 0 0 (λ x ch. saw_nothing)
touch (ReadMark r) = reading r 0 (λ x ch. saw_bit x.mark)
touch (ReadInfo r) = reading r 0 (λ x ch. saw_number x.info)
touch (ReadCell r f) = reading r 0 (λ x ch. saw_cell (cell_at x.cells f))
touch (ReadState u) = reading 0 u (λ x ch. saw_state (state_of u ch))
touch (ReadFrozen u) = reading 0 u (λ x ch. saw_bit ch.frozen)
-- a Hold sees whether it took hold
touch (Hold r want u) = on_record r (λ x. saw_bit (eqb x.info want)) (λ cs. cs) (λ b. b) (λ i. pick (eqb i want) u i)
touch (Close r) = on_record r (λ x. saw_nothing) (λ cs. cs) (λ b. true) (λ i. i)
touch (Write r f old new) = on_record r (λ x. saw_nothing) (λ cs. pick (same_cell (cell_at cs f) old) (set cs f new) cs) (λ b. b) (λ i. i)
touch (Freeze u) = on_change u (λ s. s) (λ b. true)
touch (Abort u) = on_change u (λ s. Aborted) (λ b. b)
touch (Commit u) = on_change u (λ s. Committed) (λ b. b)

abbrev pub record_of : Access → ℕ
record_of a = (touch a).touched

abbrev pub change_in : Access → ℕ
change_in a = (touch a).change

abbrev pub seen_by : Access → Record → Change → Seen
seen_by a = (touch a).sees

abbrev pub record_by : Access → Record → Record
record_by a x = record { cells = (touch a).cells x.cells; mark = (touch a).mark x.mark; info = (touch a).info x.info }

abbrev pub change_by : Access → Change → Change
change_by a x =
    record {
      n = x.n;
      v = x.v;
      r = x.r;
      written = x.written;
      field = x.field;
      new = x.new;
      old = x.old;
      state = (touch a).state x.state;
      frozen = (touch a).frozen x.frozen;
      infos = x.infos;
    }

-- THE ACCESS on the table
unfoldable pub seen : Access → Machine → Seen
seen a m = seen_by a (record_at m (record_of a)) (change_at m (change_in a))

unfoldable pub perform : Access → Machine → Machine
perform a m =
    let records = set m.records (record_of a) (record_by a (record_at m (record_of a))) in
    let changes = set m.changes (change_in a) (change_by a (change_at m (change_in a))) in
    remade m m.used records changes m.tasks m.links
