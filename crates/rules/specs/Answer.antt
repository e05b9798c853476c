-- NUMBERS THAT COME BACK: document 01's number and values for each answer.
use Rattle.std.specs.Prelude.{ℕ, List, [], ◌∷◌, map}
use Rattle.rules.specs.Words.{Refusal, OutOfShape, NoSuchTask, TaskBusy, TaskIdle, ListLength, NoSuchRecord, RecordTwice, PlaceOrField, NoLink, NumbersUsed}
use Rattle.rules.specs.Words.{SheetSize, SheetTag, Counts, Distance, EventKind, BufferShort}
use Rattle.rules.specs.Words.{Answer, Accepted, Snapshot, Finalized, Fail, Yes, No, Value, Refused}

abbrev pub refusal_number : Refusal → ℕ
refusal_number OutOfShape = 10
refusal_number NoSuchTask = 11
refusal_number TaskBusy = 12
refusal_number TaskIdle = 13
refusal_number ListLength = 14
refusal_number NoSuchRecord = 15
refusal_number RecordTwice = 16
refusal_number PlaceOrField = 17
refusal_number NoLink = 18
refusal_number NumbersUsed = 19
refusal_number SheetSize = 20
refusal_number SheetTag = 21
refusal_number Counts = 22
refusal_number Distance = 23
refusal_number EventKind = 24
refusal_number BufferShort = 25

abbrev pub number : Answer → ℕ
number Accepted = 0
number (Snapshot cells) = 1
number Finalized = 2
number Fail = 3
number Yes = 4
number No = 5
number (Value cell) = 6
number (Refused why) = refusal_number why

-- four values for a snapshot, one for a value read, none otherwise
abbrev pub values : Answer → List ℕ
values (Snapshot cells) = map (λ c. c.value) cells
values (Value cell) = cell.value ∷ []
values other = []
