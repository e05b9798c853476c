-- RUN SHEET, document 01's section of that name: what the writer puts, and when it refuses.
-- "The writer puts no heading, and keeps the buffer beyond the sheet."
use Rattle.std.specs.Prelude.{ℕ, ◌+◌, ◌*◌, ◌/◌, ◌%◌, List, [], ◌∷◌, ◌++◌, length, drop, eqb}
use Rattle.std.specs.Result.{result_and}
use Rattle.table.specs.Table.{max_fields}
use Rattle.rules.specs.Words.{Refusal, Counts, EventKind, BufferShort, Check, Result, Ok, Err}
use Rattle.rules.specs.Claim.{Claim, holds, ◌&◌}
use Rattle.rules.specs.Refuse.{Rule, unless, check}
use Rattle.event.specs.Event.{event_size, events_fine}
use Rattle.sheet.specs.Layout.{Parts, trailer_size, parts_size, up_to, counts_fine}

abbrev pub low_first : ℕ → List ℕ
low_first v = v % 256 ∷ v / 256 % 256 ∷ []

unfoldable pub value_bytes : List ℕ → List ℕ
value_bytes [] = []
value_bytes (v ∷ vs) = low_first v ++ value_bytes vs

abbrev pub trailer_bytes : ℕ → ℕ → ℕ → List ℕ
trailer_bytes p n count = (82 ∷ 83 ∷ p ∷ n ∷ []) ++ low_first count ++ low_first (parts_size n count)

unfoldable pub sheet_bytes : ℕ → ℕ → ℕ → List ℕ → List ℕ → List ℕ
sheet_bytes p n count values events = value_bytes values ++ events ++ trailer_bytes p n count

unfoldable pub bytes_of : Parts → List ℕ
bytes_of x = sheet_bytes x.p x.n (length x.events / event_size) x.values x.events

abbrev pub sheet_size : ℕ → ℕ → ℕ
sheet_size n count = parts_size n count + trailer_size

-- what the writer must be given: "other than 4N values or 12E event bytes" is refused as the counts are
abbrev pub given_fine : ℕ → ℕ → ℕ → ℕ → ℕ → Claim
given_fine p n count values events =
    counts_fine p n count & holds (eqb values (max_fields * n)) & holds (eqb events (event_size * count))

-- in the order of the refusals; room is the length of the lent buffer
abbrev pub writer_rules : ℕ → ℕ → ℕ → List ℕ → List ℕ → ℕ → List Rule
writer_rules p n count values events room =
    unless Counts (given_fine p n count (length values) (length events))
    ∷ unless EventKind (holds (events_fine events count))
    ∷ unless BufferShort (up_to room (sheet_size n count))
    ∷ []

-- the length of the sheet, or the lowest of 22, 24 and 25 that applies
unfoldable pub written_of : ℕ → ℕ → ℕ → List ℕ → List ℕ → ℕ → Result ℕ Refusal
written_of p n count values events room = result_and (check (writer_rules p n count values events room)) (Ok (sheet_size n count))

-- the sheet at the front of the buffer, or the buffer as it was
abbrev pub buffer_as : Check → List ℕ → List ℕ → List ℕ
buffer_as (Ok _) bytes old = bytes ++ drop (length bytes) old
buffer_as (Err why) bytes old = old

unfoldable pub buffer_of : ℕ → ℕ → ℕ → List ℕ → List ℕ → List ℕ → List ℕ
buffer_of p n count values events old =
    buffer_as (check (writer_rules p n count values events (length old))) (sheet_bytes p n count values events) old
