-- Samples, computed: the whole example is accepted and says its calls, written it is its 196 bytes; run 13's sheets of 7 and 8 bytes;
-- sheets for each refusal that a sheet can meet, 20 to 24, and parts for each that the writer can, 22, 24 and 25, at the limits.
use Prim.Native.Nat.{ℕ}
use mathlib.Core.Path.{◌≡◌, refl}
use mathlib.Core.List.{List, [], ◌∷◌, ◌++◌}
use lib.ListN.{length, take, replicate, set}
use Rattle.table.specs.Table.{tabulate}
use Rattle.rules.specs.Words.{SheetSize, SheetTag, Counts, Distance, EventKind, BufferShort, Ok, Err}
use Rattle.rules.specs.Claim.{both, all_below}
use Rattle.event.specs.Event.{uses, call_of, event_fine, event_at, events_fine}
use Rattle.sheet.specs.Layout.{layout_of, events_part, values_part, sheet_of, numbers, parts_of}
use Rattle.writer.specs.Write.{value_bytes, sheet_bytes, written_of, buffer_of}
use Rattle.back.specs.Example.{example_values, example_events, example_bytes, example_calls}

example_size : length example_bytes ≡ 196
example_size = refl

example_read : sheet_of example_bytes ≡ Ok (record { p = 1; n = 1; count = 15; from = 0 })
unfolding sheet_of layout_of events_part events_fine event_fine uses both all_below
example_read = refl

example_parts : parts_of example_bytes (record { p = 1; n = 1; count = 15; from = 0 }) ≡ record { p = 1; n = 1; values = example_values; events = example_events }
unfolding parts_of values_part events_part numbers tabulate
example_parts = refl

example_calls_lem : tabulate 15 (event_at example_events) ≡ example_calls
unfolding tabulate event_at call_of
example_calls_lem = refl

example_written : sheet_bytes 1 1 15 example_values example_events ≡ example_bytes
unfolding sheet_bytes value_bytes
example_written = refl

-- SHEETS REFUSED: 20, and at once the next number, 21, where the size is fine
seven_bytes : sheet_of (replicate 7 0) ≡ Err SheetSize
unfolding sheet_of both
seven_bytes = refl

eight_zeros : sheet_of (replicate 8 0) ≡ Err SheetTag
unfolding sheet_of both
eight_zeros = refl

most_bytes : sheet_of (replicate 65000 0) ≡ Err SheetTag
unfolding sheet_of both
most_bytes = refl

byte_too_many : sheet_of (replicate 65001 0) ≡ Err SheetSize
unfolding sheet_of both
byte_too_many = refl

-- 22: P 0 and 9, N 0 and 33, 5,001 events; 5,000 are fine, and their distance is missing
no_task_lem : sheet_of (set example_bytes 190 0) ≡ Err Counts
unfolding sheet_of layout_of both
no_task_lem = refl

ninth_task : sheet_of (set example_bytes 190 9) ≡ Err Counts
unfolding sheet_of layout_of both
ninth_task = refl

no_record : sheet_of (set example_bytes 191 0) ≡ Err Counts
unfolding sheet_of layout_of both
no_record = refl

record_too_many : sheet_of (set example_bytes 191 33) ≡ Err Counts
unfolding sheet_of layout_of both
record_too_many = refl

event_too_many : sheet_of (82 ∷ 83 ∷ 1 ∷ 1 ∷ 137 ∷ 19 ∷ 0 ∷ 0 ∷ []) ≡ Err Counts
unfolding sheet_of layout_of both
event_too_many = refl

most_events : sheet_of (82 ∷ 83 ∷ 1 ∷ 1 ∷ 136 ∷ 19 ∷ 0 ∷ 0 ∷ []) ≡ Err Distance
unfolding sheet_of layout_of both
most_events = refl

-- 23: a distance of 189; 8N + 12E is 8, and there is nothing before the trailer; 22 goes before it
wrong_distance : sheet_of (set example_bytes 194 189) ≡ Err Distance
unfolding sheet_of layout_of both
wrong_distance = refl

before_the_first : sheet_of (82 ∷ 83 ∷ 1 ∷ 1 ∷ 0 ∷ 0 ∷ 8 ∷ 0 ∷ []) ≡ Err Distance
unfolding sheet_of layout_of both
before_the_first = refl

count_and_distance : sheet_of (set (set example_bytes 190 9) 194 189) ≡ Err Counts
unfolding sheet_of layout_of both
count_and_distance = refl

-- 24: an LLX with byte 2 set, and an event of kind 6
wrong_event : sheet_of (set example_bytes 10 1) ≡ Err EventKind
unfolding sheet_of layout_of events_part events_fine event_fine uses both all_below
wrong_event = refl

wrong_kind : sheet_of (set example_bytes 8 6) ≡ Err EventKind
unfolding sheet_of layout_of events_part events_fine event_fine uses both all_below
wrong_kind = refl

-- THE WRITER REFUSES: 22 with a value short, an event byte short, and 5,001 events, whatever is given with them
value_short : written_of 1 1 15 (take 3 example_values) example_events 196 ≡ Err Counts
unfolding written_of both
value_short = refl

byte_short : written_of 1 1 15 example_values (take 179 example_events) 196 ≡ Err Counts
unfolding written_of both
byte_short = refl

writes_5001 : (values events : List ℕ) (room : ℕ) → written_of 1 1 5001 values events room ≡ Err Counts
unfolding written_of both
writes_5001 values events room = refl

-- 24 with byte 2 of the LLX set, in a short buffer too; 25 with a buffer of 195 bytes
writes_wrong : written_of 1 1 15 example_values (set example_events 2 1) 195 ≡ Err EventKind
unfolding written_of events_fine event_fine uses both all_below
writes_wrong = refl

short_buffer : written_of 1 1 15 example_values example_events 195 ≡ Err BufferShort
unfolding written_of events_fine event_fine uses both all_below
short_buffer = refl

-- THE WRITER ACCEPTS: 196 bytes are enough, and of 200 the last four are kept
enough_room : written_of 1 1 15 example_values example_events 196 ≡ Ok 196
unfolding written_of events_fine event_fine uses both all_below
enough_room = refl

rest_kept : buffer_of 1 1 15 example_values example_events (replicate 200 9) ≡ example_bytes ++ replicate 4 9
unfolding buffer_of sheet_bytes value_bytes events_fine event_fine uses both all_below
rest_kept = refl
