-- RUN SHEET, document 01's section of that name: what the bytes of a whole sheet say. "From front to back: any heading bytes of the
-- owner's; initial values, 8 bytes a record, each value low byte first; events, 12 bytes each; a trailer of 8 bytes". The events are in the
-- crate `event`, the writer in `writer`.
use Rattle.std.specs.Prelude.{ℕ, suc, ◌+◌, ◌-◌, ◌*◌, List, [], ◌∷◌, length, take, drop, eqb}
use Rattle.std.specs.Result.{result_and}
use Rattle.table.specs.Table.{tabulate, max_tasks, max_records, max_events, max_fields}
use Rattle.rules.specs.Words.{Refusal, SheetSize, SheetTag, Counts, Distance, EventKind, Result, Ok}
use Rattle.rules.specs.Claim.{Claim, less, holds, ◌&◌}
use Rattle.rules.specs.Shape.{within}
use Rattle.rules.specs.Refuse.{Rule, unless, check}
use Rattle.event.specs.Event.{byte, pair, event_size, events_fine}
use Rattle.sheet.specs.declared.Layout.{Layout}

-- THE SIZES, in bytes; a sheet has up to 65,000, and 0 to 5,000 events, of event_size each
abbrev pub value_size : ℕ
value_size = 2

abbrev pub record_size : ℕ
record_size = 8

abbrev pub trailer_size : ℕ
trailer_size = 8

abbrev pub max_sheet : ℕ
max_sheet = 65000

abbrev pub up_to : ℕ → ℕ → Claim
up_to most k = less k (suc most)

-- SHEET: the trailer is "52 53, P, N, event count (2 bytes, low first), and the distance back from the trailer to the initial values";
-- 52 53 are hexadecimal, 82 and 83 here
abbrev pub trailer : List ℕ → List ℕ
trailer s = drop (length s - trailer_size) s

abbrev pub distance : List ℕ → ℕ
distance t = pair t 6

-- what a trailer at the end of some bytes says
abbrev pub layout_by : List ℕ → ℕ → Layout
layout_by t size = record { p = byte t 2; n = byte t 3; count = pair t 4; from = size - trailer_size - distance t }

unfoldable pub layout_of : List ℕ → Layout
layout_of s = layout_by (trailer s) (length s)

-- the bytes of the initial values of n records and of the events
abbrev pub parts_size : ℕ → ℕ → ℕ
parts_size n count = record_size * n + event_size * count

unfoldable pub values_part : List ℕ → Layout → List ℕ
values_part s at = take (record_size * at.n) (drop at.from s)

unfoldable pub events_part : List ℕ → Layout → List ℕ
events_part s at = take (event_size * at.count) (drop (at.from + record_size * at.n) s)

-- what a sheet must keep: its size, the tag, the ranges of P, N and the event count, the distance, which "must be 8N + 12E" and may not
-- reach before the first byte
abbrev pub size_fine : ℕ → Claim
size_fine size = less 7 size & up_to max_sheet size

abbrev pub tag_fine : List ℕ → Claim
tag_fine t = holds (eqb (byte t 0) 82) & holds (eqb (byte t 1) 83)

abbrev pub counts_fine : ℕ → ℕ → ℕ → Claim
counts_fine p n count = within max_tasks p & within max_records n & up_to max_events count

abbrev pub distance_fine : ℕ → ℕ → ℕ → ℕ → Claim
distance_fine back n count end = holds (eqb back (parts_size n count)) & up_to end back

-- in the order of the refusals
abbrev pub sheet_rules : List ℕ → Layout → List Rule
sheet_rules s at =
    unless SheetSize (size_fine (length s))
    ∷ unless SheetTag (tag_fine (trailer s))
    ∷ unless Counts (counts_fine at.p at.n at.count)
    ∷ unless Distance (distance_fine (distance (trailer s)) at.n at.count (length s - trailer_size))
    ∷ unless EventKind (holds (events_fine (events_part s at) at.count))
    ∷ []

-- a sheet's layout, or the lowest of 20 to 24 that applies
unfoldable pub sheet_of : List ℕ → Result Layout Refusal
sheet_of s = let at = layout_of s in result_and (check (sheet_rules s at)) (Ok at)

-- the numbers that stand in a part, low byte first: the first k, and as many as the largest table has
unfoldable pub numbers : ℕ → List ℕ → List ℕ
numbers k part = tabulate k (λ i. pair part (value_size * i))

unfoldable pub values_in : List ℕ → List ℕ
values_in part = numbers (max_fields * max_records) part

-- what a sheet says beside its heading: 4N values, and the events as bytes, 12E of them
pub record Parts : Type 0 where
  pub p : ℕ
  pub n : ℕ
  pub values : List ℕ
  pub events : List ℕ

unfoldable pub parts_of : List ℕ → Layout → Parts
parts_of s at =
    record { p = at.p; n = at.n; values = numbers (max_fields * at.n) (values_part s at); events = events_part s at }
