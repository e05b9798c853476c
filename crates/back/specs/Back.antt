-- ROUND TRIPS, what is claimed of the reader and the writer together. "The parts read from an accepted sheet, written again, give its bytes
-- from the initial values on"; parts written and read again are the same parts; "any heading bytes of the owner's" change nothing.
-- Each claim is about what the contracts of `layout_of`, `values`, `event` and `write` say: sheet_of, values_in, event_at of the event bytes,
-- written_of and buffer_of. Bytes are below 256 and values below 65,536 by the types of the code; proofs/ has the claims proved.
use Rattle.std.specs.Prelude.{ℕ, ◌+◌, ◌*◌, ◌<◌, ◌≤◌, ◌≡◌, List, ◌++◌, get_or, length, take, drop}
use Rattle.table.specs.Table.{max_fields}
use Rattle.rules.specs.Words.{Refusal, Result, Ok}
use Rattle.sheet.specs.declared.Layout.{Layout}
use Rattle.sheet.specs.Layout.{Parts, values_part, events_part, values_in, sheet_of, parts_of, max_sheet}
use Rattle.writer.specs.Write.{bytes_of, written_of, buffer_of}

-- each number of a list is below a bound: 256 for bytes, 65,536 for values
abbrev pub AllBelow : ℕ → List ℕ → Type 0
AllBelow most l = (i : ℕ) → i < length l → get_or l i 0 < most

-- what the writer answers to parts and an event count, and what it leaves in the buffer
abbrev pub writes : Parts → ℕ → ℕ → Result ℕ Refusal
writes x count room = written_of x.p x.n count x.values x.events room

abbrev pub leaves : Parts → ℕ → List ℕ → List ℕ
leaves x count old = buffer_of x.p x.n count x.values x.events old

-- some bytes at the front of a buffer, and the rest of it
abbrev pub over : List ℕ → List ℕ → List ℕ
over bytes old = bytes ++ drop (length bytes) old

-- bytes are read as parts that begin at a position, with an event count
abbrev pub placed : Parts → ℕ → ℕ → Layout
placed x count from = record { p = x.p; n = x.n; count = count; from = from }

pub record ReadAs (s : List ℕ) (x : Parts) (count from : ℕ) : Type 0 where
  pub accepted : sheet_of s ≡ Ok (placed x count from)
  pub parts : parts_of s (placed x count from) ≡ x

-- the parts are what the reader hands out: the first 4N of what `values` gives for the bytes of the values, and the bytes of the events,
-- of which `event` gives each
pub record HandedOut (s : List ℕ) (at : Layout) (x : Parts) : Type 0 where
  pub tasks : x.p ≡ at.p
  pub records : x.n ≡ at.n
  pub values : x.values ≡ take (max_fields * at.n) (values_in (values_part s at))
  pub events : x.events ≡ events_part s at

-- the writer put the bytes of the parts at the front of the buffer and kept the rest; the parts are read from these bytes, behind any
-- heading that leaves room, and without one there always is
pub record WrittenThenRead (x : Parts) (count room size : ℕ) : Type 0 where
  pub answer : size ≡ length (bytes_of x)
  pub buffer : (old : List ℕ) → length old ≡ room → leaves x count old ≡ over (bytes_of x) old
  pub headed : (h : List ℕ) → length (h ++ bytes_of x) ≤ max_sheet → ReadAs (h ++ bytes_of x) x count (length h)
  pub fits : length (bytes_of x) ≤ max_sheet

-- the parts of a sheet, written into any buffer that has room, give its bytes from the initial values on, and the rest of the buffer
pub record ReadThenWritten (s : List ℕ) (at : Layout) (x : Parts) : Type 0 where
  pub bytes : bytes_of x ≡ drop at.from s
  pub answer : (room : ℕ) → length (drop at.from s) ≤ room → writes x at.count room ≡ Ok (length (drop at.from s))
  pub buffer : (old : List ℕ) → length (drop at.from s) ≤ length old → leaves x at.count old ≡ over (drop at.from s) old

-- THE CLAIMS
abbrev pub Handing : Type 0
Handing = (s : List ℕ) (at : Layout) → sheet_of s ≡ Ok at → HandedOut s at (parts_of s at)

abbrev pub Writing : Type 0
Writing =
    (p n count : ℕ) (values events : List ℕ) (room size : ℕ) → AllBelow 65536 values → written_of p n count values events room ≡ Ok size
    → WrittenThenRead (record { p = p; n = n; values = values; events = events }) count room size

abbrev pub Reading : Type 0
Reading = (s : List ℕ) (at : Layout) → AllBelow 256 s → sheet_of s ≡ Ok at → ReadThenWritten s at (parts_of s at)

abbrev pub Heading : Type 0
Heading =
    (h s : List ℕ) (at : Layout) → sheet_of s ≡ Ok at → length (h ++ s) ≤ max_sheet
    → ReadAs (h ++ s) (parts_of s at) at.count (length h + at.from)
