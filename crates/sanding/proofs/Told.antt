-- WHAT A CALLER MAY RELY ON: 0 says that the buffer is too short, and nothing else; and whatever the answer, it lies in the buffer.
use Prim.Native.Nat.{ℕ, ◌+◌, ◌≤◌, ◌<◌}
use native.Mathlib.Omega.{arith}
use mathlib.Core.Path.{◌≡◌, refl}
use mathlib.Core.List.{List, [], ◌∷◌, ◌++◌}
use lib.ListN.{length, length-append}
use borrow.Author.Tests.{le-leb, lt-leb}
use Rattle.sheet.specs.declared.Layout.{Layout}
use Rattle.sheet.specs.Layout.{sheet_of, events_part}
use Rattle.rules.specs.Words.{Machine, Refusal, Result, Ok, Err}
use Rattle.tally.specs.declared.Tally.{Tally}
use Rattle.rules.specs.Answer.{refusal_number}
use Rattle.text.specs.Text.{joined, lettered}
use Rattle.tally.specs.Count.{tally_of, first_of}
use Rattle.lines.specs.Lines.{tally_line, refusal_line}
use Rattle.runner.specs.declared.Short.{Short}
use Rattle.runner.specs.Run.{machine_at, told_at, event_line, record_line_at, run_text, table_of, text_as, text_of, room_as, ran_of, printed_of}
use Rattle.runner.proofs.Room.{in_buffer}
use Rattle.sanding.specs.Exported.{length_in}

-- no text is empty: a refused sheet's has its letter, every other its last line's
lettered_some : (a : ℕ) (xs : List ℕ) → 1 ≤ length (lettered a xs)
lettered_some a xs = omega arith

tally_some : (t : Tally) → 1 ≤ length (tally_line t)
unfolding tally_line
tally_some t = lettered_some 84 (t.made ∷ t.no ∷ t.fail ∷ [])

refusal_some : (why : Refusal) → 1 ≤ length (refusal_line why)
unfolding refusal_line
refusal_some why = lettered_some 88 (refusal_number why ∷ [])

after : (xs zs : List ℕ) → 1 ≤ length zs → 1 ≤ length (xs ++ zs)
after xs zs h = let both : length (xs ++ zs) ≡ length xs + length zs = length-append xs zs in omega arith

run_some : (m : Machine) (es : List ℕ) (count n : ℕ) → 1 ≤ length (run_text m es count n)
unfolding run_text
run_some m es count n =
    let t : Tally = tally_of (first_of (told_at m es) count) in
    after (joined (event_line m es) count ++ joined (record_line_at (machine_at m es count)) n) (tally_line t) (tally_some t)

not_empty : (s : List ℕ) → 1 ≤ length (text_of s)
unfolding text_of
not_empty s = some (sheet_of s)
  where
    some : (x : Result Layout Refusal) → 1 ≤ length (text_as s x)
    some (Ok at) = run_some (table_of s at) (events_part s at) at.count at.n
    some (Err why) = refusal_some why

-- 0 exactly where the buffer is shorter than the room
pub too_short : (s : List ℕ) (size : ℕ) → size < room_as (sheet_of s) → length_in (ran_of s size) ≡ 0
unfolding ran_of
too_short s size h = rw (lt-leb (room_as (sheet_of s)) size h) refl

pub fits : (s : List ℕ) (size : ℕ) → room_as (sheet_of s) ≤ size → length_in (ran_of s size) ≡ length (text_of s)
unfolding ran_of
fits s size h = rw (le-leb (room_as (sheet_of s)) size h) refl

pub text_is_there : (s : List ℕ) (size : ℕ) → room_as (sheet_of s) ≤ size → 1 ≤ length_in (ran_of s size)
text_is_there s size h = rw (fits s size h) (not_empty s)

-- so many bytes may be read
pub told_in_buffer : (s old : List ℕ) → length_in (ran_of s (length old)) ≤ length (printed_of s old)
told_in_buffer s old = by (ran_of s (length old)) refl
  where
    by : (o : Result ℕ Short) → ran_of s (length old) ≡ o → length_in o ≤ length (printed_of s old)
    by (Ok n) e = in_buffer s old n e
    by (Err short) e = omega arith
