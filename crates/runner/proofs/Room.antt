-- The lent buffer: too short, it stays as it was; else the text stands at its front, and it all fits.
use Prim.Native.Nat.{ℕ, ◌+◌, ◌≤◌, ◌<◌}
use native.Mathlib.Nat.{le_trans}
use native.Mathlib.Omega.{arith}
use mathlib.Core.Bool.{Bool, true, false}
use mathlib.Core.Path.{◌≡◌, refl, ap}
use mathlib.Core.List.{List, ◌++◌}
use lib.Dec.{leb, lit≤}
use lib.ListN.{length, drop, length-append}
use borrow.Author.Tests.{le-leb, lt-leb}
use Rattle.table.specs.Table.{pick}
use Rattle.rules.specs.Words.{Refusal, Result, Ok, Err}
use Rattle.sheet.specs.declared.Layout.{Layout}
use Rattle.sheet.specs.Layout.{sheet_of}
use Rattle.sheet.proofs.Laws.{read_inside}
use Rattle.text.specs.Put.{Put}
use Rattle.text.proofs.Laws.{whole, reached}
use Rattle.runner.specs.declared.Short.{Short}
use Rattle.runner.specs.Run.{text_as, text_of, room_as, ran_of, printed_of}

module _ (s old : List ℕ) (x : Result Layout Refusal) (e : x ≡ sheet_of s) (room : ℕ) (k : room ≡ room_as x) where
  pub too_short : length old < room → (◌≡◌ {A = Result ℕ Short} (Err (record { room = room })) (ran_of s (length old))) × (old ≡ printed_of s old)
  unfolding ran_of printed_of
  too_short h =
      let less : length old < room_as x = omega arith in
      (rw (k, ← e, lt-leb (room_as x) (length old) less) refl, rw (← e, lt-leb (room_as x) (length old) less) refl)

  pub printed : (new : List ℕ) (r : ℕ) → room ≤ length old → Put old 0 (text_as s x) new r × (length (text_as s x) ≤ room_as x)
      → (Ok r ≡ ran_of s (length old)) × (new ≡ printed_of s old)
  unfolding ran_of printed_of text_of
  printed new r h put =
      let enough : room_as x ≤ length old = omega arith in
      let fits = le_trans put.1 enough in
      (rw (← e, le-leb (room_as x) (length old) enough) (ap Ok (reached put.0 fits)), rw (← e, le-leb (room_as x) (length old) enough) (whole put.0 fits))

-- what a caller is told to read lies in the buffer
pub in_buffer : (s old : List ℕ) (n : ℕ) → ran_of s (length old) ≡ Ok n → n ≤ length (printed_of s old)
unfolding ran_of printed_of
in_buffer s old n = by (leb (room_as (sheet_of s)) (length old))
  where
    by : (b : Bool) → pick {A = Result ℕ Short} b (Ok (length (text_of s))) (Err (record { room = room_as (sheet_of s) })) ≡ Ok n → n ≤ length (pick b (text_of s ++ drop (length (text_of s)) old) old)
    by true e =
        let k : length (text_of s) ≡ n = cc in
        let l : length (text_of s ++ drop (length (text_of s)) old) ≡ length (text_of s) + length (drop (length (text_of s)) old) = length-append (text_of s) _ in
        omega arith
    by false e = let z : ◌≡◌ {A = ℕ} 0 1 = cc in absurd (omega arith)

-- 211,236 bytes are room for every sheet
pub enough : (s : List ℕ) (size : ℕ) → 211236 ≤ size → ran_of s size ≡ Ok (length (text_of s))
unfolding ran_of
enough s size h = rw (le-leb (room_as (sheet_of s)) size (le_trans (most (sheet_of s) refl) h)) refl
  where
    most : (x : Result Layout Refusal) → sheet_of s ≡ x → room_as x ≤ 211236
    most (Ok at) e = let i = read_inside e in omega (arith, i.records.1, i.most_events)
    most (Err why) e = lit≤ tt
