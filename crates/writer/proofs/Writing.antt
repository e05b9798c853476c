-- What the writer's first test says of what it is given, and the sheet's bytes over the front of the buffer.
use Prim.Native.Nat.{ℕ, ◌+◌, ◌*◌, ◌≤◌}
use native.Mathlib.Omega.{arith}
use mathlib.Core.Path.{◌≡◌}
use mathlib.Core.Bool.{Bool, true}
use mathlib.Core.List.{List, ◌++◌}
use lib.ListN.{length, drop, length-append}
use lib.Seq.{sets, sets-eq}
use borrow.Author.Tests.{eqb-true}
use Rattle.rules.specs.Claim.{test}
use Rattle.rules.proofs.Exact.{told}
use Rattle.writer.specs.Write.{given_fine, sheet_size, value_bytes, trailer_bytes, sheet_bytes}
use Rattle.writer.proofs.Stored.{length_value_bytes}

abbrev pub given : ℕ → ℕ → ℕ → List ℕ → List ℕ → Bool
given p n count values events = test 0 (given_fine p n count (length values) (length events))

-- what its test says of what the writer is given
pub record GivenSizes (p n count values events : ℕ) : Type 0 where
  pub tasks : (1 ≤ p) × (p ≤ 8)
  pub records : (1 ≤ n) × (n ≤ 32)
  pub most : count ≤ 5000
  pub values_are : values ≡ 4 * n
  pub events_are : events ≡ 12 * count

pub given_sizes : (p n count : ℕ) (values events : List ℕ) → given p n count values events ≡ true → GivenSizes p n count (length values) (length events)
given_sizes p n count values events e =
    let q = told 0 (given_fine p n count (length values) (length events)) e in
    let counts = q.0 in
    record {
      tasks = (counts.0.0, omega (arith, counts.0.1));
      records = (counts.1.0.0, omega (arith, counts.1.0.1));
      most = omega (arith, counts.1.1);
      values_are = eqb-true (length values) (4 * n) q.1.0;
      events_are = eqb-true (length events) (12 * count) q.1.1;
    }

module _ (p n count : ℕ) (values events : List ℕ) where
  pub sheet_length : given p n count values events ≡ true → length (sheet_bytes p n count values events) ≡ sheet_size n count
  unfolding sheet_bytes
  sheet_length a =
      let h = given_sizes p n count values events a in
      omega (arith, length-append (value_bytes values ++ events) (trailer_bytes p n count), length-append (value_bytes values) events, length_value_bytes values)

  -- the sheet's bytes, written over the front of a buffer that has room
  pub over_front : (old : List ℕ) → given p n count values events ≡ true → sheet_size n count ≤ length old
      → sets old 0 (value_bytes values ++ events ++ trailer_bytes p n count)
      ≡ sheet_bytes p n count values events ++ drop (length (sheet_bytes p n count values events)) old
  unfolding sheet_bytes
  over_front old a l =
      let bytes = sheet_bytes p n count values events in
      let size = sheet_length a in
      let e : 0 + length bytes ≡ length bytes = omega arith in
      rw e at (sets-eq bytes old 0 (omega arith))

-- by these the tests of the code are those of the writer, and what it puts is the sheet
pub ruleset written = (given_sizes, over_front)
