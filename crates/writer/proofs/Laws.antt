-- When the writer accepts, and what callers know then.
use Prim.Native.Nat.{ℕ, ◌≤◌}
use native.Mathlib.Omega.{arith}
use mathlib.Core.Path.{◌≡◌, refl}
use mathlib.Core.Bool.{true}
use mathlib.Core.List.{List, ◌++◌}
use lib.ListN.{length, drop}
use Rattle.rules.specs.Words.{Counts, EventKind, BufferShort, Ok}
use Rattle.rules.specs.Claim.{test}
use Rattle.rules.specs.Refuse.{check}
use Rattle.rules.proofs.Exact.{told, passes}
use Rattle.event.specs.Event.{events_fine}
use Rattle.sheet.specs.Layout.{up_to}
use Rattle.sheet.proofs.Laws.{kept_on, answered}
use Rattle.writer.specs.Write.{sheet_size, sheet_bytes, writer_rules, written_of, buffer_of}
use Rattle.writer.proofs.Writing.{given}

pub record Accepts (p n count : ℕ) (values events : List ℕ) (room : ℕ) : Type 0 where
  pub given_kept : given p n count values events ≡ true
  pub events_kept : events_fine events count ≡ true
  pub fits : sheet_size n count ≤ room

module _ {p n count : ℕ} {values events : List ℕ} where
  pub written_accepts : {room size : ℕ} → written_of p n count values events room ≡ Ok size → Accepts p n count values events room
  unfolding written_of
  written_accepts {room} {size} e = rest (answered (check (writer_rules p n count values events room)) e).0
    where
      rest : check (writer_rules p n count values events room) ≡ Ok tt → Accepts p n count values events room
      rest c =
          let k22 = kept_on (given p n count values events) _ Counts c in
          let k24 = kept_on (events_fine events count) _ EventKind k22.1 in
          let k25 = kept_on (test 0 (up_to room (sheet_size n count))) _ BufferShort k24.1 in
          record {
            given_kept = k22.0;
            events_kept = k24.0;
            fits = omega (arith, told 0 (up_to room (sheet_size n count)) k25.0);
          }

  pub accepts_written : {room : ℕ} → Accepts p n count values events room → written_of p n count values events room ≡ Ok (sheet_size n count)
  unfolding written_of
  accepts_written {room} a =
      rw (a.given_kept, a.events_kept, passes 0 (up_to room (sheet_size n count)) (omega (arith, a.fits))) refl

  pub accepts_buffer : (old : List ℕ) → Accepts p n count values events (length old)
      → buffer_of p n count values events old ≡ sheet_bytes p n count values events ++ drop (length (sheet_bytes p n count values events)) old
  unfolding buffer_of
  accepts_buffer old a =
      rw (a.given_kept, a.events_kept, passes 0 (up_to (length old) (sheet_size n count)) (omega (arith, a.fits))) refl
