-- DEMAND 3 HOLDS OF WHAT IS PRINTED: the run that the runner's text tells of is a run as demand 3 has it, of the sheet's events from the
-- sheet's fresh table; so every sentence of the demand holds of it.
use Prim.Native.Nat.{ℕ, zero, suc}
use mathlib.Core.Path.{◌≡◌, refl, ap}
use mathlib.Core.List.{List}
use Rattle.rules.specs.Words.{Machine, Ok}
use Rattle.rules.specs.Next.{next}
use Rattle.orders.specs.Demand.{before, Demand3}
use Rattle.orders.proofs.Every.{every_order}
use Rattle.sheet.specs.declared.Layout.{Layout}
use Rattle.event.specs.Event.{event_at}
use Rattle.sheet.specs.Layout.{events_part, parts_of, sheet_of}
use Rattle.runner.specs.Run.{machine_at, table_of}
use Rattle.runner.proofs.Glue.{ranged}

pub same_run : (m : Machine) (es : List ℕ) (i : ℕ) → machine_at m es i ≡ before next m (event_at es) i
unfolding machine_at before
same_run m es zero = refl
same_run m es (suc i) = ap (λ (x : Machine). (next x (event_at es i)).m) (same_run m es i)

pub printed_in_order : (s : List ℕ) (at : Layout) → sheet_of s ≡ Ok at → Demand3 next (table_of s at) (event_at (events_part s at))
unfolding table_of
printed_in_order s at e = every_order at.p at.n (parts_of s at).values (ranged s at e) (event_at (events_part s at))
