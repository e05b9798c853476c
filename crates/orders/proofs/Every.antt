-- EVERY ORDER: any calls from any fresh table meet demand 3.
use Prim.Native.Nat.{ℕ}
use mathlib.Core.Path.{◌≡◌}
use mathlib.Core.Bool.{true}
use mathlib.Core.List.{List}
use lib.ListN.{length}
use Rattle.table.specs.Fresh.{in_range, fresh}
use Rattle.rules.specs.Next.{next}
use Rattle.orders.specs.Demand.{Demand3}
use Rattle.rules.specs.Words.{Machine, Call}
use Rattle.orders.proofs.Run.{Run}
use Rattle.orders.proofs.FromFresh.{run}
use Rattle.orders.proofs.Changes.{is_a_change}
use Rattle.orders.proofs.Asked.{is_a_turn}
use Rattle.orders.proofs.Effects.{once, alters_its_field, by_an_effect, closed}
use Rattle.orders.proofs.Snaps.{is_a_read}
use Rattle.orders.proofs.Untouched.{untouched}
use Rattle.orders.proofs.Verdicts.{yes_after, no_never, agree, no_because}
use Rattle.orders.proofs.Working.{finishes, not_taken}

pub demand3 : (m : Machine) (calls : ℕ → Call) → Run m calls → Demand3 next m calls
demand3 m calls R =
    record {
      is_a_turn = is_a_turn m calls R;
      is_a_change = is_a_change m calls R;
      is_a_read = is_a_read m calls R;
      once = once m calls R;
      alters_its_field = alters_its_field m calls R;
      untouched = untouched m calls R;
      closed = closed m calls R;
      by_an_effect = by_an_effect m calls R;
      agree = agree m calls R;
      finishes = finishes m calls R;
      not_taken = not_taken m calls R;
      yes_after = yes_after m calls R;
      no_never = no_never m calls R;
      no_because = no_because m calls R;
    }

-- DEMAND 3
pub every_order : (p n : ℕ) (values : List ℕ) → in_range p n (length values) ≡ true → (calls : ℕ → Call) → Demand3 next (fresh p n values).m calls
every_order p n values ok calls = demand3 (fresh p n values).m calls (run p n values ok calls)
