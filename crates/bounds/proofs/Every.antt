-- THE OWN-STEP BOUNDS hold of any calls from any fresh table.
use Prim.Native.Nat.{ℕ}
use mathlib.Core.Path.{◌≡◌}
use mathlib.Core.Bool.{true}
use mathlib.Core.List.{List}
use lib.ListN.{length}
use Rattle.table.specs.Fresh.{in_range, fresh}
use Rattle.rules.specs.Next.{next}
use Rattle.rules.specs.Words.{Machine, Call}
use Rattle.orders.proofs.Run.{Run}
use Rattle.orders.proofs.FromFresh.{run}
use Rattle.bounds.specs.Bounds.{Bounds}
use Rattle.bounds.proofs.Most.{llx_most, vlx_most, read_most, scx_most}
use Rattle.bounds.proofs.Ends.{begins, ends}
use Rattle.bounds.proofs.UndisturbedScx.{scx_takes}
use Rattle.bounds.proofs.UndisturbedLlx.{llx_takes}

bounds : (m : Machine) (calls : ℕ → Call) → Run m calls → Bounds next m calls
bounds m calls R =
    record {
      begins = begins m calls R;
      ends = ends m calls R;
      llx = llx_most m calls R;
      vlx = vlx_most m calls R;
      read = read_most m calls R;
      scx = scx_most m calls R;
      undisturbed_scx = λ c k l U. (scx_takes m calls R c k U).0 l;
      answers_yes = λ c k U. (scx_takes m calls R c k U).1;
      undisturbed_llx = λ s t r k B l U. (llx_takes m calls R s t r k B U).0 l;
      answers_snapshot = λ s t r k B U. (llx_takes m calls R s t r k B U).1;
    }

pub every_bound : (p n : ℕ) (values : List ℕ) → in_range p n (length values) ≡ true → (calls : ℕ → Call) → Bounds next (fresh p n values).m calls
every_bound p n values ok calls = bounds (fresh p n values).m calls (run p n values ok calls)
