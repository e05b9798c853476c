-- Runs that are written down: the calls of a list, then calls that are refused; and all that the prover opens to compute one.
use Prim.Native.Nat.{ℕ}
use mathlib.Core.List.{List, [], ◌∷◌, ◌++◌}
use lib.ListN.{get_or, replicate}
use Rattle.rules.specs.Words.{Machine, Call}
use Rattle.table.specs.Table.{tabulate, same_cell}
use Rattle.table.specs.Fresh.{fresh_records, fresh_machine, fresh}
use Rattle.rules.specs.Perform.{seen, perform}
use Rattle.rules.specs.Step.{drop_first, settle, access_at, move_at, step}
use Rattle.rules.specs.Claim.{both, given, all_below}
use Rattle.rules.specs.Shape.{shape, in_shape}
use Rattle.rules.specs.Start.{start}
use Rattle.rules.specs.Refuse.{linked_at, rules_of}
use Rattle.rules.specs.Next.{refused, started, next, llx, scx, stepping}
use Rattle.orders.specs.Demand.{before}
use Rattle.forged.specs.Patched.{step_by, next_by}
use Rattle.forged.proofs.Tests.{same_list, same_link}
use Rattle.forged.proofs.Through.{scan}

-- whoever opens this opens the machine, the patched machine and the run
unfoldable pub computed : Unit {0}
unfolding tabulate same_cell fresh_records fresh_machine fresh seen perform drop_first settle access_at move_at step both given all_below shape in_shape
    start linked_at rules_of refused started next step_by next_by before scan same_list same_link
computed = tt

-- tasks A and B, records 0 and 1, all values 5
abbrev pub A : ℕ
A = 0

abbrev pub B : ℕ
B = 1

unfoldable pub table : Machine
table = (fresh 2 2 (replicate 8 5)).m

-- there is no task 9
abbrev pub script : List Call → ℕ → Call
script l k = get_or l k (stepping 9)

abbrev pub goes : ℕ → ℕ → List Call
goes t k = replicate k (stepping t)

abbrev pub reads : ℕ → ℕ → List Call
reads t r = llx t r ∷ goes t 9

-- t starts an SCX of r alone that writes in field 0; the same, closing r
abbrev pub just : ℕ → List ℕ
just r = r ∷ 0 ∷ 0 ∷ 0 ∷ []

abbrev pub writes : ℕ → ℕ → ℕ → Call
writes t r new = scx t 1 (just r) 0 0 0 new

abbrev pub closes : ℕ → ℕ → Call
closes t r = scx t 1 (just r) 1 0 0 7

-- document 01's run 5: A holds 0 of <0, 1> and stops; B's LLX of 0 helps; B changes 1; A goes on
unfoldable pub run_5 : ℕ → Call
run_5 =
    script
    (reads A 0
    ++ reads A 1
    ++ (scx A 2 (0 ∷ 1 ∷ 0 ∷ 0 ∷ []) 0 0 0 7 ∷ goes A 1)
    ++ (llx B 0 ∷ goes B 14)
    ++ reads B 1
    ++ (writes B 1 7 ∷ goes B 4)
    ++ goes A 4)
