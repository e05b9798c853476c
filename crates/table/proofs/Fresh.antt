-- The records of a fresh table of none, and what the test of the counts says.
use Prim.Native.Nat.{ℕ, ◌*◌, ◌<◌, ◌≤◌}
use mathlib.Core.Path.{◌≡◌, refl}
use mathlib.Core.Bool.{Bool, true, false, false≢true}
use mathlib.Core.List.{List}
use lib.ListN.{replicate}
use lib.Dec.{ltb, leb, eqb}
use borrow.Author.Tests.{ltb-true, leb-true, eqb-true}
use Rattle.table.specs.Table.{pick, tabulate, max_tasks, max_records}
use Rattle.table.specs.Fresh.{empty_record, fresh_records, within, in_range}

pub fresh_none : (values : List ℕ) → replicate 32 empty_record ≡ fresh_records 0 values
unfolding fresh_records tabulate
fresh_none values = refl

-- both of two tests
pub and_is : (a b : Bool) → pick a b false ≡ true → (a ≡ true) × (b ≡ true)
and_is true b e = (refl, e)
and_is false b e = absurd (false≢true e)

pub record Sized (p n given : ℕ) : Type 0 where
  pub some_task : 0 < p
  pub tasks : p ≤ 8
  pub some_record : 0 < n
  pub records : n ≤ 32
  pub values : given ≡ 4 * n

pub sized : (p n given : ℕ) → in_range p n given ≡ true → Sized p n given
sized p n given e =
    let tasks = and_is (within max_tasks p) (pick (within max_records n) (eqb given (4 * n)) false) e in
    let records = and_is (within max_records n) (eqb given (4 * n)) tasks.1 in
    let p-within = and_is (ltb 0 p) (leb p 8) tasks.0 in
    let n_within = and_is (ltb 0 n) (leb n 32) records.0 in
    record {
      some_task = ltb-true 0 p p-within.0;
      tasks = leb-true p 8 p-within.1;
      some_record = ltb-true 0 n n_within.0;
      records = leb-true n 32 n_within.1;
      values = eqb-true given (4 * n) records.1;
    }
