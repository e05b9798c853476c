-- `runner::table_of` meets its contract.
use native.Mathlib.Omega.{arith}
use Rattle.sheet.proofs.Laws.{read_inside}
use Rattle.runner.proofs.Glue.{less_first, taken, table_is}
use Rattle.runner.proofs.table_of.Goals as goal

pub slice_bounds-fresh-end : goal.slice_bounds-fresh-end
slice_bounds-fresh-end c =
    let i = read_inside c.requires in
    taken _ _ _ c.values-values.ensures (omega (arith, i.records.1))

pub returns : goal.returns
returns c =
    table_is _ _ _ _ _ (less_first _ _) (read_inside c.requires).records.1 c.values-values.ensures c.fresh.ensures
