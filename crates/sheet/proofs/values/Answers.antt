-- `sheet::values`: each value from its two bytes.
use Rattle.std.proofs.Common.{rules}
use Rattle.table.proofs.Tabulate.{from_fn_tabulates}
use Rattle.sheet.specs.Layout.{numbers, values_in}
use Rattle.sheet.proofs.values.Goals as goal

pub returns : goal.returns
unfolding values_in numbers
returns c = from_fn_tabulates _ _ _ 128 (λ k x q l e. search rules) _ c.from_fn.ensures.items 0
