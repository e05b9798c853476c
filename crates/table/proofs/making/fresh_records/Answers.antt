-- `table::making::fresh_records` meets its contract.
use Rattle.std.proofs.Common.{rules}
use Rattle.table.specs.Fresh.{fresh_records, empty_record}
use Rattle.table.proofs.Tabulate.{from_fn_tabulates}
use Rattle.table.proofs.making.fresh_records.Goals as goal

pub returns : goal.returns
unfolding fresh_records
returns c = from_fn_tabulates _ _ _ 32 (λ k x q l e. search rules) _ c.from_fn.ensures.items empty_record
