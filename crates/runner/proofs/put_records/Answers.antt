-- `runner::put_records` meets its contract.
use Rattle.text.proofs.Laws.{none_written, one_written}
use Rattle.text.proofs.Most.{most_none, most_again}
use Rattle.runner.specs.Run.{record_line_at}
use Rattle.runner.proofs.put_records.Goals as goal

pub loop-r-init : goal.loop-r-init
loop-r-init c = (none_written, most_none (record_line_at c.args.m) 38)

pub loop-r-preserved : goal.loop-r-preserved
loop-r-preserved c = (
  one_written c.loop-r.invariant.0 c.put_record.ensures.0,
  most_again (record_line_at c.args.m) 38 _ c.loop-r.invariant.1
      c.put_record.ensures.1,
)
