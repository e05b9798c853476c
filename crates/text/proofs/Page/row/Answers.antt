-- `text::Page::row` meets its contract.
use Rattle.text.proofs.Laws.{◌then◌, none_written, one_written}
use Rattle.text.proofs.Page.row.Goals as goal

pub loop-i-init : goal.loop-i-init
loop-i-init c = none_written

pub loop-i-preserved : goal.loop-i-preserved
loop-i-preserved c = one_written c.loop-i.invariant (c.number.ensures then rw c.ended.ensures at c.byte.ensures)
