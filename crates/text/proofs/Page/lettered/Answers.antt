-- `text::Page::lettered` meets its contract.
use Rattle.text.proofs.Laws.{◌then◌}
use Rattle.text.proofs.Page.lettered.Goals as goal

pub returns : goal.returns
returns c = c.byte.ensures then c.byte-2.ensures then c.row.ensures
