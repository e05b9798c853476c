-- `text::Page::lead` meets its contract.
use borrow.Author.Tests.{eq-eqb, ne_eqb}
use Rattle.text.specs.Text.{lead}
use Rattle.text.proofs.Laws.{still}
use Rattle.text.proofs.Page.lead.Goals as goal

pub returns-then-x-ne0 : goal.returns-then-x-ne0
unfolding lead
returns-then-x-ne0 c = simp (ne_eqb _ _ c.if-x-ne0.true) c.last.ensures

pub returns-else-x-ne0 : goal.returns-else-x-ne0
unfolding lead
returns-else-x-ne0 c = simp (eq-eqb _ _ c.if-x-ne0.false) still
