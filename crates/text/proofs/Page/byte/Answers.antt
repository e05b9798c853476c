-- `text::Page::byte` meets its contract.
use mathlib.Core.Path.{refl}
use Rattle.text.proofs.Laws.{one_in, one_out}
use Rattle.text.proofs.Page.byte.Goals as goal

pub returns-then-self : goal.returns-then-self
returns-then-self c = record { same = refl; put = one_in _ _ _ c.if-self.true }

pub returns-else-self : goal.returns-else-self
returns-else-self c = record { same = refl; put = one_out _ _ _ c.if-self.false }
