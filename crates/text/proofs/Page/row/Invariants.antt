-- `text::Page::row`: what its loop keeps.
use Rattle.text.specs.Text.{word_at}
use Rattle.text.proofs.Laws.{Writes}
use Rattle.text.proofs.Page.row.Given as goal

abbrev pub invariant-loop-i : goal.invariant-loop-i
invariant-loop-i l = Writes (word_at l.xs) l.i l.initial.page l.page
