-- `event::events_fine`: the closure computes the test of each event.
use Rattle.std.proofs.Common.{rules, refl}
use borrow.Author.Tests.{tests}
use Rattle.lists.proofs.Laws.{all_numbers}
use Rattle.event.specs.Event.{events_fine}
use Rattle.event.proofs.events_fine.Goals as goal

pub returns : goal.returns
unfolding events_fine
returns c = all_numbers (λ x b q l k. search (rules, tests)) c.all.ensures.ran refl
