-- `lists::is_new`: the closure computes the claim's test of each number.
use Rattle.std.proofs.Common.{rules, refl}
use borrow.Author.Tests.{tests}
use Rattle.lists.proofs.Laws.{all_numbers}
use Rattle.lists.proofs.is_new.Goals as goal

pub returns : goal.returns
returns c = all_numbers (λ x b q l k. search (rules, tests)) c.all.ensures.ran refl
