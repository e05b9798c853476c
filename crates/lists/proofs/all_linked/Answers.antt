-- `lists::all_linked`: the closure computes the claim's test of each number.
use Rattle.std.proofs.Common.{rules, refl}
use borrow.Author.Tests.{tests}
use Rattle.lists.proofs.Laws.{all_numbers}
use Rattle.lists.proofs.all_linked.Goals as goal

pub returns : goal.returns
returns c = all_numbers (λ x b q l k. search (rules, tests)) c.all.ensures.ran refl
