-- `lists::in_list`: the closure computes the claim's test of each number.
use Rattle.std.proofs.Common.{rules, refl}
use borrow.Author.Tests.{tests}
use Rattle.lists.proofs.Laws.{all_numbers, chain}
use Rattle.lists.proofs.in_list.Goals as goal

pub returns : goal.returns
returns c = all_numbers (λ x b q l k. search (rules, tests, chain)) c.all.ensures.ran refl
