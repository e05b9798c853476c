-- `shape::links_of_fine`: the closure computes the claim's test of each number.
use Rattle.std.proofs.Common.{rules, refl}
use Rattle.lists.proofs.Laws.{all_numbers, chain}
use Rattle.shape.proofs.links_of_fine.Goals as goal

pub returns : goal.returns
returns c = all_numbers (λ x b q l k. search (rules, chain)) c.all.ensures.ran refl
