-- `lines::put_record` meets its contract.
use borrow.Author.Rules.{rules}
use Rattle.lines.proofs.Glue.{four_values, recorded}
use Rattle.lines.proofs.put_record.Goals as goal

pub returns : goal.returns
returns c =
    recorded _ _ (search rules) c.from.ensures c.from-2.ensures
    (four_values _ _ (search rules) c.map.ensures.items (λ p q x v h. search rules)) c.lettered.ensures
