-- `lines::put_answer` meets its contract.
use native.Mathlib.Omega.{arith}
use borrow.Author.Rules.{rules}
use mathlib.Core.Path.{refl, ◌∙◌}
use Rattle.lines.proofs.Glue.{four_values, no_values, lined}
use Rattle.lines.proofs.put_answer.Goals as goal

pub returns-in-Snapshot : goal.returns-in-Snapshot
returns-in-Snapshot c =
    lined _ _ _ c.from-t.ensures (c.from-no.ensures ∙ c.number_of.ensures) c.in-Snapshot.is
    (four_values _ _ (search rules) c.map.ensures.items (λ p q x v h. search rules)) (omega arith) c.row.ensures

pub returns-in-Value : goal.returns-in-Value
returns-in-Value c =
    lined _ _ _ c.from-t.ensures (c.from-no.ensures ∙ c.number_of.ensures) c.in-Value.is refl (omega arith) c.row-in-Value.ensures

pub returns-in_default : goal.returns-in_default
returns-in_default c =
    lined _ _ _ c.from-t.ensures (c.from-no.ensures ∙ c.number_of.ensures) refl
    (no_values _ c.in_default.not-Snapshot c.in_default.not-Value) (omega arith) c.row-in_default.ensures
