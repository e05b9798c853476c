-- `play::play` meets its contract.
use Rattle.std.proofs.Common.{arith, refl, ◌∙◌}
use Rattle.play.proofs.Glue.{begins, goes_on}
use Rattle.play.proofs.play.Goals as goal

pub loop-i-init : goal.loop-i-init
loop-i-init c = (refl, begins _ _ _ _ c.none-tally.ensures)

pub loop-i-preserved : goal.loop-i-preserved
loop-i-preserved c = (
  c.put_answer.ensures.0.same ∙ c.loop-i.invariant.0,
  goes_on _ _ _ _ _ _ _ _ _ _ _ _ _ _ _ c.loop-i.invariant.1 (omega arith) c.event-e.ensures c.turn_on-answer.ensures
      c.operation_of-operation.ensures c.count.ensures (c.put_answer.ensures.0.put, c.put_answer.ensures.1),
)
