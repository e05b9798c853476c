-- `runner::run` meets its contract.
use mathlib.Core.Path.{sym, ap, ◌∙◌}
use Rattle.lines.proofs.Glue.{refusal_most}
use Rattle.runner.specs.Run.{room_as}
use Rattle.runner.proofs.Room.{too_short, printed}
use Rattle.runner.proofs.run.Goals as goal

pub returns-then-out-room : goal.returns-then-out-room
returns-then-out-room c = too_short _ _ _ c.layout_of-read.ensures _ c.room_of-room.ensures c.if-out-room.true

pub returns-in-Ok : goal.returns-in-Ok
returns-in-Ok c = printed _ _ _ (sym c.in-Ok.is ∙ c.layout_of-read.ensures) _ (c.room_of-room.ensures ∙ ap room_as c.in-Ok.is) _ _ c.if-out-room.false c.put_run.ensures

pub returns-in-Err : goal.returns-in-Err
returns-in-Err c = printed _ _ _ (sym c.in-Err.is ∙ c.layout_of-read.ensures) _ (c.room_of-room.ensures ∙ ap room_as c.in-Err.is) _ _ c.if-out-room.false (c.put_refusal.ensures, refusal_most _)
