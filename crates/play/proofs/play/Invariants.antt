-- `play::play`: what its loop keeps.
use Rattle.std.proofs.Common.{◌≡◌}
use Rattle.play.proofs.Glue.{Along}
use Rattle.play.proofs.play.Given as goal

abbrev pub invariant-loop-i : goal.invariant-loop-i
invariant-loop-i l =
    (l.page.out.ghost_name ≡ l.initial.page.out.ghost_name)
    × Along l.initial.m l.events l.initial.page.out.now l.i l.page.out.now l.m l.tally l.page.at
