-- `turns::drop_links`: what its loop keeps.
use Rattle.hand.specs.Hand.{clip}
use Rattle.rules.specs.Step.{drop_first}
use Rattle.std.proofs.Common.{◌≡◌, ◌%◌}
use Rattle.turns.proofs.drop_links.Given as goal

abbrev pub invariant-loop-j : goal.invariant-loop-j
invariant-loop-j l = l.links ≡ drop_first l.initial.links (l.t % 8) (clip l.list) l.j
