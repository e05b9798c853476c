-- `run::read_full`: what has come lies in the buffer; each turn but the last fills some of what is left.
use Rattle.std.proofs.Common.{length, ◌-◌, ◌≤◌}
use Rattle.run.proofs.read_full.Given as goal

abbrev pub invariant-loop-done : goal.invariant-loop-done
invariant-loop-done g l = l.done ≤ length l.buf

abbrev pub decreases-loop-done : goal.decreases-loop-done
decreases-loop-done g l = length l.initial.buf - l.done
