-- `runner::put_records`: what its loop keeps.
use Prim.Native.Nat.{◌*◌, ◌≤◌}
use lib.ListN.{length}
use Rattle.text.specs.Text.{joined}
use Rattle.text.proofs.Laws.{Writes}
use Rattle.runner.specs.Run.{record_line_at}
use Rattle.runner.proofs.put_records.Given as goal

abbrev pub invariant-loop-r : goal.invariant-loop-r
invariant-loop-r l = Writes (record_line_at l.m) l.r l.initial.page l.page × (length (joined (record_line_at l.m) l.r) ≤ 38 * l.r)
