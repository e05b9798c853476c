-- `writer::put::put_values`: what its loop keeps.
use mathlib.Core.Path.{◌≡◌}
use lib.ListN.{take}
use lib.Seq.{sets}
use Rattle.writer.specs.Write.{value_bytes}
use Rattle.writer.proofs.put.put_values.Given as goal

abbrev pub invariant-loop-i : goal.invariant-loop-i
invariant-loop-i l = l.out ≡ sets l.initial.out 0 (value_bytes (take l.i l.values))
