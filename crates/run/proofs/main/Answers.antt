-- `run::main` meets its contract: its buffer has room for every sheet, and what it writes lies in it.
use Rattle.std.proofs.Common.{arith, sym, ap, ◌∙◌}
use lib.Seq.{length-take-le}
use Rattle.std.specs.Prelude.{is_ok}
use Rattle.runner.proofs.Room.{in_buffer, enough}
use Rattle.run.proofs.main.Goals as goal

pub unwrap-length-requires : goal.unwrap-length-requires
unwrap-length-requires c = ap is_ok (c.run.ensures.0 ∙ enough _ _ (omega arith))

pub slice_bounds-text-end : goal.slice_bounds-text-end
slice_bounds-text-end c = rw c.run.ensures.1 (in_buffer _ _ _ (sym c.run.ensures.0 ∙ c.unwrap-length.ensures))

pub slice_bounds-write_all-end : goal.slice_bounds-write_all-end
slice_bounds-write_all-end c = sym (length-take-le _ _ (rw c.run.ensures.1 (in_buffer _ _ _ (sym c.run.ensures.0 ∙ c.unwrap-length.ensures))))
