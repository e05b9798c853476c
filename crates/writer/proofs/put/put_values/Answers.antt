-- `writer::put::put_values`: the loop has written the first i values.
use Rattle.std.proofs.Common.{refl, arith}
use Rattle.writer.specs.Write.{value_bytes}
use Rattle.writer.proofs.Stored.{value_more}
use Rattle.writer.proofs.put.put_values.Goals as goal

pub loop-i-init : goal.loop-i-init
unfolding value_bytes
loop-i-init c = refl

pub loop-i-preserved : goal.loop-i-preserved
loop-i-preserved c =
    rw (c.put_bytes.ensures, c.to_le_bytes.ensures, c.loop-i.invariant) (value_more c.args.out.now c.loop-i.i c.args.values.now (omega arith))
