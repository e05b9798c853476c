-- `writer::put::put_bytes`: the part is the bytes now.
use Rattle.std.proofs.Common.{◌≡◌, ◌+◌, ◌-◌, length, arith}
use Rattle.writer.proofs.Stored.{part_is}
use Rattle.writer.proofs.put.put_bytes.Goals as goal

pub returns : goal.returns
returns c =
    let a = c.args in
    let e : a.at + length a.bytes.now - a.at ≡ length a.bytes.now = omega arith in
    rw (e, c.copy_from_slice.ensures.after) (part_is a.out.now a.bytes.now a.at c.requires)
