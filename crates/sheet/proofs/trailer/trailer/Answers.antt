-- `sheet::trailer::trailer`: the last eight bytes are their own first eight.
use Rattle.std.proofs.Common.{◌≡◌, ◌∙◌, sym, ◌-◌, length, take, drop, arith}
use Rattle.std.proofs.Math.Seq.{take-length}
use Rattle.event.proofs.Bytes.{first_bytes}
use Rattle.sheet.proofs.trailer.trailer.Goals as goal

pub returns : goal.returns
returns c =
    let t = drop (length c.args.s.now - 8) c.args.s.now in
    let h = (rw c.unwrap.ensures at c.last_chunk.ensures.cases).1 in
    let whole : take 8 t ≡ t = rw h.long at (take-length t) in
    h.same ∙ sym whole ∙ first_bytes 8 t (omega (arith, h.long))
