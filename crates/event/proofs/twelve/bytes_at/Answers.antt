-- `event::twelve::bytes_at`: the part from the event's place on.
use Rattle.std.proofs.Common.{◌*◌}
use Rattle.event.proofs.Bytes.{there}
use Rattle.event.proofs.twelve.bytes_at.Goals as goal

pub returns : goal.returns
returns c =
    let h = c.in_ok-get.ensures.lookup.0 in
    there c.args.events.now c.in_ok-get.field-0.now (12 * c.args.i) h.1 h.2 h.3 _ c.first_chunk.ensures.cases
