-- `event::twelve::copied`: each byte by its place.
use Rattle.std.proofs.Common.{rules, ◌∙◌, ◌+◌, ◌*◌}
use Rattle.table.proofs.Tabulate.{from_fn_tabulates}
use Rattle.event.specs.Event.{byte}
use Rattle.event.proofs.Bytes.{by_one}
use Rattle.event.proofs.twelve.copied.Goals as goal

pub returns : goal.returns
returns c =
    from_fn_tabulates _ _ (λ k. byte c.args.events.now (12 * c.args.i + k)) 12 (λ k x q l e. search rules) _ c.from_fn.ensures.items 0
    ∙ by_one c.args.events.now (12 * c.args.i)
