-- `event::twelve::is_fine`: the two kinds that have a list; the check finds the rest.
use Rattle.std.proofs.Common.{rules, ◌∙◌}
use Rattle.event.proofs.Unused.{scx_fine, vlx_fine}
use Rattle.event.proofs.twelve.is_fine.Goals as goal

pub returns-in-2 : goal.returns-in-2
returns-in-2 c = c.ends_at.ensures ∙ scx_fine c.args.e.now (search rules)

pub returns-in-3 : goal.returns-in-3
returns-in-3 c = c.ends_at-in-3.ensures ∙ vlx_fine c.args.e.now (search rules) (search rules) (search rules) (search rules) (search rules) (search rules)
