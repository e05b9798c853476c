-- One claim over the table of runs: the machine plays each row as document 01 states it. The prover computes it.
use mathlib.Core.Path.{◌≡◌, refl}
use mathlib.Core.List.{map}
use Rattle.table.specs.Table.{tabulate, same_cell}
use Rattle.table.specs.Fresh.{fresh_records, fresh_machine, fresh}
use Rattle.rules.specs.Perform.{seen, perform}
use Rattle.rules.specs.Step.{drop_first, settle, access_at, move_at, step}
use Rattle.rules.specs.Claim.{both, given, all_below}
use Rattle.rules.specs.Shape.{shape, in_shape}
use Rattle.rules.specs.Start.{start}
use Rattle.rules.specs.Refuse.{linked_at, rules_of}
use Rattle.rules.specs.Next.{refused, started, next, after, said}
use Rattle.rules.specs.Runs.{stated, played, runs}
use Rattle.rules.specs.MoreRuns.{more}

pub as_stated : map played runs ≡ map stated runs
unfolding tabulate same_cell fresh_records fresh_machine fresh seen perform drop_first settle access_at move_at step
    both given all_below shape in_shape start linked_at rules_of refused started next after said played runs
as_stated = refl

-- the same of the rows beyond those
pub more_as_stated : map played more ≡ map stated more
unfolding tabulate same_cell fresh_records fresh_machine fresh seen perform drop_first settle access_at move_at step
    both given all_below shape in_shape start linked_at rules_of refused started next after said played more
more_as_stated = refl
