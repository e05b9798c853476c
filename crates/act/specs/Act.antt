-- A step on small values: what it leaves of the record, the change, the task and the link that it has in hand. `step` of the rules
-- says the same on the table; the crate exact has the two agree.
use Rattle.rules.specs.Words.{Record, Change, Task, Link, Access}
use Rattle.rules.specs.Perform.{seen_by, record_by, change_by}
use Rattle.rules.specs.Places.{resume}
use Rattle.rules.specs.Step.{task_by, link_by, drop_of, answer_of}
use Rattle.act.specs.declared.Stored.{Stored}

unfoldable pub act_of : Task → Access → Change → Record → Link → Stored
act_of x a ch rec link =
    let s = seen_by a rec ch in
    let v = resume x.place s ch link.info in
    record {
      rec = record_by a rec;
      change = change_by a ch;
      task = task_by x s v;
      link = link_by link x s v;
      drop = drop_of v;
      answer = answer_of x.cells v;
    }
