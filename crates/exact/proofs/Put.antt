-- What a call leaves of what it had in hand, put in place: a call that passed its refusals. What a call did not touch is stored back as it
-- was, and so is the table.
use Prim.Native.Nat.{ℕ}
use mathlib.Core.Path.{◌≡◌}
use mathlib.Core.List.{List}
use lib.ListN.{set}
use lib.Seq.{set-get_or}
use Rattle.rules.specs.Words.{Machine, Access, Ask, Out}
use Rattle.table.specs.Table.{no_record, no_change, no_task, no_link, record_at, change_at, task_at, slot, link_at}
use Rattle.hand.specs.Hand.{passed_of, hand_at, put_turn}

-- a call of task t that has change c, access a and record x in hand
abbrev pub put_passed : Machine → ℕ → ℕ → Access → ℕ → Ask → List ℕ → Out
put_passed m t c a x ask l = put_turn m t c x (passed_of (hand_at m t l c a x) ask l)

pub same_records : (m : Machine) (x : ℕ) → set m.records x (record_at m x) ≡ m.records
same_records m x = set-get_or m.records x no_record

pub same_changes : (m : Machine) (c : ℕ) → set m.changes c (change_at m c) ≡ m.changes
same_changes m c = set-get_or m.changes c no_change

pub same_tasks : (m : Machine) (t : ℕ) → set m.tasks t (task_at m t) ≡ m.tasks
same_tasks m t = set-get_or m.tasks t no_task

pub same_links : (m : Machine) (t x : ℕ) → set m.links (slot t x) (link_at m t x) ≡ m.links
same_links m t x = set-get_or m.links (slot t x) no_link
