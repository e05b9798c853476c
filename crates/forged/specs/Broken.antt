-- BROKEN MACHINES: mistakes and shams of document 01, and others that leave one thing out. Which of demand 3 and the own-step bounds each
-- fails, and in which field, stands in proofs/; refuses_all meets demand 3 (proofs/Beyond.antt).
use Rattle.std.specs.Prelude.{ℕ, zero, suc, ◌+◌, Bool, true, false, [], eqb, ltb, get_or, set}
use Rattle.rules.specs.Words.{State, InProgress, Committed, Aborted, Cell, Place, L1, H4, H5, H6, H7, H8, Seen, Move, On}
use Rattle.rules.specs.Words.{Access, Nothing, Hold, Write, Commit, Machine, Out, Call, Yes, OutOfShape, Snapshot, Idle}
use Rattle.rules.specs.Words.{Ask, AskLlx, AskScx, AskVlx, AskRead, AskStep}
use Rattle.rules.specs.Start.{at_place}
use Rattle.table.specs.Table.{pick, cell_at, record_at, change_at, task_at, link_at, remade}
use Rattle.rules.specs.Places.{change_of, access_of}
use Rattle.rules.specs.Perform.{record_of, saw_bit, saw_number}
use Rattle.rules.specs.Resume.{verdict, first_from}
use Rattle.rules.specs.Step.{place_of, access_at, step}
use Rattle.rules.specs.Refuse.{idle_at}
use Rattle.rules.specs.Next.{refused, started, next}
use Rattle.forged.specs.Patched.{as_it_is, step_by, next_by}
use Rattle.forged.specs.Places.{isL, isH, after_of, is_scx}

-- a machine with one patch
abbrev pub doing : (Machine → Place → Access → Access) → Machine → Call → Out
doing f = next_by (step_by (record { access = f; sees = as_it_is; move = as_it_is }))

abbrev pub seeing : (Machine → Place → Seen → Seen) → Machine → Call → Out
seeing f = next_by (step_by (record { access = as_it_is; sees = f; move = as_it_is }))

abbrev pub leading : (Machine → Place → Move → Move) → Machine → Call → Out
leading f = next_by (step_by (record { access = as_it_is; sees = as_it_is; move = f }))

-- THE MISTAKES of document 01
-- "Comparing only values at H7": where the values agree the cell passes for the old one
abbrev pub by_value : Cell → Cell → Cell
by_value now old = pick (eqb now.value old.value) now old

unfoldable pub values_only : Machine → Call → Out
values_only =
    doing
    (λ m q a.
    let u = change_of q in
    let ch = change_at m u in
    let now = cell_at (record_at m (record_of a)).cells ch.field in
    pick (isH 7 q) (Write (record_of a) ch.field (by_value now ch.old) (record { value = ch.new; stamp = u })) a)

-- "Answering no at H3 without looking at allFrozen"
unfoldable pub no_without_frozen : Machine → Call → Out
no_without_frozen = seeing (λ m q s. pick (isH 3 q) (saw_bit false) s)

-- "Setting the mark after H7": H5, H7, H6 .., H8
unfoldable pub marks_late : Machine → Call → Out
marks_late =
    leading
    (λ m q v.
    let u = change_of q in
    let first = first_from (change_at m u).r 0 in
    let last = On (H8 u (after_of q)) in
    pick (isH 5 q) (On (H7 u (after_of q)))
    (pick (isH 7 q) (pick (ltb first 4) (On (H6 u first (after_of q))) last) (pick (isH 7 (place_of v)) last v)))

-- THE SHAMS of document 01
unfoldable pub refuses_all : Machine → Call → Out
refuses_all m e = refused m OutOfShape

-- yes to every call, the table as it came
unfoldable pub yes_to_all : Machine → Call → Out
yes_to_all m e = record { m = m; answer = Yes }

-- where all is held, not H5 but H4
unfoldable pub always_aborts : Machine → Call → Out
always_aborts = leading (λ m q v. pick (isH 5 (place_of v)) (On (H4 (change_of q) (after_of q))) v)

-- H4 brings a yes
unfoldable pub always_yes : Machine → Call → Out
always_yes = leading (λ m q v. pick (isH 4 q) (verdict true (after_of q)) v)

-- H7 writes nothing
unfoldable pub untouching : Machine → Call → Out
untouching = doing (λ m q a. pick (isH 7 q) Nothing a)

-- a whole SCX on its first step
abbrev pub finish : ℕ → ℕ → Out → Out
finish zero t o = o
finish (suc n) t o = pick (idle_at o.m t) o (finish n t (step o.m t))

unfoldable pub at_once : Machine → Call → Out
at_once = next_by (λ m t. pick (isH 1 (task_at m t).place) (finish 15 t (step m t)) (step m t))

-- OTHERS, each without one thing
-- no comparison at L6: whatever stands there passes for a
unfoldable pub uncompared : Machine → Call → Out
uncompared = seeing (λ m q s. pick (isL 6 q) (saw_number (change_of q)) s)

-- L4 takes the record for unmarked
unfoldable pub mark_unread : Machine → Call → Out
mark_unread = seeing (λ m q s. pick (isL 4 q) (saw_bit false) s)

-- H1 takes hold whatever the info is
unfoldable pub hold_anyway : Machine → Call → Out
hold_anyway = doing (λ m q a. pick (isH 1 q) (Hold (record_of a) (record_at m (record_of a)).info (change_of q)) a)

-- H1 takes hold of the first place alone
unfoldable pub hold_first : Machine → Call → Out
hold_first = leading (λ m q v. pick (isH 1 (place_of v)) (pick (isH 1 q) (On (H5 (change_of q) (after_of q))) v) v)

-- committed before the write: H7 commits, then writes
abbrev pub is_open : State → Bool
is_open InProgress = true
is_open Committed = false
is_open Aborted = false

abbrev pub first_time : Machine → Place → Bool
first_time m q = pick (isH 7 q) (is_open (change_at m (change_of q)).state) false

unfoldable pub commit_first : Machine → Call → Out
commit_first =
    next_by
    (step_by
    (record {
      access = λ m q a. pick (first_time m q) (Commit (change_of q)) a;
      sees = as_it_is;
      move = λ m q v. pick (first_time m q) (On q) v;
    }))

-- H7 writes one more than the new value
unfoldable pub one_more : Machine → Call → Out
one_more =
    doing
    (λ m q a.
    let u = change_of q in
    let ch = change_at m u in
    pick (isH 7 q) (Write (record_of a) ch.field ch.old (record { value = ch.new + 1; stamp = u })) a)

-- number 1 is given a second time
abbrev pub unused : Machine → Machine
unused m = remade m 0 m.records m.changes m.tasks m.links

unfoldable pub twice_given : Machine → Call → Out
twice_given m e = pick (pick (is_scx e.ask) (eqb m.used 1) false) (started (unused m) e.task e.ask e.list) (next m e)

-- an LLX of a record that the task has a link to: the link stays, and the last cell read answers a snapshot that stores none
abbrev pub relink : Machine → Machine → Machine
relink m x = record { p = x.p; n = x.n; used = x.used; records = x.records; changes = x.changes; tasks = x.tasks; links = m.links }

abbrev pub step_cached : Machine → ℕ → Out
step_cached m t =
    let o = step m t in
    pick (pick (isL 6 (task_at o.m t).place) (link_at m t (record_of (access_at m t))).there false)
    (record { m = at_place o.m t Idle (task_at o.m t).list; answer = Snapshot (task_at o.m t).cells }) o

abbrev pub keep_link : Ask → Machine → ℕ → Out → Out
keep_link (AskLlx r) m t o = pick (link_at m t r).there (record { m = relink m o.m; answer = o.answer }) o
keep_link (AskScx n r written field new) m t o = o
keep_link (AskVlx n) m t o = o
keep_link (AskRead r f) m t o = o
keep_link AskStep m t o = o

unfoldable pub cached : Machine → Call → Out
cached m e = keep_link e.ask m e.task (next_by step_cached m e)

-- an LLX that finds the info altered at L6 begins again
unfoldable pub begins_again : Machine → Call → Out
begins_again = leading (λ m q v. pick (isL 6 q) (pick (isL 7 (place_of v)) (On (L1 (record_of (access_of q (change_at m 0) [])))) v) v)

-- H8 sets nothing: a change that took effect stays InProgress
unfoldable pub never_commits : Machine → Call → Out
never_commits = doing (λ m q a. pick (isH 8 q) Nothing a)

-- H8 lets go of the first record: its info is 0 again
abbrev pub freed : Machine → ℕ → Machine
freed m r =
    let records = set m.records r (record { cells = (record_at m r).cells; mark = (record_at m r).mark; info = 0 }) in
    remade m m.used records m.changes m.tasks m.links

unfoldable pub lets_go : Machine → Call → Out
lets_go =
    next_by
    (λ m t.
    let q = (task_at m t).place in
    let o = step m t in
    pick (isH 8 q) (record { m = freed o.m (get_or (change_at m (change_of q)).v 0 0); answer = o.answer }) o)
