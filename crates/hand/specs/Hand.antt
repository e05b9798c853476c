-- A call on what it has in hand, and put in place in the table, every index clipped, so that none is out of range whatever the state. In
-- a state in shape no index is altered by that, and the call is `next` of the rules (the crate exact).
use Rattle.std.specs.Prelude.{ℕ, ◌%◌, List, [], ◌∷◌, map, get_or, set}
use Rattle.rules.specs.Words.{Place, Link, Machine, Ask, AskLlx, AskScx, AskVlx, AskRead, AskStep, Call, Refusal, Accepted, Refused, Out, Access, Check, Ok, Err}
use Rattle.table.specs.Table.{no_link, record_at, change_at, task_at, slot, link_at, remade}
use Rattle.rules.specs.Places.{change_of, access_of, is_idle}
use Rattle.rules.specs.Perform.{record_of}
use Rattle.rules.specs.Step.{drop_first}
use Rattle.rules.specs.Refuse.{check, rules}
use Rattle.refuse.specs.Linked.{linked_by}
use Rattle.begin.specs.declared.Begun.{Begun}
use Rattle.begin.specs.Begun.{next_number, begun_by}
use Rattle.act.specs.declared.Stored.{Stored}
use Rattle.act.specs.Act.{act_of}
use Rattle.hand.specs.declared.Hand.{Hand}
use Rattle.hand.specs.declared.Turned.{Turned}

-- the number of the change in hand: the next for a start, for a STEP the one that the place names
abbrev pub number_of : Ask → ℕ → Place → ℕ
number_of (AskLlx r) used q = next_number used
number_of (AskScx n r written field new) used q = next_number used
number_of (AskVlx n) used q = next_number used
number_of (AskRead r f) used q = next_number used
number_of AskStep used q = change_of q

-- refused: all as it was
abbrev pub kept_by : Hand → Refusal → Turned
kept_by h why =
    record {
      used = h.used;
      rec = h.rec;
      change = h.change;
      task = h.task;
      link = h.link;
      drop = 0;
      list = h.task.list;
      answer = Refused why;
    }

-- a start: no record and no link but those it drops
abbrev pub begun_of : Hand → Begun → Turned
begun_of h b =
    record {
      used = b.used;
      rec = h.rec;
      change = b.change;
      task = b.task;
      link = h.link;
      drop = b.drop;
      list = b.list;
      answer = Accepted;
    }

-- a step: no number is taken
abbrev pub stepped_of : Hand → Stored → Turned
stepped_of h d =
    record {
      used = h.used;
      rec = d.rec;
      change = d.change;
      task = d.task;
      link = d.link;
      drop = d.drop;
      list = h.task.list;
      answer = d.answer;
    }

abbrev pub passed_of : Hand → Ask → List ℕ → Turned
passed_of h (AskLlx r) l = begun_of h (begun_by (AskLlx r) l h.used h.task h.change h.near)
passed_of h (AskScx n r written field new) l =
    begun_of h (begun_by (AskScx n r written field new) l h.used h.task h.change h.near)
passed_of h (AskVlx n) l = begun_of h (begun_by (AskVlx n) l h.used h.task h.change h.near)
passed_of h (AskRead r f) l = begun_of h (begun_by (AskRead r f) l h.used h.task h.change h.near)
passed_of h AskStep l = stepped_of h (act_of h.task h.access h.change h.rec h.link)

abbrev pub checked_of : Check → Hand → Call → Turned
checked_of (Ok _) h e = passed_of h e.ask e.list
checked_of (Err why) h e = kept_by h why

unfoldable pub turn_of : Hand → Call → Turned
turn_of h e =
    checked_of
    (check (rules h.p h.n h.used (is_idle h.task.place) (linked_by e.ask h.near) e.task e.ask e.list))
    h
    e

-- a list with each record number below 32
abbrev pub clip : List ℕ → List ℕ
clip l = map (λ r. r % 32) l

-- the links of task t to the four records of a list
abbrev pub links_of : List Link → ℕ → List ℕ → List Link
links_of ls t l =
    get_or ls (slot t (get_or l 0 0 % 32)) no_link
    ∷ get_or ls (slot t (get_or l 1 0 % 32)) no_link
    ∷ get_or ls (slot t (get_or l 2 0 % 32)) no_link
    ∷ get_or ls (slot t (get_or l 3 0 % 32)) no_link
    ∷ []

-- what a call of task t has in hand: change c, access a, record r, and its links to the records of its list
abbrev pub hand_by : Machine → ℕ → ℕ → Access → ℕ → List Link → Hand
hand_by m t c a r near =
    record {
      p = m.p;
      n = m.n;
      used = m.used;
      task = task_at m t;
      access = a;
      change = change_at m c;
      rec = record_at m r;
      link = link_at m t r;
      near = near;
    }

abbrev pub hand_at : Machine → ℕ → List ℕ → ℕ → Access → ℕ → Hand
hand_at m t l c a r = hand_by m t c a r (links_of m.links t l)

-- what it leaves, put in place
unfoldable pub put_turn : Machine → ℕ → ℕ → ℕ → Turned → Out
put_turn m t c r d =
    record {
      m = let links = drop_first (set m.links (slot t r) d.link) t (clip d.list) d.drop in
          remade m d.used (set m.records r d.rec) (set m.changes c d.change) (set m.tasks t d.task) links;
      answer = d.answer;
    }

-- THE CALL
unfoldable pub turn_in : Machine → Call → Out
turn_in m e =
    let t = e.task % 8 in
    let x = task_at m t in
    let c = number_of e.ask m.used x.place in
    let a = access_of x.place (change_at m c) x.list in
    let r = record_of a % 32 in
    put_turn m t c r (turn_of (hand_at m t e.list c a r) e)
