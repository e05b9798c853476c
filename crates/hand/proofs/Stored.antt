-- What a call leaves, stored in place: laws over plain variables, for whoever holds the machine, so that no proof looks into it.
use Prim.Native.Nat.{ℕ, ◌+◌, ◌%◌}
use native.Mathlib.Numerals.{add-one}
use mathlib.Core.Path.{◌≡◌, refl, ap}
use mathlib.Core.List.{List}
use lib.ListN.{get_or, set, get_or-map}
use Rattle.rules.specs.Words.{Link, Machine, Access, Call, Out}
use Rattle.table.specs.Table.{no_link, change_at, task_at, slot, remade}
use Rattle.rules.specs.Places.{access_of}
use Rattle.rules.specs.Perform.{record_of}
use Rattle.rules.specs.Step.{dropped, drop_first}
use Rattle.hand.specs.declared.Turned.{Turned}
use Rattle.hand.specs.Hand.{clip, links_of, number_of, turn_of, hand_by, put_turn, turn_in}

-- THE LINKS THAT A CALL DROPS, one by one: none yet, one more
pub drop_none : (ls : List Link) (t : ℕ) (l : List ℕ) → ls ≡ drop_first ls t l 0
unfolding drop_first
drop_none ls t l = refl

pub drop_more : (ls left : List Link) (t : ℕ) (l : List ℕ) (j r : ℕ) → left ≡ drop_first ls t (clip l) j → r ≡ get_or l j 0
    → set left (slot t (r % 32)) (dropped (get_or left (slot t (r % 32)) no_link)) ≡ drop_first ls t (clip l) (j + 1)
unfolding drop_first
drop_more ls left t l j r e er = rw (er, e, add-one, get_or-map (λ r. r % 32) l j 0) refl

-- a machine with other links, and the machine that has lost j of its own
abbrev pub with_links : Machine → List Link → Machine
with_links m ls = remade m m.used m.records m.changes m.tasks ls

pub lost : Machine → ℕ → List ℕ → ℕ → Machine
lost m t l j = with_links m (drop_first m.links t (clip l) j)

-- all at once
pub lost_is : (m : Machine) (t : ℕ) (l : List ℕ) (j : ℕ) (left : List Link) → left ≡ drop_first m.links t (clip l) j
    → with_links m left ≡ lost m t l j
unfolding lost
lost_is m t l j left e = ap (with_links m) e

pub one_more_lost : (m now : Machine) (t : ℕ) (l : List ℕ) (j r : ℕ) → now ≡ lost m t l j → r ≡ get_or l j 0
    → let at = slot t (r % 32) in
    with_links now (set now.links at (dropped (get_or now.links at no_link))) ≡ lost m t l (j + 1)
unfolding lost
one_more_lost m now t l j r e er = rw e (lost_is m t l (j + 1) _ (drop_more m.links _ t l j r refl er))

-- THE TURN, stored in place
abbrev pub stored : Machine → ℕ → ℕ → ℕ → Turned → Machine
stored m t c r d =
    remade m d.used (set m.records r d.rec) (set m.changes c d.change) (set m.tasks t d.task)
    (set m.links (slot t r) d.link)

pub turned : (m : Machine) (e : Call) (c : ℕ) (a : Access) (r : ℕ) (near : List Link) (d : Turned) (after : Machine)
    → c ≡ number_of e.ask m.used (task_at m (e.task % 8)).place
    → a ≡ access_of (task_at m (e.task % 8)).place (change_at m c) (task_at m (e.task % 8)).list
    → r ≡ record_of a
    → near ≡ links_of m.links (e.task % 8) e.list
    → d ≡ turn_of (hand_by m (e.task % 8) c a (r % 32) near) e
    → after ≡ lost (stored m (e.task % 8) c (r % 32) d) (e.task % 8) d.list d.drop
    → ◌≡◌ {A = Out} (record { m = after; answer = d.answer }) (turn_in m e)
unfolding turn_in put_turn lost
turned m e c a r near d after ec ea er en ed el = rw (el, ed, en, er, ea, ec) refl
