-- From what each part of a turn of the loop ensures to the turn: laws over plain variables, so that no proof looks into a machine.
use Rattle.std.proofs.Common.{Option, ℕ, ◌+◌, ◌*◌, ◌%◌, ◌≤◌, ◌<◌, ◌≡◌, List, [], length, refl, sym, ap, ◌∙◌, add-one}
use Rattle.rules.specs.Words.{Machine, Call, Answer}
use Rattle.table.specs.Table.{task_at}
use Rattle.hand.specs.Hand.{turn_in}
use Rattle.event.specs.Event.{event_at}
use Rattle.tally.specs.declared.Tally.{Tally}
use Rattle.table.specs.declared.Operation.{Operation}
use Rattle.rules.specs.Places.{operation_of}
use Rattle.tally.specs.Count.{counted_of, tally_of, first_of}
use Rattle.tally.proofs.Counting.{counted_next, first_none}
use Rattle.text.specs.Text.{joined}
use Rattle.text.specs.Put.{Put}
use Rattle.text.proofs.Laws.{Puts, first, again, done}
use Rattle.text.proofs.Most.{most_none, most_again}
use Rattle.lines.specs.Lines.{answer_line}
use Rattle.play.specs.Play.{turns_to, told_in, line_in, Plays}

-- THE RUN SO FAR: what holds in the loop, before the first turn, after one more, at the end
pub record Along (m₀ : Machine) (es old : List ℕ) (i : ℕ) (new : List ℕ) (m : Machine) (t : Tally) (next : ℕ) : Type 0 where
  pub machine : m ≡ turns_to m₀ es i
  pub tally : t ≡ tally_of (first_of (told_in m₀ es) i)
  pub lines : Puts (line_in m₀ es) i old 0 new next
  pub most : length (joined (line_in m₀ es) i) ≤ 42 * i

pub begins : (m : Machine) (es old : List ℕ) (t : Tally) → t ≡ tally_of [] → Along m es old 0 old m t 0
unfolding turns_to
begins m es old t e =
    record { machine = refl; tally = e ∙ ap tally_of (sym (first_none (told_in m es))); lines = first; most = most_none (line_in m es) 42 }

pub goes_on : (m₀ : Machine) (es old : List ℕ) (i : ℕ) (mid new : List ℕ) (m after : Machine) (t u : Tally) (next end : ℕ) (e : Call)
    (said : Option Operation) (answer : Answer)
    → Along m₀ es old i mid m t next
    → i < 65535
    → e ≡ event_at es i
    → turn_in m e ≡ record { m = after; answer = answer }
    → said ≡ operation_of (task_at m (e.task % 8)).place
    → u ≡ counted_of t (record { operation = said; answer = answer })
    → Put mid next (answer_line (i + 1) e.task answer) new end × (length (answer_line (i + 1) e.task answer) ≤ 42)
    → Along m₀ es old (i + 1) new after u end
unfolding turns_to told_in line_in
goes_on m₀ es old i mid new m after t u next end e said answer w small ee eo es' eu put =
    let told : told_in m₀ es i ≡ record { operation = said; answer = answer } = rw (← w.machine, ← ee, eo, es') refl in
    let line : answer_line (i + 1) e.task answer ≡ line_in m₀ es i = rw (← w.machine, ← ee, eo) refl in
    record {
      machine = rw (add-one, turns_to, ← w.machine, ← ee, eo) refl;
      tally = rw (eu, w.tally, ← told) (counted_next (told_in m₀ es) i small);
      lines = again w.lines (rw line at put.0);
      most = most_again (line_in m₀ es) 42 i w.most (rw line at put.1);
    }

pub ends : (m₀ : Machine) (es old : List ℕ) (i n : ℕ) (new : List ℕ) (m : Machine) (t : Tally) (next : ℕ) → Along m₀ es old i new m t next → i ≡ n
    → Plays m₀ es n old new (record { m = m; tally = t; next = next })
ends m₀ es old i n new m t next w e =
    rw (← e) record { machine = w.machine; tally = w.tally; lines = done w.lines refl; most = w.most }
