-- THE MACHINE: a table and a call give a table and an answer. A refused call leaves the table as it came.
use Rattle.std.specs.Prelude.{ℕ, List, [], ◌∷◌, replicate}
use Rattle.rules.specs.Words.{Machine, Ask, AskLlx, AskScx, AskVlx, AskRead, AskStep, Call, Refusal, Accepted, Refused, Out, Check, Ok, Err}
use Rattle.rules.specs.Answer.{number, values}
use Rattle.rules.specs.Step.{step}
use Rattle.rules.specs.Start.{start}
use Rattle.rules.specs.Refuse.{check, rules_of}

unfoldable pub refused : Machine → Refusal → Out
refused m why = record { m = m; answer = Refused why }

unfoldable pub started : Machine → ℕ → Ask → List ℕ → Out
started m t ask l = record { m = start m t ask l; answer = Accepted }

abbrev pub accepted : Machine → ℕ → Ask → List ℕ → Out
accepted m t (AskLlx r) l = started m t (AskLlx r) l
accepted m t (AskScx n r written field new) l = started m t (AskScx n r written field new) l
accepted m t (AskVlx n) l = started m t (AskVlx n) l
accepted m t (AskRead r f) l = started m t (AskRead r f) l
accepted m t AskStep l = step m t

abbrev pub answered : Check → Machine → Call → Out
answered (Ok _) m e = accepted m e.task e.ask e.list
answered (Err why) m e = refused m why

unfoldable pub next : Machine → Call → Out
next m e = answered (check (rules_of m e)) m e

-- the five calls
abbrev pub llx : ℕ → ℕ → Call
llx t r = record { task = t; ask = AskLlx r; list = replicate 4 0 }

abbrev pub scx : ℕ → ℕ → List ℕ → ℕ → ℕ → ℕ → ℕ → Call
scx t n l r written field new = record { task = t; ask = AskScx n r written field new; list = l }

abbrev pub vlx : ℕ → ℕ → List ℕ → Call
vlx t n l = record { task = t; ask = AskVlx n; list = l }

abbrev pub read : ℕ → ℕ → ℕ → Call
read t r f = record { task = t; ask = AskRead r f; list = replicate 4 0 }

abbrev pub stepping : ℕ → Call
stepping t = record { task = t; ask = AskStep; list = replicate 4 0 }

-- RUNS: the table after the calls of a list, and what they answered, each as its number and values
abbrev pub Said : Type 0
Said = ℕ × List ℕ

abbrev pub reports : Out → Said
reports o = (number o.answer, values o.answer)

unfoldable pub after : Machine → List Call → Machine
after m [] = m
after m (e ∷ es) = after (next m e).m es

unfoldable pub said : Machine → List Call → List Said
said m [] = []
said m (e ∷ es) = let o = next m e in reports o ∷ said o.m es
