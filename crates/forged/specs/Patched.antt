-- A PATCHED MACHINE: starts and refusals are the rules' own, a STEP is patched in what it does, in what it sees, or in where it leads.
-- With no patch it is `next` (`as_the_rules`, proofs/Same.antt). Most of the broken machines (Broken.antt) are patches.
use Rattle.std.specs.Prelude.{ℕ, List}
use Rattle.rules.specs.Words.{Place, Access, Seen, Move, Machine, Out, Call, Check, Ok, Err}
use Rattle.rules.specs.Words.{Ask, AskLlx, AskScx, AskVlx, AskRead, AskStep}
use Rattle.table.specs.Table.{change_at, task_at, link_at}
use Rattle.rules.specs.Places.{change_of, resume}
use Rattle.rules.specs.Perform.{record_of, seen, perform}
use Rattle.rules.specs.Step.{answer_of, settle, access_at}
use Rattle.rules.specs.Refuse.{check, rules_of}
use Rattle.rules.specs.Next.{refused, started}

-- each may look at the table before the step and at the task's place, and alters what the rules say
pub record Patch : Type 0 where
  pub access : Machine → Place → Access → Access
  pub sees : Machine → Place → Seen → Seen
  pub move : Machine → Place → Move → Move

abbrev pub as_it_is : {A : Type 0} → Machine → Place → A → A
as_it_is m q x = x

abbrev pub no_patch : Patch
no_patch = record { access = as_it_is; sees = as_it_is; move = as_it_is }

unfoldable pub step_by : Patch → Machine → ℕ → Out
step_by x m t =
    let q = (task_at m t).place in
    let a = x.access m q (access_at m t) in
    let s = x.sees m q (seen a m) in
    let v = x.move m q (resume q s (change_at m (change_of q)) (link_at m t (record_of a)).info) in
    record { m = settle (perform a m) t (record_of a) s v; answer = answer_of (task_at m t).cells v }

-- the machine with another STEP
abbrev pub accepted_by : (Machine → ℕ → Out) → Machine → ℕ → Ask → List ℕ → Out
accepted_by step m t (AskLlx r) l = started m t (AskLlx r) l
accepted_by step m t (AskScx n r written field new) l = started m t (AskScx n r written field new) l
accepted_by step m t (AskVlx n) l = started m t (AskVlx n) l
accepted_by step m t (AskRead r f) l = started m t (AskRead r f) l
accepted_by step m t AskStep l = step m t

abbrev pub answered_by : (Machine → ℕ → Out) → Check → Machine → Call → Out
answered_by step (Ok _) m e = accepted_by step m e.task e.ask e.list
answered_by step (Err why) m e = refused m why

unfoldable pub next_by : (Machine → ℕ → Out) → Machine → Call → Out
next_by step m e = answered_by step (check (rules_of m e)) m e
