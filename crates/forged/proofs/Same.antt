-- Without a patch the patched machine is the rules' own.
use Prim.Native.Nat.{ℕ}
use mathlib.Core.List.{List}
use mathlib.Core.Path.{◌≡◌, refl}
use Rattle.rules.specs.Words.{Machine, Call, Check, Ok, Err}
use Rattle.rules.specs.Words.{Ask, AskLlx, AskScx, AskVlx, AskRead, AskStep}
use Rattle.rules.specs.Step.{move_at, step}
use Rattle.rules.specs.Refuse.{check, rules_of}
use Rattle.rules.specs.Next.{accepted, answered, next}
use Rattle.forged.specs.Patched.{no_patch, step_by, accepted_by, answered_by, next_by}

same_accepted : (m : Machine) (t : ℕ) (ask : Ask) (l : List ℕ) → accepted_by (step_by no_patch) m t ask l ≡ accepted m t ask l
unfolding step_by step move_at
same_accepted m t (AskLlx r) l = refl
same_accepted m t (AskScx n r written field new) l = refl
same_accepted m t (AskVlx n) l = refl
same_accepted m t (AskRead r f) l = refl
same_accepted m t AskStep l = refl

same_answered : (c : Check) (m : Machine) (e : Call) → answered_by (step_by no_patch) c m e ≡ answered c m e
same_answered (Ok _) m e = same_accepted m e.task e.ask e.list
same_answered (Err why) m e = refl

pub as_the_rules : next_by (step_by no_patch) ≡ next
unfolding next_by next
as_the_rules = λ k m e. same_answered (check (rules_of m e)) m e k
