-- THE REFUSALS of the calls, each with when it applies, and for each call those that it can meet, in the order of their numbers:
-- "Each is given exactly then, the lowest that applies to the call."
use Rattle.std.specs.Prelude.{ℕ, ◌^◌, Bool, not, List, [], ◌∷◌}
use Rattle.rules.specs.Words.{Refusal, OutOfShape, NoSuchTask, TaskBusy, TaskIdle, ListLength, NoSuchRecord, RecordTwice, PlaceOrField, NoLink, NumbersUsed}
use Rattle.rules.specs.Words.{Machine, Ask, AskLlx, AskScx, AskVlx, AskRead, AskStep, Call, Check, Ok, Err}
use Rattle.table.specs.Table.{pick, task_at, link_at, max_list, max_fields, max_changes}
use Rattle.rules.specs.Places.{is_idle}
use Rattle.rules.specs.Claim.{Claim, less, holds, ◌&◌, test}
use Rattle.rules.specs.Shape.{within, exist, apart, all_linked, in_list, in_shape}
use Rattle.rules.specs.Start.{places}

-- what an SCX writes lies inside: the written place and all of R below n (bits 4 to 7 name places that never are), the field up to 3
abbrev pub inside : ℕ → ℕ → ℕ → ℕ → Claim
inside n r written field = less written n & (less r (2 ^ max_list) & in_list n (places r)) & less field max_fields

-- how many records of its list a call names
abbrev pub listed : Ask → ℕ
listed (AskLlx r) = 0
listed (AskScx n r written field new) = n
listed (AskVlx n) = n
listed (AskRead r f) = 0
listed AskStep = 0

-- a refusal, and the claim that it is given without
pub record Rule : Type 0 where
  pub why : Refusal
  pub unless : Claim

abbrev pub unless : Refusal → Claim → Rule
unless x c = record { why = x; unless = c }

-- the first rule that is broken; no rule speaks of stored numbers, so that it does not matter how many count as used
abbrev pub check : List Rule → Check
check [] = Ok tt
check (x ∷ xs) = pick (test 0 x.unless) (check xs) (Err x.why)

-- what each call can meet, from 11 on, by what it depends on of the table: P, N, the used count, whether the task is idle, and
-- whether it has a link to each record of the call's list
abbrev pub rules : (P N used : ℕ) (idle linked : Bool) → ℕ → Ask → List ℕ → List Rule
rules P N used idle linked t (AskLlx r) l =
    unless NoSuchTask (less t P)
    ∷ unless TaskBusy (holds idle)
    ∷ unless NoSuchRecord (less r N)
    ∷ []
rules P N used idle linked t (AskScx n r written field new) l =
    unless NoSuchTask (less t P)
    ∷ unless TaskBusy (holds idle)
    ∷ unless ListLength (within max_list n)
    ∷ unless NoSuchRecord (exist N n l)
    ∷ unless RecordTwice (apart n l)
    ∷ unless PlaceOrField (inside n r written field)
    ∷ unless NoLink (holds linked)
    ∷ unless NumbersUsed (less used max_changes)
    ∷ []
rules P N used idle linked t (AskVlx n) l =
    unless NoSuchTask (less t P)
    ∷ unless TaskBusy (holds idle)
    ∷ unless ListLength (within max_list n)
    ∷ unless NoSuchRecord (exist N n l)
    ∷ unless RecordTwice (apart n l)
    ∷ unless NoLink (holds linked)
    ∷ []
rules P N used idle linked t (AskRead r f) l =
    unless NoSuchTask (less t P)
    ∷ unless TaskBusy (holds idle)
    ∷ unless NoSuchRecord (less r N)
    ∷ unless PlaceOrField (less f max_fields)
    ∷ []
rules P N used idle linked t AskStep l =
    unless NoSuchTask (less t P)
    ∷ unless TaskIdle (holds (not idle))
    ∷ []

-- the rules of a call on a machine: 10 before all others
abbrev pub idle_at : Machine → ℕ → Bool
idle_at m t = is_idle (task_at m t).place

unfoldable pub linked_at : Machine → Call → Bool
linked_at m e = test 0 (all_linked (listed e.ask) e.list (λ r. (link_at m e.task r).there))

unfoldable pub rules_of : Machine → Call → List Rule
rules_of m e =
    unless OutOfShape (holds (in_shape m))
    ∷ rules m.p m.n m.used (idle_at m e.task) (linked_at m e) e.task e.ask e.list
