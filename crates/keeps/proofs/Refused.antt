-- What a call answers and leaves alone: one that passes its rules answers no refusal, and one that answers a refusal alters no word of
-- the state; a step of a busy task leaves it idle exactly if it answers other than 0; a start makes no shared access.
use Prim.Native.Nat.{ℕ, ◌+◌}
use native.Mathlib.Omega.{arith}
use mathlib.Core.Path.{◌≡◌, refl, sym, ◌∙◌, subst}
use mathlib.Core.Logic.{◌≢◌}
use mathlib.Core.Bool.{Bool, true, false, not, true≢false}
use mathlib.Core.List.{List, ◌∷◌}
use lib.Dec.{eqb, ltb}
use lib.Seq.{get_or-set_other}
use Rattle.rules.specs.Words.{Cell, State, InProgress, Committed, Aborted, Change, After, Own, AtL8, AtL11, Machine, Seen, Move}
use Rattle.rules.specs.Words.{Place, Idle, L1, L2, L3, L4, L5, L6, L7, L8, L9, L10, L11, H1, H2, H3, H4, H5, H6, H7, H8, Vlx, Read}
use Rattle.rules.specs.Words.{Ask, AskLlx, AskScx, AskVlx, AskRead, AskStep, Call, Check, Ok, Err}
use Rattle.rules.specs.Words.{Refusal, OutOfShape, NoSuchTask, TaskIdle}
use Rattle.rules.specs.Words.{Answer, Accepted, Snapshot, Finalized, Fail, Yes, No, Value, Refused}
use Rattle.table.specs.Table.{pick, change_at, task_at, no_change}
use Rattle.rules.specs.Places.{resume, is_idle}
use Rattle.rules.specs.Words.{On, Done, Store, Unlink}
use Rattle.rules.specs.Resume.{verdict, after_l4, after_l7, after_l8, after_l10, after_held, first_from}
use Rattle.rules.specs.Step.{place_of, answer_of, move_at, step}
use Rattle.rules.specs.Start.{filled, start}
use Rattle.rules.specs.Refuse.{unless, check, rules, idle_at, linked_at, rules_of}
use Rattle.rules.specs.Claim.{holds}
use Rattle.rules.specs.Shape.{in_shape}
use Rattle.rules.specs.Next.{refused, started, accepted, answered, next}

abbrev pub is_refusal : Answer → Bool
is_refusal Accepted = false
is_refusal (Snapshot cells) = false
is_refusal Finalized = false
is_refusal Fail = false
is_refusal Yes = false
is_refusal No = false
is_refusal (Value cell) = false
is_refusal (Refused why) = true

abbrev pub is_accepted : Answer → Bool
is_accepted Accepted = true
is_accepted (Snapshot cells) = false
is_accepted Finalized = false
is_accepted Fail = false
is_accepted Yes = false
is_accepted No = false
is_accepted (Value cell) = false
is_accepted (Refused why) = false

-- a move that answers no refusal, and is idle exactly if its answer is not 0
pub record Plain (v : Move) : Type 0 where
  pub no_refusal : (cs : List Cell) → is_refusal (answer_of cs v) ≡ false
  pub ends : (cs : List Cell) → is_idle (place_of v) ≡ not (is_accepted (answer_of cs v))

-- on to a place that is not idle, and done with an answer
going : (q : Place) → is_idle q ≡ false → Plain (On q)
going q h = record { no_refusal = λ cs. refl; ends = λ cs. h }

ended : (a : Answer) → is_refusal a ≡ false → is_accepted a ≡ false → Plain (Done a)
ended a h k = record { no_refusal = λ cs. h; ends = λ cs. rw k refl }

either : (b : Bool) (v w : Move) → Plain v → Plain w → Plain (pick b v w)
either true v w h k = h
either false v w h k = k

plain_verdict : (ok : Bool) (after : After) → Plain (verdict ok after)
plain_verdict true Own = ended Yes refl refl
plain_verdict false Own = ended No refl refl
plain_verdict true (AtL8 r true) = ended Finalized refl refl
plain_verdict true (AtL8 r false) = going (L9 r) refl
plain_verdict false (AtL8 r m1) = going (L9 r) refl
plain_verdict ok AtL11 = ended Fail refl refl

plain_l7 : (r : ℕ) (m1 : Bool) (a : ℕ) (s : State) → Plain (after_l7 r m1 a s)
plain_l7 r m1 a InProgress = going (L8 r m1 a) refl
plain_l7 r true a Committed = ended Finalized refl refl
plain_l7 r false a Committed = going (L9 r) refl
plain_l7 r m1 a Aborted = going (L8 r m1 a) refl

plain_l10 : (r : ℕ) (s : State) → Plain (after_l10 r s)
plain_l10 r InProgress = going (L11 r) refl
plain_l10 r Committed = ended Fail refl refl
plain_l10 r Aborted = ended Fail refl refl

one_of : (b : Bool) (q r : Place) → is_idle q ≡ false → is_idle r ≡ false → is_idle (pick b q r) ≡ false
one_of true q r h k = h
one_of false q r h k = k

busy_l4 : (r : ℕ) (m1 : Bool) (a : ℕ) (s : State) (m2 : Bool) → is_idle (after_l4 r m1 a s m2) ≡ false
busy_l4 r m1 a InProgress m2 = refl
busy_l4 r m1 a Committed false = refl
busy_l4 r m1 a Committed true = refl
busy_l4 r m1 a Aborted m2 = refl

busy_l8 : (r : ℕ) (m1 : Bool) (a : ℕ) (s : State) → is_idle (after_l8 r m1 a s) ≡ false
busy_l8 r m1 a InProgress = refl
busy_l8 r m1 a Committed = refl
busy_l8 r m1 a Aborted = refl

busy_held : (u i n : ℕ) (after : After) → is_idle (after_held u i n after) ≡ false
busy_held u i n after = one_of (ltb (i + 1) n) (H1 u (i + 1) after) (H5 u after) refl refl

-- a step of a busy task answers no refusal
pub plain : (q : Place) (s : Seen) (ch : Change) (linked : ℕ) → is_idle q ≡ false → Plain (resume q s ch linked)
plain Idle s ch linked h = absurd (true≢false h)
plain (L1 r) s ch linked h = going _ refl
plain (L2 r m1) s ch linked h = going _ refl
plain (L3 r m1 a) s ch linked h = going _ refl
plain (L4 r m1 a read) s ch linked h = going _ (busy_l4 r m1 a read s.bit)
plain (L5 r m1 a f) s ch linked h =
    record { no_refusal = λ cs. refl; ends = λ cs. one_of (ltb f 3) (L5 r m1 a (f + 1)) (L6 r m1 a) refl refl }
plain (L6 r m1 a) s ch linked h =
    either (eqb s.number a) Store (On (L7 r m1 a)) (record { no_refusal = λ cs. refl; ends = λ cs. refl }) (going _ refl)
plain (L7 r m1 a) s ch linked h = plain_l7 r m1 a s.state
plain (L8 r m1 a) s ch linked h = going _ (busy_l8 r m1 a s.state)
plain (L9 r) s ch linked h = going _ refl
plain (L10 r b) s ch linked h = plain_l10 r s.state
plain (L11 r) s ch linked h =
    either (eqb s.number 0) (Done Fail) (On (H1 s.number 0 AtL11)) (ended Fail refl refl) (going _ refl)
plain (H1 u i after) s ch linked h = going _ (one_of s.bit (after_held u i ch.n after) (H2 u i after) (busy_held u i ch.n after) refl)
plain (H2 u i after) s ch linked h =
    going _ (one_of (eqb s.number u) (after_held u i ch.n after) (H3 u after) (busy_held u i ch.n after) refl)
plain (H3 u after) s ch linked h = either s.bit (verdict true after) (On (H4 u after)) (plain_verdict true after) (going _ refl)
plain (H4 u after) s ch linked h = plain_verdict false after
plain (H5 u after) s ch linked h = going _ (one_of (ltb (first_from ch.r 0) 4) (H6 u _ after) (H7 u after) refl refl)
plain (H6 u i after) s ch linked h = going _ (one_of (ltb (first_from ch.r (i + 1)) 4) (H6 u _ after) (H7 u after) refl refl)
plain (H7 u after) s ch linked h = going _ refl
plain (H8 u after) s ch linked h = plain_verdict true after
plain (Vlx n i) s ch linked h =
    either (eqb s.number linked) (pick (ltb (i + 1) n) (On (Vlx n (i + 1))) (Done Yes)) (Unlink n)
    (either (ltb (i + 1) n) (On (Vlx n (i + 1))) (Done Yes) (going _ refl) (ended Yes refl refl)) (record { no_refusal = λ cs. refl; ends = λ cs. refl })
plain (Read r f) s ch linked h = ended _ refl refl

-- what an accepted call answers is no refusal
plain_accepted : (m : Machine) (t : ℕ) (ask : Ask) (l : List ℕ) → (ask ≡ AskStep → idle_at m t ≡ false)
    → is_refusal (accepted m t ask l).answer ≡ false
unfolding started step move_at
plain_accepted m t (AskLlx r) l h = refl
plain_accepted m t (AskScx n r written field new) l h = refl
plain_accepted m t (AskVlx n) l h = refl
plain_accepted m t (AskRead r f) l h = refl
plain_accepted m t AskStep l h = (plain (task_at m t).place _ _ _ (h refl)).no_refusal (task_at m t).cells

-- a STEP that passes its rules is of a busy task
busy : (inside known idle : Bool) (why other more : Refusal)
    → pick {A = Check} inside (pick known (pick (not idle) (Ok tt) (Err why)) (Err other)) (Err more) ≡ Ok tt → idle ≡ false
busy true true false why other more h = refl
busy true true true why other more h = let z : ◌≡◌ {A = ℕ} 0 1 = cc in absurd (omega arith)
busy true false idle why other more h = let z : ◌≡◌ {A = ℕ} 0 1 = cc in absurd (omega arith)
busy false known idle why other more h = let z : ◌≡◌ {A = ℕ} 0 1 = cc in absurd (omega arith)

step_busy : (m : Machine) (e : Call) → check (rules_of m e) ≡ Ok tt → e.ask ≡ AskStep → idle_at m e.task ≡ false
unfolding rules_of
step_busy m e h ask =
    busy (in_shape m) (ltb e.task m.p) (idle_at m e.task) TaskIdle NoSuchTask OutOfShape
    (subst (λ ask. check (unless OutOfShape (holds (in_shape m))
    ∷ rules m.p m.n m.used (idle_at m e.task) (linked_at m e) e.task ask e.list) ≡ Ok tt) ask h)

-- what passes its rules is not refused
pub passed_answers : (m : Machine) (e : Call) → check (rules_of m e) ≡ Ok tt → is_refusal (next m e).answer ≡ false
unfolding next
passed_answers m e h = rw h (plain_accepted m e.task e.ask e.list (step_busy m e h))

-- A REFUSAL LEAVES THE STATE AS IT CAME
pub refusal_alters_nothing : (m : Machine) (e : Call) → is_refusal (next m e).answer ≡ true → (next m e).m ≡ m
unfolding next refused
refusal_alters_nothing m e h = go (check (rules_of m e)) refl h
  where
    go : (c : Check) → check (rules_of m e) ≡ c → is_refusal (answered c m e).answer ≡ true → (answered c m e).m ≡ m
    go (Ok _) f k = absurd (true≢false (sym k ∙ plain_accepted m e.task e.ask e.list (step_busy m e f)))
    go (Err why) f k = refl

-- "STARTING AN OPERATION MAKES NO SHARED ACCESS": the records are as they were, and every change but the one that is taken
pub start_keeps_records : (m : Machine) (t : ℕ) (ask : Ask) (l : List ℕ) → (start m t ask l).records ≡ m.records
unfolding start
start_keeps_records m t (AskLlx r) l = refl
start_keeps_records m t (AskScx n r written field new) l = refl
start_keeps_records m t (AskVlx n) l = refl
start_keeps_records m t (AskRead r f) l = refl
start_keeps_records m t AskStep l = refl

pub start_keeps_changes : (m : Machine) (t : ℕ) (ask : Ask) (l : List ℕ) (u : ℕ) → u ≢ m.used + 1 → change_at (start m t ask l) u ≡ change_at m u
unfolding start
start_keeps_changes m t (AskLlx r) l u ne = refl
start_keeps_changes m t (AskScx n r written field new) l u ne =
    get_or-set_other m.changes (m.used + 1) u (filled m t n l r written field new) no_change ne
start_keeps_changes m t (AskVlx n) l u ne = refl
start_keeps_changes m t (AskRead r f) l u ne = refl
start_keeps_changes m t AskStep l u ne = refl
