-- A call on what it has in hand, put in place, is what the rules say.
use Prim.Native.Nat.{ℕ, ◌%◌, ◌<◌}
use native.Mathlib.Nat.{mod-eq_of_lt, le_trans}
use mathlib.Core.Path.{◌≡◌, refl, sym, ap, ◌∙◌}
use mathlib.Core.Bool.{Bool, true}
use mathlib.Core.List.{List}
use Rattle.rules.specs.Words.{Machine, Out, Access, Ask, AskLlx, AskScx, AskVlx, AskRead, AskStep, Call, Refusal, Check, Ok, Err}
use Rattle.table.specs.Table.{change_at, task_at}
use Rattle.rules.specs.Places.{access_of}
use Rattle.rules.specs.Perform.{record_of}
use Rattle.rules.specs.Step.{drop_first, access_at}
use Rattle.rules.specs.Shape.{in_shape, InShape}
use Rattle.rules.specs.Refuse.{rules, idle_at, linked_at}
use Rattle.rules.specs.Next.{refused, accepted, next}
use Rattle.hand.specs.Hand.{number_of, kept_by, checked_of, turn_of, hand_at, put_turn, turn_in}
use Rattle.keeps.proofs.Obeyed.{Obeyed, passed}
use Rattle.keeps.proofs.Bounds.{p≤8, n≤32}
use Rattle.exact.proofs.Put.{put_passed, same_records, same_changes, same_tasks, same_links}
use Rattle.exact.proofs.Refusal.{refusal_in, refusal_is}
use Rattle.exact.proofs.Start.{llx_is, scx_is, vlx_is, read_is}
use Rattle.exact.proofs.Step.{step_is}
use Rattle.exact.proofs.Turn.{in_shape_lem, by_check}

-- the change, the access and the record that a call of task t has in hand
abbrev number : Machine → ℕ → Ask → ℕ
number m t ask = number_of ask m.used (task_at m t).place

abbrev access : Machine → ℕ → Ask → Access
access m t ask = access_of (task_at m t).place (change_at m (number m t ask)) (task_at m t).list

abbrev touched : Machine → ℕ → Ask → ℕ
touched m t ask = record_of (access m t ask) % 32

-- a call, by its outcome of the refusals
turn_by : (m : Machine) (e : Call) (k : Check) → refusal_in m e ≡ k
    → let t = e.task % 8 in
    let c = number m t e.ask in
    let x = touched m t e.ask in
    turn_in m e ≡ put_turn m t c x (checked_of k (hand_at m t e.list c (access m t e.ask) x) e)
unfolding turn_in turn_of refusal_in
turn_by m e k ek =
    let t = e.task % 8 in
    let c = number m t e.ask in
    let x = touched m t e.ask in
    ap (λ y. put_turn m t c x (checked_of y (hand_at m t e.list c (access m t e.ask) x) e)) ek

-- refused: all is stored back
put_kept : (m : Machine) (t c : ℕ) (a : Access) (x : ℕ) (l : List ℕ) (why : Refusal)
    → put_turn m t c x (kept_by (hand_at m t l c a x) why) ≡ refused m why
unfolding put_turn refused drop_first
put_kept m t c a x l why = rw (same_records m x, same_changes m c, same_tasks m t, same_links m t x) refl

-- passed: the start or the step
passed_in : Machine → ℕ → Ask → List ℕ → Out
passed_in m t ask l = put_passed m t (number m t ask) (access m t ask) (touched m t ask) ask l

task_known : (P N used : ℕ) (idle linked : Bool) (t : ℕ) (ask : Ask) (l : List ℕ) → Obeyed (rules P N used idle linked t ask l) → t < P
task_known P N used idle linked t (AskLlx r) l h = h.0
task_known P N used idle linked t (AskScx n r written field new) l h = h.0
task_known P N used idle linked t (AskVlx n) l h = h.0
task_known P N used idle linked t (AskRead r f) l h = h.0
task_known P N used idle linked t AskStep l h = h.0

passed_is : (m : Machine) (t : ℕ) (ask : Ask) (l : List ℕ) (linked : Bool) → InShape m
    → Obeyed (rules m.p m.n m.used (idle_at m t) linked t ask l)
    → passed_in m t ask l ≡ accepted m t ask l
unfolding passed_in access_at
passed_is m t (AskLlx r) l linked S h = llx_is m (n≤32 m S) t (access m t (AskLlx r)) _ r l h.1.1.0
passed_is m t (AskScx n r written field new) l linked S h =
    scx_is m (n≤32 m S) t (access m t (AskScx n r written field new)) _ n r written field new l h.1.1.0.1 h.1.1.1.0
    h.1.1.1.1.1.0.0 h.1.1.1.1.1.1.1.0
passed_is m t (AskVlx n) l linked S h = vlx_is m (n≤32 m S) t (access m t (AskVlx n)) _ n l
passed_is m t (AskRead r f) l linked S h = read_is m (n≤32 m S) t (access m t (AskRead r f)) _ r f l
passed_is m t AskStep l linked S h = step_is m t S h.0 l

-- THE CALL IN HAND: in shape it is the rules' own
pub turn_is : (m : Machine) (e : Call) → in_shape m ≡ true → turn_in m e ≡ next m e
unfolding passed_in
turn_is m e h = go (refusal_in m e) refl
  where
    go : (k : Check) → refusal_in m e ≡ k → turn_in m e ≡ next m e
    go (Ok _) f =
        let S = in_shape_lem m h in
        let rs = rules m.p m.n m.used (idle_at m e.task) (linked_at m e) e.task e.ask e.list in
        let obeyed = passed rs (sym (refusal_is m e S) ∙ f) in
        let known = task_known _ _ _ _ _ _ e.ask e.list obeyed in
        turn_by m e (Ok tt) f
        ∙ ap (λ t. passed_in m t e.ask e.list) (mod-eq_of_lt (le_trans known (p≤8 m S)))
        ∙ passed_is m e.task e.ask e.list (linked_at m e) S obeyed
        ∙ by_check m e (Ok tt) h f
    go (Err why) f =
        turn_by m e (Err why) f
        ∙ put_kept m (e.task % 8) _ (access m (e.task % 8) e.ask) _ e.list why
        ∙ by_check m e (Err why) h f
