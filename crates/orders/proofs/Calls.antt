-- What a call was, by what it answers or does: an answer other than a refusal has passed the rules, an effect is a step at H7, a hold
-- a step at H1, a number is taken by an SCX, a linked read ends at L6.
use Prim.Native.Nat.{ℕ, ◌+◌}
use mathlib.Core.Path.{◌≡◌, refl, sym, ap, ◌∙◌, subst}
use mathlib.Core.Bool.{Bool, true, false, true≢false, false≢true}
use mathlib.Core.Logic.{◌≢◌}
use native.Mathlib.Omega.{arith}
use lib.Dec.{eqb, ltb}
use Rattle.rules.specs.Words.{State, InProgress, Committed, Aborted, After, Own, AtL8, AtL11, Change, Machine, Seen, Out, Move}
use Rattle.rules.specs.Words.{Place, Idle, L1, L2, L3, L4, L5, L6, L7, L8, L9, L10, L11, H1, H2, H3, H4, H5, H6, H7, H8, Vlx, Read}
use Rattle.rules.specs.Words.{Ask, AskLlx, AskScx, AskVlx, AskRead, AskStep, Call, Check, Ok, Err}
use Rattle.rules.specs.Words.{Refusal, Accepted, Snapshot, Fail, Yes, Refused}
use Rattle.table.specs.Table.{pick, task_at, change_at, link_at}
use Rattle.rules.specs.Places.{change_of, access_of, resume}
use Rattle.rules.specs.Perform.{record_of, seen}
use Rattle.rules.specs.Words.{On, Done, Store, Unlink}
use Rattle.rules.specs.Resume.{verdict, after_l7, after_l10}
use Rattle.rules.specs.Step.{stores_link, answer_of, access_at, move_at, step}
use Rattle.rules.specs.Start.{filled}
use Rattle.rules.specs.Refuse.{check, rules, idle_at, linked_at, rules_of}
use Rattle.rules.specs.Next.{refused, accepted, answered, next}
use Rattle.keeps.proofs.Obeyed.{Obeyed, passed}
use Rattle.clauses.proofs.Memory.{Terms, Act, nop, hold, write, make}
use Rattle.clauses.proofs.History.{Reading}
use Rattle.clauses.proofs.Steps.{terms_of, act_at}
use Rattle.clauses.proofs.Origins.{at_h7, at_h1, no_start}
use Rattle.orders.proofs.View.{shared, doing, ending, done_by, read_by, did, reading}

-- call e passes the rules and asks for ask
pub record Passes (m : Machine) (e : Call) (ask : Ask) : Type 0 where
  pub passed : check (rules_of m e) ≡ Ok tt
  pub asks : e.ask ≡ ask

-- what is not refused has passed
pub not_refused : (m : Machine) (e : Call) → ((why : Refusal) → (next m e).answer ≢ Refused why) → check (rules_of m e) ≡ Ok tt
unfolding next refused
not_refused m e = go (check (rules_of m e))
  where
    go : (c : Check) → ((why : Refusal) → (answered c m e).answer ≢ Refused why) → c ≡ Ok tt
    go (Ok _) h = refl
    go (Err why) h = absurd (h why refl)

pub accepts : (m : Machine) (e : Call) → (next m e).answer ≡ Accepted → check (rules_of m e) ≡ Ok tt
accepts m e h = not_refused m e (λ why q. let z : Accepted ≡ Refused why = sym h ∙ q in let y : ◌≡◌ {A = ℕ} 0 1 = cc in omega arith)

-- and then it is its step or its start
pub next_is : (m : Machine) (e : Call) (ask : Ask) → Passes m e ask → next m e ≡ accepted m e.task ask e.list
unfolding next
next_is m e ask P = rw (P.passed, P.asks) refl

pub did_is : (m : Machine) (e : Call) (ask : Ask) → Passes m e ask → did m e ≡ doing m e.task ask e.list
did_is m e ask P = rw (P.passed, P.asks) refl

pub reading_is : (m : Machine) (e : Call) (ask : Ask) → Passes m e ask → reading m e ≡ ending m e.task ask
reading_is m e ask P = rw (P.passed, P.asks) refl

pub obeyed : (m : Machine) (e : Call) (ask : Ask) → Passes m e ask
    → Obeyed (rules m.p m.n m.used (idle_at m e.task) (linked_at m e) e.task ask e.list)
unfolding rules_of
obeyed m e ask P = subst (λ a. Obeyed (rules m.p m.n m.used (idle_at m e.task) (linked_at m e) e.task a e.list)) P.asks
    (passed (rules_of m e) P.passed).1

-- the acts tell the calls apart: a step's by its place, a start's by the number, all others do nothing
module _ (m : Machine) (e : Call) where
  by_act : (b : Act) (A : Type 0) → (Passes m e AskStep → act_at (shared m) (task_at m e.task).place ≡ b → A)
      → ((n r written field new : ℕ) → Passes m e (AskScx n r written field new)
      → make (m.used + 1) (terms_of (filled m e.task n e.list r written field new)) ≡ b → A)
      → (nop ≡ b → A) → did m e ≡ b → A
  by_act b A step scx none = go (check (rules_of m e)) refl
    where
      asked : (ask : Ask) → Passes m e ask → doing m e.task ask e.list ≡ b → A
      asked (AskLlx r) P q = none q
      asked (AskScx n r written field new) P q = scx n r written field new P q
      asked (AskVlx n) P q = none q
      asked (AskRead r f) P q = none q
      asked AskStep P q = step P q

      go : (c : Check) → check (rules_of m e) ≡ c → done_by c m e ≡ b → A
      go (Ok _) q h = asked e.ask (record { passed = q; asks = refl }) h
      go (Err why) q h = none h

  pub wrote : (u : ℕ) → did m e ≡ write u → Passes m e AskStep × ((after : After) × ((task_at m e.task).place ≡ H7 u after))
  wrote u = by_act (write u) _ (λ P q. (P, at_h7 (shared m) (task_at m e.task).place u q))
      (λ n r written field new P q. let z : ◌≡◌ {A = ℕ} 0 1 = cc in absurd (omega arith))
      (λ q. let z : ◌≡◌ {A = ℕ} 0 1 = cc in absurd (omega arith))

  pub held : (u i : ℕ) → did m e ≡ hold u i → Passes m e AskStep × ((after : After) × ((task_at m e.task).place ≡ H1 u i after))
  held u i = by_act (hold u i) _ (λ P q. (P, at_h1 (shared m) (task_at m e.task).place u i q))
      (λ n r written field new P q. let z : ◌≡◌ {A = ℕ} 0 1 = cc in absurd (omega arith))
      (λ q. let z : ◌≡◌ {A = ℕ} 0 1 = cc in absurd (omega arith))

  abbrev pub Scx : ℕ → Terms → Type 0
  Scx u c = (n r written field new : ℕ) × Passes m e (AskScx n r written field new) × (u ≡ m.used + 1)
      × (c ≡ terms_of (filled m e.task n e.list r written field new))

  pub took : (u : ℕ) (c : Terms) → did m e ≡ make u c → Scx u c
  took u c = by_act (make u c) _ (λ P q. no_start (shared m) (task_at m e.task).place u c q)
      (λ n r written field new P q.
      let a : m.used + 1 ≡ u = cc in
      let b : terms_of (filled m e.task n e.list r written field new) ≡ c = cc in
      (n, r, written, field, new, P, sym a, sym b))
      (λ q. let z : ◌≡◌ {A = ℕ} 0 1 = cc in absurd (omega arith))

-- a link is stored at L6 alone, with the snapshot
abbrev Stores : Place → Move → Type 0
Stores q v = stores_link v ≡ true → (r : ℕ) × (m1 : Bool) × (a : ℕ) × (q ≡ L6 r m1 a) × (v ≡ Store)

never : {q : Place} {v : Move} → stores_link v ≡ false → Stores q v
never e h = absurd (true≢false (sym h ∙ e))

store_verdict : (ok : Bool) (after : After) → stores_link (verdict ok after) ≡ false
store_verdict true Own = refl
store_verdict false Own = refl
store_verdict true (AtL8 r true) = refl
store_verdict true (AtL8 r false) = refl
store_verdict false (AtL8 r m1) = refl
store_verdict ok AtL11 = refl

store_l7 : (r : ℕ) (m1 : Bool) (a : ℕ) (s : State) → stores_link (after_l7 r m1 a s) ≡ false
store_l7 r m1 a InProgress = refl
store_l7 r true a Committed = refl
store_l7 r false a Committed = refl
store_l7 r m1 a Aborted = refl

store_l10 : (r : ℕ) (s : State) → stores_link (after_l10 r s) ≡ false
store_l10 r InProgress = refl
store_l10 r Committed = refl
store_l10 r Aborted = refl

either : (b : Bool) (v w : Move) → stores_link v ≡ false → stores_link w ≡ false → stores_link (pick b v w) ≡ false
either true v w h k = h
either false v w h k = k

pub stored_at_l6 : (q : Place) (s : Seen) (ch : Change) (linked : ℕ) → Stores q (resume q s ch linked)
stored_at_l6 Idle s ch linked = never refl
stored_at_l6 (L1 r) s ch linked = never refl
stored_at_l6 (L2 r m1) s ch linked = never refl
stored_at_l6 (L3 r m1 a) s ch linked = never refl
stored_at_l6 (L4 r m1 a x) s ch linked = never refl
stored_at_l6 (L5 r m1 a f) s ch linked = never refl
stored_at_l6 (L6 r m1 a) s ch linked = go (eqb s.number a)
  where
    go : (b : Bool) → Stores (L6 r m1 a) (pick b Store (On (L7 r m1 a)))
    go true h = (r, m1, a, refl, refl)
    go false h = absurd (false≢true h)
stored_at_l6 (L7 r m1 a) s ch linked = never (store_l7 r m1 a s.state)
stored_at_l6 (L8 r m1 a) s ch linked = never refl
stored_at_l6 (L9 r) s ch linked = never refl
stored_at_l6 (L10 r b) s ch linked = never (store_l10 r s.state)
stored_at_l6 (L11 r) s ch linked = never (either (eqb s.number 0) (Done Fail) (On (H1 s.number 0 AtL11)) refl refl)
stored_at_l6 (H1 u i after) s ch linked = never refl
stored_at_l6 (H2 u i after) s ch linked = never refl
stored_at_l6 (H3 u after) s ch linked = never (either s.bit (verdict true after) (On (H4 u after)) (store_verdict true after) refl)
stored_at_l6 (H4 u after) s ch linked = never (store_verdict false after)
stored_at_l6 (H5 u after) s ch linked = never refl
stored_at_l6 (H6 u i after) s ch linked = never refl
stored_at_l6 (H7 u after) s ch linked = never refl
stored_at_l6 (H8 u after) s ch linked = never (store_verdict true after)
stored_at_l6 (Vlx n i) s ch linked = never (either (eqb s.number linked) (pick (ltb (i + 1) n) (On (Vlx n (i + 1))) (Done Yes)) (Unlink n)
    (either (ltb (i + 1) n) (On (Vlx n (i + 1))) (Done Yes) refl refl) refl)
stored_at_l6 (Read r f) s ch linked = never refl

module _ (m : Machine) (e : Call) where
  abbrev pub Snapped : Type 0
  Snapped = Passes m e AskStep × ((r : ℕ) × (m1 : Bool) × (a : ℕ) × ((task_at m e.task).place ≡ L6 r m1 a) × ((reading m e).at ≡ r))
      × ((next m e).answer ≡ Snapshot (task_at m e.task).cells)

  pub snapped : (reading m e).ends ≡ true → Snapped
  unfolding access_at move_at step
  snapped = go (check (rules_of m e)) refl
    where
      stepped : Passes m e AskStep → stores_link (move_at m e.task) ≡ true → Snapped
      stepped P h =
          let x = task_at m e.task in
          let a = access_at m e.task in
          let (r, m1, b, l6, v) = stored_at_l6 x.place (seen a m) (change_at m (change_of x.place)) (link_at m e.task (record_of a)).info h in (
            P,
            (
              r,
              m1,
              b,
              l6,
              ap (λ (k : Reading). k.at) (reading_is m e AskStep P)
                  ∙ ap (λ q. record_of (access_of q (change_at m (change_of q)) x.list)) l6,
            ),
            ap (λ (o : Out). o.answer) (next_is m e AskStep P) ∙ ap (answer_of x.cells) v,
          )

      asked : (ask : Ask) → Passes m e ask → (ending m e.task ask).ends ≡ true → Snapped
      asked (AskLlx r) P h = absurd (false≢true h)
      asked (AskScx n r written field new) P h = absurd (false≢true h)
      asked (AskVlx n) P h = absurd (false≢true h)
      asked (AskRead r f) P h = absurd (false≢true h)
      asked AskStep P h = stepped P h

      go : (c : Check) → check (rules_of m e) ≡ c → (read_by c m e).ends ≡ true → Snapped
      go (Ok _) c h = asked e.ask (record { passed = c; asks = refl }) h
      go (Err why) c h = absurd (false≢true h)
