-- "an undisturbed LLX on an open record nobody holds takes 9", and answers the snapshot: each step finds the record free and goes on to
-- the next read.
use Prim.Native.Nat.{ℕ, suc, ◌+◌, ◌-◌, ◌<◌}
use mathlib.Core.Path.{◌≡◌, refl, sym, ap, ◌∙◌, subst}
use mathlib.Core.Bool.{Bool, true, false, true≢false}
use mathlib.Core.Logic.{inl, inr, ◌↔◌, ◌≢◌, ⊎_elim}
use mathlib.Core.List.{List}
use lib.Dec.{ltb}
use borrow.Author.Tests.{ltb-true, ltb-false, eq-eqb}
use native.Mathlib.Omega.{arith}
use native.Mathlib.Nat.{le_refl}
use Rattle.rules.specs.Words.{Cell, Answer, State, InProgress, Committed, Aborted, Change, Seen, Machine, Call, AskLlx, Record, Snapshot}
use Rattle.rules.specs.Words.{Place, Idle, L1, L2, L3, L4, L5, L6}
use Rattle.table.specs.Table.{pick}
use Rattle.rules.specs.Places.{resume, is_idle}
use Rattle.rules.specs.Resume.{after_l4}
use Rattle.rules.specs.Next.{next}
use Rattle.clauses.proofs.Memory.{Shared, apply}
use Rattle.clauses.proofs.Steps.{act_at, Saw}
use Rattle.clauses.proofs.Frame.{stay_ended, stay_open}
use Rattle.clauses.proofs.Course.{Course, S, history, turn}
use Rattle.orders.specs.Demand.{before, said, place, info, Going, Starts, Holds}
use Rattle.orders.specs.Demand.{Change as Asked}
use Rattle.orders.proofs.Calls.{Passes, did_is, obeyed}
use Rattle.orders.proofs.Run.{Run, course}
use Rattle.orders.proofs.Changes.{start_passes}
use Rattle.orders.proofs.Effects.{is_in}
use Rattle.orders.proofs.Holders.{by_a_hold, nobody_holds, is_open}
use Rattle.bounds.specs.Bounds.{step_of, own, UndisturbedLlx}
use Rattle.bounds.proofs.Along.{begun, not_taken, left_in}
use Rattle.bounds.proofs.Count.{Down, exactly}

-- r is open, its info is a, and nobody holds it
abbrev Free : Shared → ℕ → ℕ → Type 0
Free S r a = (S.mark r ≡ false) × (S.info r ≡ a) × (S.state a ≢ InProgress)

-- the places it passes, with the own steps to come
data Reads (r a : ℕ) : Place → ℕ → Type 0 where
  at_l1 : Reads r a (L1 r) 9
  at_l2 : (m1 : Bool) → Reads r a (L2 r m1) 8
  at_l3 : (m1 : Bool) → Reads r a (L3 r m1 a) 7
  at_l4 : (m1 : Bool) (s : State) → s ≢ InProgress → Reads r a (L4 r m1 a s) 6
  at_l5 : (m1 : Bool) (f n : ℕ) → f < 4 → n ≡ 5 - f → Reads r a (L5 r m1 a f) n
  at_l6 : (m1 : Bool) → Reads r a (L6 r m1 a) 1

abbrev Llx : ℕ → ℕ → Shared → Place → ℕ → Type 0
Llx r a Z q n = Free Z r a × Reads r a q n

busy : (r a : ℕ) (q : Place) (n : ℕ) → Reads r a q n → (0 < n) × (is_idle q ≡ false)
busy r a q n at_l1 = (omega arith, refl)
busy r a q n (at_l2 m1) = (omega arith, refl)
busy r a q n (at_l3 m1) = (omega arith, refl)
busy r a q n (at_l4 m1 s d) = (omega arith, refl)
busy r a q n (at_l5 m1 f j h z) = (omega arith, refl)
busy r a q n (at_l6 m1) = (omega arith, refl)

-- a state that is not InProgress, and no mark: to L5
to_l5 : (r a : ℕ) (m1 : Bool) (x : State) (m2 : Bool) → x ≢ InProgress → m2 ≡ false → Reads r a (after_l4 r m1 a x m2) 5
to_l5 r a m1 InProgress m2 n e = absurd (n refl)
to_l5 r a m1 Committed true n e = absurd (true≢false e)
to_l5 r a m1 Committed false n e = at_l5 m1 0 5 (omega arith) refl
to_l5 r a m1 Aborted m2 n e = at_l5 m1 0 5 (omega arith) refl

next_cell : (r a : ℕ) (m1 : Bool) (f n : ℕ) → f < 4 → n ≡ 4 - f → (b : Bool) → ltb f 3 ≡ b → Reads r a (pick b (L5 r m1 a (f + 1)) (L6 r m1 a)) n
next_cell r a m1 f n h z true e = let l = ltb-true f 3 e in at_l5 m1 (f + 1) n (omega arith) (omega arith)
next_cell r a m1 f n h z false e = let l = ltb-false f 3 e in let o : n ≡ 1 = omega arith in rw o (at_l6 m1)

-- the answers that are a snapshot
abbrev Tells : Answer → Type 0
Tells x = (cells : List Cell) × (x ≡ Snapshot cells)

one_step : (S : Shared) (r a : ℕ) (s : Seen) (ch : Change) (linked : ℕ) → Free S r a → (q : Place) (n : ℕ) → Reads r a q n → Saw S s q
    → Down (Llx r a) Tells n (apply (act_at S q) S) (resume q s ch linked)
unfolding act_at apply
one_step S r a s ch linked free q n at_l1 saw = inr (8, refl, (free, at_l2 s.bit))
one_step S r a s ch linked free q n (at_l2 m1) saw = inr (7, refl, (free, rw (saw, free.1) (at_l3 m1)))
one_step S r a s ch linked free q n (at_l3 m1) saw = inr (6, refl, (free, at_l4 m1 s.state (rw saw free.2)))
one_step S r a s ch linked free q n (at_l4 m1 x d) saw = inr (5, refl, (free, to_l5 r a m1 x s.bit d (saw ∙ free.0)))
one_step S r a s ch linked free q n (at_l5 m1 f j h z) saw = inr (4 - f, omega arith, (free, next_cell r a m1 f (4 - f) h refl (ltb f 3) refl))
one_step S r a s ch linked free q n (at_l6 m1) saw = rw (eq-eqb _ _ (saw ∙ free.1)) (inl (refl, refl, λ cs. (cs, refl)))

module _ (m : Machine) (calls : ℕ → Call) (R : Run m calls) (s t r K : ℕ) (B : Starts next m calls s t (AskLlx r))
    (U : UndisturbedLlx next m calls s t r K) where
  abbrev M : ℕ → Machine
  M k = before next m calls k

  abbrev C : Course
  C = course m calls R

  abbrev at : ℕ → Place
  at k = place next m calls k t

  abbrev a : ℕ
  a = info next m calls s r

  abbrev Q : Shared → Place → ℕ → Type 0
  Q = Llx r a

  P : Passes (M s) (calls s) (AskLlx r)
  P = start_passes m calls R s t (AskLlx r) B

  start : (t < m.p) × (at (suc s) ≡ L1 r)
  start = begun m calls R s t (AskLlx r) B (L1 r) (obeyed (M s) (calls s) _ P).0 (R.goes_to s (AskLlx r) P)

  tl : t < m.p
  tl = start.0

  rl : r < m.n
  rl = subst (λ n. r < n) (R.same_n s) (obeyed (M s) (calls s) _ P).1.1.0

  info_is : (S C s).info r ≡ a
  info_is = ap (λ (x : Record). x.info) (is_in m calls R s r rl)

  first : Q (S C (suc s)) (at (suc s)) 9
  unfolding apply
  first = (
    subst (λ (Z : Shared). Free Z r a) (sym ((turn C s).shared ∙ ap (λ b. apply b (S C s)) (did_is (M s) (calls s) _ P))) (
      is_open m calls R s r rl U.not_held U.not_closed,
      info_is,
      subst (λ a. (S C s).state a ≢ InProgress) info_is (nobody_holds m calls R s r rl U.not_held),
    ),
    subst (λ q. Reads r a q 9) (sym start.1) at_l1,
  )

  -- every other call leaves the info, so no mark is set, and a state that is final stays so
  stays : (k n : ℕ) → Going next m calls s t k → k < K → Q (S C k) (at k) n → step_of t (calls k) ≡ false → Q (S C (suc k)) (at k) n
  stays k n g c (f, p) h =
      let b = g.busy k g.later (le_refl k) in (
        (
          ap (λ (Z : Shared). Z.mark r) (turn C k).shared ∙ stay_open (S C k) (history C k) (C.who k) (C.reads k) (C.act k) (turn C k).guard r
              (subst (λ a. (S C k).state a ≢ InProgress) (sym f.1) f.2) f.0,
          left_in m calls R t tl k b (λ x. x.info) r rl h (λ o. ⊎_elim (λ e. e)
              (λ (d : (d : Asked next m calls) × Holds next m calls d k r). absurd (U.since_start d.0 k g.later c o d.1))
              (by_a_hold m calls R k r rl)) ∙ f.1,
          subst (λ (Z : Shared). Z.state a ≢ InProgress) (sym (turn C k).shared)
              (stay_ended (S C k) (history C k) (C.who k) (C.reads k) (C.act k) (turn C k).guard a
              (not_taken C k a (λ z. (z, inl (r, f.1)))) f.2),
        ),
        p,
      )

  pub llx_takes : (s < K → Going next m calls s t K ↔ own next m calls s t K < 9)
      × (Going next m calls s t K → at (suc K) ≡ Idle → Tells (said next m calls K))
  llx_takes = exactly m calls R s t tl Q Tells K 9 first
      (λ k n g p s ch linked e w. one_step (S C k) r a s ch linked p.0 (at k) n p.1 w) stays (λ Z q n p. busy r a q n p.1)
