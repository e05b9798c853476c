-- RANK: how many own steps a task still has to make at most. At a place where it stays no act raises it; each own step lowers it (Lower.antt).
use Prim.Native.Nat.{ℕ, ◌+◌, ◌-◌, ◌*◌, ◌≤◌}
use mathlib.Core.Path.{◌≡◌}
use mathlib.Core.Bool.{Bool, true, false}
use mathlib.Core.Logic.{⊎_elim}
use native.Mathlib.Omega.{arith}
use native.Mathlib.Nat.{le_refl}
use Rattle.rules.specs.Words.{State, InProgress, Committed, Aborted, After, Own, AtL8, AtL11}
use Rattle.rules.specs.Words.{Place, Idle, L1, L2, L3, L4, L5, L6, L7, L8, L9, L10, L11, H1, H2, H3, H4, H5, H6, H7, H8, Vlx, Read}
use Rattle.table.specs.Table.{pick}
use Rattle.rules.specs.Places.{change_of}
use Rattle.keeps.proofs.Stores.{picked}
use Rattle.clauses.proofs.Memory.{Shared, Act, apply}
use Rattle.clauses.proofs.History.{Ghost, Reading}
use Rattle.clauses.proofs.Clauses.{Off, Guard}
use Rattle.clauses.proofs.Rights.{ci, ai, st?}
use Rattle.clauses.proofs.Frame.{same_terms, stay_state}
use Rattle.bounds.proofs.Marks.{count, all}

-- the steps that are left after the help
abbrev pub rest : After → ℕ
rest Own = 0
rest (AtL8 r m1) = 18
rest AtL11 = 0

abbrev pub ended : State → Bool
ended InProgress = false
ended Committed = true
ended Aborted = true

unfoldable pub rank : Shared → Place → ℕ
rank S Idle = 0
rank S (L1 r) = 39
rank S (L2 r m1) = 38
rank S (L3 r m1 a) = 37
rank S (L4 r m1 a s) = 36
rank S (L5 r m1 a f) = 25 - f
rank S (L6 r m1 a) = 21
rank S (L7 r m1 a) = pick (ended (S.state a)) 20 35
rank S (L8 r m1 a) = pick (ended (S.state a)) 19 34
rank S (L9 r) = 18
rank S (L10 r b) = 17
rank S (L11 r) = 16
rank S (H1 u i after) = 2 * ((S.terms u).n - i) + all (S.terms u) + 3 + rest after
rank S (H2 u i after) = 2 * ((S.terms u).n - i) + all (S.terms u) + 2 + rest after
rank S (H3 u after) = 2 + rest after
rank S (H4 u after) = 1 + rest after
rank S (H5 u after) = all (S.terms u) + 3 + rest after
rank S (H6 u i after) = count (S.terms u).closes i (4 - i) + 2 + rest after
rank S (H7 u after) = 2 + rest after
rank S (H8 u after) = 1 + rest after
rank S (Vlx n i) = n - i
rank S (Read r f) = 1

-- AN ACT does not raise it, unless it takes the number that the place names
module _ (S : Shared) (G : Ghost) (t : ℕ) (k : Reading) (b : Act) (g : Guard S G t b) where
  -- the end of a change lowers what waits for it
  down : (x m n : ℕ) → Off b x → m ≤ n → pick (ended ((apply b S).state x)) m n ≤ pick (ended (S.state x)) m n
  down x m n o h = ⊎_elim
      (λ (e : S.state x ≡ InProgress). rw e (picked (λ y. y ≤ n) (ended ((apply b S).state x)) m n (λ _. h) (λ _. le_refl n)))
      (λ z. rw (stay_state S G t k b g x o (λ q. ⊎_elim (λ c. ci c q) (λ a. ai a q) z)) (le_refl _)) (st? (S.state x))

  pub keeps : (q : Place) → Off b (change_of q) → rank (apply b S) q ≤ rank S q
  unfolding rank
  keeps Idle o = le_refl _
  keeps (L1 r) o = le_refl _
  keeps (L2 r m1) o = le_refl _
  keeps (L3 r m1 a) o = le_refl _
  keeps (L4 r m1 a s) o = le_refl _
  keeps (L5 r m1 a f) o = le_refl _
  keeps (L6 r m1 a) o = le_refl _
  keeps (L7 r m1 a) o = down a 20 35 o (omega arith)
  keeps (L8 r m1 a) o = down a 19 34 o (omega arith)
  keeps (L9 r) o = le_refl _
  keeps (L10 r a) o = le_refl _
  keeps (L11 r) o = le_refl _
  keeps (H1 u i after) o = rw (same_terms S G t k b u o) (le_refl _)
  keeps (H2 u i after) o = rw (same_terms S G t k b u o) (le_refl _)
  keeps (H3 u after) o = le_refl _
  keeps (H4 u after) o = le_refl _
  keeps (H5 u after) o = rw (same_terms S G t k b u o) (le_refl _)
  keeps (H6 u i after) o = rw (same_terms S G t k b u o) (le_refl _)
  keeps (H7 u after) o = le_refl _
  keeps (H8 u after) o = le_refl _
  keeps (Vlx n i) o = le_refl _
  keeps (Read r f) o = le_refl _
