-- THE BOUNDS SPEAK OF SOMETHING: A's LLX of 0 and its SCX that closes 0 (n = 1, f = 1) take 9 and 5, with B's LLX of 1, and then its VLX and
-- its READ, which take 1 each, between their steps. And a machine whose LLX begins again at L6 exceeds them: B changes 0 each time that A
-- comes there.
use Prim.Native.Nat.{ℕ, suc, ◌<◌}
use native.Mathlib.Omega.{arith}
use mathlib.Core.Path.{◌≡◌, refl, ap, subst}
use mathlib.Core.Bool.{Bool, true, not}
use mathlib.Core.List.{List, ◌∷◌, ◌++◌}
use lib.Dec.{eqb}
use borrow.Author.Tests.{ne_eqb}
use Rattle.rules.specs.Words.{Cell, Idle, Machine, Ask, AskLlx, AskScx, AskVlx, AskRead, Call, Snapshot, Yes}
use Rattle.rules.specs.Claim.{both}
use Rattle.rules.proofs.Exact.{both_on}
use Rattle.rules.specs.Next.{next, llx, vlx, read}
use Rattle.orders.specs.Demand.{before, said, place, named, Starts, Going, Change, Holds}
use Rattle.bounds.specs.Bounds.{own, UndisturbedScx, UndisturbedLlx, Bounds}
use Rattle.forged.specs.Broken.{begins_again}
use Rattle.forged.proofs.Through.{silent, silent_is}
use Rattle.forged.proofs.Events.{starts, goes_on, begun}
use Rattle.forged.proofs.Without.{moves, hold_moves, nobody_holds}
use Rattle.forged.proofs.Script.{computed, table, script, A, B, goes, reads, writes, closes, just}

unfoldable pub between : ℕ → Call
between =
    script
    ((llx A 0 ∷ llx B 1 ∷ goes A 4)
    ++ goes B 9
    ++ goes A 5
    ++ (closes A 0 ∷ vlx B 1 (just 1) ∷ goes A 2)
    ++ goes B 1
    ++ (read B 1 0 ∷ goes B 1)
    ++ goes A 3)

-- each operation is in progress before its last own step, and that step ends it
abbrev pub Ends : ℕ → ℕ → Ask → ℕ → ℕ → Type 0
Ends s t ask k n = Starts next table between s t ask × Going next table between s t k × (own next table between s t k ≡ n)
    × (place next table between (suc k) t ≡ Idle)

pub llx_speaks : Ends 0 A (AskLlx 0) 19 8 × ((cells : List Cell) × (said next table between 19 ≡ Snapshot cells))
unfolding computed table between own
llx_speaks = ((starts next table between refl refl, goes_on next table between A 0 19 refl refl, refl, refl), (_, refl))

pub scx_speaks : Ends 20 A (AskScx 1 1 0 0 7) 29 4 × (said next table between 29 ≡ Yes)
unfolding computed table between own
scx_speaks = ((starts next table between refl refl, goes_on next table between A 20 29 refl refl, refl, refl), refl)

pub vlx_speaks : Ends 21 B (AskVlx 1) 24 0
unfolding computed table between own
vlx_speaks = (starts next table between refl refl, goes_on next table between B 21 24 refl refl, refl, refl)

pub read_speaks : Ends 25 B (AskRead 1 0) 26 0
unfolding computed table between own
read_speaks = (starts next table between refl refl, goes_on next table between B 25 26 refl refl, refl, refl)

-- undisturbed: until the SCX nobody alters the info of 0, and then nobody but A
abbrev others_move : ℕ → Machine → Bool
others_move j x = both (not (eqb (between j).task A)) (moves next table between 0 j x)

before_scx : silent next table between (moves next table between 0) 0 20 ≡ true
unfolding computed table between
before_scx = refl

during_scx : silent next table between others_move 20 30 ≡ true
unfolding computed table between
during_scx = refl

pub undisturbed_llx_speaks : UndisturbedLlx next table between 0 A 0 20
undisturbed_llx_speaks =
    record {
      not_closed = λ c j l. absurd (omega arith);
      not_held = λ c j l. absurd (omega arith);
      since_start = λ c j l1 l2 n H. nobody_holds 0 0 20 before_scx c j l1 l2 H;
    }

abbrev pub change : Change next table between
unfolding computed table between
change = begun next table between 20 A 1 (just 0) 1 0 0 7 1 refl refl refl

only_0 : (i : ℕ) → i < change.n → named next table between change i ≡ 0
unfolding change
only_0 i l = let z : i ≡ 0 = omega arith in rw z refl

pub undisturbed_scx_speaks : UndisturbedScx next table between change 30
unfolding change
undisturbed_scx_speaks =
    record {
      since_read = λ d i e j l R l1 l2 H. nobody_holds 0 0 20 before_scx d j (omega arith) l2
          (subst (λ r. Holds next table between d j r) (only_0 i l) H);
      since_start = λ d i j l l1 l2 n H. silent_is next table between others_move 20 30 during_scx j l1 l2
          (both_on (not (eqb (between j).task A)) (moves next table between 0 j (before next table between j)) (ap not (ne_eqb (between j).task A n))
          (hold_moves d j 0 (subst (λ r. Holds next table between d j r) (only_0 i l) H)));
    }

-- llx: 39 own steps, and no end
abbrev round : ℕ → List Call
round new = goes A 8 ++ reads B 0 ++ (writes B 0 new ∷ goes B 4) ++ goes A 1

unfoldable pub chased : ℕ → Call
chased = script ((llx A 0 ∷ round 6) ++ round 7 ++ round 8 ++ round 9 ++ goes A 3)

pub begins_again_fails : Bounds begins_again table chased → ⊥
unfolding computed table chased begins_again own
begins_again_fails D =
    let l : own begins_again table chased 0 A 100 < 39 =
    D.llx 0 A 0 100 (starts begins_again table chased refl refl) (goes_on begins_again table chased A 0 100 refl refl) in
    let z : own begins_again table chased 0 A 100 ≡ 39 = refl in
    omega arith
