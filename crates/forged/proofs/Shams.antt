-- THE SHAMS of document 01. Five fail demand 3, each in a short run and in the field that its theorem uses. A machine that refuses all
-- calls meets demand 3 (proofs/Beyond.antt): it is the exact refusals that stop it. The made-up tally is no part of this machine.
use Prim.Native.Nat.{ℕ}
use native.Mathlib.Omega.{arith}
use native.Mathlib.Nat.{lt_trans}
use mathlib.Core.Bool.{true, false, false≢true}
use mathlib.Core.Logic.{⊎_elim}
use mathlib.Core.List.{◌∷◌, ◌++◌}
use mathlib.Core.Path.{◌≡◌, refl, ap}
use borrow.Author.Tests.{ltb-true}
use Rattle.rules.specs.Words.{Call, Own}
use Rattle.rules.specs.Answer.{number}
use Rattle.orders.specs.Demand.{at_h4, at_h8, h4, cell, spot, Change, Effect, Demand3}
use Rattle.forged.specs.Places.{isH}
use Rattle.forged.specs.Broken.{always_aborts, always_yes, untouching, at_once, yes_to_all}
use Rattle.forged.proofs.Events.{begun, verdict}
use Rattle.forged.proofs.Without.{idle_works, effect_at, no_effect, said_no}
use Rattle.forged.proofs.OneChange.{only_start}
use Rattle.forged.proofs.Script.{computed, table, script, A, B, goes, reads, just, writes}

-- A reads 0 and makes a change of it, alone
unfoldable pub alone : ℕ → Call
alone = script (reads A 0 ++ (writes A 0 7 ∷ goes A 4))

-- no_because: nobody else ever took hold
pub always_aborts_fails : Demand3 always_aborts table alone → ⊥
unfolding computed table alone always_aborts
always_aborts_fails D =
    let c = begun always_aborts table alone 10 A 1 (just 0) 0 0 0 7 1 refl refl refl in
    let (d, i, e, h, l, r, l1, l2, other, H) = D.no_because c 12 (verdict c 12 A Own false refl (refl, refl) at_h4 (refl, refl)) in
    other (only_start 10 12 refl d (lt_trans H.during.later l2))

-- yes_after: the cell never altered
pub untouching_fails : Demand3 untouching table alone → ⊥
unfolding computed table alone untouching
untouching_fails D =
    let c = begun untouching table alone 10 A 1 (just 0) 0 0 0 7 1 refl refl refl in
    let (j, l, e) = D.yes_after c 14 (verdict c 14 A Own true refl (refl, refl) at_h8 (refl, refl)) in
    no_effect c 14 refl j l e

-- by_an_effect: the cell alters in a step from H1
pub at_once_fails : Demand3 at_once table alone → ⊥
unfolding computed table alone at_once
at_once_fails D = ⊎_elim kept found (D.by_an_effect 11 0 0 (ltb-true 0 2 refl))
  where
    kept : cell at_once table alone 12 0 0 ≡ cell at_once table alone 11 0 0 → ⊥
    kept same = let z : ◌≡◌ {A = ℕ} 1 0 = ap (λ x. x.stamp) same in absurd (omega arith)

    found : (c : Change at_once table alone) × Effect at_once table alone c 11
        × (0 ≡ spot at_once table alone c)
        × (0 ≡ c.field) → ⊥
    found (c, e, r, f) = false≢true (ap (isH 7) (effect_at c 11 e))

-- finishes: both read 0, both start an SCX of it, A holds it; B answers yes on what its H4 has aborted
unfoldable pub rivals : ℕ → Call
rivals = script (reads A 0 ++ reads B 0 ++ (writes A 0 7 ∷ writes B 0 7 ∷ goes A 1) ++ goes B 4)

pub always_yes_fails : Demand3 always_yes table rivals → ⊥
unfolding computed table rivals always_yes
always_yes_fails D =
    ⊎_elim (λ on. idle_works on.0 refl)
    (λ (P, (c, b, u, v)). let z : ◌≡◌ {A = ℕ} 4 5 = ap number (said_no c 26 b v refl refl) in absurd (omega arith))
    (D.finishes 26 B 2 Own h4)

-- is_a_change: yes to every call, and nothing done
pub yes_to_all_fails : Demand3 yes_to_all table alone → ⊥
unfolding computed table alone yes_to_all
yes_to_all_fails D =
    ⊎_elim (λ (why, e). let z : ◌≡◌ {A = ℕ} 0 1 = cc in absurd (omega arith))
    (λ (c, e). let z : ◌≡◌ {A = ℕ} 4 0 = ap number c.accepted in absurd (omega arith))
    (D.is_a_change 10 1 0 0 0 7 refl)
