-- A machine whose H8 lets go of its record fails demand 3, in no_because: a change on which work was finished takes hold again.
use Prim.Native.Nat.{ℕ, ◌<◌}
use native.Mathlib.Omega.{arith}
use mathlib.Core.Path.{◌≡◌, refl, subst}
use mathlib.Core.Logic.{⊎_elim}
use mathlib.Core.Bool.{true, false}
use mathlib.Core.List.{◌∷◌, ◌++◌}
use borrow.Author.Tests.{ltb-true}
use Rattle.rules.specs.Words.{Own, Call}
use Rattle.rules.specs.Claim.{all_below}
use Rattle.rules.specs.Next.{llx}
use Rattle.clauses.proofs.Updates.{leb_case}
use Rattle.orders.specs.Demand.{at_h4, at_h8, Change, named, Holds, Snap, LinkedRead, Verdict, Demand3}
use Rattle.forged.specs.Broken.{lets_go}
use Rattle.forged.proofs.Through.{silent}
use Rattle.forged.proofs.Events.{snap, begun, verdict}
use Rattle.forged.proofs.Without.{moves, nobody_holds}
use Rattle.forged.proofs.OneChange.{only, same_verdict}
use Rattle.forged.proofs.Script.{computed, table, script, A, B, goes, reads, writes, just}

-- B comes to help A's change and stops; A's change answers yes; A reads 0 again; B's H1 takes hold for the finished change; A's next change
-- answers no
unfoldable pub late_hold : ℕ → Call
late_hold =
    script
    (reads A 0
    ++ (writes A 0 7 ∷ goes A 1)
    ++ (llx B 0 ∷ goes B 6)
    ++ goes A 3
    ++ reads A 0
    ++ goes B 1
    ++ (writes A 0 9 ∷ goes A 4))

abbrev first : Change lets_go table late_hold
unfolding computed table late_hold lets_go
first = begun lets_go table late_hold 10 A 1 (just 0) 0 0 0 7 1 refl refl refl

abbrev second : Change lets_go table late_hold
unfolding computed table late_hold lets_go
second = begun lets_go table late_hold 33 A 1 (just 0) 0 0 0 9 2 refl refl refl

first_yes : Verdict lets_go table late_hold first 21 true
unfolding computed table late_hold lets_go
first_yes = verdict first 21 A Own true refl (refl, refl) at_h8 (refl, refl)

second_no : Verdict lets_go table late_hold second 37 false
unfolding computed table late_hold lets_go
second_no = verdict second 37 A Own false refl (refl, refl) at_h4 (refl, refl)

read_again : Snap lets_go table late_hold 31 A 0
unfolding computed table late_hold lets_go
read_again = snap lets_go table late_hold A 0 22 31 refl refl refl refl (refl, refl) refl refl

quiet : silent lets_go table late_hold (moves lets_go table late_hold 0) 32 37 ≡ true
unfolding computed table late_hold lets_go
quiet = refl

before_it : all_below 32 (only lets_go table late_hold 10) ≡ true
unfolding computed table late_hold
before_it = refl

-- whoever took hold after that read did it at 32, and is the first change, which was finished
module _ (d : Change lets_go table late_hold) (h : ℕ) (l1 : 31 < h) (l2 : h < 37) (H : Holds lets_go table late_hold d h 0) where
  at_32 : h ≡ 32
  at_32 = ⊎_elim (λ l. absurd (nobody_holds 0 32 37 quiet d h l l2 H)) (λ l. omega arith) (leb_case 33 h)

  none : ⊥
  unfolding first
  none = H.unfinished 21 true (omega (arith, at_32))
      (same_verdict first d 32 before_it (omega (arith, at_32, H.during.later)) 21 true first_yes)

only_0 : (i : ℕ) → i < second.n → named lets_go table late_hold second i ≡ 0
unfolding second
only_0 i l = let z : i ≡ 0 = omega arith in rw z refl

since_31 : (e : ℕ) → LinkedRead lets_go table late_hold second 0 e → 30 < e
unfolding second
since_31 e R = ⊎_elim (λ l. absurd (R.last 31 (omega arith) (ltb-true 31 33 refl) read_again)) (λ l. l) (leb_case e 30)

pub lets_go_fails : Demand3 lets_go table late_hold → ⊥
lets_go_fails D =
    let (d, i, e, h, l, R, l1, l2, other, H) = D.no_because second 37 second_no in
    let z = only_0 i l in
    let a = since_31 e (subst (λ r. LinkedRead lets_go table late_hold second r e) z R) in
    none d h (omega arith) l2 (subst (λ r. Holds lets_go table late_hold d h r) z H)
