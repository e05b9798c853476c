-- A machine whose LLX does not renew the link fails demand 3, in no_because: A reads 0, B changes it, A reads it again; A's SCX answers no
-- by its old link, and nobody took hold since the second read.
use Prim.Native.Nat.{ℕ, ◌<◌}
use native.Mathlib.Omega.{arith}
use mathlib.Core.Path.{◌≡◌, refl, subst}
use mathlib.Core.Logic.{⊎_elim}
use mathlib.Core.Bool.{true, false}
use mathlib.Core.List.{◌∷◌, ◌++◌}
use borrow.Author.Tests.{ltb-true}
use Rattle.rules.specs.Words.{Call, Own}
use Rattle.rules.specs.Next.{llx}
use Rattle.clauses.proofs.Updates.{leb_case}
use Rattle.orders.specs.Demand.{at_h4, named, Change, Holds, Snap, LinkedRead, Verdict, Demand3}
use Rattle.forged.specs.Broken.{cached}
use Rattle.forged.proofs.Through.{silent}
use Rattle.forged.proofs.Events.{snap, begun, verdict}
use Rattle.forged.proofs.Without.{moves, nobody_holds}
use Rattle.forged.proofs.Script.{computed, table, script, A, B, goes, reads, just, writes}

unfoldable pub reread : ℕ → Call
reread = script (reads A 0 ++ reads B 0 ++ (writes B 0 7 ∷ goes B 4) ++ (llx A 0 ∷ goes A 8) ++ (writes A 0 9 ∷ goes A 4))

second_read : Snap cached table reread 33 A 0
unfolding computed table reread cached
second_read = snap cached table reread A 0 25 33 refl refl refl refl (refl, refl) refl refl

quiet : silent cached table reread (moves cached table reread 0) 32 38 ≡ true
unfolding computed table reread cached
quiet = refl

abbrev second : Change cached table reread
unfolding computed table reread cached
second = begun cached table reread 34 A 1 (just 0) 0 0 0 9 2 refl refl refl

answers_no : Verdict cached table reread second 38 false
unfolding computed table reread cached
answers_no = verdict second 38 A Own false refl (refl, refl) at_h4 (refl, refl)

only_0 : (i : ℕ) → i < second.n → named cached table reread second i ≡ 0
unfolding second
only_0 i l = let z : i ≡ 0 = omega arith in rw z refl

late : (e : ℕ) → LinkedRead cached table reread second 0 e → 32 < e
unfolding second
late e R = ⊎_elim (λ l. absurd (R.last 33 (omega arith) (ltb-true 33 34 refl) second_read)) (λ l. l) (leb_case e 32)

pub cached_fails : Demand3 cached table reread → ⊥
cached_fails D =
    let (d, i, e, h, l, R, l1, l2, other, H) = D.no_because second 38 answers_no in
    let z = only_0 i l in
    nobody_holds 0 32 38 quiet d h (omega (arith, late e (subst (λ r. LinkedRead cached table reread second r e) z R))) l2
    (subst (λ r. Holds cached table reread d h r) z H)
