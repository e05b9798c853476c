-- THE MISTAKES of document 01: three fail demand 3, each in a run that is written down and in the field that its theorem uses. Testing
-- m1 before helping at L8 and dropping links on a refused call are left to demand 2's exact steps and refusals.
use Prim.Native.Nat.{ℕ}
use native.Mathlib.Omega.{arith}
use mathlib.Core.Bool.{true, false, true≢false, false≢true}
use mathlib.Core.List.{[], ◌∷◌, ◌++◌}
use mathlib.Core.Path.{refl}
use borrow.Author.Tests.{ltb-true}
use Rattle.rules.specs.Words.{Call, Own, AtL8}
use Rattle.rules.specs.Next.{llx}
use Rattle.orders.specs.Demand.{at_h4, at_h8, Change, Verdict, Demand3}
use Rattle.forged.specs.Broken.{values_only, no_without_frozen, marks_late}
use Rattle.forged.proofs.Events.{begun, effect, verdict}
use Rattle.forged.proofs.Script.{computed, table, script, A, B, goes, reads, just, writes, closes, run_5}

-- once: A holds 0, freezes and stops; B helps, reads 0 and writes 5 back; A's H7 comes late and writes a second time
unfoldable pub late : ℕ → Call
late = script (reads A 0 ++ (writes A 0 7 ∷ goes A 2) ++ (llx B 0 ∷ goes B 13) ++ reads B 0 ++ (writes B 0 5 ∷ goes B 4) ++ goes A 1)

pub values_only_fails : Demand3 values_only table late → ⊥
unfolding computed table late values_only
values_only_fails D =
    let c = begun values_only table late 10 A 1 (just 0) 0 0 0 7 1 refl refl refl in
    let e = effect c 23 B (AtL8 0 false) refl (refl, refl) refl refl in
    let f = effect c 42 A Own refl (refl, refl) refl refl in
    absurd (omega (arith, D.once c 23 42 e f))

-- agree and no_never, run 5: A finds 1 gone, and answers no on what B has done
abbrev pub on_two_lem : Change no_without_frozen table run_5
unfolding computed table run_5 no_without_frozen
on_two_lem = begun no_without_frozen table run_5 20 A 2 (0 ∷ 1 ∷ 0 ∷ 0 ∷ []) 0 0 0 7 1 refl refl refl

no_of_the_owner : Verdict no_without_frozen table run_5 on_two_lem 55 false
unfolding computed table run_5 no_without_frozen
no_of_the_owner = verdict on_two_lem 55 A Own false refl (refl, refl) at_h4 (refl, refl)

pub no_without_frozen_disagrees : Demand3 no_without_frozen table run_5 → ⊥
unfolding computed table run_5 no_without_frozen
no_without_frozen_disagrees D =
    true≢false (D.agree on_two_lem 34 55 true false (verdict on_two_lem 34 B (AtL8 0 false) true refl (refl, refl) at_h8 (refl, refl)) no_of_the_owner)

pub no_without_frozen_fails : Demand3 no_without_frozen table run_5 → ⊥
unfolding computed table run_5 no_without_frozen
no_without_frozen_fails D = D.no_never on_two_lem 55 no_of_the_owner 33 (effect on_two_lem 33 B (AtL8 0 false) refl (refl, refl) refl refl)

-- closed: A closes 0, and after the effect it is not marked
unfoldable pub closing : ℕ → Call
closing = script (reads A 0 ++ (closes A 0 ∷ goes A 4))

pub marks_late_fails : Demand3 marks_late table closing → ⊥
unfolding computed table closing marks_late
marks_late_fails D =
    let c = begun marks_late table closing 10 A 1 (just 0) 1 0 0 7 1 refl refl refl in
    let e = effect c 13 A Own refl (refl, refl) refl refl in
    false≢true (D.closed c 13 e 0 (0, ltb-true 0 1 refl, refl, refl) 14 (ltb-true 13 14 refl)).1
