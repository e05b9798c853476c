-- MACHINES WITHOUT ONE THING fail demand 3, each in a run that is written down and in the field that its theorem uses.
use Prim.Native.Nat.{ℕ, ◌≤◌}
use native.Mathlib.Omega.{arith}
use mathlib.Core.Bool.{true, false}
use mathlib.Core.List.{[], ◌∷◌, ◌++◌}
use mathlib.Core.Path.{◌≡◌, refl, ap}
use borrow.Author.Tests.{ltb-true}
use Rattle.rules.specs.Words.{Call, Own}
use Rattle.rules.specs.Next.{llx, scx}
use Rattle.orders.specs.Demand.{at_h4, at_h8, h1, Demand3}
use Rattle.forged.specs.Broken.{uncompared, mark_unread, hold_anyway, hold_first, commit_first, one_more, twice_given}
use Rattle.forged.proofs.Events.{begun, effect, verdict}
use Rattle.forged.proofs.Without.{no_effect, no_hold, read_by}
use Rattle.forged.proofs.Script.{computed, table, script, A, B, goes, reads, just, writes, closes}

-- no_because, no comparison at L6: B takes hold of 0 inside A's LLX; A's SCX answers no, and nobody took hold since its linked read
unfoldable pub overtaken : ℕ → Call
overtaken =
    script
    (reads B 0
    ++ (writes B 0 7 ∷ llx A 0 ∷ goes A 2)
    ++ goes B 1
    ++ goes A 7
    ++ (writes A 0 7 ∷ goes A 4))

pub uncompared_fails : Demand3 uncompared table overtaken → ⊥
unfolding computed table overtaken uncompared
uncompared_fails D =
    let c = begun uncompared table overtaken 22 A 1 (just 0) 0 0 0 7 2 refl refl refl in
    let (d, i, e, h, l, r, l1, l2, other, H) = D.no_because c 26 (verdict c 26 A Own false refl (refl, refl) at_h4 (refl, refl)) in
    no_hold c 26 refl d i e h l r l1 l2 H

-- closed, m2 not looked at: A closes 0, B reads it all the same, and takes hold of what is closed
unfoldable pub after_closing : ℕ → Call
after_closing = script (reads A 0 ++ (closes A 0 ∷ goes A 5) ++ reads B 0 ++ (writes B 0 7 ∷ goes B 1))

pub mark_unread_fails : Demand3 mark_unread table after_closing → ⊥
unfolding computed table after_closing mark_unread
mark_unread_fails D =
    let c = begun mark_unread table after_closing 10 A 1 (just 0) 1 0 0 7 1 refl refl refl in
    let e = effect c 14 A Own refl (refl, refl) refl refl in
    let z : ◌≡◌ {A = ℕ} 2 1 = (D.closed c 14 e 0 (0, ltb-true 0 1 refl, refl, refl) 28 (ltb-true 14 28 refl)).2 in
    absurd (omega arith)

-- closed, H1 unconditional: both read 0, A closes it, B takes hold of what is closed
unfoldable pub both_linked : ℕ → Call
both_linked = script (reads A 0 ++ reads B 0 ++ (closes A 0 ∷ goes A 5) ++ (writes B 0 7 ∷ goes B 1))

pub hold_anyway_fails : Demand3 hold_anyway table both_linked → ⊥
unfolding computed table both_linked hold_anyway
hold_anyway_fails D =
    let c = begun hold_anyway table both_linked 20 A 1 (just 0) 1 0 0 7 1 refl refl refl in
    let e = effect c 24 A Own refl (refl, refl) refl refl in
    let z : ◌≡◌ {A = ℕ} 2 1 = (D.closed c 24 e 0 (0, ltb-true 0 1 refl, refl, refl) 28 (ltb-true 24 28 refl)).2 in
    absurd (omega arith)

-- untouched, only the first record held: A reads 0 and 1, B changes 1, A's change of <0, 1> takes effect
unfoldable pub one_stale : ℕ → Call
one_stale =
    script
    (reads A 0
    ++ reads A 1
    ++ reads B 1
    ++ (writes B 1 7 ∷ goes B 4)
    ++ (scx A 2 (0 ∷ 1 ∷ 0 ∷ 0 ∷ []) 0 0 0 7 ∷ goes A 3))

pub hold_first_fails : Demand3 hold_first table one_stale → ⊥
unfolding computed table one_stale hold_first
hold_first_fails D =
    let c = begun hold_first table one_stale 35 A 2 (0 ∷ 1 ∷ 0 ∷ 0 ∷ []) 0 0 0 7 2 refl refl refl in
    let (e, r, still) = D.untouched c 38 (effect c 38 A Own refl (refl, refl) refl refl) 1 (ltb-true 1 2 refl) in
    let l : e ≤ 32 = read_by c 1 e 32 r refl in
    let z : ◌≡◌ {A = ℕ} 1 0 = ap (λ x. x.stamp) ((still 33 (omega arith) (ltb-true 33 38 refl)).0 0) in
    absurd (omega arith)

-- yes_after, committed before the write: B reads 0 between A's commit and A's write; its H7 finds a cell that its link has not, and it
-- answers yes
unfoldable pub between : ℕ → Call
between =
    script
    (reads A 0
    ++ (writes A 0 7 ∷ goes A 3)
    ++ (llx B 0 ∷ goes B 8)
    ++ goes A 1
    ++ goes B 1
    ++ (writes B 0 7 ∷ goes B 5))

pub commit_first_fails : Demand3 commit_first table between → ⊥
unfolding computed table between commit_first
commit_first_fails D =
    let c = begun commit_first table between 25 B 1 (just 0) 0 0 0 7 2 refl refl refl in
    let (j, l, e) = D.yes_after c 30 (verdict c 30 B Own true refl (refl, refl) at_h8 (refl, refl)) in
    no_effect c 30 refl j l e

-- alters_its_field, another value written
unfoldable pub short : ℕ → Call
short = script (reads A 0 ++ (writes A 0 7 ∷ goes A 3))

pub one_more_fails : Demand3 one_more table short → ⊥
unfolding computed table short one_more
one_more_fails D =
    let c = begun one_more table short 10 A 1 (just 0) 0 0 0 7 1 refl refl refl in
    let e = effect c 13 A Own refl (refl, refl) refl refl in
    let z : ◌≡◌ {A = ℕ} 8 7 = ap (λ x. x.value) (D.alters_its_field c 13 e) in
    absurd (omega arith)

-- not_taken, a number given twice: B's start takes the number that A works on
unfoldable pub both_start : ℕ → Call
both_start = script (reads A 0 ++ reads B 0 ++ (writes A 0 7 ∷ writes B 0 7 ∷ []))

pub twice_given_fails : Demand3 twice_given table both_start → ⊥
unfolding computed table both_start twice_given
twice_given_fails D = D.not_taken (begun twice_given table both_start 21 B 1 (just 0) 0 0 0 7 1 refl refl refl) A Own h1
