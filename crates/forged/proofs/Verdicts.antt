-- A verdict comes in every way that demand 3 names: by H3, by H4 and by H8, to the owner, and to helpers from L8 and from L11.
use Prim.Native.Nat.{ℕ}
use mathlib.Core.Bool.{true, false}
use mathlib.Core.List.{[], ◌∷◌, ◌++◌}
use mathlib.Core.Path.{◌≡◌, refl}
use Rattle.rules.specs.Words.{Call, Own, AtL8, AtL11}
use Rattle.rules.specs.Next.{next, llx, scx}
use Rattle.orders.specs.Demand.{at_h3, at_h4, at_h8, answers, said, Change, Verdict}
use Rattle.forged.proofs.Events.{begun, verdict}
use Rattle.forged.proofs.Script.{computed, table, script, A, B, goes, reads, just, writes, closes, run_5}

-- run 5: what B brought from L8 at its H8, A brings by H3
pub yes_by_H3 : (c : Change next table run_5) × Verdict next table run_5 c 34 true × Verdict next table run_5 c 54 true
unfolding computed table run_5
yes_by_H3 =
    let c = begun next table run_5 20 A 2 (0 ∷ 1 ∷ 0 ∷ 0 ∷ []) 0 0 0 7 1 refl refl refl in
    (c, verdict c 34 B (AtL8 0 false) true refl (refl, refl) at_h8 (refl, refl), verdict c 54 A Own true refl (refl, refl) (at_h3 refl) (refl, refl))

-- B changes 1 before A, with <0, 1>, gets there: B's LLX of 0 brings no from L8, and so does A
unfoldable pub doomed : ℕ → Call
doomed =
    script
    (reads A 0
    ++ reads A 1
    ++ reads B 1
    ++ (scx A 2 (0 ∷ 1 ∷ 0 ∷ 0 ∷ []) 0 0 0 7 ∷ writes B 1 7 ∷ goes B 4)
    ++ goes A 1
    ++ (llx B 0 ∷ goes B 12)
    ++ goes A 4)

pub no_of_both : (c : Change next table doomed) × Verdict next table doomed c 49 false × Verdict next table doomed c 53 false
unfolding computed table doomed
no_of_both =
    let c = begun next table doomed 30 A 2 (0 ∷ 1 ∷ 0 ∷ 0 ∷ []) 0 0 0 7 1 refl refl refl in
    (c, verdict c 49 B (AtL8 0 false) false refl (refl, refl) at_h4 (refl, refl), verdict c 53 A Own false refl (refl, refl) at_h4 (refl, refl))

-- A marks 0 and stops: B's LLX has m1 yes, helps, and answers Finalized
unfoldable pub marked : ℕ → Call
marked = script (reads A 0 ++ (closes A 0 ∷ goes A 3) ++ (llx B 0 ∷ goes B 12))

pub yes_with_m1 : (c : Change next table marked) × Verdict next table marked c 26 true
    × (said next table marked 26 ≡ answers (AtL8 0 true) true)
unfolding computed table marked
yes_with_m1 =
    let c = begun next table marked 10 A 1 (just 0) 1 0 0 7 1 refl refl refl in
    (c, verdict c 26 B (AtL8 0 true) true refl (refl, refl) at_h8 (refl, refl), refl)

-- B's LLX is overtaken by A's first change and meets the second at L11: it helps that and answers Fail
unfoldable pub overtaken_twice : ℕ → Call
overtaken_twice =
    script
    (reads A 0
    ++ (writes A 0 7 ∷ goes A 1)
    ++ (llx B 0 ∷ goes B 4)
    ++ goes A 3
    ++ reads A 0
    ++ (writes A 0 9 ∷ goes A 1)
    ++ goes B 9)

pub yes_at_L11 : (c : Change next table overtaken_twice) × Verdict next table overtaken_twice c 40 true
    × (said next table overtaken_twice 40 ≡ answers AtL11 true)
unfolding computed table overtaken_twice
yes_at_L11 =
    let c = begun next table overtaken_twice 30 A 1 (just 0) 0 0 0 9 2 refl refl refl in
    (c, verdict c 40 B AtL11 true refl (refl, refl) at_h8 (refl, refl), refl)
