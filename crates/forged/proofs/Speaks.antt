-- DEMAND 3 SPEAKS OF SOMETHING: a run of the rules' own machine, and for each field of Demand3 its premises there.
-- A reads 0 and 1, B reads 0. A starts a change of <1, 0> that closes 0 and writes 7 in field 2 of 1, holds 1, and stops. B's LLX of 1
-- helps: it holds 0, marks it, writes and commits. B's own SCX of 0, by its old link, answers no. A goes on, writes no second time, and
-- answers yes. B's LLX of 0 answers Finalized.
use Prim.Native.Nat.{ℕ, ◌<◌}
use mathlib.Core.Bool.{true, false, not}
use mathlib.Core.Logic.{◌≢◌}
use mathlib.Core.List.{[], ◌∷◌, ◌++◌}
use mathlib.Core.Path.{◌≡◌, refl}
use lib.Dec.{eqb}
use borrow.Author.Tests.{ltb-true}
use Rattle.rules.specs.Words.{Call, AskScx, AskStep, Idle, Refused, NoSuchTask, Own, AtL8, H1, H7, Finalized, No}
use Rattle.rules.specs.Next.{next, llx, scx}
use Rattle.orders.specs.Demand.{at_h4, at_h8, Works, h1, h4, h7, h8, leads, answers, said, place, cell, mark}
use Rattle.orders.specs.Demand.{Steps, Change, Closes, During, Effect, Holds, LinkedRead, Verdict}
use Rattle.forged.proofs.Through.{throughout}
use Rattle.forged.proofs.Events.{begun, during, steps, effect, hold, verdict, linked}
use Rattle.forged.proofs.Script.{computed, table, script, A, B, goes, reads, just, writes}

unfoldable pub calls : ℕ → Call
calls =
    script
    (reads A 0
    ++ reads A 1
    ++ reads B 0
    ++ (scx A 2 (1 ∷ 0 ∷ 0 ∷ 0 ∷ []) 2 0 2 7 ∷ goes A 1)
    ++ (llx B 1 ∷ goes B 15)
    ++ (writes B 0 7 ∷ goes B 4)
    ++ goes A 6
    ++ (llx B 0 ∷ goes B 5))

-- THE EVENTS: A's change and B's
abbrev pub first : Change next table calls
unfolding computed table calls
first = begun next table calls 30 A 2 (1 ∷ 0 ∷ 0 ∷ 0 ∷ []) 2 0 2 7 1 refl refl refl

abbrev pub second : Change next table calls
unfolding computed table calls
second = begun next table calls 48 B 1 (just 0) 0 0 0 7 2 refl refl refl

-- the linked reads
pub first_read_0 : LinkedRead next table calls first 0 9
unfolding computed table calls
first_read_0 = linked first 0 0 9 refl refl refl refl refl (refl, refl) refl refl refl refl

pub first_read_1 : LinkedRead next table calls first 1 19
unfolding computed table calls
first_read_1 = linked first 1 10 19 refl refl refl refl refl (refl, refl) refl refl refl refl

pub second_read_0 : LinkedRead next table calls second 0 29
unfolding computed table calls
second_read_0 = linked second 0 20 29 refl refl refl refl refl (refl, refl) refl refl refl refl

-- B takes hold of 0 for A's change, and alters its field: A is called neither then nor for long after
pub held : Holds next table calls first 41 0
unfolding computed table calls
held = hold first 41 0 B 1 (AtL8 1 false) refl (refl, refl) refl refl refl refl refl refl

pub effected : Effect next table calls first 44
unfolding computed table calls
effected = effect first 44 B (AtL8 1 false) refl (refl, refl) refl refl

pub owner_stopped : throughout next table calls (λ k x. not (eqb (calls k).task A)) 31 53 ≡ true
unfolding computed table calls
owner_stopped = refl

-- the helper's verdict, the owner's, and B's on its own change
pub helper_yes : Verdict next table calls first 45 true
unfolding computed table calls
helper_yes = verdict first 45 B (AtL8 1 false) true refl (refl, refl) at_h8 (refl, refl)

pub owner_yes : Verdict next table calls first 58 true
unfolding computed table calls
owner_yes = verdict first 58 A Own true refl (refl, refl) at_h8 (refl, refl)

pub second_no : Verdict next table calls second 52 false
unfolding computed table calls
second_no = verdict second 52 B Own false refl (refl, refl) at_h4 (refl, refl)

-- THE FIELDS
-- is_a_turn: a start, a step, and a call that is refused
pub is_a_turn_speaks : (place next table calls 0 A ≡ Idle) × ((calls 1).ask ≡ AskStep) × (said next table calls 65 ≡ Refused NoSuchTask)
unfolding computed table calls
is_a_turn_speaks = (refl, refl, refl)

-- is_a_change: an SCX that is accepted
pub is_a_change_speaks : (calls 30).ask ≡ AskScx 2 2 0 2 7
unfolding calls
is_a_change_speaks = refl

-- once: after the effect the owner comes to its own H7
pub once_speaks : Effect next table calls first 44 × During next table calls first 57 × Steps next table calls 57 A
    × (place next table calls 57 A ≡ H7 1 Own)
unfolding computed table calls
once_speaks = (effected, during first 57 refl, steps next table calls 57 A (refl, refl), refl)

pub alters_its_field_speaks : Effect next table calls first 44
    × (cell next table calls 44 1 2 ≡ record { value = 5; stamp = 0 })
    × (cell next table calls 45 1 2 ≡ record { value = 7; stamp = 1 })
unfolding computed table calls
alters_its_field_speaks = (effected, refl, refl)

-- untouched: two records, each with its own linked read
pub untouched_speaks : Effect next table calls first 44 × LinkedRead next table calls first 1 19 × LinkedRead next table calls first 0 9
untouched_speaks = (effected, first_read_1, first_read_0)

-- closed: 0 is closed, and B still tries to take hold of it and to read it
pub closed_speaks : Effect next table calls first 44 × Closes next table calls first 0 × (mark next table calls 44 0 ≡ true)
    × (place next table calls 49 B ≡ H1 2 0 Own)
    × (said next table calls 52 ≡ No)
    × (said next table calls 64 ≡ Finalized)
unfolding computed table calls
closed_speaks = (effected, (1, ltb-true 1 2 refl, refl, refl), refl, refl, refl, refl)

-- by_an_effect: a cell alters
pub by_an_effect_speaks : (1 < table.n) × (cell next table calls 45 1 2 ≢ cell next table calls 44 1 2)
unfolding computed table calls
by_an_effect_speaks = (ltb-true 1 2 refl, effected.alters)

-- agree, yes_after: helper and owner finish the same change
pub agree_speaks : Verdict next table calls first 45 true × Verdict next table calls first 58 true
agree_speaks = (helper_yes, owner_yes)

pub yes_after_speaks : Verdict next table calls first 45 true × (44 < 45) × Effect next table calls first 44
yes_after_speaks = (helper_yes, ltb-true 44 45 refl, effected)

-- finishes: a step that goes on; one that ends a help, and the LLX goes on; one that ends an SCX; and a call of another task
pub finishes_speaks : (Works 1 (AtL8 1 false) (place next table calls 44 B) × Works 1 (AtL8 1 false) (place next table calls 45 B))
    × (Works 1 (AtL8 1 false) (place next table calls 45 B) × (place next table calls 46 B ≡ leads (AtL8 1 false) true))
    × (Works 1 Own (place next table calls 58 A) × (said next table calls 58 ≡ answers Own true))
    × (Works 2 Own (place next table calls 52 B) × (said next table calls 52 ≡ answers Own false))
    × (Works 1 Own (place next table calls 44 A) × Works 1 Own (place next table calls 45 A))
unfolding computed table calls
finishes_speaks = ((h7, h8), (h8, refl), (h8, refl), (h4, refl), (h1, h1))

-- not-taken: when B's change starts, A works on its own
pub not_taken_speaks : Works 1 Own (place next table calls second.start A) × (second.number ≡ 2)
unfolding computed table calls
not_taken_speaks = (h1, refl)

pub no_never_speaks : Verdict next table calls second 52 false
no_never_speaks = second_no

-- no_because: A's change took hold of 0 after B's linked read of it
pub no_because_speaks : Verdict next table calls second 52 false × LinkedRead next table calls second 0 29 × (29 < 41) × (41 < 52)
    × Holds next table calls first 41 0
no_because_speaks = (second_no, second_read_0, ltb-true 29 41 refl, ltb-true 41 52 refl, held)
