-- THE FOURTH SHAM, "a tally made up": "T is promised as a count over those answers". A tally that counts every yes, a VLX's too, and
-- one that is always 0, are not `tally_of` on a list of two answers; and what they make of one answer is not `counted_of`, which
-- `count` ensures. So no contract of this crate lets either pass.
use Rattle.std.proofs.Common.{◌≡◌, ℕ, Bool, ◌≢◌, List, [], ◌∷◌, Some, ap, arith}
use Rattle.table.specs.declared.Answer.TheVariants.{Yes}
use Rattle.table.specs.declared.Operation.TheVariants.{Scx, Vlx}
use Rattle.tally.specs.declared.Tally.{Tally}
use Rattle.tally.specs.declared.Told.{Told}
use Rattle.tally.specs.Count.{is_yes, is_no, is_fail, counts, tally_of, one_more, counted_of}

-- a VLX's yes, and an SCX's
abbrev pub validated : Told
validated = record { operation = Some Vlx; answer = Yes }

abbrev pub changed : Told
changed = record { operation = Some Scx; answer = Yes }

abbrev pub any_yes : Told → Bool
any_yes x = is_yes x.answer

-- what each sham says of a list of answers
abbrev pub every_yes : List Told → Tally
every_yes l = record { made = counts any_yes l; no = counts is_no l; fail = counts is_fail l }

abbrev pub always0 : List Told → Tally
always0 l = record { made = 0; no = 0; fail = 0 }

-- what each does to the tally on one answer
abbrev pub every_yes_counted : Tally → Told → Tally
every_yes_counted t x = record { made = one_more (any_yes x) t.made; no = one_more (is_no x) t.no; fail = one_more (is_fail x) t.fail }

abbrev pub never_counted : Tally → Told → Tally
never_counted t x = always0 []

-- made: 2 for 1
pub every_yes_differs : every_yes (validated ∷ changed ∷ []) ≢ tally_of (validated ∷ changed ∷ [])
unfolding counts tally_of
every_yes_differs e = let z : ◌≡◌ {A = ℕ} 2 1 = ap (λ (t : Tally). t.made) e in absurd (omega arith)

-- made: 0 for 1
pub always_0_differs : always0 (validated ∷ changed ∷ []) ≢ tally_of (validated ∷ changed ∷ [])
unfolding counts tally_of
always_0_differs e = let z : ◌≡◌ {A = ℕ} 0 1 = ap (λ (t : Tally). t.made) e in absurd (omega arith)

pub every_yes_refused : every_yes_counted (tally_of []) validated ≢ counted_of (tally_of []) validated
unfolding counts tally_of counted_of
every_yes_refused e = let z : ◌≡◌ {A = ℕ} 1 0 = ap (λ (t : Tally). t.made) e in absurd (omega arith)

pub always_0_refused : never_counted (tally_of []) changed ≢ counted_of (tally_of []) changed
unfolding counts tally_of counted_of
always_0_refused e = let z : ◌≡◌ {A = ℕ} 0 1 = ap (λ (t : Tally). t.made) e in absurd (omega arith)
