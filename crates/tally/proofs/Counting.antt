-- Counting each answer as it comes gives the tally of the answers so far: "one small record that every answer brings up to date".
-- A list of up to 65,535 answers wraps no number; a sheet has at most 5,000 events.
use Rattle.std.proofs.Common.{◌≡◌, ℕ, zero, suc, ◌+◌, ◌<◌, ◌≤◌, Bool, true, false, List, [], ◌∷◌, ◌++◌, length, sym, refl, ap, ◌∙◌, mod-eq_of_lt, add-one, arith, length-append}
use Rattle.table.specs.Table.{pick}
use Rattle.tally.specs.declared.Told.{Told}
use Rattle.tally.specs.Count.{is_made, is_no, is_fail, counts, tally_of, one_more, counted_of, first_of}

-- one answer more, at the end
counts_last : (f : Told → Bool) (l : List Told) (x : Told) → counts f (l ++ (x ∷ [])) ≡ counts f l + pick (f x) 1 0
unfolding counts
counts_last f [] x = omega arith
counts_last f (y ∷ l) x =
    let e : counts f (l ++ (x ∷ [])) ≡ counts f l + pick (f x) 1 0 = counts_last f l x in
    omega (arith, e)

at_most_one : (b : Bool) → pick b 1 0 ≤ 1
at_most_one true = omega arith
at_most_one false = omega arith

-- each number is at most the length of the list
counts_most : (f : Told → Bool) (l : List Told) → counts f l ≤ length l
unfolding counts
counts_most f [] = omega arith
counts_most f (x ∷ l) = omega (arith, at_most_one (f x), counts_most f l)

-- short of the wrap, one more is one more
one_more_is : (b : Bool) (n : ℕ) → n < 65535 → one_more b n ≡ n + pick b 1 0
one_more_is true n h = mod-eq_of_lt (omega arith)
one_more_is false n h = omega arith

-- one number of the tally
number_is : (f : Told → Bool) (l : List Told) (x : Told) → length l < 65535 → one_more (f x) (counts f l) ≡ counts f (l ++ (x ∷ []))
number_is f l x h = one_more_is (f x) (counts f l) (omega (arith, counts_most f l)) ∙ sym (counts_last f l x)

-- ONE ANSWER MORE: the tally of the answers so far, counted on, is the tally with the new answer
pub counted_is : (l : List Told) (x : Told) → length l < 65535 → counted_of (tally_of l) x ≡ tally_of (l ++ (x ∷ []))
unfolding tally_of counted_of
counted_is l x h = λ k. record { made = number_is is_made l x h k; no = number_is is_no l x h k; fail = number_is is_fail l x h k }

length_first : (f : ℕ → Told) (n : ℕ) → length (first_of f n) ≡ n
unfolding first_of
length_first f zero = refl
length_first f (suc n) =
    let e : length (first_of f n) ≡ n = length_first f n in
    let a : length (first_of f n ++ (f n ∷ [])) ≡ length (first_of f n) + 1 = length-append (first_of f n) (f n ∷ []) in
    omega (arith, e, a)

-- before the first answer nothing is counted
pub first_none : (f : ℕ → Told) → first_of f 0 ≡ []
unfolding first_of
first_none f = refl

-- the same by index, as a loop needs it
pub counted_next : (f : ℕ → Told) (i : ℕ) → i < 65535 → counted_of (tally_of (first_of f i)) (f i) ≡ tally_of (first_of f (i + 1))
unfolding first_of
counted_next f i h =
    counted_is (first_of f i) (f i) (omega (arith, length_first f i))
    ∙ ap (λ (n : ℕ). tally_of (first_of f n)) (sym (add-one i))
