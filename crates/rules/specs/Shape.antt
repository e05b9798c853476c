-- THE SHAPE: document 01's sentence, its phrases above what renders them. What no line names is ignored: entries beyond the counts,
-- the info and cells of a link that is none, list or cells that the task's place does not use, and entry 0 of the changes.
use Rattle.std.specs.Prelude.{ℕ, suc, Bool, false, not, List, get_or, eqb}
use Rattle.rules.specs.Words.{Cell, Record, Change, Link, Machine, After, Own, AtL8, AtL11}
use Rattle.rules.specs.Words.{Place, Idle, L1, L2, L3, L4, L5, L6, L7, L8, L9, L10, L11, H1, H2, H3, H4, H5, H6, H7, H8, Vlx, Read}
use Rattle.table.specs.Table.{cell_at, record_at, change_at, task_at, link_at, max_tasks, max_records, max_changes, max_list, max_fields}
use Rattle.rules.specs.Places.{change_of}
use Rattle.rules.specs.Claim.{Claim, always, less, known, holds, ◌&◌, each, when, test, Says}

-- from 1 to most
abbrev pub within : ℕ → ℕ → Claim
within most k = less 0 k & less k (suc most)

-- LISTS: the first n of a list are records of N; no two of them are the same
abbrev pub exist : ℕ → ℕ → List ℕ → Claim
exist N n l = each n (λ i. less (get_or l i 0) N)

abbrev pub apart : ℕ → List ℕ → Claim
apart n l = each n (λ j. each j (λ i. holds (not (eqb (get_or l i 0) (get_or l j 0)))))

abbrev pub list_fine : ℕ → ℕ → List ℕ → Claim
list_fine N n l = within max_list n & exist N n l & apart n l

-- each of the first n has a link, by which records do
abbrev pub all_linked : ℕ → List ℕ → (ℕ → Bool) → Claim
all_linked n l linked = each n (λ i. holds (linked (get_or l i 0)))

-- R names only places below n
abbrev pub in_list : ℕ → List Bool → Claim
in_list n r = each max_list (λ i. when (get_or r i false) (less i n))

-- "each stored info or stamp is at most the used count": the first k cells of an array
abbrev pub stamps_known : ℕ → List Cell → Claim
stamps_known k cs = each k (λ f. known (cell_at cs f).stamp)

abbrev pub record_fine : Record → Claim
record_fine x = known x.info & stamps_known max_fields x.cells

abbrev pub link_fine : Link → Claim
link_fine x = when x.there (known x.info & stamps_known max_fields x.cells)

-- "each used change obeys the ranges above with V free of repeats"
abbrev pub change_fine : ℕ → Change → Claim
change_fine N x =
    list_fine N x.n x.v
    & in_list x.n x.r
    & less x.written x.n
    & less x.field max_fields
    & known x.old.stamp
    & each x.n (λ i. known (get_or x.infos i 0))

-- the record that the LLX at L8 goes on with after helping
abbrev pub after_fine : ℕ → After → Claim
after_fine N Own = always
after_fine N (AtL8 r m1) = less r N
after_fine N AtL11 = always

-- "a used change (0 too unless it is being helped)": here one that is helped
abbrev pub helped : ℕ → ℕ → After → Claim
helped N u after = less 0 u & known u & after_fine N after

-- "each busy task's place names an existing record, a used change, a field up to 3 and a place inside its list, at H6 one in R":
-- N records, a change of length n with the set R, which records have a link, the task's cells and list
abbrev pub place_fine : ℕ → ℕ → List Bool → (ℕ → Bool) → List Cell → List ℕ → Place → Claim
place_fine N n R linked cs l Idle = always
place_fine N n R linked cs l (L1 r) = less r N
place_fine N n R linked cs l (L2 r m1) = less r N
place_fine N n R linked cs l (L3 r m1 a) = less r N & known a
place_fine N n R linked cs l (L4 r m1 a s) = less r N & known a
place_fine N n R linked cs l (L5 r m1 a f) = less r N & known a & less f max_fields & stamps_known f cs
place_fine N n R linked cs l (L6 r m1 a) = less r N & known a & stamps_known max_fields cs
place_fine N n R linked cs l (L7 r m1 a) = less r N & known a
place_fine N n R linked cs l (L8 r m1 a) = less r N & known a
place_fine N n R linked cs l (L9 r) = less r N
place_fine N n R linked cs l (L10 r b) = less r N & known b
place_fine N n R linked cs l (L11 r) = less r N
place_fine N n R linked cs l (H1 u i after) = less i n & helped N u after
place_fine N n R linked cs l (H2 u i after) = less i n & helped N u after
place_fine N n R linked cs l (H3 u after) = helped N u after
place_fine N n R linked cs l (H4 u after) = helped N u after
place_fine N n R linked cs l (H5 u after) = helped N u after
place_fine N n R linked cs l (H6 u i after) = less i n & holds (get_or R i false) & helped N u after
place_fine N n R linked cs l (H7 u after) = helped N u after
place_fine N n R linked cs l (H8 u after) = helped N u after
-- "A task in a VLX has a list of 1 to 4 records, free of repeats, each with a link"
place_fine N n R linked cs l (Vlx k i) = less i k & list_fine N k l & all_linked k l linked
place_fine N n R linked cs l (Read r f) = less r N & less f max_fields

abbrev pub task_fine : Machine → ℕ → Claim
task_fine m t =
    let x = task_at m t in
    let ch = change_at m (change_of x.place) in
    place_fine m.n ch.n ch.r (λ r. (link_at m t r).there) x.cells x.list x.place

unfoldable pub shape : Machine → Claim
shape m =
    within max_tasks m.p
    & within max_records m.n
    & less m.used (suc max_changes)
    & each m.n (λ r. record_fine (record_at m r))
    & each m.used (λ i. change_fine m.n (change_at m (suc i)))
    & each m.p (λ t. task_fine m t)
    & each m.p (λ t. each m.n (λ r. link_fine (link_at m t r)))

-- the test for refusal 10, and what a proof knows where it passes
unfoldable pub in_shape : Machine → Bool
in_shape m = test m.used (shape m)

unfoldable pub InShape : Machine → Type 0
InShape m = Says m.used (shape m)
