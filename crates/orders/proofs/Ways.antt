-- The way of an LLX to its snapshot, the help from L8 with it: a step from a place on the way of r stays on it or leaves it, and a link is
-- stored exactly if the snapshot is answered.
use Prim.Native.Nat.{ℕ, suc, ◌+◌}
use mathlib.Core.Path.{◌≡◌, refl}
use mathlib.Core.Bool.{Bool, true, false}
use mathlib.Core.Logic.{◌⊎◌, inl, inr}
use mathlib.Core.List.{List}
use lib.Dec.{eqb, ltb}
use Rattle.rules.specs.Words.{Cell, State, InProgress, Committed, Aborted, Change, After, Own, AtL8, AtL11, Seen, Move}
use Rattle.rules.specs.Words.{Place, Idle, L1, L2, L3, L4, L5, L6, L7, L8, L9, L10, L11, H1, H2, H3, H4, H5, H6, H7, H8, Vlx, Read}
use Rattle.rules.specs.Words.{Answer, Accepted, Snapshot, Finalized, Fail, Yes, No, Value, Refused}
use Rattle.table.specs.Table.{pick}
use Rattle.rules.specs.Places.{resume}
use Rattle.rules.specs.Step.{place_of, stores_link, answer_of}
use Rattle.rules.specs.Words.{On, Done, Store, Unlink}
use Rattle.rules.specs.Resume.{verdict, after_l4, after_l7, after_l8, after_l10, after_held, first_from}

-- one more than the record that an LLX on its way to a snapshot reads, 0 at all other places
abbrev back : After → ℕ
back Own = 0
back (AtL8 r m1) = suc r
back AtL11 = 0

abbrev pub of : Place → ℕ
of Idle = 0
of (L1 r) = suc r
of (L2 r m1) = suc r
of (L3 r m1 a) = suc r
of (L4 r m1 a s) = suc r
of (L5 r m1 a f) = suc r
of (L6 r m1 a) = suc r
of (L7 r m1 a) = suc r
of (L8 r m1 a) = suc r
of (L9 r) = suc r
of (L10 r b) = suc r
of (L11 r) = suc r
of (H1 u i after) = back after
of (H2 u i after) = back after
of (H3 u after) = back after
of (H4 u after) = back after
of (H5 u after) = back after
of (H6 u i after) = back after
of (H7 u after) = back after
of (H8 u after) = back after
of (Vlx n i) = 0
of (Read r f) = 0

abbrev pub is_snapshot : Answer → Bool
is_snapshot Accepted = false
is_snapshot (Snapshot cells) = true
is_snapshot Finalized = false
is_snapshot Fail = false
is_snapshot Yes = false
is_snapshot No = false
is_snapshot (Value cell) = false
is_snapshot (Refused why) = false

-- a move from a place of x stays with x or is done with it, and stores the link exactly if it answers the snapshot
abbrev pub With : ℕ → Move → Type 0
With x v = ((of (place_of v) ≡ x) ⊎ (of (place_of v) ≡ 0)) × ((cs : List Cell) → is_snapshot (answer_of cs v) ≡ stores_link v)

one : (x : ℕ) (b : Bool) (v w : Move) → With x v → With x w → With x (pick b v w)
one x true v w h k = h
one x false v w h k = k

same : (b : Bool) (p q : Place) → of p ≡ of q → of (pick b p q) ≡ of q
same true p q h = h
same false p q h = refl

with_verdict : (ok : Bool) (after : After) → With (back after) (verdict ok after)
with_verdict true Own = (inr refl, λ cs. refl)
with_verdict false Own = (inr refl, λ cs. refl)
with_verdict true (AtL8 r true) = (inr refl, λ cs. refl)
with_verdict true (AtL8 r false) = (inl refl, λ cs. refl)
with_verdict false (AtL8 r m1) = (inl refl, λ cs. refl)
with_verdict ok AtL11 = (inr refl, λ cs. refl)

of_l4 : (r : ℕ) (m1 : Bool) (a : ℕ) (s : State) (m2 : Bool) → of (after_l4 r m1 a s m2) ≡ suc r
of_l4 r m1 a InProgress m2 = refl
of_l4 r m1 a Committed false = refl
of_l4 r m1 a Committed true = refl
of_l4 r m1 a Aborted m2 = refl

with_l7 : (r : ℕ) (m1 : Bool) (a : ℕ) (s : State) → With (suc r) (after_l7 r m1 a s)
with_l7 r m1 a InProgress = (inl refl, λ cs. refl)
with_l7 r true a Committed = (inr refl, λ cs. refl)
with_l7 r false a Committed = (inl refl, λ cs. refl)
with_l7 r m1 a Aborted = (inl refl, λ cs. refl)

of_l8 : (r : ℕ) (m1 : Bool) (a : ℕ) (s : State) → of (after_l8 r m1 a s) ≡ suc r
of_l8 r m1 a InProgress = refl
of_l8 r m1 a Committed = refl
of_l8 r m1 a Aborted = refl

with_l10 : (r : ℕ) (s : State) → With (suc r) (after_l10 r s)
with_l10 r InProgress = (inl refl, λ cs. refl)
with_l10 r Committed = (inr refl, λ cs. refl)
with_l10 r Aborted = (inr refl, λ cs. refl)

of_held : (u i n : ℕ) (after : After) → of (after_held u i n after) ≡ back after
of_held u i n after = same (ltb (i + 1) n) (H1 u (i + 1) after) (H5 u after) refl

pub moves : (q : Place) (s : Seen) (ch : Change) (linked : ℕ) → With (of q) (resume q s ch linked)
moves Idle s ch linked = (inl refl, λ cs. refl)
moves (L1 r) s ch linked = (inl refl, λ cs. refl)
moves (L2 r m1) s ch linked = (inl refl, λ cs. refl)
moves (L3 r m1 a) s ch linked = (inl refl, λ cs. refl)
moves (L4 r m1 a x) s ch linked = (inl (of_l4 r m1 a x s.bit), λ cs. refl)
moves (L5 r m1 a f) s ch linked = (inl (same (ltb f 3) (L5 r m1 a (f + 1)) (L6 r m1 a) refl), λ cs. refl)
moves (L6 r m1 a) s ch linked = one (suc r) (eqb s.number a) Store (On (L7 r m1 a)) (inr refl, λ cs. refl) (inl refl, λ cs. refl)
moves (L7 r m1 a) s ch linked = with_l7 r m1 a s.state
moves (L8 r m1 a) s ch linked = (inl (of_l8 r m1 a s.state), λ cs. refl)
moves (L9 r) s ch linked = (inl refl, λ cs. refl)
moves (L10 r b) s ch linked = with_l10 r s.state
moves (L11 r) s ch linked = one (suc r) (eqb s.number 0) (Done Fail) (On (H1 s.number 0 AtL11)) (inr refl, λ cs. refl) (inr refl, λ cs. refl)
moves (H1 u i after) s ch linked =
    (inl (same s.bit (after_held u i ch.n after) (H2 u i after) (of_held u i ch.n after)), λ cs. refl)
moves (H2 u i after) s ch linked =
    (inl (same (eqb s.number u) (after_held u i ch.n after) (H3 u after) (of_held u i ch.n after)), λ cs. refl)
moves (H3 u after) s ch linked = one (back after) s.bit (verdict true after) (On (H4 u after)) (with_verdict true after) (inl refl, λ cs. refl)
moves (H4 u after) s ch linked = with_verdict false after
moves (H5 u after) s ch linked = (inl (same (ltb (first_from ch.r 0) 4) (H6 u (first_from ch.r 0) after) (H7 u after) refl), λ cs. refl)
moves (H6 u i after) s ch linked = (inl (same (ltb (first_from ch.r (i + 1)) 4) (H6 u (first_from ch.r (i + 1)) after) (H7 u after) refl), λ cs. refl)
moves (H7 u after) s ch linked = (inl refl, λ cs. refl)
moves (H8 u after) s ch linked = with_verdict true after
moves (Vlx n i) s ch linked = one 0 (eqb s.number linked) (pick (ltb (i + 1) n) (On (Vlx n (i + 1))) (Done Yes)) (Unlink n)
    (one 0 (ltb (i + 1) n) (On (Vlx n (i + 1))) (Done Yes) (inl refl, λ cs. refl) (inl refl, λ cs. refl)) (inl refl, λ cs. refl)
moves (Read r f) s ch linked = (inl refl, λ cs. refl)
