-- Which place a patch is for, what follows the help that it is in, and what a call asks for.
use Rattle.std.specs.Prelude.{ℕ, ◌+◌, Bool, true, false, eqb}
use Rattle.rules.specs.Words.{Place, Idle, L1, L2, L3, L4, L5, L6, L7, L8, L9, L10, L11, H1, H2, H3, H4, H5, H6, H7, H8, Vlx, Read}
use Rattle.rules.specs.Words.{After, Own, Ask, AskLlx, AskScx, AskVlx, AskRead, AskStep}

-- L1 to L11 are 1 to 11, H1 to H8 are 21 to 28
abbrev pub label : Place → ℕ
label Idle = 0
label (L1 r) = 1
label (L2 r m1) = 2
label (L3 r m1 a) = 3
label (L4 r m1 a s) = 4
label (L5 r m1 a f) = 5
label (L6 r m1 a) = 6
label (L7 r m1 a) = 7
label (L8 r m1 a) = 8
label (L9 r) = 9
label (L10 r b) = 10
label (L11 r) = 11
label (H1 u i after) = 21
label (H2 u i after) = 22
label (H3 u after) = 23
label (H4 u after) = 24
label (H5 u after) = 25
label (H6 u i after) = 26
label (H7 u after) = 27
label (H8 u after) = 28
label (Vlx n i) = 0
label (Read r f) = 0

abbrev pub isL : ℕ → Place → Bool
isL k q = eqb (label q) k

abbrev pub isH : ℕ → Place → Bool
isH k q = eqb (label q) (20 + k)

-- Own where the place is in no help
abbrev pub after_of : Place → After
after_of Idle = Own
after_of (L1 r) = Own
after_of (L2 r m1) = Own
after_of (L3 r m1 a) = Own
after_of (L4 r m1 a s) = Own
after_of (L5 r m1 a f) = Own
after_of (L6 r m1 a) = Own
after_of (L7 r m1 a) = Own
after_of (L8 r m1 a) = Own
after_of (L9 r) = Own
after_of (L10 r b) = Own
after_of (L11 r) = Own
after_of (H1 u i after) = after
after_of (H2 u i after) = after
after_of (H3 u after) = after
after_of (H4 u after) = after
after_of (H5 u after) = after
after_of (H6 u i after) = after
after_of (H7 u after) = after
after_of (H8 u after) = after
after_of (Vlx n i) = Own
after_of (Read r f) = Own

abbrev pub is_scx : Ask → Bool
is_scx (AskLlx r) = false
is_scx (AskScx n r written field new) = true
is_scx (AskVlx n) = false
is_scx (AskRead r f) = false
is_scx AskStep = false

abbrev pub is_llx : ℕ → Ask → Bool
is_llx x (AskLlx r) = eqb r x
is_llx x (AskScx n r written field new) = false
is_llx x (AskVlx n) = false
is_llx x (AskRead r f) = false
is_llx x AskStep = false
