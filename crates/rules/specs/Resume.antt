-- "Local work rides on it": where the steps lead, by what their accesses saw. Places.antt has which of these each place does.
use Rattle.std.specs.Prelude.{ℕ, ◌+◌, Bool, true, false, List, get_or, eqb, ltb, leb}
use Rattle.rules.specs.Words.{State, InProgress, Committed, Aborted, After, Own, AtL8, AtL11, Move, On, Done, Store, Unlink}
use Rattle.rules.specs.Words.{Place, L5, L6, L7, L8, L9, L11, H1, H2, H3, H4, H5, H6, H7, Vlx}
use Rattle.rules.specs.Words.{Finalized, Fail, Yes, No}
use Rattle.table.specs.Table.{pick, max_list}

-- "L4 .. If that state was Aborted, or Committed with m2 no, go to L5, else L7"
abbrev pub after_l4 : ℕ → Bool → ℕ → State → Bool → Place
after_l4 r m1 a InProgress m2 = L7 r m1 a
after_l4 r m1 a Committed false = L5 r m1 a 0
after_l4 r m1 a Committed true = L7 r m1 a
after_l4 r m1 a Aborted m2 = L5 r m1 a 0

-- "L5 read cells 0, 1, 2, 3, one a step"
abbrev pub after_l5 : ℕ → Bool → ℕ → ℕ → Place
after_l5 r m1 a f = pick (ltb f 3) (L5 r m1 a (f + 1)) (L6 r m1 a)

-- "L6 .. if it is a, store the link and answer the snapshot; else L7"
abbrev pub after_l6 : ℕ → Bool → ℕ → ℕ → Move
after_l6 r m1 a now = pick (eqb now a) Store (On (L7 r m1 a))

-- "L7 .. Committed answers Finalized if m1, else goes to L9; otherwise L8"
abbrev pub after_l7 : ℕ → Bool → ℕ → State → Move
after_l7 r m1 a InProgress = On (L8 r m1 a)
after_l7 r false a Committed = On (L9 r)
after_l7 r true a Committed = Done Finalized
after_l7 r m1 a Aborted = On (L8 r m1 a)

-- "L8 .. InProgress means help a, else L9"
abbrev pub after_l8 : ℕ → Bool → ℕ → State → Place
after_l8 r m1 a InProgress = H1 a 0 (AtL8 r m1)
after_l8 r m1 a Committed = L9 r
after_l8 r m1 a Aborted = L9 r

-- "L10 read state of b: not InProgress answers Fail"
abbrev pub after_l10 : ℕ → State → Move
after_l10 r InProgress = On (L11 r)
after_l10 r Committed = Done Fail
after_l10 r Aborted = Done Fail

-- "L11 read info as c, help c, then Fail. If c is 0 .. L11 itself answers Fail"
abbrev pub after_l11 : ℕ → Move
after_l11 c = pick (eqb c 0) (Done Fail) (On (H1 c 0 AtL11))

-- What a verdict means to who helped: "the verdict answers"; "After helping: yes with m1 answers Finalized, otherwise L9"; "then Fail"
abbrev pub verdict : Bool → After → Move
verdict true Own = Done Yes
verdict false Own = Done No
verdict true (AtL8 r true) = Done Finalized
verdict true (AtL8 r false) = On (L9 r)
verdict false (AtL8 r m1) = On (L9 r)
verdict ok AtL11 = Done Fail

-- "H1 for each place in order": after place i of n, the next one, or H5
abbrev pub after_held : ℕ → ℕ → ℕ → After → Place
after_held u i n after = pick (ltb (i + 1) n) (H1 u (i + 1) after) (H5 u after)

abbrev pub after_h1 : ℕ → ℕ → ℕ → After → Bool → Place
after_h1 u i n after held = pick held (after_held u i n after) (H2 u i after)

-- "H2 read info: if it is U go on, else H3"
abbrev pub after_h2 : ℕ → ℕ → ℕ → After → ℕ → Place
after_h2 u i n after now = pick (eqb now u) (after_held u i n after) (H3 u after)

-- "H3 read allFrozen: yes gives verdict yes; no leads to H4"
abbrev pub after_h3 : ℕ → After → Bool → Move
after_h3 u after frozen = pick frozen (verdict true after) (On (H4 u after))

-- the first place of R from i on, max_list where there is none
abbrev pub is_from : ℕ → ℕ → Bool → Bool
is_from i k b = pick (leb i k) b false

abbrev pub first_from : List Bool → ℕ → ℕ
first_from r i =
    pick (is_from i 0 (get_or r 0 false)) 0
    (pick (is_from i 1 (get_or r 1 false)) 1 (pick (is_from i 2 (get_or r 2 false)) 2 (pick (is_from i 3 (get_or r 3 false)) 3 max_list)))

-- "H6 mark each record of R in the order of V, one a step", then H7
abbrev pub at_mark : ℕ → ℕ → After → Place
at_mark u i after = pick (ltb i max_list) (H6 u i after) (H7 u after)

-- "VLX: .. a difference from the link answers no at once and drops the links of all V; after the last, yes, links kept"
abbrev pub after_vlx : ℕ → ℕ → ℕ → ℕ → Move
after_vlx n i now linked =
    pick (eqb now linked) (pick (ltb (i + 1) n) (On (Vlx n (i + 1))) (Done Yes)) (Unlink n)
