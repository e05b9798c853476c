-- Who works on a change goes on working on it, or finishes with a verdict, which is its answer and leads on: place by place, from the
-- rules' own resume.
use Prim.Native.Nat.{ℕ, ◌+◌}
use mathlib.Core.Path.{◌≡◌, refl}
use mathlib.Core.Bool.{Bool, true, false}
use mathlib.Core.Logic.{◌⊎◌, inl, inr}
use mathlib.Core.List.{List}
use lib.Dec.{eqb, ltb}
use Rattle.rules.specs.Words.{Cell, Change, After, Own, AtL8, AtL11, Place, H1, H2, H3, H4, H5, H6, H7, H8, Seen, Move, Accepted}
use Rattle.table.specs.Table.{pick}
use Rattle.rules.specs.Places.{resume}
use Rattle.rules.specs.Step.{place_of, answer_of}
use Rattle.rules.specs.Words.{On}
use Rattle.rules.specs.Resume.{verdict, after_held, at_mark, first_from}
use Rattle.orders.specs.Demand.{Brings, at_h3, at_h4, at_h8, Works, h1, h2, h3, h4, h5, h6, h7, h8, leads, answers}

-- what a move is to a task that works on u and, at H3, read allFrozen
abbrev pub Finishing : ℕ → After → Bool → Place → Move → Type 0
Finishing u after frozen q v = (Works u after (place_of v) × ((cs : List Cell) → answer_of cs v ≡ Accepted))
    ⊎ ((yes : Bool) × Brings u after frozen q yes × (place_of v ≡ leads after yes) × ((cs : List Cell) → answer_of cs v ≡ answers after yes))

told : (u : ℕ) (after : After) (frozen : Bool) (q : Place) (yes : Bool) → Brings u after frozen q yes → Finishing u after frozen q (verdict yes after)
told u Own frozen q true B = inr (true, B, refl, λ cs. refl)
told u Own frozen q false B = inr (false, B, refl, λ cs. refl)
told u (AtL8 r true) frozen q true B = inr (true, B, refl, λ cs. refl)
told u (AtL8 r false) frozen q true B = inr (true, B, refl, λ cs. refl)
told u (AtL8 r true) frozen q false B = inr (false, B, refl, λ cs. refl)
told u (AtL8 r false) frozen q false B = inr (false, B, refl, λ cs. refl)
told u AtL11 frozen q true B = inr (true, B, refl, λ cs. refl)
told u AtL11 frozen q false B = inr (false, B, refl, λ cs. refl)

works_pick : (u : ℕ) (after : After) (b : Bool) (q r : Place) → Works u after q → Works u after r → Works u after (pick b q r)
works_pick u after true q r h k = h
works_pick u after false q r h k = k

works_held : (u i n : ℕ) (after : After) → Works u after (after_held u i n after)
works_held u i n after = works_pick u after (ltb (i + 1) n) (H1 u (i + 1) after) (H5 u after) h1 h5

works_mark : (u i : ℕ) (after : After) → Works u after (at_mark u i after)
works_mark u i after = works_pick u after (ltb i 4) (H6 u i after) (H7 u after) h6 h7

pub finishing : (u : ℕ) (after : After) (q : Place) → Works u after q → (s : Seen) (ch : Change) (linked : ℕ)
    → Finishing u after s.bit q (resume q s ch linked)
finishing u after q (h1 {i = i}) s ch linked =
    inl (works_pick u after s.bit (after_held u i ch.n after) (H2 u i after) (works_held u i ch.n after) h2, λ cs. refl)
finishing u after q (h2 {i = i}) s ch linked =
    inl (works_pick u after (eqb s.number u) (after_held u i ch.n after) (H3 u after) (works_held u i ch.n after) h3, λ cs. refl)
finishing u after q h3 s ch linked = go s.bit
  where
    go : (b : Bool) → Finishing u after b (H3 u after) (pick b (verdict true after) (On (H4 u after)))
    go true = told u after true (H3 u after) true (at_h3 refl)
    go false = inl (h4, λ cs. refl)
finishing u after q h4 s ch linked = told u after s.bit (H4 u after) false at_h4
finishing u after q h5 s ch linked = inl (works_mark u (first_from ch.r 0) after, λ cs. refl)
finishing u after q (h6 {i = i}) s ch linked = inl (works_mark u (first_from ch.r (i + 1)) after, λ cs. refl)
finishing u after q h7 s ch linked = inl (h8, λ cs. refl)
finishing u after q h8 s ch linked = told u after s.bit (H8 u after) true at_h8
