-- Where the steps of a helper lead: holding, losing, freezing and closing, writing, and the verdict.
use Prim.Native.Nat.{ℕ, ◌+◌, ◌≤◌, ◌<◌}
use mathlib.Core.Path.{◌≡◌, refl, sym, ◌∙◌, subst}
use mathlib.Core.Bool.{Bool, true, false}
use mathlib.Core.Logic.{◌⊎◌, inl, inr, ◌≢◌, ⊎_elim}
use mathlib.Core.List.{List}
use native.Mathlib.Omega.{arith}
use lib.ListN.{get_or}
use lib.Dec.{eqb, ltb}
use borrow.Author.Tests.{eqb-true, eqb-false, ltb-true, ltb-false}
use Rattle.rules.specs.Words.{Cell, InProgress, Committed, Link, After, Own, AtL8, AtL11, H1, H2, H3, H4, H5, H6, H7, H8}
use Rattle.table.specs.Table.{pick}
use Rattle.rules.specs.Places.{change_of}
use Rattle.rules.specs.Words.{On}
use Rattle.rules.specs.Resume.{verdict, after_held, after_h1, after_h2, after_h3, first_from, at_mark}
use Rattle.clauses.proofs.Updates.{upd, upd_hit, same?, bool?, tf, leb_case}
use Rattle.clauses.proofs.Memory.{Shared, Table, spot, apply, Act, nop, hold, abort, freeze, close, write, commit}
use Rattle.clauses.proofs.History.{Ghost, Reading, note}
use Rattle.clauses.proofs.Clauses.{HeldTo, MarkedTo, OkOf, LostOf, Guard, At, Live, Room, Fine}
use Rattle.clauses.proofs.Rights.{st?, lost_frozen}
use Rattle.clauses.proofs.Frame.{same_terms, stay_mark, stay_held}
use Rattle.clauses.proofs.Steps.{is_stored, is_old}
use Rattle.clauses.proofs.SameCell.{same_eq, eq_same}
use Rattle.rules.proofs.FirstFrom.{first_from_lem}
use Rattle.clauses.proofs.Advanced.{Leads, by_none, none_below, acts, reads}

-- the next place, whatever it is, names the same change
held_names : (u i n : ℕ) (w : After) → change_of (after_held u i n w) ≡ u
held_names u i n w = go (ltb (i + 1) n)
  where
    go : (b : Bool) → change_of (pick b (H1 u (i + 1) w) (H5 u w)) ≡ u
    go true = refl
    go false = refl

mark_names : (u i : ℕ) (w : After) → change_of (at_mark u i w) ≡ u
mark_names u i w = go (ltb i 4)
  where
    go : (b : Bool) → change_of (pick b (H6 u i w) (H7 u w)) ≡ u
    go true = refl
    go false = refl

-- what an act has just made true
module _ (S : Shared) (G : Ghost) (t : ℕ) (k : Reading) (u : ℕ) where
  hold_held : (i : ℕ) → (note t (hold u i) k S G).held u i ≡ true
  unfolding note
  hold_held i = rw (upd_hit G.held u (upd (G.held u) i true) {j = u} refl) (upd_hit (G.held u) i true refl)

  freeze_frozen : (apply (freeze u) S).frozen u ≡ true
  unfolding apply
  freeze_frozen = upd_hit S.frozen u true refl

  close_mark : (i : ℕ) → (apply (close u i) S).mark ((S.terms u).rec i) ≡ true
  unfolding apply
  close_mark i = upd_hit S.mark ((S.terms u).rec i) true refl

  write_hap : (note t (write u) k S G).hap u ≡ true
  unfolding note
  write_hap = upd_hit G.hap u true refl

module _ (S : Shared) (G : Ghost) (cs : List Cell) (u : ℕ) (w : After) where
  at_held : (i n : ℕ) → n ≡ (S.terms u).n → u ≢ 0 → HeldTo (G.held u) (i + 1) → At S G cs (after_held u i n w)
  at_held i n e z h = go (ltb (i + 1) n) refl
    where
      go : (b : Bool) → ltb (i + 1) n ≡ b → At S G cs (pick b (H1 u (i + 1) w) (H5 u w))
      go true q = (z, omega (arith, ltb-true (i + 1) n q), h)
      go false q = (z, λ j l. h j (omega (arith, ltb-false (i + 1) n q)))

  -- r is R as the change has it: no place past its list
  at_mark_lem : (r : List Bool) (i : ℕ) → ((j : ℕ) → get_or r j false ≡ (S.terms u).closes j)
      → ((j : ℕ) → j < 4 → get_or r j false ≡ true → j < (S.terms u).n) → (S.terms u).n ≤ 4
      → u ≢ 0 → S.frozen u ≡ true → MarkedTo S (S.terms u) i → At S G cs (at_mark u (first_from r i) w)
  at_mark_lem r i same inside few z f m = go (ltb (first_from r i) 4) refl
    where
      to : MarkedTo S (S.terms u) (first_from r i)
      to j l c = ⊎_elim (λ (p : i ≤ j). tf (same j ∙ c) ((first_from_lem r i).none j (omega arith) p l)) (λ p. m j p c) (leb_case i j)

      go : (b : Bool) → ltb (first_from r i) 4 ≡ b → At S G cs (pick b (H6 u (first_from r i) w) (H7 u w))
      go true q =
          let found = (first_from_lem r i).found (ltb-true _ 4 q) in
          (z, f, inside _ (ltb-true _ 4 q) found, sym (same _) ∙ found, to)
      go false q = (z, f, λ j l. to j (omega (arith, ltb-false (first_from r i) 4 q)))

module _ (X : Table) (G : Ghost) (F : Fine X G) (t r : ℕ) (cs : List Cell) (c : Cell) (new : Link) where
  abbrev S : Shared
  S = X.sh

  abbrev k : Reading
  k = record { ends = false; at = r }

  -- a verdict leads to Idle or L9, where nothing is claimed
  from_verdict : (b : Act) → Guard S G t b → Room X b → (ok : Bool) (w : After) → Leads X G F t r cs c new b (verdict ok w)
  from_verdict b g m true Own = acts X G F t r cs c new b _ _ g m by_none tt
  from_verdict b g m false Own = acts X G F t r cs c new b _ _ g m by_none tt
  from_verdict b g m true (AtL8 x true) = acts X G F t r cs c new b _ _ g m by_none tt
  from_verdict b g m true (AtL8 x false) = acts X G F t r cs c new b _ _ g m by_none tt
  from_verdict b g m false (AtL8 x m1) = acts X G F t r cs c new b _ _ g m by_none tt
  from_verdict b g m ok AtL11 = acts X G F t r cs c new b _ _ g m by_none tt

  module _ (u : ℕ) (w : After) (l : u ≢ 0 → Live X u) where
    pub from_H1 : (i n : ℕ) → n ≡ (S.terms u).n → (b : Bool) → is_stored S u i ≡ b → At S G cs (H1 u i w)
        → Leads X G F t r cs c new (pick b (hold u i) nop) (On (after_h1 u i n w b))
    from_H1 i n few true e h = acts X G F t r cs c new (hold u i) _ _
        (record { nonzero = h.0; ok = F.changes_law u (l h.0); inside = h.1; prior = h.2; at = eqb-true _ _ e }) (l h.0)
        (λ z. subst (λ y. Live X y) (sym (held_names u i n w)) (l h.0))
        (at_held (apply (hold u i) S) (note t (hold u i) k S G) _ u w i n (rw (same_terms S G t k (hold u i) u tt) few) h.0 now-held)
      where
        now-held : HeldTo ((note t (hold u i) k S G).held u) (i + 1)
        now-held j p = ⊎_elim (λ (q : j ≡ i). rw q (hold_held S G t k u i))
            (λ x. stay_held S G t k (hold u i) u j tt (h.2 j (omega arith))) (same? j i)
    from_H1 i n few false e h = reads X G F t r cs c new _ _ l (h.0, h.1, h.2, eqb-false _ _ e)

    -- H2: not u's own, so u lost the record, or it held it and is over
    pub from_H2 : (i n : ℕ) → n ≡ (S.terms u).n → (now : ℕ) → now ≡ S.info ((S.terms u).rec i) → At S G cs (H2 u i w)
        → Leads X G F t r cs c new nop (On (after_h2 u i n w now))
    from_H2 i n few now e h = go (eqb now u) refl
      where
        O : OkOf S G u
        O = F.changes_law u (l h.0)

        held : now ≡ u → HeldTo (G.held u) (i + 1)
        held q j p = ⊎_elim (λ (x : j ≡ i). rw x (O.held_law i h.1 (sym e ∙ q))) (λ x. h.2 j (omega arith)) (same? j i)

        past : now ≢ u → (S.state u ≡ Committed) ⊎ LostOf S G u
        past n = ⊎_elim
            (λ y. ⊎_elim (λ (p : S.state u ≡ InProgress). absurd (n (e ∙ O.holds_law i h.1 y p)))
            (⊎_elim (λ d. inl d) (λ a. inr (O.aborted_law a))) (st? (S.state u)))
            (λ f. inr (i, h.1, h.2, f, h.3)) (bool? (G.held u i))

        go : (b : Bool) → eqb now u ≡ b → Leads X G F t r cs c new nop (On (pick b (after_held u i n w) (H3 u w)))
        go true q = reads X G F t r cs c new _ _ (λ z. subst (λ y. Live X y) (sym (held_names u i n w)) (l h.0))
            (at_held S G _ u w i n few h.0 (held (eqb-true now u q)))
        go false q = reads X G F t r cs c new _ _ l (h.0, past (eqb-false now u q))

    pub from_H3 : (b : Bool) → b ≡ S.frozen u → At S G cs (H3 u w) → Leads X G F t r cs c new nop (after_h3 u w b)
    from_H3 true e h = from_verdict nop tt tt true w
    from_H3 false e h = reads X G F t r cs c new _ _ l (h.0, ⊎_elim (λ d. tf (frozen d) (sym e)) (λ z. z) h.1)
      where
        frozen : S.state u ≡ Committed → S.frozen u ≡ true
        frozen d = let O = F.changes_law u (l h.0) in (O.happened_law (O.committed_law d)).0

    pub from_H4 : At S G cs (H4 u w) → Leads X G F t r cs c new (abort u) (verdict false w)
    from_H4 h = from_verdict (abort u) (record { ok = F.changes_law u (l h.0); lost = h.1 }) tt false w

    -- H7: a cell that is not the old one has been written already
    pub from_H7 : (b : Bool) → is_old S u ≡ b → At S G cs (H7 u w) → Leads X G F t r cs c new (pick b (write u) nop) (On (H8 u w))
    from_H7 true e h = acts X G F t r cs c new (write u) _ _
        (record { ok = F.changes_law u (l h.0); frozen = h.1; marked = h.2; is_old = same_eq _ _ e }) (l h.0) l (h.0, write_hap S G t k u)
    from_H7 false e h = reads X G F t r cs c new _ _ l
        (h.0, ⊎_elim (λ y. y) (λ f. tf (eq_same _ _ (O.snap_law f (inr (holds f)))) e) (bool? (G.hap u)))
      where
        O : OkOf S G u
        O = F.changes_law u (l h.0)

        holds : G.hap u ≡ false → S.info (spot (S.terms u)) ≡ u
        holds f = O.holds_law _ O.shape_law.1 (O.frozen_law h.1 _ O.shape_law.1) (⊎_elim (λ p. p)
            (⊎_elim (λ d. tf (O.committed_law d) f) (λ a. lost_frozen S G u O (O.aborted_law a) h.1)) (st? (S.state u)))

    pub from_H8 : At S G cs (H8 u w) → Leads X G F t r cs c new (commit u) (verdict true w)
    from_H8 h = from_verdict (commit u) (record { ok = F.changes_law u (l h.0); hap = h.1 }) tt true w

    -- R as the change has it, and no place of it past the list
    module _ (rs : List Bool) (same : (j : ℕ) → get_or rs j false ≡ (S.terms u).closes j)
        (inside : (j : ℕ) → j < 4 → get_or rs j false ≡ true → j < (S.terms u).n) where
      marks : (i : ℕ) → u ≢ 0 → change_of (at_mark u (first_from rs i) w) ≢ 0 → Live X (change_of (at_mark u (first_from rs i) w))
      marks i z n = subst (λ y. Live X y) (sym (mark_names u (first_from rs i) w)) (l z)

      pub from-H5 : At S G cs (H5 u w) → Leads X G F t r cs c new (freeze u) (On (at_mark u (first_from rs 0) w))
      unfolding apply
      from-H5 h = acts X G F t r cs c new (freeze u) _ _ (record { ok = O; all = h.1 }) tt (marks 0 h.0)
          (at_mark_lem (apply (freeze u) S) (note t (freeze u) k S G) _ u w rs 0 same inside O.shape_law.0 h.0 (freeze_frozen S G t k u)
          (λ j. none_below))
        where
          O : OkOf S G u
          O = F.changes_law u (l h.0)

      pub from-H6 : (i : ℕ) → At S G cs (H6 u i w) → Leads X G F t r cs c new (close u i) (On (at_mark u (first_from rs (i + 1)) w))
      unfolding apply
      from-H6 i h = acts X G F t r cs c new (close u i) _ _ (record { ok = O; frozen = h.1; inside = h.2; closes = h.3 }) tt (marks (i + 1) h.0)
          (at_mark_lem (apply (close u i) S) (note t (close u i) k S G) _ u w rs (i + 1) same inside O.shape_law.0 h.0 h.1 to)
        where
          O : OkOf S G u
          O = F.changes_law u (l h.0)

          to : MarkedTo (apply (close u i) S) (S.terms u) (i + 1)
          to j p d = ⊎_elim (λ (x : j ≡ i). rw x (close_mark S G t k u i))
              (λ x. stay_mark S G t k (close u i) _ (h.4 j (omega arith) d)) (same? j i)
