-- Where the steps of a linked read and of a VLX lead: they write nothing, so what the new place knows is shown of the words as they are.
use Prim.Native.Nat.{ℕ, suc, ◌+◌, ◌<◌}
use mathlib.Core.Path.{◌≡◌, refl, sym, ap, ◌∙◌, subst}
use mathlib.Core.Bool.{Bool, true, false}
use mathlib.Core.Logic.{inl, ◌≢◌, ⊎_elim}
use mathlib.Core.List.{List}
use native.Mathlib.Omega.{arith}
use native.Mathlib.Nat.{le_refl}
use lib.ListN.{length, set}
use lib.Seq.{get_or-set_same, get_or-set_other}
use lib.Dec.{eqb, ltb}
use borrow.Author.Tests.{eqb-true, eqb-false, ltb-true, ltb-false}
use Rattle.rules.specs.Words.{Cell, State, InProgress, Committed, Aborted, Link, After, AtL8, AtL11, Fail, Yes}
use Rattle.rules.specs.Words.{L4, L5, L6, L7, L10, H1, Vlx}
use Rattle.table.specs.Table.{pick, no_cell, cell_at}
use Rattle.rules.specs.Words.{On, Keep, Done, Store, Unlink}
use Rattle.rules.specs.Resume.{after_l4, after_l5, after_l6, after_l7, after_l8, after_l10, after_l11, after_vlx}
use Rattle.clauses.proofs.Updates.{same?, tf}
use Rattle.clauses.proofs.Memory.{Shared, Table, apply, nop}
use Rattle.clauses.proofs.History.{Ghost, Reading, note}
use Rattle.clauses.proofs.Clauses.{InR, Snap, Anchor, At, Live, Fine}
use Rattle.clauses.proofs.Rights.{ca, ci, ai}
use Rattle.clauses.proofs.Advanced.{Leads, none_below, by_none, reads}

module _ (X : Table) (G : Ghost) (F : Fine X G) (t r : ℕ) (cs : List Cell) (c : Cell) (new : Link) where
  abbrev S : Shared
  S = X.sh

  -- number 0 is Aborted
  not_zero : (a : ℕ) → S.state a ≢ Aborted → a ≢ 0
  not_zero a h e = h (ap S.state e ∙ F.zero_law)

  -- L4: a record that a Committed change closes is marked, so one without a mark is not closed by a
  pub from_L4 : (m1 : Bool) (a : ℕ) (s : State) (m2 : Bool) → m2 ≡ S.mark r → (a ≢ 0 → Live X a) → At S G cs (L4 r m1 a s)
      → Leads X G F t r cs c new nop (On (after_l4 r m1 a s m2))
  from_L4 m1 a InProgress m2 e l h = reads X G F t r cs c new _ _ l tt
  from_L4 m1 a Committed false e l h =
      let z = h (λ q. ci refl q) in
      reads X G F t r cs c new _ _ l (omega arith, (λ q. ci z q, λ c w. unmarked z w), λ i f. none_below)
    where
      unmarked : S.state a ≡ Committed → InR S a r → ⊥
      unmarked d (i, h, q, w) =
          let O = F.changes_law a (l (not_zero a (λ x. ca d x))) in
          tf (rw w at ((O.happened_law (O.committed_law d)).1 i h q)) (sym e)
  from_L4 m1 a Committed true e l h = reads X G F t r cs c new _ _ l tt
  from_L4 m1 a Aborted m2 e l h =
      let z = h (λ q. ai refl q) in
      reads X G F t r cs c new _ _ l (omega arith, (λ q. ai z q, λ c. ca c z), λ i f. none_below)

  pub from_L5 : (m1 : Bool) (a f : ℕ) → length cs ≡ 4 → c ≡ S.cell r f → (a ≢ 0 → Live X a) → At S G cs (L5 r m1 a f)
      → Leads X G F t r cs c new nop (Keep (after_l5 r m1 a f) f)
  from_L5 m1 a f four e l h = go (ltb f 3) refl
    where
      more : (k : ℕ) → k ≡ suc f → Snap S r a k (set cs f c)
      more k q i g j = ⊎_elim
          (λ (x : g ≡ f). rw x (sym e ∙ sym (get_or-set_same cs f c no_cell (omega (arith, h.0)))))
          (λ n. h.2 i g (omega arith) ∙ sym (get_or-set_other cs f g c no_cell n)) (same? g f)

      go : (b : Bool) → ltb f 3 ≡ b → Leads X G F t r cs c new nop (Keep (pick b (L5 r m1 a (f + 1)) (L6 r m1 a)) f)
      go true z = reads X G F t r cs c new _ _ l (omega (arith, ltb-true f 3 z), h.1, more (f + 1) (omega arith))
      go false z = reads X G F t r cs c new _ _ l (h.1, more 4 (omega (arith, h.0, ltb-false f 3 z)))

  pub from_L7 : (m1 : Bool) (a : ℕ) (s : State) → (a ≢ 0 → Live X a) → Leads X G F t 0 cs c new nop (after_l7 r m1 a s)
  from_L7 m1 a InProgress l = reads X G F t 0 cs c new _ _ l tt
  from_L7 false a Committed l = reads X G F t 0 cs c new _ _ by_none tt
  from_L7 true a Committed l = reads X G F t 0 cs c new _ _ by_none tt
  from_L7 m1 a Aborted l = reads X G F t 0 cs c new _ _ l tt

  -- whoever begins to help a live change
  begins : (w : After) (a k : ℕ) → a ≢ 0 → Live X a → Leads X G F t k cs c new nop (On (H1 a 0 w))
  begins w a k z l = reads X G F t k cs c new _ _ (λ n. l) (z, omega (arith, (F.changes_law a l).shape_law.1), λ j. none_below)

  pub from_L8 : (m1 : Bool) (a : ℕ) (s : State) → s ≡ S.state a → (a ≢ 0 → Live X a)
      → Leads X G F t 0 cs c new nop (On (after_l8 r m1 a s))
  from_L8 m1 a InProgress e l = let z = not_zero a (λ q. ai q (sym e)) in begins (AtL8 r m1) a 0 z (l z)
  from_L8 m1 a Committed e l = reads X G F t 0 cs c new _ _ by_none tt
  from_L8 m1 a Aborted e l = reads X G F t 0 cs c new _ _ by_none tt

  -- L10: b is InProgress, so it is no dummy, and the info is none from then on
  pub from_L10 : (b : ℕ) (s : State) → s ≡ S.state b → At S G cs (L10 r b) → Leads X G F t 0 cs c new nop (after_l10 r s)
  from_L10 b InProgress e h = reads X G F t 0 cs c new _ _ by_none (h (not_zero b (λ q. ai q (sym e))))
  from_L10 b Committed e h = reads X G F t 0 cs c new _ _ by_none tt
  from_L10 b Aborted e h = reads X G F t 0 cs c new _ _ by_none tt

  pub from_L11 : (a : ℕ) → a ≡ S.info r → Leads X G F t r cs c new nop (after_l11 a)
  from_L11 a e = go (eqb a 0) refl
    where
      go : (b : Bool) → eqb a 0 ≡ b → Leads X G F t r cs c new nop (pick b (Done Fail) (On (H1 a 0 AtL11)))
      go true z = reads X G F t r cs c new _ _ by_none tt
      go false z = begins AtL11 a r (eqb-false a 0 z) (eqb-false a 0 z, inl (r, sym e))

  pub from_Vlx : (n i now linked : ℕ) → Leads X G F t r cs c new nop (after_vlx n i now linked)
  from_Vlx n i now linked = go (eqb now linked) (ltb (i + 1) n) refl
    where
      go : (a b : Bool) → ltb (i + 1) n ≡ b → Leads X G F t r cs c new nop (pick a (pick b (On (Vlx n (i + 1))) (Done Yes)) (Unlink n))
      go true true e = reads X G F t r cs c new _ _ by_none (ltb-true (i + 1) n e)
      go true false e = reads X G F t r cs c new _ _ by_none tt
      go false b e = reads X G F t r cs c new _ _ by_none tt

-- L6: the info is still a, so the cells kept are the record's and no change has taken hold or effect since
module _ (X : Table) (G : Ghost) (F : Fine X G) (t r : ℕ) (cs : List Cell) (c : Cell) where
  pub from_L6 : (m1 : Bool) (a now : ℕ) → now ≡ X.sh.info r → (a ≢ 0 → Live X a) → At X.sh G cs (L6 r m1 a)
      → Leads X G F t r cs c (record { there = true; info = now; cells = cs }) nop (after_l6 r m1 a now)
  unfolding apply note
  from_L6 m1 a now e l h = go (eqb now a) refl
    where
      link : Link
      link = record { there = true; info = now; cells = cs }

      go : (b : Bool) → eqb now a ≡ b → Leads X G F t r cs c link nop (pick b Store (On (L7 r m1 a)))
      go false z = reads X G F t r cs c link _ _ l tt
      go true z =
          record { guard = tt; room = tt; place = tt; carried = by_none; stored = λ y there. rw (eqb-true now a z) (anchor, h.1, ended) }
        where
          q : X.sh.info r ≡ a
          q = sym e ∙ eqb-true now a z

          k : Reading
          k = record { ends = true; at = r }

          anchor : Anchor X.sh (note t nop k X.sh G) r a (suc G.now)
          anchor = record {
            final_law = h.0;
            clear_law = λ i. (omega (arith, (F.past_law r).0), omega (arith, (F.past_law r).1));
            taken_law = λ n. absurd (n q);
            past_law = le_refl _;
          }

          ended : (f : ℕ) → f < 4 → X.sh.state (cell_at cs f).stamp ≢ InProgress
          ended f j = subst (λ (d : Cell). X.sh.state d.stamp ≢ InProgress) (h.1 q f j) (⊎_elim
              (λ (y : (X.sh.cell r f).stamp ≡ X.sh.info r). subst (λ x. X.sh.state x ≢ InProgress) (sym (y ∙ q)) h.0.0)
              (λ n. n) (F.stamp_law r f j))
