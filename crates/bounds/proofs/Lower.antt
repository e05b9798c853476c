-- A busy task's OWN STEP lowers its rank.
use Prim.Native.Nat.{ℕ, suc, ◌+◌, ◌-◌, ◌*◌, ◌≤◌, ◌<◌}
use mathlib.Core.Path.{◌≡◌, refl, sym, ap, ◌∙◌}
use mathlib.Core.Bool.{Bool, true, false}
use mathlib.Core.Logic.{inl, ◌≢◌}
use mathlib.Core.List.{List}
use lib.Dec.{eqb, ltb}
use borrow.Author.Tests.{ltb-true, ltb-false, eqb-false}
use native.Mathlib.Omega.{arith}
use native.Mathlib.Nat.{le_refl}
use Rattle.rules.specs.Words.{Cell, State, InProgress, Committed, Aborted, Change, After, Own, AtL8, AtL11, Seen, Fail, Yes}
use Rattle.rules.specs.Words.{Place, Idle, L1, L2, L3, L4, L5, L6, L7, L8, L9, L10, L11, H1, H2, H3, H4, H5, H6, H7, H8, Vlx, Read}
use Rattle.table.specs.Table.{pick}
use Rattle.rules.specs.Places.{change_of, resume}
use Rattle.rules.specs.Step.{place_of}
use Rattle.rules.specs.Words.{On, Done, Store, Unlink}
use Rattle.rules.specs.Resume.{after_l4, after_l5, after_l6, after_l7, after_l8, after_l10, after_l11, verdict}
use Rattle.rules.specs.Resume.{after_held, after_h1, after_h3, first_from, at_mark, after_vlx}
use Rattle.keeps.proofs.Stores.{picked}
use Rattle.clauses.proofs.Memory.{Terms, Shared, Table, apply, nop, hold, abort, freeze, close, commit}
use Rattle.clauses.proofs.History.{Ghost}
use Rattle.clauses.proofs.Clauses.{At, Live, Fine}
use Rattle.clauses.proofs.Rights.{ai}
use Rattle.clauses.proofs.Steps.{terms_of, is_stored, act_at, Saw}
use Rattle.bounds.proofs.Marks.{count, all, count_le, one_less, marks}
use Rattle.bounds.proofs.Rank.{rest, ended, rank}

-- after the help
r_verdict : (S : Shared) (after : After) (b : Bool) → rank S (place_of (verdict b after)) ≤ rest after
unfolding rank
r_verdict S Own true = le_refl _
r_verdict S Own false = le_refl _
r_verdict S (AtL8 r true) true = omega arith
r_verdict S (AtL8 r true) false = le_refl _
r_verdict S (AtL8 r false) true = le_refl _
r_verdict S (AtL8 r false) false = le_refl _
r_verdict S AtL11 b = le_refl _

-- final_law: an info kept for a comparison has ended, so L6 leads to no help of it
final_ended : (s : State) → s ≢ InProgress → ended s ≡ true
final_ended InProgress n = absurd (n refl)
final_ended Committed n = refl
final_ended Aborted n = refl

module _ (S : Shared) (r : ℕ) (m1 : Bool) (a : ℕ) where
  r_l7 : rank S (L7 r m1 a) < 36
  unfolding rank
  r_l7 = picked (λ n. n < 36) (ended (S.state a)) 20 35 (λ e. omega arith) (λ e. omega arith)

  after_l4_lem : (s : State) (m2 : Bool) → rank S (after_l4 r m1 a s m2) < 36
  unfolding rank
  after_l4_lem InProgress m2 = r_l7
  after_l4_lem Committed true = r_l7
  after_l4_lem Committed false = omega arith
  after_l4_lem Aborted m2 = omega arith

  after_l5_lem : (f : ℕ) → f < 4 → rank S (after_l5 r m1 a f) < 25 - f
  unfolding rank
  after_l5_lem f h = picked (λ q. rank S q < 25 - f) (ltb f 3) (L5 r m1 a (f + 1)) (L6 r m1 a) (λ e. omega (arith, ltb-true f 3 e)) (λ e. omega arith)

  after_l6_lem : (now : ℕ) → S.state a ≢ InProgress → rank S (place_of (after_l6 r m1 a now)) < 21
  unfolding rank
  after_l6_lem now n = picked (λ v. rank S (place_of v) < 21) (eqb now a) Store (On (L7 r m1 a)) (λ e. omega arith)
      (λ e. rw (final_ended (S.state a) n) (omega arith))

  after_l8_lem : (s : State) → s ≡ S.state a → (S.state a ≡ InProgress → (S.terms a).n ≤ 4) → rank S (after_l8 r m1 a s) < rank S (L8 r m1 a)
  unfolding rank
  after_l8_lem InProgress e n4 = let few = n4 (sym e) in rw (← e) (omega (arith, count_le (S.terms a).closes 0 4))
  after_l8_lem Committed e n4 = rw (← e) (omega arith)
  after_l8_lem Aborted e n4 = rw (← e) (omega arith)

module _ (S : Shared) where
  after_l7_lem : (r : ℕ) (m1 : Bool) (a : ℕ) (s : State) → s ≡ S.state a → rank S (place_of (after_l7 r m1 a s)) < rank S (L7 r m1 a)
  unfolding rank
  after_l7_lem r m1 a InProgress e = rw (← e) (omega arith)
  after_l7_lem r false a Committed e = rw (← e) (omega arith)
  after_l7_lem r true a Committed e = rw (← e) (omega arith)
  after_l7_lem r m1 a Aborted e = rw (← e) (omega arith)

  after_l10_lem : (r : ℕ) (s : State) → rank S (place_of (after_l10 r s)) < 17
  unfolding rank
  after_l10_lem r InProgress = omega arith
  after_l10_lem r Committed = omega arith
  after_l10_lem r Aborted = omega arith

  after_l11_lem : (c : ℕ) → (c ≢ 0 → (S.terms c).n ≤ 4) → rank S (place_of (after_l11 c)) < 16
  unfolding rank
  after_l11_lem c n4 = picked (λ v. rank S (place_of v) < 16) (eqb c 0) (Done Fail) (On (H1 c 0 AtL11)) (λ e. omega arith)
      (λ e. let few = n4 (eqb-false c 0 e) in omega (arith, count_le (S.terms c).closes 0 4))

  after_vlx_lem : (n i now linked : ℕ) → i < n → rank S (place_of (after_vlx n i now linked)) < n - i
  unfolding rank
  after_vlx_lem n i now linked h = picked (λ v. rank S (place_of v) < n - i) (eqb now linked)
      (pick (ltb (i + 1) n) (On (Vlx n (i + 1))) (Done Yes)) (Unlink n)
      (λ e. picked (λ v. rank S (place_of v) < n - i) (ltb (i + 1) n) (On (Vlx n (i + 1))) (Done Yes)
      (λ q. omega (arith, ltb-true (i + 1) n q)) (λ q. omega arith))
      (λ e. omega arith)

-- the help of u, whose terms are those of ch
module _ (S : Shared) (ch : Change) (u : ℕ) (after : After) (e : terms_of ch ≡ S.terms u) where
  -- held at place i: the next, or H5
  after_hold : (i : ℕ) → i < (S.terms u).n → rank S (after_held u i ch.n after) < 2 * ((S.terms u).n - i) + all (S.terms u) + 2 + rest after
  unfolding rank
  after_hold i h =
      let same = ap (λ (c : Terms). c.n) e in
      picked (λ q. rank S q < 2 * ((S.terms u).n - i) + all (S.terms u) + 2 + rest after) (ltb (i + 1) ch.n) (H1 u (i + 1) after) (H5 u after)
      (λ q. omega (arith, ltb-true (i + 1) ch.n q)) (λ q. omega (arith, ltb-false (i + 1) ch.n q))

  after_h1_lem : (i : ℕ) → i < (S.terms u).n → (b : Bool) → rank S (after_h1 u i ch.n after b) < rank S (H1 u i after)
  unfolding rank
  after_h1_lem i h true = omega (arith, after_hold i h)
  after_h1_lem i h false = omega arith

  after_h2_lem : (i : ℕ) → i < (S.terms u).n → (b : Bool) → rank S (pick b (after_held u i ch.n after) (H3 u after)) < rank S (H2 u i after)
  unfolding rank
  after_h2_lem i h true = after_hold i h
  after_h2_lem i h false = omega arith

  after_h3_lem : (b : Bool) → rank S (place_of (after_h3 u after b)) < 2 + rest after
  unfolding rank
  after_h3_lem true = omega (arith, r_verdict S after true)
  after_h3_lem false = omega arith

  -- exactly the places of R that are left, then H7 and H8
  to_mark : (i d : ℕ) → i + d ≡ 4 → rank S (at_mark u (first_from ch.r i) after) ≡ count (S.terms u).closes i d + 2 + rest after
  unfolding rank
  to_mark = rw (← e) (marks ch.r u after (λ q n. rank S q ≡ n + 2 + rest after) (λ i h f. rw (← e) refl) refl)

  after_h6 : (i : ℕ) → i < 4 → (S.terms u).closes i ≡ true → rank S (at_mark u (first_from ch.r (i + 1)) after) < rank S (H6 u i after)
  unfolding rank
  after_h6 i h q =
      let next : i + 1 ≡ suc i = omega arith in
      rw (next, one_less (S.terms u).closes i h q) (omega (arith, to_mark (suc i) (3 - i) (omega arith)))

-- THE OWN STEP
module _ (X : Table) (G : Ghost) (F : Fine X G) (cs : List Cell) (s : Seen) (ch : Change) (linked : ℕ) where
  abbrev S : Shared
  S = X.sh

  few : (a : ℕ) → a ≢ 0 → (a ≢ 0 → Live X a) → (S.terms a).n ≤ 4
  few a z l = (F.changes_law a (l z)).shape_law.0

  pub lower : (q : Place) → terms_of ch ≡ S.terms (change_of q) → Saw S s q → (change_of q ≢ 0 → Live X (change_of q)) → At S G cs q
      → q ≢ Idle
      → rank (apply (act_at S q) S) (place_of (resume q s ch linked)) < rank S q
  unfolding rank apply act_at
  lower Idle e w l h k = absurd (k refl)
  lower (L1 r) e w l h k = omega arith
  lower (L2 r m1) e w l h k = omega arith
  lower (L3 r m1 a) e w l h k = omega arith
  lower (L4 r m1 a x) e w l h k = after_l4_lem S r m1 a x s.bit
  lower (L5 r m1 a f) e w l h k = after_l5_lem S r m1 a f h.0
  lower (L6 r m1 a) e w l h k = after_l6_lem S r m1 a s.number h.0.0
  lower (L7 r m1 a) e w l h k = after_l7_lem S r m1 a s.state w
  lower (L8 r m1 a) e w l h k = after_l8_lem S r m1 a s.state w (λ g. few a (λ z. ai (ap S.state z ∙ F.zero_law) g) l)
  lower (L9 r) e w l h k = omega arith
  lower (L10 r b) e w l h k = after_l10_lem S r s.state
  lower (L11 r) e w l h k = after_l11_lem S s.number (λ z. few s.number z (λ z. (z, inl (r, sym w))))
  lower (H1 u i after) e w l h k = picked (λ b. rank (apply b S) (after_h1 u i ch.n after s.bit) < rank S (H1 u i after)) (is_stored S u i)
      (hold u i) nop (λ _. after_h1_lem (apply (hold u i) S) ch u after e i h.1 s.bit) (λ _. after_h1_lem S ch u after e i h.1 s.bit)
  lower (H2 u i after) e w l h k = after_h2_lem S ch u after e i h.1 (eqb s.number u)
  lower (H3 u after) e w l h k = after_h3_lem S ch u after e s.bit
  lower (H4 u after) e w l h k = omega (arith, r_verdict (apply (abort u) S) after false)
  lower (H5 u after) e w l h k = omega (arith, to_mark (apply (freeze u) S) ch u after e 0 4 refl)
  lower (H6 u i after) e w l h k = after_h6 (apply (close u i) S) ch u after e i (omega (arith, few u h.0 l, h.2)) h.3
  lower (H7 u after) e w l h k = omega arith
  lower (H8 u after) e w l h k = omega (arith, r_verdict (apply (commit u) S) after true)
  lower (Vlx n i) e w l h k = after_vlx_lem S n i s.number linked h
  lower (Read r f) e w l h k = omega arith
