-- Where a step leads: the new place is in shape with the cell seen among the task's cells, a link that is stored is in shape, and
-- the links dropped are to records that exist.
use Prim.Native.Nat.{ℕ, zero, suc, ◌+◌, ◌<◌, ◌≤◌, zero-le}
use native.Mathlib.Omega.{arith}
use native.Mathlib.Nat.{not-suc-le-zero}
use mathlib.Core.Path.{◌≡◌, refl}
use mathlib.Core.Bool.{Bool, true, false, false≢true}
use mathlib.Core.List.{List}
use lib.ListN.{get_or, set}
use lib.Dec.{ltb, eqb, lit<}
use borrow.Author.Tests.{ltb-true, ltb-false, eqb-false}
use Rattle.rules.specs.Words.{Cell, State, InProgress, Committed, Aborted, Change, After, Own, AtL8, AtL11, Machine}
use Rattle.rules.specs.Words.{Answer, Fail, Yes, Seen, Move}
use Rattle.rules.specs.Words.{Place, Idle, L1, L2, L3, L4, L5, L6, L7, L8, L9, L10, L11, H1, H2, H3, H4, H5, H6, H7, H8, Vlx, Read}
use Rattle.keeps.proofs.Stores.{stored, picked}
use Rattle.keeps.proofs.Fine.{Fine}
use Rattle.keeps.proofs.Places.{relinked}
use Rattle.keeps.proofs.Acts.{Claimed, seen_from}
use Rattle.table.specs.Table.{pick, no_cell, record_at, change_at, state_of}
use Rattle.rules.specs.Places.{change_of, resume}
use Rattle.rules.specs.Words.{On, Keep, Done, Store, Unlink}
use Rattle.rules.specs.Resume.{after_l4, after_l5, after_l6, after_l7, after_l8, after_l10, after_l11}
use Rattle.rules.specs.Resume.{verdict, after_held, first_from, at_mark, after_vlx}
use Rattle.rules.proofs.FirstFrom.{first_from_lem}
use Rattle.rules.specs.Step.{place_of, cells_by, stores_link, drop_of}
use Rattle.rules.specs.Claim.{Says}
use Rattle.rules.specs.Shape.{stamps_known, after_fine}

-- a change in progress is not the dummy
above : (a : ℕ) (ch : Change) → state_of a ch ≡ InProgress → 0 < a
above zero ch e = let z : ◌≡◌ {A = ℕ} 0 1 = cc in absurd (omega arith)
above (suc a) ch e = omega arith

-- the cell just read joins those that are known
joins : (used : ℕ) (cs : List Cell) (f : ℕ) (c : Cell) → c.stamp ≤ used → Says used (stamps_known f cs)
    → (n : ℕ) → n ≤ f + 1 → Says used (stamps_known n (set cs f c))
joins used cs f c cl h n nl j q = stored (λ (x : Cell). x.stamp ≤ used) cs f c no_cell j (λ e. cl) zero-le (λ d. h j (omega arith))

-- The links of the task may be others then, as long as those of a VLX that goes on are there: it drops none.
pub record MoveFine (m : Machine) (linked : ℕ → Bool) (cs : List Cell) (l : List ℕ) (s : Seen) (v : Move) : Type 0 where
  pub place_fine_lem : (linked' : ℕ → Bool) → (drop_of v ≡ 0 → (r : ℕ) → r < m.n → linked r ≡ true → linked' r ≡ true)
      → Claimed m linked' (cells_by cs s.cell v) l (place_of v)
  pub link_fine_lem : stores_link v ≡ true → (s.number ≤ m.used) × Says m.used (stamps_known 4 cs)
  pub list_fine_lem : (k : ℕ) → k < drop_of v → get_or l k 0 < m.n

module _ (m : Machine) (F : Fine m) (linked : ℕ → Bool) (cs : List Cell) (l : List ℕ) where
  abbrev Moved : Seen → Move → Type 0
  Moved s v = MoveFine m linked cs l s v

  none : (k : ℕ) → k < 0 → get_or l k 0 < m.n
  none k q = absurd (not-suc-le-zero q)

  on_fine : {s : Seen} (q : Place) → Claimed m linked cs l q → Moved s (On q)
  on_fine {s} q h =
      let ch = change_at m (change_of q) in
      record {
        place_fine_lem = λ linked' k. relinked m.used m.n ch.n ch.r linked cs l linked' (k refl) q h;
        link_fine_lem = λ e. absurd (false≢true e);
        list_fine_lem = none;
      }

  done_fine : {s : Seen} (a : Answer) → Moved s (Done a)
  done_fine a = record { place_fine_lem = λ linked' k. tt; link_fine_lem = λ e. absurd (false≢true e); list_fine_lem = none }

  after_l4_lem : {s : Seen} (r : ℕ) (m1 : Bool) (a : ℕ) (state : State) (m2 : Bool) → (r < m.n) × (a ≤ m.used) → Moved s (On (after_l4 r m1 a state m2))
  after_l4_lem r m1 a InProgress m2 h = on_fine (L7 r m1 a) h
  after_l4_lem r m1 a Committed false h = on_fine (L5 r m1 a 0) (h.0, (h.1, (lit< tt, λ k q. absurd (not-suc-le-zero q))))
  after_l4_lem r m1 a Committed true h = on_fine (L7 r m1 a) h
  after_l4_lem r m1 a Aborted m2 h = on_fine (L5 r m1 a 0) (h.0, (h.1, (lit< tt, λ k q. absurd (not-suc-le-zero q))))

  after_l5_lem : {s : Seen} (r : ℕ) (m1 : Bool) (a f : ℕ) → Claimed m linked cs l (L5 r m1 a f) → s.cell.stamp ≤ m.used
      → Moved s (Keep (after_l5 r m1 a f) f)
  after_l5_lem {s} r m1 a f h c =
      let known = joins m.used cs f s.cell c h.1.1.1 in
      record {
        place_fine_lem = λ linked' k. picked (λ q. Claimed m linked' (set cs f s.cell) l q) (ltb f 3) (L5 r m1 a (f + 1)) (L6 r m1 a)
            (λ e. let f3 = ltb-true f 3 e in (h.0, (h.1.0, (omega arith, known (f + 1) (omega arith)))))
            (λ e. let f3 = ltb-false f 3 e in (h.0, (h.1.0, known 4 (omega arith))));
        link_fine_lem = λ e. absurd (false≢true e);
        list_fine_lem = none;
      }

  after_l6_lem : {s : Seen} (r : ℕ) (m1 : Bool) (a : ℕ) → Claimed m linked cs l (L6 r m1 a) → s.number ≤ m.used → Moved s (after_l6 r m1 a s.number)
  after_l6_lem {s} r m1 a h c =
      picked (Moved s) (eqb s.number a) Store (On (L7 r m1 a))
      (λ e. record { place_fine_lem = λ linked' k. tt; link_fine_lem = λ e. (c, h.1.1); list_fine_lem = none })
      (λ e. on_fine (L7 r m1 a) (h.0, h.1.0))

  after_l7_lem : {s : Seen} (r : ℕ) (m1 : Bool) (a : ℕ) (state : State) → (r < m.n) × (a ≤ m.used) → Moved s (after_l7 r m1 a state)
  after_l7_lem r m1 a InProgress h = on_fine (L8 r m1 a) h
  after_l7_lem r false a Committed h = on_fine (L9 r) h.0
  after_l7_lem r true a Committed h = done_fine _
  after_l7_lem r m1 a Aborted h = on_fine (L8 r m1 a) h

  -- a used change has a first place to be held
  first : (u : ℕ) → 0 < u → u ≤ m.used → 0 < (change_at m u).n
  first u u0 ul = (F.change_fine_lem u u0 ul).0.0.0

  after_l8_lem : {s : Seen} (r : ℕ) (m1 : Bool) (a : ℕ) (state : State) → state_of a (change_at m a) ≡ state → (r < m.n) × (a ≤ m.used)
      → Moved s (On (after_l8 r m1 a state))
  after_l8_lem r m1 a InProgress e h = let a0 = above a (change_at m a) e in on_fine (H1 a 0 (AtL8 r m1)) (first a a0 h.1, (a0, (h.1, h.0)))
  after_l8_lem r m1 a Committed e h = on_fine (L9 r) h.0
  after_l8_lem r m1 a Aborted e h = on_fine (L9 r) h.0

  after_l10_lem : {s : Seen} (r : ℕ) (state : State) → r < m.n → Moved s (after_l10 r state)
  after_l10_lem r InProgress h = on_fine (L11 r) h
  after_l10_lem r Committed h = done_fine _
  after_l10_lem r Aborted h = done_fine _

  after_l11_lem : {s : Seen} (c : ℕ) → c ≤ m.used → Moved s (after_l11 c)
  after_l11_lem {s} c h =
      picked (Moved s) (eqb c 0) (Done Fail) (On (H1 c 0 AtL11)) (λ e. done_fine _)
      (λ e. let c0 : 0 < c = omega (arith, eqb-false c 0 e) in on_fine (H1 c 0 AtL11) (first c c0 h, (c0, (h, tt))))

  verdict_fine : {s : Seen} (ok : Bool) (after : After) → Says m.used (after_fine m.n after) → Moved s (verdict ok after)
  verdict_fine true Own h = done_fine _
  verdict_fine false Own h = done_fine _
  verdict_fine true (AtL8 r true) h = done_fine _
  verdict_fine true (AtL8 r false) h = on_fine (L9 r) h
  verdict_fine false (AtL8 r m1) h = on_fine (L9 r) h
  verdict_fine ok AtL11 h = done_fine _

  -- after a place of V is held, and after a record of R is marked
  after_held_lem : {s : Seen} (b : Bool) (u i : ℕ) (after : After) (q : Place)
      → Claimed m linked cs l (H5 u after) → Claimed m linked cs l q
      → Moved s (On (pick b (after_held u i (change_at m u).n after) q))
  after_held_lem {s} b u i after q h k =
      let n = (change_at m u).n in
      let C = Claimed m linked cs l in
      on_fine (pick b (after_held u i n after) q)
      (picked C b (after_held u i n after) q
      (λ e. picked C (ltb (i + 1) n) (H1 u (i + 1) after) (H5 u after) (λ f. (ltb-true (i + 1) n f, h)) (λ f. h)) (λ e. k))

  after_mark : {s : Seen} (u i : ℕ) (after : After) → (i < 4 → get_or (change_at m u).r i false ≡ true) → Claimed m linked cs l (H5 u after) → Moved s (On (at_mark u i after))
  after_mark {s} u i after q h =
      on_fine (at_mark u i after)
      (picked (Claimed m linked cs l) (ltb i 4) (H6 u i after) (H7 u after)
      (λ e. let l = ltb-true i 4 e in ((F.change_fine_lem u h.0 h.1.0).1.0 i l (q l), (q l, h))) (λ e. h))

  after_vlx_lem : {s : Seen} (n i now info : ℕ) → Claimed m linked cs l (Vlx n i) → Moved s (after_vlx n i now info)
  after_vlx_lem {s} n i now info h =
      picked (Moved s) (eqb now info) (pick (ltb (i + 1) n) (On (Vlx n (i + 1))) (Done Yes)) (Unlink n)
      (λ e. picked (Moved s) (ltb (i + 1) n) (On (Vlx n (i + 1))) (Done Yes)
      (λ f. on_fine (Vlx n (i + 1)) (ltb-true (i + 1) n f, h.1)) (λ f. done_fine Yes))
      (λ e. record { place_fine_lem = λ linked' k. tt; link_fine_lem = λ e. absurd (false≢true e); list_fine_lem = h.1.0.1.0 })

  -- what is read of a record that exists is known
  info_known : (r : ℕ) → r < m.n → (record_at m r).info ≤ m.used
  info_known r h = (F.record_fine_lem r h).0

  pub moves : (info : ℕ) (q : Place) → Claimed m linked cs l q → Moved (seen_from m l q) (resume q (seen_from m l q) (change_at m (change_of q)) info)
  moves info Idle h = done_fine _
  moves info (L1 r) h = on_fine (L2 r (record_at m r).mark) h
  moves info (L2 r m1) h = on_fine (L3 r m1 (record_at m r).info) (h, info_known r h)
  moves info (L3 r m1 a) h = on_fine (L4 r m1 a (state_of a (change_at m a))) h
  moves info (L4 r m1 a state) h = after_l4_lem r m1 a state (record_at m r).mark h
  moves info (L5 r m1 a f) h = after_l5_lem r m1 a f h ((F.record_fine_lem r h.0).1 f h.1.1.0)
  moves info (L6 r m1 a) h = after_l6_lem r m1 a h (info_known r h.0)
  moves info (L7 r m1 a) h = after_l7_lem r m1 a (state_of a (change_at m a)) h
  moves info (L8 r m1 a) h = after_l8_lem r m1 a (state_of a (change_at m a)) refl h
  moves info (L9 r) h = on_fine (L10 r (record_at m r).info) (h, info_known r h)
  moves info (L10 r b) h = after_l10_lem r (state_of b (change_at m b)) h.0
  moves info (L11 r) h = after_l11_lem (record_at m r).info (info_known r h)
  moves info (H1 u i after) h =
      let ch = change_at m u in
      after_held_lem (eqb (record_at m (get_or ch.v i 0)).info (get_or ch.infos i 0)) u i after (H2 u i after) h.1 h
  moves info (H2 u i after) h = after_held_lem (eqb (record_at m (get_or (change_at m u).v i 0)).info u) u i after (H3 u after) h.1 h.1
  moves info (H3 u after) h =
      picked (Moved _) (change_at m u).frozen (verdict true after) (On (H4 u after))
      (λ e. verdict_fine true after h.1.1) (λ e. on_fine (H4 u after) h)
  moves info (H4 u after) h = verdict_fine false after h.1.1
  moves info (H5 u after) h = after_mark u (first_from (change_at m u).r 0) after (first_from_lem (change_at m u).r 0).found h
  moves info (H6 u i after) h = after_mark u (first_from (change_at m u).r (i + 1)) after (first_from_lem (change_at m u).r (i + 1)).found h.1.1
  moves info (H7 u after) h = on_fine (H8 u after) h
  moves info (H8 u after) h = verdict_fine true after h.1.1
  moves info (Vlx n i) h = after_vlx_lem n i (record_at m (get_or l i 0)).info info h
  moves info (Read r f) h = done_fine _
