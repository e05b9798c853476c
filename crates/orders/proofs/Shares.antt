-- What a call does to the shared words is its act: a refused call none, a start none or the change it takes, a STEP that of its place.
use Prim.Native.Nat.{ℕ, ◌+◌, ◌<◌, ◌≤◌}
use native.Mathlib.Omega.{arith}
use mathlib.Core.Path.{◌≡◌, refl}
use mathlib.Core.Bool.{Bool}
use mathlib.Core.List.{List}
use lib.ListN.{get_or, length}
use Rattle.rules.specs.Words.{Cell, Machine, Ask, AskLlx, AskScx, AskVlx, AskRead, AskStep, Call, Check, Ok, Err}
use Rattle.rules.specs.Words.{Place, Idle, L1, L2, L3, L4, L5, L6, L7, L8, L9, L10, L11, H1, H2, H3, H4, H5, H6, H7, H8, Vlx, Read}
use Rattle.table.specs.Table.{record_at, change_at, task_at, link_at}
use Rattle.rules.specs.Perform.{perform}
use Rattle.rules.specs.Step.{settle, access_at, step}
use Rattle.rules.specs.Start.{filled, start}
use Rattle.rules.specs.Refuse.{check, rules_of}
use Rattle.rules.specs.Next.{refused, started, accepted, answered, next}
use Rattle.keeps.proofs.Fine.{Fine}
use Rattle.keeps.proofs.Lengths.{Sized}
use Rattle.keeps.proofs.Acts.{Claimed, access_from, acts}
use Rattle.keeps.proofs.Obeyed.{Obeys, passed}
use Rattle.clauses.proofs.Memory.{apply}
use Rattle.clauses.proofs.Steps.{act_at}
use Rattle.orders.proofs.View.{shared, doing, done_by, did}
use Rattle.orders.proofs.Acts.{afterwards, reads, holds, closes, writes, aborts, freezes, commits, makes}

module _ (m : Machine) (F : Fine m) (Z : Sized m) where
  -- the records and the used changes have room in their arrays
  record_room : (r : ℕ) → r < m.n → r < length m.records
  record_room r l = omega (arith, F.n<33, Z.records)

  change_room : (u : ℕ) → u ≤ m.used → u < length m.changes
  change_room u l = omega (arith, F.used<256, Z.changes)

  field_room : (u : ℕ) → 0 < u → u ≤ m.used → (r : ℕ) → r < m.n → (change_at m u).field < length (record_at m r).cells
  field_room u u0 ul r l = omega (arith, (F.change_fine_lem u u0 ul).1.1.1.0, Z.record_cells r (omega (arith, F.n<33)))

  module _ (linked : ℕ → Bool) (cells : List Cell) (l : List ℕ) where
    by_place : (q : Place) → Claimed m linked cells l q
        → afterwards m.n m.records m.changes (access_from m l q) ≡ apply (act_at (shared m) q) (shared m)
    unfolding act_at apply
    by_place Idle h = reads m.n m.records m.changes 0 0
    by_place (L1 r) h = reads m.n m.records m.changes r 0
    by_place (L2 r m1) h = reads m.n m.records m.changes r 0
    by_place (L3 r m1 a) h = reads m.n m.records m.changes 0 a
    by_place (L4 r m1 a s) h = reads m.n m.records m.changes r 0
    by_place (L5 r m1 a f) h = reads m.n m.records m.changes r 0
    by_place (L6 r m1 a) h = reads m.n m.records m.changes r 0
    by_place (L7 r m1 a) h = reads m.n m.records m.changes 0 a
    by_place (L8 r m1 a) h = reads m.n m.records m.changes 0 a
    by_place (L9 r) h = reads m.n m.records m.changes r 0
    by_place (L10 r b) h = reads m.n m.records m.changes 0 b
    by_place (L11 r) h = reads m.n m.records m.changes r 0
    by_place (H1 u i after) h =
        let q = (acts m F linked cells l (H1 u i after) h).0 in holds m.n m.records m.changes u i q (record_room _ q)
    by_place (H2 u i after) h = reads m.n m.records m.changes (get_or (change_at m u).v i 0) 0
    by_place (H3 u after) h = reads m.n m.records m.changes 0 u
    by_place (H4 u after) h = aborts m.n m.records m.changes u h.0 (change_room u h.1.0)
    by_place (H5 u after) h = freezes m.n m.records m.changes u h.0 (change_room u h.1.0)
    by_place (H6 u i after) h =
        let q = (acts m F linked cells l (H6 u i after) h).0 in closes m.n m.records m.changes u i q (record_room _ q)
    by_place (H7 u after) h =
        let q = (acts m F linked cells l (H7 u after) h).0 in
        writes m.n m.records m.changes u q (record_room _ q) (field_room u h.0 h.1.0 _ q)
    by_place (H8 u after) h = commits m.n m.records m.changes u h.0 (change_room u h.1.0)
    by_place (Vlx n i) h = reads m.n m.records m.changes (get_or l i 0) 0
    by_place (Read r f) h = reads m.n m.records m.changes r 0

  by_accepted : (t : ℕ) (ask : Ask) (l : List ℕ) → Obeys m t ask l
      → shared (accepted m t ask l).m ≡ apply (doing m t ask l) (shared m)
  unfolding apply started start step settle perform access_at
  by_accepted t (AskLlx r) l h = refl
  by_accepted t (AskScx n r written field new) l h =
      makes m.n m.records m.changes (m.used + 1) (omega arith) (omega (arith, h.1.1.1.1.1.1.1.0, Z.changes))
      (filled m t n l r written field new) refl refl
  by_accepted t (AskVlx n) l h = refl
  by_accepted t (AskRead r f) l h = refl
  by_accepted t AskStep l h =
      let x = task_at m t in by_place (λ r. (link_at m t r).there) x.cells x.list x.place (F.task_fine_lem t h.0)

pub shares : (m : Machine) → Fine m → Sized m → (e : Call) → shared (next m e).m ≡ apply (did m e) (shared m)
unfolding next rules_of refused apply
shares m F Z e = go (check (rules_of m e)) refl
  where
    go : (c : Check) → check (rules_of m e) ≡ c → shared (answered c m e).m ≡ apply (done_by c m e) (shared m)
    go (Ok _) h = by_accepted m F Z e.task e.ask e.list (passed (rules_of m e) h).1
    go (Err why) h = refl
