-- The access of a place in shape touches a record that exists, and leaves a record in shape so: a Hold puts in a used number, a
-- Write a cell with a used stamp.
use Prim.Native.Nat.{ℕ, ◌<◌, ◌≤◌}
use mathlib.Core.Bool.{Bool}
use mathlib.Core.List.{List}
use lib.ListN.{get_or, set}
use lib.Dec.{eqb}
use Rattle.rules.specs.Words.{Cell, Record, Machine, Access, Hold, Write, Seen}
use Rattle.rules.specs.Words.{Place, Idle, L1, L2, L3, L4, L5, L6, L7, L8, L9, L10, L11, H1, H2, H3, H4, H5, H6, H7, H8, Vlx, Read}
use Rattle.keeps.proofs.Stores.{any, picked}
use Rattle.keeps.proofs.Fine.{Fine}
use Rattle.table.specs.Table.{no_cell, cell_at, record_at, change_at, same_cell}
use Rattle.rules.specs.Places.{change_of, access_of}
use Rattle.rules.specs.Perform.{record_of, change_in, seen_by, record_by}
use Rattle.rules.specs.Claim.{Says}
use Rattle.rules.specs.Shape.{record_fine, stamps_known, place_fine}

-- a record in shape is left so
abbrev pub Leaves : ℕ → Access → Type 0
Leaves used a = (y : Record) → Says used (record_fine y) → Says used (record_fine (record_by a y))

hold_leaves : (used r want u : ℕ) → u ≤ used → Leaves used (Hold r want u)
hold_leaves used r want u l y k = (picked (λ i. i ≤ used) (eqb y.info want) u y.info (λ e. l) (λ e. k.0), k.1)

write_leaves : (used r f : ℕ) (old new : Cell) → new.stamp ≤ used → Leaves used (Write r f old new)
write_leaves used r f old new l y k = (
  k.0,
  picked (λ (cs : List Cell). Says used (stamps_known 4 cs)) (same_cell (cell_at y.cells f) old) (set y.cells f new) y.cells
      (λ e j q. any (λ (c : Cell). c.stamp ≤ used) y.cells f new no_cell j (λ e. l) (k.1 j q)) (λ e. k.1),
)

-- what the shape says of a task at place q, by the records that it has a link to, its cells and its list; the access there, and what
-- it sees
abbrev pub Claimed : Machine → (ℕ → Bool) → List Cell → List ℕ → Place → Type 0
Claimed m linked cs l q = let ch = change_at m (change_of q) in Says m.used (place_fine m.n ch.n ch.r linked cs l q)

abbrev pub access_from : Machine → List ℕ → Place → Access
access_from m l q = access_of q (change_at m (change_of q)) l

abbrev pub seen_from : Machine → List ℕ → Place → Seen
seen_from m l q = let a = access_from m l q in seen_by a (record_at m (record_of a)) (change_at m (change_in a))

module _ (m : Machine) (F : Fine m) (linked : ℕ → Bool) (cs : List Cell) (l : List ℕ) where
  -- the record at place i of a helped change
  listed : (u i : ℕ) → 0 < u → u ≤ m.used → i < (change_at m u).n → get_or (change_at m u).v i 0 < m.n
  listed u i u0 ul q = (F.change_fine_lem u u0 ul).0.1.0 i q

  pub acts : (q : Place) → Claimed m linked cs l q → (record_of (access_from m l q) < m.n) × Leaves m.used (access_from m l q)
  acts Idle h = (F.some_record, λ y k. k)
  acts (L1 r) h = (h, λ y k. k)
  acts (L2 r m1) h = (h, λ y k. k)
  acts (L3 r m1 a) h = (F.some_record, λ y k. k)
  acts (L4 r m1 a s) h = (h.0, λ y k. k)
  acts (L5 r m1 a f) h = (h.0, λ y k. k)
  acts (L6 r m1 a) h = (h.0, λ y k. k)
  acts (L7 r m1 a) h = (F.some_record, λ y k. k)
  acts (L8 r m1 a) h = (F.some_record, λ y k. k)
  acts (L9 r) h = (h, λ y k. k)
  acts (L10 r b) h = (F.some_record, λ y k. k)
  acts (L11 r) h = (h, λ y k. k)
  acts (H1 u i after) h =
      let ch = change_at m u in
      (listed u i h.1.0 h.1.1.0 h.0, hold_leaves m.used (get_or ch.v i 0) (get_or ch.infos i 0) u h.1.1.0)
  acts (H2 u i after) h = (listed u i h.1.0 h.1.1.0 h.0, λ y k. k)
  acts (H3 u after) h = (F.some_record, λ y k. k)
  acts (H4 u after) h = (F.some_record, λ y k. k)
  acts (H5 u after) h = (F.some_record, λ y k. k)
  acts (H6 u i after) h = (listed u i h.1.1.0 h.1.1.1.0 h.0, λ y k. k)
  acts (H7 u after) h =
      let ch = change_at m u in (
        listed u ch.written h.0 h.1.0 (F.change_fine_lem u h.0 h.1.0).1.1.0,
        write_leaves m.used (get_or ch.v ch.written 0) ch.field ch.old (record { value = ch.new; stamp = u }) h.1.0,
      )
  acts (H8 u after) h = (F.some_record, λ y k. k)
  acts (Vlx n i) h = (h.1.0.1.0 i h.0, λ y k. k)
  acts (Read r f) h = (h.0, λ y k. k)
