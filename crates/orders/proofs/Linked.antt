-- The link that a STEP stores: to the record just read, with the info seen and the cells kept.
use Prim.Native.Nat.{ℕ, ◌<◌}
use native.Mathlib.Omega.{arith}
use mathlib.Core.Path.{◌≡◌, ap}
use mathlib.Core.Bool.{Bool, true}
use mathlib.Core.List.{List}
use lib.ListN.{get_or, set, length}
use lib.Seq.{get_or-set_same}
use lib.Dec.{ltb}
use borrow.Author.Tests.{lt-ltb}
use Rattle.rules.specs.Words.{Link, Machine}
use Rattle.table.specs.Table.{pick, no_link, change_at, task_at, slot, link_at}
use Rattle.rules.specs.Places.{change_of}
use Rattle.rules.specs.Perform.{record_of, seen, perform}
use Rattle.rules.specs.Step.{stores_link, drop_of, drop_first, settle, access_at, move_at, step}
use Rattle.keeps.proofs.Fine.{Fine, in_shape_lem}
use Rattle.keeps.proofs.Lengths.{Sized}
use Rattle.keeps.proofs.Bounds.{touched}
use Rattle.orders.proofs.View.{link_in}
use Rattle.orders.proofs.Calls.{stored_at_l6}

-- what stands where a link is stored and none dropped, in the table
stored : (p n : ℕ) (ls : List Link) (t r : ℕ) (b : Bool) (new old : Link) (l : List ℕ) (d : ℕ) → t < p → r < n → slot t r < length ls
    → b ≡ true → d ≡ 0
    → pick (ltb t p) (pick (ltb r n) (get_or (drop_first (set ls (slot t r) (pick b new old)) t l d) (slot t r) no_link) no_link) no_link ≡ new
unfolding drop_first
stored p n ls t r b new old l d tl rl h eb ed = rw (lt-ltb t p tl, lt-ltb r n rl, eb, ed) (get_or-set_same ls (slot t r) new no_link h)

module _ (m : Machine) (F : Fine m) (Z : Sized m) (t : ℕ) (tl : t < m.p) where
  -- the move that stores a link is the snapshot's, which drops none
  no_drop : stores_link (move_at m t) ≡ true → drop_of (move_at m t) ≡ 0
  unfolding move_at
  no_drop h =
      let q = (task_at m t).place in
      let a = access_at m t in
      let (r, m1, b, l6, v) = stored_at_l6 q (seen a m) (change_at m (change_of q)) (link_at m t (record_of a)).info h in
      ap drop_of v

  pub stores : stores_link (move_at m t) ≡ true
      → link_in (step m t).m t (record_of (access_at m t))
      ≡ record { there = true; info = (seen (access_at m t) m).number; cells = (task_at m t).cells }
  unfolding step settle perform
  stores e =
      let r = record_of (access_at m t) in
      let v = move_at m t in
      let q = touched m (in_shape_lem m F) t tl in
      stored m.p m.n m.links t r (stores_link v) _ (link_at m t r) (task_at m t).list (drop_of v) tl q
      (omega (arith, F.p<9, F.n<33, Z.links)) e (no_drop e)
