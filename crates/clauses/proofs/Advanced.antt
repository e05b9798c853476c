-- What a step has to show, and the two ways to show it where no linked read ends: it acts, or it only reads.
use Prim.Native.Nat.{ℕ, suc, ◌<◌}
use mathlib.Core.Path.{◌≡◌, refl, sym}
use mathlib.Core.Bool.{true, false, true≢false}
use mathlib.Core.Logic.{◌⊎◌, inl, ◌≢◌}
use mathlib.Core.List.{List}
use native.Mathlib.Omega.{arith}
use Rattle.rules.specs.Words.{Cell, Link, Place, Move}
use Rattle.rules.specs.Places.{change_of}
use Rattle.rules.specs.Step.{place_of, cells_by, stores_link}
use Rattle.clauses.proofs.Memory.{Table, apply, Act, nop}
use Rattle.clauses.proofs.History.{Ghost, Reading, note}
use Rattle.clauses.proofs.Clauses.{Guard, At, LinkOk, Live, Room, Fine}
use Rattle.clauses.proofs.Others.{stay}
use Rattle.clauses.proofs.Turn.{Takes}

-- what a step of task t has to show: b is what it does, k what it reads, then the task's cells, its place, and the link that it stores
pub record Advanced (X : Table) (G : Ghost) (t : ℕ) (b : Act) (k : Reading) (cs : List Cell) (q : Place) (new : Link) : Type 0 where
  pub guard : Guard X.sh G t b
  pub room : Room X b
  pub place : At (apply b X.sh) (note t b k X.sh G) cs q
  pub carried : change_of q ≢ 0 → Live X (change_of q) ⊎ Takes b (change_of q)
  pub stored : k.ends ≡ true → LinkOk (apply b X.sh) (note t b k X.sh G) (suc G.now) k.at new

-- the change that a place names is live
abbrev pub Names : Table → Place → Type 0
Names X q = change_of q ≢ 0 → Live X (change_of q)

pub by_none : {A : Type 0} → ◌≢◌ {A = ℕ} 0 0 → A
by_none z = absurd (z refl)

pub none_below : {A : Type 0} {j : ℕ} → j < 0 → A
none_below l = absurd (omega arith)

-- task t does b, touches a word of record r, sees the cell c, and has the cells cs
module _ (X : Table) (G : Ghost) (F : Fine X G) (t r : ℕ) (cs : List Cell) (c : Cell) (new : Link) where
  -- Advanced, of a move v
  abbrev pub Leads : Act → Move → Type 0
  Leads b v = Advanced X G t b (record { ends = stores_link v; at = r }) (cells_by cs c v) (place_of v) new

  pub acts : (b : Act) (q : Place) (ds : List Cell) → Guard X.sh G t b → Room X b → Names X q
      → At (apply b X.sh) (note t b (record { ends = false; at = r }) X.sh G) ds q
      → Advanced X G t b (record { ends = false; at = r }) ds q new
  acts b q ds g m l h = record { guard = g; room = m; place = h; carried = λ z. inl (l z); stored = λ e. absurd (true≢false (sym e)) }

  pub reads : (q : Place) (ds : List Cell) → Names X q → At X.sh G ds q
      → Advanced X G t nop (record { ends = false; at = r }) ds q new
  reads q ds l h = acts nop q ds tt tt l
      (stay X.sh G t (record { ends = false; at = r }) nop tt ds q tt (λ z. F.changes_law _ (l z)) h)
