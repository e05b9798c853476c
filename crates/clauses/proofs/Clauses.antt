-- The invariant, clause by clause (names as in docs/PROOF.md); what a place knows; what an act may rely on; fresh numbers.
use Prim.Native.Nat.{ℕ, ◌≤◌, ◌<◌}
use mathlib.Core.Path.{◌≡◌}
use mathlib.Core.Bool.{Bool, true, false}
use mathlib.Core.Logic.{◌⊎◌, ◌≢◌}
use mathlib.Core.List.{List}
use Rattle.rules.specs.Words.{Cell, State, InProgress, Committed, Aborted, Link}
use Rattle.rules.specs.Words.{Place, Idle, L1, L2, L3, L4, L5, L6, L7, L8, L9, L10, L11, H1, H2, H3, H4, H5, H6, H7, H8, Vlx, Read}
use Rattle.table.specs.Table.{cell_at}
use Rattle.rules.specs.Places.{change_of}
use Rattle.clauses.proofs.Memory.{Terms, Shared, Table, spot}
use Rattle.clauses.proofs.Memory.{Act, nop, hold, abort, freeze, close, write, commit, make}
use Rattle.clauses.proofs.History.{Ghost}

-- r is one of the records that the change a closes
abbrev pub InR : Shared → ℕ → ℕ → Type 0
InR S a r = (i : ℕ) × (i < (S.terms a).n) × ((S.terms a).closes i ≡ true) × ((S.terms a).rec i ≡ r)

-- an info a kept for a comparison at r has ended, and if it committed it does not close r
abbrev pub Final : Shared → ℕ → ℕ → Type 0
Final S r a = (S.state a ≢ InProgress) × (S.state a ≡ Committed → InR S a r → ⊥)

-- the first k cells read of r are those that it has, as long as its info is a
abbrev pub Snap : Shared → ℕ → ℕ → ℕ → List Cell → Type 0
Snap S r a k cs = S.info r ≡ a → (f : ℕ) → f < k → S.cell r f ≡ cell_at cs f

-- an info a that a read of r, ended at the time e, has kept: in a link, or as a stored info of a live change
pub record Anchor (S : Shared) (G : Ghost) (r a e : ℕ) : Type 0 where
  -- it has ended
  pub final_law : Final S r a
  -- while it stands, nobody has taken hold of r and no effect has come to r since the read
  pub clear_law : S.info r ≡ a → (G.took r < e) × (G.eff r < e)
  -- if it has gone, somebody has taken hold since
  pub taken_law : S.info r ≢ a → e < G.took r
  pub past_law : e ≤ G.now

-- the places before i were held
abbrev pub HeldTo : (ℕ → Bool) → ℕ → Type 0
HeldTo hd i = (j : ℕ) → j < i → hd j ≡ true

-- every record before place i that is closed is marked
abbrev pub MarkedTo : Shared → Terms → ℕ → Type 0
MarkedTo S c i = (j : ℕ) → j < i → c.closes j ≡ true → S.mark (c.rec j) ≡ true

-- another took the record of place j before it could be held; all before it were held
abbrev pub Lost : Terms → (ℕ → Bool) → Shared → Type 0
Lost c hd S = (j : ℕ) × (j < c.n) × HeldTo hd j × (hd j ≡ false) × (S.info (c.rec j) ≢ c.infos j)

-- the clauses of a live change u: c its terms, s its state, fz allFrozen, hp whether it has happened, hd the places held, e the ends of
-- its linked reads
pub record Ok (c : Terms) (s : State) (fz hp : Bool) (hd : ℕ → Bool) (e : ℕ → ℕ) (S : Shared) (G : Ghost) (u : ℕ) : Type 0 where
  -- what it wrote down: no record twice; the ranges; each stored info an anchor; the stamp of the old cell ended
  pub apart_law : (i j : ℕ) → i < c.n → j < c.n → c.rec i ≡ c.rec j → i ≡ j
  pub shape_law : (c.n ≤ 4) × (c.written < c.n) × (c.field < 4)
  pub anchors_law : (i : ℕ) → i < c.n → Anchor S G (c.rec i) (c.infos i) (e i)
  pub old_ended_law : S.state c.old.stamp ≢ InProgress
  -- until it happens, the cell is the old one as long as nobody else holds the record
  pub snap_law : hp ≡ false → (S.info (spot c) ≡ c.infos c.written) ⊎ (S.info (spot c) ≡ u) → S.cell (spot c) c.field ≡ c.old
  -- what was held has not the stored info; what has the info u was held; in progress, what was held has the info u; frozen, all was held
  pub gone_law : (i : ℕ) → i < c.n → hd i ≡ true → S.info (c.rec i) ≢ c.infos i
  pub held_law : (i : ℕ) → i < c.n → S.info (c.rec i) ≡ u → hd i ≡ true
  pub holds_law : (i : ℕ) → i < c.n → hd i ≡ true → s ≡ InProgress → S.info (c.rec i) ≡ u
  pub frozen_law : fz ≡ true → HeldTo hd c.n
  -- frozen, it holds for good what it closes; committed, it has happened; aborted, it is lost
  pub closed_law : fz ≡ true → (i : ℕ) → i < c.n → c.closes i ≡ true → S.info (c.rec i) ≡ u
  pub committed_law : s ≡ Committed → hp ≡ true
  pub aborted_law : s ≡ Aborted → Lost c hd S
  -- happened, it is frozen, what it closes is marked, and the old cell is gone
  pub happened_law : hp ≡ true → (fz ≡ true) × MarkedTo S c c.n
  pub old_gone_law : hp ≡ true → (S.cell (spot c) c.field).stamp ≢ c.old.stamp
  -- not happened, no effect has come to a record that it holds since the linked read
  pub clear_held_law : (i : ℕ) → i < c.n → S.info (c.rec i) ≡ u → hp ≡ false → G.eff (c.rec i) < e i

abbrev pub OkOf : Shared → Ghost → ℕ → Type 0
OkOf S G u = Ok (S.terms u) (S.state u) (S.frozen u) (G.hap u) (G.held u) (G.since u) S G u

abbrev pub LostOf : Shared → Ghost → ℕ → Type 0
LostOf S G u = Lost (S.terms u) (G.held u) S

abbrev pub Live : Table → ℕ → Type 0
Live X u = (u ≢ 0) × (((r : ℕ) × (X.sh.info r ≡ u)) ⊎ ((t : ℕ) × (change_of (X.task t).place ≡ u)))

-- what a place knows: only what never goes back
abbrev pub At : Shared → Ghost → List Cell → Place → Type 0
At S G cs Idle = Unit {0}
At S G cs (L1 r) = Unit {0}
At S G cs (L2 r m1) = Unit {0}
At S G cs (L3 r m1 a) = Unit {0}
At S G cs (L4 r m1 a s) = s ≢ InProgress → S.state a ≡ s
At S G cs (L5 r m1 a k) = (k < 4) × Final S r a × Snap S r a k cs
At S G cs (L6 r m1 a) = Final S r a × Snap S r a 4 cs
At S G cs (L7 r m1 a) = Unit {0}
At S G cs (L8 r m1 a) = Unit {0}
At S G cs (L9 r) = Unit {0}
At S G cs (L10 r b) = b ≢ 0 → S.info r ≢ 0
At S G cs (L11 r) = S.info r ≢ 0
At S G cs (H1 u i after) = (u ≢ 0) × (i < (S.terms u).n) × HeldTo (G.held u) i
At S G cs (H2 u i after) = (u ≢ 0) × (i < (S.terms u).n) × HeldTo (G.held u) i × (S.info ((S.terms u).rec i) ≢ (S.terms u).infos i)
At S G cs (H3 u after) = (u ≢ 0) × ((S.state u ≡ Committed) ⊎ LostOf S G u)
At S G cs (H4 u after) = (u ≢ 0) × LostOf S G u
At S G cs (H5 u after) = (u ≢ 0) × HeldTo (G.held u) (S.terms u).n
At S G cs (H6 u i after) = (u ≢ 0) × (S.frozen u ≡ true) × (i < (S.terms u).n) × ((S.terms u).closes i ≡ true) × MarkedTo S (S.terms u) i
At S G cs (H7 u after) = (u ≢ 0) × (S.frozen u ≡ true) × MarkedTo S (S.terms u) (S.terms u).n
At S G cs (H8 u after) = (u ≢ 0) × (G.hap u ≡ true)
At S G cs (Vlx n i) = i < n
At S G cs (Read r f) = Unit {0}

-- what a link to r, read at the time e, promises
abbrev pub LinkOk : Shared → Ghost → ℕ → ℕ → Link → Type 0
LinkOk S G e r k = k.there ≡ true
    → Anchor S G r k.info e × Snap S r k.info 4 k.cells × ((f : ℕ) → f < 4 → S.state (cell_at k.cells f).stamp ≢ InProgress)

-- a cell's stamp is the info of its record, or of an ended change
abbrev pub Stamped : Shared → ℕ → ℕ → Type 0
Stamped S r f = ((S.cell r f).stamp ≡ S.info r) ⊎ (S.state (S.cell r f).stamp ≢ InProgress)

-- the invariant of a table with its history
pub record Fine (X : Table) (G : Ghost) : Type 0 where
  pub zero_law : X.sh.state 0 ≡ Aborted
  pub past_law : (r : ℕ) → (G.took r ≤ G.now) × (G.eff r ≤ G.now)
  pub stamp_law : (r f : ℕ) → f < 4 → Stamped X.sh r f
  pub changes_law : (u : ℕ) → Live X u → OkOf X.sh G u
  pub places_law : (t : ℕ) → At X.sh G (X.task t).cells (X.task t).place
  pub links_law : (t r : ℕ) → LinkOk X.sh G (G.read t r) r (X.link t r)

-- a fresh number: what an SCX may take
abbrev pub NotIn : ℕ → Link → Type 0
NotIn u k = k.there ≡ true → (k.info ≢ u) × ((f : ℕ) → f < 4 → (cell_at k.cells f).stamp ≢ u)

pub record Fresh (X : Table) (u : ℕ) : Type 0 where
  pub nonzero : u ≢ 0
  pub dead : Live X u → ⊥
  pub no_stamp : (r f : ℕ) → f < 4 → (X.sh.cell r f).stamp ≢ u
  pub no_link_lem : (t r : ℕ) → NotIn u (X.link t r)
  pub no_stored : (x : ℕ) → Live X x → (i : ℕ) → i < (X.sh.terms x).n → (X.sh.terms x).infos i ≢ u
  pub no_old : (x : ℕ) → Live X x → (X.sh.terms x).old.stamp ≢ u

-- what stands behind an act: an H1 or an H7 is of a live change, a start takes a fresh number
abbrev pub Room : Table → Act → Type 0
Room X nop = Unit {0}
Room X (hold u i) = Live X u
Room X (abort u) = Unit {0}
Room X (freeze u) = Unit {0}
Room X (close u i) = Unit {0}
Room X (write u) = Live X u
Room X (commit u) = Unit {0}
Room X (make u c) = Fresh X u

-- y is not the number that the act takes
abbrev pub Off : Act → ℕ → Type 0
Off nop y = Unit {0}
Off (hold u i) y = Unit {0}
Off (abort u) y = Unit {0}
Off (freeze u) y = Unit {0}
Off (close u i) y = Unit {0}
Off (write u) y = Unit {0}
Off (commit u) y = Unit {0}
Off (make u c) y = y ≢ u

-- what a start fills in
pub record Made (S : Shared) (G : Ghost) (t u : ℕ) (c : Terms) : Type 0 where
  pub nonzero : u ≢ 0
  pub apart : (i j : ℕ) → i < c.n → j < c.n → c.rec i ≡ c.rec j → i ≡ j
  pub shape : (c.n ≤ 4) × (c.written < c.n) × (c.field < 4)
  pub anchors : (i : ℕ) → i < c.n → Anchor S G (c.rec i) (c.infos i) (G.read t (c.rec i))
  pub old_ended : S.state c.old.stamp ≢ InProgress
  pub snap : S.info (spot c) ≡ c.infos c.written → S.cell (spot c) c.field ≡ c.old
  pub no_info : (r : ℕ) → S.info r ≢ u
  pub no_infos : (i : ℕ) → i < c.n → c.infos i ≢ u
  pub no_old : c.old.stamp ≢ u

-- what the task's place tells when the act is done
abbrev pub Guard : Shared → Ghost → ℕ → Act → Type 0
Guard S G t nop = Unit {0}
Guard S G t (hold u i) = record {
  nonzero : u ≢ 0;
  ok : OkOf S G u;
  inside : i < (S.terms u).n;
  prior : HeldTo (G.held u) i;
  at : S.info ((S.terms u).rec i) ≡ (S.terms u).infos i;
}
Guard S G t (abort u) = record { ok : OkOf S G u; lost : LostOf S G u }
Guard S G t (freeze u) = record { ok : OkOf S G u; all : HeldTo (G.held u) (S.terms u).n }
Guard S G t (close u i) = record {
  ok : OkOf S G u;
  frozen : S.frozen u ≡ true;
  inside : i < (S.terms u).n;
  closes : (S.terms u).closes i ≡ true;
}
Guard S G t (write u) = record {
  ok : OkOf S G u;
  frozen : S.frozen u ≡ true;
  marked : MarkedTo S (S.terms u) (S.terms u).n;
  is_old : S.cell (spot (S.terms u)) (S.terms u).field ≡ (S.terms u).old;
}
Guard S G t (commit u) = record { ok : OkOf S G u; hap : G.hap u ≡ true }
Guard S G t (make u c) = Made S G t u c
