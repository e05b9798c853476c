-- A step, as the memory sees it: what its access does, what it sees there, and what a change's terms are.
use Prim.Native.Nat.{ℕ}
use mathlib.Core.Path.{◌≡◌}
use mathlib.Core.Bool.{Bool, false}
use lib.ListN.{get_or}
use lib.Dec.{eqb}
use Rattle.rules.specs.Words.{Change, Seen}
use Rattle.rules.specs.Words.{Place, Idle, L1, L2, L3, L4, L5, L6, L7, L8, L9, L10, L11, H1, H2, H3, H4, H5, H6, H7, H8, Vlx, Read}
use Rattle.table.specs.Table.{pick, same_cell}
use Rattle.clauses.proofs.Memory.{Terms, Shared, spot, Act, nop, hold, abort, freeze, close, write, commit}

-- what a change wrote down
abbrev pub terms_of : Change → Terms
terms_of x =
    record {
      n = x.n;
      rec = λ i. get_or x.v i 0;
      closes = λ i. get_or x.r i false;
      written = x.written;
      field = x.field;
      new = x.new;
      old = x.old;
      infos = λ i. get_or x.infos i 0;
    }

-- H1 would take hold: the info is the stored one. H7 would write: the cell is the old one
abbrev pub is_stored : Shared → ℕ → ℕ → Bool
is_stored S u i = eqb (S.info ((S.terms u).rec i)) ((S.terms u).infos i)

abbrev pub is_old : Shared → ℕ → Bool
is_old S u = same_cell (S.cell (spot (S.terms u)) (S.terms u).field) (S.terms u).old

-- what the access of a place does to the shared words
unfoldable pub act_at : Shared → Place → Act
act_at S Idle = nop
act_at S (L1 r) = nop
act_at S (L2 r m1) = nop
act_at S (L3 r m1 a) = nop
act_at S (L4 r m1 a s) = nop
act_at S (L5 r m1 a f) = nop
act_at S (L6 r m1 a) = nop
act_at S (L7 r m1 a) = nop
act_at S (L8 r m1 a) = nop
act_at S (L9 r) = nop
act_at S (L10 r b) = nop
act_at S (L11 r) = nop
act_at S (H1 u i after) = pick (is_stored S u i) (hold u i) nop
act_at S (H2 u i after) = nop
act_at S (H3 u after) = nop
act_at S (H4 u after) = abort u
act_at S (H5 u after) = freeze u
act_at S (H6 u i after) = close u i
act_at S (H7 u after) = pick (is_old S u) (write u) nop
act_at S (H8 u after) = commit u
act_at S (Vlx n i) = nop
act_at S (Read r f) = nop

-- s is what the access of a place sees, as far as the clauses care
abbrev pub Saw : Shared → Seen → Place → Type 0
Saw S s Idle = Unit {0}
Saw S s (L1 r) = s.bit ≡ S.mark r
Saw S s (L2 r m1) = s.number ≡ S.info r
Saw S s (L3 r m1 a) = s.state ≡ S.state a
Saw S s (L4 r m1 a x) = s.bit ≡ S.mark r
Saw S s (L5 r m1 a f) = s.cell ≡ S.cell r f
Saw S s (L6 r m1 a) = s.number ≡ S.info r
Saw S s (L7 r m1 a) = s.state ≡ S.state a
Saw S s (L8 r m1 a) = s.state ≡ S.state a
Saw S s (L9 r) = s.number ≡ S.info r
Saw S s (L10 r b) = s.state ≡ S.state b
Saw S s (L11 r) = s.number ≡ S.info r
Saw S s (H1 u i after) = s.bit ≡ is_stored S u i
Saw S s (H2 u i after) = s.number ≡ S.info ((S.terms u).rec i)
Saw S s (H3 u after) = s.bit ≡ S.frozen u
Saw S s (H4 u after) = Unit {0}
Saw S s (H5 u after) = Unit {0}
Saw S s (H6 u i after) = Unit {0}
Saw S s (H7 u after) = Unit {0}
Saw S s (H8 u after) = Unit {0}
Saw S s (Vlx n i) = Unit {0}
Saw S s (Read r f) = Unit {0}
