-- The table as a proof sees it: a function for each kind of shared word, and the seven ways in which a call alters them. Six are the
-- writes of H1, H4, H5, H6, H7 and H8; the seventh is the start of an SCX, which fills in the change whose number it takes.
use Prim.Native.Nat.{ℕ}
use mathlib.Core.Bool.{Bool, true, false}
use Rattle.rules.specs.Words.{Cell, State, InProgress, Committed, Aborted, Task, Link}
use Rattle.clauses.proofs.Updates.{upd}

-- what an SCX wrote down when it started: no step alters it
pub record Terms : Type 0 where
  pub n : ℕ
  pub rec : ℕ → ℕ
  pub closes : ℕ → Bool
  pub written : ℕ
  pub field : ℕ
  pub new : ℕ
  pub old : Cell
  pub infos : ℕ → ℕ

-- the record whose field it writes
abbrev pub spot : Terms → ℕ
spot c = c.rec c.written

-- the shared words, and the changes' terms
pub record Shared : Type 0 where
  pub terms : ℕ → Terms
  pub state : ℕ → State
  pub frozen : ℕ → Bool
  pub info : ℕ → ℕ
  pub mark : ℕ → Bool
  pub cell : ℕ → ℕ → Cell

-- and what each task has to itself: its place, and its links
pub record Table : Type 0 where
  pub sh : Shared
  pub task : ℕ → Task
  pub link : ℕ → ℕ → Link

-- what a call does to the shared words; i is a place of the list of the change u
pub data Act : Type 0 where
  nop : Act
  hold : (u i : ℕ) → Act
  abort : (u : ℕ) → Act
  freeze : (u : ℕ) → Act
  close : (u i : ℕ) → Act
  write : (u : ℕ) → Act
  commit : (u : ℕ) → Act
  make : (u : ℕ) (c : Terms) → Act

abbrev pub new_cell : Terms → ℕ → Cell
new_cell c u = record { value = c.new; stamp = u }

unfoldable pub apply : Act → Shared → Shared
apply nop S = S
apply (hold u i) S = record {
  terms = S.terms;
  state = S.state;
  frozen = S.frozen;
  info = upd S.info ((S.terms u).rec i) u;
  mark = S.mark;
  cell = S.cell;
}
apply (abort u) S = record {
  terms = S.terms;
  state = upd S.state u Aborted;
  frozen = S.frozen;
  info = S.info;
  mark = S.mark;
  cell = S.cell;
}
apply (freeze u) S = record {
  terms = S.terms;
  state = S.state;
  frozen = upd S.frozen u true;
  info = S.info;
  mark = S.mark;
  cell = S.cell;
}
apply (close u i) S = record {
  terms = S.terms;
  state = S.state;
  frozen = S.frozen;
  info = S.info;
  mark = upd S.mark ((S.terms u).rec i) true;
  cell = S.cell;
}
apply (write u) S = record {
  terms = S.terms;
  state = S.state;
  frozen = S.frozen;
  info = S.info;
  mark = S.mark;
  cell = upd S.cell (spot (S.terms u)) (upd (S.cell (spot (S.terms u))) (S.terms u).field (new_cell (S.terms u) u));
}
apply (commit u) S = record {
  terms = S.terms;
  state = upd S.state u Committed;
  frozen = S.frozen;
  info = S.info;
  mark = S.mark;
  cell = S.cell;
}
apply (make u c) S = record {
  terms = upd S.terms u c;
  state = upd S.state u InProgress;
  frozen = upd S.frozen u false;
  info = S.info;
  mark = S.mark;
  cell = S.cell;
}
