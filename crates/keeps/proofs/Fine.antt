-- The parts of the shape by name: what InShape says, and nothing else.
use Prim.Native.Nat.{ℕ, zero, suc, ◌<◌, ◌≤◌}
use native.Mathlib.Omega.{arith}
use native.Mathlib.Nat.{not-suc-le-zero}
use Rattle.rules.specs.Words.{Machine}
use Rattle.table.specs.Table.{record_at, change_at, link_at}
use Rattle.rules.specs.Claim.{Says}
use Rattle.rules.specs.Shape.{record_fine, change_fine, task_fine, link_fine, shape, InShape}

pub record Fine (m : Machine) : Type 0 where
  pub some_task : 0 < m.p
  pub p<9 : m.p < 9
  pub some_record : 0 < m.n
  pub n<33 : m.n < 33
  pub used<256 : m.used < 256
  pub record_fine_lem : (r : ℕ) → r < m.n → Says m.used (record_fine (record_at m r))
  pub change_fine_lem : (u : ℕ) → 0 < u → u ≤ m.used → Says m.used (change_fine m.n (change_at m u))
  pub task_fine_lem : (t : ℕ) → t < m.p → Says m.used (task_fine m t)
  pub link_fine_lem : (t : ℕ) → t < m.p → (r : ℕ) → r < m.n → Says m.used (link_fine (link_at m t r))

-- the used changes counted from 1, or from 0 as the shape does
from_one : (used : ℕ) (P : ℕ → Type 0) → ((i : ℕ) → i < used → P (suc i)) → (u : ℕ) → 0 < u → u ≤ used → P u
from_one used P h zero u0 ul = absurd (not-suc-le-zero u0)
from_one used P h (suc u) u0 ul = h u ul

pub fine : (m : Machine) → InShape m → Fine m
unfolding InShape shape
fine m s =
    record {
      some_task = s.0.0;
      p<9 = s.0.1;
      some_record = s.1.0.0;
      n<33 = s.1.0.1;
      used<256 = s.1.1.0;
      record_fine_lem = s.1.1.1.0;
      change_fine_lem = from_one m.used (λ u. Says m.used (change_fine m.n (change_at m u))) s.1.1.1.1.0;
      task_fine_lem = s.1.1.1.1.1.0;
      link_fine_lem = s.1.1.1.1.1.1;
    }

pub in_shape_lem : (m : Machine) → Fine m → InShape m
unfolding InShape shape
in_shape_lem m F = (
  (F.some_task, F.p<9),
  (
    (F.some_record, F.n<33),
    (F.used<256, (F.record_fine_lem, ((λ i l. F.change_fine_lem (suc i) (omega arith) l), (F.task_fine_lem, F.link_fine_lem)))),
  ),
)
