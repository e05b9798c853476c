-- What an index in the code is below, in a table in shape: the tasks, the records, and the lists of a step.
use Prim.Native.Nat.{ℕ, ◌<◌, ◌≤◌}
use native.Mathlib.Omega.{arith}
use lib.ListN.{get_or}
use Rattle.rules.specs.Words.{Machine}
use Rattle.keeps.proofs.Fine.{fine}
use Rattle.keeps.proofs.Acts.{acts}
use Rattle.keeps.proofs.Moves.{MoveFine, moves}
use Rattle.table.specs.Table.{task_at, link_at}
use Rattle.rules.specs.Perform.{record_of, seen}
use Rattle.rules.specs.Step.{drop_of, access_at, move_at}
use Rattle.rules.specs.Shape.{InShape}

module _ (m : Machine) (S : InShape m) where
  pub p≤8 : m.p ≤ 8
  p≤8 = omega (arith, (fine m S).p<9)

  pub n≤32 : m.n ≤ 32
  n≤32 = omega (arith, (fine m S).n<33)

  module _ (t : ℕ) (tl : t < m.p) where
    pub task<8 : t < 8
    task<8 = omega (arith, p≤8)

    pub touched : record_of (access_at m t) < m.n
    unfolding access_at
    touched =
        let x = task_at m t in
        (acts m (fine m S) (λ r. (link_at m t r).there) x.cells x.list x.place ((fine m S).task_fine_lem t tl)).0

    pub record<32 : record_of (access_at m t) < 32
    record<32 = omega (arith, touched, n≤32)

    moved : MoveFine m (λ r. (link_at m t r).there) (task_at m t).cells (task_at m t).list (seen (access_at m t) m) (move_at m t)
    unfolding access_at move_at seen
    moved =
        let x = task_at m t in
        let info = (link_at m t (record_of (access_at m t))).info in
        moves m (fine m S) (λ r. (link_at m t r).there) x.cells x.list info x.place ((fine m S).task_fine_lem t tl)

    pub list<32 : (k : ℕ) → k < drop_of (move_at m t) → get_or (task_at m t).list k 0 < 32
    list<32 k q = let b = moved.list_fine_lem k q in omega (arith, n≤32)
