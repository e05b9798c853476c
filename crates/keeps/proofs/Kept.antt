-- Every call keeps the shape: a refused one gives the table back, an accepted one is a step or a start.
-- The lengths of the table's arrays are the types' and no part of the shape; only that of the changes counts (proofs/Short.antt).
use Prim.Native.Nat.{ℕ}
use native.Mathlib.Omega.{arith}
use mathlib.Core.Path.{◌≡◌, refl}
use mathlib.Core.Bool.{true}
use mathlib.Core.List.{List}
use lib.ListN.{length}
use Rattle.rules.specs.Words.{Machine, Ask, AskLlx, AskScx, AskVlx, AskRead, AskStep, Call, Check, Ok, Err}
use Rattle.keeps.proofs.Fine.{Fine, fine, in_shape_lem}
use Rattle.keeps.proofs.Steps.{step_keeps}
use Rattle.keeps.proofs.Starts.{llx_keeps, vlx_keeps, read_keeps}
use Rattle.keeps.proofs.Scx.{scx_keeps}
use Rattle.keeps.proofs.Obeyed.{Obeys, passed}
use Rattle.table.specs.Table.{link_at}
use Rattle.rules.specs.Claim.{Says}
use Rattle.rules.specs.Shape.{list_fine, all_linked, shape, in_shape, InShape}
use Rattle.rules.specs.Refuse.{check, linked_at, rules_of}
use Rattle.rules.specs.Next.{refused, started, accepted, answered, next}
use Rattle.rules.proofs.Exact.{told, passes}

accepted_keeps : (m : Machine) → Fine m → length m.changes ≡ 256 → (t : ℕ) (ask : Ask) (l : List ℕ)
    → Obeys m t ask l → Fine (accepted m t ask l).m
unfolding started linked_at
accepted_keeps m F s t (AskLlx r) l h = llx_keeps m F t h.0 r l h.1.1.0
accepted_keeps m F s t (AskScx n r written field new) l h =
    let list : Says 0 (list_fine m.n n l) = (h.1.1.0, (h.1.1.1.0, h.1.1.1.1.0)) in
    let linked = told 0 (all_linked n l (λ r. (link_at m t r).there)) h.1.1.1.1.1.1.0 in
    let left = h.1.1.1.1.1.1.1.0 in
    scx_keeps m F t h.0 n r written field new l list h.1.1.1.1.1.0 linked left (omega arith)
accepted_keeps m F s t (AskVlx n) l h =
    let list : Says 0 (list_fine m.n n l) = (h.1.1.0, (h.1.1.1.0, h.1.1.1.1.0)) in
    vlx_keeps m F t h.0 n l list (told 0 (all_linked n l (λ r. (link_at m t r).there)) h.1.1.1.1.1.0)
accepted_keeps m F s t (AskRead r f) l h = read_keeps m F t h.0 r f l h.1.1.0 h.1.1.1.0
accepted_keeps m F s t AskStep l h = step_keeps m F t h.0

pub kept : (m : Machine) (e : Call) → length m.changes ≡ 256 → InShape m → InShape (next m e).m
unfolding next rules_of refused
kept m e size s = go (check (rules_of m e)) refl
  where
    go : (c : Check) → check (rules_of m e) ≡ c → InShape (answered c m e).m
    go (Ok _) h =
        in_shape_lem (accepted m e.task e.ask e.list).m
        (accepted_keeps m (fine m s) size e.task e.ask e.list (passed (rules_of m e) h).1)
    go (Err why) h = s

-- the same of the test for refusal 10
pub kept_test : (m : Machine) (e : Call) → length m.changes ≡ 256 → in_shape m ≡ true → in_shape (next m e).m ≡ true
unfolding in_shape InShape
kept_test m e size h = passes (next m e).m.used (shape (next m e).m) (kept m e size (told m.used (shape m) h))
