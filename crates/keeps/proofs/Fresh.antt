-- The fresh table is in shape: no task is busy, no link is there, no change is used, and every info and stamp is 0.
use Prim.Native.Nat.{ℕ, zero, suc, ◌+◌, ◌*◌, ◌<◌, ◌≤◌}
use native.Mathlib.Omega.{arith}
use native.Mathlib.Nat.{le_refl}
use mathlib.Core.Path.{◌≡◌}
use mathlib.Core.Bool.{true, false≢true}
use mathlib.Core.List.{List, [], ◌∷◌}
use lib.ListN.{get_or, length, replicate, get_or-replicate}
use lib.Dec.{ltb, lit<}
use Rattle.rules.specs.Words.{Cell, Record, Change, Task, Link}
use Rattle.keeps.proofs.Stores.{picked}
use Rattle.keeps.proofs.Fine.{Fine, in_shape_lem}
use Rattle.keeps.proofs.Frame.{claim_of}
use Rattle.table.specs.Table.{pick, no_record, no_task, no_link, cell_at, slot}
use Rattle.table.specs.Fresh.{fresh_record, empty_record, fresh_records, empty_change, idle_task, empty_link, fresh_machine, in_range, fresh}
use Rattle.table.proofs.Tabulate.{get_d_tabulate}
use Rattle.table.proofs.Fresh.{sized}
use Rattle.rules.specs.Claim.{Says}
use Rattle.rules.specs.Shape.{record_fine, link_fine, shape, in_shape, InShape}
use Rattle.rules.proofs.Exact.{passes}

-- four cells with stamp 0
abbrev cell : ℕ → Cell
cell a = record { value = a; stamp = 0 }

stamped_0 : (a b c d k : ℕ) → (cell_at (cell a ∷ cell b ∷ cell c ∷ cell d ∷ []) k).stamp ≤ 0
stamped_0 a b c d zero = le_refl 0
stamped_0 a b c d (suc zero) = le_refl 0
stamped_0 a b c d (suc (suc zero)) = le_refl 0
stamped_0 a b c d (suc (suc (suc zero))) = le_refl 0
stamped_0 a b c d (suc (suc (suc (suc k)))) = le_refl 0

fresh_record_lem : (n : ℕ) (values : List ℕ) (r : ℕ) → r < 32 → Says 0 (record_fine (get_or (fresh_records n values) r no_record))
unfolding fresh_records
fresh_record_lem n values r l =
    rw (get_d_tabulate 32 (λ r. pick (ltb r n) (fresh_record values r) empty_record) r no_record l)
    (picked (λ (x : Record). Says 0 (record_fine x)) (ltb r n) (fresh_record values r) empty_record
    (λ e. (le_refl 0, λ k q. stamped_0 (get_or values (4 * r) 0) (get_or values (4 * r + 1) 0) (get_or values (4 * r + 2) 0) (get_or values (4 * r + 3) 0) k))
    (λ e. (le_refl 0, λ k q. stamped_0 0 0 0 0 k)))

idle_claim : (N : ℕ) (xs : List Change) (ls : List Link) (t : ℕ) (x : Task) → x ≡ idle_task → Says 0 (claim_of N xs ls t x)
idle_claim N xs ls t x e = rw e tt

no_link_lem : (k : Link) → k ≡ empty_link → Says 0 (link_fine k)
no_link_lem k e = rw e (λ h. absurd (false≢true h))

fresh_fine : (p n : ℕ) (values : List ℕ) → 0 < p → p ≤ 8 → 0 < n → n ≤ 32 → Fine (fresh_machine p n (fresh_records n values))
unfolding fresh_machine
fresh_fine p n values p0 p8 n0 n32 =
    record {
      some_task = p0;
      p<9 = omega arith;
      some_record = n0;
      n<33 = omega arith;
      used<256 = lit< tt;
      record_fine_lem = λ r rl. fresh_record_lem n values r (omega arith);
      change_fine_lem = λ u u0 ul. absurd (omega arith);
      task_fine_lem = λ t tl. idle_claim n (replicate 256 empty_change) (replicate 256 empty_link) t (get_or (replicate 8 idle_task) t no_task)
          (get_or-replicate 8 t idle_task no_task (omega arith));
      link_fine_lem = λ t tl r rl. no_link_lem (get_or (replicate 256 empty_link) (slot t r) no_link)
          (get_or-replicate 256 (slot t r) empty_link no_link (omega arith));
    }

-- the counts in range
fresh_counted : (p n : ℕ) (values : List ℕ) → in_range p n (length values) ≡ true → Fine (fresh_machine p n (fresh_records n values))
fresh_counted p n values e =
    let size = sized p n (length values) e in
    fresh_fine p n values size.some_task size.tasks size.some_record size.records

pub fresh_in_shape : (p n : ℕ) (values : List ℕ) → in_range p n (length values) ≡ true → in_shape (fresh p n values).m ≡ true
unfolding fresh in_shape InShape
fresh_in_shape p n values e =
    rw e
    (passes (fresh_machine p n (fresh_records n values)).used (shape (fresh_machine p n (fresh_records n values)))
    (in_shape_lem (fresh_machine p n (fresh_records n values)) (fresh_counted p n values e)))
