-- EVERY ACT KEEPS THE CLAUSES OF EVERY LIVE CHANGE.
use Prim.Native.Nat.{ℕ}
use Rattle.clauses.proofs.Memory.{Shared}
use Rattle.clauses.proofs.Memory.{Act, nop, hold, abort, freeze, close, write, commit, make}
use Rattle.clauses.proofs.History.{Ghost, Reading}
use Rattle.clauses.proofs.Clauses.{OkOf, Guard}
use Rattle.clauses.proofs.Spared.{Spared, Keeps}
use Rattle.clauses.proofs.KeptByEnding.{keep_nop, keep_abort, keep_commit, keep_freeze, keep_close}
use Rattle.clauses.proofs.KeptByHolding.{keep_hold}
use Rattle.clauses.proofs.KeptByWriting.{keep_write}
use Rattle.clauses.proofs.KeptByStarting.{keep_make}

module _ (S : Shared) (G : Ghost) (t : ℕ) (k : Reading) where
  pub keep_ok : (b : Act) → Guard S G t b → (u : ℕ) → OkOf S G u → Spared S G t k b u → Keeps S G t k b u
  keep_ok nop g u O o = keep_nop S G t k u O o
  keep_ok (hold x i) g u O o = keep_hold S G t k x i g u O o
  keep_ok (abort x) g u O o = keep_abort S G t k x g u O o
  keep_ok (freeze x) g u O o = keep_freeze S G t k x g u O o
  keep_ok (close x i) g u O o = keep_close S G t k x i g u O o
  keep_ok (write x) g u O o = keep_write S G t k x g u O o
  keep_ok (commit x) g u O o = keep_commit S G t k x g u O o
  keep_ok (make x d) g u O o = keep_make S G t k x d g u O o
