-- A record that another took before it could be held stays lost, and with it the change.
use Prim.Native.Nat.{ℕ, ◌<◌}
use mathlib.Core.Path.{◌≡◌}
use mathlib.Core.Bool.{Bool, false}
use mathlib.Core.Logic.{◌≢◌}
use Rattle.clauses.proofs.Updates.{upd_miss, at}
use Rattle.clauses.proofs.Memory.{Shared, apply}
use Rattle.clauses.proofs.Memory.{Act, nop, hold, abort, freeze, close, write, commit, make}
use Rattle.clauses.proofs.History.{Ghost, Reading, note}
use Rattle.clauses.proofs.Clauses.{OkOf, LostOf, Off, Guard}
use Rattle.clauses.proofs.Frame.{same_terms, stay_held, no_return}

module _ (S : Shared) (G : Ghost) (t : ℕ) (k : Reading) where
  -- a place that another took was not held, and is not
  stay_unheld : (b : Act) → Guard S G t b → (u j : ℕ) → Off b u → S.info ((S.terms u).rec j) ≢ (S.terms u).infos j → G.held u j ≡ false
      → (note t b k S G).held u j ≡ false
  unfolding note
  stay_unheld nop g u j o m h = h
  stay_unheld (hold x i) g u j o m h = at (λ (row : ℕ → Bool). row j ≡ false) G.held _ _ u (λ e. at (λ z. z ≡ false) (G.held x) _ _ j
      (λ q. absurd (m (rw (e, q) g.at))) (λ n. rw (← e) h)) (λ n. h)
  stay_unheld (abort x) g u j o m h = h
  stay_unheld (freeze x) g u j o m h = h
  stay_unheld (close x i) g u j o m h = h
  stay_unheld (write x) g u j o m h = h
  stay_unheld (commit x) g u j o m h = h
  stay_unheld (make x c) g u j o m h = rw (upd_miss G.held x (λ i. false) o) h

  pub stay_gone : (b : Act) → Guard S G t b → (u : ℕ) → OkOf S G u → (i : ℕ) → i < (S.terms u).n
      → S.info ((S.terms u).rec i) ≢ (S.terms u).infos i → (apply b S).info ((S.terms u).rec i) ≢ (S.terms u).infos i
  stay_gone b g u O i h m e = m (no_return S G t k b g _ _ (O.anchors_law i h).final_law.0 e)

  pub stay_lost : (b : Act) → Guard S G t b → (u : ℕ) → Off b u → OkOf S G u → LostOf S G u → LostOf (apply b S) (note t b k S G) u
  stay_lost b g u o O (j, h, p, f, m) = rw (same_terms S G t k b u o)
      (j, h, λ i l. stay_held S G t k b u i o (p i l), stay_unheld b g u j o m f, stay_gone b g u O j h m)
