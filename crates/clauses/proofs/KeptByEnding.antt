-- H4, H5, H6 and H8, which write the words of a change or a mark, keep the clauses of every live change; so does a call that does nothing.
use Prim.Native.Nat.{ℕ, ◌<◌}
use mathlib.Core.Path.{◌≡◌, refl}
use mathlib.Core.Bool.{true}
use mathlib.Core.Logic.{◌≢◌, ⊎_elim}
use Rattle.rules.specs.Words.{State, InProgress, Committed, Aborted}
use Rattle.clauses.proofs.Updates.{upd, at, tf}
use Rattle.clauses.proofs.Memory.{Shared, apply}
use Rattle.clauses.proofs.Memory.{nop, abort, freeze, close, commit}
use Rattle.clauses.proofs.History.{Ghost, Reading, note}
use Rattle.clauses.proofs.Clauses.{HeldTo, MarkedTo, OkOf, LostOf, Guard}
use Rattle.clauses.proofs.Rights.{ca, ci, ai, st?}
use Rattle.clauses.proofs.Frame.{stay_mark, stay_frozen, stay_ended}
use Rattle.clauses.proofs.Spared.{Spared, Keeps, anchors}

module _ (S : Shared) (G : Ghost) (t : ℕ) (k : Reading) where
  pub keep_nop : (u : ℕ) → OkOf S G u → Spared S G t k nop u → Keeps S G t k nop u
  unfolding apply note
  keep_nop u O o = search (anchors S G t k nop tt u O o)

  -- H4 and H8 end a change with a state s: yes after the effect, no where it is lost
  module _ (x : ℕ) (s : State) (ended : s ≢ InProgress) (yes_after : s ≡ Committed → G.hap x ≡ true) (no-lost : s ≡ Aborted → LostOf S G x)
      (u : ℕ) (O : OkOf S G u) where
    holds : (i : ℕ) → i < (S.terms u).n → G.held u i ≡ true → upd S.state x s u ≡ InProgress → S.info ((S.terms u).rec i) ≡ u
    holds i h z = at (λ y. y ≡ InProgress → S.info ((S.terms u).rec i) ≡ u) S.state _ _ u (λ e q. absurd (ended q)) (λ n. O.holds_law i h z)

    committed : upd S.state x s u ≡ Committed → G.hap u ≡ true
    committed = at (λ y. y ≡ Committed → G.hap u ≡ true) S.state _ _ u (λ e q. rw e (yes_after q)) (λ n. O.committed_law)

    aborted : upd S.state x s u ≡ Aborted → LostOf S G u
    aborted = at (λ y. y ≡ Aborted → LostOf S G u) S.state _ _ u (λ e q. rw e (no-lost q)) (λ n. O.aborted_law)

  pub keep_abort : (x : ℕ) (g : Guard S G t (abort x)) (u : ℕ) → OkOf S G u → Spared S G t k (abort x) u → Keeps S G t k (abort x) u
  unfolding apply note
  keep_abort x g u O o = search (
    anchors S G t k (abort x) g u O o,
    stay_ended S G t k (abort x) g (S.terms u).old.stamp tt O.old_ended_law,
    holds x Aborted (λ q. ai refl q) (λ q. ca q refl) (λ q. g.lost) u O,
    committed x Aborted (λ q. ai refl q) (λ q. ca q refl) (λ q. g.lost) u O,
    aborted x Aborted (λ q. ai refl q) (λ q. ca q refl) (λ q. g.lost) u O,
  )

  pub keep_commit : (x : ℕ) (g : Guard S G t (commit x)) (u : ℕ) → OkOf S G u → Spared S G t k (commit x) u → Keeps S G t k (commit x) u
  unfolding apply note
  keep_commit x g u O o = search (
    anchors S G t k (commit x) g u O o,
    stay_ended S G t k (commit x) g (S.terms u).old.stamp tt O.old_ended_law,
    holds x Committed (λ q. ci refl q) (λ q. g.hap) (λ q. ca refl q) u O,
    committed x Committed (λ q. ci refl q) (λ q. g.hap) (λ q. ca refl q) u O,
    aborted x Committed (λ q. ci refl q) (λ q. g.hap) (λ q. ca refl q) u O,
  )

  freeze_holds : (x : ℕ) (g : Guard S G t (freeze x)) (j : ℕ) → j < (S.terms x).n → (S.terms x).closes j ≡ true → S.info ((S.terms x).rec j) ≡ x
  freeze_holds x g j h c = ⊎_elim (λ e. g.ok.holds_law j h (g.all j h) e)
      (⊎_elim (λ e. g.ok.closed_law (g.ok.happened_law (g.ok.committed_law e)).0 j h c)
      (λ e. let (i, l, p, f, m) = g.ok.aborted_law e in tf (g.all i l) f)) (st? (S.state x))

  pub keep_freeze : (x : ℕ) (g : Guard S G t (freeze x)) (u : ℕ) → OkOf S G u → Spared S G t k (freeze x) u → Keeps S G t k (freeze x) u
  unfolding apply note
  keep_freeze x g u O o = search (anchors S G t k (freeze x) g u O o, frozen, closed, happened)
    where
      frozen : upd S.frozen x true u ≡ true → HeldTo (G.held u) (S.terms u).n
      frozen = at (λ y. y ≡ true → HeldTo (G.held u) (S.terms u).n) S.frozen _ _ u (λ e z. rw e g.all) (λ n. O.frozen_law)

      closed : upd S.frozen x true u ≡ true → (i : ℕ) → i < (S.terms u).n → (S.terms u).closes i ≡ true → S.info ((S.terms u).rec i) ≡ u
      closed = at (λ y. y ≡ true → (i : ℕ) → i < (S.terms u).n → (S.terms u).closes i ≡ true → S.info ((S.terms u).rec i) ≡ u) S.frozen _ _ u
          (λ e z. rw e (freeze_holds x g)) (λ n. O.closed_law)

      happened : G.hap u ≡ true → (upd S.frozen x true u ≡ true) × MarkedTo S (S.terms u) (S.terms u).n
      happened z = (stay_frozen S G t k (freeze x) u tt (O.happened_law z).0, (O.happened_law z).1)

  pub keep_close : (x i : ℕ) (g : Guard S G t (close x i)) (u : ℕ) → OkOf S G u → Spared S G t k (close x i) u → Keeps S G t k (close x i) u
  unfolding apply note
  keep_close x i g u O o = search (anchors S G t k (close x i) g u O o, happened)
    where
      happened : G.hap u ≡ true → (S.frozen u ≡ true) × MarkedTo (apply (close x i) S) (S.terms u) (S.terms u).n
      happened z = ((O.happened_law z).0, λ j h c. stay_mark S G t k (close x i) _ ((O.happened_law z).1 j h c))
