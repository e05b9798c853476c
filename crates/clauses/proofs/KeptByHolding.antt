-- H1 keeps the clauses of every live change: whoever sets an info is InProgress, so it is none that was kept for a comparison.
use Prim.Native.Nat.{ℕ, ◌<◌}
use mathlib.Core.Path.{◌≡◌, refl, sym, ap, ◌∙◌, subst}
use mathlib.Core.Bool.{Bool, true, false}
use mathlib.Core.Logic.{◌⊎◌, inl, inr, ◌≢◌, ⊎_elim}
use Rattle.rules.specs.Words.{InProgress}
use Rattle.clauses.proofs.Updates.{upd, upd_hit, at}
use Rattle.clauses.proofs.Memory.{Terms, Shared, spot, apply}
use Rattle.clauses.proofs.Memory.{hold}
use Rattle.clauses.proofs.History.{Ghost, Reading, note}
use Rattle.clauses.proofs.Clauses.{Final, OkOf, Guard}
use Rattle.clauses.proofs.Rights.{st?, lost_frozen, hold_going}
use Rattle.clauses.proofs.Frame.{stay_held}
use Rattle.clauses.proofs.Lost.{stay_lost}
use Rattle.clauses.proofs.Spared.{Spared, Keeps, anchors}

module _ (S : Shared) (G : Ghost) (t : ℕ) (k : Reading) where
  -- H1 of x at i
  held_back : (x i u j : ℕ) → upd G.held x (upd (G.held x) i true) u j ≡ true → ((u ≡ x) × (j ≡ i)) ⊎ (G.held u j ≡ true)
  held_back x i u j = at (λ (row : ℕ → Bool). row j ≡ true → ((u ≡ x) × (j ≡ i)) ⊎ (G.held u j ≡ true)) G.held _ _ u
      (λ e. at (λ z. z ≡ true → ((u ≡ x) × (j ≡ i)) ⊎ (G.held u j ≡ true)) (G.held x) _ _ j (λ q z. inl (e, q)) (λ n z. inr (rw e z)))
      (λ n z. inr z)

  at_own : (x i : ℕ) (g : Guard S G t (hold x i)) (u : ℕ) → OkOf S G u → x ≡ u → (j : ℕ) → j < (S.terms u).n
      → (S.terms u).rec j ≡ (S.terms x).rec i
      → (j ≡ i) × (S.info ((S.terms u).rec j) ≡ (S.terms u).infos j)
  at_own x i g u O q j h e = (
    d,
    subst (λ z. S.info ((S.terms u).rec z) ≡ (S.terms u).infos z) (sym d)
        (subst (λ z. S.info ((S.terms z).rec i) ≡ (S.terms z).infos i) q g.at),
  )
    where
      d : j ≡ i
      d = O.apart_law j i h (subst (λ z. i < (S.terms z).n) q g.inside) (subst (λ z. (S.terms u).rec j ≡ (S.terms z).rec i) q e)

  pub keep_hold : (x i : ℕ) (g : Guard S G t (hold x i)) (u : ℕ) → OkOf S G u → Spared S G t k (hold x i) u → Keeps S G t k (hold x i) u
  unfolding apply note
  keep_hold x i g u O o = record {
    apart_law = O.apart_law;
    shape_law = O.shape_law;
    anchors_law = anchors S G t k (hold x i) g u O o;
    old_ended_law = O.old_ended_law;
    snap_law = λ z. at (λ y. (y ≡ c.infos c.written) ⊎ (y ≡ u) → S.cell (spot c) c.field ≡ c.old) S.info _ _ (spot c)
        (λ e. ⊎_elim (λ q. absurd (other c.written O.shape_law.1 q))
        (λ (q : x ≡ u). O.snap_law z (inl (at_own x i g u O q c.written O.shape_law.1 e).1))) (λ n. O.snap_law z);
    gone_law = λ j h z. at (λ y. y ≢ c.infos j) S.info _ _ (c.rec j) (λ e q. other j h q)
        (λ n. O.gone_law j h (⊎_elim (λ (w : (u ≡ x) × (j ≡ i)). absurd (n (rw (w.0, w.1) refl))) (λ w. w) (held_back x i u j z)));
    held_law = λ j h. at (λ y. y ≡ u → upd G.held x (upd (G.held x) i true) u j ≡ true) S.info _ _ (c.rec j)
        (λ e q. rw (upd_hit G.held x (upd (G.held x) i true) (sym q)) (upd_hit (G.held x) i true (at_own x i g u O q j h e).0))
        (λ n q. stay_held S G t k (hold x i) u j tt (O.held_law j h q));
    holds_law = λ j h z s. at (λ y. y ≡ u) S.info _ _ (c.rec j)
        (λ e. ⊎_elim (λ (w : (u ≡ x) × (j ≡ i)). sym w.0)
        (λ w. absurd (final.0 (subst (λ y. S.state y ≡ InProgress) (sym (kept e (O.holds_law j h w s))) s)))
        (held_back x i u j z))
        (λ n. ⊎_elim (λ (w : (u ≡ x) × (j ≡ i)). absurd (n (rw (w.0, w.1) refl))) (λ w. O.holds_law j h w s) (held_back x i u j z));
    frozen_law = λ z j h. stay_held S G t k (hold x i) u j tt (O.frozen_law z j h);
    closed_law = λ z j h y. at (λ y. y ≡ u) S.info _ _ (c.rec j)
        (λ e. closed z j h y e (subst (λ y. Final S ((S.terms x).rec i) y) (kept e (O.closed_law z j h y)) final))
        (λ n. O.closed_law z j h y);
    committed_law = O.committed_law;
    aborted_law = λ a. stay_lost S G t k (hold x i) g u tt O (O.aborted_law a);
    happened_law = O.happened_law;
    old_gone_law = O.old_gone_law;
    clear_held_law = λ j h. at (λ y. y ≡ u → G.hap u ≡ false → G.eff (c.rec j) < G.since u j) S.info _ _ (c.rec j)
        (λ e q z. ((O.anchors_law j h).clear_law (at_own x i g u O q j h e).1).1) (λ n. O.clear_held_law j h);
  }
    where
      c : Terms
      c = S.terms u

      final : Final S ((S.terms x).rec i) ((S.terms x).infos i)
      final = (g.ok.anchors_law i g.inside).final_law

      other : (j : ℕ) → j < (S.terms u).n → x ≢ (S.terms u).infos j
      other j h q = (O.anchors_law j h).final_law.0 (subst (λ y. S.state y ≡ InProgress) q (hold_going S G t x i g))

      kept : {r : ℕ} → r ≡ (S.terms x).rec i → S.info r ≡ u → (S.terms x).infos i ≡ u
      kept e q = sym g.at ∙ ap S.info (sym e) ∙ q

      closed : S.frozen u ≡ true → (j : ℕ) → j < (S.terms u).n → (S.terms u).closes j ≡ true → (S.terms u).rec j ≡ (S.terms x).rec i
          → Final S ((S.terms x).rec i) u → x ≡ u
      closed z j h y e F = ⊎_elim (λ p. absurd (F.0 p))
          (⊎_elim (λ p. absurd (F.1 p (j, h, y, e))) (λ p. lost_frozen S G u O (O.aborted_law p) z)) (st? (S.state u))
