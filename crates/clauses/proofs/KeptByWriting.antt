-- H7 keeps the clauses of every live change: who writes holds all its records, so no other change's record or read is touched.
use Prim.Native.Nat.{ℕ, ◌<◌}
use mathlib.Core.Path.{◌≡◌, refl, sym, ap, ◌∙◌, subst}
use mathlib.Core.Bool.{true, false}
use mathlib.Core.Logic.{◌⊎◌, inl, inr, ◌≢◌, ⊎_elim}
use Rattle.rules.specs.Words.{Cell, InProgress, Committed}
use Rattle.clauses.proofs.Updates.{upd, upd_miss, at, tf, at_all}
use Rattle.clauses.proofs.Memory.{Terms, Shared, spot, apply}
use Rattle.clauses.proofs.Memory.{write}
use Rattle.clauses.proofs.History.{Ghost, Reading, note}
use Rattle.clauses.proofs.Clauses.{MarkedTo, OkOf, Guard}
use Rattle.clauses.proofs.Rights.{write_going, write_holds}
use Rattle.clauses.proofs.Frame.{stay_hap, stay_cell}
use Rattle.clauses.proofs.Spared.{Spared, Keeps, anchors}

module _ (S : Shared) (G : Ghost) (t : ℕ) (k : Reading) where
  pub keep_write : (x : ℕ) (g : Guard S G t (write x)) (u : ℕ) → OkOf S G u → Spared S G t k (write x) u → Keeps S G t k (write x) u
  unfolding apply note
  keep_write x g u O o = search (anchors S G t k (write x) g u O o, snap, committed, happened, old-gone, clear-held)
    where
      c : Terms
      c = S.terms u

      same-hap : u ≢ x → upd G.hap x true u ≡ true → G.hap u ≡ true
      same-hap n z = rw (upd_miss G.hap x true n) at z

      mine : (i r : ℕ) → i < (S.terms x).n → r ≡ (S.terms x).rec i → S.info r ≡ u → u ≡ x
      mine i r h e q = sym q ∙ ap S.info e ∙ write_holds S G t x g i h

      snap : upd G.hap x true u ≡ false → (S.info (spot c) ≡ c.infos c.written) ⊎ (S.info (spot c) ≡ u)
          → (apply (write x) S).cell (spot c) c.field ≡ c.old
      snap = at (λ y. y ≡ false → (S.info (spot c) ≡ c.infos c.written) ⊎ (S.info (spot c) ≡ u)
          → (apply (write x) S).cell (spot c) c.field ≡ c.old)
          G.hap _ _ u (λ e z. tf refl z) (λ n z. ⊎_elim
          (λ (p : S.info (spot c) ≡ c.infos c.written). stay_cell S G t k (write x) g _ _ _
          (O.anchors_law c.written O.shape_law.1).final_law.0 p ∙ O.snap_law z (inl p))
          (λ (p : S.info (spot c) ≡ u). at (λ (row : ℕ → Cell). row c.field ≡ c.old) S.cell _ _ (spot c)
          (λ e. absurd (n (mine (S.terms x).written _ g.ok.shape_law.1 e p))) (λ m. O.snap_law z (inr p))))

      committed : S.state u ≡ Committed → upd G.hap x true u ≡ true
      committed z = stay_hap S G t k (write x) u tt (O.committed_law z)

      happened : upd G.hap x true u ≡ true → (S.frozen u ≡ true) × MarkedTo S c c.n
      happened = at (λ y. y ≡ true → (S.frozen u ≡ true) × MarkedTo S c c.n) G.hap _ _ u (λ e z. rw e (g.frozen, g.marked))
          (λ n. O.happened_law)

      old-gone : upd G.hap x true u ≡ true → ((apply (write x) S).cell (spot c) c.field).stamp ≢ c.old.stamp
      old-gone z = at (λ (row : ℕ → Cell). (row c.field).stamp ≢ c.old.stamp) S.cell _ _ (spot c)
          (λ e. at (λ (d : Cell). d.stamp ≢ c.old.stamp) (S.cell (spot (S.terms x))) _ _ c.field
          (λ q w. O.old_ended_law (subst (λ y. S.state y ≡ InProgress) w (write_going S G t x g)))
          (λ m. rw (← e) (O.old_gone_law (same-hap (λ q. m (ap (λ y. (S.terms y).field) q)) z))))
          (λ m. O.old_gone_law (same-hap (λ q. m (ap (λ y. spot (S.terms y)) q)) z))

      clear-held : (i : ℕ) → i < c.n → S.info (c.rec i) ≡ u → upd G.hap x true u ≡ false
          → (note t (write x) k S G).eff (c.rec i) < G.since u i
      clear-held i h q = at (λ y. y ≡ false → (note t (write x) k S G).eff (c.rec i) < G.since u i) G.hap _ _ u (λ e z. tf refl z)
          (λ n z. at_all (λ y. y < G.since u i) (S.terms x).n (S.terms x).rec _ G.eff (c.rec i) (λ j l e. absurd (n (mine j _ l e q)))
          (λ m. O.clear_held_law i h q z))
