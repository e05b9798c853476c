-- The sentences of demand 3 on a course of calls: a number u taken by the call s with the terms c, not taken again up to k.
use Prim.Native.Nat.{ℕ, suc, ◌<◌}
use mathlib.Core.Path.{◌≡◌, sym, ap, ◌∙◌, subst}
use mathlib.Core.Bool.{true}
use mathlib.Core.Logic.{◌⊎◌, inl, inr, ◌≢◌, ⊎_elim}
use native.Mathlib.Omega.{arith}
use Rattle.clauses.proofs.Updates.{tf, leb_case}
use Rattle.clauses.proofs.Memory.{Terms, spot, new_cell, write, make}
use Rattle.clauses.proofs.History.{Ghost}
use Rattle.clauses.proofs.Clauses.{OkOf, LostOf, Guard, Live}
use Rattle.clauses.proofs.Rights.{lost_frozen, lost_hap, not_hap, write_holds}
use Rattle.clauses.proofs.Frame.{stay_hap}
use Rattle.clauses.proofs.Lost.{stay_lost}
use Rattle.clauses.proofs.Course.{Course, X, S, history, fine, guard, room, Unstarted, ever, started, since_start}
use Rattle.clauses.proofs.Came.{Wrote, Writes, Sets, alters_by, writes_new, hap_now, hap_came, took_came, eff_at}

module _ (C : Course) where
  abbrev H : ℕ → Ghost
  H k = history C k

  pub write_guard : (k u : ℕ) → Writes C k u → Guard (S C k) (H k) (C.who k) (write u)
  write_guard k u e = guard C k (write u) e

  pub write_live : (k u : ℕ) → Writes C k u → Live (X C k) u
  write_live k u e = room C k (write u) e

  -- at most one effect
  pub once : (u j k : ℕ) → Writes C j u → Writes C k u → j < k → Unstarted C u (suc j) k → ⊥
  once u j k E D h n = tf (ever C u (λ S G. G.hap u ≡ true) (λ S G t l b g o O p. stay_hap S G t l b u o p) (suc j) k h n
      (write_live k u D) (hap_now C j u E)) (not_hap (S C k) (H k) (C.who k) u (write_guard k u D))

  module _ (s u : ℕ) (c : Terms) (made : C.act s ≡ make u c) (k : ℕ) (later : s < k) (alone : Unstarted C u (suc s) k) where
    -- from the old cell to the new one
    pub alters : Writes C k u → ((S C k).cell (spot c) c.field ≡ c.old) × ((S C (suc k)).cell (spot c) c.field ≡ new_cell c u)
    alters E = let P = (since_start C s u c k made later alone (write_live k u E)).0 in (
      subst (λ (c : Terms). (S C k).cell (spot c) c.field ≡ c.old) P (write_guard k u E).is_old,
      subst (λ (c : Terms). (S C (suc k)).cell (spot c) c.field ≡ new_cell c u) P (writes_new C k u E),
    )

    -- the last effect on a record that it names came before the end of its linked read
    last_effect : Writes C k u → (i e : ℕ) → i < c.n → (H s).read (C.who s) (c.rec i) ≡ suc e → (H k).eff (c.rec i) < suc e
    last_effect E i e h z = let (P, Q) = since_start C s u c k made later alone (write_live k u E) in
        let g = write_guard k u E in
        let h' : i < ((S C k).terms u).n = subst (λ (c : Terms). i < c.n) (sym P) h in
        let y : (H k).eff (((S C k).terms u).rec i) < (H k).since u i =
        g.ok.clear_held_law i h' (write_holds (S C k) (H k) (C.who k) u g i h') (not_hap (S C k) (H k) (C.who k) u g) in
        subst (λ x. (H k).eff (c.rec i) < x) (ap (λ (f : ℕ → ℕ). f i) Q ∙ z) (subst (λ (c : Terms). (H k).eff (c.rec i) < (H k).since u i) P y)

    -- so nothing happens to a named record from the end of its linked read to the effect
    pub untouched : Writes C k u → (i e : ℕ) → i < c.n → (H s).read (C.who s) (c.rec i) ≡ suc e → (j : ℕ) → e < j → j < k
        → ((f : ℕ) → (S C (suc j)).cell (c.rec i) f ≡ (S C j).cell (c.rec i) f)
        × ((x : ℕ) → Writes C j x → (i' : ℕ) → i' < ((S C j).terms x).n → ((S C j).terms x).rec i' ≢ c.rec i)
    untouched E i e h z j a b = (
      λ f. ⊎_elim (λ q. q) (λ (A : Wrote (S C j) (C.act j) (c.rec i) f). absurd
          (others A.0 A.1 _ (write_guard j A.0 A.1).ok.shape_law.1 (sym A.2))) (alters_by C j (c.rec i) f),
      others,
    )
      where
        others : (x : ℕ) → Writes C j x → (i' : ℕ) → i' < ((S C j).terms x).n → ((S C j).terms x).rec i' ≢ c.rec i
        others x D i' m y =
            let w : j < (H k).eff (c.rec i) = subst (λ r. j < (H k).eff r) y (eff_at C x j k b D i' m) in
            omega (arith, last_effect E i e h z)

    -- yes: it has happened by a write since the start
    pub happened : (H k).hap u ≡ true → (j : ℕ) × (s < j) × (j < k) × Writes C j u
    happened y = hap_came C u (suc s) k later (started C s u c made).2 y

    -- no: another change took hold of a named record after its linked read
    pub because : Live (X C k) u → LostOf (S C k) (H k) u
        → (i : ℕ) × (i < c.n) × ((e : ℕ) → (H s).read (C.who s) (c.rec i) ≡ suc e
        → (h x : ℕ) × (e < h) × (h < k) × (x ≢ u) × Sets C h x (c.rec i))
    because l (i, h, p, f, m) =
        (i, subst (λ (c : Terms). i < c.n) P h, λ e z. held e (ap (λ (f : ℕ → ℕ). f i) Q ∙ z) (took_came C k (c.rec i)))
      where
        P : (S C k).terms u ≡ c
        P = (since_start C s u c k made later alone l).0

        Q : (H k).since u ≡ (λ i. (H s).read (C.who s) (c.rec i))
        Q = (since_start C s u c k made later alone l).1

        O : OkOf (S C k) (H k) u
        O = (fine C k).changes_law u l

        taken : (H k).since u i < (H k).took (c.rec i)
        taken = subst (λ (c : Terms). (H k).since u i < (H k).took (c.rec i)) P ((O.anchors_law i h).taken_law m)

        other : (S C k).info (c.rec i) ≢ u
        other b = tf (O.held_law i h (subst (λ (c : Terms). (S C k).info (c.rec i) ≡ u) (sym P) b)) f

        held : (e : ℕ) → (H k).since u i ≡ suc e
            → ((H k).took (c.rec i) ≡ 0) ⊎ ((h : ℕ) × (h < k) × ((H k).took (c.rec i) ≡ suc h) × Sets C h ((S C k).info (c.rec i)) (c.rec i))
            → (h x : ℕ) × (e < h) × (h < k) × (x ≢ u) × Sets C h x (c.rec i)
        held e w (inl z) = absurd (omega (arith, taken))
        held e w (inr (j, a, z, D)) = (j, (S C k).info (c.rec i), omega (arith, taken), a, other, D)

  -- once lost, a change has no effect, before or after
  pub never : (s u k j : ℕ) → s < k → s < j → Unstarted C u (suc s) k → Unstarted C u (suc s) j → Live (X C k) u → LostOf (S C k) (H k) u
      → Writes C j u → ⊥
  never s u k j a b W Z l lost E = ⊎_elim
      (λ h. lost_frozen (S C j) (H j) u ((fine C j).changes_law u (write_live j u E)) (ever C u (λ S G. LostOf S G u)
      (λ S G t l b g o O p. stay_lost S G t l b g u o O p) k j h (λ i p q. Z i (omega arith) q) (write_live j u E) lost)
      (write_guard j u E).frozen)
      (λ h. lost_hap (S C k) (H k) u ((fine C k).changes_law u l) lost (ever C u (λ S G. G.hap u ≡ true)
      (λ S G t l b g o O p. stay_hap S G t l b u o p) (suc j) k h (λ i p q. W i (omega arith) q) l (hap_now C j u E)))
      (leb_case k j)
