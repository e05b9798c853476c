-- The acts of other tasks spoil neither what a place knows, nor links, nor the clauses of records.
use Prim.Native.Nat.{ℕ, suc, ◌≤◌, ◌<◌}
use mathlib.Core.Path.{◌≡◌, sym, ap, ◌∙◌, subst}
use mathlib.Core.Bool.{true}
use mathlib.Core.Logic.{◌⊎◌, inl, inr, ◌≢◌, ⊎_elim}
use mathlib.Core.List.{List}
use native.Mathlib.Omega.{arith}
use native.Mathlib.Nat.{le_refl}
use Rattle.rules.specs.Words.{Cell, InProgress, Committed, Link}
use Rattle.rules.specs.Words.{Place, Idle, L1, L2, L3, L4, L5, L6, L7, L8, L9, L10, L11, H1, H2, H3, H4, H5, H6, H7, H8, Vlx, Read}
use Rattle.table.specs.Table.{cell_at}
use Rattle.rules.specs.Places.{change_of}
use Rattle.clauses.proofs.Updates.{at, at_all}
use Rattle.clauses.proofs.Memory.{Shared, spot, apply}
use Rattle.clauses.proofs.Memory.{Act, nop, hold, abort, freeze, close, write, commit, make}
use Rattle.clauses.proofs.History.{Ghost, Reading, note}
use Rattle.clauses.proofs.Clauses.{HeldTo, MarkedTo, OkOf, Off, Guard, At, LinkOk, Stamped}
use Rattle.clauses.proofs.Rights.{ci, write_holds}
use Rattle.clauses.proofs.Frame.{stay_nonzero, same_terms, stay_mark, stay_frozen, stay_hap, stay_held, stay_state, stay_ended, stay_final}
use Rattle.clauses.proofs.Frame.{stay_anchor, stay_snap, Took, took_back, now_suc}
use Rattle.clauses.proofs.Lost.{stay_gone, stay_lost}

-- no number that a link keeps is the one that the act takes
abbrev pub OffLink : Act → Link → Type 0
OffLink b k = k.there ≡ true → Off b k.info × ((f : ℕ) → f < 4 → Off b (cell_at k.cells f).stamp)

module _ (S : Shared) (G : Ghost) (t : ℕ) (k : Reading) (b : Act) (g : Guard S G t b) where
  pub stay_link : (e r : ℕ) (l : Link) → OffLink b l → LinkOk S G e r l → LinkOk (apply b S) (note t b k S G) e r l
  stay_link e r l o h there =
      let (anchor, snap, ended) = h there in (
        stay_anchor S G t k b g r l.info e (o there).0 anchor,
        stay_snap S G t k b g r l.info 4 l.cells anchor.final_law.0 snap,
        λ f q. stay_ended S G t k b g _ ((o there).1 f q) (ended f q),
      )

  marked : (u i : ℕ) → MarkedTo S (S.terms u) i → MarkedTo (apply b S) (S.terms u) i
  marked u i h j l c = stay_mark S G t k b _ (h j l c)

  held : (u i : ℕ) → Off b u → HeldTo (G.held u) i → HeldTo ((note t b k S G).held u) i
  held u i o h j l = stay_held S G t k b u j o (h j l)

  pub stay : (cs : List Cell) (q : Place) → Off b (change_of q) → (change_of q ≢ 0 → OkOf S G (change_of q)) → At S G cs q
      → At (apply b S) (note t b k S G) cs q
  stay cs Idle o K h = tt
  stay cs (L1 r) o K h = tt
  stay cs (L2 r m1) o K h = tt
  stay cs (L3 r m1 a) o K h = tt
  stay cs (L4 r m1 a s) o K h = λ n. stay_state S G t k b g a o (λ q. n (sym (h n) ∙ q)) ∙ h n
  stay cs (L5 r m1 a i) o K h = (h.0, stay_final S G t k b g r a o h.1, stay_snap S G t k b g r a i cs h.1.0 h.2)
  stay cs (L6 r m1 a) o K h = (stay_final S G t k b g r a o h.0, stay_snap S G t k b g r a 4 cs h.0.0 h.1)
  stay cs (L7 r m1 a) o K h = tt
  stay cs (L8 r m1 a) o K h = tt
  stay cs (L9 r) o K h = tt
  stay cs (L10 r a) o K h = λ z. stay_nonzero S G t k b g r (h z)
  stay cs (L11 r) o K h = stay_nonzero S G t k b g r h
  stay cs (H1 u i after) o K h = rw (same_terms S G t k b u o) (h.0, h.1, held u i o h.2)
  stay cs (H2 u i after) o K h =
      rw (same_terms S G t k b u o) (h.0, h.1, held u i o h.2, stay_gone S G t k b g u (K h.0) i h.1 h.3)
  stay cs (H3 u after) o K h = (
    h.0,
    ⊎_elim (λ (c : S.state u ≡ Committed). inl (stay_state S G t k b g u o (λ q. ci c q) ∙ c))
        (λ l. inr (stay_lost S G t k b g u o (K h.0) l)) h.1,
  )
  stay cs (H4 u after) o K h = (h.0, stay_lost S G t k b g u o (K h.0) h.1)
  stay cs (H5 u after) o K h = rw (same_terms S G t k b u o) (h.0, held u _ o h.1)
  stay cs (H6 u i after) o K h =
      rw (same_terms S G t k b u o) (h.0, stay_frozen S G t k b u o h.1, h.2, h.3, marked u i h.4)
  stay cs (H7 u after) o K h = rw (same_terms S G t k b u o) (h.0, stay_frozen S G t k b u o h.1, marked u _ h.2)
  stay cs (H8 u after) o K h = (h.0, stay_hap S G t k b u o h.1)
  stay cs (Vlx n i) o K h = h
  stay cs (Read r f) o K h = tt

module _ (S : Shared) (G : Ghost) (t : ℕ) (k : Reading) where
  pub stay_stamp : (b : Act) → Guard S G t b → (r f : ℕ) → Off b (S.cell r f).stamp → Stamped S r f → Stamped (apply b S) r f
  unfolding apply
  stay_stamp nop g r f o h = h
  stay_stamp (hold x i) g r f o h = at (λ y. ((S.cell r f).stamp ≡ y) ⊎ (S.state (S.cell r f).stamp ≢ InProgress)) S.info _ _ r
      (λ e. inr (⊎_elim (λ (q : (S.cell r f).stamp ≡ S.info r). subst
      (λ y. S.state y ≢ InProgress) (sym (q ∙ ap S.info e ∙ g.at)) (g.ok.anchors_law i g.inside).final_law.0)
      (λ n. n) h)) (λ n. h)
  stay_stamp (abort x) g r f o h = ⊎_elim (λ q. inl q) (λ n. inr (stay_ended S G t k (abort x) g _ tt n)) h
  stay_stamp (freeze x) g r f o h = h
  stay_stamp (close x i) g r f o h = h
  stay_stamp (write x) g r f o h = at (λ (row : ℕ → Cell). ((row f).stamp ≡ S.info r) ⊎ (S.state (row f).stamp ≢ InProgress)) S.cell
      _ _ r
      (λ e. at (λ (d : Cell). (d.stamp ≡ S.info r) ⊎ (S.state d.stamp ≢ InProgress)) (S.cell (spot (S.terms x))) _ _ f
      (λ q. inl (sym (ap S.info e ∙ write_holds S G t x g _ g.ok.shape_law.1)))
      (λ m. subst (λ y. ((S.cell y f).stamp ≡ S.info r) ⊎ (S.state (S.cell y f).stamp ≢ InProgress)) e h)) (λ m. h)
  stay_stamp (commit x) g r f o h = ⊎_elim (λ q. inl q) (λ n. inr (stay_ended S G t k (commit x) g _ tt n)) h
  stay_stamp (make x c) g r f o h = ⊎_elim (λ q. inl q) (λ n. inr (stay_ended S G t k (make x c) g _ o n)) h

  -- times lie in the past
  pub took_past : (b : Act) (r : ℕ) → G.took r ≤ G.now → (note t b k S G).took r ≤ (note t b k S G).now
  took_past b r h = ⊎_elim (λ (z : ((note t b k S G).took r ≡ G.took r) × ((apply b S).info r ≡ S.info r)). omega
      (arith, z.0, now_suc S G t k b))
      (λ (z : Took S G t k b r). omega (arith, z.4, now_suc S G t k b)) (took_back S G t k b r)

  pub eff_past : (b : Act) (r : ℕ) → G.eff r ≤ G.now → (note t b k S G).eff r ≤ (note t b k S G).now
  unfolding note
  eff_past nop r h = omega arith
  eff_past (hold x i) r h = omega arith
  eff_past (abort x) r h = omega arith
  eff_past (freeze x) r h = omega arith
  eff_past (close x i) r h = omega arith
  eff_past (write x) r h = at_all (λ y. y ≤ suc G.now) (S.terms x).n (S.terms x).rec _ G.eff r (λ i l e. le_refl _) (λ n. omega arith)
  eff_past (commit x) r h = omega arith
  eff_past (make x c) r h = omega arith
