-- What the history tells happened: a change has happened by a write, the last hold of a record by an H1, the last effect by a write.
use Prim.Native.Nat.{ℕ, zero, suc, ◌≤◌, ◌<◌}
use mathlib.Core.Path.{◌≡◌, refl, sym, ap, ◌∙◌, subst}
use mathlib.Core.Bool.{true, false}
use mathlib.Core.Logic.{◌⊎◌, inl, inr, ◌≢◌, ⊎_elim}
use native.Mathlib.Omega.{arith}
use native.Mathlib.Nat.{le_refl}
use Rattle.rules.specs.Words.{Cell, InProgress}
use Rattle.clauses.proofs.Updates.{upd_hit, upd_miss, at, same?, tf, le_split, put_all, at_all}
use Rattle.clauses.proofs.Memory.{Shared, spot, new_cell, apply}
use Rattle.clauses.proofs.Memory.{Act, nop, hold, abort, freeze, close, write, commit, make}
use Rattle.clauses.proofs.History.{Ghost, Reading, note}
use Rattle.clauses.proofs.Clauses.{Live}
use Rattle.clauses.proofs.Rights.{hold_going, write_going}
use Rattle.clauses.proofs.Frame.{Took, took_back}
use Rattle.clauses.proofs.Course.{Course, X, S, history, fine, turn, guard, room, now_is}

hap_back : (S : Shared) (G : Ghost) (t : ℕ) (k : Reading) (b : Act) (u : ℕ) → (note t b k S G).hap u ≡ true → (G.hap u ≡ true) ⊎ (b ≡ write u)
unfolding note
hap_back S G t k nop u h = inl h
hap_back S G t k (hold x i) u h = inl h
hap_back S G t k (abort x) u h = inl h
hap_back S G t k (freeze x) u h = inl h
hap_back S G t k (close x i) u h = inl h
hap_back S G t k (write x) u h =
    ⊎_elim (λ (e : u ≡ x). inr (ap write (sym e))) (λ n. inl (rw (upd_miss G.hap x true n) at h)) (same? u x)
hap_back S G t k (commit x) u h = inl h
hap_back S G t k (make x c) u h =
    ⊎_elim (λ (e : u ≡ x). tf h (upd_hit G.hap x false e)) (λ n. inl (rw (upd_miss G.hap x false n) at h)) (same? u x)

-- a cell alters by a write alone, and it is the one that the change names
abbrev pub Wrote : Shared → Act → ℕ → ℕ → Type 0
Wrote S b r f = (u : ℕ) × (b ≡ write u) × (r ≡ spot (S.terms u)) × (f ≡ (S.terms u).field)

wrote : (S : Shared) (b : Act) (r f : ℕ) → ((apply b S).cell r f ≡ S.cell r f) ⊎ Wrote S b r f
unfolding apply
wrote S nop r f = inl refl
wrote S (hold x i) r f = inl refl
wrote S (abort x) r f = inl refl
wrote S (freeze x) r f = inl refl
wrote S (close x i) r f = inl refl
wrote S (write x) r f = at (λ (row : ℕ → Cell). (row f ≡ S.cell r f) ⊎ Wrote S (write x) r f) S.cell _ _ r
    (λ e. at (λ (c : Cell). (c ≡ S.cell r f) ⊎ Wrote S (write x) r f) (S.cell (spot (S.terms x))) _ _ f (λ q. inr (x, refl, e, q))
    (λ m. inl (rw e))) (λ m. inl refl)
wrote S (commit x) r f = inl refl
wrote S (make x c) r f = inl refl

-- the last effect on a record never goes back
eff_grows : (S : Shared) (G : Ghost) (t : ℕ) (k : Reading) (b : Act) (r : ℕ) → G.eff r ≤ G.now → G.eff r ≤ (note t b k S G).eff r
unfolding note
eff_grows S G t k nop r h = le_refl _
eff_grows S G t k (hold x i) r h = le_refl _
eff_grows S G t k (abort x) r h = le_refl _
eff_grows S G t k (freeze x) r h = le_refl _
eff_grows S G t k (close x i) r h = le_refl _
eff_grows S G t k (write x) r h =
    at_all (λ y. G.eff r ≤ y) (S.terms x).n (S.terms x).rec _ G.eff r (λ i l e. omega arith) (λ n. le_refl _)
eff_grows S G t k (commit x) r h = le_refl _
eff_grows S G t k (make x c) r h = le_refl _

module _ (C : Course) where
  abbrev H : ℕ → Ghost
  H k = history C k

  -- call k writes the field that u names; call k sets the info of r by an H1 of x at place i
  abbrev pub Writes : ℕ → ℕ → Type 0
  Writes k u = C.act k ≡ write u

  pub record Sets (k x r : ℕ) : Type 0 where
    pub i : ℕ
    pub act : C.act k ≡ hold x i
    pub rec : ((S C k).terms x).rec i ≡ r
    pub inside : i < ((S C k).terms x).n
    pub to : (S C (suc k)).info r ≡ x
    pub from : (S C k).info r ≢ x
    pub live : Live (X C k) x

  pub alters_by : (k r f : ℕ) → ((S C (suc k)).cell r f ≡ (S C k).cell r f) ⊎ Wrote (S C k) (C.act k) r f
  alters_by k r f = subst (λ (s : Shared). (s.cell r f ≡ (S C k).cell r f) ⊎ Wrote (S C k) (C.act k) r f) (sym (turn C k).shared)
      (wrote (S C k) (C.act k) r f)

  pub writes_new : (k u : ℕ) → Writes k u → (S C (suc k)).cell (spot ((S C k).terms u)) ((S C k).terms u).field ≡ new_cell ((S C k).terms u) u
  unfolding apply
  writes_new k u e = let c = (S C k).terms u in
      rw ((turn C k).shared, e, upd_hit (S C k).cell (spot c) _ {j = spot c} refl) (upd_hit ((S C k).cell (spot c)) c.field (new_cell c u) refl)

  -- what a write finds has an older stamp, so a write alters its cell
  pub writes_alter : (k u : ℕ) → Writes k u
      → (S C (suc k)).cell (spot ((S C k).terms u)) ((S C k).terms u).field ≢ (S C k).cell (spot ((S C k).terms u)) ((S C k).terms u).field
  writes_alter k u e q = let g = guard C k (write u) e in
      g.ok.old_ended_law (subst (λ x. (S C k).state x ≡ InProgress) (ap (λ (c : Cell). c.stamp) (sym (writes_new k u e) ∙ q ∙ g.is_old))
      (write_going (S C k) (H k) (C.who k) u g))

  pub hap_now : (k u : ℕ) → Writes k u → (H (suc k)).hap u ≡ true
  unfolding history note
  hap_now k u e = rw e (upd_hit (H k).hap u true refl)

  pub hap_came : (u j k : ℕ) → j ≤ k → (H j).hap u ≡ false → (H k).hap u ≡ true → (i : ℕ) × (j ≤ i) × (i < k) × Writes i u
  unfolding history
  hap_came u j zero h f y = let e : j ≡ 0 = omega arith in tf y (subst (λ x. (H x).hap u ≡ false) e f)
  hap_came u j (suc k) h f y = ⊎_elim (λ (e : j ≡ suc k). tf y (subst (λ x. (H x).hap u ≡ false) e f))
      (λ l. ⊎_elim (λ z. let (i, a, c, E) = hap_came u j k l f z in (i, a, omega arith, E)) (λ z. (k, l, omega arith, z))
      (hap_back (S C k) (H k) (C.who k) (C.reads k) (C.act k) u y)) (le_split j k h)

  -- an H1 that sets an info alters it: the stored info is of an ended change, the setter is not ended
  hold_sets : (k x i r : ℕ) → C.act k ≡ hold x i → ((S C k).terms x).rec i ≡ r → (S C (suc k)).info r ≡ x → Sets k x r
  hold_sets k x i r e q s = let g = guard C k (hold x i) e in
      record {
        i = i;
        act = e;
        rec = q;
        inside = g.inside;
        to = s;
        live = room C k (hold x i) e;
        from = λ z. (g.ok.anchors_law i g.inside).final_law.0 (subst (λ y. (S C k).state y ≡ InProgress)
            (sym z ∙ ap (S C k).info (sym q) ∙ g.at) (hold_going (S C k) (H k) (C.who k) x i g));
      }

  -- an info alters by an H1 alone
  pub sets_by : (k r : ℕ) → ((S C (suc k)).info r ≡ (S C k).info r) ⊎ ((x : ℕ) × Sets k x r)
  sets_by k r = go (took_back (S C k) (H k) (C.who k) (C.reads k) (C.act k) r)
    where
      info_is : (S C (suc k)).info r ≡ (apply (C.act k) (S C k)).info r
      info_is = ap (λ (s : Shared). s.info r) (turn C k).shared

      go : (((note (C.who k) (C.act k) (C.reads k) (S C k) (H k)).took r ≡ (H k).took r) × ((apply (C.act k) (S C k)).info r ≡ (S C k).info r))
          ⊎ Took (S C k) (H k) (C.who k) (C.reads k) (C.act k) r → ((S C (suc k)).info r ≡ (S C k).info r) ⊎ ((x : ℕ) × Sets k x r)
      go (inl (a, c)) = inl (info_is ∙ c)
      go (inr (x, i, e, q, a, c)) = inr (x, hold_sets k x i r e q (info_is ∙ c))

  -- an info is 0, or an H1 set it and it has stood since
  abbrev pub Since : ℕ → ℕ → Type 0
  Since k r = ((S C k).info r ≡ 0)
      ⊎ ((h : ℕ) × (h < k) × Sets h ((S C k).info r) r × ((j : ℕ) → h < j → j ≤ k → (S C j).info r ≡ (S C k).info r))

  pub info_came : (k r : ℕ) → Since k r
  info_came zero r = ⊎_elim (λ z. inl z) (λ n. absurd (C.no_changes ((S C 0).info r) (n, inl (r, refl)))) (same? ((S C 0).info r) 0)
  info_came (suc k) r = go (sets_by k r) (info_came k r)
    where
      now : (x : ℕ) → Sets k x r → Since (suc k) r
      now x B = inr (
        k,
        omega arith,
        subst (λ y. Sets k y r) (sym B.to) B,
        λ j a b. let z : j ≡ suc k = omega arith in ap (λ j. (S C j).info r) z,
      )

      go : ((S C (suc k)).info r ≡ (S C k).info r) ⊎ ((x : ℕ) × Sets k x r) → Since k r → Since (suc k) r
      go (inr (x, B)) c = now x B
      go (inl e) (inl z) = inl (e ∙ z)
      go (inl e) (inr (h, l, B, w)) = inr (
        h,
        omega arith,
        subst (λ y. Sets h y r) (sym e) B,
        λ j a b. ⊎_elim (λ (z : j ≡ suc k). ap (λ j. (S C j).info r) z) (λ n. w j a (omega arith) ∙ sym e) (same? j (suc k)),
      )

  -- the last hold of a record was an H1 of the change that its info names
  pub took_came : (k r : ℕ) → ((H k).took r ≡ 0) ⊎ ((h : ℕ) × (h < k) × ((H k).took r ≡ suc h) × Sets h ((S C k).info r) r)
  unfolding history
  took_came zero r = inl refl
  took_came (suc k) r = go (took_back (S C k) (H k) (C.who k) (C.reads k) (C.act k) r) (took_came k r)
    where
      info_is : (S C (suc k)).info r ≡ (apply (C.act k) (S C k)).info r
      info_is = ap (λ (s : Shared). s.info r) (turn C k).shared

      go : (((note (C.who k) (C.act k) (C.reads k) (S C k) (H k)).took r ≡ (H k).took r) × ((apply (C.act k) (S C k)).info r ≡ (S C k).info r))
          ⊎ Took (S C k) (H k) (C.who k) (C.reads k) (C.act k) r
          → ((H k).took r ≡ 0) ⊎ ((h : ℕ) × (h < k) × ((H k).took r ≡ suc h) × Sets h ((S C k).info r) r)
          → ((H (suc k)).took r ≡ 0) ⊎ ((h : ℕ) × (h < suc k) × ((H (suc k)).took r ≡ suc h) × Sets h ((S C (suc k)).info r) r)
      go (inl (a, c)) (inl z) = inl (a ∙ z)
      go (inl (a, c)) (inr (h, l, e, B)) = inr (h, omega arith, a ∙ e, subst (λ x. Sets h x r) (sym (info_is ∙ c)) B)
      go (inr (x, i, e, q, a, c)) z =
          inr (k, omega arith, a ∙ ap suc (now_is C k), subst (λ y. Sets k y r) (sym (info_is ∙ c)) (hold_sets k x i r e q (info_is ∙ c)))

  -- an effect on a record is at most the last one
  eff_up : (r j k : ℕ) → j ≤ k → (H j).eff r ≤ (H k).eff r
  unfolding history
  eff_up r j zero h = let e : j ≡ 0 = omega arith in rw e (le_refl _)
  eff_up r j (suc k) h = ⊎_elim (λ (e : j ≡ suc k). rw e (le_refl _))
      (λ l. let z = eff_grows (S C k) (H k) (C.who k) (C.reads k) (C.act k) r ((fine C k).past_law r).1 in omega (arith, z, eff_up r j k l))
      (le_split j k h)

  pub eff_at : (u j k : ℕ) → j < k → Writes j u → (i : ℕ) → i < ((S C j).terms u).n → j < (H k).eff (((S C j).terms u).rec i)
  unfolding history note
  eff_at u j k h e i l = let c = (S C j).terms u in
      let z : (H (suc j)).eff (c.rec i) ≡ suc (H j).now = rw e hit in omega (arith, z, now_is C j, eff_up (c.rec i) (suc j) k h)
    where
      hit : put_all ((S C j).terms u).n ((S C j).terms u).rec (suc (H j).now) (H j).eff (((S C j).terms u).rec i) ≡ suc (H j).now
      hit = at_all (λ y. y ≡ suc (H j).now) ((S C j).terms u).n ((S C j).terms u).rec _ (H j).eff (((S C j).terms u).rec i)
          (λ i l e. refl) (λ n. absurd (n i l refl))
