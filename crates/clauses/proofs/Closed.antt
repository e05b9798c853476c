-- A record that a change has closed by its effect stays as it is: nobody takes hold of it, and nobody else can write there. And a record
-- that is marked is held by a frozen change that closes it.
use Prim.Native.Nat.{ℕ, zero, suc, ◌≤◌, ◌<◌}
use mathlib.Core.Path.{◌≡◌, refl, sym, ap, ◌∙◌, subst}
use mathlib.Core.Bool.{true, false}
use mathlib.Core.Logic.{◌⊎◌, inl, inr, ◌≢◌, ⊎_elim}
use native.Mathlib.Omega.{arith}
use Rattle.clauses.proofs.Updates.{upd_miss, same?, tf, le_split}
use Rattle.clauses.proofs.Memory.{Terms, Shared, apply}
use Rattle.clauses.proofs.Memory.{Act, nop, hold, abort, freeze, close, write, commit, make}
use Rattle.clauses.proofs.History.{Ghost, note}
use Rattle.clauses.proofs.Clauses.{InR, OkOf, Live}
use Rattle.clauses.proofs.Rights.{lost_frozen, not_hap, write_holds}
use Rattle.clauses.proofs.Frame.{same_terms, stay_frozen, stay_hap}
use Rattle.clauses.proofs.Turn.{stays_ok}
use Rattle.clauses.proofs.Course.{Course, X, S, history, fine, turn, guard, Unstarted, off_live, since_start}
use Rattle.clauses.proofs.Came.{Wrote, Writes, alters_by, hap_now}
use Rattle.clauses.proofs.Sentences.{write_guard, write_live}

-- a mark that was not there is set by an H6
marks_now : (S : Shared) (b : Act) (r : ℕ) → (apply b S).mark r ≡ true
    → (S.mark r ≡ true) ⊎ ((u i : ℕ) × (b ≡ close u i) × (r ≡ (S.terms u).rec i))
unfolding apply
marks_now S nop r h = inl h
marks_now S (hold x i) r h = inl h
marks_now S (abort x) r h = inl h
marks_now S (freeze x) r h = inl h
marks_now S (close x i) r h =
    ⊎_elim (λ (e : r ≡ (S.terms x).rec i). inr (x, i, refl, e))
    (λ n. inl (sym (upd_miss S.mark _ _ n) ∙ h)) (same? r ((S.terms x).rec i))
marks_now S (write x) r h = inl h
marks_now S (commit x) r h = inl h
marks_now S (make x c) r h = inl h

module _ (C : Course) where
  abbrev H : ℕ → Ghost
  H k = history C k

  -- after a call, a change that was live before it has its clauses and its terms
  module _ (u j : ℕ) (l : Live (X C j) u) where
    still_ok : OkOf (S C (suc j)) (H (suc j)) u
    unfolding history
    still_ok = stays_ok (X C j) (X C (suc j)) (H j) (fine C j) (C.who j) (C.act j) (C.reads j) (turn C j) u l

    still_terms : (S C (suc j)).terms u ≡ (S C j).terms u
    still_terms =
        ap (λ (s : Shared). s.terms u) (turn C j).shared
        ∙ same_terms (S C j) (H j) (C.who j) (C.reads j) (C.act j) u (off_live C j u l)

  -- r is the record of place i of u, which closes it and has happened, and its info is u
  pub record Closed (u i r j : ℕ) : Type 0 where
    pub nonzero : u ≢ 0
    pub info : (S C j).info r ≡ u
    pub hap : (H j).hap u ≡ true
    pub inside : i < ((S C j).terms u).n
    pub closes : ((S C j).terms u).closes i ≡ true
    pub rec : ((S C j).terms u).rec i ≡ r

  live : (u i r j : ℕ) → Closed u i r j → Live (X C j) u
  live u i r j p = (p.nonzero, inl (r, p.info))

  closed_step : (u i r j : ℕ) → Closed u i r j → Closed u i r (suc j)
  unfolding history
  closed_step u i r j p = record {
    nonzero = p.nonzero;
    hap = hap;
    inside = inside;
    closes = closes;
    rec = rec;
    info = subst (λ r. (S C (suc j)).info r ≡ u) rec (O.closed_law (O.happened_law hap).0 i inside closes);
  }
    where
      l : Live (X C j) u
      l = live u i r j p

      O : OkOf (S C (suc j)) (H (suc j)) u
      O = still_ok u j l

      same : (S C (suc j)).terms u ≡ (S C j).terms u
      same = still_terms u j l

      hap : (H (suc j)).hap u ≡ true
      hap = stay_hap (S C j) (H j) (C.who j) (C.reads j) (C.act j) u (off_live C j u l) p.hap

      inside : i < ((S C (suc j)).terms u).n
      inside = rw same p.inside

      closes : ((S C (suc j)).terms u).closes i ≡ true
      closes = rw same p.closes

      rec : ((S C (suc j)).terms u).rec i ≡ r
      rec = rw same p.rec

  closed_on : (u i r j k : ℕ) → j ≤ k → Closed u i r j → Closed u i r k
  closed_on u i r j zero h p = let e : j ≡ 0 = omega arith in subst (λ x. Closed u i r x) e p
  closed_on u i r j (suc k) h p =
      ⊎_elim (λ (e : j ≡ suc k). subst (λ x. Closed u i r x) e p) (λ l. closed_step u i r k (closed_on u i r j k l p)) (le_split j k h)

  marked : (u i r j : ℕ) → Closed u i r j → (S C j).mark r ≡ true
  marked u i r j p = subst (λ x. (S C j).mark x ≡ true) p.rec
      ((((fine C j).changes_law u (live u i r j p)).happened_law p.hap).1 i p.inside p.closes)

  -- its cells stand still, it is marked, and u holds it
  abbrev pub Stays : ℕ → ℕ → ℕ → Type 0
  Stays u j r = ((f : ℕ) → (S C (suc j)).cell r f ≡ (S C j).cell r f) × ((S C j).mark r ≡ true) × ((S C j).info r ≡ u)

  closed_still : (u i r j : ℕ) → Closed u i r j → Stays u j r
  closed_still u i r j p = (
    λ f. ⊎_elim (λ e. e) (λ (A : Wrote (S C j) (C.act j) r f). absurd (clash f A)) (alters_by C j r f),
    marked u i r j p,
    p.info,
  )
    where
      clash : (f : ℕ) → Wrote (S C j) (C.act j) r f → ⊥
      clash f (x, E, e, w) = let g = write_guard C j x E in
          let y : u ≡ x = sym p.info ∙ ap (S C j).info e ∙ write_holds (S C j) (H j) (C.who j) x g _ g.ok.shape_law.1 in
          tf (subst (λ y. (H j).hap y ≡ true) y p.hap) (not_hap (S C j) (H j) (C.who j) x g)

  -- FROM ITS EFFECT ON
  pub closed : (s u : ℕ) (c : Terms) → C.act s ≡ make u c → (k : ℕ) → s < k → Unstarted C u (suc s) k → Writes C k u
      → (i : ℕ) → i < c.n → c.closes i ≡ true → (j : ℕ) → k < j → Stays u j (c.rec i)
  unfolding history apply note
  closed s u c made k later alone E i h q j l = closed_still u i (c.rec i) j (closed_on u i (c.rec i) (suc k) j l now)
    where
      P : (S C k).terms u ≡ c
      P = (since_start C s u c k made later alone (write_live C k u E)).0

      h' : i < ((S C k).terms u).n
      h' = rw P h

      holds : (S C k).info (c.rec i) ≡ u
      holds = subst (λ (c : Terms). (S C k).info (c.rec i) ≡ u) P (write_holds (S C k) (H k) (C.who k) u (write_guard C k u E) i h')

      now : Closed u i (c.rec i) (suc k)
      now = record {
        nonzero = (write_live C k u E).0;
        hap = hap_now C k u E;
        info = rw ((turn C k).shared, E) holds;
        inside = rw ((turn C k).shared, E) h';
        closes = rw ((turn C k).shared, E, P) q;
        rec = rw ((turn C k).shared, E, P);
      }

  -- WHO SET A MARK: a marked record is held by a frozen change that closes it
  pub record Marked (r j : ℕ) : Type 0 where
    pub by : ℕ
    pub nonzero : by ≢ 0
    pub info : (S C j).info r ≡ by
    pub frozen : (S C j).frozen by ≡ true
    pub closes : InR (S C j) by r

  marked_step : (r j : ℕ) → Marked r j → Marked r (suc j)
  unfolding history
  marked_step r j p = record {
    by = u;
    nonzero = p.nonzero;
    info = subst (λ r. (S C (suc j)).info r ≡ u) in_r.3 (O.closed_law frozen in_r.0 in_r.1 in_r.2);
    frozen = frozen;
    closes = in_r;
  }
    where
      u : ℕ
      u = p.by

      l : Live (X C j) u
      l = (p.nonzero, inl (r, p.info))

      O : OkOf (S C (suc j)) (H (suc j)) u
      O = still_ok u j l

      same : (S C (suc j)).terms u ≡ (S C j).terms u
      same = still_terms u j l

      frozen : (S C (suc j)).frozen u ≡ true
      frozen =
          ap (λ (s : Shared). s.frozen u) (turn C j).shared
          ∙ stay_frozen (S C j) (H j) (C.who j) (C.reads j) (C.act j) u (off_live C j u l) p.frozen

      in_r : InR (S C (suc j)) u r
      in_r = subst (λ (c : Terms). (i : ℕ) × (i < c.n) × (c.closes i ≡ true) × (c.rec i ≡ r)) (sym same) p.closes

  closing : (r j u i : ℕ) → C.act j ≡ close u i → r ≡ ((S C j).terms u).rec i → Marked r j
  closing r j u i e q = let g = guard C j (close u i) e in record {
    by = u;
    nonzero = λ z. lost_frozen (S C j) (H j) u g.ok (g.ok.aborted_law (ap (S C j).state z ∙ (fine C j).zero_law)) g.frozen;
    info = ap (S C j).info q ∙ g.ok.closed_law g.frozen i g.inside g.closes;
    frozen = g.frozen;
    closes = (i, g.inside, g.closes, sym q);
  }

  pub marked_by : ((r : ℕ) → (S C 0).mark r ≡ false) → (j r : ℕ) → (S C j).mark r ≡ true → Marked r j
  marked_by none zero r h = tf h (none r)
  marked_by none (suc j) r h = marked_step r j (⊎_elim (λ m. marked_by none j r m)
      (λ (m : (u i : ℕ) × (C.act j ≡ close u i) × (r ≡ ((S C j).terms u).rec i)). closing r j m.0 m.1 m.2 m.3)
      (marks_now (S C j) (C.act j) r (ap (λ (s : Shared). s.mark r) (sym (turn C j).shared) ∙ h)))
