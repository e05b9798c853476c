-- Every link that stands was stored by a linked read: the task's last one of that record. It has stood since, and the history tells
-- when that was.
use Prim.Native.Nat.{ℕ, zero, suc, ◌≤◌, ◌<◌}
use mathlib.Core.Path.{◌≡◌, sym, ap, ◌∙◌, subst}
use mathlib.Core.Bool.{true, true≢false}
use mathlib.Core.Logic.{◌⊎◌, inl, inr, ◌≢◌, ⊎_elim}
use native.Mathlib.Omega.{arith}
use native.Mathlib.Nat.{le_refl}
use Rattle.rules.specs.Words.{Link}
use Rattle.clauses.proofs.Updates.{same?}
use Rattle.clauses.proofs.History.{Ghost, read_by}
use Rattle.clauses.proofs.Turn.{Relinked, read_is, read_other, read_now}
use Rattle.clauses.proofs.Course.{Course, X, S, history, turn, now_is}

module _ (C : Course) where
  abbrev H : ℕ → Ghost
  H k = history C k

  -- call e ends a linked read of r by t
  pub record Ends (e t r : ℕ) : Type 0 where
    pub by : C.who e ≡ t
    pub ends : (C.reads e).ends ≡ true
    pub of : (C.reads e).at ≡ r

  -- t's link to r at k is that of the linked read that ended at e
  pub record ReadAt (k t r e : ℕ) : Type 0 where
    pub before : e < k
    pub time : (H k).read t r ≡ suc e
    pub ended : Ends e t r
    pub last : (j : ℕ) → e < j → j < k → Ends j t r → ⊥
    pub stands : (j : ℕ) → e < j → j ≤ k → (X C j).link t r ≡ (X C (suc e)).link t r
    pub there : ((X C (suc e)).link t r).there ≡ true

  read_suc : (k t r : ℕ) → (H (suc k)).read t r ≡ read_by (C.who k) (C.reads k) (suc (H k).now) (H k).read t r
  unfolding history
  read_suc k t r = ap (λ (R : ℕ → ℕ → ℕ). R t r) (read_is (C.who k) (C.act k) (C.reads k) (S C k) (H k))

  -- a call that leaves the link and does not read it again
  goes_on : (k t r e : ℕ) → (X C (suc k)).link t r ≡ (X C k).link t r → (t ≢ C.who k) ⊎ ((C.reads k).ends ≡ true → r ≢ (C.reads k).at)
      → ReadAt k t r e → ReadAt (suc k) t r e
  goes_on k t r e l n R = record {
    before = omega (arith, R.before);
    time = read_suc k t r ∙ read_other (C.who k) (C.reads k) (suc (H k).now) (H k).read t r n ∙ R.time;
    ended = R.ended;
    last = λ j a b E. ⊎_elim (λ (q : j ≡ k). again n (subst (λ j. Ends j t r) q E)) (λ m. R.last j a (omega arith) E) (same? j k);
    stands = λ j a b. ⊎_elim
        (λ (q : j ≡ suc k). ap (λ j. (X C j).link t r) q ∙ l ∙ R.stands k R.before (le_refl _))
        (λ m. R.stands j a (omega arith)) (same? j (suc k));
    there = R.there;
  }
    where
      again : (t ≢ C.who k) ⊎ ((C.reads k).ends ≡ true → r ≢ (C.reads k).at) → Ends k t r → ⊥
      again (inl n) E = n (sym E.by)
      again (inr n) E = n E.ends (sym E.of)

  -- a call that reads it now
  begins : (k t r : ℕ) → t ≡ C.who k → (C.reads k).ends ≡ true → r ≡ (C.reads k).at → ((X C (suc k)).link t r).there ≡ true → ReadAt (suc k) t r k
  begins k t r w e q h = record {
    before = omega arith;
    time = read_suc k t r ∙ rw (w, q) (read_now (C.who k) (C.reads k) (suc (H k).now) (H k).read e ∙ ap suc (now_is C k));
    ended = record { by = sym w; ends = e; of = sym q };
    last = λ j a b. absurd (omega arith);
    stands = λ j a b. let z : j ≡ suc k = omega arith in ap (λ j. (X C j).link t r) z;
    there = h;
  }

  -- EVERY LINK IS OF A LINKED READ
  pub read_at : (k t r : ℕ) → ((X C k).link t r).there ≡ true → (e : ℕ) × ReadAt k t r e
  read_at zero t r h = absurd (true≢false (sym h ∙ C.no_links t r))
  read_at (suc k) t r h = ⊎_elim
      (λ (w : t ≡ C.who k). own w (subst (λ s. Relinked (C.reads k) ((X C k).link s r) r ((X C (suc k)).link s r)) (sym w) ((turn C k).own_links r))
      (read_at k t r))
      (λ (n : t ≢ C.who k). let l = (turn C k).links t n r in
      let (e, R) = read_at k t r (ap (λ (l : Link). l.there) (sym l) ∙ h) in (e, goes_on k t r e l (inl n) R))
      (same? t (C.who k))
    where
      own : t ≡ C.who k → Relinked (C.reads k) ((X C k).link t r) r ((X C (suc k)).link t r)
          → (((X C k).link t r).there ≡ true → (e : ℕ) × ReadAt k t r e) → (e : ℕ) × ReadAt (suc k) t r e
      own w (inl z) ih = absurd (true≢false (sym h ∙ z))
      own w (inr (inl (l, n))) ih =
          let (e, R) = ih (ap (λ (l : Link). l.there) (sym l) ∙ h) in (e, goes_on k t r e l (inr n) R)
      own w (inr (inr (e, q))) ih = (k, begins k t r w e q h)
