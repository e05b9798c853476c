-- One frame law for each part of the state: what an act of any task leaves as it was, or never takes back.
use Prim.Native.Nat.{ℕ, suc}
use mathlib.Core.Path.{◌≡◌, refl, sym, ap, ◌∙◌, subst}
use mathlib.Core.Bool.{Bool, true, false}
use mathlib.Core.Logic.{◌⊎◌, inl, inr, ◌≢◌, ⊎_elim}
use mathlib.Core.List.{List}
use native.Mathlib.Omega.{arith}
use Rattle.clauses.proofs.Updates.{upd, upd_hit, upd_miss, at, same?, tf, at_all}
use Rattle.rules.specs.Words.{Cell, InProgress}
use Rattle.clauses.proofs.Memory.{Shared, apply}
use Rattle.clauses.proofs.Memory.{Act, nop, hold, abort, freeze, close, write, commit, make}
use Rattle.clauses.proofs.History.{Ghost, Reading, note}
use Rattle.clauses.proofs.Clauses.{Final, Snap, Anchor, Off, Guard}
use Rattle.clauses.proofs.Rights.{st?, lost_frozen, lost_hap, lost_committed, hold_going, write_going, write_holds}

module _ (S : Shared) (G : Ghost) (t : ℕ) (k : Reading) where
  -- what a change wrote down
  pub same_terms : (b : Act) (u : ℕ) → Off b u → (apply b S).terms u ≡ S.terms u
  unfolding apply
  same_terms nop u o = refl
  same_terms (hold x i) u o = refl
  same_terms (abort x) u o = refl
  same_terms (freeze x) u o = refl
  same_terms (close x i) u o = refl
  same_terms (write x) u o = refl
  same_terms (commit x) u o = refl
  same_terms (make x c) u o = upd_miss S.terms x c o

  pub same_since : (b : Act) (u : ℕ) → Off b u → (note t b k S G).since u ≡ G.since u
  unfolding note
  same_since nop u o = refl
  same_since (hold x i) u o = refl
  same_since (abort x) u o = refl
  same_since (freeze x) u o = refl
  same_since (close x i) u o = refl
  same_since (write x) u o = refl
  same_since (commit x) u o = refl
  same_since (make x c) u o = upd_miss G.since x _ o

  -- marks, allFrozen, what has happened and what was held stay
  pub stay_mark : (b : Act) (r : ℕ) → S.mark r ≡ true → (apply b S).mark r ≡ true
  unfolding apply
  stay_mark nop r h = h
  stay_mark (hold x i) r h = h
  stay_mark (abort x) r h = h
  stay_mark (freeze x) r h = h
  stay_mark (close x i) r h = at (λ z. z ≡ true) S.mark _ _ r (λ e. refl) (λ n. h)
  stay_mark (write x) r h = h
  stay_mark (commit x) r h = h
  stay_mark (make x c) r h = h

  pub stay_frozen : (b : Act) (u : ℕ) → Off b u → S.frozen u ≡ true → (apply b S).frozen u ≡ true
  unfolding apply
  stay_frozen nop u o h = h
  stay_frozen (hold x i) u o h = h
  stay_frozen (abort x) u o h = h
  stay_frozen (freeze x) u o h = at (λ z. z ≡ true) S.frozen _ _ u (λ e. refl) (λ n. h)
  stay_frozen (close x i) u o h = h
  stay_frozen (write x) u o h = h
  stay_frozen (commit x) u o h = h
  stay_frozen (make x c) u o h = rw (upd_miss S.frozen x false o) h

  pub stay_hap : (b : Act) (u : ℕ) → Off b u → G.hap u ≡ true → (note t b k S G).hap u ≡ true
  unfolding note
  stay_hap nop u o h = h
  stay_hap (hold x i) u o h = h
  stay_hap (abort x) u o h = h
  stay_hap (freeze x) u o h = h
  stay_hap (close x i) u o h = h
  stay_hap (write x) u o h = at (λ z. z ≡ true) G.hap _ _ u (λ e. refl) (λ n. h)
  stay_hap (commit x) u o h = h
  stay_hap (make x c) u o h = rw (upd_miss G.hap x false o) h

  pub stay_held : (b : Act) (u i : ℕ) → Off b u → G.held u i ≡ true → (note t b k S G).held u i ≡ true
  unfolding note
  stay_held nop u j o h = h
  stay_held (hold x i) u j o h = at (λ (row : ℕ → Bool). row j ≡ true) G.held _ _ u
      (λ e. at (λ z. z ≡ true) (G.held x) _ _ j (λ q. refl) (λ n. rw (← e) h)) (λ n. h)
  stay_held (abort x) u j o h = h
  stay_held (freeze x) u j o h = h
  stay_held (close x i) u j o h = h
  stay_held (write x) u j o h = h
  stay_held (commit x) u j o h = h
  stay_held (make x c) u j o h = rw (upd_miss G.held x (λ i. false) o) h

  -- the state of an ended change stays
  pub stay_state : (b : Act) → Guard S G t b → (a : ℕ) → Off b a → S.state a ≢ InProgress → (apply b S).state a ≡ S.state a
  unfolding apply
  stay_state nop g a o h = refl
  stay_state (hold x i) g a o h = refl
  stay_state (abort x) g a o h = at (λ z. z ≡ S.state a) S.state _ _ a (λ e. ⊎_elim (λ q. absurd (h q))
      (⊎_elim (λ c. lost_committed S G x g.ok g.lost (rw e at c)) (λ q. sym q)) (st? (S.state a))) (λ n. refl)
  stay_state (freeze x) g a o h = refl
  stay_state (close x i) g a o h = refl
  stay_state (write x) g a o h = refl
  stay_state (commit x) g a o h = at (λ z. z ≡ S.state a) S.state _ _ a (λ e. ⊎_elim (λ q. absurd (h q))
      (⊎_elim (λ c. sym c) (λ q. lost_hap S G x g.ok (g.ok.aborted_law (rw e at q)) g.hap)) (st? (S.state a))) (λ n. refl)
  stay_state (make x c) g a o h = upd_miss S.state x _ o

  pub stay_ended : (b : Act) → Guard S G t b → (a : ℕ) → Off b a → S.state a ≢ InProgress → (apply b S).state a ≢ InProgress
  stay_ended b g a o h = rw (stay_state b g a o h) h

  pub stay_final : (b : Act) → Guard S G t b → (r a : ℕ) → Off b a → Final S r a → Final (apply b S) r a
  stay_final b g r a o h = rw (stay_state b g a o h.0, same_terms b a o) h

  -- an info kept for a comparison does not return
  pub no_return : (b : Act) → Guard S G t b → (r a : ℕ) → S.state a ≢ InProgress → (apply b S).info r ≡ a → S.info r ≡ a
  unfolding apply
  no_return nop g r a h e = e
  no_return (hold x i) g r a h e = at (λ z. z ≡ a → S.info r ≡ a) S.info _ _ r
      (λ q e. absurd (h (subst (λ z. S.state z ≡ InProgress) e (hold_going S G t x i g)))) (λ n e. e) e
  no_return (abort x) g r a h e = e
  no_return (freeze x) g r a h e = e
  no_return (close x i) g r a h e = e
  no_return (write x) g r a h e = e
  no_return (commit x) g r a h e = e
  no_return (make x c) g r a h e = e

  -- a record without a mark gets none while the change that its info names has ended
  pub stay_open : (b : Act) → Guard S G t b → (r : ℕ) → S.state (S.info r) ≢ InProgress → S.mark r ≡ false → (apply b S).mark r ≡ false
  unfolding apply
  stay_open nop g r h m = m
  stay_open (hold x i) g r h m = m
  stay_open (abort x) g r h m = m
  stay_open (freeze x) g r h m = m
  stay_open (close x i) g r h m = at (λ y. y ≡ false) S.mark _ _ r
      (λ e. let ended : S.state x ≢ InProgress =
      subst (λ a. S.state a ≢ InProgress) (ap S.info e ∙ g.ok.closed_law g.frozen i g.inside g.closes) h in
      ⊎_elim (λ q. absurd (ended q)) (⊎_elim (λ c. tf (ap S.mark e ∙ (g.ok.happened_law (g.ok.committed_law c)).1 i g.inside g.closes) m)
      (λ a. lost_frozen S G x g.ok (g.ok.aborted_law a) g.frozen)) (st? (S.state x))) (λ n. m)
  stay_open (write x) g r h m = m
  stay_open (commit x) g r h m = m
  stay_open (make x c) g r h m = m

  -- an info that is some change's is never the dummy's again
  pub stay_nonzero : (b : Act) → Guard S G t b → (r : ℕ) → S.info r ≢ 0 → (apply b S).info r ≢ 0
  unfolding apply
  stay_nonzero nop g r h = h
  stay_nonzero (hold x i) g r h = at (λ z. z ≢ 0) S.info _ _ r (λ e. g.nonzero) (λ n. h)
  stay_nonzero (abort x) g r h = h
  stay_nonzero (freeze x) g r h = h
  stay_nonzero (close x i) g r h = h
  stay_nonzero (write x) g r h = h
  stay_nonzero (commit x) g r h = h
  stay_nonzero (make x c) g r h = h

  -- while the info is one kept for a comparison, the cells stay and nobody takes effect on the record
  pub stay_cell : (b : Act) → Guard S G t b → (r a f : ℕ) → S.state a ≢ InProgress → S.info r ≡ a → (apply b S).cell r f ≡ S.cell r f
  unfolding apply
  stay_cell nop g r a f h e = refl
  stay_cell (hold x i) g r a f h e = refl
  stay_cell (abort x) g r a f h e = refl
  stay_cell (freeze x) g r a f h e = refl
  stay_cell (close x i) g r a f h e = refl
  stay_cell (write x) g r a f h e = at (λ (row : ℕ → Cell). row f ≡ S.cell r f) S.cell _ _ r
      (λ q. absurd (h (subst (λ z. S.state z ≡ InProgress)
      (sym (write_holds S G t x g (S.terms x).written g.ok.shape_law.1) ∙ sym (ap S.info q) ∙ e) (write_going S G t x g)))) (λ n. refl)
  stay_cell (commit x) g r a f h e = refl
  stay_cell (make x c) g r a f h e = refl

  pub stay_eff : (b : Act) → Guard S G t b → (r a : ℕ) → S.state a ≢ InProgress → S.info r ≡ a → (note t b k S G).eff r ≡ G.eff r
  unfolding note
  stay_eff nop g r a h e = refl
  stay_eff (hold x i) g r a h e = refl
  stay_eff (abort x) g r a h e = refl
  stay_eff (freeze x) g r a h e = refl
  stay_eff (close x i) g r a h e = refl
  stay_eff (write x) g r a h e = at_all (λ z. z ≡ G.eff r) (S.terms x).n (S.terms x).rec _ G.eff r
      (λ i l q. absurd (h (subst (λ z. S.state z ≡ InProgress)
      (sym (write_holds S G t x g i l) ∙ sym (ap S.info q) ∙ e) (write_going S G t x g)))) (λ n. refl)
  stay_eff (commit x) g r a h e = refl
  stay_eff (make x c) g r a h e = refl

  -- an H1 of x at place i sets the info of r
  abbrev pub Took : Act → ℕ → Type 0
  Took b r = (x i : ℕ) × (b ≡ hold x i) × ((S.terms x).rec i ≡ r) × ((note t b k S G).took r ≡ suc G.now) × ((apply b S).info r ≡ x)

  -- the last hold of a record: as it was, or now
  pub took_back : (b : Act) (r : ℕ) → (((note t b k S G).took r ≡ G.took r) × ((apply b S).info r ≡ S.info r)) ⊎ Took b r
  unfolding note apply
  took_back nop r = inl (refl, refl)
  took_back (hold x i) r = ⊎_elim (λ (e : r ≡ (S.terms x).rec i). inr (x, i, refl, sym e, upd_hit G.took _ _ e, upd_hit S.info _ _ e))
      (λ n. inl (upd_miss G.took _ _ n, upd_miss S.info _ _ n)) (same? r ((S.terms x).rec i))
  took_back (abort x) r = inl (refl, refl)
  took_back (freeze x) r = inl (refl, refl)
  took_back (close x i) r = inl (refl, refl)
  took_back (write x) r = inl (refl, refl)
  took_back (commit x) r = inl (refl, refl)
  took_back (make x c) r = inl (refl, refl)

  pub stay_took : (b : Act) → Guard S G t b → (r a : ℕ) → S.state a ≢ InProgress → (apply b S).info r ≡ a
      → (note t b k S G).took r ≡ G.took r
  unfolding note apply
  stay_took nop g r a h e = refl
  stay_took (hold x i) g r a h e = at (λ z. z ≡ a → upd G.took ((S.terms x).rec i) (suc G.now) r ≡ G.took r) S.info _ _ r
      (λ q e. absurd (h (subst (λ z. S.state z ≡ InProgress) e (hold_going S G t x i g)))) (λ n e. upd_miss G.took _ _ n) e
  stay_took (abort x) g r a h e = refl
  stay_took (freeze x) g r a h e = refl
  stay_took (close x i) g r a h e = refl
  stay_took (write x) g r a h e = refl
  stay_took (commit x) g r a h e = refl
  stay_took (make x c) g r a h e = refl

  pub now_suc : (b : Act) → (note t b k S G).now ≡ suc G.now
  unfolding note
  now_suc b = refl

  -- so anchors stay
  pub stay_anchor : (b : Act) → Guard S G t b → (r a e : ℕ) → Off b a → Anchor S G r a e → Anchor (apply b S) (note t b k S G) r a e
  stay_anchor b g r a e o A = record {
    final_law = stay_final b g r a o A.final_law;
    clear_law = λ i. let h : S.state a ≢ InProgress = A.final_law.0 in let j : S.info r ≡ a = no_return b g r a h i in
        rw (stay_took b g r a h i, stay_eff b g r a h j) (A.clear_law j);
    taken_law = λ n. ⊎_elim (λ (z : ((note t b k S G).took r ≡ G.took r) × ((apply b S).info r ≡ S.info r)). rw z.0
        (A.taken_law (λ q. n (z.1 ∙ q))))
        (λ (z : Took b r). omega (arith, z.4, A.past_law)) (took_back b r);
    past_law = omega (arith, A.past_law, now_suc b);
  }

  pub stay_snap : (b : Act) → Guard S G t b → (r a m : ℕ) (cs : List Cell) → S.state a ≢ InProgress → Snap S r a m cs
      → Snap (apply b S) r a m cs
  stay_snap b g r a m cs h s i f l = let j = no_return b g r a h i in stay_cell b g r a f h j ∙ s j f l
