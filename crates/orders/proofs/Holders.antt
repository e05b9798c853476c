-- Who holds a record: an info alters only when a change takes hold; where it is not 0, it is of the change that took hold last. A record
-- whose holders all have a verdict is held by nobody, and if none of them closed it, it is open.
use Prim.Native.Nat.{ℕ, suc, ◌<◌}
use mathlib.Core.Path.{◌≡◌, sym, ap, ◌∙◌, subst}
use mathlib.Core.Bool.{Bool, true, false}
use mathlib.Core.Logic.{◌⊎◌, inl, inr, ◌≢◌, ⊎_elim}
use native.Mathlib.Omega.{arith}
use Rattle.rules.specs.Words.{Record, InProgress, Machine, Call}
use Rattle.rules.specs.Next.{next}
use Rattle.clauses.proofs.Updates.{same?, leb_case, bool?}
use Rattle.clauses.proofs.Memory.{Terms, Act, hold, make}
use Rattle.clauses.proofs.Clauses.{Live, InR}
use Rattle.clauses.proofs.Rights.{ai, st?, lost_frozen}
use Rattle.clauses.proofs.Course.{Course, X, S, history, fine, Starts, not_taken, since_start}
use Rattle.clauses.proofs.Came.{Sets, sets_by, Since, info_came}
use Rattle.clauses.proofs.Closed.{Marked, marked_by}
use Rattle.clauses.proofs.Sentences.{happened}
use Rattle.orders.specs.Demand.{info, Change, Closes, During, Effect, Holds, Verdict}
use Rattle.orders.proofs.Run.{Run, course}
use Rattle.orders.proofs.Changes.{terms, makes, alone, during}
use Rattle.orders.proofs.Effects.{bit, is_in, effect}
use Rattle.orders.proofs.Verdicts.{ended, holds}

not_both : {u i x : ℕ} {c : Terms} {b : Act} → b ≡ hold u i → b ≡ make x c → ⊥
not_both p q = let z : ◌≡◌ {A = ℕ} 0 1 = cc in omega arith

module _ (m : Machine) (calls : ℕ → Call) (R : Run m calls) where
  abbrev C : Course
  C = course m calls R

  abbrev Ch : Type 0
  Ch = Change next m calls

  info_is : (k r : ℕ) → r < m.n → (S C k).info r ≡ info next m calls k r
  info_is k r l = ap (λ (x : Record). x.info) (is_in m calls R k r l)

  -- an info alters only when a change takes hold
  pub by_a_hold : (k r : ℕ) → r < m.n → (info next m calls (suc k) r ≡ info next m calls k r) ⊎ ((d : Ch) × Holds next m calls d k r)
  by_a_hold k r l = ⊎_elim (λ e. inl (sym (info_is (suc k) r l) ∙ e ∙ info_is k r l))
      (λ (B : (x : ℕ) × Sets C k x r). let (d, q, D) = holds m calls R k B.0 r l B.1 in inr (d, D)) (sets_by C k r)

  -- the change whose number it is took hold, and has its number still
  abbrev Holder : ℕ → ℕ → Type 0
  Holder k r = (d : Ch) × (h : ℕ) × (h < k) × (d.number ≡ (S C k).info r) × Holds next m calls d h r × During next m calls d k

  holder : (k r : ℕ) → r < m.n → ((S C k).info r ≡ 0) ⊎ Holder k r
  holder k r l = ⊎_elim (λ z. inl z) (λ n. go n (info_came C k r)) (same? ((S C k).info r) 0)
    where
      go : (S C k).info r ≢ 0 → Since C k r → ((S C k).info r ≡ 0) ⊎ Holder k r
      go n (inl z) = inl z
      go n (inr (h, a, B, w)) =
          let (d, q, D) = holds m calls R h ((S C k).info r) r l B in
          inr (
            d,
            h,
            a,
            q,
            D,
            during m calls R d k (omega (arith, D.during.later)) (λ i p b z. ⊎_elim
                (λ p'. ⊎_elim (λ (e : i ≡ h). not_both B.act (subst (λ i. C.act i ≡ make d.number z.0) e z.1))
                (λ o. not_taken C i ((S C k).info r) (n, inl (r, w i (omega arith) (omega arith))) (subst (λ u. Starts C i u) q z)) (same? i h))
                (λ p'. alone m calls R d h D.during i p p' z) (leb_case h i)),
          )

  module _ (s r : ℕ) (l : r < m.n)
      (done : (c : Ch) (j : ℕ) → j < s → Holds next m calls c j r → (i : ℕ) × (yes : Bool) × (i < s) × Verdict next m calls c i yes) where
    -- whoever holds it has ended
    finished : (d : Ch) (h : ℕ) → h < s → d.number ≡ (S C s).info r → (S C s).info r ≢ 0 → Holds next m calls d h r → During next m calls d s
        → (S C s).state ((S C s).info r) ≢ InProgress
    finished d h a q n B D =
        let (i, v, b, W) = done d h a B in
        subst (λ u. (S C s).state u ≢ InProgress) q (ended m calls R d i v W s b D ((λ z. n (sym q ∙ z)), inl (r, sym q)))

    pub nobody_holds : (S C s).state ((S C s).info r) ≢ InProgress
    nobody_holds = ⊎_elim zero_ended (λ n. ⊎_elim zero_ended
        (λ (x : Holder s r). let (d, h, a, q, B, D) = x in finished d h a q n B D) (holder s r l)) (same? ((S C s).info r) 0)
      where
        zero_ended : (S C s).info r ≡ 0 → (S C s).state ((S C s).info r) ≢ InProgress
        zero_ended z = λ e. ai (ap (S C s).state z ∙ (fine C s).zero_law) e

    module _ (not_closed : (c : Ch) (j : ℕ) → j < s → Effect next m calls c j → Closes next m calls c r → ⊥) where
      -- a marked record would have a holder that closes it, is frozen and ended, and so has taken effect
      not-marked : Marked C r s → ⊥
      not-marked p = ⊎_elim (λ z. p.nonzero (sym p.info ∙ z)) by (holder s r l)
        where
          by : Holder s r → ⊥
          by (d, h, a, q, B, D) =
              let u = d.number in
              let e : u ≡ p.by = q ∙ p.info in
              let live : Live (X C s) u = ((λ z. p.nonzero (sym e ∙ z)), inl (r, sym q)) in
              let O = (fine C s).changes_law u live in
              let T = (since_start C d.start u (terms m calls R d) s (makes m calls R d) D.later (alone m calls R d s D) live).0 in
              let in_r : InR (S C s) u r = subst (λ u. InR (S C s) u r) (sym e) p.closes in
              let frozen : (S C s).frozen u ≡ true = subst (λ u. (S C s).frozen u ≡ true) (sym e) p.frozen in
              let few : in_r.0 < 4 = omega (arith, in_r.1, O.shape_law.0) in
              let closes : Closes next m calls d r = (
                in_r.0,
                subst (λ (c : Terms). in_r.0 < c.n) T in_r.1,
                bit d.closing in_r.0 few (subst (λ (c : Terms). c.closes in_r.0 ≡ true) T in_r.2),
                subst (λ (c : Terms). c.rec in_r.0 ≡ r) T in_r.3,
              ) in
              ⊎_elim (λ z. nobody_holds (ap (S C s).state (sym q) ∙ z))
              (⊎_elim (λ z.
              let (j, x, y, E) = happened C d.start u (terms m calls R d) (makes m calls R d) s D.later (alone m calls R d s D) (O.committed_law z) in
              not_closed d j y (effect m calls R d j (during m calls R d j x (λ i f g. alone m calls R d s D i f (omega arith))) E) closes)
              (λ z. lost_frozen (S C s) (history C s) u O (O.aborted_law z) frozen)) (st? ((S C s).state u))

      pub is_open : (S C s).mark r ≡ false
      is_open = ⊎_elim (λ h. absurd (not-marked (marked_by C R.unmarked s r h))) (λ h. h) (bool? ((S C s).mark r))
