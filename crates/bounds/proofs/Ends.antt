-- "an operation answers on its last access": a start leaves its task busy, and it is so until a STEP of its own answers.
use Prim.Native.Nat.{ℕ, suc, ◌<◌}
use mathlib.Core.Path.{◌≡◌, refl, sym, ap, ◌∙◌, subst}
use mathlib.Core.Bool.{Bool, true, false, not, true≢false, false≢true}
use mathlib.Core.Logic.{◌⊎◌, inl, inr, ◌≢◌, ⊎_elim}
use native.Mathlib.Omega.{arith}
use native.Mathlib.Nat.{le_refl}
use Rattle.rules.specs.Words.{Machine, Call, Ask, AskLlx, AskScx, AskVlx, AskRead, AskStep, Place, Idle, L1, Vlx, Read}
use Rattle.rules.specs.Words.{Answer, Accepted, Snapshot, Finalized, Fail, Yes, No, Value, Refused}
use Rattle.rules.specs.Places.{is_idle}
use Rattle.rules.specs.Next.{next}
use Rattle.keeps.proofs.Refused.{is_accepted, Plain, plain}
use Rattle.clauses.proofs.Updates.{bool?, tf}
use Rattle.orders.specs.Demand.{before, said, place, Steps, Going, Starts}
use Rattle.orders.proofs.Calls.{Passes, obeyed}
use Rattle.orders.proofs.Busy.{idle_or, longer}
use Rattle.orders.proofs.Run.{Run, busy_inside}
use Rattle.orders.proofs.Changes.{start_passes}
use Rattle.orders.proofs.Working.{moved}
use Rattle.bounds.specs.Bounds.{is_step, step_of}
use Rattle.bounds.proofs.Along.{busy_is, begun, resumes, steps, still}

accepted_is : (a : Answer) → is_accepted a ≡ true → a ≡ Accepted
accepted_is Accepted h = refl
accepted_is (Snapshot cells) h = absurd (false≢true h)
accepted_is Finalized h = absurd (false≢true h)
accepted_is Fail h = absurd (false≢true h)
accepted_is Yes h = absurd (false≢true h)
accepted_is No h = absurd (false≢true h)
accepted_is (Value cell) h = absurd (false≢true h)
accepted_is (Refused why) h = absurd (false≢true h)

not_on : (b : Bool) → false ≡ not b → b ≡ true
not_on true h = refl
not_on false h = absurd (false≢true h)

not_off : (b : Bool) → true ≡ not b → b ≡ false
not_off true h = absurd (true≢false h)
not_off false h = refl

module _ (m : Machine) (calls : ℕ → Call) (R : Run m calls) where
  -- a start leaves its task at the first place of the operation
  pub begins : (s t : ℕ) (ask : Ask) → Starts next m calls s t ask → is_step ask ≡ false → Going next m calls s t (suc s)
  begins s t ask B h = go ask B h (start_passes m calls R s t ask B)
    where
      at : (q : Place) → is_idle q ≡ false → place next m calls (suc s) t ≡ q → Going next m calls s t (suc s)
      at q b e = record {
        later = le_refl _;
        busy = λ j a l i. let z : j ≡ suc s = omega arith in
            tf (ap is_idle (sym e ∙ subst (λ j. place next m calls j t ≡ Idle) z i)) b;
      }

      go : (ask : Ask) → Starts next m calls s t ask → is_step ask ≡ false → Passes (before next m calls s) (calls s) ask
          → Going next m calls s t (suc s)
      go (AskLlx r) B h P = at (L1 r) refl (begun m calls R s t _ B (L1 r) (obeyed _ _ _ P).0 (R.goes_to s (AskLlx r) P)).1
      go (AskScx n r w f x) B h P = at _ refl (begun m calls R s t _ B _ (obeyed _ _ _ P).0 (R.goes_to s (AskScx n r w f x) P)).1
      go (AskVlx n) B h P = at (Vlx n 0) refl (begun m calls R s t _ B (Vlx n 0) (obeyed _ _ _ P).0 (R.goes_to s (AskVlx n) P)).1
      go (AskRead r f) B h P = at (Read r f) refl (begun m calls R s t _ B (Read r f) (obeyed _ _ _ P).0 (R.goes_to s (AskRead r f) P)).1
      go AskStep B h P = absurd (true≢false h)

  module _ (s t k : ℕ) (g : Going next m calls s t k) where
    abbrev at : ℕ → Place
    at j = place next m calls j t

    abbrev On : Type 0
    On = Going next m calls s t (suc k) × (step_of t (calls k) ≡ true → said next m calls k ≡ Accepted)

    abbrev Over : Type 0
    Over = Steps next m calls k t × (said next m calls k ≢ Accepted) × (at (suc k) ≡ Idle)

    busy : at k ≢ Idle
    busy = g.busy k g.later (le_refl k)

    tl : t < m.p
    tl = busy_inside m calls R k t busy

    on : at (suc k) ≢ Idle → Going next m calls s t (suc k)
    on = longer next m calls s t k g

    stepped : Steps next m calls k t → On ⊎ Over
    stepped P =
        let (q, a) = moved m calls R k t P in
        let v = resumes m calls R t tl k Plain (λ s ch linked e w. plain (at k) s ch linked (busy_is (at k) busy)) in
        ⊎_elim
        (λ (i : at (suc k) ≡ Idle). inr (P, (λ e. tf (ap is_accepted (sym a ∙ e)) (not_off _ (sym (ap is_idle (sym q ∙ i)) ∙ v.ends _))), i))
        (λ (b : is_idle (at (suc k)) ≡ false). inl (
          on (λ i. tf (ap is_idle i) b),
          λ h. a ∙ accepted_is _ (not_on _ (sym (ap is_idle (sym q) ∙ b) ∙ v.ends _)),
        ))
        (idle_or (at (suc k)))

    pub ends : On ⊎ Over
    ends = ⊎_elim (λ (h : step_of t (calls k) ≡ true). stepped (steps m calls R t tl k busy h))
        (λ (h : step_of t (calls k) ≡ false). inl (on (λ i. busy (sym (still m calls R t tl k busy h) ∙ i)), λ y. tf y h))
        (bool? (step_of t (calls k)))
