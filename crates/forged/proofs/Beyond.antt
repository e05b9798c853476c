-- What demand 3 does not stop: a machine that refuses all calls meets it. It is demand 2's exact refusals that stop that one.
use Prim.Native.Nat.{ℕ}
use mathlib.Core.Bool.{true≢false}
use mathlib.Core.Logic.{inl}
use mathlib.Core.Path.{refl, ap}
use Rattle.rules.specs.Words.{Machine, Call, OutOfShape}
use Rattle.rules.specs.Next.{refused}
use Rattle.orders.specs.Demand.{before, Steps, Change, Demand3}
use Rattle.keeps.proofs.Refused.{is_refusal}
use Rattle.forged.specs.Broken.{refuses_all}

module _ (m : Machine) (calls : ℕ → Call) where
  no_steps : (k t : ℕ) → Steps refuses_all m calls k t → ⊥
  unfolding refuses_all refused
  no_steps k t s = s.not_refused OutOfShape refl

  no_change : Change refuses_all m calls → ⊥
  unfolding refuses_all refused
  no_change c = true≢false (ap is_refusal c.accepted)

  pub refuses_all_meets : Demand3 refuses_all m calls
  unfolding refuses_all refused before
  refuses_all_meets =
      record {
        is_a_turn = λ k. inl (OutOfShape, refl);
        is_a_change = λ k n r written field new e. inl (OutOfShape, refl);
        is_a_read = λ k cells h. absurd (true≢false (ap is_refusal h));
        once = λ c j k e f. absurd (no_change c);
        alters_its_field = λ c k e. absurd (no_change c);
        untouched = λ c k e i l. absurd (no_change c);
        closed = λ c k e r x j l. absurd (no_change c);
        by_an_effect = λ k r f l. inl refl;
        agree = λ c j k a b v w. absurd (no_change c);
        finishes = λ k t u after w. inl (w, λ s. absurd (no_steps k t s));
        not_taken = λ c t after w. no_change c;
        yes_after = λ c k v. absurd (no_change c);
        no_never = λ c k v j e. absurd (no_change c);
        no_because = λ c k v. absurd (no_change c);
      }
