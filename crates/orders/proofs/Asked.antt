-- Every call is refused, starts an operation of an idle task, or is a STEP of a busy one.
use Prim.Native.Nat.{ℕ}
use mathlib.Core.Path.{◌≡◌, refl, sym, ap, ◌∙◌}
use native.Mathlib.Omega.{arith}
use mathlib.Core.Bool.{Bool, true, false, not, true≢false}
use mathlib.Core.Logic.{◌⊎◌, inl, inr, ◌≢◌, ⊎_elim}
use Rattle.rules.specs.Words.{Machine, Call, Place, Idle, Check, Ok, Err, Refusal, Refused, Accepted, Out}
use Rattle.rules.specs.Words.{Ask, AskLlx, AskScx, AskVlx, AskRead, AskStep}
use Rattle.rules.specs.Places.{is_idle}
use Rattle.rules.specs.Refuse.{check, rules_of}
use Rattle.rules.specs.Next.{refused, started, accepted, answered, next}
use Rattle.clauses.proofs.Updates.{tf}
use Rattle.orders.specs.Demand.{before, said, place}
use Rattle.orders.proofs.Calls.{Passes, next_is, obeyed}
use Rattle.orders.proofs.Busy.{idle_or}
use Rattle.orders.proofs.Run.{Run}

module _ (m : Machine) (calls : ℕ → Call) (R : Run m calls) where
  abbrev M : ℕ → Machine
  M k = before next m calls k

  abbrev at : ℕ → Place
  at k = place next m calls k (calls k).task

  abbrev Turn : ℕ → Type 0
  Turn k = ((why : Refusal) × (said next m calls k ≡ Refused why))
      ⊎ ((((calls k).ask ≢ AskStep) × (said next m calls k ≡ Accepted) × (at k ≡ Idle)) ⊎ (((calls k).ask ≡ AskStep) × (at k ≢ Idle)))

  idle_is : (q : Place) → is_idle q ≡ true → q ≡ Idle
  idle_is q h = ⊎_elim (λ e. e) (λ b. tf h b) (idle_or q)

  pub is_a_turn : (k : ℕ) → Turn k
  unfolding next refused started
  is_a_turn k = go (check (rules_of (M k) (calls k))) refl
    where
      starts : (ask : Ask) → Passes (M k) (calls k) ask → ask ≢ AskStep → is_idle (at k) ≡ true → said next m calls k ≡ Accepted → Turn k
      starts ask P n i a = inr (inl ((λ e. n (sym P.asks ∙ e)), a, idle_is (at k) i))

      answer : (ask : Ask) → Passes (M k) (calls k) ask → said next m calls k ≡ (accepted (M k) (calls k).task ask (calls k).list).answer
      answer ask P = ap (λ (o : Out). o.answer) (next_is (M k) (calls k) ask P)

      asked : (ask : Ask) → Passes (M k) (calls k) ask → Turn k
      asked (AskLlx r) P = starts _ P (λ e. let z : ◌≡◌ {A = ℕ} 0 1 = cc in absurd (omega arith)) (obeyed _ _ _ P).1.0 (answer _ P)
      asked (AskScx n r w f v) P = starts _ P (λ e. let z : ◌≡◌ {A = ℕ} 0 1 = cc in absurd (omega arith)) (obeyed _ _ _ P).1.0 (answer _ P)
      asked (AskVlx n) P = starts _ P (λ e. let z : ◌≡◌ {A = ℕ} 0 1 = cc in absurd (omega arith)) (obeyed _ _ _ P).1.0 (answer _ P)
      asked (AskRead r f) P = starts _ P (λ e. let z : ◌≡◌ {A = ℕ} 0 1 = cc in absurd (omega arith)) (obeyed _ _ _ P).1.0 (answer _ P)
      asked AskStep P = inr (inr (P.asks, λ e. busy (is_idle (at k)) (ap is_idle e) (obeyed _ _ _ P).1.0))
        where
          busy : (b : Bool) → b ≡ true → not b ≡ true → ⊥
          busy true h n = true≢false (sym n)
          busy false h n = true≢false (sym h)

      go : (c : Check) → check (rules_of (M k) (calls k)) ≡ c → Turn k
      go (Ok _) q = asked (calls k).ask (record { passed = q; asks = refl })
      go (Err why) q = inl (why, ap (λ c. (answered c (M k) (calls k)).answer) q)
