-- A run with one SCX: any change that starts in it is that one, with its task, its number and its verdicts.
use Prim.Native.Nat.{ℕ, suc, ◌<◌}
use mathlib.Core.Path.{◌≡◌, sym, ap, subst, ◌∙◌}
use mathlib.Core.Bool.{Bool, true}
use lib.Dec.{eqb}
use borrow.Author.Tests.{eqb-true}
use Rattle.rules.specs.Words.{Own, H1, Machine, AskScx, Call, Out}
use Rattle.table.specs.Table.{pick, change_at}
use Rattle.rules.specs.Claim.{all_below}
use Rattle.rules.proofs.Exact.{all_is}
use Rattle.orders.specs.Demand.{Brings, before, place, Change, Verdict}
use Rattle.forged.specs.Places.{is_scx}
use Rattle.forged.proofs.Tests.{implied}

module _ (next : Machine → Call → Out) (m : Machine) (calls : ℕ → Call) where
  -- call j starts no SCX, or it is call k
  abbrev pub only : ℕ → ℕ → Bool
  only k j = pick (is_scx (calls j).ask) (eqb j k) true

module _ {next : Machine → Call → Out} {m : Machine} {calls : ℕ → Call} where
  pub only_start : (k n : ℕ) → all_below n (only next m calls k) ≡ true → (c : Change next m calls) → c.start < n → c.start ≡ k
  only_start k n h c l =
      eqb-true c.start k
      (implied (is_scx (calls c.start).ask) (eqb c.start k) (ap (λ x. is_scx x.ask) c.asks)
      (all_is n (only next m calls k) h c.start l))

  module _ (the c : Change next m calls) (n : ℕ) (one : all_below n (only next m calls the.start) ≡ true) (l : c.start < n) where
    same_start : c.start ≡ the.start
    same_start = only_start the.start n one c l

    pub same_call : calls the.start ≡ record { task = c.task; ask = AskScx c.n c.closing c.written c.field c.new; list = c.list }
    same_call = ap calls (sym same_start) ∙ c.asks

    same_task : c.task ≡ the.task
    same_task = ap (λ (e : Call). e.task) (sym same_call ∙ the.asks)

    same_number : c.number ≡ the.number
    same_number =
        let q : H1 the.number 0 Own ≡ H1 c.number 0 Own =
        sym the.takes ∙ subst (λ s. place next m calls (suc s) the.task ≡ H1 c.number 0 Own) same_start
        (subst (λ t. place next m calls (suc c.start) t ≡ H1 c.number 0 Own) same_task c.takes) in
        cc

    pub same_verdict : (k : ℕ) (b : Bool) → Verdict next m calls the k b → Verdict next m calls c k b
    same_verdict k b v = record {
      during = record {
        later = subst (λ s. s < k) (sym same_start) v.during.later;
        alone = λ d a z e. v.during.alone d (subst (λ s. s < d.start) same_start a) z (e ∙ same_number);
      };
      by = v.by;
      after = v.after;
      steps = v.steps;
      brings = subst (λ u. Brings u v.after (change_at (before next m calls k) u).frozen (place next m calls k v.by) b)
          (sym same_number) v.brings;
      ends = v.ends;
    }
