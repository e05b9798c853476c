-- ONE ANSWER of a function that takes or makes a struct which holds a reference: the checker makes no plain reading of its contract, so here
-- the reading stands beside. `said` has it be what the `ensures` clause says, no more and no less, in every model; `one` is what Once.antt
-- asks.
use mathlib.Core.Path.{◌≡◌, refl, sym, ◌∙◌}
use contract.Lifetimes.{Lfts}
use contract.Monad.{fact}
use denote.Triple.Entry.{Args, Res}
use denote.Triple.Clauses.{Ended, AtExit, Clauses}
use borrow.Fn.World.{World}
use Rattle.event.specs.Event.{event_at}
use Rattle.reader.specs.contracts.Reader.at as reader-at-contract
use Rattle.reader.specs.contracts.Reader.next_event as reader-next-event-contract
use Rattle.reader.specs.contracts.Reader.advanced as reader-advanced-contract
use Prim.Native.Nat.{◌+◌, ◌%◌}

pub record OnceSaid (E : Ended) (clauses : (w : World) → Clauses w.𝓤 E) : Type 2 where
  pub claim : (κs : Lfts E.signature.lifetimes) → Args E.signature κs → Res E.signature κs → AtExit E κs → Type 0
  pub said : (w : World) (κs : Lfts E.signature.lifetimes) (a : Args E.signature κs) (g : (clauses w κs a).ghost)
      (o : Res E.signature κs) (s : AtExit E κs) → (clauses w κs a).ensures g o s ≡ fact w.𝓤 (claim κs a o s)
  pub one : (κs : Lfts E.signature.lifetimes) (a : Args E.signature κs) (o p : Res E.signature κs) (s t : AtExit E κs)
      → claim κs a o s → claim κs a p t → o ≡ p

pub reader_at : OnceSaid reader-at-contract.ended (λ w. reader-at-contract.clauses w.𝓛 w.𝓜.mem w.𝓡.run)
reader_at =
    record {
      claim = λ κs a o s. (o.events ≡ a.0) × (o.next ≡ a.1.0);
      said = λ w κs a g o s. refl;
      one = λ κs a o p s t e f. λ k. record { events = (e.0 ∙ sym f.0) k; next = (e.1 ∙ sym f.1) k };
    }

pub reader_next_event : OnceSaid reader-next-event-contract.ended (λ w. reader-next-event-contract.clauses w.𝓛 w.𝓜.mem w.𝓡.run)
reader_next_event =
    record {
      claim = λ κs a o s. o ≡ event_at a.0.events.now a.0.next;
      said = λ w κs a g o s. refl;
      one = λ κs a o p s t e f. e ∙ sym f;
    }

pub reader_advanced : OnceSaid reader-advanced-contract.ended (λ w. reader-advanced-contract.clauses w.𝓛 w.𝓜.mem w.𝓡.run)
reader_advanced =
    record {
      claim = λ κs a o s. (o.events ≡ a.0.events) × (o.next ≡ (a.0.next + 1) % 65536);
      said = λ w κs a g o s. refl;
      one = λ κs a o p s t e f. λ k. record { events = (e.0 ∙ sym f.0) k; next = (e.1 ∙ sym f.1) k };
    }
