-- The shared words over the lists that hold them, and what one store does to each: it is an update where the store alters the word,
-- and nothing where it does not.
use Prim.Native.Nat.{ℕ, ◌<◌}
use mathlib.Core.Path.{◌≡◌, refl, ap}
use mathlib.Core.Bool.{Bool, true, false}
use mathlib.Core.List.{List}
use lib.ListN.{get_or, set, length}
use lib.Seq.{get_or-set_same, get_or-set_other}
use lib.Dec.{ltb}
use borrow.Author.Tests.{lt-ltb}
use Rattle.rules.specs.Words.{Record, Change}
use Rattle.table.specs.Table.{pick, no_record, no_change, cell_at, state_of}
use Rattle.keeps.proofs.Stores.{any}
use Rattle.clauses.proofs.Updates.{upd, at}
use Rattle.clauses.proofs.Memory.{Shared}
use Rattle.clauses.proofs.Steps.{terms_of}

-- entry r of a list, by the count of those that belong to the table
abbrev pub entry_in : {A : Type 0} → ℕ → List A → A → ℕ → A
entry_in n l d r = pick (ltb r n) (get_or l r d) d

abbrev pub shared_in : ℕ → List Record → List Change → Shared
shared_in n rs cs =
    record {
      terms = λ u. terms_of (get_or cs u no_change);
      state = λ u. state_of u (get_or cs u no_change);
      frozen = λ u. (get_or cs u no_change).frozen;
      info = λ r. (entry_in n rs no_record r).info;
      mark = λ r. (entry_in n rs no_record r).mark;
      cell = λ r f. cell_at (entry_in n rs no_record r).cells f;
    }

pub alike : (S T : Shared) → S.terms ≡ T.terms → S.state ≡ T.state → S.frozen ≡ T.frozen → S.info ≡ T.info → S.mark ≡ T.mark
    → S.cell ≡ T.cell → S ≡ T
alike S T et es ef ei em ec k = record { terms = et k; state = es k; frozen = ef k; info = ei k; mark = em k; cell = ec k }

pub entry_is : {A : Type 0} (n : ℕ) (l : List A) (d : A) (r : ℕ) → r < n → entry_in n l d r ≡ get_or l r d
entry_is n l d r h = rw (lt-ltb r n h) refl

-- what f shows of the entries after a store of x at i
module _ {A B : Type 0} (f : A → B) (l : List A) (i : ℕ) (x d : A) where
  pub shows : i < length l → (r : ℕ) → f (get_or (set l i x) r d) ≡ upd (λ r. f (get_or l r d)) i (f x) r
  shows h r = at (λ y. f (get_or (set l i x) r d) ≡ y) (λ r. f (get_or l r d)) i (f x) r
      (λ e. rw (e, get_or-set_same l i x d h) refl) (λ n. ap f (get_or-set_other l i r x d n))

  pub hides : f x ≡ f (get_or l i d) → (r : ℕ) → f (get_or (set l i x) r d) ≡ f (get_or l r d)
  hides h r = any (λ (y : A). f y ≡ f (get_or l r d)) l i x d r (λ e. rw e h) refl

  -- the same of those that belong to the table
  pub shows_in : (n : ℕ) → i < n → i < length l → (r : ℕ) → f (entry_in n (set l i x) d r) ≡ upd (λ r. f (entry_in n l d r)) i (f x) r
  shows_in n q h r = at (λ y. f (entry_in n (set l i x) d r) ≡ y) (λ r. f (entry_in n l d r)) i (f x) r
      (λ e. rw (e, lt-ltb i n q, get_or-set_same l i x d h) refl) (λ ne. rw (get_or-set_other l i r x d ne) refl)

  pub hides_in : (n : ℕ) → f x ≡ f (get_or l i d) → (r : ℕ) → f (entry_in n (set l i x) d r) ≡ f (entry_in n l d r)
  hides_in n h r = go (ltb r n)
    where
      go : (b : Bool) → f (pick b (get_or (set l i x) r d) d) ≡ f (pick b (get_or l r d) d)
      go true = hides h r
      go false = refl
