-- ONE ANSWER, ONE STATE: what it is for a contract to leave one outcome. `Post` is the contract's own reading, as the checker makes
-- it of the `ensures` clauses: at some lifetimes and arguments, of a result and of the parameters at exit.
use Prim.Native.Nat.{ℕ}
use mathlib.Core.Path.{◌≡◌}
use mathlib.Core.List.{List}
use borrow.Fn.Kinds.{ParamKind, ResultKind, Dens, Out, res_t, ended_of}
use contract.Lifetimes.{Lfts}
use denote.Triple.Clauses.{AtExit}

abbrev pub Once : (n : ℕ) (ps : List (ParamKind n)) (r : ResultKind n) → Out n ps r → Type 0
Once n ps r Post =
    (κs : Lfts n) (a : Dens κs ps) (o p : (res_t r κs).Denot) (s t : AtExit (ended_of n ps r) κs) → Post κs a o s → Post κs a p t → o ≡ p

-- the same of what is lent by `&mut`: any two contents that the contract leaves there, found by `held`, are equal
abbrev pub OnceLent : {A : Type 0} (n : ℕ) (ps : List (ParamKind n)) (r : ResultKind n) → Out n ps r → ((κs : Lfts n) → AtExit (ended_of n ps r) κs → A) → Type 0
OnceLent n ps r Post held =
    (κs : Lfts n) (a : Dens κs ps) (o p : (res_t r κs).Denot) (s t : AtExit (ended_of n ps r) κs) → Post κs a o s → Post κs a p t
    → held κs s ≡ held κs t

-- `Once` of a generic function: at every choice g of what its parameters stand for
abbrev pub OnceAtEach : {G : Type 2} (n : ℕ) (ps : G → List (ParamKind n)) (r : G → ResultKind n) → ((g : G) → Out n (ps g) (r g)) → Type 2
OnceAtEach {G} n ps r Post = (g : G) → Once n (ps g) (r g) (Post g)
