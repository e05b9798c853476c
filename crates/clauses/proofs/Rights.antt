-- Who may set an info, end a change or write a cell, from the clauses before the act.
use Prim.Native.Nat.{ℕ, ◌<◌}
use mathlib.Core.Path.{◌≡◌, refl, ap, subst}
use mathlib.Core.Bool.{true, false}
use mathlib.Core.Logic.{◌⊎◌, inl, inr, ⊎_elim}
use native.Mathlib.Omega.{arith}
use Rattle.clauses.proofs.Updates.{same?, bool?, tf, leb_case}
use Rattle.rules.specs.Words.{Cell, State, InProgress, Committed, Aborted}
use Rattle.clauses.proofs.Memory.{Shared}
use Rattle.clauses.proofs.Memory.{hold, write}
use Rattle.clauses.proofs.History.{Ghost}
use Rattle.clauses.proofs.Clauses.{OkOf, LostOf, Guard}

pub ca : {A : Type 0} {s : State} → s ≡ Committed → s ≡ Aborted → A
ca p q = let z : ◌≡◌ {A = ℕ} 0 1 = cc in absurd (omega arith)

pub ci : {A : Type 0} {s : State} → s ≡ Committed → s ≡ InProgress → A
ci p q = let z : ◌≡◌ {A = ℕ} 0 1 = cc in absurd (omega arith)

pub ai : {A : Type 0} {s : State} → s ≡ Aborted → s ≡ InProgress → A
ai p q = let z : ◌≡◌ {A = ℕ} 0 1 = cc in absurd (omega arith)

pub st? : (s : State) → (s ≡ InProgress) ⊎ ((s ≡ Committed) ⊎ (s ≡ Aborted))
st? InProgress = inl refl
st? Committed = inr (inl refl)
st? Aborted = inr (inr refl)

-- a lost change is not frozen, so it never happened and is not committed
pub lost_frozen : {A : Type 0} (S : Shared) (G : Ghost) (u : ℕ) → OkOf S G u → LostOf S G u → S.frozen u ≡ true → A
lost_frozen S G u O (j, h, p, f, m) z = tf (O.frozen_law z j h) f

pub lost_hap : {A : Type 0} (S : Shared) (G : Ghost) (u : ℕ) → OkOf S G u → LostOf S G u → G.hap u ≡ true → A
lost_hap S G u O l h = lost_frozen S G u O l (O.happened_law h).0

pub lost_committed : {A : Type 0} (S : Shared) (G : Ghost) (u : ℕ) → OkOf S G u → LostOf S G u → S.state u ≡ Committed → A
lost_committed S G u O l c = lost_hap S G u O l (O.committed_law c)

-- whoever sets an info is InProgress, and had not held it
pub not_held : (S : Shared) (G : Ghost) (t u i : ℕ) → Guard S G t (hold u i) → G.held u i ≡ false
not_held S G t u i g = ⊎_elim (λ (e : G.held u i ≡ true). absurd (g.ok.gone_law i g.inside e g.at)) (λ f. f) (bool? (G.held u i))

pub hold_going : (S : Shared) (G : Ghost) (t u i : ℕ) → Guard S G t (hold u i) → S.state u ≡ InProgress
hold_going S G t u i g = ⊎_elim (λ e. e)
    (⊎_elim (λ c. tf (O.frozen_law (O.happened_law (O.committed_law c)).0 i g.inside) f) (λ a. lost (O.aborted_law a))) (st? (S.state u))
  where
    O : OkOf S G u
    O = g.ok

    f : G.held u i ≡ false
    f = not_held S G t u i g

    lost : LostOf S G u → S.state u ≡ InProgress
    lost (j, h, p, q, m) = ⊎_elim (λ (e : i ≡ j). absurd (m (subst (λ x. S.info ((S.terms u).rec x) ≡ (S.terms u).infos x) e g.at)))
        (λ n. ⊎_elim (λ l. tf (p i (omega arith)) f) (λ l. tf (g.prior j l) q) (leb_case i j)) (same? i j)

-- whoever writes a cell is InProgress, has not happened, and holds all its records
pub not_hap : (S : Shared) (G : Ghost) (t u : ℕ) → Guard S G t (write u) → G.hap u ≡ false
not_hap S G t u g = ⊎_elim (λ e. absurd (g.ok.old_gone_law e (ap (λ (c : Cell). c.stamp) g.is_old))) (λ f. f) (bool? (G.hap u))

pub write_going : (S : Shared) (G : Ghost) (t u : ℕ) → Guard S G t (write u) → S.state u ≡ InProgress
write_going S G t u g = ⊎_elim (λ e. e) (⊎_elim (λ c. tf (g.ok.committed_law c) (not_hap S G t u g))
    (λ a. lost_frozen S G u g.ok (g.ok.aborted_law a) g.frozen)) (st? (S.state u))

pub write_holds : (S : Shared) (G : Ghost) (t u : ℕ) → Guard S G t (write u) → (i : ℕ) → i < (S.terms u).n → S.info ((S.terms u).rec i) ≡ u
write_holds S G t u g i h = g.ok.holds_law i h (g.ok.frozen_law g.frozen i h) (write_going S G t u g)
