-- Tests that the prover computes, each with what it shows.
use mathlib.Core.Path.{◌≡◌, refl, sym, ◌∙◌}
use mathlib.Core.Logic.{◌≢◌}
use mathlib.Core.Bool.{Bool, true, false, true≢false, false≢true}
use mathlib.Core.List.{List, [], ◌∷◌}
use lib.Dec.{eqb}
use borrow.Author.Tests.{eqb-true}
use Rattle.rules.specs.Words.{Cell, Link, Refusal, Answer, Refused}
use Rattle.table.specs.Table.{pick, same_cell}
use Rattle.rules.specs.Claim.{both}
use Rattle.rules.proofs.Exact.{both_is}
use Rattle.keeps.proofs.Refused.{is_refusal}
use Rattle.clauses.proofs.SameCell.{same_eq, eq_same}

pub not_refused : (a : Answer) → is_refusal a ≡ false → (why : Refusal) → a ≢ Refused why
not_refused a h why e = true≢false (rw e at h)

pub implied : (b x : Bool) → b ≡ true → pick b x true ≡ true → x ≡ true
implied true x e h = h
implied false x e h = absurd (false≢true e)

pub not_same : (a b : Cell) → same_cell a b ≡ false → a ≢ b
not_same a b h e = true≢false (sym (eq_same a b e) ∙ h)

-- lists of cells that are the same are equal
unfoldable pub same_list : List Cell → List Cell → Bool
same_list [] [] = true
same_list [] (y ∷ ys) = false
same_list (x ∷ xs) [] = false
same_list (x ∷ xs) (y ∷ ys) = both (same_cell x y) (same_list xs ys)

pub same_list_lem : (a b : List Cell) → same_list a b ≡ true → a ≡ b
unfolding same_list
same_list_lem [] [] h = refl
same_list_lem [] (y ∷ ys) h = absurd (false≢true h)
same_list_lem (x ∷ xs) [] h = absurd (false≢true h)
same_list_lem (x ∷ xs) (y ∷ ys) h =
    let p = both_is (same_cell x y) (same_list xs ys) h in
    λ k. same_eq x y p.0 k ∷ same_list_lem xs ys p.1 k

-- both links are there, with the same info and cells
unfoldable pub same_link : Link → Link → Bool
same_link a b = both (both a.there b.there) (both (eqb a.info b.info) (same_list a.cells b.cells))

pub same_link_lem : (a b : Link) → same_link a b ≡ true → (a.there ≡ true) × (a ≡ b)
unfolding same_link
same_link_lem a b h =
    let p = both_is (both a.there b.there) (both (eqb a.info b.info) (same_list a.cells b.cells)) h in
    let there = both_is a.there b.there p.0 in
    let rest = both_is (eqb a.info b.info) (same_list a.cells b.cells) p.1 in (
      there.0,
      λ k. record {
        there = (there.0 ∙ sym there.1) k;
        info = eqb-true a.info b.info rest.0 k;
        cells = same_list_lem a.cells b.cells rest.1 k;
      },
    )
