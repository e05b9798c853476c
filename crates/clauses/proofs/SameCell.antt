-- The test of H7: two cells pass it exactly if they are equal.
use mathlib.Core.Path.{◌≡◌, refl}
use mathlib.Core.Bool.{true}
use lib.Dec.{eqb}
use borrow.Author.Tests.{eqb-true, eq-eqb}
use Rattle.rules.specs.Words.{Cell}
use Rattle.table.specs.Table.{same_cell}
use Rattle.table.proofs.Fresh.{and_is}

pub same_eq : (c d : Cell) → same_cell c d ≡ true → c ≡ d
unfolding same_cell
same_eq c d e =
    let z = and_is (eqb c.value d.value) (eqb c.stamp d.stamp) e in
    λ k. record { value = eqb-true c.value d.value z.0 k; stamp = eqb-true c.stamp d.stamp z.1 k }

pub eq_same : (c d : Cell) → c ≡ d → same_cell c d ≡ true
unfolding same_cell
eq_same c d e = rw (e, eq-eqb d.value d.value refl, eq-eqb d.stamp d.stamp refl)
