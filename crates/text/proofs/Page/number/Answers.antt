-- `text::Page::number` meets its contract.
use Prim.Native.Nat.{◌/◌}
use native.Mathlib.Omega.{arith}
use mathlib.Core.Path.{◌≡◌}
use Rattle.text.specs.Text.{digits, lead}
use Rattle.text.proofs.Laws.{◌then◌}
use Rattle.text.proofs.Page.number.Goals as goal

pub returns-then-x-lt10 : goal.returns-then-x-lt10
unfolding digits lead
returns-then-x-lt10 c =
    let x = c.args.x in
    let a : x / 10000 ≡ 0 = omega arith in
    let b : x / 1000 ≡ 0 = omega arith in
    let d : x / 100 ≡ 0 = omega arith in
    let e : x / 10 ≡ 0 = omega arith in
    simp (a, b, d, e) c.last.ensures

pub returns : goal.returns
unfolding digits
returns c =
    c.lead.ensures
    then c.lead-2.ensures
    then c.lead-3.ensures
    then c.lead-4.ensures
    then c.last-2.ensures
