-- `resume::help::next_mark` meets its contract.
use Rattle.std.proofs.Common.{rules, arith, ◌≡◌, ◌≤◌, ◌<◌, ℕ, List, Bool, get_or, true, false, Some, None}
use Rattle.std.proofs.lemmas.Bool.Decides.{nat_tests}
use Rattle.std.proofs.lemmas.Iterator.{first_from_Range}
use borrow.Author.Tests.{lt-ltb}
use Rattle.rules.specs.Resume.{first_from}
use Rattle.resume.proofs.help.next_mark.Goals as goal

some_from : (r : List Bool) (i k : ℕ) → i ≤ k → k < 4 → get_or r k false ≡ true → ((j : ℕ) → i ≤ j → j < k → get_or r j false ≡ false) → first_from r i ≡ k
some_from r i k l u e h = grind (arith, nat_tests, h 0, h 1, h 2)

none_from : (r : List Bool) (i : ℕ) → ((k : ℕ) → i ≤ k → k < 4 → get_or r k false ≡ false) → first_from r i ≡ 4
none_from r i h = grind (arith, nat_tests, h 0, h 1, h 2, h 3)

pub returns-in-Some : goal.returns-in-Some
returns-in-Some c =
    let r = c.args.ch.r in
    let first = first_from_Range (record { start = c.args.i; end = 4 }) _ _ (Some c.in-Some.k) (λ k. get_or r k false ≡ true) (λ k. get_or r k false ≡ false) c.in-Some.ensures.ran (λ x q k. search rules) (λ x q k. search rules) in
    rw (some_from r c.args.i c.in-Some.k first.0 first.1 first.2 first.3, lt-ltb _ _ first.1)

pub returns-in-None : goal.returns-in-None
returns-in-None c =
    let r = c.args.ch.r in
    rw (none_from r c.args.i (first_from_Range (record { start = c.args.i; end = 4 }) _ _ None (λ k. get_or r k false ≡ true) (λ k. get_or r k false ≡ false) c.in-None.ensures.ran (λ x q k. search rules) (λ x q k. search rules)))
