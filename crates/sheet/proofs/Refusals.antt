-- A sheet's refusals: what each test says of the sheet's bytes, and that a sheet that passes all is read.
use Prim.Native.Nat.{ℕ, ◌+◌, ◌-◌, ◌*◌, ◌≤◌}
use native.Mathlib.Omega.{arith}
use mathlib.Core.Path.{◌≡◌, refl, ap, ◌∙◌}
use mathlib.Core.Bool.{Bool, true}
use mathlib.Core.List.{List}
use lib.ListN.{length, take, drop}
use borrow.Author.Tests.{eqb-true}
use Rattle.table.specs.Table.{tabulate}
use Rattle.rules.specs.Words.{Ok}
use Rattle.rules.specs.Claim.{test}
use Rattle.rules.proofs.Exact.{told}
use Rattle.event.specs.Event.{byte, events_fine}
use Rattle.sheet.specs.declared.Layout.{Layout}
use Rattle.sheet.specs.Layout.{trailer, distance, layout_by, layout_of, events_part, size_fine, tag_fine, counts_fine, distance_fine, sheet_of}

-- the four tests before the events, and the events'
abbrev pub size : List ℕ → Bool
size s = test 0 (size_fine (length s))

abbrev pub tag : List ℕ → Bool
tag s = test 0 (tag_fine (trailer s))

abbrev pub counts : Layout → Bool
counts at = test 0 (counts_fine at.p at.n at.count)

abbrev pub back : List ℕ → Layout → Bool
back s at = test 0 (distance_fine (distance (trailer s)) at.n at.count (length s - 8))

abbrev pub events : List ℕ → Layout → Bool
events s at = events_fine (events_part s at) at.count

module _ (s : List ℕ) where
  pub accepted : size s ≡ true → tag s ≡ true → counts (layout_of s) ≡ true → back s (layout_of s) ≡ true → events s (layout_of s) ≡ true
      → Ok (layout_of s) ≡ sheet_of s
  unfolding sheet_of
  accepted a b c d e = rw (a, b, c, d, e) refl

-- where the trailer's tests pass, the parts fill what lies before it
pub long_enough : (s : List ℕ) → size s ≡ true → 8 ≤ length s
long_enough s a = (told 0 (size_fine (length s)) a).0

pub filled : (s : List ℕ) → back s (layout_of s) ≡ true → (layout_of s).from + 8 * (layout_of s).n + 12 * (layout_of s).count ≡ length s - 8
unfolding layout_of
filled s a =
    let q = told 0 (distance_fine (distance (trailer s)) (layout_of s).n (layout_of s).count (length s - 8)) a in
    let e = eqb-true (distance (trailer s)) (8 * (layout_of s).n + 12 * (layout_of s).count) q.0 in
    let l = q.1 in
    omega arith

-- the same tests, on the trailer's eight bytes t and the layout that they say
module _ (s t : List ℕ) (et : t ≡ tabulate 8 (byte (trailer s))) where
  pub tag_is : test 0 (tag_fine t) ≡ tag s
  unfolding tabulate
  tag_is = rw et refl

  module _ (at : Layout) (ea : at ≡ layout_by t (length s)) where
    pub at_is : at ≡ layout_of s
    unfolding layout_of tabulate
    at_is = ea ∙ rw et refl

    pub counts_is : counts at ≡ counts (layout_of s)
    counts_is = ap counts at_is

    pub back_is : (d : ℕ) → d ≡ byte t 6 + 256 * byte t 7 → test 0 (distance_fine d at.n at.count (length s - 8)) ≡ back s (layout_of s)
    unfolding tabulate
    back_is d ed = rw (ed, et, at_is) refl

    pub filled_is : back s (layout_of s) ≡ true → at.from + 8 * at.n + 12 * at.count ≡ length s - 8
    filled_is a = rw at_is (filled s a)

    pub events_is : back s (layout_of s) ≡ true
        → events_fine (take (length s - 8 - (at.from + 8 * at.n)) (drop (at.from + 8 * at.n) s)) at.count ≡ events s (layout_of s)
    unfolding events_part
    events_is a =
        let e : length s - 8 - (at.from + 8 * at.n) ≡ 12 * at.count = let h = filled_is a in omega arith in
        rw e (ap (λ (x : Layout). events_fine (events_part s x) x.count) at_is)

-- by these the tests of the code are those of the sheet, and its parts lie inside it
pub ruleset tested = (tag_is, at_is, counts_is, back_is, events_is, filled_is, long_enough)
