-- Values as bytes and back, low byte first.
use Prim.Native.Nat.{ℕ, zero, suc, ◌+◌, ◌*◌, ◌/◌, ◌%◌, ◌<◌}
use native.Mathlib.Omega.{arith}
use mathlib.Core.Path.{◌≡◌, refl, ap, ap₂, fun_ext, ◌∙◌}
use mathlib.Core.List.{List, [], ◌∷◌, ◌++◌}
use lib.ListN.{length}
use Rattle.table.specs.Table.{tabulate}
use Rattle.event.specs.Event.{pair}
use Rattle.sheet.specs.Layout.{numbers}
use Rattle.writer.specs.Write.{low_first, value_bytes}
use Rattle.back.specs.Back.{AllBelow}

-- two positions on, in two lists of which one has two more in front
pair_behind : (a b : ℕ) (l : List ℕ) (i : ℕ) → pair (a ∷ b ∷ l) (2 * suc i) ≡ pair l (2 * i)
pair_behind a b l i =
    let e : 2 * suc i ≡ suc (suc (2 * i)) = omega arith in
    let f : 2 * suc i + 1 ≡ suc (suc (2 * i + 1)) = omega arith in
    rw (f, e) refl

numbers_none : (l : List ℕ) → numbers 0 l ≡ []
unfolding numbers tabulate
numbers_none l = refl

numbers_behind : (a b : ℕ) (l : List ℕ) (k : ℕ) → numbers (suc k) (a ∷ b ∷ l) ≡ (a + 256 * b) ∷ numbers k l
unfolding numbers tabulate
numbers_behind a b l k = ap (λ (f : ℕ → ℕ). (a + 256 * b) ∷ tabulate k f) (fun_ext (λ i. pair_behind a b l i))

-- two bytes of a number below 65,536 are the number
pub two_bytes : (v : ℕ) → v < 65536 → v % 256 + 256 * (v / 256 % 256) ≡ v
two_bytes v l = omega arith

-- values, written and read
pub values_back : (l : List ℕ) → AllBelow 65536 l → numbers (length l) (value_bytes l) ≡ l
unfolding value_bytes
values_back [] below = numbers_none []
values_back (v ∷ l) below =
    numbers_behind (v % 256) (v / 256 % 256) (value_bytes l) (length l)
    ∙ ap₂ ◌∷◌ (two_bytes v (below 0 (omega arith))) (values_back l (λ i q. below (suc i) (omega arith)))

-- bytes, read and written
pub low_first_lem : (a b : ℕ) → a < 256 → b < 256 → low_first (a + 256 * b) ≡ a ∷ b ∷ []
low_first_lem a b la lb =
    let e : (a + 256 * b) % 256 ≡ a = omega arith in
    let d : (a + 256 * b) / 256 ≡ b = omega arith in
    let m : b % 256 ≡ b = omega arith in
    rw (e, d, m) refl

pub bytes_back : (k : ℕ) (l : List ℕ) → length l ≡ 2 * k → AllBelow 256 l → value_bytes (numbers k l) ≡ l
unfolding value_bytes
bytes_back zero [] e below = rw (numbers_none []) refl
bytes_back zero (a ∷ l) e below = absurd (omega arith)
bytes_back (suc k) [] e below = absurd (omega arith)
bytes_back (suc k) (a ∷ []) e below = absurd (omega arith)
bytes_back (suc k) (a ∷ b ∷ l) e below =
    rw (numbers_behind a b l k)
    (ap₂ ◌++◌ (low_first_lem a b (below 0 (omega arith)) (below 1 (omega arith)))
    (bytes_back k l (omega arith) (λ i q. below (suc (suc i)) (omega arith))))
