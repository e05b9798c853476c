-- What the writing leaves in the buffer: the bytes that it has passed, written over the old ones.
use Prim.Native.Nat.{ℕ, ◌+◌, ◌*◌, ◌/◌, ◌%◌, ◌<◌, ◌≤◌}
use native.Mathlib.Numerals.{add-one}
use native.Mathlib.Omega.{arith}
use mathlib.Core.Path.{◌≡◌, refl, sym, ap, ◌∙◌}
use mathlib.Core.List.{List, [], ◌∷◌, ◌++◌}
use lib.ListN.{get_or, length, take, drop, length-append}
use lib.Seq.{sets, sets-eq, take-suc, length-take-le}
use Rattle.std.proofs.Common.{append_assoc}
use Rattle.std.proofs.lemmas.List.{drop-drop}
use Rattle.text.proofs.Laws.{sets_append}
use Rattle.writer.specs.Write.{low_first, value_bytes}

-- bytes put over a part
pub part_is : (old bytes : List ℕ) (at : ℕ) → at + length bytes ≤ length old → take at old ++ (bytes ++ drop (length bytes) (drop at old)) ≡ sets old at bytes
part_is old bytes at l =
    rw (drop-drop (length bytes) at old) (sym (sets-eq bytes old at l ∙ append_assoc (take at old) bytes (drop (at + length bytes) old)))

value_bytes_append : (a b : List ℕ) → value_bytes (a ++ b) ≡ value_bytes a ++ value_bytes b
unfolding value_bytes
value_bytes_append [] b = refl
value_bytes_append (v ∷ a) b = ap (λ (l : List ℕ). v % 256 ∷ v / 256 % 256 ∷ l) (value_bytes_append a b)

pub length_value_bytes : (l : List ℕ) → length (value_bytes l) ≡ 2 * length l
unfolding value_bytes
length_value_bytes [] = refl
length_value_bytes (v ∷ l) = let h = length_value_bytes l in omega arith

one : (v : ℕ) → value_bytes (v ∷ []) ≡ low_first v
unfolding value_bytes
one v = refl

-- one value more
pub value_more : (old : List ℕ) (i : ℕ) (values : List ℕ) → i < length values
    → sets (sets old 0 (value_bytes (take i values))) (2 * i) (low_first (get_or values i 0)) ≡ sets old 0 (value_bytes (take (i + 1) values))
value_more old i values l =
    let e : 0 + length (value_bytes (take i values)) ≡ 2 * i = omega (arith, length_value_bytes (take i values), length-take-le i values (omega arith)) in
    let v = get_or values i 0 in
    rw
    (add-one i, take-suc values i 0 l, value_bytes_append (take i values) (v ∷ []), one v, sets_append (value_bytes (take i values)) (low_first v) old 0, e)
    refl

-- three texts one after the other, each where the one before ends
pub three : (old a b c : List ℕ) (i j : ℕ) → i ≡ length a → j ≡ i + length b → sets (sets (sets old 0 a) i b) j c ≡ sets old 0 (a ++ b ++ c)
three old a b c i j ei ej =
    let e : 0 + length a ≡ i = omega arith in
    let f : 0 + length (a ++ b) ≡ j = omega (arith, length-append a b) in
    rw (sets_append (a ++ b) c old 0, sets_append a b old 0, e, f) refl
