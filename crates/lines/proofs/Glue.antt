-- The values of four cells, one by one; how long a line can be; and the line of an answer, by the case it is.
use Prim.Native.Nat.{ℕ, ◌*◌, ◌≤◌, ◌<◌}
use native.Mathlib.Omega.{arith}
use mathlib.Core.Path.{◌≡◌, refl, sym, subst, ap, ap₂, ◌∙◌}
use mathlib.Core.Bool.{Bool, true, false}
use mathlib.Core.List.{List, [], ◌∷◌, map}
use lib.ListN.{length, get_or, length-map}
use Rattle.std.specs.Int.{from_bool}
use Rattle.std.specs.Fn.{Called, Mut}
use Rattle.std.specs.Array.{IsMapOf}
use Rattle.rules.specs.Words.{Cell, Record, Refusal, Answer, Accepted, Snapshot, Finalized, Fail, Yes, No, Value, Refused}
use Rattle.rules.specs.Answer.{refusal_number, number, values}
use Rattle.tally.specs.declared.Tally.{Tally}
use Rattle.text.specs.Text.{row, lettered}
use Rattle.text.specs.declared.Page.{Page}
use Rattle.text.specs.Wrote.{Wrote}
use Rattle.text.proofs.Most.{row_most, lettered_most}
use Rattle.lines.specs.Lines.{answer_line, bit, cells_line, record_line, tally_line, refusal_line}

pub four_values : {F : Type 0} {g : Mut F (Cell × Unit {0}) ℕ} {f : F} (cs : List Cell) (vs : List ℕ) → length cs ≡ 4
    → IsMapOf g f cs vs 4
    → ((p q : F) (c : Cell) (v : ℕ) → Called g p (c, tt) v q → v ≡ c.value)
    → get_or vs 0 0 ∷ get_or vs 1 0 ∷ get_or vs 2 0 ∷ get_or vs 3 0 ∷ [] ≡ map (λ c. c.value) cs
four_values (a ∷ b ∷ c ∷ d ∷ []) vs h m is =
    let at : (i : ℕ) → i < 4 → get_or vs i 0 ≡ (get_or (a ∷ b ∷ c ∷ d ∷ []) i a).value = λ i l. let x = m.at i a 0 l in is x.0 x.1 _ _ x.2 in
    ap₂ (λ v l. v ∷ l) (at 0 (omega arith))
    (ap₂ (λ v l. v ∷ l) (at 1 (omega arith)) (ap₂ (λ v l. v ∷ l) (at 2 (omega arith)) (ap (λ v. v ∷ []) (at 3 (omega arith)))))
four_values [] vs h m is = absurd (omega arith)
four_values (a ∷ []) vs h m is = absurd (omega arith)
four_values (a ∷ b ∷ []) vs h m is = absurd (omega arith)
four_values (a ∷ b ∷ c ∷ []) vs h m is = absurd (omega arith)
four_values (a ∷ b ∷ c ∷ d ∷ e ∷ l) vs h m is = absurd (omega arith)

row_within : (xs : List ℕ) (k : ℕ) → length xs ≤ k → length (row xs) ≤ 6 * k
row_within xs k h = omega (arith, row_most xs)

-- a letter, and six numbers of a record, three of the tally, one of a refused sheet
cells_most : (r : ℕ) (mark : Bool) (cells : List Cell) → length cells ≡ 4 → length (cells_line r mark cells) ≤ 38
cells_most r mark cells h =
    let xs = r ∷ bit mark ∷ map (λ c. c.value) cells in
    omega (arith, lettered_most 82 xs, length-map cells (λ (c : Cell). c.value))

pub tally_most : (t : Tally) → length (tally_line t) ≤ 20
unfolding tally_line
tally_most t = lettered_most 84 (t.made ∷ t.no ∷ t.fail ∷ [])

pub refusal_most : (why : Refusal) → length (refusal_line why) ≤ 8
unfolding refusal_line
refusal_most why = lettered_most 88 (refusal_number why ∷ [])

-- no values but those of a snapshot and of a value read
pub no_values : (answer : Answer) → ((cells : List Cell) → answer ≡ Snapshot cells → ⊥) → ((cell : Cell) → answer ≡ Value cell → ⊥) → [] ≡ values answer
no_values (Snapshot cells) s v = absurd (s cells refl)
no_values (Value cell) s v = absurd (v cell refl)
no_values Accepted s v = refl
no_values Finalized s v = refl
no_values Fail s v = refl
no_values Yes s v = refl
no_values No s v = refl
no_values (Refused why) s v = refl

-- an answer's line: its number was told, and its values, at most four, are those of the case it is
pub lined : {p q : Page} {is : Answer} {told no : ℕ} {vs : List ℕ} (k t : ℕ) (answer : Answer)
    → told ≡ t → no ≡ number answer → answer ≡ is → vs ≡ values is → length vs ≤ 4
    → Wrote p (row (k ∷ told ∷ no ∷ vs)) q
    → Wrote p (answer_line k t answer) q × (length (answer_line k t answer) ≤ 42)
unfolding answer_line
lined {p = p} {q = q} k t answer et en ea ev most wrote = (
  subst (λ (xs : List ℕ). Wrote p (row xs) q)
      (ap₂ (λ t l. k ∷ t ∷ l) et (ap₂ (λ no vs. no ∷ vs) en (ev ∙ ap (λ (a : Answer). values a) (sym ea)))) wrote,
  row_within (k ∷ t ∷ number answer ∷ values answer) 7 (rw (ea, ← ev) (omega (arith, most))),
)

-- a record's line: its number, its mark and its values were told
marked : (b : Bool) → from_bool b ≡ bit b
marked true = refl
marked false = refl

pub recorded : {p q : Page} {told mark : ℕ} {vs : List ℕ} (r : ℕ) (x : Record) → length x.cells ≡ 4
    → told ≡ r → mark ≡ from_bool x.mark → vs ≡ map (λ c. c.value) x.cells
    → Wrote p (lettered 82 (told ∷ mark ∷ vs)) q
    → Wrote p (record_line r x) q × (length (record_line r x) ≤ 38)
unfolding record_line
recorded {p = p} {q = q} r x four er em ev wrote = (
  subst (λ (xs : List ℕ). Wrote p (lettered 82 xs) q) (ap₂ (λ r l. r ∷ l) er (ap₂ (λ b vs. b ∷ vs) (em ∙ marked x.mark) ev)) wrote,
  cells_most r x.mark x.cells four,
)
