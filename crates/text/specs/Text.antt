-- LINES, in ASCII: numbers in decimal with one space between them, and the end of the line after the last.
use Rattle.std.specs.Prelude.{ℕ, zero, suc, ◌+◌, ◌/◌, ◌%◌, List, [], ◌∷◌, ◌++◌, eqb, ltb, length, get_or}
use Rattle.table.specs.Table.{pick}

-- the last digit of x
abbrev pub last : ℕ → List ℕ
last x = (48 + x % 10) ∷ []

-- the last digit of x, and nothing for 0
unfoldable pub lead : ℕ → List ℕ
lead x = pick (eqb x 0) [] (last x)

-- x in decimal, for x below 100,000: its digits from the first that is not 0 on, and one digit for 0
unfoldable pub digits : ℕ → List ℕ
digits x = lead (x / 10000) ++ lead (x / 1000) ++ lead (x / 100) ++ lead (x / 10) ++ last x

-- f 0 ++ f 1 ++ .., n of them
unfoldable pub joined : (ℕ → List ℕ) → ℕ → List ℕ
joined f zero = []
joined f (suc n) = joined f n ++ f n

-- a number and what comes after it
abbrev pub word : ℕ → ℕ → List ℕ
word x b = digits x ++ (b ∷ [])

-- what comes after number i of n: a space, and the end of the line after the last
abbrev pub ended : ℕ → ℕ → ℕ
ended n i = pick (ltb (i + 1) n) 32 10

abbrev pub word_at : List ℕ → ℕ → List ℕ
word_at xs i = word (get_or xs i 0) (ended (length xs) i)

-- a line of numbers
abbrev pub row : List ℕ → List ℕ
row xs = joined (word_at xs) (length xs)

-- a letter and a line of numbers
abbrev pub lettered : ℕ → List ℕ → List ℕ
lettered letter xs = (letter ∷ []) ++ (32 ∷ []) ++ row xs
