-- THE LAST LINE: "Last `T` with the changes made (SCX that answered yes), SCX that answered no, LLX that answered Fail."
-- An answer counts by the operation that its task was in before the call, so a VLX's yes or no counts nowhere.
use Rattle.std.specs.Prelude.{ℕ, zero, suc, ◌+◌, ◌%◌, ◌^◌, Bool, true, false, List, [], ◌∷◌, ◌++◌, Option, Some}
use Rattle.table.specs.Table.{pick}
use Rattle.table.specs.declared.Answer.{Answer}
use Rattle.table.specs.declared.Answer.TheVariants.{Fail, Yes, No}
use Rattle.table.specs.declared.Operation.{Operation}
use Rattle.table.specs.declared.Operation.TheVariants.{Llx, Scx}
use Rattle.tally.specs.declared.Tally.{Tally}
use Rattle.tally.specs.declared.Told.{Told}

-- one of four by the answer: yes, no, Fail, any other
abbrev pub by_answer : {A : Type 0} → A → A → A → A → Answer → A
by_answer y n f other Fail = f
by_answer y n f other Yes = y
by_answer y n f other No = n
by_answer y n f other rest = other

-- one of three by the operation: SCX, LLX, any other or none
abbrev pub by_operation : {A : Type 0} → A → A → A → Option Operation → A
by_operation scx llx other (Some Llx) = llx
by_operation scx llx other (Some Scx) = scx
by_operation scx llx other rest = other

abbrev pub is_yes : Answer → Bool
is_yes = by_answer true false false false

-- "SCX that answered yes"; "SCX that answered no"; "LLX that answered Fail"
abbrev pub is_made : Told → Bool
is_made x = by_operation (is_yes x.answer) false false x.operation

abbrev pub is_no : Told → Bool
is_no x = by_operation (by_answer false true false false x.answer) false false x.operation

abbrev pub is_fail : Told → Bool
is_fail x = by_operation false (by_answer false false true false x.answer) false x.operation

-- how many of a list
unfoldable pub counts : (Told → Bool) → List Told → ℕ
counts f [] = 0
counts f (x ∷ l) = pick (f x) 1 0 + counts f l

-- THE MEANING OF `T`: how many of the answers are each
unfoldable pub tally_of : List Told → Tally
tally_of l = record { made = counts is_made l; no = counts is_no l; fail = counts is_fail l }

-- one more where b holds; a number of the tally has 16 bits
abbrev pub one_more : Bool → ℕ → ℕ
one_more b n = pick b ((n + 1) % 2 ^ 16) n

-- what one answer does to the tally
unfoldable pub counted_of : Tally → Told → Tally
counted_of t x = record { made = one_more (is_made x) t.made; no = one_more (is_no x) t.no; fail = one_more (is_fail x) t.fail }

-- the first n of the answers f 0, f 1, ..
unfoldable pub first_of : (ℕ → Told) → ℕ → List Told
first_of f zero = []
first_of f (suc n) = first_of f n ++ (f n ∷ [])
