-- THE RUNS MARKED p, as rows of a single table: the calls, the answers and step numbers that document 01 states, marks and values at
-- the end. The claim over the table stands in proofs/Runs.antt.
use Rattle.std.specs.Prelude.{ℕ, zero, suc, Bool, true, false, List, [], ◌∷◌, ◌++◌, map, replicate}
use Rattle.rules.specs.Words.{Machine, Call}
use Rattle.table.specs.Table.{tabulate, record_at}
use Rattle.table.specs.Fresh.{fresh}
use Rattle.rules.specs.Next.{Said, after, said, llx, scx, vlx, stepping}

-- a call and what it answers; or k STEPs of a task, of which the last answers this and those before it 0
pub data Line : Type 0 where
  call : Call → ℕ → List ℕ → Line
  steps : ℕ → ℕ → ℕ → List ℕ → Line

-- what stands in a record at the end: its mark, its values and their stamps
abbrev pub Ended : Type 0
Ended = Bool × List ℕ × List ℕ

pub record Row : Type 0 where
  pub p : ℕ
  pub n : ℕ
  pub values : List ℕ
  pub lines : List Line
  pub ends : List Ended

abbrev pub calls_of : List Line → List Call
calls_of [] = []
calls_of (call e number values ∷ ls) = e ∷ calls_of ls
calls_of (steps t k number values ∷ ls) = replicate k (stepping t) ++ calls_of ls

-- k answers of which the last is x, the others 0
abbrev pub last_of : ℕ → Said → List Said
last_of zero x = []
last_of (suc zero) x = x ∷ []
last_of (suc (suc k)) x = (0, []) ∷ last_of (suc k) x

abbrev pub stated_in : List Line → List Said
stated_in [] = []
stated_in (call e number values ∷ ls) = (number, values) ∷ stated_in ls
stated_in (steps t k number values ∷ ls) = last_of k (number, values) ++ stated_in ls

-- what a row states, and what the machine does
abbrev pub stated : Row → List Said × List Ended
stated x = (stated_in x.lines, x.ends)

abbrev pub end_of : Machine → ℕ → Ended
end_of m r =
    ((record_at m r).mark, map (λ c. c.value) (record_at m r).cells, map (λ c. c.stamp) (record_at m r).cells)

unfoldable pub played : Row → List Said × List Ended
played x =
    let m = (fresh x.p x.n x.values).m in
    let calls = calls_of x.lines in
    (said m calls, tabulate x.n (λ r. end_of (after m calls) r))

-- THE ROWS. Tasks A and B, records 0 and 1, all values 5
abbrev pub A : ℕ
A = 0

abbrev pub B : ℕ
B = 1

abbrev pub fives : List ℕ
fives = replicate 4 5

abbrev pub seven_first : List ℕ
seven_first = 7 ∷ 5 ∷ 5 ∷ 5 ∷ []

-- the ends of a record: no cell was ever altered; field 0 was last altered by the change u, to 7
abbrev pub as_made : List ℕ → Ended
as_made values = (false, values, replicate 4 0)

abbrev pub first_by : ℕ → List ℕ
first_by u = u ∷ 0 ∷ 0 ∷ 0 ∷ []

abbrev pub seven_by : ℕ → Ended
seven_by u = (false, seven_first, first_by u)

abbrev pub on_two : List Line → List Ended → Row
on_two lines ends = record { p = 2; n = 2; values = replicate 8 5; lines = lines; ends = ends }

-- a task reads a record: LLX and nine STEPs, the last of which gives the snapshot
abbrev pub reads : ℕ → ℕ → List ℕ → List Line
reads t r values = call (llx t r) 0 [] ∷ steps t 9 1 values ∷ []

-- a task starts an SCX on <a> or <a, b>: R empty, place 0, field 0, new value 7
abbrev pub starts_on : ℕ → ℕ → Call
starts_on t a = scx t 1 (a ∷ 0 ∷ 0 ∷ 0 ∷ []) 0 0 0 7

abbrev pub starts_on_two : ℕ → ℕ → ℕ → Call
starts_on_two t a b = scx t 2 (a ∷ b ∷ 0 ∷ 0 ∷ []) 0 0 0 7

-- the example's 15 events
abbrev pub example : List ℕ → List Line
example values = reads A 0 values ++ (call (starts_on A 0) 0 [] ∷ steps A 4 4 [] ∷ [])

abbrev pub whole_example : List ℕ
whole_example = 5 ∷ 0 ∷ 0 ∷ 0 ∷ []

unfoldable pub runs : List Row
runs =
    -- 1. The example's 15 events: the whole example, and on the runs' own table
    record { p = 1; n = 1; values = whole_example; lines = example whole_example; ends = (false, 7 ∷ 0 ∷ 0 ∷ 0 ∷ [], first_by 1) ∷ [] }
    ∷ on_two (example fives) (seven_by 1 ∷ as_made fives ∷ [])
    -- 2. Both read 0, both start SCX on it, A steps once: B gets no on its 4th step, A yes on its 4th
    ∷ on_two
    (reads A 0 fives
    ++ reads B 0 fives
    ++ (call (starts_on A 0) 0 []
    ∷ call (starts_on B 0) 0 []
    ∷ steps A 1 0 []
    ∷ steps B 4 5 []
    ∷ steps A 3 4 []
    ∷ []))
    (seven_by 1 ∷ as_made fives ∷ [])
    -- 3. A reads 0 and 1, B reads 0. A starts SCX on <1, 0>, B on <0>. B ends yes. A gets no on its 5th step. LLX of 1 then takes 9
    --    steps and gives a snapshot
    ∷ on_two
    (reads A 0 fives
    ++ reads A 1 fives
    ++ reads B 0 fives
    ++ (call (starts_on_two A 1 0) 0 [] ∷ call (starts_on B 0) 0 [] ∷ steps B 4 4 [] ∷ steps A 5 5 [] ∷ [])
    ++ reads A 1 fives)
    (seven_by 2 ∷ as_made fives ∷ [])
    -- 4. A holds 0 alone and stops, R empty: B's LLX of 0 helps and gives Fail on its 13th step; its next shows the new value. A then
    --    gets yes after three more steps and the field stays
    ∷ on_two
    (reads A 0 fives
    ++ (call (starts_on A 0) 0 [] ∷ steps A 1 0 [] ∷ call (llx B 0) 0 [] ∷ steps B 13 3 [] ∷ [])
    ++ reads B 0 seven_first
    ++ (steps A 3 4 [] ∷ []))
    (seven_by 1 ∷ as_made fives ∷ [])
    -- 5. A's list is <0, 1>, R empty, A stops after holding 0: B's LLX of 0 gives Fail on step 14. B reads 1 and ends an SCX on it. A
    --    then gets yes after three more steps, by H3
    ∷ on_two
    (reads A 0 fives
    ++ reads A 1 fives
    ++ (call (starts_on_two A 0 1) 0 [] ∷ steps A 1 0 [] ∷ call (llx B 0) 0 [] ∷ steps B 14 3 [] ∷ [])
    ++ reads B 1 fives
    ++ (call (starts_on B 1) 0 [] ∷ steps B 4 4 [] ∷ steps A 3 4 [] ∷ []))
    (seven_by 1 ∷ seven_by 2 ∷ [])
    -- 6. R names 0: after yes, LLX of 0 gives Finalized on step 5
    ∷ on_two
    (reads A 0 fives
    ++ (call (scx A 1 (0 ∷ 0 ∷ 0 ∷ 0 ∷ []) 1 0 0 7) 0 [] ∷ steps A 5 4 [] ∷ call (llx B 0) 0 [] ∷ steps B 5 2 [] ∷ []))
    ((true, seven_first, first_by 1) ∷ as_made fives ∷ [])
    -- 7. A reads 0; B writes 5 over 5; A's VLX gives no; A's SCX on 0 gets 18
    ∷ on_two
    (reads A 0 fives
    ++ reads B 0 fives
    ++ (call (scx B 1 (0 ∷ 0 ∷ 0 ∷ 0 ∷ []) 0 0 0 5) 0 []
    ∷ steps B 4 4 []
    ∷ call (vlx A 1 (0 ∷ 0 ∷ 0 ∷ 0 ∷ [])) 0 []
    ∷ steps A 1 5 []
    ∷ call (starts_on A 0) 18 []
    ∷ []))
    ((false, fives, first_by 1) ∷ as_made fives ∷ [])
    -- 8. VLX yes, then SCX accepted
    ∷ on_two
    (reads A 0 fives ++ (call (vlx A 1 (0 ∷ 0 ∷ 0 ∷ 0 ∷ [])) 0 [] ∷ steps A 1 4 [] ∷ call (starts_on A 0) 0 [] ∷ []))
    (as_made fives ∷ as_made fives ∷ [])
    -- 9. SCX at once after an SCX: 18
    ∷ on_two
    (reads A 0 fives ++ (call (starts_on A 0) 0 [] ∷ steps A 4 4 [] ∷ call (starts_on A 0) 18 [] ∷ []))
    (seven_by 1 ∷ as_made fives ∷ [])
    -- 10. List <0, 0>: 16
    ∷ on_two
    (call (starts_on_two A 0 0) 16 [] ∷ call (vlx A 2 (0 ∷ 0 ∷ 0 ∷ 0 ∷ [])) 16 [] ∷ [])
    (as_made fives ∷ as_made fives ∷ [])
    -- 11. n 0 and n 5: 14
    ∷ on_two
    (call (scx A 0 (0 ∷ 0 ∷ 0 ∷ 0 ∷ []) 0 0 0 7) 14 []
    ∷ call (scx A 5 (0 ∷ 1 ∷ 0 ∷ 1 ∷ []) 0 0 0 7) 14 []
    ∷ call (vlx A 0 (0 ∷ 0 ∷ 0 ∷ 0 ∷ [])) 14 []
    ∷ call (vlx A 5 (0 ∷ 1 ∷ 0 ∷ 1 ∷ [])) 14 []
    ∷ [])
    (as_made fives ∷ as_made fives ∷ [])
    ∷ []
