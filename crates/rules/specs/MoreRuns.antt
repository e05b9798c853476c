-- MORE RUNS, in the form of Runs.antt: sentences of document 01, mistakes that it names among them, that no run marked p shows.
use Rattle.std.specs.Prelude.{true, false, List, [], ◌∷◌, ◌++◌, replicate}
use Rattle.rules.specs.Next.{llx, scx, vlx, read, stepping}
use Rattle.rules.specs.Runs.{call, steps, Row, A, B, fives, seven_first, as_made, first_by, seven_by, on_two, reads, starts_on}

unfoldable pub more : List Row
more =
    -- "Comparing only values at H7: a late helper then writes twice": A holds 0 and stops, B helps, B writes 5 back, A's H7 comes late
    on_two
    (reads A 0 fives
    ++ (call (starts_on A 0) 0 [] ∷ steps A 1 0 [] ∷ call (llx B 0) 0 [] ∷ steps B 13 3 [] ∷ [])
    ++ reads B 0 seven_first
    ++ (call (scx B 1 (0 ∷ 0 ∷ 0 ∷ 0 ∷ []) 0 0 0 5) 0 [] ∷ steps B 4 4 [] ∷ steps A 3 4 [] ∷ []))
    ((false, fives, first_by 2) ∷ as_made fives ∷ [])
    -- "Dropping links on a refused call": 17 for a field, a written place and a set R, then accepted
    ∷ on_two
    (reads A 0 fives
    ++ (call (scx A 1 (0 ∷ 0 ∷ 0 ∷ 0 ∷ []) 0 0 4 7) 17 []
    ∷ call (scx A 1 (0 ∷ 0 ∷ 0 ∷ 0 ∷ []) 0 1 0 7) 17 []
    ∷ call (scx A 1 (0 ∷ 0 ∷ 0 ∷ 0 ∷ []) 2 0 0 7) 17 []
    ∷ call (scx A 1 (0 ∷ 0 ∷ 0 ∷ 0 ∷ []) 16 0 0 7) 17 []
    ∷ call (starts_on A 0) 0 []
    ∷ steps A 4 4 []
    ∷ []))
    (seven_by 1 ∷ as_made fives ∷ [])
    -- "Setting the mark after H7": A marks 0 and stops; B's LLX has m1 yes, helps, and gives Finalized on step 12
    ∷ on_two
    (reads A 0 fives
    ++ (call (scx A 1 (0 ∷ 0 ∷ 0 ∷ 0 ∷ []) 1 0 0 7) 0 [] ∷ steps A 3 0 [] ∷ call (llx B 0) 0 [] ∷ steps B 12 2 [] ∷ steps A 2 4 [] ∷ []))
    ((true, seven_first, first_by 1) ∷ as_made fives ∷ [])
    -- L9 to L11: B reads the info of A's first change, goes on when A holds 0 again, helps that at L11 and gives Fail
    ∷ on_two
    (reads A 0 fives
    ++ (call (starts_on A 0) 0 [] ∷ steps A 1 0 [] ∷ call (llx B 0) 0 [] ∷ steps B 4 0 [] ∷ steps A 3 4 [] ∷ [])
    ++ reads A 0 seven_first
    ++ (call (scx A 1 (0 ∷ 0 ∷ 0 ∷ 0 ∷ []) 0 0 0 9) 0 [] ∷ steps A 1 0 [] ∷ steps B 9 3 [] ∷ steps A 3 4 [] ∷ []))
    ((false, 9 ∷ 5 ∷ 5 ∷ 5 ∷ [], first_by 2) ∷ as_made fives ∷ [])
    -- "starting drops the task's link to r": A's second LLX of 0 gives Fail, and A's SCX gets 18
    ∷ on_two
    (reads A 0 fives
    ++ reads B 0 fives
    ++ (call (starts_on B 0) 0 [] ∷ steps B 1 0 [] ∷ call (llx A 0) 0 [] ∷ steps A 13 3 [] ∷ call (starts_on A 0) 18 [] ∷ []))
    (seven_by 1 ∷ as_made fives ∷ [])
    -- L6: B changes 0 while A reads the cells, so A goes L7, L8, L9, L10 and gives Fail on step 13
    ∷ on_two
    (reads B 0 fives
    ++ (call (starts_on B 0) 0 [] ∷ call (llx A 0) 0 [] ∷ steps A 4 0 [] ∷ steps B 4 4 [] ∷ steps A 9 3 [] ∷ []))
    (seven_by 1 ∷ as_made fives ∷ [])
    -- VLX of <0, 1>: the second differs, no on step 2, and both links are dropped
    ∷ on_two
    (reads A 0 fives
    ++ reads A 1 fives
    ++ reads B 1 fives
    ++ (call (starts_on B 1) 0 []
    ∷ steps B 4 4 []
    ∷ call (vlx A 2 (0 ∷ 1 ∷ 0 ∷ 0 ∷ [])) 0 []
    ∷ steps A 2 5 []
    ∷ call (starts_on A 0) 18 []
    ∷ []))
    (as_made fives ∷ seven_by 1 ∷ [])
    -- a written place that is not the first, a field that is not 0; READ; R names 1 alone: 2 + 1 + 3 steps
    ∷ record {
      p = 2;
      n = 2;
      values = 1 ∷ 2 ∷ 3 ∷ 4 ∷ 5 ∷ 6 ∷ 7 ∷ 8 ∷ [];
      lines =
          reads A 0 (1 ∷ 2 ∷ 3 ∷ 4 ∷ [])
          ++ reads A 1 (5 ∷ 6 ∷ 7 ∷ 8 ∷ [])
          ++ (call (scx A 2 (0 ∷ 1 ∷ 0 ∷ 0 ∷ []) 2 1 2 9) 0 []
          ∷ steps A 6 4 []
          ∷ call (read B 1 2) 0 []
          ∷ steps B 1 6 (9 ∷ [])
          ∷ call (read B 0 3) 0 []
          ∷ steps B 1 6 (4 ∷ [])
          ∷ []);
      ends = as_made (1 ∷ 2 ∷ 3 ∷ 4 ∷ []) ∷ (true, 5 ∷ 6 ∷ 9 ∷ 8 ∷ [], 0 ∷ 0 ∷ 1 ∷ 0 ∷ []) ∷ [];
    }
    -- L7 with m1 no: B read the mark before A marked; Committed, not marked when B began: Fail, not Finalized
    ∷ on_two
    (reads A 0 fives
    ++ (call (scx A 1 (0 ∷ 0 ∷ 0 ∷ 0 ∷ []) 1 0 0 7) 0 [] ∷ call (llx B 0) 0 [] ∷ steps B 1 0 [] ∷ steps A 5 4 [] ∷ steps B 6 3 [] ∷ []))
    ((true, seven_first, first_by 1) ∷ as_made fives ∷ [])
    -- L8 with m1 yes and the change committed since L7: on to L9, Fail on step 8
    ∷ on_two
    (reads A 0 fives
    ++ (call (scx A 1 (0 ∷ 0 ∷ 0 ∷ 0 ∷ []) 1 0 0 7) 0 []
    ∷ steps A 3 0 []
    ∷ call (llx B 0) 0 []
    ∷ steps B 5 0 []
    ∷ steps A 2 4 []
    ∷ steps B 3 3 []
    ∷ []))
    ((true, seven_first, first_by 1) ∷ as_made fives ∷ [])
    -- the order of the refusals
    ∷ on_two
    (call (llx 2 9) 11 []
    ∷ call (llx A 2) 15 []
    ∷ call (read A 2 4) 15 []
    ∷ call (read A 0 4) 17 []
    ∷ call (vlx A 2 (9 ∷ 9 ∷ 0 ∷ 0 ∷ [])) 15 []
    ∷ call (scx A 2 (9 ∷ 9 ∷ 0 ∷ 0 ∷ []) 0 0 0 7) 15 []
    ∷ call (scx A 2 (0 ∷ 0 ∷ 0 ∷ 0 ∷ []) 0 0 4 7) 16 []
    ∷ call (scx A 1 (0 ∷ 0 ∷ 0 ∷ 0 ∷ []) 0 0 4 7) 17 []
    ∷ call (stepping A) 13 []
    ∷ call (stepping 2) 11 []
    ∷ call (read A 0 0) 0 []
    ∷ call (llx A 9) 12 []
    ∷ call (read A 9 9) 12 []
    ∷ call (vlx A 0 (0 ∷ 0 ∷ 0 ∷ 0 ∷ [])) 12 []
    ∷ call (scx A 0 (0 ∷ 0 ∷ 0 ∷ 0 ∷ []) 0 0 9 7) 12 []
    ∷ steps A 1 6 (5 ∷ [])
    ∷ [])
    (as_made fives ∷ as_made fives ∷ [])
    -- no fresh table: 10 before all others
    ∷ record { p = 9; n = 1; values = fives; lines = call (llx 9 9) 10 [] ∷ call (stepping 0) 10 [] ∷ []; ends = as_made (replicate 4 0) ∷ [] }
    ∷ []
