-- RUN SHEET, document 01's section of that name: what the bytes of its events say. Past a list's end a byte counts as 0.
use Rattle.std.specs.Prelude.{ℕ, ◌+◌, ◌-◌, ◌*◌, Bool, true, false, List, [], ◌∷◌, get_or, drop, eqb, ltb}
use Rattle.table.specs.Table.{pick}
use Rattle.rules.specs.Words.{Call}
use Rattle.rules.specs.Claim.{both, all_below, test}
use Rattle.rules.specs.Shape.{within}
use Rattle.rules.specs.Next.{llx, scx, vlx, read, stepping}

-- "events, 12 bytes each"
abbrev pub event_size : ℕ
event_size = 12

abbrev pub byte : List ℕ → ℕ → ℕ
byte s i = get_or s i 0

-- two bytes, low byte first
abbrev pub pair : List ℕ → ℕ → ℕ
pair s i = byte s i + 256 * byte s (i + 1)

-- EVENT: "byte 0 kind (1 LLX, 2 SCX, 3 VLX, 4 READ, 5 STEP), 1 task, 2 n, 3 to 6 the list, 7 the set R, 8 written place, 9 field, 10 and
-- 11 new value. LLX and READ have the record in byte 3."
abbrev pub list_of : List ℕ → List ℕ
list_of e = byte e 3 ∷ byte e 4 ∷ byte e 5 ∷ byte e 6 ∷ []

-- a kind that is not 1 to 5 counts as a STEP here, and is refused below
unfoldable pub call_of : List ℕ → Call
call_of e =
    let kind = byte e 0 in
    let t = byte e 1 in
    pick (eqb kind 1) (llx t (byte e 3))
    (pick (eqb kind 2) (scx t (byte e 2) (list_of e) (byte e 7) (byte e 8) (byte e 9) (pair e 10))
    (pick (eqb kind 3) (vlx t (byte e 2) (list_of e))
    (pick (eqb kind 4) (read t (byte e 3) (byte e 9)) (stepping t))))

-- byte k is one of the first n of the list, which stands in bytes 3 to 6
abbrev pub listed : ℕ → ℕ → Bool
listed n k = pick (ltb k 3) false (pick (ltb k 7) (ltb (k - 3) n) false)

-- whether an event of a kind, with a list of n, uses byte k: LLX 0, 1, 3; SCX 0, 1, 2, the first n of 3 to 6, and 7 to 11; VLX 0, 1, 2
-- and the first n of 3 to 6; READ 0, 1, 3, 9; STEP 0, 1
unfoldable pub uses : ℕ → ℕ → ℕ → Bool
uses kind n k =
    pick (ltb k 2) true
    (pick (eqb kind 1) (eqb k 3)
    (pick (eqb kind 2) (pick (eqb k 2) true (pick (ltb 6 k) true (listed n k)))
    (pick (eqb kind 3) (pick (eqb k 2) true (listed n k))
    (pick (eqb kind 4) (pick (eqb k 3) true (eqb k 9)) false))))

-- "an event's kind is not 1 to 5, or an unused byte not 0" is refusal 24
unfoldable pub event_fine : List ℕ → Bool
event_fine e = both (test 0 (within 5 (byte e 0))) (all_below event_size (λ k. pick (uses (byte e 0) (byte e 2) k) true (eqb (byte e k) 0)))

-- event i of the event bytes, and the call that it says
abbrev pub event_bytes : List ℕ → ℕ → List ℕ
event_bytes es i = drop (event_size * i) es

unfoldable pub event_at : List ℕ → ℕ → Call
event_at es i = call_of (event_bytes es i)

unfoldable pub events_fine : List ℕ → ℕ → Bool
events_fine es count = all_below count (λ i. event_fine (event_bytes es i))
