-- A place in shape: it names a used change or none, and it stays in shape as long as that change keeps what it wrote down, no
-- number is given back and the links of a VLX stay.
use Prim.Native.Nat.{ℕ, ◌<◌, ◌≤◌, zero-le}
use mathlib.Core.Path.{◌≡◌}
use mathlib.Core.Bool.{Bool, true}
use mathlib.Core.List.{List}
use lib.ListN.{get_or}
use Rattle.rules.specs.Words.{Cell, Place, Idle, L1, L2, L3, L4, L5, L6, L7, L8, L9, L10, L11, H1, H2, H3, H4, H5, H6, H7, H8, Vlx, Read}
use Rattle.rules.specs.Places.{change_of}
use Rattle.rules.specs.Claim.{Says}
use Rattle.rules.specs.Shape.{place_fine}
use Rattle.rules.proofs.Exact.{stands}

module _ (used N n : ℕ) (R : List Bool) (linked : ℕ → Bool) (cs : List Cell) (l : List ℕ) where
  pub named : (q : Place) → Says used (place_fine N n R linked cs l q) → change_of q ≤ used
  named Idle h = zero-le
  named (L1 r) h = zero-le
  named (L2 r m1) h = zero-le
  named (L3 r m1 a) h = h.1
  named (L4 r m1 a s) h = h.1
  named (L5 r m1 a f) h = h.1.0
  named (L6 r m1 a) h = h.1.0
  named (L7 r m1 a) h = h.1
  named (L8 r m1 a) h = h.1
  named (L9 r) h = zero-le
  named (L10 r b) h = h.1
  named (L11 r) h = zero-le
  named (H1 u i after) h = h.1.1.0
  named (H2 u i after) h = h.1.1.0
  named (H3 u after) h = h.1.0
  named (H4 u after) h = h.1.0
  named (H5 u after) h = h.1.0
  named (H6 u i after) h = h.1.1.1.0
  named (H7 u after) h = h.1.0
  named (H8 u after) h = h.1.0
  named (Vlx k i) h = zero-le
  named (Read r f) h = zero-le

  pub relinked : (linked' : ℕ → Bool) → ((r : ℕ) → r < N → linked r ≡ true → linked' r ≡ true)
      → (q : Place) → Says used (place_fine N n R linked cs l q) → Says used (place_fine N n R linked' cs l q)
  relinked linked' k Idle h = h
  relinked linked' k (L1 r) h = h
  relinked linked' k (L2 r m1) h = h
  relinked linked' k (L3 r m1 a) h = h
  relinked linked' k (L4 r m1 a s) h = h
  relinked linked' k (L5 r m1 a f) h = h
  relinked linked' k (L6 r m1 a) h = h
  relinked linked' k (L7 r m1 a) h = h
  relinked linked' k (L8 r m1 a) h = h
  relinked linked' k (L9 r) h = h
  relinked linked' k (L10 r b) h = h
  relinked linked' k (L11 r) h = h
  relinked linked' k (H1 u i after) h = h
  relinked linked' k (H2 u i after) h = h
  relinked linked' k (H3 u after) h = h
  relinked linked' k (H4 u after) h = h
  relinked linked' k (H5 u after) h = h
  relinked linked' k (H6 u i after) h = h
  relinked linked' k (H7 u after) h = h
  relinked linked' k (H8 u after) h = h
  relinked linked' k (Vlx n i) h = (h.0, (h.1.0, λ j q. k (get_or l j 0) (h.1.0.1.0 j q) (h.1.1 j q)))
  relinked linked' k (Read r f) h = h

  pub stays : (later n' : ℕ) (R' : List Bool) (linked' : ℕ → Bool) → used ≤ later → n' ≡ n → R' ≡ R
      → ((r : ℕ) → r < N → linked r ≡ true → linked' r ≡ true)
      → (q : Place) → Says used (place_fine N n R linked cs l q) → Says later (place_fine N n' R' linked' cs l q)
  stays later n' R' linked' ul en er k q h =
      rw (en, er) (stands used later ul (place_fine N n R linked' cs l q) (relinked linked' k q h))
