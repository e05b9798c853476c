-- What a clause of a live change asks of every act: that it takes none of the numbers that the change keeps.
use Prim.Native.Nat.{ℕ, ◌<◌}
use Rattle.clauses.proofs.Memory.{Shared, apply}
use Rattle.clauses.proofs.Memory.{Act}
use Rattle.clauses.proofs.History.{Ghost, Reading, note}
use Rattle.clauses.proofs.Clauses.{Anchor, OkOf, Off, Guard}
use Rattle.clauses.proofs.Frame.{stay_anchor}

module _ (S : Shared) (G : Ghost) (t : ℕ) (k : Reading) where
  abbrev pub Spared : Act → ℕ → Type 0
  Spared b u = Off b u × ((i : ℕ) → i < (S.terms u).n → Off b ((S.terms u).infos i)) × Off b (S.terms u).old.stamp

  pub anchors : (b : Act) → Guard S G t b → (u : ℕ) → OkOf S G u → Spared b u → (i : ℕ) → i < (S.terms u).n
      → Anchor (apply b S) (note t b k S G) ((S.terms u).rec i) ((S.terms u).infos i) (G.since u i)
  anchors b g u O o i h = stay_anchor S G t k b g _ _ _ (o.1 i h) (O.anchors_law i h)

  abbrev pub Keeps : Act → ℕ → Type 0
  Keeps b u = OkOf (apply b S) (note t b k S G) u
