-- The generic functions: an array's entry read and written at any index, whatever the entries are and however many.
use Prim.Native.Nat.{ℕ}
use denote.RattleType.{RattleType}
use denote.Param.Laws.{Laws, IsCopy}
use mathlib.Core.Path.{sym, ◌∙◌}
use mir.Syntax.{Dict, w64}
use mir.Val.{Fits}
use Rattle.std.specs.declared.clone.Clone.{Ghosts}
use Rattle.four.proofs.at.Kinds as four-at-kinds
use Rattle.four.proofs.at.Reads as four-at-reads
use Rattle.four.proofs.with.Kinds as four-with-kinds
use Rattle.four.proofs.with.Reads as four-with-reads
use Rattle.once.proofs.Once.{OnceAtEach}

-- a type that is `Copy`, and a number of entries
pub record Entries : Type 2 where
  pub T : RattleType
  pub laws : Laws T
  pub copies : IsCopy T
  pub clones : Ghosts T.Denot
  pub dict : Dict
  pub N : ℕ
  pub fits : Fits w64 N

pub four_at : OnceAtEach {G = Entries} 2 (λ g. four-at-kinds.ps g.T g.N g.laws g.fits g.copies) (λ g. four-at-kinds.r g.T g.N g.laws g.fits g.copies) (λ g. four-at-reads.Post g.T g.N g.laws g.fits g.copies g.clones g.dict)
four_at g κs a o p s t e f = e ∙ sym f

pub four_with : OnceAtEach {G = Entries} 2 (λ g. four-with-kinds.ps g.T g.N g.laws g.fits g.copies) (λ g. four-with-kinds.r g.T g.N g.laws g.fits g.copies) (λ g. four-with-reads.Post g.T g.N g.laws g.fits g.copies g.clones g.dict)
four_with g κs a o p s t e f = e ∙ sym f
