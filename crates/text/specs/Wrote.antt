-- WRITING ON A PAGE: the text was put into its lent buffer from its position on (Put.antt), its position is the one after the text, and
-- the buffer is the one that was lent.
use Rattle.std.specs.Prelude.{ℕ, ◌≡◌, List}
use Rattle.text.specs.declared.Page.{Page}
use Rattle.text.specs.Put.{Put}

pub record Wrote (old : Page) (text : List ℕ) (new : Page) : Type 0 where
  pub same : new.out.ghost_name ≡ old.out.ghost_name
  pub put : Put old.out.now old.at text new.out.now new.at
