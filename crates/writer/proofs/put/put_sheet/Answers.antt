-- `writer::put::put_sheet`: three texts, each where the one before ends.
use mathlib.Core.Path.{refl, sym, ◌∙◌}
use Rattle.writer.specs.Write.{value_bytes}
use Rattle.writer.proofs.Stored.{length_value_bytes, three}
use Rattle.writer.proofs.put.put_sheet.Goals as goal

pub returns : goal.returns
returns c =
    let a = c.args in
    (simp (c.put_bytes.ensures, c.put_values.ensures) at c.put_bytes-2.ensures)
    ∙ three a.out.now (value_bytes a.values.now) a.events.now a.trailer.now _ _ (sym (length_value_bytes a.values.now)) refl
