-- THE READER HANDS OUT THE PARTS: a table has at most 32 records, so that the first 4N values are among the 128 that `values` gives.
use Prim.Native.Nat.{◌*◌}
use native.Mathlib.Omega.{arith}
use mathlib.Core.Path.{refl, sym}
use Rattle.sheet.specs.Layout.{values_part, parts_of}
use Rattle.sheet.proofs.Laws.{read_inside, take_values}
use Rattle.back.specs.Back.{Handing}

pub handing : Handing
unfolding parts_of
handing s at e =
    record {
      tasks = refl;
      records = refl;
      values = sym (take_values (values_part s at) (4 * at.n) (omega (arith, (read_inside e).records)));
      events = refl;
    }
