-- `runner::put_run` meets its contract.
use Prim.Native.Nat.{◌+◌, ◌*◌, ◌≤◌}
use lib.ListN.{length}
use borrow.Author.Rules.{rules}
use Rattle.text.specs.Put.{Put}
use Rattle.runner.specs.Run.{run_of}
use Rattle.runner.proofs.Glue.{less_first, run_is}
use Rattle.runner.proofs.put_run.Goals as goal

pub returns : goal.returns
returns c =
    let page = c.put_tally.new.page in
    let wrote : Put c.args.out.now 0 (run_of c.args.s.now c.args.at) page.out.now page.at × (length (run_of c.args.s.now c.args.at) ≤ 42 * c.args.at.count + 38 * c.args.at.n + 20) =
    run_is _ _ c.requires _ _ _ _ _ _ _ _ _ (less_first _ _) c.table_of-first.ensures c.play-played.ensures
    ((c.put_records.ensures.0.put, c.put_records.ensures.1)) c.put_tally.ensures.put in
    search (rules, wrote.0, wrote.1)
