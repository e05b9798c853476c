-- What an SCX writes down when it starts, all from its task's links, is what a start may rely on.
use Prim.Native.Nat.{ℕ, ◌≤◌, ◌<◌}
use mathlib.Core.Path.{◌≡◌}
use mathlib.Core.Bool.{true}
use mathlib.Core.Logic.{inl}
use Rattle.table.specs.Table.{cell_at}
use Rattle.clauses.proofs.Memory.{Terms, Table, spot}
use Rattle.clauses.proofs.History.{Ghost}
use Rattle.clauses.proofs.Clauses.{Made, Fresh, Fine}

pub made : (X : Table) (G : Ghost) → Fine X G → (t u : ℕ) (c : Terms) → Fresh X u
    → ((i j : ℕ) → i < c.n → j < c.n → c.rec i ≡ c.rec j → i ≡ j) → c.n ≤ 4 → c.written < c.n → c.field < 4
    → ((i : ℕ) → i < c.n → (X.link t (c.rec i)).there ≡ true) → ((i : ℕ) → i < c.n → c.infos i ≡ (X.link t (c.rec i)).info)
    → c.old ≡ cell_at (X.link t (spot c)).cells c.field → Made X.sh G t u c
made X G F t u c N apart few inside fits there infos old =
    let link = F.links_law t (spot c) (there c.written inside) in
    record {
      nonzero = N.nonzero;
      apart = apart;
      shape = (few, inside, fits);
      anchors = λ i h. rw (infos i h) (F.links_law t (c.rec i) (there i h)).0;
      old_ended = rw old (link.2 c.field fits);
      snap = λ e. rw old (link.1 (rw (infos c.written inside) at e) c.field fits);
      no_info = λ r e. N.dead (N.nonzero, inl (r, e));
      no_infos = λ i h. rw (infos i h) (N.no_link_lem t (c.rec i) (there i h)).0;
      no_old = rw old ((N.no_link_lem t (spot c) (there c.written inside)).1 c.field fits);
    }
