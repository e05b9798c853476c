-- The start of an SCX keeps the clauses of every live change, as it takes none of their numbers, and its own change begins with all of them.
use Prim.Native.Nat.{ℕ}
use mathlib.Core.Path.{refl}
use mathlib.Core.Bool.{false}
use mathlib.Core.Logic.{⊎_elim}
use Rattle.rules.specs.Words.{InProgress}
use Rattle.clauses.proofs.Updates.{upd_hit, upd_miss, tf}
use Rattle.clauses.proofs.Memory.{Terms, Shared, apply}
use Rattle.clauses.proofs.Memory.{make}
use Rattle.clauses.proofs.History.{Ghost, Reading, note}
use Rattle.clauses.proofs.Clauses.{Ok, OkOf, Guard}
use Rattle.clauses.proofs.Rights.{ci, ai}
use Rattle.clauses.proofs.Frame.{stay_ended, stay_anchor}
use Rattle.clauses.proofs.Spared.{Spared, Keeps, anchors}

module _ (S : Shared) (G : Ghost) (t : ℕ) (k : Reading) where
  pub keep_make : (x : ℕ) (d : Terms) (g : Guard S G t (make x d)) (u : ℕ) → OkOf S G u → Spared S G t k (make x d) u → Keeps S G t k (make x d) u
  unfolding apply note
  keep_make x d g u O o = rw (
    upd_miss S.terms x d o.0,
    upd_miss S.state x InProgress o.0,
    upd_miss S.frozen x false o.0,
    upd_miss G.hap x false o.0,
    upd_miss G.held x (λ i. false) o.0,
    upd_miss G.since x (λ i. G.read t (d.rec i)) o.0,
  ) others
    where
      others : Ok (S.terms u) (S.state u) (S.frozen u) (G.hap u) (G.held u) (G.since u) (apply (make x d) S) (note t (make x d) k S G) u
      others = search (anchors S G t k (make x d) g u O o, stay_ended S G t k (make x d) g (S.terms u).old.stamp o.2 O.old_ended_law)

  -- the clauses of the change that starts
  pub made_ok : (x : ℕ) (d : Terms) (g : Guard S G t (make x d)) → Keeps S G t k (make x d) x
  unfolding apply note
  made_ok x d g = rw (
    upd_hit S.terms x d {j = x} refl,
    upd_hit S.state x InProgress {j = x} refl,
    upd_hit S.frozen x false {j = x} refl,
    upd_hit G.hap x false {j = x} refl,
    upd_hit G.held x (λ i. false) {j = x} refl,
    upd_hit G.since x (λ i. G.read t (d.rec i)) {j = x} refl,
  ) new
    where
      new : Ok d InProgress false false (λ i. false) (λ i. G.read t (d.rec i)) (apply (make x d) S) (note t (make x d) k S G) x
      new = record {
        apart_law = g.apart;
        shape_law = g.shape;
        anchors_law = λ i h. stay_anchor S G t k (make x d) g _ _ _ (g.no_infos i h) (g.anchors i h);
        old_ended_law = stay_ended S G t k (make x d) g _ g.no_old g.old_ended;
        snap_law = λ z. ⊎_elim g.snap (λ q. absurd (g.no_info _ q));
        gone_law = λ i h z. tf z refl;
        held_law = λ i h q. absurd (g.no_info _ q);
        holds_law = λ i h z. tf z refl;
        frozen_law = λ z. tf z refl;
        closed_law = λ z. tf z refl;
        committed_law = λ z. ci z refl;
        aborted_law = λ z. ai z refl;
        happened_law = λ z. tf z refl;
        old_gone_law = λ z. tf z refl;
        clear_held_law = λ i h q. absurd (g.no_info _ q);
      }
