-- Every step of a task, from a place whose facts hold, keeps to its guard and leads to a place whose facts hold.
use Prim.Native.Nat.{ℕ, ◌<◌}
use mathlib.Core.Path.{◌≡◌, refl, sym, ap, ◌∙◌, subst}
use mathlib.Core.Bool.{true, false}
use mathlib.Core.Logic.{inl, ◌≢◌}
use mathlib.Core.List.{List}
use lib.ListN.{length, get_or}
use Rattle.rules.specs.Words.{Cell, Change, Seen}
use Rattle.rules.specs.Words.{Place, Idle, L1, L2, L3, L4, L5, L6, L7, L8, L9, L10, L11, H1, H2, H3, H4, H5, H6, H7, H8, Vlx, Read}
use Rattle.rules.specs.Places.{change_of, access_of, resume}
use Rattle.rules.specs.Perform.{record_of}
use Rattle.rules.specs.Step.{place_of, cells_by, stores_link}
use Rattle.clauses.proofs.Memory.{Terms, Table}
use Rattle.clauses.proofs.History.{Ghost}
use Rattle.clauses.proofs.Clauses.{At, Live, Fine}
use Rattle.clauses.proofs.Steps.{terms_of, is_stored, is_old, act_at, Saw}
use Rattle.clauses.proofs.Advanced.{Advanced, by_none, reads}
use Rattle.clauses.proofs.ReadsOn.{from_L4, from_L5, from_L6, from_L7, from_L8, from_L10, from_L11, from_Vlx}
use Rattle.clauses.proofs.HelpsOn.{from_H1, from_H2, from_H3, from_H4, from-H5, from-H6, from_H7, from_H8}

-- ch is the change that the place names; what its R says is needed only where there is one
pub advance : (X : Table) (G : Ghost) → Fine X G → (t : ℕ) (q : Place) (cs : List Cell) (s : Seen) (ch : Change) (l : List ℕ) (linked : ℕ)
    → terms_of ch ≡ X.sh.terms (change_of q) → length cs ≡ 4
    → (change_of q ≢ 0 → (i : ℕ) → i < 4 → get_or ch.r i false ≡ true → i < ch.n)
    → Saw X.sh s q → (change_of q ≢ 0 → Live X (change_of q)) → At X.sh G cs q
    → let v = resume q s ch linked in
    Advanced X G t (act_at X.sh q) (record { ends = stores_link v; at = record_of (access_of q ch l) }) (cells_by cs s.cell v) (place_of v)
    (record { there = true; info = s.number; cells = cs })
unfolding act_at
advance X G F t Idle cs s ch l linked e four in_r saw live h = reads X G F t _ cs s.cell _ _ _ by_none tt
advance X G F t (L1 r) cs s ch l linked e four in_r saw live h = reads X G F t _ cs s.cell _ _ _ by_none tt
advance X G F t (L2 r m1) cs s ch l linked e four in_r saw live h = reads X G F t _ cs s.cell _ _ _ (λ z. (z, inl (r, sym saw))) tt
advance X G F t (L3 r m1 a) cs s ch l linked e four in_r saw live h = reads X G F t _ cs s.cell _ _ _ live (λ n. sym saw)
advance X G F t (L4 r m1 a x) cs s ch l linked e four in_r saw live h = from_L4 X G F t r cs s.cell _ m1 a x s.bit saw live h
advance X G F t (L5 r m1 a f) cs s ch l linked e four in_r saw live h = from_L5 X G F t r cs s.cell _ m1 a f four saw live h
advance X G F t (L6 r m1 a) cs s ch l linked e four in_r saw live h = from_L6 X G F t r cs s.cell m1 a s.number saw live h
advance X G F t (L7 r m1 a) cs s ch l linked e four in_r saw live h = from_L7 X G F t r cs s.cell _ m1 a s.state live
advance X G F t (L8 r m1 a) cs s ch l linked e four in_r saw live h = from_L8 X G F t r cs s.cell _ m1 a s.state saw live
advance X G F t (L9 r) cs s ch l linked e four in_r saw live h = reads X G F t _ cs s.cell _ _ _ (λ z. (z, inl (r, sym saw))) (λ z q. z (saw ∙ q))
advance X G F t (L10 r b) cs s ch l linked e four in_r saw live h = from_L10 X G F t r cs s.cell _ b s.state saw h
advance X G F t (L11 r) cs s ch l linked e four in_r saw live h = from_L11 X G F t r cs s.cell _ s.number saw
advance X G F t (H1 u i w) cs s ch l linked e four in_r saw live h =
    rw saw (from_H1 X G F t _ cs s.cell _ u w live i ch.n (ap (λ (x : Terms). x.n) e) (is_stored X.sh u i) refl h)
advance X G F t (H2 u i w) cs s ch l linked e four in_r saw live h =
    from_H2 X G F t _ cs s.cell _ u w live i ch.n (ap (λ (x : Terms). x.n) e) s.number saw h
advance X G F t (H3 u w) cs s ch l linked e four in_r saw live h = from_H3 X G F t _ cs s.cell _ u w live s.bit saw h
advance X G F t (H4 u w) cs s ch l linked e four in_r saw live h = from_H4 X G F t _ cs s.cell _ u w live h
advance X G F t (H5 u w) cs s ch l linked e four in_r saw live h =
    from-H5 X G F t _ cs s.cell _ u w live ch.r (λ j. ap (λ (x : Terms). x.closes j) e)
    (λ j p d. subst (λ n. j < n) (ap (λ (x : Terms). x.n) e) (in_r h.0 j p d)) h
advance X G F t (H6 u i w) cs s ch l linked e four in_r saw live h =
    from-H6 X G F t _ cs s.cell _ u w live ch.r (λ j. ap (λ (x : Terms). x.closes j) e)
    (λ j p d. subst (λ n. j < n) (ap (λ (x : Terms). x.n) e) (in_r h.0 j p d)) i h
advance X G F t (H7 u w) cs s ch l linked e four in_r saw live h = from_H7 X G F t _ cs s.cell _ u w live (is_old X.sh u) refl h
advance X G F t (H8 u w) cs s ch l linked e four in_r saw live h = from_H8 X G F t _ cs s.cell _ u w live h
advance X G F t (Vlx n i) cs s ch l linked e four in_r saw live h = from_Vlx X G F t _ cs s.cell _ n i s.number linked
advance X G F t (Read r f) cs s ch l linked e four in_r saw live h = reads X G F t _ cs s.cell _ _ _ by_none tt
