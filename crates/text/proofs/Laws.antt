-- The laws of writing: nothing, one text and then another, the pieces of a loop, and the whole buffer where there is room.
use Prim.Native.Nat.{ℕ, zero, suc, ◌+◌, ◌≤◌, ◌<◌}
use native.Mathlib.Nat.{add-zero, zero-add, add-suc, suc-add}
use native.Mathlib.Numerals.{add-one}
use native.Mathlib.Omega.{arith}
use mathlib.Core.Path.{◌≡◌, refl, sym, ◌∙◌, ap, ap₂}
use mathlib.Core.Bool.{Bool, true, false}
use mathlib.Core.List.{List, [], ◌∷◌, ◌++◌}
use lib.Dec.{leb}
use lib.ListN.{length, set, drop, length-append, length-set}
use lib.Seq.{sets, sets-eq, set_out}
use borrow.Author.Tests.{leb-true, leb-false, le-leb, lt-leb}
use Rattle.text.specs.Text.{joined}
use Rattle.text.specs.Put.{past, Put}
use Rattle.text.specs.declared.Page.{Page}
use Rattle.text.specs.Wrote.{Wrote}

-- the position after a text that fits, and after one that does not
past_in : (size at k : ℕ) → at + k ≤ size → past size at k ≡ at + k
unfolding past
past_in size at k h = rw (le-leb (at + k) size h) refl

past_end : (size at k : ℕ) → size < at + k → at ≤ size → past size at k ≡ size
unfolding past
past_end size at k h l = rw (lt-leb (at + k) size h, le-leb at size l) refl

past_out : (size at k : ℕ) → size < at → past size at k ≡ at
unfolding past
past_out size at k h = rw (lt-leb (at + k) size (omega arith), lt-leb at size h) refl

-- one position after another
past_past : (size at j k : ℕ) → past size (past size at j) k ≡ past size at (j + k)
past_past size at j k = go (leb (at + j) size) (leb (at + (j + k)) size) (leb at size) refl refl refl
  where
    go : (a b d : Bool) → leb (at + j) size ≡ a → leb (at + (j + k)) size ≡ b → leb at size ≡ d → past size (past size at j) k ≡ past size at (j + k)
    go true true d ea eb ed =
        let l = leb-true (at + (j + k)) size eb in
        rw (past_in size at j (leb-true (at + j) size ea), past_in size at (j + k) l, past_in size (at + j) k (omega arith)) (omega arith)
    go true false d ea eb ed =
        let l = leb-true (at + j) size ea in
        let g = leb-false (at + (j + k)) size eb in
        rw (past_in size at j l, past_end size at (j + k) g (omega arith), past_end size (at + j) k (omega arith) l) refl
    go false b true ea eb ed =
        let g = leb-false (at + j) size ea in
        let l = leb-true at size ed in
        rw (past_end size at j g l, past_end size at (j + k) (omega arith) l) (at-end size k)
      where
        at-end : (size k : ℕ) → past size size k ≡ size
        at-end size zero = past_in size size 0 (omega arith) ∙ add-zero size
        at-end size (suc k) = past_end size size (suc k) (omega arith) (omega arith)
    go false b false ea eb ed =
        let g = leb-false at size ed in
        rw (past_out size at j g, past_out size at (j + k) g) (past_out size at k g)

pub sets_append : (s t l : List ℕ) (i : ℕ) → sets l i (s ++ t) ≡ sets (sets l i s) (i + length s) t
sets_append [] t l i = rw add-zero
sets_append (a ∷ s) t l i = rw (add-suc, ← suc-add) (sets_append s t _ (suc i))

-- beyond the end nothing is set
sets_out : (s l : List ℕ) (i : ℕ) → length l ≤ i → sets l i s ≡ l
sets_out [] l i h = refl
sets_out (a ∷ s) l i h = ap (λ x. sets x (suc i) s) (set_out l i a h) ∙ sets_out s l (suc i) (omega arith)

-- nothing is written
pub nothing : {old : List ℕ} {at : ℕ} → Put old at [] old at
nothing {old} {at} = record { held = refl; next = sym (none (length old) at); kept = refl }
  where
    none : (size at : ℕ) → past size at 0 ≡ at
    none size at = go (leb at size) refl
      where
        go : (b : Bool) → leb at size ≡ b → past size at 0 ≡ at
        go true e = let l = leb-true at size e in past_in size at 0 (omega arith) ∙ add-zero at
        go false e = past_out size at 0 (leb-false at size e)

-- a byte, where there is room and where there is none
pub one_in : (old : List ℕ) (at b : ℕ) → at < length old → Put old at (b ∷ []) (set old at b) (at + 1)
one_in old at b h = record { held = refl; next = sym (past_in (length old) at 1 (omega arith)); kept = length-set old at b }

pub one_out : (old : List ℕ) (at b : ℕ) → length old ≤ at → Put old at (b ∷ []) old at
one_out old at b h = record { held = sym (sets_out (b ∷ []) old at h); next = sym (stays (leb at (length old)) refl); kept = refl }
  where
    stays : (d : Bool) → leb at (length old) ≡ d → past (length old) at 1 ≡ at
    stays true e = let l = leb-true at (length old) e in past_end (length old) at 1 (omega arith) l ∙ omega arith
    stays false e = past_out (length old) at 1 (leb-false at (length old) e)

-- one text, then another: after a text that does not fit, nothing more is written
after_end : (old mid s t : List ℕ) (at : ℕ) → mid ≡ sets old at s → length mid ≡ length old
    → sets mid (past (length old) at (length s)) t ≡ sets mid (at + length s) t
after_end old mid s t at e k = go (leb (at + length s) (length old)) refl
  where
    beyond : (i : ℕ) → length old ≤ i → sets mid i t ≡ mid
    beyond i h = sets_out t mid i (omega arith)

    go : (b : Bool) → leb (at + length s) (length old) ≡ b → sets mid (past (length old) at (length s)) t ≡ sets mid (at + length s) t
    go true f = ap (λ i. sets mid i t) (past_in (length old) at (length s) (leb-true (at + length s) (length old) f))
    go false f =
        let g = leb-false (at + length s) (length old) f in
        beyond (past (length old) at (length s)) (far (leb at (length old)) refl g) ∙ sym (beyond (at + length s) (omega arith))
      where
        far : (d : Bool) → leb at (length old) ≡ d → length old < at + length s → length old ≤ past (length old) at (length s)
        far true q g = rw (past_end (length old) at (length s) g (leb-true at (length old) q)) (omega arith)
        far false q g = let l = leb-false at (length old) q in rw (past_out (length old) at (length s) l) (omega arith)

infixl 5 ◌⟫◌
pub ◌⟫◌ : {old mid new : List ℕ} {at r q : ℕ} {s t : List ℕ} → Put old at s mid r → Put mid r t new q → Put old at (s ++ t) new q
◌⟫◌ {old} {mid} {new} {at} {r} {q} {s} {t} a b =
    record {
      held =
          b.held
          ∙ ap (λ i. sets mid i t) a.next
          ∙ after_end old mid s t at a.held a.kept
          ∙ ap (λ x. sets x (at + length s) t) a.held
          ∙ sym (sets_append s t old at);
      next =
          b.next
          ∙ ap₂ (λ size i. past size i (length t)) a.kept a.next
          ∙ past_past (length old) at (length s) (length t)
          ∙ ap (past (length old) at) (sym (length-append s t));
      kept = b.kept ∙ a.kept;
    }

-- the same of a page
pub still : {p : Page} → Wrote p [] p
still = record { same = refl; put = nothing }

infixl 5 ◌then◌
pub ◌then◌ : {p q r : Page} {s t : List ℕ} → Wrote p s q → Wrote q t r → Wrote p (s ++ t) r
◌then◌ a b = record { same = b.same ∙ a.same; put = a.put ⟫ b.put }

-- the buffer in parts, where there is room
pub whole : {old new : List ℕ} {r : ℕ} {text : List ℕ} → Put old 0 text new r → length text ≤ length old → new ≡ text ++ drop (length text) old
whole {old = old} {text = text} a h = a.held ∙ sets-eq text old 0 (omega arith) ∙ ap (λ k. text ++ drop k old) (zero-add (length text))

pub reached : {old new : List ℕ} {r : ℕ} {text : List ℕ} → Put old 0 text new r → length text ≤ length old → r ≡ length text
reached {old = old} {text = text} a h = a.next ∙ past_in (length old) 0 (length text) (omega arith) ∙ zero-add (length text)

-- f 0, f 1, .., i of them, were written over old from at on: what holds in a loop, before the first turn, after one more, at the end
pub record Puts (f : ℕ → List ℕ) (i : ℕ) (old : List ℕ) (at : ℕ) (new : List ℕ) (r : ℕ) : Type 0 where
  pub so : Put old at (joined f i) new r

pub first : {f : ℕ → List ℕ} {old : List ℕ} {at : ℕ} → Puts f 0 old at old at
unfolding joined
first = record { so = nothing }

pub again : {i : ℕ} {f : ℕ → List ℕ} {old mid new : List ℕ} {at r q : ℕ} → Puts f i old at mid r → Put mid r (f i) new q → Puts f (i + 1) old at new q
unfolding joined
again a b = record { so = rw add-one (a.so ⟫ b) }

pub done : {i n : ℕ} {f : ℕ → List ℕ} {old new : List ℕ} {at r : ℕ} → Puts f i old at new r → i ≡ n → Put old at (joined f n) new r
done a e = rw (← e) a.so

-- the same of pages
pub record Writes (f : ℕ → List ℕ) (i : ℕ) (p q : Page) : Type 0 where
  pub same : q.out.ghost_name ≡ p.out.ghost_name
  pub puts : Puts f i p.out.now p.at q.out.now q.at

pub none_written : {f : ℕ → List ℕ} {p : Page} → Writes f 0 p p
none_written = record { same = refl; puts = first }

pub one_written : {i : ℕ} {f : ℕ → List ℕ} {p q r : Page} → Writes f i p q → Wrote q (f i) r → Writes f (i + 1) p r
one_written a b = record { same = b.same ∙ a.same; puts = again a.puts b.put }
