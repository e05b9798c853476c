-- A course of calls: tables that follow each other by turns. Every clause holds in each, and a number is live only from a start that
-- took it on. Nothing here knows which number a start takes: only that it was fresh (Room).
use Prim.Native.Nat.{ℕ, zero, suc, ◌≤◌, ◌<◌}
use mathlib.Core.Path.{◌≡◌, refl, sym, ap, ◌∙◌, subst}
use mathlib.Core.Bool.{false}
use mathlib.Core.Logic.{◌⊎◌, inl, inr, ⊎_elim}
use native.Mathlib.Omega.{arith}
use Rattle.clauses.proofs.Updates.{upd_hit, same?, le_split}
use Rattle.clauses.proofs.Memory.{Terms, Shared, Table, apply, Act, make}
use Rattle.clauses.proofs.History.{Ghost, Reading, note, none_yet}
use Rattle.clauses.proofs.Clauses.{OkOf, Off, Guard, Live, Room, Fine}
use Rattle.clauses.proofs.Frame.{same_terms, same_since, now_suc}
use Rattle.clauses.proofs.Turn.{Takes, Turn, spared, live_back, fine_turn}

pub record Course : Type 0 where
  pub table : ℕ → Table
  pub who : ℕ → ℕ
  pub act : ℕ → Act
  pub reads : ℕ → Reading
  pub begins : Fine (table 0) none_yet
  pub no_changes : (u : ℕ) → Live (table 0) u → ⊥
  pub no_links : (t r : ℕ) → ((table 0).link t r).there ≡ false
  pub turns : (k : ℕ) (G : Ghost) → Fine (table k) G → Turn (table k) (table (suc k)) G (who k) (act k) (reads k)

module _ (C : Course) where
  abbrev pub X : ℕ → Table
  X k = C.table k

  abbrev pub S : ℕ → Shared
  S k = (C.table k).sh

  unfoldable pub history : ℕ → Ghost
  history zero = none_yet
  history (suc k) = note (C.who k) (C.act k) (C.reads k) (C.table k).sh (history k)

  -- THE CLAUSES HOLD BEFORE EVERY CALL
  pub fine : (k : ℕ) → Fine (X k) (history k)
  unfolding history
  fine zero = C.begins
  fine (suc k) = fine_turn (X k) (X (suc k)) (history k) (fine k) (C.who k) (C.act k) (C.reads k) (C.turns k (history k) (fine k))

  pub turn : (k : ℕ) → Turn (X k) (X (suc k)) (history k) (C.who k) (C.act k) (C.reads k)
  turn k = C.turns k (history k) (fine k)

  pub guard : (k : ℕ) (b : Act) → C.act k ≡ b → Guard (S k) (history k) (C.who k) b
  guard k b e = subst (λ b. Guard (S k) (history k) (C.who k) b) e (turn k).guard

  pub room : (k : ℕ) (b : Act) → C.act k ≡ b → Room (X k) b
  room k b e = subst (λ b. Room (X k) b) e (turn k).room

  pub now_is : (k : ℕ) → (history k).now ≡ k
  unfolding history
  now_is zero = refl
  now_is (suc k) = now_suc (S k) (history k) (C.who k) (C.reads k) (C.act k) ∙ ap suc (now_is k)

  -- call k takes the number u
  abbrev pub Starts : ℕ → ℕ → Type 0
  Starts k u = Takes (C.act k) u

  -- no call from j on takes it, before k
  abbrev pub Unstarted : ℕ → ℕ → ℕ → Type 0
  Unstarted u j k = (i : ℕ) → j ≤ i → i < k → Starts i u → ⊥

  -- a live number is not taken
  pub not_taken : (k u : ℕ) → Live (X k) u → Starts k u → ⊥
  not_taken k u l (c, e) = (room k (make u c) e).dead l

  pub off_live : (k u : ℕ) → Live (X k) u → Off (C.act k) u
  off_live k u l = (spared (X k) (X (suc k)) (history k) (fine k) (C.who k) (C.act k) (C.reads k) (turn k) u l).0

  live_step : (k u : ℕ) → Live (X (suc k)) u → Live (X k) u ⊎ Starts k u
  live_step k u l = live_back (X k) (X (suc k)) (history k) (fine k) (C.who k) (C.act k) (C.reads k) (turn k) u l

  -- who is live was taken, and has been live since
  pub born : (k u : ℕ) → Live (X k) u → (s : ℕ) × (s < k) × Starts s u × Unstarted u (suc s) k
  born zero u l = absurd (C.no_changes u l)
  born (suc k) u l = go (live_step k u l) (born k u)
    where
      go : Live (X k) u ⊎ Starts k u → (Live (X k) u → (s : ℕ) × (s < k) × Starts s u × Unstarted u (suc s) k)
          → (s : ℕ) × (s < suc k) × Starts s u × Unstarted u (suc s) (suc k)
      go (inl l) ih = let (s, h, B, W) = ih l in (
        s,
        omega arith,
        B,
        λ i a b z. ⊎_elim
            (λ (e : i ≡ k). not_taken k u l (subst (λ i. Starts i u) e z)) (λ n. W i a (omega arith) z) (same? i k),
      )
      go (inr z) ih = (k, omega arith, z, λ i a b. absurd (omega arith))

  live_then : (u j k : ℕ) → j ≤ k → Unstarted u j k → Live (X k) u → Live (X j) u
  live_then u j zero h n l = subst (λ x. Live (X x) u) (omega arith) l
  live_then u j (suc k) h n l = ⊎_elim (λ (e : j ≡ suc k). subst (λ x. Live (X x) u) (sym e) l)
      (λ h. live_then u j k h (λ i a b. n i a (omega arith)) (⊎_elim (λ l. l) (λ z. absurd (n k h (omega arith) z)) (live_step k u l)))
      (le_split j k h)

  -- a fact on u that every act keeps, unless it takes u, holds from then on while u is live
  pub ever : (u : ℕ) (P : Shared → Ghost → Type 0)
      → ((S : Shared) (G : Ghost) (t : ℕ) (l : Reading) (b : Act) → Guard S G t b → Off b u → OkOf S G u → P S G → P (apply b S) (note t b l S G))
      → (j k : ℕ) → j ≤ k → Unstarted u j k → Live (X k) u → P (S j) (history j) → P (S k) (history k)
  unfolding history
  ever u P keep j zero h n l p = let e : j ≡ 0 = omega arith in subst (λ x. P (S x) (history x)) e p
  ever u P keep j (suc k) h n l p = ⊎_elim (λ (e : j ≡ suc k). subst (λ x. P (S x) (history x)) e p)
      (λ h. let l' : Live (X k) u = live_then u k (suc k) (omega arith) (λ i a b. n i (omega arith) b) l in
      subst (λ (s : Shared). P s (history (suc k))) (sym (turn k).shared)
      (keep (S k) (history k) (C.who k) (C.reads k) (C.act k) (turn k).guard (off_live k u l') ((fine k).changes_law u l')
      (ever u P keep j k h (λ i a b. n i a (omega arith)) l' p))) (le_split j k h)

  -- what a start wrote down, and the ends of its linked reads, stand while its number is live
  pub started : (s u : ℕ) (c : Terms) → C.act s ≡ make u c
      → ((S (suc s)).terms u ≡ c) × ((history (suc s)).since u ≡ (λ i. (history s).read (C.who s) (c.rec i))) × ((history (suc s)).hap u ≡ false)
  unfolding history apply note
  started s u c e = rw ((turn s).shared, e)
      (upd_hit (S s).terms u _ refl, upd_hit (history s).since u _ refl, upd_hit (history s).hap u false refl)

  pub since_start : (s u : ℕ) (c : Terms) (k : ℕ) → C.act s ≡ make u c → s < k → Unstarted u (suc s) k → Live (X k) u
      → ((S k).terms u ≡ c) × ((history k).since u ≡ (λ i. (history s).read (C.who s) (c.rec i)))
  since_start s u c k e h W l = let (a, b, z) = started s u c e in
      ever u (λ S G. (S.terms u ≡ c) × (G.since u ≡ (λ i. (history s).read (C.who s) (c.rec i))))
      (λ S G t l b g o O p. (same_terms S G t l b u o ∙ p.0, same_since S G t l b u o ∙ p.1)) (suc s) k h W l (a, b)
