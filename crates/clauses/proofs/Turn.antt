-- One call of one task: what it has to show is this and no more, and then every clause holds after it.
use Prim.Native.Nat.{ℕ, suc}
use mathlib.Core.Path.{◌≡◌, refl, sym, ap, ◌∙◌, subst}
use mathlib.Core.Bool.{Bool, true, false, true≢false}
use mathlib.Core.Logic.{◌⊎◌, inl, inr, ◌≢◌, ⊎_elim}
use Rattle.rules.specs.Words.{Aborted, Link}
use Rattle.table.specs.Table.{pick}
use Rattle.rules.specs.Places.{change_of}
use Rattle.clauses.proofs.Updates.{upd, upd_hit, upd_miss, at, same?}
use Rattle.clauses.proofs.Memory.{Terms, Shared, Table, apply}
use Rattle.clauses.proofs.Memory.{Act, nop, hold, abort, freeze, close, write, commit, make}
use Rattle.clauses.proofs.History.{Ghost, Reading, read_by, note}
use Rattle.clauses.proofs.Clauses.{OkOf, Off, Guard, At, LinkOk, Stamped, Live, Fresh, NotIn, Room, Fine}
use Rattle.clauses.proofs.Rights.{ai}
use Rattle.clauses.proofs.Frame.{stay_state}
use Rattle.clauses.proofs.Spared.{Spared}
use Rattle.clauses.proofs.KeptByStarting.{made_ok}
use Rattle.clauses.proofs.Kept.{keep_ok}
use Rattle.clauses.proofs.Others.{OffLink, stay_link, stay, stay_stamp, took_past, eff_past}

-- the act takes the number u
abbrev pub Takes : Act → ℕ → Type 0
Takes b u = (c : Terms) × (b ≡ make u c)

-- what becomes of a task's link to r in a call that read k: gone, as it was, or read anew
abbrev pub Relinked : Reading → Link → ℕ → Link → Type 0
Relinked k old r new =
    (new.there ≡ false) ⊎ (((new ≡ old) × (k.ends ≡ true → r ≢ k.at)) ⊎ ((k.ends ≡ true) × (r ≡ k.at)))

-- a call of task t that did b to the shared words and read k, from the table X with the history G to the table Y
pub record Turn (X Y : Table) (G : Ghost) (t : ℕ) (b : Act) (k : Reading) : Type 0 where
  pub shared : Y.sh ≡ apply b X.sh
  pub tasks : (s : ℕ) → s ≢ t → Y.task s ≡ X.task s
  pub links : (s : ℕ) → s ≢ t → (r : ℕ) → Y.link s r ≡ X.link s r
  pub own_links : (r : ℕ) → Relinked k (X.link t r) r (Y.link t r)
  pub guard : Guard X.sh G t b
  pub room : Room X b
  pub place : At (apply b X.sh) (note t b k X.sh G) (Y.task t).cells (Y.task t).place
  pub carried : change_of (Y.task t).place ≢ 0 → Live X (change_of (Y.task t).place) ⊎ Takes b (change_of (Y.task t).place)
  pub stored : k.ends ≡ true → LinkOk (apply b X.sh) (note t b k X.sh G) (suc G.now) k.at (Y.link t k.at)

-- who is an info was live before; what a fresh number is not
info_live : (X : Table) (b : Act) → Room X b → (r : ℕ) → (apply b X.sh).info r ≢ 0 → Live X ((apply b X.sh).info r)
unfolding apply
info_live X nop m r z = (z, inl (r, refl))
info_live X (hold x i) m r z = at (λ y. y ≢ 0 → Live X y) X.sh.info _ _ r (λ e z. m) (λ n z. (z, inl (r, refl))) z
info_live X (abort x) m r z = (z, inl (r, refl))
info_live X (freeze x) m r z = (z, inl (r, refl))
info_live X (close x i) m r z = (z, inl (r, refl))
info_live X (write x) m r z = (z, inl (r, refl))
info_live X (commit x) m r z = (z, inl (r, refl))
info_live X (make x c) m r z = (z, inl (r, refl))

pub off : (X : Table) (b : Act) → Room X b → (y : ℕ) → ((x : ℕ) → Fresh X x → y ≢ x) → Off b y
off X nop m y h = tt
off X (hold x i) m y h = tt
off X (abort x) m y h = tt
off X (freeze x) m y h = tt
off X (close x i) m y h = tt
off X (write x) m y h = tt
off X (commit x) m y h = tt
off X (make x c) m y h = h x m

off_link : (X : Table) (b : Act) → Room X b → (l : Link) → ((x : ℕ) → Fresh X x → NotIn x l) → OffLink b l
off_link X b m l h there = (off X b m _ (λ x F. (h x F there).0), λ f q. off X b m _ (λ x F. (h x F there).1 f q))

-- the time of a linked read
pub read_is : (t : ℕ) (b : Act) (k : Reading) (S : Shared) (G : Ghost) → (note t b k S G).read ≡ read_by t k (suc G.now) G.read
unfolding note
read_is t b k S G = refl

pub read_other : (t : ℕ) (k : Reading) (m : ℕ) (R : ℕ → ℕ → ℕ) (s r : ℕ) → (s ≢ t) ⊎ (k.ends ≡ true → r ≢ k.at) → read_by t k m R s r ≡ R s r
unfolding read_by
read_other t k m R s r h = go k.ends refl h
  where
    go : (b : Bool) → k.ends ≡ b → (s ≢ t) ⊎ (k.ends ≡ true → r ≢ k.at) → pick b (upd R t (upd (R t) k.at m)) R s r ≡ R s r
    go false e h = refl
    go true e (inl n) = ap (λ (f : ℕ → ℕ). f r) (upd_miss R t (upd (R t) k.at m) n)
    go true e (inr n) = at (λ (row : ℕ → ℕ). row r ≡ R s r) R t _ s (λ q. upd_miss (R t) k.at m (n e) ∙ ap (λ s. R s r) (sym q)) (λ q. refl)

pub read_now : (t : ℕ) (k : Reading) (m : ℕ) (R : ℕ → ℕ → ℕ) → k.ends ≡ true → read_by t k m R t k.at ≡ m
unfolding read_by
read_now t k m R e = rw (e, upd_hit R t (upd (R t) k.at m) {j = t} refl) (upd_hit (R t) k.at m refl)

module _ (X Y : Table) (G : Ghost) (F : Fine X G) (t : ℕ) (b : Act) (k : Reading) (T : Turn X Y G t b k) where
  abbrev S : Shared
  S = X.sh

  abbrev S' : Shared
  S' = apply b X.sh

  abbrev G' : Ghost
  G' = note t b k X.sh G

  pub spared : (u : ℕ) → Live X u → Spared S G t k b u
  spared u l = (
    off X b T.room u (λ x N e. N.dead (subst (λ y. Live X y) e l)),
    λ i h. off X b T.room _ (λ x N. N.no_stored u l i h),
    off X b T.room _ (λ x N. N.no_old u l),
  )

  -- who is live was live, or was taken now
  pub live_back : (u : ℕ) → Live Y u → Live X u ⊎ Takes b u
  live_back u (z, inl (r, e)) =
      let i : S'.info r ≡ u = ap (λ (S : Shared). S.info r) (sym T.shared) ∙ e in
      inl (subst (λ y. Live X y) i (info_live X b T.room r (λ q. z (sym i ∙ q))))
  live_back u (z, inr (s, e)) = ⊎_elim
      (λ (q : s ≡ t). let i : change_of (Y.task t).place ≡ u = subst (λ s. change_of (Y.task s).place ≡ u) q e in
      subst (λ y. Live X y ⊎ Takes b y) i (T.carried (λ v. z (sym i ∙ v))))
      (λ n. inl (z, inr (s, subst (λ x. change_of x.place ≡ u) (T.tasks s n) e))) (same? s t)

  kept : (s r : ℕ) → LinkOk S' G' (G.read s r) r (X.link s r)
  kept s r = stay_link S G t k b T.guard (G.read s r) r (X.link s r)
      (off_link X b T.room (X.link s r) (λ x N. N.no_link_lem s r)) (F.links_law s r)

  -- the clauses of a change that was live hold after the call, whether it still is or not
  pub stays_ok : (u : ℕ) → Live X u → OkOf Y.sh G' u
  stays_ok u l = subst (λ (S : Shared). OkOf S G' u) (sym T.shared) (keep_ok S G t k b T.guard u (F.changes_law u l) (spared u l))

  changes : (u : ℕ) → Live Y u → OkOf Y.sh G' u
  changes u l = ⊎_elim (stays_ok u)
      (λ (z : Takes b u). subst (λ (S : Shared). OkOf S G' u) (sym T.shared) (taken b T.guard z.0 z.1)) (live_back u l)
    where
      taken : (b : Act) → Guard S G t b → (c : Terms) → b ≡ make u c → OkOf (apply b S) (note t b k S G) u
      taken b g c e = rw e (made_ok S G t k u c (subst (λ b. Guard S G t b) e g))

  -- a link that stands as it did, with the time of its read
  as_it_was : (s r : ℕ) → (s ≢ t) ⊎ (k.ends ≡ true → r ≢ k.at) → Y.link s r ≡ X.link s r → LinkOk S' G' (G'.read s r) r (Y.link s r)
  as_it_was s r h e = subst (λ l. LinkOk S' G' (G'.read s r) r l) (sym e)
      (subst (λ z. LinkOk S' G' z r (X.link s r))
      (sym (ap (λ (R : ℕ → ℕ → ℕ). R s r) (read_is t b k S G) ∙ read_other t k (suc G.now) G.read s r h)) (kept s r))

  own : (r : ℕ) → Relinked k (X.link t r) r (Y.link t r) → LinkOk S' G' (G'.read t r) r (Y.link t r)
  own r (inl z) = λ there. absurd (true≢false (sym there ∙ z))
  own r (inr (inl (e, n))) = as_it_was t r (inr n) e
  own r (inr (inr (e, q))) = subst (λ r. LinkOk S' G' (G'.read t r) r (Y.link t r)) (sym q)
      (subst (λ z. LinkOk S' G' z k.at (Y.link t k.at))
      (sym (ap (λ (R : ℕ → ℕ → ℕ). R t k.at) (read_is t b k S G) ∙ read_now t k (suc G.now) G.read e)) (T.stored e))

  -- EVERY CLAUSE HOLDS AFTER THE CALL
  pub fine_turn : Fine Y G'
  fine_turn = record {
    zero_law = subst (λ (S : Shared). S.state 0 ≡ Aborted) (sym T.shared)
        (stay_state S G t k b T.guard 0 (off X b T.room 0 (λ x N e. N.nonzero (sym e))) (λ q. ai F.zero_law q) ∙ F.zero_law);
    past_law = λ r. (took_past S G t k b r (F.past_law r).0, eff_past S G t k b r (F.past_law r).1);
    stamp_law = λ r f l. subst (λ (S : Shared). Stamped S r f) (sym T.shared)
        (stay_stamp S G t k b T.guard r f (off X b T.room _ (λ x N. N.no_stamp r f l)) (F.stamp_law r f l));
    changes_law = changes;
    places_law = λ s. subst (λ (S : Shared). At S G' (Y.task s).cells (Y.task s).place) (sym T.shared) (⊎_elim
        (λ (e : s ≡ t). subst (λ s. At S' G' (Y.task s).cells (Y.task s).place) (sym e) T.place)
        (λ n. subst (λ x. At S' G' x.cells x.place) (sym (T.tasks s n)) (stay S G t k b T.guard (X.task s).cells (X.task s).place
        (off X b T.room _ (λ x N e. N.dead (N.nonzero, inr (s, e)))) (λ z. F.changes_law _ (z, inr (s, refl))) (F.places_law s))) (same? s t));
    links_law = λ s r. subst (λ (S : Shared). LinkOk S G' (G'.read s r) r (Y.link s r)) (sym T.shared) (⊎_elim
        (λ (e : s ≡ t). subst (λ s. LinkOk S' G' (G'.read s r) r (Y.link s r)) (sym e) (own r (T.own_links r)))
        (λ n. as_it_was s r (inl n) (T.links s n r)) (same? s t));
  }
