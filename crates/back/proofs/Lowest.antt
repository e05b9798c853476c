-- "Each is given exactly then, the lowest that applies": a sheet can meet 20 to 24, "the writer meets 22, 24, 25", their rules in this
-- order; and one is given exactly where its rule is broken and all rules before it are kept.
use Prim.Native.Nat.{ℕ}
use native.Mathlib.Omega.{arith}
use mathlib.Core.Path.{◌≡◌, refl, ap, ◌∙◌}
use mathlib.Core.Logic.{◌↔◌}
use mathlib.Core.Bool.{false}
use mathlib.Core.List.{List, [], ◌∷◌, ◌++◌, map}
use Rattle.std.specs.Result.{result_and}
use Rattle.rules.specs.Words.{Refusal, Check, Ok, Err}
use Rattle.rules.specs.Claim.{test}
use Rattle.rules.specs.Answer.{refusal_number}
use Rattle.rules.specs.Refuse.{Rule, check}
use Rattle.keeps.proofs.Lowest.{Broken, lowest}
use Rattle.sheet.specs.Layout.{layout_of, sheet_rules, sheet_of}
use Rattle.writer.specs.Write.{sheet_size, writer_rules, written_of}
use Rattle.sheet.proofs.Laws.{kept_on}

-- a rule that is broken behind rules that are kept is the one that fails
behind_kept : (kept others : List Rule) (x : Rule) → check kept ≡ Ok tt → test 0 x.unless ≡ false → check (kept ++ (x ∷ others)) ≡ Err x.why
behind_kept [] others x a f = rw f refl
behind_kept (y ∷ kept) others x a f =
    let k = kept_on (test 0 y.unless) (check kept) y.why a in
    rw k.0 (behind_kept kept others x k.1 f)

given : {rs : List Rule} {why : Refusal} → Broken rs why → check rs ≡ Err why
given b = ap check b.are ∙ behind_kept b.kept b.others b.broken b.all_kept b.fails ∙ ap Err b.named

-- the numbers of the rules, in their order
abbrev met : List Rule → List ℕ
met = map (λ (x : Rule). refusal_number x.why)

-- what is refused has failed its check
failed : {A : Type 0} (c : Check) (x : A) (why : Refusal) → result_and c (Ok x) ≡ Err why → c ≡ Err why
failed (Ok _) x why h = let z : ◌≡◌ {A = ℕ} 0 1 = cc in absurd (omega arith)
failed (Err other) x why h = cc

-- SHEETS
module _ (s : List ℕ) where
  pub sheet_meets : met (sheet_rules s (layout_of s)) ≡ 20 ∷ 21 ∷ 22 ∷ 23 ∷ 24 ∷ []
  sheet_meets = refl

  pub sheet_refused : (why : Refusal) → (sheet_of s ≡ Err why) ↔ Broken (sheet_rules s (layout_of s)) why
  unfolding sheet_of
  sheet_refused why =
      let rs = sheet_rules s (layout_of s) in
      (λ h. lowest rs why (failed (check rs) (layout_of s) why h), λ b. ap (λ (c : Check). result_and c (Ok (layout_of s))) (given b))

-- THE WRITER
module _ (p n count : ℕ) (values events : List ℕ) (room : ℕ) where
  pub writer_meets : met (writer_rules p n count values events room) ≡ 22 ∷ 24 ∷ 25 ∷ []
  writer_meets = refl

  pub writer_refused : (why : Refusal) → (written_of p n count values events room ≡ Err why) ↔ Broken (writer_rules p n count values events room) why
  unfolding written_of
  writer_refused why =
      let rs = writer_rules p n count values events room in
      (λ h. lowest rs why (failed (check rs) (sheet_size n count) why h), λ b. ap (λ (c : Check). result_and c (Ok (sheet_size n count))) (given b))
