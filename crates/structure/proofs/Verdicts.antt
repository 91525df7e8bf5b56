-- What a draw answers is computed: for every bounded problem that a sheet has room for there is an answer that keeps to the rules.
use Rattle.std.proofs.Common.{◌≡◌, ℕ, suc, ◌≤◌, Bool, true, cond, ◌&&◌, leb, get_or, Ok, Err, Decides, Result, refl, inl, inr, arith}
use Rattle.std.proofs.lemmas.Bool.{cond_both, leb-false, false_from_ne_true}
use Rattle.std.proofs.lemmas.Bool.Decides.{Decides-and, Decides-like, not_from_Decides}
use Rattle.book.specs.declared.Refusal.{Refusal}
use Rattle.book.specs.declared.Refusal.TheVariants.{NothingWanted, NothingBought, WantedAndBought, Impossible}
use Rattle.structure.specs.Problem.{Numbers, Member, Problem, Bounded}
use Rattle.structure.specs.Answers.{Drawing, SomeWanted, SomeBought, SomeBoth, Shows, Draws}
use Rattle.structure.proofs.Unions.{holds_every_is_union}
use Rattle.structure.proofs.Searches.{itself, some_below, is_some_below}
use Rattle.structure.proofs.Sweeps.{swept}
use Rattle.structure.proofs.Levels.{ranks}
use Rattle.structure.proofs.Maximal.{maximal_units, maximal_materials, possible, maximal_holds_every, maximal_ranks, possible_decides}
use Rattle.structure.proofs.Sheets.{sheet, sheet_shows}

-- some material is in the set
abbrev some_of : Problem → Numbers → Bool
some_of p s = some_below s (suc p.materials)

-- the sheet of the maximal structure
abbrev pub drawing : Problem → Drawing
drawing p = sheet p (maximal_materials p) (maximal_units p) (λ u. get_or (ranks p (swept p)) u 0)

-- the answer: the first refusal whose ground holds, or the sheet. Each step is what is left once the grounds before it are ruled out.
abbrev where_apart : Problem → Result Drawing Refusal
where_apart p = cond (possible p) (Ok (drawing p)) (Err Impossible)

abbrev where_bought : Problem → Result Drawing Refusal
where_bought p = cond (some_of p (λ x. p.wanted x && p.bought x)) (Err WantedAndBought) (where_apart p)

abbrev where_wanted : Problem → Result Drawing Refusal
where_wanted p = cond (some_of p p.bought) (where_bought p) (Err NothingBought)

abbrev pub verdict : Problem → Result Drawing Refusal
verdict p = cond (some_of p p.wanted) (where_wanted p) (Err NothingWanted)

module _ (p : Problem) (bounded : Bounded p) where
  -- whether there is a material in a set of known ones
  is_some_of : (s : Numbers) (P : ℕ → Type 0) → ((x : ℕ) → Decides (s x) (P x)) → ((x : ℕ) → P x → x ≤ p.materials) → Decides (some_of p s) ((x : ℕ) × P x)
  is_some_of s P tells known =
      Decides-like (some_of p s) (λ w. (w.0, w.2)) (λ w. (w.0, omega (arith, known w.0 w.1), w.1)) (is_some_below s P tells (suc p.materials))

  is_some_wanted : Decides (some_of p p.wanted) (SomeWanted p)
  is_some_wanted = is_some_of p.wanted (Member p.wanted) (λ x. itself (p.wanted x)) (λ x i. (bounded.wanted_known x i).1)

  is_some_bought : Decides (some_of p p.bought) (SomeBought p)
  is_some_bought = is_some_of p.bought (Member p.bought) (λ x. itself (p.bought x)) (λ x i. (bounded.bought_known x i).1)

  is_some_both : Decides (some_of p (λ x. p.wanted x && p.bought x)) (SomeBoth p)
  is_some_both =
      Decides-like (some_of p (λ x. p.wanted x && p.bought x)) (λ w. (w.0, w.1.0, w.1.1)) (λ w. (w.0, (w.1, w.2)))
      (is_some_of (λ x. p.wanted x && p.bought x) (λ x. Member p.wanted x × Member p.bought x)
      (λ x. Decides-and (p.wanted x) (p.bought x) (itself (p.wanted x)) (itself (p.bought x))) (λ x i. (bounded.wanted_known x i.0).1))

  module _ (few_units : p.units ≤ 1024) (few_materials : p.materials ≤ 1024) where
    -- the sheet shows the maximal structure, where there is one
    drawing_shows : possible p ≡ true → Shows p (drawing p)
    drawing_shows e =
        let all = holds_every_is_union p (maximal_materials p) (maximal_units p) (maximal_holds_every p bounded e) in
        sheet_shows p bounded (maximal_materials p) (maximal_units p) all few_units few_materials (λ u. get_or (ranks p (swept p)) u 0) (maximal_ranks p bounded e)
        (λ u out. let r = get_or (ranks p (swept p)) u 0 in omega (arith, leb-false 1 r (false_from_ne_true (leb 1 r) out)))

    -- the answer keeps to the rules, from the last ground to the first
    apart_draws : SomeWanted p → SomeBought p → (SomeBoth p → ⊥) → Draws p (where_apart p)
    apart_draws w b apart =
        let decides = possible_decides p bounded (λ x i j. apart (x, i, j)) in
        cond_both (possible p) (Ok (drawing p)) (Err Impossible) (Draws p)
        (λ e. ((λ none. none w, (λ none. none b, (apart, (λ none. none (decides.0 e), tt)))), drawing_shows e))
        (λ e. inr (λ none. none w, inr (λ none. none b, inr (apart, inl (not_from_Decides (possible p) decides e, refl)))))

    bought_draws : SomeWanted p → SomeBought p → Draws p (where_bought p)
    bought_draws w b =
        let both = some_of p (λ x. p.wanted x && p.bought x) in
        cond_both both (Err WantedAndBought) (where_apart p) (Draws p)
        (λ e. inr (λ none. none w, inr (λ none. none b, inl (is_some_both.0 e, refl))))
        (λ e. apart_draws w b (not_from_Decides both is_some_both e))

    wanted_draws : SomeWanted p → Draws p (where_wanted p)
    wanted_draws w =
        let some = some_of p p.bought in
        cond_both some (where_bought p) (Err NothingBought) (Draws p)
        (λ e. bought_draws w (is_some_bought.0 e))
        (λ e. inr (λ none. none w, inl (not_from_Decides some is_some_bought e, refl)))

    pub verdict_draws : Draws p (verdict p)
    verdict_draws =
        let some = some_of p p.wanted in
        cond_both some (where_wanted p) (Err NothingWanted) (Draws p)
        (λ e. wanted_draws (is_some_wanted.0 e))
        (λ e. inl (not_from_Decides some is_some_wanted e, refl))
