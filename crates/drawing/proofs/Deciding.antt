-- What a drawing answers, from what its steps found.
use Rattle.std.proofs.Common.{◌≡◌, ℕ, zero, suc, ◌<◌, ◌≤◌, ltb, List, get_or, Ok, Err, Decides, refl, inl, inr, ⊎_elim, arith}
use Rattle.std.proofs.lemmas.Bool.{ltb-true, lt-ltb}
use Rattle.book.specs.declared.Refusal.{Refusal}
use Rattle.book.specs.declared.Refusal.TheVariants.{Impossible}
use Rattle.structure.specs.Problem.{Numbers, Member, Within, Problem, MadeIn, Bounded}
use Rattle.structure.specs.Structures.{Path, HasSolution}
use Rattle.structure.specs.Structures.Node.{unit}
use Rattle.structure.specs.Structures.Path.{made}
use Rattle.structure.specs.Supported.{Supported, Largest, any, AllMade, NoneBoth}
use Rattle.structure.specs.Answers.{Drawing, FirstHolds, NoneHolds, draw_grounds, Draws}
use Rattle.structure.proofs.Collecting.{made_or_not, none_where_unmade}
use Rattle.drawing.specs.Composition.{Composed}
use Rattle.drawing.specs.Picture.{ranked, Pictured}
use Rattle.drawing.specs.Ready.{first_three}
use Rattle.drawing.proofs.Showing.{shows, every}

-- refused before anything is drawn
pub refused_early : (p : Problem) (e : Refusal) → FirstHolds (first_three (draw_grounds p)) e → Draws p (Err e)
refused_early p e first =
    ⊎_elim inl (λ b. inr (b.0, ⊎_elim inl (λ c. inr (c.0, ⊎_elim inl (λ d. absurd d.1) c.1)) b.1)) first

-- units that have a rank stand
pub ranked_stand : (p : Problem) (g : Numbers) (ranks : List ℕ) → Composed p g ranks → Supported p g → Within (ranked ranks) p.standing
ranked_stand p g ranks composed supported u i = supported.stand u (by_rank (get_or ranks u 0) refl (ltb-true 0 (get_or ranks u 0) i))
  where
    first : (k : ℕ) → Path p any g (unit u) k → Member g u
    first k (made a b c d) = a

    by_rank : (r : ℕ) → get_or ranks u 0 ≡ r → 0 < r → Member g u
    by_rank zero e h = absurd (omega arith)
    by_rank (suc k) e h = first (suc k) (composed.ranked u k e).reached

module _ (p : Problem) (bounded : Bounded p) (early : NoneHolds (first_three (draw_grounds p))) (g : Numbers) (large : Largest p g) (makers : List ℕ)
    (counted : (x : ℕ) → Decides (ltb 0 (get_or makers x 0)) (MadeIn p g x)) where
  apart : NoneBoth p
  apart x w b = early.1.1.0 (x, w, b)

  -- where there is a solution-structure, each wanted material has a maker
  makers_wanted : HasSolution p → (x : ℕ) → Member p.wanted x → 0 < get_or makers x 0
  makers_wanted some x w =
      ltb-true 0 (get_or makers x 0)
      ((counted x).1 (⊎_elim (λ m. m) (λ none. absurd (none_where_unmade p bounded apart g large x w none some)) (made_or_not p bounded g large.supported.stand x)))

  pub refused_impossible : (((x : ℕ) → Member p.wanted x → 0 < get_or makers x 0) → ⊥) → Draws p (Err Impossible)
  refused_impossible unmade = inr (early.0, inr (early.1.0, inr (early.1.1.0, inl (λ some. unmade (makers_wanted some), refl))))

  pub all_made : ((x : ℕ) → Member p.wanted x → 0 < get_or makers x 0) → AllMade p g
  all_made makers-there x w = (counted x).0 (lt-ltb 0 (get_or makers x 0) (makers-there x w))

  pub accepted : p.units ≤ 1024 → p.materials ≤ 1024 → ((x : ℕ) → Member p.wanted x → 0 < get_or makers x 0) →
      (ranks : List ℕ) → Composed p g ranks → (d : Drawing) → Pictured p ranks d → Draws p (Ok d)
  accepted few_units few_materials there ranks composed d picture = (
    (early.0, (early.1.0, (early.1.1.0, (λ none. none (_, _, (every p bounded few_units few_materials g large (all_made there) ranks composed d picture).solution), tt)))),
    shows p bounded few_units few_materials g large (all_made there) ranks composed d picture,
  )
