-- What is looked at before a drawing is begun.
use Rattle.std.specs.Prelude.{ℕ, ◌≤◌, List, [], ◌∷◌, Ok, Err, Result}
use Rattle.book.specs.declared.Refusal.{Refusal}
use Rattle.structure.specs.Problem.{Numbers, Member, Problem}
use Rattle.structure.specs.Answers.{FirstHolds, NoneHolds, Ground, draw_grounds}

-- some number up to the last is in both sets
abbrev pub MeetBelow : Numbers → Numbers → ℕ → Type 0
MeetBelow s t last = (x : ℕ) × (x ≤ last) × Member s x × Member t x

-- the grounds that are looked at first
abbrev pub first_three : List Ground → List Ground
first_three [] = []
first_three (a ∷ []) = a ∷ []
first_three (a ∷ (b ∷ [])) = a ∷ (b ∷ [])
first_three (a ∷ (b ∷ (c ∷ gs))) = a ∷ (b ∷ (c ∷ []))

-- refused by the first of the first three grounds that holds, or none of them holds
abbrev pub Readied : Problem → Result (Unit {0}) Refusal → Type 0
Readied p (Ok _) = NoneHolds (first_three (draw_grounds p))
Readied p (Err e) = FirstHolds (first_three (draw_grounds p)) e
