-- What a drawing answers for a book: the refusal, or the marks, the ranks and the counts. The rules leave no choice.
use Rattle.std.specs.Prelude.{◌≡◌, ℕ, ◌-◌, ◌≤◌, Bool, codes, true, false, cond, ◌⊎◌, ◌↔◌, List, [], ◌∷◌, length, IfOk, Ok, Err, count_by, Result, slice_index, slice_index_or}
use Rattle.std.specs.Option.{unwrap_or}
use Rattle.book.specs.declared.Refusal.{Refusal}
use Rattle.book.specs.declared.Refusal.TheVariants.{NothingWanted, NothingBought, WantedAndBought, Impossible}
use Rattle.book.specs.Asked.{where_inside}
use Rattle.structure.specs.declared.Mark.{Mark}
use Rattle.structure.specs.declared.Mark.TheVariants.{Unasked, Idle, Drawn}
use Rattle.structure.specs.Problem.{Numbers, Member, Problem}
use Rattle.structure.specs.Structures.{HasSolution, UnitInSome, MaterialInSome, UnionOfAll, HoldsEvery, Rank}
use Rattle.structure.specs.Supported.{NoneBoth}

-- what a sheet holds: the k-th mark is that of number k
pub record Drawing : Type 0 where
  pub unit_marks : List Mark
  pub material_marks : List Mark
  pub ranks : List ℕ
  pub units_drawn : ℕ
  pub materials_drawn : ℕ

abbrev pub is_drawn : Mark → Bool
is_drawn Unasked = false
is_drawn Idle = false
is_drawn Drawn = true

-- the word that a mark is printed as
abbrev pub word_of : Mark → List ℕ
word_of Unasked = codes "unasked"
word_of Idle = codes "idle"
word_of Drawn = codes "drawn"

-- the mark of number k; a number that has none is unasked
abbrev pub mark_of : List Mark → ℕ → Mark
mark_of marks k = unwrap_or (where_inside k (length marks) (slice_index_or marks (k - 1) Unasked)) Unasked

-- the rank of number k; a number that has none has rank 0
abbrev pub rank_of : List ℕ → ℕ → ℕ
rank_of ranks k = unwrap_or (where_inside k (length ranks) (slice_index ranks (k - 1))) 0

-- the numbers that are marked drawn
abbrev pub drawn : List Mark → Numbers
drawn marks k = is_drawn (mark_of marks k)

-- what a mark stands for after a draw, of something that the book may have and that solution-structures may have: some
-- solution-structure has it; the book has it, and no solution-structure; the book does not have it
abbrev pub Marked : (there in_some : Type 0) → Mark → Type 0
Marked there in_some Drawn = in_some
Marked there in_some Idle = there × (in_some → ⊥)
Marked there in_some Unasked = there → ⊥

-- the mark of something that is drawn or not, and that is there or not
abbrev pub mark_for : (drawn there : Bool) → Mark
mark_for drawn there = cond drawn Drawn (cond there Idle Unasked)

-- a unit is there if it stands, a material if the book has it
abbrev pub UnitMarked : Problem → ℕ → Mark → Type 0
UnitMarked p u = Marked (Member p.standing u) (UnitInSome p u)

abbrev pub MaterialMarked : Problem → ℕ → Mark → Type 0
MaterialMarked p x = Marked ((1 ≤ x) × (x ≤ p.materials)) (MaterialInSome p x)

-- a sheet that shows the maximal structure
pub record Shows (p : Problem) (d : Drawing) : Type 0 where
  pub unit_places : length d.unit_marks ≡ 1024
  pub material_places : length d.material_marks ≡ 1024
  pub rank_places : length d.ranks ≡ 1024
  pub units : (u : ℕ) → UnitMarked p u (mark_of d.unit_marks u)
  pub materials : (x : ℕ) → MaterialMarked p x (mark_of d.material_marks x)
  -- the rank of a drawn unit is that in the maximal structure; all others are 0
  pub ranked : (u : ℕ) → Member (drawn d.unit_marks) u → Rank p (drawn d.material_marks) (drawn d.unit_marks) u (rank_of d.ranks u)
  pub unranked : (u : ℕ) → (Member (drawn d.unit_marks) u → ⊥) → rank_of d.ranks u ≡ 0
  -- the counts are the numbers of drawn marks
  pub units_counted : d.units_drawn ≡ count_by is_drawn d.unit_marks
  pub materials_counted : d.materials_drawn ≡ count_by is_drawn d.material_marks

-- a ground to refuse: a condition, and the refusal that it leads to. Of an ordered list of grounds the first that holds
-- is given.
pub record Ground : Type 1 where
  pub holds : Type 0
  pub refusal : Refusal

-- e is the refusal of the first ground that holds
abbrev pub FirstHolds : List Ground → Refusal → Type 0
FirstHolds [] e = ⊥
FirstHolds (g ∷ gs) e = (g.holds × (e ≡ g.refusal)) ⊎ ((g.holds → ⊥) × FirstHolds gs e)

abbrev pub NoneHolds : List Ground → Type 0
NoneHolds [] = Unit {0}
NoneHolds (g ∷ gs) = (g.holds → ⊥) × NoneHolds gs

-- something is wanted; something is bought; some material is both
abbrev pub SomeWanted : Problem → Type 0
SomeWanted p = (x : ℕ) × Member p.wanted x

abbrev pub SomeBought : Problem → Type 0
SomeBought p = (x : ℕ) × Member p.bought x

abbrev pub SomeBoth : Problem → Type 0
SomeBoth p = (x : ℕ) × Member p.wanted x × Member p.bought x

-- why a draw is refused, in this order
abbrev pub draw_grounds : Problem → List Ground
draw_grounds p =
    record { holds = SomeWanted p → ⊥; refusal = NothingWanted }
    ∷ (record { holds = SomeBought p → ⊥; refusal = NothingBought }
    ∷ (record { holds = SomeBoth p; refusal = WantedAndBought }
    ∷ (record { holds = HasSolution p → ⊥; refusal = Impossible }
    ∷ [])))

-- what a draw answers. Accepted: no ground holds, and the sheet shows the maximal structure. Refused: by the first ground
-- that holds.
abbrev pub Draws : Problem → Result Drawing Refusal → Type 0
Draws p (Ok d) = NoneHolds (draw_grounds p) × Shows p d
Draws p (Err e) = FirstHolds (draw_grounds p) e

-- with something wanted, something bought and no material both, a draw is refused as impossible exactly if the standing
-- units hold no solution-structure
abbrev pub ImpossibleExactly : Problem → Result Drawing Refusal → Type 0
ImpossibleExactly p r = SomeWanted p → SomeBought p → NoneBoth p → (r ≡ Err Impossible) ↔ (HasSolution p → ⊥)

-- what is marked drawn is a solution-structure, and every other lies inside it
abbrev pub DrawnHoldsEvery : Problem → Result Drawing Refusal → Type 0
DrawnHoldsEvery p r = IfOk r (λ d. HoldsEvery p (drawn d.material_marks) (drawn d.unit_marks))

-- a unit or a material is marked drawn exactly if some solution-structure has it
abbrev pub DrawnExactlyInSome : Problem → Result Drawing Refusal → Type 0
DrawnExactlyInSome p r = IfOk r (λ d. UnionOfAll p (drawn d.material_marks) (drawn d.unit_marks))
