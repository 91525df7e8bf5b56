-- Needs in a list, and their ranks.
use Rattle.std.proofs.Common.{◌≡◌, ℕ, ◌+◌, ◌≤◌, ◌⊎◌, List, [], ◌∷◌, ◌++◌, ap, ◌∙◌, inl, inr, ⊎_elim, arith}
use Rattle.drawing.specs.declared.composition.Need.{Need}
use Rattle.drawing.specs.Composition.{Among, Awaited, Level, Levels}

pub among_left : (n : Need) (q s : List Need) → Among n q → Among n (q ++ s)
among_left n [] s i = absurd i
among_left n (m ∷ q) s (inl e) = inl e
among_left n (m ∷ q) s (inr i) = inr (among_left n q s i)

pub among_right : (n : Need) (q s : List Need) → Among n s → Among n (q ++ s)
among_right n [] s i = i
among_right n (m ∷ q) s i = inr (among_right n q s i)

pub among_cases : (n : Need) (q s : List Need) → Among n (q ++ s) → Among n q ⊎ Among n s
among_cases n [] s i = inr i
among_cases n (m ∷ q) s (inl e) = inl (inl e)
among_cases n (m ∷ q) s (inr i) = ⊎_elim (λ j. inl (inr j)) inr (among_cases n q s i)

pub awaited_left : (q s : List Need) (x : ℕ) → Awaited q x → Awaited (q ++ s) x
awaited_left q s x (n, i, e) = (n, among_left n q s i, e)

pub awaited_right : (q s : List Need) (x : ℕ) → Awaited s x → Awaited (q ++ s) x
awaited_right q s x (n, i, e) = (n, among_right n q s i, e)

pub level_append : (r : ℕ) (q s : List Need) → Level r q → Level r s → Level r (q ++ s)
level_append r [] s l m = m
level_append r (n ∷ q) s l m = (l.0, level_append r q s l.1 m)

-- a list of one rank is the first part of two ranks, or the second
pub level_first : (r : ℕ) (q : List Need) → Level r q → Levels r q
level_first r [] l = tt
level_first r (n ∷ q) l = inl (l.0, level_first r q l.1)

pub level_second : (r : ℕ) (q : List Need) → Level (r + 1) q → Levels r q
level_second r [] l = tt
level_second r (n ∷ q) l = inr l

pub levels_append : (r : ℕ) (q s : List Need) → Levels r q → Level (r + 1) s → Levels r (q ++ s)
levels_append r [] s l m = level_second r s m
levels_append r (n ∷ q) s (inl l) m = inl (l.0, levels_append r q s l.1 m)
levels_append r (n ∷ q) s (inr l) m = inr (level_append (r + 1) (n ∷ q) s l m)

pub levels_rest : (r : ℕ) (n : Need) (q : List Need) → Levels r (n ∷ q) → Levels r q
levels_rest r n q (inl l) = l.1
levels_rest r n q (inr l) = level_second r q l.1

pub level_rank : (r : ℕ) (q : List Need) (n : Need) → Level r q → Among n q → n.rank ≡ r
level_rank r [] n l i = absurd i
level_rank r (m ∷ q) n l (inl e) = ap (λ (z : Need). z.rank) e ∙ l.0
level_rank r (m ∷ q) n l (inr i) = level_rank r q n l.1 i

pub levels_rank : (r : ℕ) (q : List Need) (n : Need) → Levels r q → Among n q → r ≤ n.rank
levels_rank r [] n l i = absurd i
levels_rank r (m ∷ q) n (inl l) (inl e) = omega (arith, ap (λ (z : Need). z.rank) e, l.0)
levels_rank r (m ∷ q) n (inl l) (inr i) = levels_rank r q n l.1 i
levels_rank r (m ∷ q) n (inr l) i = omega (arith, level_rank (r + 1) (m ∷ q) n l i)
