-- What the letters of a page stand for.
use Rattle.std.specs.Prelude.{◌≡◌, ℕ, Some, None, Option, ◌≢◌}
use Rattle.book.specs.declared.books.State.{State}
use Rattle.book.specs.declared.books.State.TheVariants.{Free, Standing, Withheld}

-- the letter of a unit number's state: '-' free, 'S' standing, 'W' withheld
abbrev pub letter_of_state : State → ℕ
letter_of_state Free = 45
letter_of_state Standing = 83
letter_of_state Withheld = 87

-- what a letter is read as: the value whose letter it is, or absence where it is the letter of none
abbrev pub StandsFor : {X : Type 0} → (letter_of : X → ℕ) → ℕ → Option X → Type 0
StandsFor letter_of letter (Some x) = letter_of x ≡ letter
StandsFor {X} letter_of letter None = (x : X) → letter_of x ≢ letter
