-- What the edits of a page book look for, and what they write.
use Rattle.std.specs.Prelude.{ℕ, ◌+◌, cond, List, ◌∷◌, ◌++◌, length, take, drop, Ok, Err, Result}
use Rattle.book.specs.declared.Refusal.{Refusal}
use Rattle.book.specs.declared.Refusal.TheVariants.{NotWithheld}
use Rattle.book.specs.Meaning.{Fitted, Meaning}
use Rattle.book.specs.Declined.{withheld_at}
use Rattle.page.specs.Layout.{letter_width, number_width, list_width}
use Rattle.page.specs.Format.{list_bytes}
use Rattle.pagebook.specs.declared.lines.UnitLine.{UnitLine}
use Rattle.pagebook.specs.Places.{line_of}

-- the line of unit k, where a withheld unit is looked for: any other number is refused
abbrev pub withheld_line : Meaning → ℕ → Result UnitLine Refusal
withheld_line m k = cond (withheld_at m k) (Ok (line_of m k)) (Err NotWithheld)

-- the bytes with a part written over those from place p on
abbrev pub over : ℕ → List ℕ → List ℕ → List ℕ
over p part bytes = take p bytes ++ (part ++ drop (p + length part) bytes)

-- a unit's line with another letter and other lists: its number and its newline stay
abbrev pub refitted : ℕ → Fitted → List ℕ → List ℕ
refitted letter f line =
    letter ∷ (take number_width (drop letter_width line) ++ (list_bytes f.inputs ++ (list_bytes f.outputs ++ drop (letter_width + number_width + list_width + list_width) line)))
