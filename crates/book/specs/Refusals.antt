-- When the planner declines: each refusal's number and values, and which of several is given.
use Rattle.std.specs.Prelude.{ℕ, Bool, cond, List, [], ◌∷◌, Some, None, Option}
use Rattle.book.specs.declared.PageFault.{PageFault}
use Rattle.book.specs.declared.Refusal.{Refusal}
use Rattle.book.specs.declared.Refusal.TheVariants.{OutOfRange, BadList, NotFree, NotStanding, NothingWanted, NothingBought, WantedAndBought, Impossible, NotWithheld, BadPage, NoRoomForFeeders, MemoryTooShort}

-- what a refusal tells: its number, and for a bad page the place of the fault
pub record Told : Type 0 where
  pub number : ℕ
  pub place : Option PageFault

-- what each refusal stands for is said where the enum is declared; these are its number and its values
abbrev pub told : Refusal → Told
told OutOfRange = record { number = 1; place = None }
told BadList = record { number = 2; place = None }
told NotFree = record { number = 3; place = None }
told NotStanding = record { number = 4; place = None }
told NothingWanted = record { number = 5; place = None }
told NothingBought = record { number = 6; place = None }
told WantedAndBought = record { number = 7; place = None }
told Impossible = record { number = 8; place = None }
told NotWithheld = record { number = 9; place = None }
told (BadPage fault) = record { number = 10; place = Some fault }
told NoRoomForFeeders = record { number = 11; place = None }
told MemoryTooShort = record { number = 12; place = None }

-- a reason to decline a call: whether it holds, and the refusal that it leads to
pub record Reason : Type 0 where
  pub holds : Bool
  pub refusal : Refusal

-- a call has its reasons in an order of its own; the first that holds is given, and where none does the call is accepted
abbrev pub first_refusal : List Reason → Option Refusal
first_refusal [] = None
first_refusal (r ∷ rs) = cond r.holds (Some r.refusal) (first_refusal rs)
