-- The power of ten of a width tells which numbers go into it.
use Rattle.std.proofs.Common.{◌≡◌, ℕ, ◌+◌, ◌%◌, ◌/◌, ◌^◌, ◌<◌, ◌≤◌, List, [], ◌∷◌, ◌++◌, length, decimal, min, ap, inl, inr, arith, length-append, rules}
use Rattle.std.proofs.Math.Nat.{pow-le-pow_right}
use Rattle.std.proofs.lemmas.Bool.{cases_lt}
use Rattle.std.proofs.lemmas.Grind.{pow_more}
use Rattle.std.proofs.lemmas.Fmt.{decimal_nonempty, decimal_by_steps}
use Rattle.columns.specs.Columns.{Fits}
use Rattle.columns.proofs.Laws.{fits_below, small_64}
use Rattle.columns.proofs.fits.Goals as goal

-- a number is below the power of ten of as many digits
below_power : (n : ℕ) → n < 2 ^ 64 → n < 10 ^ length (decimal n)
below_power = decimal_by_steps (λ m ds. m < 10 ^ length ds) (λ m l. omega arith) more where
  more : (m : ℕ) (ds : List ℕ) → 10 ≤ m → m / 10 < 10 ^ length ds → m < 10 ^ length (ds ++ ((48 + m % 10) ∷ []))
  more m ds l h = omega (arith, ap (λ k. 10 ^ k) (length-append ds ((48 + m % 10) ∷ [])), pow_more 10 (length ds))

-- what fits is below the power of ten of the width, and of nine
fits_power : (w n : ℕ) → Fits w n → n < 10 ^ min w 9
fits_power w n f = elim (cases_lt w 9) [
  | inl h ↦
      let e : min w 9 ≡ w = omega arith in
      let up : 10 ^ length (decimal n) ≤ 10 ^ w = pow-le-pow_right {n = 10} (omega arith) f.narrow in
      rw e (omega (arith, below_power n (small_64 n f.small)))
  | inr h ↦ let e : min w 9 ≡ 9 = omega arith in rw e (omega (arith, f.small))
]

-- what is below both powers fits
power_fits : (w n : ℕ) → 0 < w → n < 10 ^ min w 9 → Fits w n
power_fits w n some h =
    let narrow : min w 9 ≤ w = omega arith in
    let short : min w 9 ≤ 9 = omega arith in
    let wide : 10 ^ min w 9 ≤ 10 ^ w = pow-le-pow_right {n = 10} (omega arith) narrow in
    let most : 10 ^ min w 9 ≤ 10 ^ 9 = pow-le-pow_right {n = 10} (omega arith) short in
    fits_below w n some (omega arith) (omega arith)

pub returns : goal.returns
returns c =
    let n = c.args.number in
    let w = c.args.width in
    let none : Fits w n → 1 ≤ w = λ f. omega (arith, f.narrow, decimal_nonempty n (omega arith)) in
    grind (arith, rules, none, fits_power w n, power_fits w n)
