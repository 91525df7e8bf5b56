use Rattle.std.proofs.Common.{true, [], ◌∷◌, refl}
use Rattle.book.specs.declared.Refusal.TheVariants.{NothingWanted, NothingBought, WantedAndBought, Impossible}
use Rattle.book.specs.Asked.{plain}
use Rattle.book.specs.Layers.{season, feeders}
use Rattle.structure.specs.Farms.{wanted, bought, unit, farm, two_units, small_farm, one_unit, whey_back, eleven_units}
use Rattle.structure.proofs.Worked.{answers}
use Rattle.structure.proofs.worked_farms.Goals as goal

pub returns : goal.returns
returns c = record {
  small = answers small_farm refl;
  closed = (Impossible, refl, answers (season (true ∷ []) small_farm) refl);
  three_too = answers (two_units (wanted ∷ (bought ∷ (wanted ∷ (plain ∷ []))))) refl;
  four_for_one = (Impossible, refl, answers (two_units (plain ∷ (bought ∷ (plain ∷ (wanted ∷ []))))) refl);
  four_too = (Impossible, refl, answers (two_units (wanted ∷ (bought ∷ (plain ∷ (wanted ∷ []))))) refl);
  loop = answers (one_unit (1 ∷ []) (1 ∷ [])) refl;
  from_nothing = answers (one_unit [] (1 ∷ [])) refl;
  to_nothing = (Impossible, refl, answers (one_unit (1 ∷ []) []) refl);
  nothing_at_all = (Impossible, refl, answers (one_unit [] []) refl);
  makes_bought = (Impossible, refl, answers (farm (wanted ∷ (bought ∷ (bought ∷ []))) (unit (3 ∷ []) (1 ∷ (2 ∷ [])) ∷ [])) refl);
  bare = answers whey_back refl;
  fed = answers (feeders whey_back) refl;
  eleven = answers eleven_units refl;
  starved_twice = answers (farm (wanted ∷ (bought ∷ (plain ∷ (plain ∷ [])))) (unit (2 ∷ []) (1 ∷ []) ∷ (unit (3 ∷ []) (4 ∷ []) ∷ (unit (4 ∷ []) (1 ∷ []) ∷ [])))) refl;
  none_wanted = (NothingWanted, refl, answers (two_units (plain ∷ (bought ∷ (plain ∷ (plain ∷ []))))) refl);
  none_bought = (NothingBought, refl, answers (two_units (wanted ∷ (plain ∷ (plain ∷ (plain ∷ []))))) refl);
  both = (WantedAndBought, refl, answers (two_units (wanted ∷ (record { wanted = true; bought = true } ∷ (plain ∷ (plain ∷ []))))) refl);
}
