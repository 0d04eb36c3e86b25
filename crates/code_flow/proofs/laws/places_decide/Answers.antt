use Rattle.code_flow.proofs.PlaceConditions.{verified_fits, fits_verified}
use Rattle.code_flow.proofs.laws.places_decide.Goals as goal

pub returns : goal.returns
returns c = record {
  meets = λ a ss. (verified_fits a ss, fits_verified a ss);
  none_fails = λ a ss at v f. f.fails (verified_fits a ss v at);
}
