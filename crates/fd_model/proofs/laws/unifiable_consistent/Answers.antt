use Rattle.fd_language.proofs.Lemmas.{solved}
use Rattle.fd_model.proofs.Models.{has_general}
use Rattle.fd_model.proofs.laws.unifiable_consistent.Goals as goal

pub returns : goal.returns
returns c = λ M N es ps u h some. (let g = has_general es u h (solved es) in record { unifier = g.0; general = g.1; some = some })
