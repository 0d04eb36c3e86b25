-- Without equations and ranges: what a new heap and a new store stand for.
use Rattle.std.proofs.Common.{ℕ, ◌<◌, [], None, refl, sym}
use Rattle.std.proofs.lemmas.Bool.{true≢false}
use Rattle.fd_language.specs.Term.{Var}
use Rattle.fd_language.specs.Family.{Family, universe}
use Rattle.fd_model.specs.Models.{IsModel}
use Rattle.fd_language.proofs.Lemmas.{identity, universe_rising}
use Rattle.fd_model.proofs.Lemmas.{closed_without}
use Rattle.branch_meaning.specs.Models.{HasModel}
use Rattle.branch_meaning.specs.Store.{IsStored}

no_ranges : (M N : ℕ) (S : Family) → IsModel M N [] [] S → (f : ℕ → ℕ) → IsModel M N [] [] (λ v. S (f v))
no_ranges M N S m f = record {
  unifier = Var;
  general = identity;
  closed = closed_without M N [] (λ v. S (f v)) (record { rising = λ v. m.closed.family.rising (f v) }) tt (λ v n c h. absurd (true≢false (sym c)));
  full = λ x c. absurd (true≢false (sym c));
}

pub nothing_stored : (M N n : ℕ) → IsStored M N [] [] (λ v. v < n) n Var (λ c. None) (λ v. v) []
nothing_stored M N n = record {
  heap = record { scoped = tt; unifies = tt; through = λ u k. (u, λ x l. refl); cells = λ x l. l };
  used = λ v c. absurd (true≢false (sym c));
  down = λ T m. no_ranges M N T m (λ v. v);
  up = λ S m. (S, no_ranges M N S m (λ v. v), λ v c. refl);
  agrees = λ T m v c. absurd (true≢false (sym c));
  slots = λ v c. absurd (true≢false (sym c));
  linked = λ v c d e. absurd (true≢false (sym d));
  from = λ c k e. absurd (cc);
}

-- a new store has a model
pub first_model : (M N : ℕ) → HasModel M N []
first_model M N = (
  λ x. universe M,
  record {
    unifier = Var;
    general = identity;
    closed = closed_without M N [] (λ x. universe M) (record { rising = λ x. universe_rising M }) tt (λ v n c h. absurd (true≢false (sym c)));
    full = λ x c. absurd (true≢false (sym c));
  },
)
