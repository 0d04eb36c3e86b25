-- The files of which a text is put together, by the places at which the further ones begin.
use Rattle.std.specs.Prelude.{ℕ, ◌==◌, ◌&&◌, Bool, List, nat_le, filter, length}
use Rattle.fd_model.specs.Refusals.{Functor, same_functor}

-- how many files stand in front of the one that the place is of
abbrev pub file_of : List ℕ → ℕ → ℕ
file_of starts p = length (filter (λ s. nat_le s p) starts)

-- the place is of the last file
abbrev pub is_last : List ℕ → ℕ → Bool
is_last starts p = file_of starts p == length starts

-- a predicate in one file
pub record FilePredicate : Type 0 where
  pub file : ℕ
  pub functor : Functor

abbrev pub same_predicate : FilePredicate → FilePredicate → Bool
same_predicate k l = (k.file == l.file) && same_functor k.functor l.functor
