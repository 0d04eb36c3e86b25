-- What a warning says, and of which place.
use Rattle.std.specs.Prelude.{ℕ}
use Rattle.fd_language.specs.Term.{Name}
use Rattle.fd_model.specs.Refusals.{Functor}

pub data Concern : Type 0 where
  -- a variable of this name occurs once in its clause
  single : Name → Concern
  -- the clauses of a predicate don't stand together
  apart : Functor → Concern
  -- a predicate has clauses in two files
  two_files : Functor → Concern
  -- no query reaches a predicate
  unreached : Functor → Concern
  -- a number below 0 bounds a range, or a variable is compared with it
  below_zero : Concern
  -- a range ends below its first number
  empty_range : Concern
  -- a side of `=` is arithmetic
  unevaluated : Concern
  -- an arithmetic test needs the value of the variable of this name, which has only a domain
  open_test : Name → Concern
  -- `\+` stands over the variable of this name, which has only a domain
  open_negation : Name → Concern

-- a warning: the place of a byte, and what it says
pub record Warning : Type 0 where
  pub place : ℕ
  pub concern : Concern

abbrev pub warning : ℕ → Concern → Warning
warning p c = record { place = p; concern = c }
