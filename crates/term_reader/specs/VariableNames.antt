-- The variables of a sentence have names.
use Rattle.std.specs.Prelude.{ℕ, ◌<◌, length, All}
use Rattle.fd_language.specs.Term.{Term, Terms, Var, Int, Atom, Comp, no_terms, term}
use Rattle.term_pool.specs.Contents.{Contents}
use Rattle.term_pool.specs.Terms.{term_of}
use Rattle.term_reader.specs.declared.reader.Sentence.{Sentence}
use Rattle.term_reader.specs.declared.reader.Sentences.{Sentences}

-- the numbers of the term's variables are below n
abbrev mutual
  pub VariablesBelow : ℕ → Term → Type 0
  VariablesBelow n (Var x) = x < n
  VariablesBelow n (Int z) = Unit {0}
  VariablesBelow n (Atom a) = Unit {0}
  VariablesBelow n (Comp f ts) = AllVariablesBelow n ts

  pub AllVariablesBelow : ℕ → Terms → Type 0
  AllVariablesBelow n no_terms = Unit {0}
  AllVariablesBelow n (term t ts) = VariablesBelow n t × AllVariablesBelow n ts

-- each variable of the sentence's term has a name
pub record HasNames (c : Contents) (s : Sentence) : Type 0 where
  pub below : VariablesBelow (length s.names.items) (term_of c s.term)

abbrev pub HaveNames : Sentences → Type 0
HaveNames s = All (HasNames s.pool) s.list.items
