-- Each compound term of a text has an argument.
use Rattle.std.specs.Prelude.{All}
use Rattle.fd_language.specs.PlacedTerm.{PlacedTerm, PlacedTerms, var, int, atom, comp, no_parts, part}
use Rattle.term_pool.specs.PlacedTerms.{placed_of}
use Rattle.term_reader.specs.declared.reader.Sentences.{Sentences}

abbrev pub AreSome : PlacedTerms → Type 0
AreSome no_parts = ⊥
AreSome (part t ts) = Unit {0}

abbrev mutual
  pub HasParts : PlacedTerm → Type 0
  HasParts (var x p) = Unit {0}
  HasParts (int z p) = Unit {0}
  HasParts (atom a p) = Unit {0}
  HasParts (comp f p ts) = AreSome ts × EachHasParts ts

  pub EachHasParts : PlacedTerms → Type 0
  EachHasParts no_parts = Unit {0}
  EachHasParts (part t ts) = HasParts t × EachHasParts ts

abbrev pub HaveParts : Sentences → Type 0
HaveParts s = All (λ x. HasParts (placed_of s.pool x.term)) s.list.items
