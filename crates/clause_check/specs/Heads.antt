-- The functors of the heads of a text.
use Rattle.std.specs.Prelude.{◌≡◌, ◌<◌, ◌==◌, ◌&&◌, Bool, List, length}
use Rattle.std.specs.List.{list_any}
use Rattle.fd_language.specs.PlacedTerm.{PlacedTerm}
use Rattle.fd_model.specs.Refusals.{is_defined}
use Rattle.term_pool.specs.Contents.{Contents}
use Rattle.term_reader.specs.declared.reader.Sentences.{Sentences}
use Rattle.clause_check.specs.declared.terms.Functor.{Functor}
use Rattle.clause_check.specs.Terms.{terms_of, functor_in}

abbrev pub same_numbers : Functor → Functor → Bool
same_numbers f g = (f.name.number == g.name.number) && (f.arity == g.arity)

-- a functor is among them where it is that of the head of one of the terms
abbrev pub AreHeadsOf : Contents → List PlacedTerm → List Functor → Type 0
AreHeadsOf c terms heads = (f : Functor) → f.name.number < length c.names → list_any (same_numbers f) heads ≡ is_defined terms (functor_in c f)

abbrev pub AreHeads : Sentences → List Functor → Type 0
AreHeads s heads = AreHeadsOf s.pool (terms_of s) heads
