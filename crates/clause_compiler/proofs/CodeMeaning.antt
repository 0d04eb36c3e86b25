-- Laid out code stands for its program.
use Rattle.std.proofs.Common.{◌≡◌, ℕ, suc, ◌+◌, List, [], ◌∷◌, Some, length, slice_get, refl, sym, subst, arith}
use Rattle.std.proofs.lemmas.Option.{slice_get_within}
use Rattle.fd_model.specs.Goal.{Program, Query, marked_all}
use Rattle.wam_code.specs.Area.{Area, Span, HasQuery}
use Rattle.wam_code.specs.CodeMeaning.{Means}
use Rattle.wam_code.specs.Tries.{IsQueryCode, AreQueries, StandsForProgram}
use Rattle.clause_compiler.specs.Layout.{joined, offset, IsLaidOut}
use Rattle.clause_compiler.proofs.Lists.{get_there}
use Rattle.clause_compiler.proofs.CodePlaces.{from_clauses, holds_query}
use Rattle.clause_compiler.proofs.Listing.{stand_at}

all_queries : (a : Area) (qs : List Query) (ss : List Span) → length ss ≡ length qs
    → ((k : ℕ) (q : Query) (s : Span) → slice_get qs k ≡ Some q → slice_get ss k ≡ Some s → IsQueryCode a q s) → AreQueries a qs ss
all_queries a [] [] e h = tt
all_queries a [] (s ∷ ss) e h = absurd (omega (arith, e))
all_queries a (q ∷ qs) [] e h = absurd (omega (arith, e))
all_queries a (q ∷ qs) (s ∷ ss) e h = (h 0 q s refl refl, all_queries a qs ss (omega (arith, e)) (λ k. h (suc k)))

pub laid_out_stands : (a : Area) (prog : Program) → IsLaidOut a prog → StandsForProgram a prog
laid_out_stands a prog l = record { predicates = l.predicates; queries = all_queries a prog.queries a.queries l.each_span one }
  where
    one : (k : ℕ) (q : Query) (s : Span) → slice_get prog.queries k ≡ Some q → HasQuery a k s → IsQueryCode a q s
    one k q s e f =
        let b = slice_get_within prog.queries k q e in
        let m = l.each_query in
        let is = get_there l.queries k (omega (arith, b, m)) in
        let c = l.query k q s is.0 e f is.1 in
        let at = from_clauses a prog l + (length (joined l.clauses) + offset l.queries k) in
        record {
          names = c.names;
          shown = c.shown;
          means = λ p noted before. subst (λ o. Means a (record { goals = []; shown = q.shown }) o p [] (marked_all 0 q.goals)) (sym c.begins)
              (c.code.means a refl (stand_at a at is.0 (λ n i g. holds_query a prog l k n is.0 i is.1 g)) p noted before);
        }
