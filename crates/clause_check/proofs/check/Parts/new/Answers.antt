use Rattle.std.proofs.Common.{List, ap, subst, sym, map, length}
use Rattle.std.specs.Prelude.{All}
use Rattle.std.proofs.lemmas.List.Elements.{All-nil}
use Rattle.clause_check.specs.declared.program.QueryParts.{QueryParts}
use Rattle.clause_check.specs.GoalStores.{stored}
use Rattle.clause_check.specs.Parts.{IsQueryWithin}
use Rattle.clause_check.specs.Programs.{clause_by, query_by, query_kept, IsClause}
use Rattle.clause_check.proofs.check.Parts.new.Goals as goal

pub returns : goal.returns
returns c = λ N p. record {
  store = c.new.ensures p;
  clauses = subst (All (IsClause p (length c.new.result.goals.items))) (sym c.new-2.ensures.items) (All-nil (IsClause p (length c.new.result.goals.items)));
  queries = subst (λ (qs : List QueryParts). All (IsQueryWithin p (length c.new.result.goals.items)) (map query_kept qs)) (sym c.new-3.ensures.items)
      (All-nil (IsQueryWithin p (length c.new.result.goals.items)));
  clauses_are = ap (map (clause_by p (stored p c.new.result))) c.new-2.ensures.items;
  queries_are = ap (λ (qs : List QueryParts). map (query_by p (stored p c.new.result)) (map query_kept qs)) c.new-3.ensures.items;
}
