-- The queries of a program, as they are kept.
use Rattle.std.proofs.Common.{ℕ, ◌<◌, List, length, map, subst, slice_index_or}
use Rattle.std.specs.Prelude.{All}
use Rattle.std.proofs.lemmas.List.{length-map, get_or-map}
use Rattle.term_pool.specs.Contents.{Contents}
use Rattle.clause_check.specs.declared.program.QueryParts.{QueryParts}
use Rattle.clause_check.specs.Programs.{FlatQuery, no_query, query_kept, IsQuery}

-- the query with a number
pub query_kept_at : (c : Contents) (n : ℕ) (items : List QueryParts) (q : ℕ) (d : QueryParts) → All (IsQuery c n) (map query_kept items)
    → q < length (map query_kept items) → IsQuery c n (query_kept (slice_index_or items q d))
query_kept_at c n items q d h l =
    subst (λ (x : FlatQuery). IsQuery c n x) (get_or-map query_kept items q d no_query (subst (λ (m : ℕ). q < m) (length-map items query_kept) l)) (h q no_query l)
