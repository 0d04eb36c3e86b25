use Rattle.std.proofs.Common.{◌≡◌, ◌+◌, ◌∙◌, ap, length, arith, ℕ, List, map}
use Rattle.std.proofs.lemmas.List.{map_push, length-append}
use Rattle.clause_check.specs.Programs.{query_at}
use Rattle.term_pool.specs.declared.AtomId.{AtomId}
use Rattle.wam_code.specs.Area.{Span, span_of}
use Rattle.clause_compiler.specs.Sections.{IsQueryOf, its_span}
use Rattle.clause_compiler.proofs.PieceOffsets.{put_one}
use Rattle.clause_compiler.proofs.sections.put_queries.Goals as goal

abbrev span_by : ℕ → ℕ → List AtomId → Span
span_by at end names = record { at = at; end = end; names = names }

same_span : (a b e f : ℕ) (ms ns : List AtomId) → a ≡ b → e ≡ f → ms ≡ ns → span_by a e ms ≡ span_by b f ns
same_span a b e f ms ns g h i = ap (λ x. span_by x e ms) g ∙ ap (λ x. span_by b x ms) h ∙ ap (span_by b f) i

pub loop-query-preserved : goal.loop-query-preserved
loop-query-preserved c =
    let ps = c.args.predicates.now in
    let p = c.args.program.now in
    let w = c.in_ok-compile_query.ensures in
    put_one (its_span p) (IsQueryOf p ps) c.loop-query.query c.args.code.now.items c.loop-query.code.items c.compile_query.new.code.items
    (map span_of c.loop-query.queries.items) (map span_of c.push.new.self.items) c.loop-query.invariant
    w.0 (record { at = c.len-at.result; end = c.len.result; names = c.in_ok-names_of.field-0.items })
    w.2
    (same_span c.len-at.result (length c.loop-query.code.items) c.len.result (length c.loop-query.code.items + length w.0) c.in_ok-names_of.field-0.items (query_at p c.loop-query.query).names
    (omega arith)
    (let more = ap length w.1 in let l = length-append c.loop-query.code.items w.0 in omega (arith, more, l))
    (c.in_ok-names_of.ensures ∙ c.names.ensures.names))
    w.1
    (ap (map span_of) c.in_ok-push.ensures.items ∙ map_push span_of c.loop-query.queries.items _)
