use Rattle.std.proofs.Common.{◌≡◌, ℕ, ◌+◌, ◌<◌, List, length, map, set, sym, ap, ◌∙◌, subst}
use Rattle.std.proofs.lemmas.List.{length-map}
use Rattle.clause_check.specs.declared.program.QueryParts.{QueryParts}
use Rattle.clause_check.specs.Programs.{FlatProgram, FlatQuery, program_in, program_of_parts, goals_in, query_at, query_kept, IsProgram}
use Rattle.clause_check.specs.FewerGoals.{keeping_of}
use Rattle.clause_check.proofs.FewerGoals.{with_fewer, fewer_is, fewer_known, same_names, part_sized, query_there, made_with_fewer}
use Rattle.clause_check.proofs.program.Program.keep_goals.Goals as goal

within : (items : List QueryParts) (p : FlatProgram) (q : ℕ) → p.queries ≡ map query_kept items → q < length p.queries → q < length items
within items p q e l = subst (λ (n : ℕ). q < n) (ap (λ (qs : List FlatQuery). length qs) e ∙ length-map items query_kept) l

-- before the goals are put
module _ (c : goal.After-put_kept-arg-1) where
  abbrev before : FlatProgram
  before = program_of_parts c.self.inside.pool c.self.inside.ranges.items c.self.inside.goals.items c.self.inside.clauses.items c.self.inside.queries.items

  here : c.args.q < length c.self.inside.queries.items
  here = within c.self.inside.queries.items c.args.self.now c.args.q (ap (λ (p : FlatProgram). p.queries) (sym c.self.view_is)) c.requires.query

  each : c.index.result.now.goals.from + length c.args.kept.now ≡ c.index.result.now.goals.to
  each =
      let own : c.args.q < length before.queries = subst (λ (p : FlatProgram). c.args.q < length p.queries) (sym c.self.view_is) c.requires.query in
      let all = c.requires.each ∙ ap (λ (p : FlatProgram). length (goals_in p (query_at p c.args.q).goals)) (sym c.self.view_is) in
      let known : IsProgram before = c.self.invariant in
      let there = query_there c.self.inside.pool c.self.inside.ranges.items c.self.inside.goals.items c.self.inside.clauses.items c.self.inside.queries.items c.args.q here c.index.result.now c.index.ensures in
      subst (λ (x : FlatQuery). x.goals.from + length c.args.kept.now ≡ x.goals.to) there (part_sized before known c.args.q c.args.kept.now own (length c.args.kept.now) all)

pub put_kept-requires-clause-each : goal.put_kept-requires-clause-each
put_kept-requires-clause-each c = each c

-- behind them
module _ (c : goal.After-self-1) where
  abbrev old : FlatProgram
  old = program_of_parts c.self.inside.pool c.self.inside.ranges.items c.self.inside.goals.items c.self.inside.clauses.items c.self.inside.queries.items

  known : IsProgram old
  known = c.self.invariant

  own : c.args.q < length old.queries
  own = subst (λ (p : FlatProgram). c.args.q < length p.queries) (sym c.self.view_is) c.requires.query

  made : program_of_parts c.self.inside.pool c.self.inside.ranges.items c.put_kept.new.goals.items c.self.inside.clauses.items
      (set c.self.inside.queries.items c.args.q (record { variables = c.index_mut.result.now.variables; names = c.index_mut.result.now.names; shown = c.index_mut.result.now.shown; goals = record { from = c.len-from.result; to = c.len-to.result } }))
      ≡ with_fewer old c.args.q c.args.kept.now
  made =
      let there = within c.self.inside.queries.items c.args.self.now c.args.q (ap (λ (p : FlatProgram). p.queries) (sym c.self.view_is)) c.requires.query in
      made_with_fewer c.self.inside.pool c.self.inside.ranges.items c.self.inside.goals.items c.self.inside.clauses.items c.self.inside.queries.items c.args.q there c.args.kept.now
      c.index.result.now c.index_mut.result.now c.len-from.result c.len-to.result c.put_kept.new.goals.items c.index.ensures c.index_mut.ensures.value c.in-Ok.ensures.kept
      (c.len-from.ensures ∙ c.self.inside.goals.ok.0) (c.len-to.ensures ∙ c.put_kept.new.goals.ok.0)

pub invariant_of-self : goal.invariant_of-self
invariant_of-self c = subst IsProgram (sym (made c)) (fewer_known (old c) (known c) c.args.q c.args.kept.now (own c))

pub returns-in-Ok-clause-kept : goal.returns-in-Ok-clause-kept
returns-in-Ok-clause-kept c =
    ap program_in (made c) ∙ fewer_is (old c) (known c) c.args.q c.args.kept.now (own c) ∙ ap (λ (p : FlatProgram). keeping_of c.args.q c.args.kept.now (program_in p)) c.self.view_is

pub returns-in-Ok-clause-names : goal.returns-in-Ok-clause-names
returns-in-Ok-clause-names c =
    let names = λ (p : FlatProgram). map (λ (x : FlatQuery). x.names) p.queries in
    ap names (made c) ∙ same_names (old c) (known c) c.args.q c.args.kept.now (own c) ∙ ap names c.self.view_is
