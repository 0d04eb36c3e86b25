-- The code of a text's program may run its queries.
use Rattle.std.proofs.Common.{◌≡◌, ℕ, zero, suc, ◌<◌, List, [], ◌∷◌, All, map, length, slice_get, slice_index_or, Some, option_map, refl, ap, sym, ◌∙◌, subst}
use Rattle.std.proofs.Common.{arith}
use Rattle.std.proofs.lemmas.List.{length-map, get_or-map}
use Rattle.std.proofs.lemmas.Option.{slice_get-map, slice_get-get_or}
use Rattle.fd_language.specs.declared.TheConstants.{INFINITY}
use Rattle.fd_model.specs.Goal.{Program, Query}
use Rattle.fd_model.specs.RunnablePrograms.{EachBelow, NumbersBelow, AreRunnable, QueriesScoped, QueriesRunnable}
use Rattle.term_pool.specs.declared.AtomId.{AtomId}
use Rattle.term_pool.specs.Contents.{atom_name}
use Rattle.clause_check.specs.Programs.{FlatProgram, IsProgram, no_query, query_at, query_in, program_in}
use Rattle.wam_code.specs.declared.parts.QueryEntry.{QueryEntry}
use Rattle.wam_code.specs.declared.parts.CodeParts.{CodeParts}
use Rattle.wam_code.specs.Area.{Area, Span, span_of, area_of}
use Rattle.wam_code.specs.Tries.{IsQueryCode, AreQueries, StandsForProgram}
use Rattle.wam_code.specs.VerifiedCode.{IsAtom, IsVerified}
use Rattle.code_machine.specs.States.{MayRun, no_span, names_in}
use Rattle.text_output.specs.Endings.{RunsProgram}

-- the query with a number, and its code
query_at_code : (area : Area) (qs : List Query) (cs : List Span) → AreQueries area qs cs → (i : ℕ) → i < length cs
    → (q : Query) × (c : Span) × (slice_get qs i ≡ Some q) × (slice_get cs i ≡ Some c) × IsQueryCode area q c
query_at_code area qs [] h i l = absurd (omega (arith, l))
query_at_code area [] (c ∷ cs) h i l = absurd h
query_at_code area (q ∷ qs) (c ∷ cs) h zero l = (q, c, refl, refl, h.0)
query_at_code area (q ∷ qs) (c ∷ cs) h (suc i) l = query_at_code area qs cs h.1 i (omega (arith, l))

same_length : (area : Area) (qs : List Query) (cs : List Span) → AreQueries area qs cs → length qs ≡ length cs
same_length area [] [] h = refl
same_length area [] (c ∷ cs) h = absurd h
same_length area (q ∷ qs) [] h = absurd h
same_length area (q ∷ qs) (c ∷ cs) h = ap suc (same_length area qs cs h.1)

scoped_at : (qs : List Query) → QueriesScoped qs → (i : ℕ) (q : Query) → slice_get qs i ≡ Some q → NumbersBelow q.variables q.shown × EachBelow q.variables q.goals
scoped_at [] h i q e = absurd (cc (e))
scoped_at (p ∷ qs) h zero q e =
    let same : p ≡ q = cc (e) in
    subst (λ (x : Query). NumbersBelow x.variables x.shown × EachBelow x.variables x.goals) same h.0
scoped_at (p ∷ qs) h (suc i) q e = scoped_at qs h.1 i q e

runnable_at : (qs : List Query) → QueriesRunnable INFINITY qs → (i : ℕ) (q : Query) → slice_get qs i ≡ Some q → AreRunnable INFINITY q.goals
runnable_at [] h i q e = absurd (cc (e))
runnable_at (p ∷ qs) h zero q e =
    let same : p ≡ q = cc (e) in
    subst (λ (x : Query). AreRunnable INFINITY x.goals) same h.0
runnable_at (p ∷ qs) h (suc i) q e = runnable_at qs h.1 i q e

-- Code that stands for a program may run each of its queries, by the same number.
pub may_run_query : (area : Area) (prog : Program) → RunsProgram area prog → (i : ℕ) → i < length area.queries → (q : Query) × (slice_get prog.queries i ≡ Some q) × MayRun area i prog q
may_run_query area prog runs i l =
    let c = query_at_code area prog.queries area.queries runs.stands.queries i l in
    let s = scoped_at prog.queries runs.scoped.queries i c.0 c.2 in (
      c.0,
      c.2,
      record {
        ready = record { stands = runs.stands; scoped = runs.scoped.clauses; runnable = runs.runnable };
        span = c.1;
        has = c.3;
        code = c.4;
        below = s.1;
        shown = s.0;
        runnable = runnable_at prog.queries runs.runnable.queries i c.0 c.2;
      },
    )

-- as many as it has
pub same_queries : (area : Area) (prog : Program) → RunsProgram area prog → length prog.queries ≡ length area.queries
same_queries area prog runs = same_length area prog.queries area.queries runs.stands.queries

-- The code of a text's program stands for it.
pub runs_program : (area : Area) (p : FlatProgram) → IsProgram p → StandsForProgram area (program_in p) → RunsProgram area (program_in p)
runs_program area p known stands = record { stands = stands; scoped = known.scoped; runnable = known.runnable }

-- The code has a text's query,
pub has_query : (area : Area) (p : FlatProgram) → StandsForProgram area (program_in p) → (i : ℕ) → i < length p.queries → i < length area.queries
has_query area p stands i l =
    let same = same_length area (program_in p).queries area.queries stands.queries in
    let size = length-map p.queries (query_in p) in
    omega (arith, l, same, size)

-- and may run it by the same number.
pub may_run : (area : Area) (p : FlatProgram) → IsProgram p → StandsForProgram area (program_in p) → (i : ℕ) → i < length p.queries → MayRun area i (program_in p) (query_in p (query_at p i))
may_run area p known stands i l =
    let m = may_run_query area (program_in p) (runs_program area p known stands) i (has_query area p stands i l) in
    let there : slice_get (program_in p).queries i ≡ Some (query_in p (query_at p i)) = slice_get-map (query_in p) p.queries i
    ∙ ap (option_map (query_in p)) (slice_get-get_or p.queries i no_query l) in
    let same : m.0 ≡ query_in p (query_at p i) = (let e : Some m.0 ≡ Some (query_in p (query_at p i)) = sym m.1 ∙ there in cc (e)) in
    subst (MayRun area i (program_in p)) same m.2

names_own : (a : Area) → IsVerified a → (i : ℕ) → i < length a.queries → All (IsAtom a) (slice_index_or a.queries i no_span).names
names_own a v i l = v.1.query_names i no_span l

-- The names of a query stand in the parts of its code, and are atoms of its pool.
pub names_kept : (parts : CodeParts) (area : Area) → area_of parts ≡ area → IsVerified area → (i : ℕ) → i < length area.queries → (q : QueryEntry)
    → q ≡ slice_index_or parts.queries.items i q → (ns : List AtomId) → ns ≡ q.names.items
    → All (λ a. a.number < length parts.pool.names) ns × (map (atom_name parts.pool) ns ≡ names_in area i)
names_kept parts area e v i l q is ns named =
    let own : Area = area_of parts in
    let low : i < length own.queries = subst (λ (a : Area). i < length a.queries) (sym e) l in
    let size = length-map parts.queries.items span_of in
    let short : i < length parts.queries.items = omega (arith, low, size) in
    let same : slice_index_or own.queries i no_span ≡ span_of q = get_or-map span_of parts.queries.items i q no_span short ∙ ap span_of (sym is) in
    let names : (slice_index_or own.queries i no_span).names ≡ ns = ap (λ (s : Span). s.names) same ∙ sym named in
    (subst (All (IsAtom own)) names (names_own own (subst IsVerified (sym e) v) i low), ap (map (atom_name parts.pool)) (sym names) ∙ ap (λ (a : Area). names_in a i) e)
