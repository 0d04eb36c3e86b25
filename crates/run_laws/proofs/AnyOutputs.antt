-- The queries of an accepted text write the same, whichever most general unifiers their runs take.
use Rattle.std.proofs.Common.{◌≡◌, ℕ, ◌+◌, Bool, List, [], ◌∷◌, map, Option, Some, None, refl, subst, inl, inr}
use Rattle.fd_language.specs.Reading.{Sentence, sentences}
use Rattle.fd_language.specs.Reading as reading
use Rattle.fd_model.specs.Goal.{Program, Query}
use Rattle.fd_model.specs.Output.{Queries}
use Rattle.fd_model.specs.ProgramLaws.{ScopedProgram}
use Rattle.fd_model.specs.Queries.{program_of}
use Rattle.fd_model.specs.Refusals.{Refusal, first_refusal}
use Rattle.fd_model.specs.RunnablePrograms.{IsRunnableProgram, QueriesRunnable, QueriesScoped, ClausesScoped}
use Rattle.fd_model.specs.Verdict.{accepted, sentences_verdict, reading_verdict, IsVerdict}
use Rattle.fd_model.proofs.Lemmas.{accepted_runnable}
use Rattle.run_laws.specs.AnyUnifiers.{AnyQueries}
use Rattle.run_laws.specs.Laws.{AnyRuns, AnyOutput}
use Rattle.run_laws.proofs.AnyRuns.{any_run_is, run_any}
use Rattle.fd_model.proofs.Lemmas.{not_accepted}

pub any_runs : AnyRuns
any_runs M N prog q n k runnable runs scoped low es r = (any_run_is M N prog runnable scoped q runs low n k es r, λ a. run_any M N prog q a)

-- ---- the program of an accepted text is runnable

accepted_runs : (M N : ℕ) (ss : List Sentence) (o : Option Refusal) (prog : Program) → first_refusal M N (map (λ s. s.term) ss) (map (λ s. s.term) ss) ≡ o
    → accepted prog ≡ sentences_verdict N ss o → IsRunnableProgram M prog
accepted_runs M N ss None prog i e = let k : program_of N ss ≡ prog = cc in subst (IsRunnableProgram M) k (accepted_runnable M N (map (λ s. s.term) ss) ss i)
accepted_runs M N ss (Some r) prog i e = absurd (cc)

read_runs : (M N : ℕ) (text : List ℕ) (prog : Program) (r : reading.Reading) → reading.IsReading text r → accepted prog ≡ reading_verdict M N r → IsRunnableProgram M prog
read_runs M N text prog (sentences ss) h e = accepted_runs M N ss (first_refusal M N (map (λ s. s.term) ss) (map (λ s. s.term) ss)) prog refl e
read_runs _ _ text prog _ h e = absurd (cc)

text_runs : (M N : ℕ) (text : List ℕ) (prog : Program) → IsVerdict M N text (accepted prog) → IsRunnableProgram M prog
text_runs M N text prog (inl h) = absurd (not_accepted _ _ prog h.1)
text_runs M N text prog (inr (inl h)) = absurd (not_accepted _ _ prog h.2)
text_runs M N text prog (inr (inr h)) = read_runs M N text prog h.2.0 h.2.1 h.2.2

-- ---- query by query

module _ (M N : ℕ) (prog : Program) (budget : ℕ) (answers : Option ℕ) (runnable : IsRunnableProgram M prog) (scoped : ClausesScoped prog.clauses) where
  queries_back : (n : ℕ) (qs : List Query) (out : List ℕ) (stop : Bool) → QueriesRunnable M qs → QueriesScoped qs → AnyQueries M N prog budget answers n qs out stop
      → Queries M N prog budget answers n qs out stop
  queries_back n [] out stop r s h = h
  queries_back n (q ∷ qs) out stop r s (es, spent, rest, later, run, more, bytes, stops) =
      (es, spent, rest, later, any_run_is M N prog runnable scoped q r.0 s.0.1 budget answers es spent run, queries_back (n + 1) qs rest later r.1 s.1 more, bytes, stops)

  queries_any : (n : ℕ) (qs : List Query) (out : List ℕ) (stop : Bool) → Queries M N prog budget answers n qs out stop → AnyQueries M N prog budget answers n qs out stop
  queries_any n [] out stop h = h
  queries_any n (q ∷ qs) out stop (es, spent, rest, later, run, more, bytes, stops) =
      (es, spent, rest, later, run_any M N prog q run, queries_any (n + 1) qs rest later more, bytes, stops)

pub any_output : ScopedProgram → AnyOutput
any_output law M N text prog budget answers out stop is =
    let runnable = text_runs M N text prog is in
    let scoped = law M N text prog is in (
      queries_back M N prog budget answers runnable scoped.clauses 1 prog.queries out stop runnable.queries scoped.queries,
      queries_any M N prog budget answers runnable scoped.clauses 1 prog.queries out stop,
    )
