-- The events of a run, counted.
use Rattle.std.proofs.lemmas.List.{length-map}
use Rattle.std.proofs.Common.{◌≡◌, ℕ, ◌+◌, ◌<◌, length, drop, true, false, List, [], ◌∷◌, ◌++◌, Option, refl, ap, sym, ◌∙◌, subst, arith, append_assoc, codes}
use Rattle.std.proofs.Common.{decimal}
use Rattle.fd_language.specs.Term.{Name}
use Rattle.fd_language.specs.declared.TheConstants.{INFINITY}
use Rattle.fd_model.specs.Goal.{Event, End, Program, Query, start_of}
use Rattle.fd_model.specs.Goal as model
use Rattle.fd_model.specs.Generator.{count_answers, last_event, summary}
use Rattle.fd_model.specs.Lines.{line, event_bytes}
use Rattle.fd_model.specs.Output.{is_stop}
use Rattle.fd_model.specs.Run.{Run}
use Rattle.fd_model.specs.Verdict.{Verdict, accepted, refused, IsVerdict}
use Rattle.clause_check.specs.Programs.{FlatProgram, program_in, query_at, query_in}
use Rattle.branch_meaning.specs.NextEvent.{is_final, IsNext}
use Rattle.branch_meaning.proofs.Lemmas.{behind_other}
use Rattle.machine_events.specs.declared.MachineEvent.{MachineEvent}
use Rattle.machine_events.specs.Events.{event_of}
use Rattle.code_machine.specs.States.{State, StandsFor}
use Rattle.run_summary.specs.declared.summary.Tally.{Tally}
use Rattle.run_summary.specs.Summaries.{IsTally}
use Rattle.text_output.specs.Endings.{IsRunOf}
use Rattle.text_output.proofs.Lemmas.{final_names, goes_on, queries_from}
use Rattle.run_summary.proofs.GeneratedTexts.{OneQuery}
use Rattle.text_verdict.proofs.Lemmas.{one_verdict}

-- of the events es, those that are still to come, behind others with n answers
pub record Counted (m : State) (n : ℕ) (es : List Event) (r : ℕ) : Type 0 where
  pub front : List Event
  pub later : List Event
  pub is : es ≡ front ++ later
  pub count : n ≡ count_answers front
  pub stands : StandsFor m later r
  pub stops : is_stop es ≡ is_stop later

count_first : (e : Event) (es : List Event) → count_answers (e ∷ es) ≡ count_answers (e ∷ []) + count_answers es
count_first (model.Wrote t) es = omega arith
count_first model.Newline es = omega arith
count_first (model.Answer t) es = omega arith
count_first model.End es = omega arith
count_first model.Budget es = omega arith
count_first model.Limit es = omega arith
count_first (model.Fault f) es = omega arith

count_append : (es fs : List Event) → count_answers (es ++ fs) ≡ count_answers es + count_answers fs
count_append [] fs = omega arith
count_append (e ∷ es) fs =
    let here = count_first e (es ++ fs) in
    let there = count_first e es in
    let rest = count_append es fs in
    omega (arith, here, there, rest)

last_append : (d : Event) (es : List Event) (e : Event) → last_event d (es ++ e ∷ []) ≡ e
last_append d [] e = refl
last_append d (f ∷ es) e = last_append f es e

final_count : (e : Event) → is_final e ≡ true → count_answers (e ∷ []) ≡ 0
final_count (model.Wrote t) h = refl
final_count model.Newline h = refl
final_count (model.Answer t) h = absurd (cc)
final_count model.End h = refl
final_count model.Budget h = refl
final_count model.Limit h = refl
final_count (model.Fault f) h = refl

-- an event that others follow
pub counted_more : (m n : State) (a b : ℕ) (es : List Event) (r : ℕ) (names : List Name) (ev : MachineEvent) → is_final (event_of [] ev) ≡ false
    → Counted m a es r → IsNext State StandsFor m (event_of names ev) n
    → b ≡ a + count_answers (event_of names ev ∷ []) → Counted n b es r
counted_more m n a b es r names ev more k h add =
    let e = event_of names ev in
    let goes : is_final e ≡ false = final_names names ev ∙ more in
    let first = h k.later r k.stands in
    let both = count_append k.front (e ∷ []) in
    let count = k.count in
    record {
      front = k.front ++ e ∷ [];
      later = first.0;
      is = k.is ∙ ap (λ (l : List Event). k.front ++ l) first.1 ∙ sym (append_assoc k.front (e ∷ []) first.0);
      count = omega (arith, add, both, count);
      stands = subst (λ (l : List Event). StandsFor n l r) (behind_other e first.0 goes) first.2;
      stops = k.stops ∙ ap is_stop first.1 ∙ goes_on e first.0 goes;
    }

-- the last event
pub counted_all : (m n : State) (a : ℕ) (es : List Event) (r : ℕ) (names : List Name) (ev : MachineEvent) (t : Tally) → is_final (event_of [] ev) ≡ true → Counted m a es r
    → ((fs : List Event) (total : ℕ) → StandsFor m fs total → fs ≡ event_of [] ev ∷ []) → IsNext State StandsFor m (event_of names ev) n
    → ((fs : List Event) (total : ℕ) → StandsFor n fs total → total ≡ t.spent) → t.answers ≡ a → t.stopped ≡ is_stop (event_of [] ev ∷ []) → t.last ≡ ev → IsTally es r t
counted_all m n a es r names ev t final k one h whole answers stopped last =
    let e = event_of [] ev in
    let only : k.later ≡ e ∷ [] = one k.later r k.stands in
    let all : es ≡ k.front ++ e ∷ [] = k.is ∙ ap (λ (l : List Event). k.front ++ l) only in
    let both = count_append k.front (e ∷ []) in
    let none = final_count e final in
    let count = k.count in
    let same : count_answers es ≡ count_answers (k.front ++ e ∷ []) = ap count_answers all in
    let next = h k.later r k.stands in
    record {
      answers = omega (arith, both, none, count, same, answers);
      spent = sym (whole _ r next.2);
      stopped = stopped ∙ sym (k.stops ∙ ap is_stop only);
      last = ap (event_of []) last ∙ sym (ap (last_event End) all ∙ last_append End k.front e);
    }

-- ---- the query of a program that has one

-- a program with one query is one whose flat form has one
pub queries_one : (p : FlatProgram) (q : Query) → (program_in p).queries ≡ q ∷ [] → 0 < length p.queries
queries_one p q e = let size = length-map p.queries (query_in p) in let count = ap length e in omega (arith, size, count)

-- the run of its first query
pub run_of_first : (N : ℕ) (p : FlatProgram) (prog : Program) (q : Query) (steps : ℕ) (answers : Option ℕ) (es : List Event) (r : ℕ) → prog ≡ program_in p → prog.queries ≡ q ∷ []
    → Run INFINITY N prog q steps answers (start_of q ∷ []) es r → IsRunOf N p 0 steps answers es r
run_of_first N p prog q steps answers es r same one h =
    let queries : (program_in p).queries ≡ q ∷ [] = ap (λ (x : Program). x.queries) (sym same) ∙ one in
    let some : 0 < length p.queries = queries_one p q queries in
    let first : query_in p (query_at p 0) ≡ q = ap (first_of (query_in p (query_at p 0))) (sym (queries_from p 0 some) ∙ drop_none (program_in p).queries ∙ queries) in
    subst (λ (x : Query). Run INFINITY N (program_in p) x steps answers (start_of x ∷ []) es r) (sym first)
    (subst (λ (x : Program). Run INFINITY N x q steps answers (start_of q ∷ []) es r) same h)
  where
    first_of : Query → List Query → Query
    first_of d [] = d
    first_of d (x ∷ xs) = x

    drop_none : (qs : List Query) → drop 0 qs ≡ qs
    drop_none qs = refl

-- programs that are accepted alike are one
pub same_program : (p q : Program) → accepted p ≡ accepted q → p ≡ q
same_program p q e = ap program_or e
  where
    program_or : Verdict → Program
    program_or (accepted x) = x
    program_or (refused place reason) = p

-- the text is this program's
pub verdict_program : (N : ℕ) (text : List ℕ) (prog : Program) (p : FlatProgram) → IsVerdict INFINITY N text (accepted prog) → IsVerdict INFINITY N text (accepted (program_in p)) → prog ≡ program_in p
verdict_program N text prog p a b = same_program prog (program_in p) (one_verdict INFINITY N text (accepted prog) (accepted (program_in p)) a b)

-- a text that is a program with one query is found to be it
pub found_one : (N : ℕ) (text : List ℕ) (p : FlatProgram) → OneQuery INFINITY N text → IsVerdict INFINITY N text (accepted (program_in p)) → 0 < length p.queries
found_one N text p made v =
    queries_one p made.query (ap (λ (x : Program). x.queries) (sym (verdict_program N text made.program p made.verdict v)) ∙ made.one)

-- and isn't refused
pub found_refused : (N : ℕ) (text : List ℕ) (place : ℕ) (reason : List ℕ) → OneQuery INFINITY N text → IsVerdict INFINITY N text (refused place reason) → ⊥
found_refused N text place reason made v =
    let same = one_verdict INFINITY N text (accepted made.program) (refused place reason) made.verdict v in cc (same)

-- the four lines are those of the summary
pub summary_bytes : (n : ℕ) (es : List Event) (r : ℕ) (t : Tally) → IsTally es r t
    → line (codes "gen " ++ decimal n) ++ (line (codes "answers " ++ decimal t.answers) ++ (line (codes "reductions " ++ decimal t.spent) ++ event_bytes (event_of [] t.last))) ≡ summary n es r
summary_bytes n es r t h =
    ap (λ (a : ℕ). line (codes "gen " ++ decimal n) ++ (line (codes "answers " ++ decimal a) ++ (line (codes "reductions " ++ decimal t.spent) ++ event_bytes (event_of [] t.last)))) h.answers
    ∙ ap (λ (s : ℕ). line (codes "gen " ++ decimal n)
    ++ (line (codes "answers " ++ decimal (count_answers es)) ++ (line (codes "reductions " ++ decimal s) ++ event_bytes (event_of [] t.last)))) h.spent
    ∙ ap (λ (e : Event). line (codes "gen " ++ decimal n) ++ (line (codes "answers " ++ decimal (count_answers es)) ++ (line (codes "reductions " ++ decimal r) ++ event_bytes e))) h.last
