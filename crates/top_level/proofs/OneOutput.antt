-- There is exactly one output for words and a text.
use Rattle.std.proofs.Common.{◌≡◌, ℕ, ◌+◌, ◌<◌, ◌≤◌, Bool, List, [], ◌∷◌, ◌++◌, length, map, false, Option, Some, None, refl, ap, sym, ◌∙◌, subst, inl, inr}
use Rattle.std.proofs.Common.{◌⊎◌, codes, decimal}
use Rattle.std.specs.Str.{IsUtf8, is_utf8}
use Rattle.std.specs.Str.Lossy.{utf8_valid_len}
use Rattle.std.proofs.lemmas.Bool.{cases_Bool, cases_lt, true≢false}
use Rattle.std.proofs.lemmas.Str.{IsUtf8-from_is_utf8, is_utf8-from_IsUtf8}
use Rattle.fd_model.specs.declared.Status.{Status}
use Rattle.fd_model.specs.declared.Status.TheVariants.{Usage, Refused}
use Rattle.fd_language.specs.Reading.{Sentence, Reading, sentences, token_fault, syntax_fault, too_deep, IsReading}
use Rattle.fd_model.specs.Refusals.{Refusal, first_refusal}
use Rattle.fd_model.specs.Queries.{program_of}
use Rattle.fd_model.specs.Verdict.{Verdict, accepted, refused, max_text, cause_name, sentences_verdict, reading_verdict, IsVerdict}
use Rattle.std.specs.Prelude.{IfSome}
use Rattle.command_words.specs.Words.{options_of}
use Rattle.top_level.proofs.AcceptedWords.{IsAccepted, IsSize, accepted_words}
use Rattle.run_summary.proofs.Lemmas.{queens_program, same_program}
use Rattle.fd_model.specs.Generator.{queens_text, summary}
use Rattle.fd_model.specs.Output.{Options, Output, Queries, TextOutput, VerdictOutput, IsSummary, refusal, usage, is_stop, or_stop, stop_status}
use Rattle.fd_model.specs.Lines.{line, events_bytes}
use Rattle.fd_model.specs.Goal.{Program, Query, Event, start_of}
use Rattle.fd_model.specs.Run.{IsLimit, Run}
use Rattle.fd_model.specs.RunnablePrograms.{QueriesRunnable, IsRunnableProgram}
use Rattle.fd_model.proofs.Lemmas.{queries_once, run_once, one_run, accepted_runnable}
use Rattle.term_reader.proofs.Lemmas.{each_is_read}
use Rattle.text_verdict.proofs.Lemmas.{large_verdict, bytes_verdict, read_verdict, one_verdict}
use Rattle.top_level.specs.OneOutput.{OneOutput}

verdict_output_once : (M : ℕ) (o : Options) (v : Verdict) (out other : List ℕ) (st s : Status) → VerdictOutput M o.infinity v o.steps o.answers out st
    → VerdictOutput M o.infinity v o.steps o.answers other s → (other ≡ out) × (s ≡ st)
verdict_output_once M o (refused place reason) out other st s a b = (b.0 ∙ sym a.0, b.1 ∙ sym a.1)
verdict_output_once M o (accepted prog) out other st s a b =
    let one = queries_once M o.infinity prog o.steps o.answers 1 prog.queries out other a.0 b.0 a.1 b.1 in
    (sym one.0, b.2 ∙ ap stop_status (sym one.1) ∙ sym a.2)

-- the output is that of the text that is read, where none is generated
pub text_output : (M : ℕ) (o : Options) (text out : List ℕ) (st : Status) → o.generate ≡ None → Output M (Some o) text out st → TextOutput M o None text out st
text_output M o text out st read h = subst (λ (size : Option ℕ). TextOutput M o size text out st) read h

-- the output of a text is that of its verdict
pub verdict_output : (M : ℕ) (o : Options) (text : List ℕ) (v : Verdict) (out : List ℕ) (st : Status) → o.generate ≡ None → IsVerdict M o.infinity text v
    → Output M (Some o) text out st → VerdictOutput M o.infinity v o.steps o.answers out st
verdict_output M o text v out st read i h =
    let t = text_output M o text out st read h in
    subst (λ (w : Verdict). VerdictOutput M o.infinity w o.steps o.answers out st) (one_verdict M o.infinity text t.0 v t.1 i) t.2

pub large_output : (M : ℕ) (o : Options) (text : List ℕ) → o.generate ≡ None → max_text < length text → Output M (Some o) text (refusal max_text (codes "too large")) Refused
large_output M o text read h =
    subst (λ (size : Option ℕ). TextOutput M o size text (refusal max_text (codes "too large")) Refused) (sym read) (
      refused max_text (codes "too large"),
      large_verdict M o.infinity text h,
      (refl, refl),
    )

-- ---- generated texts

same_query : (p q : Query) → p ∷ [] ≡ q ∷ [] → p ≡ q
same_query p q e = ap first_or e
  where
    first_or : List Query → Query
    first_or [] = p
    first_or (x ∷ xs) = x

summary_once : (M n : ℕ) (o : Options) (out other : List ℕ) (st s : Status) → IsSummary M n o out st → IsSummary M n o other s → (other ≡ out) × (s ≡ st)
summary_once M n o out other st s a b =
    let programs : b.prog ≡ a.prog = same_program b.prog a.prog (one_verdict M o.infinity (queens_text n) (accepted b.prog) (accepted a.prog) b.text a.text) in
    let queries : b.query ≡ a.query = same_query b.query a.query (sym b.one ∙ ap (λ (p : Program). p.queries) programs ∙ a.one) in
    let run : Run M o.infinity a.prog a.query o.steps o.answers (start_of a.query ∷ []) b.events b.spent =
    subst (λ (q : Query). Run M o.infinity a.prog q o.steps o.answers (start_of q ∷ []) b.events b.spent) queries
    (subst (λ (p : Program). Run M o.infinity p b.query o.steps o.answers (start_of b.query ∷ []) b.events b.spent) programs b.run) in
    let runs = run_once M o.infinity a.prog a.query run a.run in (
      b.bytes ∙ ap (λ (es : List Event). summary n es b.spent) runs.0 ∙ ap (summary n a.events) runs.1 ∙ sym a.bytes,
      b.status ∙ ap (λ (es : List Event). stop_status (is_stop es)) runs.0 ∙ sym a.status,
    )

-- the program of an accepted text can run
runnable_by : (M N : ℕ) (ss : List Sentence) (f : Option Refusal) (prog : Program) → first_refusal M N (map (λ s. s.term) ss) (map (λ s. s.term) ss) ≡ f
    → accepted prog ≡ sentences_verdict N ss f → IsRunnableProgram M prog
runnable_by M N ss None prog e v = subst (IsRunnableProgram M) (sym (same_program prog (program_of N ss) v)) (accepted_runnable M N (map (λ s. s.term) ss) ss e)
runnable_by M N ss (Some r) prog e v = absurd (cc (v))

runnable_reading : (M N : ℕ) (r : Reading) (prog : Program) → accepted prog ≡ reading_verdict M N r → IsRunnableProgram M prog
runnable_reading M N (sentences ss) prog v = runnable_by M N ss (first_refusal M N (map (λ s. s.term) ss) (map (λ s. s.term) ss)) prog refl v
runnable_reading M N (token_fault cause place) prog v = absurd (cc (v))
runnable_reading M N (syntax_fault place) prog v = absurd (cc (v))
runnable_reading M N (too_deep place) prog v = absurd (cc (v))

runnable_text : (M N : ℕ) (text : List ℕ) (prog : Program) → IsVerdict M N text (accepted prog) → IsRunnableProgram M prog
runnable_text M N text prog (inl h) = let v = h.1 in absurd (cc (v))
runnable_text M N text prog (inr (inl h)) = let v = h.2 in absurd (cc (v))
runnable_text M N text prog (inr (inr h)) = runnable_reading M N h.2.0 prog h.2.2

-- each generated text has a summary
has_summary : (M n : ℕ) (o : Options) → IsLimit o.answers → IsSize n → (out : List ℕ) × (st : Status) × IsSummary M n o out st
has_summary M n o l i =
    let made = queens_program M o.infinity n i.0 i.1 in
    let runs = runnable_text M o.infinity (queens_text n) made.program made.verdict in
    let goals = subst (QueriesRunnable M) made.one runs.queries in
    let run = one_run M o.infinity made.program made.query o.steps o.answers runs goals.0 l in (
      summary n run.0 run.1,
      stop_status (is_stop run.0),
      record {
        prog = made.program;
        query = made.query;
        events = run.0;
        spent = run.1;
        text = made.verdict;
        one = made.one;
        run = run.2;
        bytes = refl;
        status = refl;
      },
    )

-- ---- one output

text_once : (M : ℕ) (o : Options) (size : Option ℕ) (text out other : List ℕ) (st s : Status) → TextOutput M o size text out st → TextOutput M o size text other s → (other ≡ out) × (s ≡ st)
text_once M o None text out other st s a b =
    verdict_output_once M o a.0 out other st s a.2 (subst (λ (w : Verdict). VerdictOutput M o.infinity w o.steps o.answers other s) (one_verdict M o.infinity text b.0 a.0 b.1 a.1) b.2)
text_once M o (Some n) text out other st s a b = summary_once M n o out other st s a b

output_once : (M : ℕ) (a : Option Options) (text out other : List ℕ) (st s : Status) → Output M a text out st → Output M a text other s → (other ≡ out) × (s ≡ st)
output_once M None text out other st s a b = (b.0 ∙ sym a.0, b.1 ∙ sym a.1)
output_once M (Some o) text out other st s a b = text_once M o o.generate text out other st s a b

-- what is read has an output
abbrev HasOutput : ℕ → Options → Verdict → Type 0
HasOutput M o v = (out : List ℕ) × (st : Status) × VerdictOutput M o.infinity v o.steps o.answers out st

-- queries that can run have an output
queries_have : (M : ℕ) (o : Options) (prog : Program) (n : ℕ) (qs : List Query) → IsLimit o.answers → IsRunnableProgram M prog → QueriesRunnable M qs
    → (out : List ℕ) × (stop : Bool) × Queries M o.infinity prog o.steps o.answers n qs out stop
queries_have M o prog n [] l r g = ([], false, (refl, refl))
queries_have M o prog n (q ∷ qs) l r g =
    let here = one_run M o.infinity prog q o.steps o.answers r g.0 l in
    let later = queries_have M o prog (n + 1) qs l r g.1 in
    (line (codes "query " ++ decimal n) ++ (events_bytes here.0 ++ later.0), or_stop (is_stop here.0) later.1, (here.0, here.1, later.0, later.1, here.2, later.2, refl, refl))

accepted_has : (M : ℕ) (o : Options) (ss : List Sentence) → IsLimit o.answers → first_refusal M o.infinity (map (λ s. s.term) ss) (map (λ s. s.term) ss) ≡ None
    → HasOutput M o (accepted (program_of o.infinity ss))
accepted_has M o ss l e =
    let runs = accepted_runnable M o.infinity (map (λ s. s.term) ss) ss e in
    let have = queries_have M o (program_of o.infinity ss) 1 (program_of o.infinity ss).queries l runs runs.queries in
    (have.0, stop_status have.1, (have.1, have.2, refl))

by_refusal : (M : ℕ) (o : Options) (ss : List Sentence) → IsLimit o.answers → (f : Option Refusal)
    → first_refusal M o.infinity (map (λ s. s.term) ss) (map (λ s. s.term) ss) ≡ f → HasOutput M o (sentences_verdict o.infinity ss f)
by_refusal M o ss l None e = accepted_has M o ss l e
by_refusal M o ss l (Some r) e = (refusal r.place r.reason, Refused, (refl, refl))

reading_has : (M : ℕ) (o : Options) (text : List ℕ) (r : Reading) → IsLimit o.answers → IsReading text r → HasOutput M o (reading_verdict M o.infinity r)
reading_has M o text (sentences ss) l i = by_refusal M o ss l (first_refusal M o.infinity (map (λ s. s.term) ss) (map (λ s. s.term) ss)) refl
reading_has M o text (token_fault cause place) l i = (refusal place (cause_name cause), Refused, (refl, refl))
reading_has M o text (syntax_fault place) l i = (refusal place (codes "syntax"), Refused, (refl, refl))
reading_has M o text (too_deep place) l i = (refusal place (codes "too deep"), Refused, (refl, refl))

-- there is an output, and it is one
abbrev HasOne : ℕ → Option Options → List ℕ → Type 0
HasOne M a text = (out : List ℕ) × (st : Status) × Output M a text out st × ((other : List ℕ) (s : Status) → Output M a text other s → (other ≡ out) × (s ≡ st))

with_one : (M : ℕ) (a : Option Options) (text out : List ℕ) (st : Status) → Output M a text out st → HasOne M a text
with_one M a text out st h = (out, st, h, λ other s p. output_once M a text out other st s h p)

not_utf8 : (text : List ℕ) → is_utf8 text ≡ false → IsUtf8 text → ⊥
not_utf8 text e u = true≢false (sym (is_utf8-from_IsUtf8 text u) ∙ e)

-- a text that is read has an output
by_size : (M : ℕ) (o : Options) (text : List ℕ) → IsLimit o.answers → (max_text < length text) ⊎ (length text ≤ max_text) → (out : List ℕ) × (st : Status) × TextOutput M o None text out st
by_size M o text l (inl h) = (refusal max_text (codes "too large"), Refused, (refused max_text (codes "too large"), large_verdict M o.infinity text h, (refl, refl)))
by_size M o text l (inr h) = elim (cases_Bool (is_utf8 text)) [
  | inl u ↦
      let read = each_is_read text in
      let has = reading_has M o text read.0 l read.1 in
      (has.0, has.1, (reading_verdict M o.infinity read.0, read_verdict M o.infinity text read.0 h (IsUtf8-from_is_utf8 text u) read.1, has.2))
  | inr u ↦
      let place = utf8_valid_len text in
      (refusal place (codes "not UTF-8"), Refused, (refused place (codes "not UTF-8"), bytes_verdict M o.infinity text h (not_utf8 text u), (refl, refl)))
]

-- and so has one that is read or generated
has_text : (M : ℕ) (o : Options) (size : Option ℕ) (text : List ℕ) → IsLimit o.answers → IfSome size IsSize → (out : List ℕ) × (st : Status) × TextOutput M o size text out st
has_text M o None text l i = by_size M o text l (cases_lt max_text (length text))
has_text M o (Some n) text l i = has_summary M n o l i

by_asked : (M : ℕ) (a : Option Options) (text : List ℕ) → IfSome a IsAccepted → HasOne M a text
by_asked M None text r = with_one M None text usage Usage (refl, refl)
by_asked M (Some o) text r = let has = has_text M o o.generate text r.limit r.size in with_one M (Some o) text has.0 has.1 has.2

pub one_output : OneOutput
one_output M words text = by_asked M (options_of words) text (accepted_words words)
