-- What is said of the two parts of an input.
use Rattle.std.proofs.Common.{◌≡◌, ℕ, ◌+◌, ◌≤◌, ◌<◌, inl, inr, length, take, drop, arith, List, codes, refl, sym, ap, ◌∙◌, subst, length-take-le}
use Rattle.std.specs.Prelude.{All, Result, Ok, Err, MatchResult}
use Rattle.std.specs.Str.{IsUtf8}
use Rattle.fd_model.specs.Verdict.{max_text}
use Rattle.fd_language.specs.declared.TheConstants.{INFINITY}
use Rattle.fd_language.specs.Reading.{sentences, token_fault, syntax_fault, too_deep}
use Rattle.answer_check.specs.declared.listed_answers.Answers.{Answers}
use Rattle.answer_check.specs.declared.listed_answers.Listed.{Listed}
use Rattle.byte_ports.specs.Ends.{SinkState}
use Rattle.answer_check.specs.declared.outcome.CheckStatus.{CheckStatus}
use Rattle.answer_check.specs.declared.outcome.Fault.{Fault}
use Rattle.answer_check.specs.declared.outcome.Fault.TheVariants as fault
use Rattle.answer_check.specs.Faults.{fault_status}
use Rattle.answer_check.specs.Reports.{PutsReport}
use Rattle.answer_check.specs.declared.outcome.Reason.{Reason}
use Rattle.answer_check.specs.declared.outcome.Stop.{Stop}
use Rattle.answer_check.specs.declared.outcome.Stop.TheVariants.{Refused, NoMemory}
use Rattle.answer_check.specs.declared.query.FlatQuery as code
use Rattle.answer_check.specs.AnswerLines.{AreAnswers}
use Rattle.answer_check.specs.Checks.{CanCheck}
use Rattle.answer_check.specs.FlatForm.{FlatQuery}
use Rattle.answer_check.specs.Inputs.{JudgesText, JudgesInput, Lists, Stops, CanTell, Reads, PutsRefusal, Checks}
use Rattle.answer_check.specs.Judgement.{Judgement, refused, judged, JudgesAnswers, JudgesQuery, JudgesReading, JudgesParts, IsJudged}
use Rattle.byte_ports.specs.Lines.{lines_of}
use Rattle.answer_check.specs.Parts.{query_line}
use Rattle.answer_check.specs.InputSplit.{IsSplitAt}
use Rattle.answer_check.specs.Queries.{IsQuery, ReadsQuery}
use Rattle.answer_check.specs.Refusals.{reason_text}
use Rattle.answer_check.specs.Rows.{FindsRows, StopsRows}
use Rattle.answer_check.proofs.AnswerReports.{each_can, all_numbers}

-- a text that was read is a flat query, of which its answers decide
module _ (text : List ℕ) (at : ℕ) (ls : List (List ℕ)) where
  record IsReadAs (q : code.FlatQuery) : Type 0 where
    flat : FlatQuery
    query : IsQuery flat q
    judges : (j : Judgement) (r : Result (List (List ℕ)) ℕ) → AreAnswers INFINITY flat.query at ls r → JudgesAnswers INFINITY flat r j → JudgesText text at ls j

  read_as : (q : code.FlatQuery) → ReadsQuery text q → IsReadAs q
  read_as q (sentences ss, is, found) = record {
    flat = found.0;
    query = found.2;
    judges = λ j r answers judges. (sentences ss, is, subst (λ x. JudgesQuery INFINITY at ls x j) (sym found.1) (r, answers, judges));
  }
  read_as q (token_fault cause place, is, found) = absurd found
  read_as q (syntax_fault place, is, found) = absurd found
  read_as q (too_deep place, is, found) = absurd found

  pub query_safe : (q : code.FlatQuery) → ReadsQuery text q → All CanCheck q.goals.constraints.items
  query_safe q h = let r = read_as q h in each_can r.flat.constraints q.goals.constraints.items r.query.goals.constraints

  pub query_names : (q : code.FlatQuery) → ReadsQuery text q → All (λ a. a.number < length q.pool.names) q.names.items
  query_names q h = (read_as q h).query.within

  pub rows_numbers : (q : code.FlatQuery) (a : Answers) → ReadsQuery text q → ((f : FlatQuery) → IsQuery f q → FindsRows f.query at ls a) → All (λ n. n ≤ INFINITY) a.values.items
  rows_numbers q a h g =
      let r = read_as q h in
      let rows = g r.flat r.query in
      subst (All (λ n. n ≤ INFINITY)) (sym rows.2.1.values_are) (all_numbers rows.0 rows.2.1.within)

  pub rows_stop : (q : code.FlatQuery) (s : Stop) → ReadsQuery text q → ((f : FlatQuery) → IsQuery f q → StopsRows f.query at ls s) → Stops (JudgesText text at ls) s
  rows_stop q (Refused p w) h g =
      let r = read_as q h in
      let rows = g r.flat r.query in
      let bad : reason_text w ≡ codes "bad answer" = ap reason_text rows.2.1 in
      r.judges (refused p (reason_text w)) rows.0 rows.1 (subst (λ x. JudgesAnswers INFINITY r.flat x (refused p (reason_text w))) (sym rows.2.0) (ap (refused p) bad))
  rows_stop q NoMemory h g = tt

  pub parts_listed : (l : Listed) → ReadsQuery text l.query → ((f : FlatQuery) → IsQuery f l.query → FindsRows f.query at ls l.answers) → Lists (JudgesText text at ls) l
  parts_listed l h g =
      let r = read_as l.query h in
      let rows = g r.flat r.query in
      record {
        flat = r.flat;
        rows = rows.0;
        query = r.query;
        kept = rows.2;
        judges = λ vs v each order. r.judges (judged vs v) (Ok rows.0) rows.1 (vs, v, each, order, refl);
      }

-- ---- an input

module _ (P Q : Judgement → Type 0) (to : (j : Judgement) → P j → Q j) where
  lists_so : (l : Listed) → Lists P l → Lists Q l
  lists_so l h = record { flat = h.flat; rows = h.rows; query = h.query; kept = h.kept; judges = λ vs v each order. to (judged vs v) (h.judges vs v each order) }

  stops_so : (s : Stop) → Stops P s → Stops Q s
  stops_so (Refused p w) h = to (refused p (reason_text w)) h
  stops_so NoMemory h = tt

  pub reads_so : (r : Result Listed Stop) → MatchResult r (Lists P) (Stops P) → MatchResult r (Lists Q) (Stops Q)
  reads_so (Ok l) h = lists_so l h
  reads_so (Err s) h = stops_so s h

pub parts_judged : (input : List ℕ) (at : ℕ) → IsSplitAt input at → (j : Judgement)
    → JudgesText (take at input) (at + length query_line) (lines_of (drop (at + length query_line) input)) j → JudgesInput input j
parts_judged input at s j h =
    let w = s.within in
    let place : length (take at input) ≡ at = length-take-le at input (omega (arith, w)) in
    subst (λ p. JudgesParts INFINITY (length input) p j) (sym s.parts)
    (h.0, h.1, subst (λ n. JudgesReading INFINITY n (lines_of (drop (at + length query_line) input)) h.0 j) (sym (ap (λ n. n + length query_line) place)) h.2)

pub input_judged : (input : List ℕ) → length input ≤ max_text → IsUtf8 input → (j : Judgement) → JudgesInput input j → IsJudged INFINITY input j
input_judged input l u j h = inr (inr (l, u, h))

-- what may be told of an input that was read
pub can_tell : (input : List ℕ) (r : Result Listed Stop) → Reads input r → CanTell r
can_tell input (Ok l) h = record {
  safe = each_can h.flat.constraints l.query.goals.constraints.items h.query.goals.constraints;
  values = subst (All (λ n. n ≤ INFINITY)) (sym h.kept.1.values_are) (all_numbers h.rows h.kept.1.within);
}
can_tell input (Err s) h = tt

-- ---- what is written of it

module _ (input : List ℕ) (old new : SinkState) (result : CheckStatus) where
  pub report_checks : (l : Listed) (r : Result CheckStatus Fault) (h : Lists (IsJudged INFINITY input) l) → PutsReport h.flat h.rows old new r
      → MatchResult r (λ st. result ≡ st) (λ e. result ≡ fault_status e) → Checks old new result input
  report_checks l (Ok st) h p e = inl (judged p.0 p.1, h.judges p.0 p.1 p.2.each p.2.rising, inl (e ∙ p.3, p.4))
  report_checks l (Err fault.WriteFault) h p e = inl (judged p.0 p.1, h.judges p.0 p.1 p.2.each p.2.rising, inr (inl (e, p.3)))
  report_checks l (Err fault.NoMemory) h p e = inl (judged p.0 p.1, h.judges p.0 p.1 p.2.each p.2.rising, inr (inr (e, p.3)))

  pub refusal_checks : (place : ℕ) (w : Reason) → IsJudged INFINITY input (refused place (reason_text w)) → PutsRefusal old new result place (reason_text w) → Checks old new result input
  refusal_checks place w is h = inl (refused place (reason_text w), is, h)
