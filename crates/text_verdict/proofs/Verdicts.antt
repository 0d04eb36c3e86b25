-- The verdict on a text, by what it is read as.
use Rattle.std.proofs.Common.{◌≡◌, ℕ, ◌≤◌, List, [], ◌∷◌, length, map, Option, Some, None, refl, ap, sym, ◌∙◌, subst}
use Rattle.std.specs.Prelude.{Result, Ok, Err, IfOk}
use Rattle.fd_language.specs.declared.NoMemory.{NoMemory}
use Rattle.std.specs.Str.{IsUtf8}
use Rattle.fd_language.specs.declared.TheConstants.{INFINITY}
use Rattle.fd_language.specs.Reading.{Reading, sentences, IsReading}
use Rattle.fd_language.specs.PlacedTerm.{PlacedTerm}
use Rattle.fd_model.specs.Refusals.{Refusal, refused_at, first_refusal}
use Rattle.fd_model.specs.Goal.{Program}
use Rattle.fd_model.specs.Queries.{program_of}
use Rattle.fd_model.specs.Verdict as model
use Rattle.fd_model.specs.Verdict.{max_text, sentences_verdict, reading_verdict, IsVerdict}
use Rattle.term_pool.specs.PlacedTerms.{placed_of}
use Rattle.term_reader.specs.declared.reader.Sentence as code
use Rattle.term_reader.specs.declared.reader.Sentences.{Sentences}
use Rattle.term_reader.specs.Sentences.{sentence_of, sentences_of}
use Rattle.clause_check.specs.Terms.{terms_of}
use Rattle.text_verdict.specs.declared.judgement.Verdict.{Verdict}
use Rattle.text_verdict.specs.Verdicts.{Is, IsVerdictOn}
use Rattle.text_verdict.proofs.OneVerdict.{read_verdict}

-- a text that is read so
pub judged : (N : ℕ) (text : List ℕ) (r : Reading) (v : Verdict) → length text ≤ max_text → IsUtf8 text → IsReading text r → Is (reading_verdict INFINITY N r) v → IsVerdictOn N text v
judged N text r v l u i h = record { names = h.names; verdict = subst (IsVerdict INFINITY N text) h.verdict (read_verdict INFINITY N text r l u i) }

same_terms : (s : Sentences) (xs : List code.Sentence) → map (λ x. x.term) (map (sentence_of s.pool) xs) ≡ map (λ x. placed_of s.pool x.term) xs
same_terms s [] = refl
same_terms s (x ∷ xs) = ap (λ (l : List PlacedTerm). placed_of s.pool x.term ∷ l) (same_terms s xs)

verdict_is : (N : ℕ) (s : Sentences) (o : Option Refusal) → first_refusal INFINITY N (terms_of s) (terms_of s) ≡ o
    → reading_verdict INFINITY N (sentences (sentences_of s)) ≡ sentences_verdict N (sentences_of s) o
verdict_is N s o e = ap (sentences_verdict N (sentences_of s)) (ap (λ (ts : List PlacedTerm). first_refusal INFINITY N ts ts) (same_terms s s.list.items) ∙ e)

-- sentences that are accepted
pub accepted_verdict : (N : ℕ) (s : Sentences) (p : Program) → first_refusal INFINITY N (terms_of s) (terms_of s) ≡ None → p ≡ program_of N (sentences_of s)
    → reading_verdict INFINITY N (sentences (sentences_of s)) ≡ model.accepted p
accepted_verdict N s p e h = verdict_is N s None e ∙ ap model.accepted (sym h)

-- sentences of which one is refused
pub refused_verdict : (N : ℕ) (s : Sentences) (place : ℕ) (reason : List ℕ)
    → first_refusal INFINITY N (terms_of s) (terms_of s) ≡ Some (refused_at place reason)
    → reading_verdict INFINITY N (sentences (sentences_of s)) ≡ model.refused place reason
refused_verdict N s place reason e = verdict_is N s (Some (refused_at place reason)) e

pub judged_by : (N : ℕ) (text : List ℕ) (r : Reading) (v : Result Verdict NoMemory) → length text ≤ max_text → IsUtf8 text → IsReading text r
    → IfOk v (Is (reading_verdict INFINITY N r)) → IfOk v (IsVerdictOn N text)
judged_by N text r (Ok v) l u i h = judged N text r v l u i h
judged_by N text r (Err e) l u i h = tt
