-- What is given of a text is what it is.
use Rattle.std.proofs.Common.{◌≡◌, ℕ, List}
use Rattle.std.specs.Prelude.{Result, Ok, Err, IfOk, IfErr, MatchResult}
use Rattle.fd_language.specs.Reading.{Reading, sentences, token_fault, syntax_fault, too_deep, IsReading, IsSentences}
use Rattle.fd_language.proofs.Lemmas.{one_verdict_of_reading}
use Rattle.char_tokens.specs.Views.{cause_of}
use Rattle.char_tokens.specs.declared.token.TokenFault.TheVariants as faults
use Rattle.term_reader.specs.declared.reader.Sentences.{Sentences}
use Rattle.term_reader.specs.declared.reader.ReaderFault.{ReaderFault}
use Rattle.term_reader.specs.declared.reader.ReaderFault.TheVariants.{Token, Syntax, TooDeep, NoMemory}
use Rattle.term_reader.specs.Sentences.{sentences_of, IsFaultOf, IsFaultFor}

pub only_fault : (text : List ℕ) (e : ReaderFault) → IsFaultOf text e → (v : Reading) → IsReading text v → IsFaultFor v e
only_fault text (Token (faults.At place cause)) h v k = one_verdict_of_reading text v (token_fault (cause_of cause) place) k h
only_fault text (Token faults.NoMemory) h v k = absurd h
only_fault text (Syntax place) h v k = one_verdict_of_reading text v (syntax_fault place) k h
only_fault text (TooDeep place) h v k = one_verdict_of_reading text v (too_deep place) k h
only_fault text NoMemory h v k = tt

pub only : (r : Result Sentences ReaderFault) (text : List ℕ) → IfOk r (λ s. IsSentences text (sentences_of s)) → IfErr r (IsFaultOf text) → (v : Reading)
    → IsReading text v → MatchResult r (λ s. v ≡ sentences (sentences_of s)) (IsFaultFor v)
only (Ok s) text a f v k = one_verdict_of_reading text v (sentences (sentences_of s)) k a
only (Err e) text a f v k = only_fault text e f v k
