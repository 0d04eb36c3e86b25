-- A text is one thing: sentences, or a first fault.
use Rattle.std.proofs.Common.{◌≡◌, ℕ, ◌<◌, ◌⊎◌, inl, inr, List, [], ◌∷◌, refl, sym, ap, subst, ◌∙◌}
use Rattle.std.specs.Prelude.{map, reverse, length}
use Rattle.std.proofs.lemmas.List.{reverse-reverse}
use Rattle.std.proofs.lemmas.Bool.{cases_order}
use Rattle.fd_language.specs.Term.{Name}
use Rattle.fd_language.specs.PlacedTerm.{PlacedTerm}
use Rattle.fd_language.specs.GrammarFaults.{IsRead, IsSyntaxFault, IsTooDeep}
use Rattle.fd_language.specs.Reading.{terminals, lexeme_place, Sentence, IsSentences, IsSyntaxPlace, IsDeepPlace, sentences, token_fault, syntax_fault}
use Rattle.fd_language.specs.Reading.{too_deep}
use Rattle.fd_language.specs.GrammarLaws.{OneVerdictOfReading}
use Rattle.fd_language.proofs.TokenLaws.{one_list, one_fault, not_both}
use Rattle.fd_language.proofs.ReadingCompleteness.{one_reading}
use Rattle.fd_language.proofs.GrammarVerdict as grammar

abbrev terms_in : List Sentence → List PlacedTerm
terms_in ss = map (λ s. s.term) ss

abbrev names_in : List Sentence → List (List Name)
names_in ss = map (λ s. s.names) ss

abbrev of_parts : PlacedTerm → List Name → Sentence
of_parts t names = record { term = t; names = names }

same_sentences : (ss us : List Sentence) → terms_in ss ≡ terms_in us → names_in ss ≡ names_in us → ss ≡ us
same_sentences [] [] e f = refl
same_sentences [] (u ∷ us) e f = absurd cc
same_sentences (s ∷ ss) [] e f = absurd cc
same_sentences (s ∷ ss) (u ∷ us) e f =
    let same_terms : terms_in ss ≡ terms_in us = cc in
    let all_names : names_in ss ≡ names_in us = cc in
    let later = same_sentences ss us same_terms all_names in
    let same_term : s.term ≡ u.term = cc in
    let same_names : s.names ≡ u.names = cc in
    let here : s ≡ u = ap (λ x. of_parts x s.names) same_term ∙ ap (λ x. of_parts u.term x) same_names in
    ap (λ x. x ∷ ss) here ∙ ap (λ xs. u ∷ xs) later

sentences_once : (text : List ℕ) (ss us : List Sentence) → IsSentences text ss → IsSentences text us → ss ≡ us
sentences_once text ss us a b =
    let same : a.lexemes ≡ b.lexemes = one_list a.tokens b.tokens in
    let b_read = subst (λ ls. IsRead (terminals [] ls) (reverse (terms_in us))) (sym same) b.terms in
    let turned : reverse (terms_in ss) ≡ reverse (terms_in us) = one_reading (terminals [] a.lexemes) _ _ a.terms.text b_read.text in
    let terms : terms_in ss ≡ terms_in us = sym (reverse-reverse (terms_in ss)) ∙ ap reverse turned ∙ reverse-reverse (terms_in us) in
    same_sentences ss us terms (rw (a.names, b.names, same) refl)

either_way : (j k : ℕ) → (j < k → ⊥) → (k < j → ⊥) → j ≡ k
either_way j k f g = go (cases_order j k)
  where
    go : (j ≡ k) ⊎ ((j < k) ⊎ (k < j)) → j ≡ k
    go (inl e) = e
    go (inr (inl h)) = absurd (f h)
    go (inr (inr h)) = absurd (g h)

syntax_once : (text : List ℕ) (p q : ℕ) → IsSyntaxPlace text p → IsSyntaxPlace text q → p ≡ q
syntax_once text p q a b =
    let same : a.lexemes ≡ b.lexemes = one_list a.tokens b.tokens in
    let b_fault = subst (λ ls. IsSyntaxFault (terminals [] ls) b.number) (sym same) b.fault in
    let ts = terminals [] a.lexemes in
    let number : a.number ≡ b.number = either_way a.number b.number (grammar.one_syntax_place ts a.number b.number a.fault b_fault) (grammar.one_syntax_place ts b.number a.number b_fault a.fault) in
    a.at ∙ ap (λ k. lexeme_place a.lexemes (length text) k) number ∙ ap (λ ls. lexeme_place ls (length text) b.number) same ∙ sym b.at

deep_once : (text : List ℕ) (p q : ℕ) → IsDeepPlace text p → IsDeepPlace text q → p ≡ q
deep_once text p q a b =
    let same : a.lexemes ≡ b.lexemes = one_list a.tokens b.tokens in
    let b_fault = subst (λ ls. IsTooDeep (terminals [] ls) b.number) (sym same) b.fault in
    let ts = terminals [] a.lexemes in
    let number : a.number ≡ b.number = either_way a.number b.number (grammar.one_deep_place ts a.number b.number a.fault b_fault) (grammar.one_deep_place ts b.number a.number b_fault a.fault) in
    a.at ∙ ap (λ k. lexeme_place a.lexemes (length text) k) number ∙ ap (λ ls. lexeme_place ls (length text) b.number) same ∙ sym b.at

read_or_syntax : (text : List ℕ) (ss : List Sentence) (q : ℕ) → IsSentences text ss → IsSyntaxPlace text q → ⊥
read_or_syntax text ss q a b =
    let same : a.lexemes ≡ b.lexemes = one_list a.tokens b.tokens in
    grammar.read_no_fault (terminals [] a.lexemes) (reverse (terms_in ss)) b.number a.terms (subst (λ ls. IsSyntaxFault (terminals [] ls) b.number) (sym same) b.fault)

read_or_deep : (text : List ℕ) (ss : List Sentence) (q : ℕ) → IsSentences text ss → IsDeepPlace text q → ⊥
read_or_deep text ss q a b =
    let same : a.lexemes ≡ b.lexemes = one_list a.tokens b.tokens in
    grammar.read_not_deep (terminals [] a.lexemes) (reverse (terms_in ss)) b.number a.terms (subst (λ ls. IsTooDeep (terminals [] ls) b.number) (sym same) b.fault)

syntax_or_deep : (text : List ℕ) (p q : ℕ) → IsSyntaxPlace text p → IsDeepPlace text q → ⊥
syntax_or_deep text p q a b =
    let same : a.lexemes ≡ b.lexemes = one_list a.tokens b.tokens in
    grammar.not_both (terminals [] a.lexemes) a.number b.number a.fault (subst (λ ls. IsTooDeep (terminals [] ls) b.number) (sym same) b.fault)

pub one_verdict_of_reading : OneVerdictOfReading
one_verdict_of_reading text (sentences ss) (sentences us) a b = ap sentences (sentences_once text ss us a b)
one_verdict_of_reading text (sentences ss) (syntax_fault q) a b = absurd (read_or_syntax text ss q a b)
one_verdict_of_reading text (sentences ss) (too_deep q) a b = absurd (read_or_deep text ss q a b)
one_verdict_of_reading text (token_fault c p) (sentences us) a b = absurd (not_both b.tokens a)
one_verdict_of_reading text (token_fault c p) (token_fault d q) a b = let same = one_fault a b in ap (λ x. token_fault x p) same.0 ∙ ap (λ x. token_fault d x) same.1
one_verdict_of_reading text (token_fault c p) (syntax_fault q) a b = absurd (not_both b.tokens a)
one_verdict_of_reading text (token_fault c p) (too_deep q) a b = absurd (not_both b.tokens a)
one_verdict_of_reading text (syntax_fault p) (sentences us) a b = absurd (read_or_syntax text us p b a)
one_verdict_of_reading text (syntax_fault p) (syntax_fault q) a b = ap syntax_fault (syntax_once text p q a b)
one_verdict_of_reading text (syntax_fault p) (too_deep q) a b = absurd (syntax_or_deep text p q a b)
one_verdict_of_reading text (too_deep p) (sentences us) a b = absurd (read_or_deep text us p b a)
one_verdict_of_reading text (too_deep p) (syntax_fault q) a b = absurd (syntax_or_deep text q p b a)
one_verdict_of_reading text (too_deep p) (too_deep q) a b = ap too_deep (deep_once text p q a b)
one_verdict_of_reading text _ _ a b = absurd (not_both a.tokens b)
