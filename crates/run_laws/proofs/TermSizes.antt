-- Each variable of a term that is read is a token of its own, and each token has a byte.
use Rattle.std.proofs.Common.{◌≡◌, ℕ, suc, ◌+◌, ◌≤◌, List, [], ◌∷◌, length, map, refl, ap, subst, ◌∙◌, arith, length-append}
use Rattle.std.specs.Prelude.{reverse}
use mathlib.Core.List.{reverse_aux}
use Rattle.std.proofs.lemmas.List.{append-nil, reverse-reverse}
use Rattle.fd_language.specs.Lists.{Each}
use Rattle.fd_language.specs.Variables.{variables_of, variables_of_all}
use Rattle.fd_language.specs.PlacedTerm.{PlacedTerm, PlacedTerms, atom, no_parts, part, plain, all_plain}
use Rattle.fd_language.specs.Tokens.{Lexeme, TokensOf}
use Rattle.fd_language.specs.TokenSlices.{AreSlices}
use Rattle.fd_language.specs.Terminals.{Terminal}
use Rattle.fd_language.specs.Grammar.{nil_name, list_of, Reads, an_integer, a_negative, a_variable, an_atom, empty_list, empty_curly, named_call, operator_call}
use Rattle.fd_language.specs.Grammar.{in_parens, operator_in_parens, a_list, a_list_tail, in_curly, a_prefix, an_infix, Arg, a_term, an_operator, Args, last}
use Rattle.fd_language.specs.Grammar.{more, Sentences, none, next}
use Rattle.fd_language.specs.Reading.{terminals, names_behind, Sentence, IsSentences}
use Rattle.fd_language.proofs.Lemmas.{each_map, tokens_are_slices}

-- ---- by the grammar

abbrev pub size : PlacedTerm → ℕ
size t = length (variables_of (plain t))

abbrev all_size : PlacedTerms → ℕ
all_size xs = length (variables_of_all (all_plain xs))

part_size : (t : PlacedTerm) (xs : PlacedTerms) → all_size (part t xs) ≡ size t + all_size xs
part_size t xs = length-append (variables_of (plain t)) (variables_of_all (all_plain xs))

pub one_size : (t : PlacedTerm) → all_size (part t no_parts) ≡ size t
one_size t = ap (λ (vs : List ℕ). length vs) (append-nil (variables_of (plain t)))

pub two_size : (a b : PlacedTerm) → all_size (part a (part b no_parts)) ≡ size a + size b
two_size a b = part_size a (part b no_parts) ∙ ap (λ n. size a + n) (one_size b)

list_size : (p : ℕ) (xs : PlacedTerms) (t : PlacedTerm) → size (list_of p xs t) ≡ all_size xs + size t
list_size p no_parts t = omega arith
list_size p (part x xs) t =
    let here = two_size x (list_of p xs t) in
    let later = list_size p xs t in
    let both = part_size x xs in
    omega (arith, here, later, both)

-- what is read has no more variables than tokens
mutual
  reads_size : {ts rest : List Terminal} {q : ℕ} {t : PlacedTerm} → Reads ts rest q t → size t + length rest ≤ length ts
  reads_size an_integer = omega arith
  reads_size (a_negative e) = omega arith
  reads_size a_variable = omega arith
  reads_size an_atom = omega arith
  reads_size empty_list = omega arith
  reads_size empty_curly = omega arith
  reads_size (named_call d) = let h = args_size d in omega (arith, h)
  reads_size (operator_call d) = let h = args_size d in omega (arith, h)
  reads_size (in_parens d le) = let h = reads_size d in omega (arith, h)
  reads_size operator_in_parens = omega arith
  reads_size (a_list {p = p} {xs = xs} d) = let h = args_size d in let e = list_size p xs (atom nil_name p) in omega (arith, h, e)
  reads_size (a_list_tail {p = p} {xs = xs} {t = t} d r) = let h = args_size d in let g = arg_size r in let e = list_size p xs t in omega (arith, h, g, e)
  reads_size (in_curly {t = t} d le) = let h = reads_size d in let e = one_size t in omega (arith, h, e)
  reads_size (a_prefix {t = t} f e m d le) = let h = reads_size d in let k = one_size t in omega (arith, h, k)
  reads_size (an_infix {a = a} {b = b} f e d le r le2) = let h = reads_size d in let g = reads_size r in let k = two_size a b in omega (arith, h, g, k)

  arg_size : {ts rest : List Terminal} {t : PlacedTerm} → Arg ts rest t → size t + length rest ≤ length ts
  arg_size (a_term d le) = reads_size d
  arg_size an_operator = omega arith

  args_size : {ts rest : List Terminal} {xs : PlacedTerms} → Args ts rest xs → all_size xs + length rest ≤ length ts
  args_size (last {t = t} d) = let h = arg_size d in let e = one_size t in omega (arith, h, e)
  args_size (more {t = t} {xs = xs} d r) = let h = arg_size d in let g = args_size r in let e = part_size t xs in omega (arith, h, g, e)

-- each sentence, and what follows them, has no more than the tokens
sentences_size : {ts rest : List Terminal} {terms : List PlacedTerm} → Sentences ts terms rest → (length rest ≤ length ts) × Each (λ t. size t ≤ length ts) terms
sentences_size none = (omega arith, tt)
sentences_size (next d r le) = let h = sentences_size d in let g = reads_size r in (omega (arith, h.0, g), (omega (arith, h.0, g), h.1))

-- ---- by the tokens of the text

terminals_length : (names : List (List ℕ)) (ls : List Lexeme) → length (terminals names ls) ≡ length ls
terminals_length names [] = refl
terminals_length names (l ∷ ls) = ap suc (terminals_length (names_behind names l) ls)

slices_length : (text : List ℕ) (from : ℕ) (ls : List Lexeme) → from ≤ length text → AreSlices text from ls → from + length ls ≤ length text
slices_length text from [] l h = omega (arith, l)
slices_length text from (t ∷ ts) l (a, b, c, d, e) = let later = slices_length text (t.place + length t.text) ts c e in omega (arith, a, b, later)

-- a text has no more tokens than bytes
tokens_length : (text : List ℕ) (ls : List Lexeme) → TokensOf text ls → length ls ≤ length text
tokens_length text ls h = let k = slices_length text 0 ls (omega arith) (tokens_are_slices text ls h) in omega (arith, k)

-- ---- the sentences of a text

each_reversed : (H : PlacedTerm → Type 0) (xs ys : List PlacedTerm) → Each H xs → Each H ys → Each H (reverse_aux xs ys)
each_reversed H [] ys h g = g
each_reversed H (x ∷ xs) ys h g = each_reversed H xs (x ∷ ys) h.1 (h.0, g)

each_sentence : (n : ℕ) (ss : List Sentence) → Each (λ t. size t ≤ n) (map (λ s. s.term) ss) → Each (λ s. size s.term ≤ n) ss
each_sentence n [] h = tt
each_sentence n (s ∷ ss) h = (h.0, each_sentence n ss h.1)

-- no sentence of a text has more occurrences of variables than the text has bytes
pub sentence_sizes : (text : List ℕ) (ss : List Sentence) → IsSentences text ss → Each (λ s. size s.term ≤ length text) ss
sentence_sizes text ss a =
    let terms = map (λ s. s.term) ss in
    let few : length (terminals [] a.lexemes) ≤ length text =
    (let k = tokens_length text a.lexemes a.tokens in let e = terminals_length [] a.lexemes in omega (arith, k, e)) in
    let found = (sentences_size a.terms.text).1 in
    let each = each_reversed (λ t. size t ≤ length (terminals [] a.lexemes)) (reverse terms) [] found tt in
    each_sentence (length text) ss
    (each_map (λ t. size t ≤ length (terminals [] a.lexemes)) (λ t. size t ≤ length text) (λ t k. omega (arith, few, k)) terms
    (subst (λ ts. Each (λ t. size t ≤ length (terminals [] a.lexemes)) ts) (reverse-reverse terms) each))
