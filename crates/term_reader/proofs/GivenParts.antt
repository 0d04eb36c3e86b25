-- Each compound term that the grammar reads has an argument.
use Rattle.std.proofs.Common.{ℕ, List, [], ◌∷◌, ◌++◌, map, sym, subst}
use Rattle.std.specs.Prelude.{reverse, Result, Ok, Err, IfOk}
use Rattle.std.specs.List.{AllByRecursion}
use Rattle.std.proofs.lemmas.List.{reverse-append, reverse-reverse}
use Rattle.std.proofs.lemmas.List.Elements.{All-from_recursion}
use Rattle.fd_language.specs.PlacedTerm.{PlacedTerm, PlacedTerms, atom, no_parts, part}
use Rattle.fd_language.specs.Terminals.{Terminal}
use Rattle.fd_language.specs.Grammar.{nil_name, list_of, Reads, an_integer, a_negative, a_variable, an_atom, empty_list, empty_curly, named_call, operator_call}
use Rattle.fd_language.specs.Grammar.{in_parens, operator_in_parens, a_list, a_list_tail, in_curly, a_prefix, an_infix, Arg, a_term, an_operator, Args, last}
use Rattle.fd_language.specs.Grammar.{more, Sentences, none, next}
use Rattle.fd_language.specs.Reading.{IsSentences}
use Rattle.term_pool.specs.Contents.{Contents}
use Rattle.term_pool.specs.PlacedTerms.{placed_of}
use Rattle.term_reader.specs.Sentences.{sentence_of, sentences_of}
use Rattle.term_reader.specs.declared.reader.Sentence.{Sentence}
use Rattle.term_reader.specs.declared.reader.Sentences as read
use Rattle.term_reader.specs.declared.reader.ReaderFault.{ReaderFault}
use Rattle.term_reader.specs.GivenParts.{AreSome, HasParts, EachHasParts, HaveParts}

list_parts : (p : ℕ) (xs : PlacedTerms) (t : PlacedTerm) → EachHasParts xs → HasParts t → HasParts (list_of p xs t)
list_parts p no_parts t h k = k
list_parts p (part x xs) t h k = (tt, (h.0, (list_parts p xs t h.1 k, tt)))

mutual
  reads_parts : {ts rest : List Terminal} {q : ℕ} {t : PlacedTerm} → Reads ts rest q t → HasParts t
  reads_parts an_integer = tt
  reads_parts (a_negative e) = tt
  reads_parts a_variable = tt
  reads_parts an_atom = tt
  reads_parts empty_list = tt
  reads_parts empty_curly = tt
  reads_parts (named_call d) = args_parts d
  reads_parts (operator_call d) = args_parts d
  reads_parts (in_parens d le) = reads_parts d
  reads_parts operator_in_parens = tt
  reads_parts (a_list {p = p} {xs = xs} d) = list_parts p xs (atom nil_name p) (args_parts d).1 tt
  reads_parts (a_list_tail {p = p} {xs = xs} {t = t} d e) = list_parts p xs t (args_parts d).1 (arg_parts e)
  reads_parts (in_curly d le) = (tt, (reads_parts d, tt))
  reads_parts (a_prefix f e m d le) = (tt, (reads_parts d, tt))
  reads_parts (an_infix f e d le d2 le2) = (tt, (reads_parts d, (reads_parts d2, tt)))

  arg_parts : {ts rest : List Terminal} {t : PlacedTerm} → Arg ts rest t → HasParts t
  arg_parts (a_term d le) = reads_parts d
  arg_parts an_operator = tt

  args_parts : {ts rest : List Terminal} {xs : PlacedTerms} → Args ts rest xs → AreSome xs × EachHasParts xs
  args_parts (last d) = (tt, (arg_parts d, tt))
  args_parts (more d e) = (tt, (arg_parts d, (args_parts e).1))

text_parts : {ts rest : List Terminal} {terms : List PlacedTerm} → Sentences ts terms rest → AllByRecursion HasParts terms
text_parts none = tt
text_parts (next d r le) = (reads_parts r, text_parts d)

both_parts : (xs ys : List PlacedTerm) → AllByRecursion HasParts xs → AllByRecursion HasParts ys → AllByRecursion HasParts (xs ++ ys)
both_parts [] ys h k = k
both_parts (x ∷ xs) ys h k = (h.0, both_parts xs ys h.1 k)

turned_parts : (xs : List PlacedTerm) → AllByRecursion HasParts xs → AllByRecursion HasParts (reverse xs)
turned_parts [] h = tt
turned_parts (x ∷ xs) h = subst (AllByRecursion HasParts) (sym (reverse-append (x ∷ []) xs)) (both_parts (reverse xs) (x ∷ []) (turned_parts xs h.1) (h.0, tt))

each_parts : (c : Contents) (ss : List Sentence) → AllByRecursion HasParts (map (λ x. x.term) (map (sentence_of c) ss)) → AllByRecursion (λ x. HasParts (placed_of c x.term)) ss
each_parts c [] h = tt
each_parts c (s ∷ ss) h = (h.0, each_parts c ss h.1)

-- what is read of a text has an argument in each compound term
read_parts : (text : List ℕ) (s : read.Sentences) → IsSentences text (sentences_of s) → HaveParts s
read_parts text s h =
    let terms = map (λ x. x.term) (sentences_of s) in
    let turned = turned_parts (reverse terms) (text_parts h.terms.text) in
    let each : AllByRecursion HasParts terms = subst (AllByRecursion HasParts) (reverse-reverse terms) turned in
    All-from_recursion (λ x. HasParts (placed_of s.pool x.term)) s.list.items (each_parts s.pool s.list.items each)

pub if_parts : (r : Result read.Sentences ReaderFault) (text : List ℕ) → IfOk r (λ s. IsSentences text (sentences_of s)) → IfOk r HaveParts
if_parts (Ok s) text h = read_parts text s h
if_parts (Err e) text h = tt
