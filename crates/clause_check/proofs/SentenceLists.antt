-- Sentences from the first to the last, and the first refusal among them.
use Rattle.std.proofs.Common.{◌≡◌, ℕ, suc, ◌+◌, ◌<◌, List, [], ◌∷◌, ◌++◌, Option, Some, None, length, map, take, drop, get_or, refl, sym, ap, ◌∙◌, subst}
use Rattle.std.proofs.lemmas.List.{take_more, map-append}
use Rattle.std.proofs.Math.Seq.{split_at}
use Rattle.fd_language.specs.PlacedTerm.{PlacedTerm}
use Rattle.fd_language.specs.declared.TheConstants.{INFINITY}
use Rattle.fd_model.specs.Refusals as model
use Rattle.fd_model.specs.Refusals.{or_later, sentence_refusal, first_refusal}
use Rattle.term_pool.specs.Contents.{Contents}
use Rattle.term_pool.specs.PlacedTerms.{placed_of}
use Rattle.term_reader.specs.declared.reader.Sentence.{Sentence}
use Rattle.term_reader.specs.declared.reader.Sentences.{Sentences}
use Rattle.clause_check.specs.declared.faults.Fault.{Fault}
use Rattle.clause_check.specs.declared.faults.Fault.TheVariants.{Refused, NoMemory}
use Rattle.clause_check.specs.Causes.{RefusedBy}
use Rattle.clause_check.specs.Terms.{terms_of}

pub or_later-assoc : (a b c : Option model.Refusal) → or_later (or_later a b) c ≡ or_later a (or_later b c)
or_later-assoc None b c = refl
or_later-assoc (Some r) b c = refl

-- what is refused by the first of two is refused by both
pub refused_by_first : (c : Contents) (a b : Option model.Refusal) (e : Fault) → RefusedBy c a e → RefusedBy c (or_later a b) e
refused_by_first c a b (Refused p k) h = (h.0, ap (λ (o : Option model.Refusal). or_later o b) h.1)
refused_by_first c a b NoMemory h = tt

-- the terms of the first sentences
abbrev pub front : Sentences → ℕ → List PlacedTerm
front s i = map (λ x. placed_of s.pool x.term) (take i s.list.items)

abbrev pub term_in : Sentences → Sentence → PlacedTerm
term_in s x = placed_of s.pool x.term

pub front_more : (s : Sentences) (i : ℕ) (d : Sentence) → i < length s.list.items → d ≡ get_or s.list.items i d → front s (i + 1) ≡ front s i ++ term_in s d ∷ []
front_more s i d h e =
    ap (map (term_in s)) (take_more s.list.items i d h) ∙ map-append (term_in s) (take i s.list.items) (get_or s.list.items i d ∷ [])
    ∙ ap (λ (x : Sentence). front s i ++ term_in s x ∷ []) (sym e)

all_split : (s : Sentences) (i : ℕ) (d : Sentence) → i < length s.list.items → d ≡ get_or s.list.items i d → terms_of s ≡ front s i ++ term_in s d ∷ map (term_in s) (drop (suc i) s.list.items)
all_split s i d h e =
    ap (map (term_in s)) (split_at s.list.items i d h) ∙ map-append (term_in s) (take i s.list.items) (get_or s.list.items i d ∷ drop (suc i) s.list.items)
    ∙ ap (λ (x : Sentence). front s i ++ term_in s x ∷ map (term_in s) (drop (suc i) s.list.items)) (sym e)

first_append : (N : ℕ) (all xs ys : List PlacedTerm) → first_refusal INFINITY N all (xs ++ ys) ≡ or_later (first_refusal INFINITY N all xs) (first_refusal INFINITY N all ys)
first_append N all [] ys = refl
first_append N all (x ∷ xs) ys =
    ap (or_later (sentence_refusal INFINITY N all x)) (first_append N all xs ys)
    ∙ sym (or_later-assoc (sentence_refusal INFINITY N all x) (first_refusal INFINITY N all xs) (first_refusal INFINITY N all ys))

refused_first : (N : ℕ) (c : Contents) (all before later : List PlacedTerm) (x : PlacedTerm) (e : Fault) → first_refusal INFINITY N all before ≡ None
    → RefusedBy c (sentence_refusal INFINITY N all x) e
    → RefusedBy c (first_refusal INFINITY N all (before ++ x ∷ later)) e
refused_first N c all before later x e n h =
    let rest = or_later (sentence_refusal INFINITY N all x) (first_refusal INFINITY N all later) in
    subst (λ (o : Option model.Refusal). RefusedBy c o e) (sym (first_append N all before (x ∷ later) ∙ ap (λ (o : Option model.Refusal). or_later o rest) n))
    (refused_by_first c (sentence_refusal INFINITY N all x) (first_refusal INFINITY N all later) e h)

-- the first sentence that offends decides
pub refused_at_sentence : (N : ℕ) (s : Sentences) (i : ℕ) (d : Sentence) (e : Fault) → i < length s.list.items → d ≡ get_or s.list.items i d → first_refusal INFINITY N (terms_of s) (front s i) ≡ None
    → RefusedBy s.pool (sentence_refusal INFINITY N (terms_of s) (term_in s d)) e → RefusedBy s.pool (first_refusal INFINITY N (terms_of s) (terms_of s)) e
refused_at_sentence N s i d e h is n r =
    subst (λ (xs : List PlacedTerm). RefusedBy s.pool (first_refusal INFINITY N (terms_of s) xs) e) (sym (all_split s i d h is))
    (refused_first N s.pool (terms_of s) (front s i) (map (term_in s) (drop (suc i) s.list.items)) (term_in s d) e n r)

-- one sentence more that is accepted
pub accepted_more : (N : ℕ) (s : Sentences) (i : ℕ) (d : Sentence) → i < length s.list.items → d ≡ get_or s.list.items i d
    → first_refusal INFINITY N (terms_of s) (front s i) ≡ None → sentence_refusal INFINITY N (terms_of s) (term_in s d) ≡ None
    → first_refusal INFINITY N (terms_of s) (front s (i + 1)) ≡ None
accepted_more N s i d h is n a =
    let all = terms_of s in
    ap (first_refusal INFINITY N all) (front_more s i d h is) ∙ first_append N all (front s i) (term_in s d ∷ [])
    ∙ ap (λ (o : Option model.Refusal). or_later o (or_later (sentence_refusal INFINITY N all (term_in s d)) None)) n ∙ ap (λ (o : Option model.Refusal). or_later o None) a
