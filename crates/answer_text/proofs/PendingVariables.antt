-- The variables of the terms that a walk has before it.
use Rattle.std.proofs.Common.{◌≡◌, ℕ, suc, ◌<◌, List, [], ◌∷◌, ◌++◌, refl, sym, ap, ◌∙◌, subst, arith, append_assoc}
use Rattle.std.specs.Prelude.{reverse, All}
use Rattle.std.proofs.lemmas.List.Elements.{All-push}
use Rattle.std.proofs.lemmas.List.{append-nil, reverse-append}
use Rattle.fd_language.specs.Term.{Name, Term, Comp}
use Rattle.fd_language.specs.Variables.{variables_of, variables_of_all}
use Rattle.term_pool.specs.declared.TermId.{TermId}
use Rattle.term_pool.specs.Contents.{Contents, Shape, parts_of}
use Rattle.term_pool.specs.Terms.{term_of, terms_by, shape_term, total_size}
use Rattle.term_pool.proofs.Lemmas.{total_size-append, total_size-cons, total_size-nil, size_of_shape}
use Rattle.answer_text.specs.Pieces.{inserted}
use Rattle.answer_text.proofs.VariableNumbers.{inserted_append}

-- the variables of the terms of these ids, the last of which is looked at first
abbrev pub variables_ahead : Contents → List TermId → List ℕ
variables_ahead c [] = []
variables_ahead c (t ∷ ts) = variables_ahead c ts ++ variables_of (term_of c t)

pub ahead-append : (c : Contents) (ts us : List TermId) → variables_ahead c (ts ++ us) ≡ variables_ahead c us ++ variables_ahead c ts
ahead-append c [] us = sym (append-nil (variables_ahead c us))
ahead-append c (t ∷ ts) us =
    ap (λ (l : List ℕ). l ++ variables_of (term_of c t)) (ahead-append c ts us) ∙ append_assoc (variables_ahead c us) (variables_ahead c ts) (variables_of (term_of c t))

-- the parts of a term, the last of which is put first
pub ahead-reverse : (c : Contents) (ts : List TermId) → variables_ahead c (reverse ts) ≡ variables_of_all (terms_by (term_of c) ts)
ahead-reverse c [] = refl
ahead-reverse c (t ∷ ts) =
    ap (variables_ahead c) (reverse-append (t ∷ []) ts) ∙ ahead-append c (reverse ts) (t ∷ []) ∙ ap (λ (l : List ℕ). variables_of (term_of c t) ++ l) (ahead-reverse c ts)

-- the last term is looked at: its variables are taken
pub walk_takes : (c : Contents) (ks new : List ℕ) (ahead rest : List TermId) (t : TermId) (u : Term) (all : List ℕ) → ahead ≡ rest ++ t ∷ [] → term_of c t ≡ u → new ≡ inserted ks (variables_of u)
    → inserted ks (variables_ahead c ahead) ≡ all → inserted new (variables_ahead c rest) ≡ all
walk_takes c ks new ahead rest t u all e f g h =
    ap (λ (l : List ℕ). inserted l (variables_ahead c rest)) (g ∙ ap (λ (x : Term). inserted ks (variables_of x)) (sym f))
    ∙ sym (ap (inserted ks) (ahead-append c rest (t ∷ [])) ∙ inserted_append ks (variables_of (term_of c t)) (variables_ahead c rest))
    ∙ ap (λ (ts : List TermId). inserted ks (variables_ahead c ts)) (sym e)
    ∙ h

-- or its parts are put in its place
pub walk_opens : (c : Contents) (ks : List ℕ) (ahead rest new : List TermId) (t : TermId) (f : Name) (ids : List TermId) (all : List ℕ) → ahead ≡ rest ++ t ∷ []
    → term_of c t ≡ Comp f (terms_by (term_of c) ids) → new ≡ rest ++ reverse ids
    → inserted ks (variables_ahead c ahead) ≡ all → inserted ks (variables_ahead c new) ≡ all
walk_opens c ks ahead rest new t f ids all d e g h =
    ap (λ (ts : List TermId). inserted ks (variables_ahead c ts)) g
    ∙ ap (inserted ks) (ahead-append c rest (reverse ids) ∙ ap (λ (l : List ℕ). l ++ variables_ahead c rest) (ahead-reverse c ids ∙ ap variables_of (sym e)) ∙ sym (ahead-append c rest (t ∷ [])))
    ∙ ap (λ (ts : List TermId). inserted ks (variables_ahead c ts)) (sym d)
    ∙ h

-- what holds of each element holds of each in the other order
pub each_reversed : (P : TermId → Type 0) (ts : List TermId) → All P ts → All P (reverse ts)
each_reversed P [] h = h
each_reversed P (t ∷ ts) h =
    subst (All P) (sym (reverse-append (t ∷ []) ts)) (All-push P (reverse ts) t (each_reversed P ts (λ k d l. h (suc k) d (omega arith))) (h 0 t (omega arith)))

total_size-reverse : (c : Contents) (ts : List TermId) → total_size c (reverse ts) ≡ total_size c ts
total_size-reverse c [] = refl
total_size-reverse c (t ∷ ts) =
    ap (total_size c) (reverse-append (t ∷ []) ts) ∙ omega (arith, total_size-append c (reverse ts) (t ∷ []), total_size-cons c t [], total_size-nil c, total_size-reverse c ts, total_size-cons c t ts)

-- with the parts of its last term in that term's place, what a walk has before it is smaller
pub walk_falls : (c : Contents) (rest : List TermId) (t : TermId) (s : Shape) → term_of c t ≡ shape_term c s → total_size c (rest ++ reverse (parts_of s)) < total_size c (rest ++ t ∷ [])
walk_falls c rest t s e =
    omega (
      arith,
      total_size-append c rest (reverse (parts_of s)),
      total_size-append c rest (t ∷ []),
      total_size-cons c t [],
      total_size-nil c,
      size_of_shape c t s e,
      total_size-reverse c (parts_of s),
    )
