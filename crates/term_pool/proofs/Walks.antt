-- Why a walk over the terms of a pool ends. It keeps a list of the ids that it has still to look at, and replaces an id by those of its parts.
use Rattle.std.proofs.Common.{◌≡◌, ◌<◌, ◌+◌, List, [], ◌∷◌, ◌++◌, refl, sym, ap, ◌∙◌, arith}
use Rattle.fd_language.specs.Term.{Term, Var, Int, Atom, Comp}
use Rattle.term_pool.specs.declared.TermId.{TermId}
use Rattle.term_pool.specs.Contents.{Shape, var, int, atom, comp, Contents, parts_of}
use Rattle.term_pool.specs.Terms.{terms_by, term_of, shape_term, size, sizes, total_size}

pub total_size-nil : (c : Contents) → total_size c [] ≡ 0
unfolding total_size
total_size-nil c = refl

pub total_size-cons : (c : Contents) (t : TermId) (ts : List TermId) → total_size c (t ∷ ts) ≡ size (term_of c t) + total_size c ts
unfolding total_size
total_size-cons c t ts = refl

pub total_size-append : (c : Contents) (ts us : List TermId) → total_size c (ts ++ us) ≡ total_size c ts + total_size c us
total_size-append c [] us = omega (arith, total_size-nil c)
total_size-append c (t ∷ ts) us = omega (arith, total_size-cons c t (ts ++ us), total_size-cons c t ts, total_size-append c ts us)

sizes-terms_by : (c : Contents) (ts : List TermId) → sizes (terms_by (term_of c) ts) ≡ total_size c ts
sizes-terms_by c [] = sym (total_size-nil c)
sizes-terms_by c (t ∷ ts) = ap (λ n. size (term_of c t) + n) (sizes-terms_by c ts) ∙ sym (total_size-cons c t ts)

-- A term is by one larger than its parts together.
pub size_of_shape : (c : Contents) (t : TermId) (s : Shape) → term_of c t ≡ shape_term c s → size (term_of c t) ≡ total_size c (parts_of s) + 1
size_of_shape c t (var x) e = ap size e ∙ omega (arith, total_size-nil c)
size_of_shape c t (int z) e = ap size e ∙ omega (arith, total_size-nil c)
size_of_shape c t (atom a) e = ap size e ∙ omega (arith, total_size-nil c)
size_of_shape c t (comp f ts) e = ap size e ∙ omega (arith, sizes-terms_by c ts)

pub size_above_zero : (x : Term) → 0 < size x
size_above_zero (Var n) = omega arith
size_above_zero (Int z) = omega arith
size_above_zero (Atom a) = omega arith
size_above_zero (Comp f ts) = omega arith

-- Without its last id a list's terms are smaller together.
pub rest_is_smaller : (c : Contents) (ts : List TermId) (t : TermId) → total_size c ts < total_size c (ts ++ t ∷ [])
rest_is_smaller c ts t = omega (arith, total_size-append c ts (t ∷ []), total_size-cons c t [], total_size-nil c, size_above_zero (term_of c t))

-- With the parts of its last id in that id's place, a list's terms are smaller together.
pub parts_are_smaller : (c : Contents) (ts : List TermId) (t : TermId) (s : Shape) → term_of c t ≡ shape_term c s → total_size c (ts ++ parts_of s) < total_size c (ts ++ t ∷ [])
parts_are_smaller c ts t s e =
    omega (arith, total_size-append c ts (parts_of s), total_size-append c ts (t ∷ []), total_size-cons c t [], total_size-nil c, size_of_shape c t s e)
