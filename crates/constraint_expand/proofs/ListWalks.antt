-- Lists are walked cell by cell.
use Rattle.std.proofs.Common.{◌≡◌, ℕ, zero, suc, ◌≤◌, ℤ, pos, get_or, FitsSigned, Bool, true, false, cond, List, [], ◌∷◌, ◌++◌, length, map, Option, None, Some}
use Rattle.std.proofs.Common.{Result, Ok, Err, refl, sym, ap, subst, ◌∙◌, arith, append_assoc, append-nil}
use Rattle.std.specs.Prelude.{codes}
use Rattle.std.specs.Int.{w64}
use Rattle.std.specs.Str.{bytes_eq}
use Rattle.std.proofs.lemmas.Int.{fits_signed_from_abs}
use Rattle.std.proofs.lemmas.List.{map_push as mapped_push}
use Rattle.fd_language.specs.Term.{Term, Var, Int, Atom, Comp, no_terms, term, Name}
use Rattle.fd_model.specs.declared.kinds.QueryFault.{QueryFault}
use Rattle.fd_model.specs.declared.kinds.QueryFault.TheVariants.{BadType}
use Rattle.fd_model.specs.Linear.{of_one, of_both}
use Rattle.fd_model.specs.Members.{as_integer, walk, prepend}
use Rattle.term_pool.specs.declared.TermId.{TermId}
use Rattle.term_pool.specs.Contents.{Contents}
use Rattle.term_pool.specs.Terms.{term_of, terms_by}
use Rattle.term_pool.specs.PoolInvariant.{IsStorable}
use Rattle.constraint_expand.specs.Lists.{AreWords, cell_of, IsCell, Walking}

walk_cell : {A : Type 0} → (Term → Result A QueryFault) → Option (Term × Term) → Result (List A) QueryFault
walk_cell read None = Ok []
walk_cell read (Some p) = of_both prepend (read p.0) (walk read p.1)

walk_by_cell : {A : Type 0} (read : Term → Result A QueryFault) (t : Term) → walk read t ≡ of_one (walk_cell read) (cell_of t)
unfolding walk_cell
walk_by_cell read (Var x) = refl
walk_by_cell read (Int z) = refl
walk_by_cell {A} read (Atom a) = by (bytes_eq a (codes "[]")) where
  by : (b : Bool) → (let none : Result (List A) QueryFault = Ok [] in cond b none (Err BadType)) ≡ of_one (walk_cell read) (cond b (Ok None) (Err BadType))
  by true = refl
  by false = refl
walk_by_cell read (Comp f no_terms) = refl
walk_by_cell read (Comp f (term h no_terms)) = refl
walk_by_cell read (Comp f (term h (term t no_terms))) = by (bytes_eq f (codes ".")) where
  by : (b : Bool) → cond b (of_both prepend (read h) (walk read t)) (Err BadType) ≡ of_one (walk_cell read) (cond b (Ok (Some (h, t))) (Err BadType))
  by true = refl
  by false = refl
walk_by_cell read (Comp f (term h (term t (term u us)))) = refl

pub several_parts : (c : Contents) (t : Term) (f : Name) (ts : List TermId) → t ≡ Comp f (terms_by (term_of c) ts) → 3 ≤ length ts → cell_of t ≡ Err BadType
several_parts c t f [] e l = absurd (omega arith)
several_parts c t f (a ∷ []) e l = absurd (omega arith)
several_parts c t f (a ∷ b ∷ []) e l = absurd (omega arith)
several_parts c t f (a ∷ b ∷ d ∷ ts) e l = ap cell_of e

module _ {A : Type 0} (read : Term → Result A QueryFault) (c : Contents) (list rest : TermId) (done : List A) (w : Walking read c list rest done) where
  rest_is : (r : Result (Option (Term × Term)) QueryFault) → cell_of (term_of c rest) ≡ r → of_one (λ xs. Ok (done ++ xs)) (of_one (walk_cell read) r) ≡ walk read (term_of c list)
  rest_is r e = ap (λ q. of_one (λ xs. Ok (done ++ xs)) (of_one (walk_cell read) q)) (sym e) ∙ ap (of_one (λ xs. Ok (done ++ xs))) (sym (walk_by_cell read (term_of c rest))) ∙ w.is

  -- no cell: the end, or a fault
  pub walk_ends : cell_of (term_of c rest) ≡ Ok None → walk read (term_of c list) ≡ Ok done
  unfolding walk_cell
  walk_ends e = sym (rest_is (Ok None) e) ∙ ap (λ xs. Ok xs) (append-nil done)

  pub walk_stops : (q : QueryFault) → cell_of (term_of c rest) ≡ Err q → walk read (term_of c list) ≡ Err q
  walk_stops q e = sym (rest_is (Err q) e)

  module _ (head tail : TermId) (k : IsCell c rest head tail) where
    cell_is : (r : Result A QueryFault) → read (term_of c head) ≡ r → of_one (λ xs. Ok (done ++ xs)) (of_both prepend r (walk read (term_of c tail))) ≡ walk read (term_of c list)
    unfolding walk_cell
    cell_is r e = ap (λ q. of_one (λ xs. Ok (done ++ xs)) (of_both prepend q (walk read (term_of c tail)))) (sym e) ∙ rest_is (Ok (Some (term_of c head, term_of c tail))) k.is

    -- a member that is none
    pub member_stops : (q : QueryFault) → read (term_of c head) ≡ Err q → walk read (term_of c list) ≡ Err q
    member_stops q e = sym (cell_is (Err q) e)

    -- a member more
    pub walk_turns : (x : A) → read (term_of c head) ≡ Ok x → Walking read c list tail (done ++ x ∷ [])
    walk_turns x e = record { within = k.tail_within; is = by (walk read (term_of c tail)) ∙ cell_is (Ok x) e } where
      by : (r : Result (List A) QueryFault) → of_one (λ xs. Ok ((done ++ x ∷ []) ++ xs)) r ≡ of_one (λ xs. Ok (done ++ xs)) (of_both prepend (Ok x) r)
      by (Ok xs) = ap (λ ys. Ok ys) (append_assoc done (x ∷ []) xs)
      by (Err f) = refl

pub map_push : {A B : Type 0} (f : A → B) (xs ys : List A) (x : A) → ys ≡ xs ++ x ∷ [] → map f ys ≡ map f xs ++ f x ∷ []
map_push f xs ys x e = ap (map f) e ∙ mapped_push f xs x

-- What is read of a term of the pool as an integer has 64 bits.
integer_word : (t : Term) (z : ℤ) → IsStorable t → as_integer t ≡ Ok z → FitsSigned w64 z
integer_word (Int y) z s e = let same : y ≡ z = cc in subst (FitsSigned w64) same s
integer_word (Var x) z s e = absurd (cc)
integer_word (Atom a) z s e = absurd (cc)
integer_word (Comp f ts) z s e = absurd (cc)

fits_none : FitsSigned w64 (pos 0)
fits_none = fits_signed_from_abs w64 (pos 0) (omega arith)

words_none : (zs : List ℤ) → (let none : Result (List ℤ) QueryFault = Ok [] in none ≡ Ok zs) → AreWords zs
words_none [] e k = fits_none
words_none (z ∷ zs) e k = absurd (cc)

words_cons : (r : Result ℤ QueryFault) (q : Result (List ℤ) QueryFault) (zs : List ℤ) → of_both prepend r q ≡ Ok zs → ((z : ℤ) → r ≡ Ok z → FitsSigned w64 z)
    → ((ys : List ℤ) → q ≡ Ok ys → AreWords ys) → AreWords zs
words_cons (Ok z) (Ok ys) zs e f g = let same : z ∷ ys ≡ zs = cc in subst AreWords same (λ k. by k) where
  by : (k : ℕ) → FitsSigned w64 (get_or (z ∷ ys) k (pos 0))
  by zero = f z refl
  by (suc k) = g ys refl k
words_cons (Ok z) (Err q) zs e f g = absurd (cc)
words_cons (Err r) q zs e f g = absurd (cc)

-- The elements of a list of integers of the pool have 64 bits.
pub walked_words : (t : Term) (zs : List ℤ) → IsStorable t → walk as_integer t ≡ Ok zs → AreWords zs
walked_words (Var x) zs s e = absurd (cc)
walked_words (Int z) zs s e = absurd (cc)
walked_words (Atom a) zs s e = by (bytes_eq a (codes "[]")) e where
  by : (b : Bool) → (let none : Result (List ℤ) QueryFault = Ok [] in cond b none (Err BadType)) ≡ Ok zs → AreWords zs
  by true g = words_none zs g
  by false g = absurd (cc)
walked_words (Comp f no_terms) zs s e = absurd (cc)
walked_words (Comp f (term h no_terms)) zs s e = absurd (cc)
walked_words (Comp f (term h (term t no_terms))) zs s e = by (bytes_eq f (codes ".")) e (λ ys k. walked_words t ys s.1.1.0 k) where
  by : (b : Bool) → cond b (of_both prepend (as_integer h) (walk as_integer t)) (Err BadType) ≡ Ok zs → ((ys : List ℤ) → walk as_integer t ≡ Ok ys → AreWords ys) → AreWords zs
  by true g k = words_cons (as_integer h) (walk as_integer t) zs g (λ z e. integer_word h z s.1.0 e) k
  by false g k = absurd (cc)
walked_words (Comp f (term h (term t (term u us)))) zs s e = absurd (cc)
