-- What gates and negations become.
use Rattle.std.proofs.Common.{◌≡◌, ℕ, List, [], ◌∷◌, ◌++◌, refl, ap, sym, ◌∙◌, append_assoc, Result, Ok, Err}
use Rattle.fd_language.specs.Term.{Term}
use Rattle.fd_language.specs.Range.{Range, Indexical}
use Rattle.fd_model.specs.declared.kinds.QueryFault.{QueryFault}
use Rattle.fd_model.specs.Members.{Member, Open, Known, as_member, after, equated_from}
use Rattle.fd_model.specs.Linear.{of_both}
use Rattle.fd_model.specs.Splitting.{pair_of, on_two, on_three, of_two, of_three}
use Rattle.product_bool.specs.Posts.{pairs_of, indexicals, Posts}

pub pairs_append : (ps qs : List Indexical) → pairs_of (ps ++ qs) ≡ pairs_of ps ++ pairs_of qs
pairs_append [] qs = refl
pairs_append (p ∷ ps) qs = ap (λ (rs : List (ℕ × Range)). (p.target, p.range) ∷ rs) (pairs_append ps qs)

pub pairs_back : (ps : List Indexical) → indexicals (pairs_of ps) ≡ ps
pairs_back [] = refl
pairs_back (p ∷ ps) = ap (λ (qs : List Indexical). p ∷ qs) (pairs_back ps)

-- what is posted behind what was
pub posts_both : (ps qs : List Indexical) (a b c : List (ℕ × Range)) → Posts ps a b → Posts qs b c → Posts (ps ++ qs) a c
posts_both ps qs a b c h g = g ∙ (ap (λ l. l ++ pairs_of qs) h ∙ (append_assoc a (pairs_of ps) (pairs_of qs) ∙ ap (λ l. a ++ l) (sym (pairs_append ps qs))))

pub posted_list : (ps : List Indexical) (list : List (ℕ × Range)) → Posts ps [] list → indexicals list ≡ ps
posted_list ps list p = ap indexicals p ∙ pairs_back ps

-- the members one by one
pub equated_more : (n : ℕ) (m : Member) (ms : List Member) → equated_from n (m ∷ ms) ≡ equated_from n (m ∷ []) ++ equated_from (after n m) ms
equated_more n (Open x) ms = refl
equated_more n (Known z) ms = refl

-- faults from left to right
pub three_first : (rows : ℕ → ℕ → ℕ → List Indexical) (x y z : Term) (n : ℕ) (q : QueryFault) → as_member x ≡ Err q → of_three rows x y z n ≡ Err q
three_first rows x y z n q h = ap (λ r. of_both (λ p c. Ok (on_three rows n p.0 p.1 c)) (of_both pair_of r (as_member y)) (as_member z)) h

pub three_second : (rows : ℕ → ℕ → ℕ → List Indexical) (x y z : Term) (n : ℕ) (m : Member) (q : QueryFault) → as_member x ≡ Ok m → as_member y ≡ Err q → of_three rows x y z n ≡ Err q
three_second rows x y z n m q h g =
    ap (λ r. of_both (λ p c. Ok (on_three rows n p.0 p.1 c)) (of_both pair_of r (as_member y)) (as_member z)) h
    ∙ ap (λ r. of_both (λ p c. Ok (on_three rows n p.0 p.1 c)) (of_both pair_of (Ok m) r) (as_member z)) g

pub three_third : (rows : ℕ → ℕ → ℕ → List Indexical) (x y z : Term) (n : ℕ) (m k : Member) (q : QueryFault) → as_member x ≡ Ok m → as_member y ≡ Ok k
    → as_member z ≡ Err q → of_three rows x y z n ≡ Err q
three_third rows x y z n m k q h g f =
    ap (λ r. of_both (λ p c. Ok (on_three rows n p.0 p.1 c)) (of_both pair_of r (as_member y)) (as_member z)) h
    ∙ (ap (λ r. of_both (λ p c. Ok (on_three rows n p.0 p.1 c)) (of_both pair_of (Ok m) r) (as_member z)) g
    ∙ ap (λ (r : Result Member QueryFault). of_both (λ (p : Member × Member) c. Ok (on_three rows n p.0 p.1 c)) (Ok (m, k)) r) f)

pub three_made : (rows : ℕ → ℕ → ℕ → List Indexical) (x y z : Term) (n : ℕ) (m k l : Member) → as_member x ≡ Ok m → as_member y ≡ Ok k → as_member z ≡ Ok l
    → of_three rows x y z n ≡ Ok (on_three rows n m k l)
three_made rows x y z n m k l h g f =
    ap (λ r. of_both (λ p c. Ok (on_three rows n p.0 p.1 c)) (of_both pair_of r (as_member y)) (as_member z)) h
    ∙ (ap (λ r. of_both (λ p c. Ok (on_three rows n p.0 p.1 c)) (of_both pair_of (Ok m) r) (as_member z)) g
    ∙ ap (λ (r : Result Member QueryFault). of_both (λ (p : Member × Member) c. Ok (on_three rows n p.0 p.1 c)) (Ok (m, k)) r) f)

pub two_first : (rows : ℕ → ℕ → List Indexical) (x y : Term) (n : ℕ) (q : QueryFault) → as_member x ≡ Err q → of_two rows x y n ≡ Err q
two_first rows x y n q h = ap (λ r. of_both (λ p c. Ok (on_two rows n p c)) r (as_member y)) h

pub two_second : (rows : ℕ → ℕ → List Indexical) (x y : Term) (n : ℕ) (m : Member) (q : QueryFault) → as_member x ≡ Ok m → as_member y ≡ Err q → of_two rows x y n ≡ Err q
two_second rows x y n m q h g = ap (λ r. of_both (λ p c. Ok (on_two rows n p c)) r (as_member y)) h ∙ ap (λ r. of_both (λ p c. Ok (on_two rows n p c)) (Ok m) r) g

pub two_made : (rows : ℕ → ℕ → List Indexical) (x y : Term) (n : ℕ) (m k : Member) → as_member x ≡ Ok m → as_member y ≡ Ok k → of_two rows x y n ≡ Ok (on_two rows n m k)
two_made rows x y n m k h g = ap (λ r. of_both (λ p c. Ok (on_two rows n p c)) r (as_member y)) h ∙ ap (λ r. of_both (λ p c. Ok (on_two rows n p c)) (Ok m) r) g
