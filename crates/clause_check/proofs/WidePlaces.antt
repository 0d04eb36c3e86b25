-- The smallest place of a compound term with too many arguments, among the terms that a walk has passed and those that it has before it.
use Rattle.std.proofs.Common.{◌≡◌, ℕ, ◌<◌, ◌≤◌, Bool, true, false, cond, nat_lt, List, [], ◌∷◌, ◌++◌, Option, Some, None, refl, sym, ap, ◌∙◌, arith}
use Rattle.std.proofs.Common.{length, Bor}
use Rattle.fd_language.specs.PlacedTerm.{PlacedTerm, comp}
use Rattle.fd_language.specs.Spelling.{least_place}
use Rattle.fd_model.specs.Refusals.{wide_places, wide_places_of, part_count}
use Rattle.term_pool.specs.declared.TermId.{TermId}
use Rattle.term_pool.specs.Contents.{Contents}
use Rattle.term_pool.specs.PlacedTerms.{placed_of, parts_by}
use Rattle.std.proofs.lemmas.Bool.{lt-ltb, ltb-true}
use Rattle.term_pool.specs.declared.AtomId.{AtomId}
use Rattle.term_pool.specs.declared.Node.{Node}
use Rattle.term_pool.specs.declared.Node.TheVariants as nodes
use Rattle.term_pool.specs.PoolInvariant.{shape_of}
use Rattle.clause_check.specs.Terms.{lesser, IsSeen}
use Rattle.clause_check.proofs.TermShapes.{count_parts}
use Rattle.fd_language.proofs.Lemmas.{lower, lower-none, lower-assoc, lower-comm, least_append, least_cons}

-- among the terms of these ids
abbrev pub least_ahead : Contents → List TermId → Option ℕ
least_ahead c [] = None
least_ahead c (t ∷ ts) = lower (least_place (wide_places (placed_of c t))) (least_ahead c ts)

least_ahead-append : (c : Contents) (ts us : List TermId) → least_ahead c (ts ++ us) ≡ lower (least_ahead c ts) (least_ahead c us)
least_ahead-append c [] us = refl
least_ahead-append c (t ∷ ts) us =
    ap (lower (least_place (wide_places (placed_of c t)))) (least_ahead-append c ts us)
    ∙ sym (lower-assoc (least_place (wide_places (placed_of c t))) (least_ahead c ts) (least_ahead c us))

least_of_parts : (c : Contents) (ts : List TermId) → least_place (wide_places_of (parts_by (placed_of c) ts)) ≡ least_ahead c ts
least_of_parts c [] = refl
least_of_parts c (t ∷ ts) =
    least_append (wide_places (placed_of c t)) (wide_places_of (parts_by (placed_of c) ts)) ∙ ap (lower (least_place (wide_places (placed_of c t)))) (least_of_parts c ts)

-- a term's own place, where it is one of them
abbrev pub own_place : Bool → ℕ → Option ℕ
own_place true p = Some p
own_place false p = None

least_own : (b : Bool) (p : ℕ) (ps : List ℕ) → least_place (cond b (p ∷ ps) ps) ≡ lower (own_place b p) (least_place ps)
least_own true p ps = least_cons p ps
least_own false p ps = refl

least_of_term : (c : Contents) (t : TermId) (f : List ℕ) (p : ℕ) (ts : List TermId) → placed_of c t ≡ comp f p (parts_by (placed_of c) ts)
    → least_place (wide_places (placed_of c t)) ≡ lower (own_place (nat_lt 255 (length ts)) p) (least_ahead c ts)
least_of_term c t f p ts e =
    let ps = parts_by (placed_of c) ts in
    ap (λ (x : PlacedTerm). least_place (wide_places x)) e
    ∙ least_own (nat_lt 255 (part_count ps)) p (wide_places_of ps)
    ∙ ap (λ (n : ℕ). lower (own_place (nat_lt 255 n) p) (least_place (wide_places_of ps))) (count_parts (placed_of c) ts)
    ∙ ap (lower (own_place (nat_lt 255 (length ts)) p)) (least_of_parts c ts)

moved : (l r w p : Option ℕ) → lower l (lower r (lower w p)) ≡ lower (lower l w) (lower r p)
moved l r w p =
    ap (lower l) (sym (lower-assoc r w p)) ∙ ap (λ (x : Option ℕ). lower l (lower x p)) (lower-comm r w) ∙ ap (lower l) (lower-assoc w r p) ∙ sym (lower-assoc l w (lower r p))

-- the last id is replaced by those of its parts
pub least_step : (c : Contents) (least : Option ℕ) (rest : List TermId) (t : TermId) (f : List ℕ) (p : ℕ) (ts : List TermId) → placed_of c t ≡ comp f p (parts_by (placed_of c) ts)
    → lower least (least_ahead c (rest ++ t ∷ [])) ≡ lower (lower least (own_place (nat_lt 255 (length ts)) p)) (least_ahead c (rest ++ ts))
least_step c least rest t f p ts e =
    let w = own_place (nat_lt 255 (length ts)) p in
    ap (lower least) (least_ahead-append c rest (t ∷ []))
    ∙ ap (λ (o : Option ℕ). lower least (lower (least_ahead c rest) o)) (lower-none (least_place (wide_places (placed_of c t))) ∙ least_of_term c t f p ts e)
    ∙ moved least (least_ahead c rest) w (least_ahead c ts)
    ∙ ap (lower (lower least w)) (sym (least_ahead-append c rest ts))

-- a term with no parts
pub least_skip : (c : Contents) (least : Option ℕ) (rest : List TermId) (t : TermId) → wide_places (placed_of c t) ≡ []
    → lower least (least_ahead c (rest ++ t ∷ [])) ≡ lower least (least_ahead c rest)
least_skip c least rest t e =
    ap (lower least) (least_ahead-append c rest (t ∷ [])
    ∙ ap (λ (ps : List ℕ). lower (least_ahead c rest) (lower (least_place ps) None)) e ∙ lower-none (least_ahead c rest))

lesser_lower : (least : Option ℕ) (p : ℕ) → Some (lesser least p) ≡ lower least (Some p)
lesser_lower None p = refl
lesser_lower (Some q) p = refl

-- the place of a term with too many parts counts
pub own_then : (least : Option ℕ) (n p : ℕ) → 255 < n → Some (lesser least p) ≡ lower least (own_place (nat_lt 255 n) p)
own_then least n p h = lesser_lower least p ∙ ap (λ (b : Bool). lower least (own_place b p)) (sym (lt-ltb 255 n h))

-- and that of another doesn't
pub own_else : (least : Option ℕ) (n p : ℕ) → n ≤ 255 → least ≡ lower least (own_place (nat_lt 255 n) p)
own_else least n p h = go (nat_lt 255 n) refl
  where
    go : (b : Bool) → nat_lt 255 n ≡ b → least ≡ lower least (own_place b p)
    go true e = absurd (omega (arith, ltb-true 255 n e))
    go false e = sym (lower-none least)

-- variables, integers and atoms have no such place
pub flat : (c : Contents) (t : TermId) (n : Node) → IsSeen c t (shape_of n) → ((f : AtomId) (ids : Bor (List TermId)) → n ≡ nodes.Comp f ids → ⊥) → wide_places (placed_of c t) ≡ []
flat c t (nodes.Var x) s h = ap wide_places s
flat c t (nodes.Int z) s h = ap wide_places s
flat c t (nodes.Atom a) s h = ap wide_places s
flat c t (nodes.Comp f ids) s h = absurd (h f ids refl)
