-- How often variables were met, by what a walk has passed and by what it has before it.
use Rattle.std.proofs.Common.{◌≡◌, ◌≢◌, ℕ, ℤ, ◌<◌, ◌⊎◌, inl, inr, true, false, cond, List, [], ◌∷◌, ◌++◌, length, set, get_or, refl, sym, ap, ◌∙◌, subst, arith}
use Rattle.std.specs.Prelude.{◌==◌}
use Rattle.std.proofs.Common.{get_or-set_same, get_or-set_other}
use Rattle.std.proofs.lemmas.Bool.Decides.{eqb_tells}
use Rattle.fd_language.specs.PlacedTerm.{PlacedTerm, var, comp}
use Rattle.term_pool.specs.declared.AtomId.{AtomId}
use Rattle.term_pool.specs.declared.TermId.{TermId}
use Rattle.term_pool.specs.declared.Node.{Node}
use Rattle.term_pool.specs.declared.Node.TheVariants as nodes
use Rattle.term_pool.specs.Contents.{Contents}
use Rattle.term_pool.specs.PoolInvariant.{shape_of}
use Rattle.term_pool.specs.PlacedTerms.{placed_of, parts_by}
use Rattle.text_warnings.specs.Warnings.{places_of, places_in}
use Rattle.text_warnings.specs.Terms.{IsSeen}
use Rattle.text_warnings.specs.OccurrenceCounts.{met_at, joined}
use Rattle.text_warnings.specs.declared.singleton_variables.Met.{Met}
use Rattle.text_warnings.specs.declared.singleton_variables.Met.TheVariants.{Never, Once, Often}

joined-never : (m : Met) → joined m Never ≡ m
joined-never Never = refl
joined-never (Once p) = refl
joined-never Often = refl

joined-often : (m : Met) → joined m Often ≡ Often
joined-often Never = refl
joined-often (Once p) = refl
joined-often Often = refl

joined-comm : (m n : Met) → joined m n ≡ joined n m
joined-comm Never n = sym (joined-never n)
joined-comm (Once p) Never = refl
joined-comm (Once p) (Once q) = refl
joined-comm (Once p) Often = refl
joined-comm Often n = sym (joined-often n)

joined-assoc : (m n o : Met) → joined (joined m n) o ≡ joined m (joined n o)
joined-assoc Never n o = refl
joined-assoc (Once p) Never o = refl
joined-assoc (Once p) (Once q) Never = refl
joined-assoc (Once p) (Once q) (Once r) = refl
joined-assoc (Once p) (Once q) Often = refl
joined-assoc (Once p) Often o = refl
joined-assoc Often n o = refl

met-append : (ps qs : List ℕ) → met_at (ps ++ qs) ≡ joined (met_at ps) (met_at qs)
met-append [] qs = refl
met-append (p ∷ []) [] = refl
met-append (p ∷ []) (q ∷ []) = refl
met-append (p ∷ []) (q ∷ r ∷ qs) = refl
met-append (p ∷ o ∷ ps) qs = refl

-- in the terms of these ids
abbrev pub met_ahead : Contents → ℕ → List TermId → Met
met_ahead c n [] = Never
met_ahead c n (t ∷ ts) = joined (met_at (places_of n (placed_of c t))) (met_ahead c n ts)

met_ahead-append : (c : Contents) (n : ℕ) (ts us : List TermId) → met_ahead c n (ts ++ us) ≡ joined (met_ahead c n ts) (met_ahead c n us)
met_ahead-append c n [] us = refl
met_ahead-append c n (t ∷ ts) us =
    ap (joined (met_at (places_of n (placed_of c t)))) (met_ahead-append c n ts us)
    ∙ sym (joined-assoc (met_at (places_of n (placed_of c t))) (met_ahead c n ts) (met_ahead c n us))

met_of_parts : (c : Contents) (n : ℕ) (ts : List TermId) → met_at (places_in n (parts_by (placed_of c) ts)) ≡ met_ahead c n ts
met_of_parts c n [] = refl
met_of_parts c n (t ∷ ts) =
    met-append (places_of n (placed_of c t)) (places_in n (parts_by (placed_of c) ts)) ∙ ap (joined (met_at (places_of n (placed_of c t)))) (met_of_parts c n ts)

met_last : (c : Contents) (n : ℕ) (rest : List TermId) (t : TermId) → met_ahead c n (rest ++ t ∷ []) ≡ joined (met_ahead c n rest) (met_at (places_of n (placed_of c t)))
met_last c n rest t = met_ahead-append c n rest (t ∷ []) ∙ ap (joined (met_ahead c n rest)) (joined-never (met_at (places_of n (placed_of c t))))

-- The last id is replaced by those of its parts.
pub met_step : (c : Contents) (n : ℕ) (rest : List TermId) (t : TermId) (f : List ℕ) (p : ℕ) (ts : List TermId) → placed_of c t ≡ comp f p (parts_by (placed_of c) ts)
    → met_ahead c n (rest ++ t ∷ []) ≡ met_ahead c n (rest ++ ts)
met_step c n rest t f p ts e =
    met_last c n rest t
    ∙ ap (joined (met_ahead c n rest)) (ap (λ (x : PlacedTerm). met_at (places_of n x)) e ∙ met_of_parts c n ts)
    ∙ sym (met_ahead-append c n rest ts)

-- A term without variables is passed.
pub met_skip : (c : Contents) (n : ℕ) (rest : List TermId) (t : TermId) → places_of n (placed_of c t) ≡ [] → met_ahead c n (rest ++ t ∷ []) ≡ met_ahead c n rest
met_skip c n rest t e = met_last c n rest t ∙ ap (λ (ps : List ℕ). joined (met_ahead c n rest) (met_at ps)) e ∙ joined-never (met_ahead c n rest)

-- The variable x at the place p is noted.
noted : (met : List Met) (x p n : ℕ) → n < length met → get_or (set met x (joined (get_or met x Never) (Once p))) n Never ≡ joined (get_or met n Never) (met_at (cond (x == n) (p ∷ []) []))
noted met x p n h = by (eqb_tells x n)
  where
    by : ((x == n) ≡ true × (x ≡ n)) ⊎ ((x == n) ≡ false × (x ≢ n))
        → get_or (set met x (joined (get_or met x Never) (Once p))) n Never ≡ joined (get_or met n Never) (met_at (cond (x == n) (p ∷ []) []))
    by (inl w) =
        let inside : x < length met = omega (arith, h, w.1) in
        ap (λ k. get_or (set met x (joined (get_or met x Never) (Once p))) k Never) (sym w.1)
        ∙ get_or-set_same met x (joined (get_or met x Never) (Once p)) Never inside
        ∙ ap (λ k. joined (get_or met k Never) (Once p)) w.1
        ∙ ap (λ b. joined (get_or met n Never) (met_at (cond b (p ∷ []) []))) (sym w.0)
    by (inr w) =
        get_or-set_other met x n (joined (get_or met x Never) (Once p)) Never (λ e. w.1 (sym e))
        ∙ sym (joined-never (get_or met n Never))
        ∙ ap (λ b. joined (get_or met n Never) (met_at (cond b (p ∷ []) []))) (sym w.0)

pub met_variable : (c : Contents) (old new : List Met) (n x p : ℕ) (rest : List TermId) (t : TermId) → placed_of c t ≡ var x p → n < length old → new ≡ set old x (joined (get_or old x Never) (Once p))
    → joined (get_or new n Never) (met_ahead c n rest) ≡ joined (get_or old n Never) (met_ahead c n (rest ++ t ∷ []))
met_variable c old new n x p rest t e h is =
    let own = met_at (places_of n (placed_of c t)) in
    ap (λ (ms : List Met). joined (get_or ms n Never) (met_ahead c n rest)) is
    ∙ ap (λ m. joined m (met_ahead c n rest)) (noted old x p n h ∙ ap (λ (y : PlacedTerm). joined (get_or old n Never) (met_at (places_of n y))) (sym e))
    ∙ joined-assoc (get_or old n Never) own (met_ahead c n rest)
    ∙ ap (joined (get_or old n Never)) (joined-comm own (met_ahead c n rest) ∙ sym (met_last c n rest t))

-- Integers and atoms have no variables.
pub no_places : (c : Contents) (t : TermId) (m : Node) (n : ℕ) → IsSeen c t (shape_of m) → ((z : ℤ) × (m ≡ nodes.Int z)) ⊎ ((a : AtomId) × (m ≡ nodes.Atom a)) → places_of n (placed_of c t) ≡ []
no_places c t m n s (inl k) = ap (places_of n) (subst (λ (w : Node). IsSeen c t (shape_of w)) k.1 s)
no_places c t m n s (inr k) = ap (places_of n) (subst (λ (w : Node). IsSeen c t (shape_of w)) k.1 s)

-- No term is left.
pub met_all : (m : Met) (n : Met) → joined m Never ≡ n → m ≡ n
met_all m n e = sym (joined-never m) ∙ e
