-- The smallest place of a variable that answers don't show, among the terms that a walk has passed and those that it has before it.
use Rattle.std.proofs.Common.{◌≡◌, ℕ, Bool, true, false, cond, not, List, [], ◌∷◌, ◌++◌, Option, Some, None, refl, sym, ap, ◌∙◌, true≢false, Bor}
use Rattle.fd_language.specs.PlacedTerm.{PlacedTerm, var, comp}
use Rattle.fd_language.specs.Spelling.{least_place}
use Rattle.fd_language.specs.Term.{Name}
use Rattle.fd_model.specs.Queries.{is_shown}
use Rattle.term_pool.specs.declared.TermId.{TermId}
use Rattle.term_pool.specs.Contents.{Contents}
use Rattle.term_pool.specs.PlacedTerms.{placed_of, parts_by}
use Rattle.term_pool.specs.declared.AtomId.{AtomId}
use Rattle.term_pool.specs.declared.Node.{Node}
use Rattle.term_pool.specs.declared.Node.TheVariants as nodes
use Rattle.term_pool.specs.PoolInvariant.{shape_of}
use Rattle.answer_check.specs.TermShapes.{IsSeen}
use Rattle.answer_check.specs.FlatForm.{hidden_places, hidden_places_of, name_at}
use Rattle.answer_check.specs.Queries.{lesser}
use Rattle.fd_language.proofs.Lemmas.{lower, lower-none, lower-assoc, lower-comm, least_append}

lesser_lower : (least : Option ℕ) (p : ℕ) → Some (lesser least p) ≡ lower least (Some p)
lesser_lower None p = refl
lesser_lower (Some q) p = refl

module _ (names : List Name) where
  -- among the terms of these ids
  abbrev pub least_ahead : Contents → List TermId → Option ℕ
  least_ahead c [] = None
  least_ahead c (t ∷ ts) = lower (least_place (hidden_places names (placed_of c t))) (least_ahead c ts)

  pub one_ahead : (c : Contents) (t : TermId) → least_ahead c (t ∷ []) ≡ least_place (hidden_places names (placed_of c t))
  one_ahead c t = lower-none (least_place (hidden_places names (placed_of c t)))

  least_ahead-append : (c : Contents) (ts us : List TermId) → least_ahead c (ts ++ us) ≡ lower (least_ahead c ts) (least_ahead c us)
  least_ahead-append c [] us = refl
  least_ahead-append c (t ∷ ts) us =
      ap (lower (least_place (hidden_places names (placed_of c t)))) (least_ahead-append c ts us)
      ∙ sym (lower-assoc (least_place (hidden_places names (placed_of c t))) (least_ahead c ts) (least_ahead c us))

  least_of_parts : (c : Contents) (ts : List TermId) → least_place (hidden_places_of names (parts_by (placed_of c) ts)) ≡ least_ahead c ts
  least_of_parts c [] = refl
  least_of_parts c (t ∷ ts) =
      least_append (hidden_places names (placed_of c t)) (hidden_places_of names (parts_by (placed_of c) ts)) ∙ ap (lower (least_place (hidden_places names (placed_of c t)))) (least_of_parts c ts)

  -- the last id is replaced by those of its parts
  pub least_step : (c : Contents) (least : Option ℕ) (rest : List TermId) (t : TermId) (f : List ℕ) (p : ℕ) (ts : List TermId) → placed_of c t ≡ comp f p (parts_by (placed_of c) ts)
      → lower least (least_ahead c (rest ++ t ∷ [])) ≡ lower least (least_ahead c (rest ++ ts))
  least_step c least rest t f p ts e =
      ap (lower least) (least_ahead-append c rest (t ∷ []))
      ∙ ap (λ (o : Option ℕ). lower least (lower (least_ahead c rest) o)) (one_ahead c t ∙ ap (λ (x : PlacedTerm). least_place (hidden_places names x)) e ∙ least_of_parts c ts)
      ∙ ap (lower least) (sym (least_ahead-append c rest ts))

  -- a term with no such place
  pub least_skip : (c : Contents) (least : Option ℕ) (rest : List TermId) (t : TermId) → hidden_places names (placed_of c t) ≡ []
      → lower least (least_ahead c (rest ++ t ∷ [])) ≡ lower least (least_ahead c rest)
  least_skip c least rest t e =
      ap (lower least) (least_ahead-append c rest (t ∷ [])
      ∙ ap (λ (ps : List ℕ). lower (least_ahead c rest) (lower (least_place ps) None)) e ∙ lower-none (least_ahead c rest))

  -- a variable that isn't shown
  pub least_own : (c : Contents) (least : Option ℕ) (rest : List TermId) (t : TermId) (p : ℕ) → hidden_places names (placed_of c t) ≡ p ∷ []
      → lower least (least_ahead c (rest ++ t ∷ [])) ≡ lower (Some (lesser least p)) (least_ahead c rest)
  least_own c least rest t p e =
      ap (lower least) (least_ahead-append c rest (t ∷ [])
      ∙ ap (λ (ps : List ℕ). lower (least_ahead c rest) (lower (least_place ps) None)) e ∙ lower-comm (least_ahead c rest) (Some p))
      ∙ sym (lower-assoc least (Some p) (least_ahead c rest)) ∙ ap (λ (o : Option ℕ). lower o (least_ahead c rest)) (sym (lesser_lower least p))

  pub hidden_here : (x : PlacedTerm) (v p : ℕ) → x ≡ var v p → not (is_shown (name_at names v)) ≡ true → hidden_places names x ≡ p ∷ []
  hidden_here x v p e h = ap (hidden_places names) e ∙ by (is_shown (name_at names v)) h where
    by : (b : Bool) → not b ≡ true → cond b [] (p ∷ []) ≡ p ∷ []
    by true h = absurd (true≢false (sym h))
    by false h = refl

  pub shown_here : (x : PlacedTerm) (v p : ℕ) → x ≡ var v p → not (is_shown (name_at names v)) ≡ false → hidden_places names x ≡ []
  shown_here x v p e h = ap (hidden_places names) e ∙ by (is_shown (name_at names v)) h where
    by : (b : Bool) → not b ≡ false → cond b [] (p ∷ []) ≡ []
    by true h = refl
    by false h = absurd (true≢false h)

  -- integers and atoms
  pub flat_here : (c : Contents) (t : TermId) (n : Node) → IsSeen c t (shape_of n) → ((x : ℕ) → n ≡ nodes.Var x → ⊥)
      → ((f : AtomId) (ids : Bor (List TermId)) → n ≡ nodes.Comp f ids → ⊥) → hidden_places names (placed_of c t) ≡ []
  flat_here c t (nodes.Var x) s g h = absurd (g x refl)
  flat_here c t (nodes.Int z) s g h = ap (hidden_places names) s
  flat_here c t (nodes.Atom a) s g h = ap (hidden_places names) s
  flat_here c t (nodes.Comp f ids) s g h = absurd (h f ids refl)
