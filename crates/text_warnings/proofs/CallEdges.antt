-- What predicates call, with one more clause.
use Rattle.std.proofs.Common.{◌≡◌, ◌≢◌, ℕ, zero, suc, ◌<◌, ◌⊎◌, inl, inr, Bool, true, false, cond, List, [], ◌∷◌, ◌++◌, Option, Some, None, Vec, Global, length}
use Rattle.std.proofs.Common.{map, set, get_or, refl, sym, ap, ap₂, ◌∙◌, subst, append-nil, get_or-set_same, get_or-set_other}
use Rattle.std.specs.Prelude.{◌==◌, position}
use Rattle.std.specs.List.{flat_map}
use Rattle.std.proofs.lemmas.Bool.Decides.{eqb_tells}
use Rattle.std.proofs.lemmas.List.{map-set, get_or-map, length-set}
use Rattle.term_pool.specs.declared.TermId.{TermId}
use Rattle.term_pool.specs.Contents.{Contents}
use Rattle.text_warnings.specs.declared.terms.Functor.{Functor}
use Rattle.text_warnings.specs.declared.clauses.Clause.{Clause}
use Rattle.text_warnings.specs.Terms.{same_numbers}
use Rattle.text_warnings.specs.WarningViews.{body_calls}
use Rattle.text_warnings.specs.Graphs.{items_of, leads_to, is_at, edges_by, numbers_in, AddsEdges, AreEdges, AreEmpty}
use Rattle.text_warnings.proofs.AddedWarnings.{flat_map_push}

empty_at : (xs : List (List ℕ)) → ((m : ℕ) → leads_to xs m ≡ []) → (n : ℕ) → leads_to (xs ++ [] ∷ []) n ≡ []
empty_at [] h zero = refl
empty_at [] h (suc n) = refl
empty_at (x ∷ xs) h zero = h 0
empty_at (x ∷ xs) h (suc n) = empty_at xs (λ m. h (suc m)) n

pub empty_push : (xs : List (List ℕ)) → AreEmpty xs → AreEmpty (xs ++ [] ∷ [])
empty_push xs h = empty_at xs h

same_each : (edges : List (List ℕ)) → (n : ℕ) → leads_to edges n ≡ leads_to edges n ++ []
same_each edges n = sym (append-nil (leads_to edges n))

module _ (c : Contents) (keys : List Functor) where
  none_of : (b : Bool) → cond b (numbers_in c keys []) [] ≡ []
  none_of true = refl
  none_of false = refl

  -- a clause with no body
  pub adds_bare : (k : Clause) (edges : List (List ℕ)) → k.body ≡ None → AddsEdges c keys k edges edges
  adds_bare k edges e = record {
    count = refl;
    each = λ n h.
        same_each edges n
        ∙ ap (λ (l : List ℕ). leads_to edges n ++ l)
        (sym (ap (λ (o : Option TermId). cond (is_at n (position (same_numbers k.functor) keys)) (numbers_in c keys (body_calls c o)) []) e
        ∙ none_of (is_at n (position (same_numbers k.functor) keys))));
  }

  -- a clause of no predicate among them
  pub adds_unknown : (k : Clause) (edges : List (List ℕ)) → position (same_numbers k.functor) keys ≡ None → AddsEdges c keys k edges edges
  adds_unknown k edges e = record {
    count = refl;
    each = λ n h. same_each edges n ∙ ap (λ (l : List ℕ). leads_to edges n ++ l) (sym (ap (λ (o : Option ℕ). cond (is_at n o) (numbers_in c keys (body_calls c k.body)) []) e));
  }

  calls_at : (k : Clause) (b : TermId) (m n : ℕ) (t : Bool) → k.body ≡ Some b → position (same_numbers k.functor) keys ≡ Some m → (m == n) ≡ t
      → cond t (numbers_in c keys (body_calls c (Some b))) [] ≡ edges_by c keys n k
  calls_at k b m n t body at f =
      ap (λ (x : Bool). cond x (numbers_in c keys (body_calls c (Some b))) []) (sym f)
      ∙ ap₂ (λ (o : Option ℕ) (p : Option TermId). cond (is_at n o) (numbers_in c keys (body_calls c p)) []) (sym at) (sym body)

  put_at : (k : Clause) (b : TermId) (m n : ℕ) (old : List (List ℕ)) (more : List ℕ) → more ≡ numbers_in c keys (body_calls c (Some b)) → k.body ≡ Some b
      → position (same_numbers k.functor) keys ≡ Some m → m < length old
      → ((m == n) ≡ true × (m ≡ n)) ⊎ ((m == n) ≡ false × (m ≢ n)) → leads_to (set old m (leads_to old m ++ more)) n ≡ leads_to old n ++ edges_by c keys n k
  put_at k b m n old more is body at inside (inl w) =
      ap (λ (i : ℕ). leads_to (set old m (leads_to old m ++ more)) i) (sym w.1)
      ∙ get_or-set_same old m (leads_to old m ++ more) [] inside
      ∙ ap₂ (λ (i : ℕ) (l : List ℕ). leads_to old i ++ l) w.1 (is ∙ calls_at k b m n true body at w.0)
  put_at k b m n old more is body at inside (inr w) =
      get_or-set_other old m n (leads_to old m ++ more) [] (λ e. w.1 (sym e)) ∙ same_each old n ∙ ap (λ (l : List ℕ). leads_to old n ++ l) (calls_at k b m n false body at w.0)

  -- a clause of the predicate with the number m
  pub adds_body : (k : Clause) (b : TermId) (m : ℕ) (old new : List (List ℕ)) → k.body ≡ Some b → position (same_numbers k.functor) keys ≡ Some m → m < length old
      → new ≡ set old m (leads_to old m ++ numbers_in c keys (body_calls c (Some b))) → AddsEdges c keys k old new
  adds_body k b m old new body at inside e = record {
    count = ap length e ∙ length-set old m (leads_to old m ++ numbers_in c keys (body_calls c (Some b)));
    each = λ n h. ap (λ (l : List (List ℕ)). leads_to l n) e ∙ put_at k b m n old (numbers_in c keys (body_calls c (Some b))) refl body at inside (eqb_tells m n);
  }

  pub no_clauses : (edges : List (List ℕ)) → length edges ≡ length keys → AreEmpty edges → AreEdges c keys [] edges
  no_clauses edges count empty = record { count = count; each = λ n h. empty n }

  pub edges_more : (ks next : List Clause) (k : Clause) (old new : List (List ℕ)) → ks ++ k ∷ [] ≡ next → AreEdges c keys ks old → AddsEdges c keys k old new → AreEdges c keys next new
  edges_more ks next k old new split h a = record {
    count = a.count ∙ h.count;
    each = λ n l.
        let inside : n < length old = subst (λ i. n < i) a.count l in
        a.each n inside ∙ ap (λ (xs : List ℕ). xs ++ edges_by c keys n k) (h.each n inside)
        ∙ sym (flat_map_push (edges_by c keys n) ks k) ∙ ap (flat_map (edges_by c keys n)) split;
  }

-- one of the vectors, with more numbers
pub put_items : (vs : List (Vec ℕ Global)) (m : ℕ) (found next : Vec ℕ Global) (more : List ℕ) → m < length vs → found ≡ get_or vs m found → next.items ≡ found.items ++ more
    → map items_of (set vs m next) ≡ set (map items_of vs) m (leads_to (map items_of vs) m ++ more)
put_items vs m found next more h is e =
    map-set items_of vs m next ∙ ap (set (map items_of vs) m) (e ∙ ap (λ (l : List ℕ). l ++ more) (ap items_of is ∙ sym (get_or-map items_of vs m found [] h)))
