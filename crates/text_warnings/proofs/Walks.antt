-- A walk over a term that warns on its way: it keeps the ids that it has still to look at, the last one first.
use Rattle.std.proofs.Common.{◌≡◌, ◌<◌, List, [], ◌∷◌, ◌++◌, Some, length, map, sym, ap, ◌∙◌, subst, append_assoc, append-nil, arith}
use Rattle.std.specs.Prelude.{All}
use Rattle.std.proofs.lemmas.List.Elements.{All-append, All-push, All-pop}
use Rattle.fd_language.specs.PlacedTerm.{PlacedTerm}
use Rattle.term_pool.specs.declared.TermId.{TermId}
use Rattle.term_pool.specs.Contents.{Contents}
use Rattle.term_pool.specs.PlacedTerms.{placed_of}
use Rattle.text_warnings.specs.Warnings as model
use Rattle.text_warnings.specs.WarningViews.{warning_in, Adds, IsWarningWithin}
use Rattle.text_warnings.specs.declared.Warning.{Warning}

-- what the terms with these ids have, the last one first
abbrev pub ahead_of : {X : Type 0} → Contents → (PlacedTerm → List X) → List TermId → List X
ahead_of c f [] = []
ahead_of c f (t ∷ ts) = ahead_of c f ts ++ f (placed_of c t)

ahead-append : {X : Type 0} (c : Contents) (f : PlacedTerm → List X) (ts us : List TermId) → ahead_of c f (ts ++ us) ≡ ahead_of c f us ++ ahead_of c f ts
ahead-append c f [] us = sym (append-nil (ahead_of c f us))
ahead-append {X} c f (t ∷ ts) us = ap (λ (l : List X). l ++ f (placed_of c t)) (ahead-append c f ts us) ∙ append_assoc (ahead_of c f us) (ahead_of c f ts) (f (placed_of c t))

ahead_last : {X : Type 0} (c : Contents) (f : PlacedTerm → List X) (rest : List TermId) (t : TermId) → ahead_of c f (rest ++ t ∷ []) ≡ f (placed_of c t) ++ ahead_of c f rest
ahead_last c f rest t = ahead-append c f rest (t ∷ [])

ahead_both : {X : Type 0} (c : Contents) (f : PlacedTerm → List X) (rest : List TermId) (u a b : TermId) → f (placed_of c u) ≡ f (placed_of c a) ++ f (placed_of c b)
    → ahead_of c f ((rest ++ b ∷ []) ++ a ∷ []) ≡ ahead_of c f (rest ++ u ∷ [])
ahead_both {X} c f rest u a b split =
    ahead_last c f (rest ++ b ∷ []) a ∙ ap (λ (l : List X). f (placed_of c a) ++ l) (ahead_last c f rest b)
    ∙ sym (append_assoc (f (placed_of c a)) (f (placed_of c b)) (ahead_of c f rest))
    ∙ ap (λ (l : List X). l ++ ahead_of c f rest) (sym split) ∙ sym (ahead_last c f rest u)

-- Of the term t it has put all warnings but those of the terms before it.
pub record IsWalking (c : Contents) (f : PlacedTerm → List model.Warning) (t : TermId) (old now : List Warning) (ahead : List TermId) : Type 0 where
  pub inside : All (λ u. u.number < length c.entries) ahead
  pub within : All (IsWarningWithin c) old → All (IsWarningWithin c) now
  pub are : map (warning_in c) now ++ ahead_of c f ahead ≡ map (warning_in c) old ++ f (placed_of c t)

abbrev IsInside : Contents → TermId → Type 0
IsInside c u = u.number < length c.entries

module _ (c : Contents) (f : PlacedTerm → List model.Warning) (t : TermId) (old : List Warning) where
  pub walk_begun : (none ahead : List TermId) → t.number < length c.entries → none ≡ [] → ahead ≡ none ++ t ∷ [] → IsWalking c f t old old ahead
  walk_begun none ahead h empty e =
      let is : ahead ≡ t ∷ [] = e ∙ ap (λ (l : List TermId). l ++ t ∷ []) empty in
      record {
        inside = subst (All (IsInside c)) (sym is) (All-push (IsInside c) [] t (λ i d k. absurd (omega (arith, k))) h);
        within = λ all. all;
        are = ap (λ (l : List TermId). map (warning_in c) old ++ ahead_of c f l) is;
      }

  -- two parts stand for the last term
  pub walk_both : (now : List Warning) (ahead rest new : List TermId) (u a b : TermId) → ahead ≡ rest ++ u ∷ [] → IsInside c a → IsInside c b
      → f (placed_of c u) ≡ f (placed_of c a) ++ f (placed_of c b) → new ≡ (rest ++ b ∷ []) ++ a ∷ [] → IsWalking c f t old now ahead → IsWalking c f t old now new
  walk_both now ahead rest new u a b e ha hb split n w =
      let popped = All-pop (IsInside c) ahead rest (Some u) e w.inside in
      let step = ahead_both c f rest u a b split in
      record {
        inside = subst (All (IsInside c)) (sym n) (All-push (IsInside c) (rest ++ b ∷ []) a (All-push (IsInside c) rest b popped.0 hb) ha);
        within = w.within;
        are = ap (λ (l : List TermId). map (warning_in c) now ++ ahead_of c f l) n ∙ ap (λ (l : List model.Warning). map (warning_in c) now ++ l) step
            ∙ ap (λ (l : List TermId). map (warning_in c) now ++ ahead_of c f l) (sym e) ∙ w.are;
      }

  -- one part stands for it
  pub walk_inner : (now : List Warning) (ahead rest new : List TermId) (u a : TermId) → ahead ≡ rest ++ u ∷ [] → IsInside c a
      → f (placed_of c u) ≡ f (placed_of c a) → new ≡ rest ++ a ∷ [] → IsWalking c f t old now ahead → IsWalking c f t old now new
  walk_inner now ahead rest new u a e ha same n w =
      let popped = All-pop (IsInside c) ahead rest (Some u) e w.inside in
      let step : ahead_of c f (rest ++ a ∷ []) ≡ ahead_of c f (rest ++ u ∷ []) =
      ahead_last c f rest a ∙ ap (λ (l : List model.Warning). l ++ ahead_of c f rest) (sym same) ∙ sym (ahead_last c f rest u) in
      record {
        inside = subst (All (IsInside c)) (sym n) (All-push (IsInside c) rest a popped.0 ha);
        within = w.within;
        are = ap (λ (l : List TermId). map (warning_in c) now ++ ahead_of c f l) n ∙ ap (λ (l : List model.Warning). map (warning_in c) now ++ l) step
            ∙ ap (λ (l : List TermId). map (warning_in c) now ++ ahead_of c f l) (sym e) ∙ w.are;
      }

  -- its own warnings are put
  pub walk_leaf : (now next : List Warning) (ahead rest : List TermId) (u : TermId) (own : List model.Warning) → ahead ≡ rest ++ u ∷ []
      → f (placed_of c u) ≡ own → Adds c own now next → IsWalking c f t old now ahead → IsWalking c f t old next rest
  walk_leaf now next ahead rest u own e is a w =
      let popped = All-pop (IsInside c) ahead rest (Some u) e w.inside in
      record {
        inside = popped.0;
        within = λ all. a.within (w.within all);
        are = ap (λ (l : List model.Warning). l ++ ahead_of c f rest) a.are ∙ append_assoc (map (warning_in c) now) own (ahead_of c f rest)
            ∙ ap (λ (l : List model.Warning). map (warning_in c) now ++ (l ++ ahead_of c f rest)) (sym is)
            ∙ ap (λ (l : List model.Warning). map (warning_in c) now ++ l) (sym (ahead_last c f rest u))
            ∙ ap (λ (l : List TermId). map (warning_in c) now ++ ahead_of c f l) (sym e) ∙ w.are;
      }

  -- none is left
  pub walk_done : (now : List Warning) (ahead : List TermId) → ahead ≡ [] → IsWalking c f t old now ahead → Adds c (f (placed_of c t)) old now
  walk_done now ahead e w = record {
    are = sym (append-nil (map (warning_in c) now)) ∙ ap (λ (l : List TermId). map (warning_in c) now ++ ahead_of c f l) (sym e) ∙ w.are;
    within = w.within;
  }

-- ---- a walk that finds

-- Of the term t all is found but what the terms before it have.
pub record IsFinding {X : Type 0} (c : Contents) (f : PlacedTerm → List X) (t : TermId) (now : List X) (ahead : List TermId) : Type 0 where
  pub inside : All (λ u. u.number < length c.entries) ahead
  pub are : now ++ ahead_of c f ahead ≡ f (placed_of c t)

module _ {X : Type 0} (c : Contents) (f : PlacedTerm → List X) (t : TermId) where
  pub find_begun : (now : List X) (none ahead : List TermId) → t.number < length c.entries → now ≡ [] → none ≡ [] → ahead ≡ none ++ t ∷ [] → IsFinding c f t now ahead
  find_begun now none ahead h n empty e =
      let is : ahead ≡ t ∷ [] = e ∙ ap (λ (l : List TermId). l ++ t ∷ []) empty in
      record {
        inside = subst (All (IsInside c)) (sym is) (All-push (IsInside c) [] t (λ i d k. absurd (omega (arith, k))) h);
        are = ap (λ (l : List X). l ++ ahead_of c f ahead) n ∙ ap (λ (l : List TermId). ahead_of c f l) is;
      }

  pub find_both : (now : List X) (ahead rest new : List TermId) (u a b : TermId) → ahead ≡ rest ++ u ∷ [] → IsInside c a → IsInside c b
      → f (placed_of c u) ≡ f (placed_of c a) ++ f (placed_of c b) → new ≡ (rest ++ b ∷ []) ++ a ∷ [] → IsFinding c f t now ahead → IsFinding c f t now new
  find_both now ahead rest new u a b e ha hb split n w =
      let popped = All-pop (IsInside c) ahead rest (Some u) e w.inside in
      record {
        inside = subst (All (IsInside c)) (sym n) (All-push (IsInside c) (rest ++ b ∷ []) a (All-push (IsInside c) rest b popped.0 hb) ha);
        are = ap (λ (l : List TermId). now ++ ahead_of c f l) n ∙ ap (λ (l : List X). now ++ l) (ahead_both c f rest u a b split)
            ∙ ap (λ (l : List TermId). now ++ ahead_of c f l) (sym e) ∙ w.are;
      }

  -- all parts stand for the last term
  pub find_parts : (now : List X) (ahead rest new ids : List TermId) (u : TermId) → ahead ≡ rest ++ u ∷ [] → All (IsInside c) ids
      → f (placed_of c u) ≡ ahead_of c f ids → new ≡ rest ++ ids → IsFinding c f t now ahead → IsFinding c f t now new
  find_parts now ahead rest new ids u e own same n w =
      let popped = All-pop (IsInside c) ahead rest (Some u) e w.inside in
      record {
        inside = subst (All (IsInside c)) (sym n) (All-append (IsInside c) rest ids popped.0 own);
        are = ap (λ (l : List TermId). now ++ ahead_of c f l) n
            ∙ ap (λ (l : List X). now ++ l) (ahead-append c f rest ids ∙ ap (λ (l : List X). l ++ ahead_of c f rest) (sym same) ∙ sym (ahead_last c f rest u))
            ∙ ap (λ (l : List TermId). now ++ ahead_of c f l) (sym e) ∙ w.are;
      }

  pub find_leaf : (now next own : List X) (ahead rest : List TermId) (u : TermId) → ahead ≡ rest ++ u ∷ []
      → f (placed_of c u) ≡ own → next ≡ now ++ own → IsFinding c f t now ahead → IsFinding c f t next rest
  find_leaf now next own ahead rest u e is n w =
      let popped = All-pop (IsInside c) ahead rest (Some u) e w.inside in
      record {
        inside = popped.0;
        are = ap (λ (l : List X). l ++ ahead_of c f rest) n ∙ append_assoc now own (ahead_of c f rest)
            ∙ ap (λ (l : List X). now ++ (l ++ ahead_of c f rest)) (sym is)
            ∙ ap (λ (l : List X). now ++ l) (sym (ahead_last c f rest u))
            ∙ ap (λ (l : List TermId). now ++ ahead_of c f l) (sym e) ∙ w.are;
      }

  pub find_done : (now : List X) (ahead : List TermId) → ahead ≡ [] → IsFinding c f t now ahead → now ≡ f (placed_of c t)
  find_done now ahead e w = sym (append-nil now) ∙ ap (λ (l : List TermId). now ++ ahead_of c f l) (sym e) ∙ w.are
