-- What bodies call, by what a walk has before it.
use Rattle.std.proofs.Common.{◌≡◌, ℕ, ◌+◌, ◌<◌, List, [], ◌∷◌, ◌++◌, Option, Some, None, refl, sym, ap, ◌∙◌, arith, append_assoc, append-nil}
use Rattle.std.specs.List.{cons_option, filter_map}
use Rattle.std.specs.Option.{option_to_list}
use Rattle.std.proofs.lemmas.List.Elements.{filter_map-append}
use Rattle.fd_language.specs.PlacedTerm.{PlacedTerm}
use Rattle.fd_model.specs.Refusals as refusals
use Rattle.fd_model.specs.Refusals.{functor_of}
use Rattle.term_pool.specs.declared.TermId.{TermId}
use Rattle.term_pool.specs.Contents.{Contents}
use Rattle.term_pool.specs.Terms.{term_of, size, total_size}
use Rattle.term_pool.specs.PlacedTerms.{placed_of}
use Rattle.term_pool.proofs.Lemmas.{total_size-append, total_size-cons, total_size-nil}
use Rattle.text_warnings.specs.declared.terms.Functor.{Functor}
use Rattle.text_warnings.specs.Clauses.{goals_in, calls_of}
use Rattle.text_warnings.specs.Graphs.{number_in, numbers_in}

pub numbers-append : (c : Contents) (keys : List Functor) (fs gs : List refusals.Functor) → numbers_in c keys (fs ++ gs) ≡ numbers_in c keys fs ++ numbers_in c keys gs
numbers-append c keys fs gs = filter_map-append (number_in c keys) fs gs

pub alone : {A : Type 0} (o : Option A) → cons_option o [] ≡ option_to_list o
alone None = refl
alone (Some x) = refl

module _ (c : Contents) (keys : List Functor) where
  -- what the body with this id calls
  abbrev pub own_calls : TermId → List ℕ
  own_calls t = numbers_in c keys (calls_of (placed_of c t))

  -- what the bodies with these ids call, the last one first
  abbrev pub ahead_calls : List TermId → List ℕ
  ahead_calls [] = []
  ahead_calls (t ∷ ts) = ahead_calls ts ++ own_calls t

  ahead-append : (ts us : List TermId) → ahead_calls (ts ++ us) ≡ ahead_calls us ++ ahead_calls ts
  ahead-append [] us = sym (append-nil (ahead_calls us))
  ahead-append (t ∷ ts) us = ap (λ (l : List ℕ). l ++ own_calls t) (ahead-append ts us) ∙ append_assoc (ahead_calls us) (ahead_calls ts) (own_calls t)

  pub ahead_last : (rest : List TermId) (t : TermId) → ahead_calls (rest ++ t ∷ []) ≡ own_calls t ++ ahead_calls rest
  ahead_last rest t = ahead-append rest (t ∷ [])

  pub both_step : (rest : List TermId) (t a b : TermId) → goals_in (placed_of c t) ≡ goals_in (placed_of c a) ++ goals_in (placed_of c b)
      → ahead_calls ((rest ++ b ∷ []) ++ a ∷ []) ≡ ahead_calls (rest ++ t ∷ [])
  both_step rest t a b e =
      let own : own_calls t ≡ own_calls a ++ own_calls b =
      ap (λ (gs : List PlacedTerm). numbers_in c keys (filter_map functor_of gs)) e
      ∙ ap (numbers_in c keys) (filter_map-append functor_of (goals_in (placed_of c a)) (goals_in (placed_of c b)))
      ∙ numbers-append c keys (calls_of (placed_of c a)) (calls_of (placed_of c b)) in
      ahead_last (rest ++ b ∷ []) a ∙ ap (λ (l : List ℕ). own_calls a ++ l) (ahead_last rest b)
      ∙ sym (append_assoc (own_calls a) (own_calls b) (ahead_calls rest)) ∙ ap (λ (l : List ℕ). l ++ ahead_calls rest) (sym own) ∙ sym (ahead_last rest t)

  pub inner_step : (rest : List TermId) (t a : TermId) → goals_in (placed_of c t) ≡ goals_in (placed_of c a) → ahead_calls (rest ++ a ∷ []) ≡ ahead_calls (rest ++ t ∷ [])
  inner_step rest t a e =
      ahead_last rest a ∙ ap (λ (gs : List PlacedTerm). numbers_in c keys (filter_map functor_of gs) ++ ahead_calls rest) (sym e) ∙ sym (ahead_last rest t)

  pub goal_step : (rest : List TermId) (t : TermId) → goals_in (placed_of c t) ≡ placed_of c t ∷ []
      → numbers_in c keys (option_to_list (functor_of (placed_of c t))) ++ ahead_calls rest ≡ ahead_calls (rest ++ t ∷ [])
  goal_step rest t e =
      let own : own_calls t ≡ numbers_in c keys (option_to_list (functor_of (placed_of c t))) =
      ap (λ (gs : List PlacedTerm). numbers_in c keys (filter_map functor_of gs)) e ∙ ap (numbers_in c keys) (alone (functor_of (placed_of c t))) in
      ap (λ (l : List ℕ). l ++ ahead_calls rest) (sym own) ∙ sym (ahead_last rest t)

-- ---- a body's parts are smaller

pub both_smaller : (c : Contents) (rest : List TermId) (t a b : TermId) → size (term_of c a) + size (term_of c b) < size (term_of c t)
    → total_size c ((rest ++ b ∷ []) ++ a ∷ []) < total_size c (rest ++ t ∷ [])
both_smaller c rest t a b h =
    omega (
      arith,
      h,
      total_size-append c (rest ++ b ∷ []) (a ∷ []),
      total_size-append c rest (b ∷ []),
      total_size-append c rest (t ∷ []),
      total_size-cons c a [],
      total_size-cons c b [],
      total_size-cons c t [],
      total_size-nil c,
    )

pub inner_smaller : (c : Contents) (rest : List TermId) (t a : TermId) → size (term_of c a) < size (term_of c t) → total_size c (rest ++ a ∷ []) < total_size c (rest ++ t ∷ [])
inner_smaller c rest t a h =
    omega (arith, h, total_size-append c rest (a ∷ []), total_size-append c rest (t ∷ []), total_size-cons c a [], total_size-cons c t [], total_size-nil c)
