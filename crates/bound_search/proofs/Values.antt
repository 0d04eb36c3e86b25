-- The values of a list's variables, member by member.
use Rattle.std.proofs.Common.{◌≡◌, ℕ, ◌+◌, ◌<◌, ◌≤◌, List, [], ◌∷◌, ◌++◌, map, length, take, get_or, refl, ap, sym, ◌∙◌}
use Rattle.std.proofs.lemmas.List.{take_more, take_all, map-append}
use Rattle.fd_model.specs.Labelling.{open_ones}
use Rattle.fd_model.specs.Members as seen
use Rattle.label_search.specs.declared.Member.{Member}
use Rattle.bound_search.specs.Members.{member_of, members_of}

pub open_both : (ms ns : List seen.Member) → open_ones (ms ++ ns) ≡ open_ones ms ++ open_ones ns
open_both [] ns = refl
open_both (seen.Known z ∷ ms) ns = open_both ms ns
open_both (seen.Open x ∷ ms) ns = ap (λ (xs : List ℕ). x ∷ xs) (open_both ms ns)

module _ (f : ℕ → ℕ) (list : List Member) where
  pub values_step : (now new : List ℕ) (i : ℕ) (d : Member) → i < length list → now ≡ map f (open_ones (members_of (take i list)))
      → new ≡ now ++ map f (open_ones (member_of (get_or list i d) ∷ [])) → new ≡ map f (open_ones (members_of (take (i + 1) list)))
  values_step now new i d l e g =
      let more : take (i + 1) list ≡ take i list ++ get_or list i d ∷ [] = take_more list i d l in
      let split : open_ones (members_of (take (i + 1) list)) ≡ open_ones (members_of (take i list)) ++ open_ones (member_of (get_or list i d) ∷ []) =
      ap (λ (ms : List Member). open_ones (members_of ms)) more ∙ ap open_ones (map-append member_of (take i list) (get_or list i d ∷ []))
      ∙ open_both (members_of (take i list)) (member_of (get_or list i d) ∷ []) in
      g ∙ ap (λ (xs : List ℕ). xs ++ map f (open_ones (member_of (get_or list i d) ∷ []))) e
      ∙ sym (ap (map f) split ∙ map-append f (open_ones (members_of (take i list))) (open_ones (member_of (get_or list i d) ∷ [])))

  pub values_whole : (now : List ℕ) (i : ℕ) → length list ≤ i → now ≡ map f (open_ones (members_of (take i list))) → now ≡ map f (open_ones (members_of list))
  values_whole now i l e = e ∙ ap (λ (ms : List Member). map f (open_ones (members_of ms))) (take_all i list l)
