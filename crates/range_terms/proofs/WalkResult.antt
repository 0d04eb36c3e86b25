-- What the end of the walk says of the term.
use Rattle.std.proofs.Common.{◌≡◌, ℕ, List, [], ◌++◌, Option, Some, None, refl, sym, ap, subst, ◌∙◌}
use Rattle.std.specs.Prelude.{MatchOption}
use Rattle.std.specs.Option.{option_to_list, IsSome}
use Rattle.std.proofs.lemmas.List.{append-nil}
use Rattle.fd_language.specs.declared.range_node.RangeNode.{RangeNode}
use Rattle.fd_language.specs.PlacedTerm.{PlacedTerm}
use Rattle.fd_language.specs.Range.{Range}
use Rattle.fd_language.specs.PostfixRanges.{nodes_of, spelled_range, spelled_range-nodes, IsSpelled}
use Rattle.fd_language.specs.Spelling.{read_range, not_a_range, least_place}
use Rattle.term_pool.specs.Contents.{Contents}
use Rattle.range_terms.specs.declared.walk.Found.{Found}
use Rattle.range_terms.specs.declared.forms.Position.TheVariants as position
use Rattle.range_terms.specs.TermNodes.{wanted}
use Rattle.range_terms.specs.Walk.{IsLeft}
use Rattle.range_terms.proofs.Walks.{least_none}

decided : (N : ℕ) (c : Contents) (x : PlacedTerm) (f : Found) → IsLeft N c (wanted N position.Range x) f [] → (o : Option ℕ) → f.offender ≡ o → not_a_range N x ≡ least_place (option_to_list o ++ [])
unfolding wanted
decided N c x f i o e = sym i.offenders ∙ ap (λ (q : Option ℕ). least_place (option_to_list q ++ [])) e

pub refused : (N : ℕ) (c : Contents) (x : PlacedTerm) (f : Found) (p : ℕ) → IsLeft N c (wanted N position.Range x) f [] → f.offender ≡ Some p → not_a_range N x ≡ Some p
refused N c x f p i e = decided N c x f i (Some p) e

pub not_refused : (N : ℕ) (c : Contents) (x : PlacedTerm) (f : Found) → IsLeft N c (wanted N position.Range x) f [] → f.offender ≡ None → not_a_range N x ≡ None
not_refused N c x f i e = decided N c x f i None e

pub whole_nodes : (N : ℕ) (c : Contents) (x : PlacedTerm) (f : Found) → IsLeft N c (wanted N position.Range x) f [] → f.offender ≡ None → f.nodes.items ≡ nodes_of (read_range N x).tree
unfolding wanted
whole_nodes N c x f i e = sym (append-nil f.nodes.items) ∙ i.nodes (least_none (read_range N x).offenders (not_refused N c x f i e))

pub whole_places : (N : ℕ) (c : Contents) (x : PlacedTerm) (f : Found) → IsLeft N c (wanted N position.Range x) f [] → f.places.items ≡ (read_range N x).places
unfolding wanted
whole_places N c x f i = sym (append-nil f.places.items) ∙ i.places

pub is_spelled : (N : ℕ) (c : Contents) (x : PlacedTerm) (f : Found) → IsLeft N c (wanted N position.Range x) f [] → f.offender ≡ None → IsSpelled f.nodes.items
is_spelled N c x f i e = ((read_range N x).tree, sym (whole_nodes N c x f i e))

-- nodes spell one range
pub same_range : (r q : Range) (ns : List RangeNode) → nodes_of r ≡ ns → ns ≡ nodes_of q → r ≡ q
same_range r q ns e f = sym (spelled_range-nodes r) ∙ ap spelled_range (e ∙ f) ∙ spelled_range-nodes q

pub some_range : (o : Option Range) (ns : List RangeNode) → MatchOption o (IsSpelled ns → ⊥) (λ r. nodes_of r ≡ ns) → IsSpelled ns → IsSome o
some_range None ns h s = absurd (h s)
some_range (Some r) ns h s = refl

pub the_range : (o : Option Range) (r : Range) (ns : List RangeNode) → MatchOption o (IsSpelled ns → ⊥) (λ r. nodes_of r ≡ ns) → o ≡ Some r → nodes_of r ≡ ns
the_range o r ns h e = subst (λ (q : Option Range). MatchOption q (IsSpelled ns → ⊥) (λ r. nodes_of r ≡ ns)) e h
