use Rattle.std.proofs.Common.{◌≡◌, ◌<◌, ℕ, ◌++◌, [], ◌∷◌, List, Option, Some, length, nat_lt, arith, sym, ap, ◌∙◌, subst}
use Rattle.std.specs.Prelude.{All}
use Rattle.std.proofs.lemmas.List.Elements.{All-append, All-pop, All-weaker}
use Rattle.fd_language.specs.PlacedTerm.{place}
use Rattle.term_pool.specs.declared.TermId.{TermId}
use Rattle.term_pool.specs.Contents.{comp, atom_name}
use Rattle.term_pool.specs.Terms.{total_size}
use Rattle.term_pool.proofs.Lemmas.{rest_is_smaller, parts_are_smaller}
use Rattle.term_pool.specs.PlacedTerms.{placed_of}
use Rattle.term_reader.proofs.Lemmas.{place_placed}
use Rattle.clause_check.specs.Terms.{lesser}
use Rattle.clause_check.proofs.WidePlaces.{least_ahead, own_place, own_then, own_else, least_step, least_skip, flat}
use Rattle.fd_language.proofs.Lemmas.{lower}
use Rattle.clause_check.proofs.arities.wide_place.Goals as goal
use Rattle.clause_check.proofs.arities.wide_place.Goals.{then-parts-gt-MOST_ARGUMENTS, else-parts-gt-MOST_ARGUMENTS}

-- a term's parts in its place
pub loop-next-smaller-in-Continue-branch-2 : goal.loop-next-smaller-in-Continue-branch-2
loop-next-smaller-in-Continue-branch-2 c =
    let pool = c.args.pool.now in
    let rest = c.pop.new.self.items in
    let next = c.extend_from_slice.new.self.items in
    subst (λ (ts : List TermId). total_size pool next < total_size pool ts) (sym c.in-Some.ensures.items)
    (subst (λ (ts : List TermId). total_size pool ts < total_size pool (rest ++ c.in-Some.next ∷ [])) (sym c.in_ok-extend_from_slice.ensures.items)
    (parts_are_smaller pool rest c.in-Some.next (comp c.in-Comp.field-0 c.in-Comp.parts.now) c.in-Comp.ensures.term))

pub loop-next-preserved-in-Continue-branch-2 : goal.loop-next-preserved-in-Continue-branch-2
loop-next-preserved-in-Continue-branch-2 c =
    let pool = c.args.pool.now in
    let rest = c.pop.new.self.items in
    let t = c.in-Some.next in
    let ids = c.in-Comp.parts.now in
    let least = c.loop-next.least in
    let at = place (placed_of pool t) in
    let P : TermId → Type 0 = λ t. t.number < length pool.entries in
    let popped = All-pop P c.loop-next.ahead.items rest (Some t) c.in-Some.ensures.items c.loop-next.invariant.within in
    let parts = All-weaker (λ t. t.number < c.in-Some.next.number) P (λ t h. omega (arith, popped.1)) ids c.in-Comp.ensures.within.1 in
    let own : c.if-parts-gt-MOST_ARGUMENTS.least ≡ lower least (own_place (nat_lt 255 (length ids)) at) =
    elim c.if-parts-gt-MOST_ARGUMENTS.branch [
      | then-parts-gt-MOST_ARGUMENTS w ↦
          w.least-is ∙ w.smaller-least.ensures ∙ ap (λ (q : ℕ). Some (lesser least q)) (sym (place_placed pool t w.place.result w.place.ensures.place))
          ∙ own_then least (length ids) at (omega arith)
      | else-parts-gt-MOST_ARGUMENTS w ↦ w.least-is ∙ own_else least (length ids) at (omega arith)
    ] in
    record {
      within = subst (All P) (sym c.in_ok-extend_from_slice.ensures.items) (All-append P rest ids popped.0 parts);
      least = ap (λ (o : Option ℕ). lower o (least_ahead pool c.extend_from_slice.new.self.items)) own
          ∙ ap (λ (ts : List TermId). lower (lower least (own_place (nat_lt 255 (length ids)) at)) (least_ahead pool ts)) c.in_ok-extend_from_slice.ensures.items
          ∙ sym (least_step pool least rest t (atom_name pool c.in-Comp.field-0) at ids c.in-Comp.ensures.placed)
          ∙ ap (λ (ts : List TermId). lower least (least_ahead pool ts)) (sym c.in-Some.ensures.items)
          ∙ c.loop-next.invariant.least;
    }

-- a term with no parts
pub loop-next-smaller : goal.loop-next-smaller
loop-next-smaller c =
    let pool = c.args.pool.now in
    let rest = c.pop.new.self.items in
    subst (λ (ts : List TermId). total_size pool rest < total_size pool ts) (sym c.in-Some.ensures.items) (rest_is_smaller pool rest c.in-Some.next)

pub loop-next-preserved : goal.loop-next-preserved
loop-next-preserved c =
    let pool = c.args.pool.now in
    let rest = c.pop.new.self.items in
    let t = c.in-Some.next in
    let P : TermId → Type 0 = λ t. t.number < length pool.entries in
    let popped = All-pop P c.loop-next.ahead.items rest (Some t) c.in-Some.ensures.items c.loop-next.invariant.within in
    record {
      within = popped.0;
      least = sym (least_skip pool c.loop-next.least rest t (flat pool t c.look.result c.look.ensures.placed c.in_default-look.not-Comp))
          ∙ ap (λ (ts : List TermId). lower c.loop-next.least (least_ahead pool ts)) (sym c.in-Some.ensures.items)
          ∙ c.loop-next.invariant.least;
    }
