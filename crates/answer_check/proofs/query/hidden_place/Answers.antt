use Rattle.std.proofs.Common.{◌<◌, ◌++◌, [], ◌∷◌, List, Option, Some, length, map, arith, sym, ap, ◌∙◌, subst, inl, inr}
use Rattle.std.specs.Prelude.{All}
use Rattle.std.proofs.lemmas.List.Elements.{All-append, All-pop, All-weaker}
use Rattle.fd_language.specs.PlacedTerm.{place}
use Rattle.term_pool.specs.declared.TermId.{TermId}
use Rattle.term_pool.specs.Contents.{comp, atom_name}
use Rattle.term_pool.specs.Terms.{total_size}
use Rattle.term_pool.proofs.Lemmas.{rest_is_smaller, parts_are_smaller}
use Rattle.term_pool.specs.PlacedTerms.{placed_of}
use Rattle.term_reader.proofs.Lemmas.{place_placed}
use Rattle.answer_check.specs.Queries.{lesser}
use Rattle.answer_check.proofs.HiddenPlaces.{least_ahead, least_step, least_skip, least_own, hidden_here, shown_here, flat_here}
use Rattle.fd_language.proofs.Lemmas.{lower}
use Rattle.answer_check.proofs.query.hidden_place.Goals as goal

pub loop-next-smaller-then-is_hidden : goal.loop-next-smaller-then-is_hidden
loop-next-smaller-then-is_hidden c =
    let pool = c.args.pool.now in
    let rest = c.pop.new.self.items in
    subst (λ (ts : List TermId). total_size pool rest < total_size pool ts) (sym c.in-Some.ensures.items) (rest_is_smaller pool rest c.in-Some.next)

pub loop-next-smaller-else-is_hidden : goal.loop-next-smaller-else-is_hidden
loop-next-smaller-else-is_hidden c =
    let pool = c.args.pool.now in
    let rest = c.pop.new.self.items in
    subst (λ (ts : List TermId). total_size pool rest < total_size pool ts) (sym c.in-Some.ensures.items) (rest_is_smaller pool rest c.in-Some.next)

pub loop-next-smaller : goal.loop-next-smaller
loop-next-smaller c =
    let pool = c.args.pool.now in
    let rest = c.pop.new.self.items in
    subst (λ (ts : List TermId). total_size pool rest < total_size pool ts) (sym c.in-Some.ensures.items) (rest_is_smaller pool rest c.in-Some.next)

pub loop-next-preserved-then-is_hidden : goal.loop-next-preserved-then-is_hidden
loop-next-preserved-then-is_hidden c =
    let pool = c.args.pool.now in
    let names = map (atom_name pool) c.args.names.now in
    let rest = c.pop.new.self.items in
    let t = c.in-Some.next in
    let least = c.loop-next.least in
    let P : TermId → Type 0 = λ t. t.number < length pool.entries in
    let popped = All-pop P c.loop-next.ahead.items rest (Some t) c.in-Some.ensures.items c.loop-next.invariant.within in
    let at = place (placed_of pool t) in
    let here = hidden_here names (placed_of pool t) c.in-Var.variable at c.in-Var.ensures.placed (sym c.is_hidden.ensures ∙ c.if-is_hidden.true) in
    record {
      within = popped.0;
      least = ap (λ (o : Option _). lower o (least_ahead names pool rest)) (c.smaller-least.ensures ∙ ap (λ q. Some (lesser least q)) (sym (place_placed pool t c.place.result c.place.ensures.place)))
          ∙ sym (least_own names pool least rest t at here) ∙ ap (λ (ts : List TermId). lower least (least_ahead names pool ts)) (sym c.in-Some.ensures.items) ∙ c.loop-next.invariant.least;
    }

pub loop-next-preserved-else-is_hidden : goal.loop-next-preserved-else-is_hidden
loop-next-preserved-else-is_hidden c =
    let pool = c.args.pool.now in
    let names = map (atom_name pool) c.args.names.now in
    let rest = c.pop.new.self.items in
    let t = c.in-Some.next in
    let least = c.loop-next.least in
    let P : TermId → Type 0 = λ t. t.number < length pool.entries in
    let popped = All-pop P c.loop-next.ahead.items rest (Some t) c.in-Some.ensures.items c.loop-next.invariant.within in
    let here = shown_here names (placed_of pool t) c.in-Var.variable (place (placed_of pool t)) c.in-Var.ensures.placed (sym c.is_hidden.ensures ∙ c.if-is_hidden.false) in
    record {
      within = popped.0;
      least = sym (least_skip names pool least rest t here) ∙ ap (λ (ts : List TermId). lower least (least_ahead names pool ts)) (sym c.in-Some.ensures.items) ∙ c.loop-next.invariant.least;
    }

pub loop-next-preserved : goal.loop-next-preserved
loop-next-preserved c =
    let pool = c.args.pool.now in
    let names = map (atom_name pool) c.args.names.now in
    let rest = c.pop.new.self.items in
    let t = c.in-Some.next in
    let least = c.loop-next.least in
    let P : TermId → Type 0 = λ t. t.number < length pool.entries in
    let popped = All-pop P c.loop-next.ahead.items rest (Some t) c.in-Some.ensures.items c.loop-next.invariant.within in
    record {
      within = popped.0;
      least = sym (least_skip names pool least rest t
          (flat_here names pool t c.look.result c.look.ensures.placed (λ x e. elim c.in-Int.is [
            | inl p ↦ (let q = p.1 in cc (e, q))
            | inr p ↦ (let q = p.1 in
                cc (e, q))
          ]) (λ f ids e. elim c.in-Int.is [ inl p ↦ (let q = p.1 in cc (e, q)) | inr p ↦ (let q = p.1 in cc (e, q)) ])))
          ∙ ap (λ (ts : List TermId). lower least (least_ahead names pool ts)) (sym c.in-Some.ensures.items) ∙ c.loop-next.invariant.least;
    }

pub loop-next-smaller-in-Continue-branch-2 : goal.loop-next-smaller-in-Continue-branch-2
loop-next-smaller-in-Continue-branch-2 c =
    let pool = c.args.pool.now in
    let rest = c.pop.new.self.items in
    let next = c.extend_from_slice.new.self.items in
    subst (λ (ts : List TermId). total_size pool next < total_size pool ts) (sym c.in-Some.ensures.items)
    (subst (λ (ts : List TermId). total_size pool ts < total_size pool (rest ++ c.in-Some.next ∷ [])) (sym c.in_ok-extend_from_slice-in-Comp.ensures.items)
    (parts_are_smaller pool rest c.in-Some.next (comp c.in-Comp.field-0 c.in-Comp.parts.now) c.in-Comp.ensures.term))

pub loop-next-preserved-in-Continue-branch-2 : goal.loop-next-preserved-in-Continue-branch-2
loop-next-preserved-in-Continue-branch-2 c =
    let pool = c.args.pool.now in
    let names = map (atom_name pool) c.args.names.now in
    let rest = c.pop.new.self.items in
    let t = c.in-Some.next in
    let least = c.loop-next.least in
    let P : TermId → Type 0 = λ t. t.number < length pool.entries in
    let popped = All-pop P c.loop-next.ahead.items rest (Some t) c.in-Some.ensures.items c.loop-next.invariant.within in
    let ids = c.in-Comp.parts.now in
    let parts = All-weaker (λ t. t.number < c.in-Some.next.number) P (λ t h. omega (arith, popped.1)) ids c.in-Comp.ensures.within.1 in
    record {
      within = subst (All P) (sym c.in_ok-extend_from_slice-in-Comp.ensures.items) (All-append P rest ids popped.0 parts);
      least = ap (λ (ts : List TermId). lower least (least_ahead names pool ts)) c.in_ok-extend_from_slice-in-Comp.ensures.items
          ∙ sym (least_step names pool least rest t (atom_name pool c.in-Comp.field-0) (place (placed_of pool t)) ids c.in-Comp.ensures.placed)
          ∙ ap (λ (ts : List TermId). lower least (least_ahead names pool ts)) (sym c.in-Some.ensures.items)
          ∙ c.loop-next.invariant.least;
    }
