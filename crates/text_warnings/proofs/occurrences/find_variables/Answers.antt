use Rattle.std.proofs.Common.{◌≡◌, ◌<◌, List, [], ◌∷◌, ◌++◌, sym, ap, ◌∙◌, subst}
use Rattle.std.proofs.Common.{ℕ, arith, append-nil, length}
use Rattle.std.proofs.lemmas.List.Elements.{All-pop, All-weaker}
use Rattle.std.proofs.Common.{Some}
use Rattle.fd_language.specs.PlacedTerm as placed
use Rattle.term_pool.specs.declared.TermId.{TermId}
use Rattle.term_pool.specs.Contents.{comp}
use Rattle.term_pool.specs.Terms.{total_size}
use Rattle.term_pool.specs.PlacedTerms.{placed_of}
use Rattle.term_pool.proofs.Lemmas.{rest_is_smaller, parts_are_smaller}
use Rattle.term_reader.proofs.Lemmas.{place_placed}
use Rattle.text_warnings.specs.OpenVariables.{occurrences}
use Rattle.text_warnings.specs.declared.occurrences.Occurrence.{Occurrence}
use Rattle.text_warnings.proofs.OpenGoals.{variables_of_parts, no_variables}
use Rattle.text_warnings.proofs.Walks.{find_parts, find_leaf}
use Rattle.text_warnings.proofs.occurrences.find_variables.Goals as goal

-- a variable
pub loop-next-smaller-in-Continue-branch-2 : goal.loop-next-smaller-in-Continue-branch-2
loop-next-smaller-in-Continue-branch-2 c =
    let pool = c.args.pool.now in
    let rest = c.pop.new.self.items in
    subst (λ (ts : List TermId). total_size pool rest < total_size pool ts) (sym c.in-Some.ensures.items) (rest_is_smaller pool rest c.in-Some.next)

pub loop-next-preserved-in-Continue-branch-2 : goal.loop-next-preserved-in-Continue-branch-2
loop-next-preserved-in-Continue-branch-2 c =
    let pool = c.args.pool.now in
    let t = c.in-Some.next in
    let o : Occurrence = record { number = c.in-Var.n; place = c.place-place.result } in
    let at = place_placed pool t c.place-place.result c.place-place.ensures.place in
    let seen : placed_of pool t ≡ placed.var c.in-Var.n c.place-place.result = c.in-Var.ensures.placed ∙ ap (λ (p : ℕ). placed.var c.in-Var.n p) at in
    find_leaf pool occurrences c.args.t c.loop-next.found.items c.push-in-Var.new.self.items (o ∷ []) c.loop-next.ahead.items c.pop.new.self.items t
    c.in-Some.ensures.items (ap occurrences seen) c.in_ok-push-in-Var.ensures.items c.loop-next.invariant

-- the parts of a term
pub loop-next-smaller-in-Continue-branch-3 : goal.loop-next-smaller-in-Continue-branch-3
loop-next-smaller-in-Continue-branch-3 c =
    let pool = c.args.pool.now in
    let rest = c.pop.new.self.items in
    let next = c.extend_from_slice.new.self.items in
    subst (λ (ts : List TermId). total_size pool next < total_size pool ts) (sym c.in-Some.ensures.items)
    (subst (λ (ts : List TermId). total_size pool ts < total_size pool (rest ++ c.in-Some.next ∷ [])) (sym c.in_ok-extend_from_slice-in-Comp.ensures.items)
    (parts_are_smaller pool rest c.in-Some.next (comp c.in-Comp.field-0 c.in-Comp.parts.now) c.in-Comp.ensures.term))

pub loop-next-preserved-in-Continue-branch-3 : goal.loop-next-preserved-in-Continue-branch-3
loop-next-preserved-in-Continue-branch-3 c =
    let pool = c.args.pool.now in
    let rest = c.pop.new.self.items in
    let t = c.in-Some.next in
    let ids = c.in-Comp.parts.now in
    let P : TermId → Type 0 = λ t. t.number < length pool.entries in
    let popped = All-pop P c.loop-next.ahead.items rest (Some t) c.in-Some.ensures.items c.loop-next.invariant.inside in
    let parts = All-weaker (λ t. t.number < c.in-Some.next.number) P (λ t h. omega (arith, popped.1)) ids c.in-Comp.ensures.within.1 in
    find_parts pool occurrences c.args.t c.loop-next.found.items c.loop-next.ahead.items rest c.extend_from_slice.new.self.items ids t
    c.in-Some.ensures.items parts (ap occurrences c.in-Comp.ensures.placed ∙ variables_of_parts pool ids) c.in_ok-extend_from_slice-in-Comp.ensures.items c.loop-next.invariant

-- no variable
pub loop-next-smaller : goal.loop-next-smaller
loop-next-smaller c =
    let pool = c.args.pool.now in
    let rest = c.pop.new.self.items in
    subst (λ (ts : List TermId). total_size pool rest < total_size pool ts) (sym c.in-Some.ensures.items) (rest_is_smaller pool rest c.in-Some.next)

pub loop-next-preserved : goal.loop-next-preserved
loop-next-preserved c =
    let pool = c.args.pool.now in
    let t = c.in-Some.next in
    let now = c.loop-next.found.items in
    find_leaf pool occurrences c.args.t now now [] c.loop-next.ahead.items c.pop.new.self.items t
    c.in-Some.ensures.items (no_variables pool t c.look.result c.look.ensures.placed c.in-Int.is) (sym (append-nil now)) c.loop-next.invariant
