use Rattle.std.proofs.Common.{◌<◌, ℕ, ◌++◌, [], ◌∷◌, List, Some, length, arith, sym, ap, ◌∙◌, subst}
use Rattle.std.specs.Prelude.{All, slice_index_or}
use Rattle.std.proofs.lemmas.List.Elements.{All-append, All-pop, All-weaker}
use Rattle.fd_language.specs.PlacedTerm.{place}
use Rattle.term_pool.specs.declared.TermId.{TermId}
use Rattle.term_pool.specs.Contents.{comp, atom_name}
use Rattle.term_pool.specs.Terms.{total_size}
use Rattle.term_pool.specs.PlacedTerms.{placed_of}
use Rattle.term_pool.proofs.Lemmas.{rest_is_smaller, parts_are_smaller}
use Rattle.term_reader.proofs.Lemmas.{place_placed}
use Rattle.fd_language.specs.PlacedTerm as placed
use Rattle.text_warnings.specs.OccurrenceCounts.{joined}
use Rattle.text_warnings.specs.declared.singleton_variables.Met.TheVariants.{Never}
use Rattle.text_warnings.proofs.OccurrenceCounts.{met_ahead, met_step, met_skip, met_variable, no_places}
use Rattle.text_warnings.proofs.singleton_variables.note_variables.Goals as goal

-- a variable
pub loop-next-smaller-in-Var : goal.loop-next-smaller-in-Var
loop-next-smaller-in-Var c =
    let pool = c.args.pool.now in
    let rest = c.pop.new.self.items in
    subst (λ (ts : List TermId). total_size pool rest < total_size pool ts) (sym c.in-Some.ensures.items) (rest_is_smaller pool rest c.in-Some.next)

pub loop-next-preserved-in-Var : goal.loop-next-preserved-in-Var
loop-next-preserved-in-Var c =
    let pool = c.args.pool.now in
    let rest = c.pop.new.self.items in
    let t = c.in-Some.next in
    let P : TermId → Type 0 = λ t. t.number < length pool.entries in
    let popped = All-pop P c.loop-next.ahead.items rest (Some t) c.in-Some.ensures.items c.loop-next.invariant.within in
    let at = place_placed pool t c.place.result c.place.ensures.place in
    let seen = c.in-Var.ensures.placed ∙ ap (λ (p : ℕ). placed.var c.in-Var.n p) at in
    record {
      within = popped.0;
      met = λ n h.
          met_variable pool c.loop-next.met c.note.new.met n c.in-Var.n c.place.result rest t seen (omega (arith, h, c.loop-next.auto.met)) c.note.ensures
          ∙ ap (λ (ts : List TermId). joined (slice_index_or c.loop-next.met n Never) (met_ahead pool n ts)) (sym c.in-Some.ensures.items)
          ∙ c.loop-next.invariant.met n h;
    }

-- a term's parts in its place
pub loop-next-smaller-in-Continue-branch-2 : goal.loop-next-smaller-in-Continue-branch-2
loop-next-smaller-in-Continue-branch-2 c =
    let pool = c.args.pool.now in
    let rest = c.pop.new.self.items in
    let next = c.extend_from_slice.new.self.items in
    subst (λ (ts : List TermId). total_size pool next < total_size pool ts) (sym c.in-Some.ensures.items)
    (subst (λ (ts : List TermId). total_size pool ts < total_size pool (rest ++ c.in-Some.next ∷ [])) (sym c.in_ok-extend_from_slice-in-Comp.ensures.items)
    (parts_are_smaller pool rest c.in-Some.next (comp c.in-Comp.field-0 c.in-Comp.parts.now) c.in-Comp.ensures.term))

pub loop-next-preserved-in-Continue-branch-2 : goal.loop-next-preserved-in-Continue-branch-2
loop-next-preserved-in-Continue-branch-2 c =
    let pool = c.args.pool.now in
    let rest = c.pop.new.self.items in
    let t = c.in-Some.next in
    let ids = c.in-Comp.parts.now in
    let P : TermId → Type 0 = λ t. t.number < length pool.entries in
    let popped = All-pop P c.loop-next.ahead.items rest (Some t) c.in-Some.ensures.items c.loop-next.invariant.within in
    let parts = All-weaker (λ t. t.number < c.in-Some.next.number) P (λ t h. omega (arith, popped.1)) ids c.in-Comp.ensures.within.1 in
    record {
      within = subst (All P) (sym c.in_ok-extend_from_slice-in-Comp.ensures.items) (All-append P rest ids popped.0 parts);
      met = λ n h.
          ap (λ (ts : List TermId). joined (slice_index_or c.loop-next.met n Never) (met_ahead pool n ts)) c.in_ok-extend_from_slice-in-Comp.ensures.items
          ∙ ap (joined (slice_index_or c.loop-next.met n Never)) (sym (met_step pool n rest t (atom_name pool c.in-Comp.field-0) (place (placed_of pool t)) ids c.in-Comp.ensures.placed))
          ∙ ap (λ (ts : List TermId). joined (slice_index_or c.loop-next.met n Never) (met_ahead pool n ts)) (sym c.in-Some.ensures.items)
          ∙ c.loop-next.invariant.met n h;
    }

-- a term with no parts
pub loop-next-smaller : goal.loop-next-smaller
loop-next-smaller c =
    let pool = c.args.pool.now in
    let rest = c.pop.new.self.items in
    subst (λ (ts : List TermId). total_size pool rest < total_size pool ts) (sym c.in-Some.ensures.items) (rest_is_smaller pool rest c.in-Some.next)

pub loop-next-preserved : goal.loop-next-preserved
loop-next-preserved c =
    let pool = c.args.pool.now in
    let rest = c.pop.new.self.items in
    let t = c.in-Some.next in
    let P : TermId → Type 0 = λ t. t.number < length pool.entries in
    let popped = All-pop P c.loop-next.ahead.items rest (Some t) c.in-Some.ensures.items c.loop-next.invariant.within in
    record {
      within = popped.0;
      met = λ n h.
          ap (joined (slice_index_or c.loop-next.met n Never)) (sym (met_skip pool n rest t (no_places pool t c.look.result n c.look.ensures.placed c.in-Int.is)))
          ∙ ap (λ (ts : List TermId). joined (slice_index_or c.loop-next.met n Never) (met_ahead pool n ts)) (sym c.in-Some.ensures.items)
          ∙ c.loop-next.invariant.met n h;
    }
