use Rattle.std.proofs.Common.{◌≡◌, ◌∷◌, [], ◌++◌, FitsSigned, to_z, of_z, subst, rules, w64}
use Rattle.std.proofs.lemmas.Int.{to_z-of_z}
use Rattle.term_pool.specs.declared.TheConstants.{SPAN}
use Rattle.heap_cells.specs.declared.Cell.TheVariants as cell
use Rattle.branch_state.specs.Compounds.{IsMade}
use Rattle.branch_goals.proofs.DomainLists.{listing_start, listing_more}
use Rattle.branch_goals.proofs.domains.list_spans.Goals as goal

pub loop-low-init : goal.loop-low-init
loop-low-init g c = listing_start c.args.branch.now c.args.spans.items c.requires.sound c.requires.atoms

pub loop-low-preserved : goal.loop-low-preserved
loop-low-preserved g c =
    let fits_low : FitsSigned w64 c.in-Some.low = search rules in
    let fits_high : FitsSigned w64 c.in-Some.high = search rules in
    let last : c.loop-low.spans.items ≡ c.pop.new.self.items ++ (c.in-Some.low, c.in-Some.high) ∷ [] = c.in-Some.ensures.items in
    listing_more c.args.branch.now c.args.spans.items c.loop-low.spans.items c.pop.new.self.items (c.in-Some.low, c.in-Some.high) c.loop-low.branch c.loop-low.list c.loop-low.invariant last
    c.compound.new.self c.in_ok-interval.interval
    (subst (λ z. IsMade SPAN (cell.Int z ∷ cell.Int c.in-Some.high ∷ []) c.loop-low.branch c.compound.new.self c.in_ok-interval.interval) (to_z-of_z w64 c.in-Some.low fits_low)
    (subst (λ z. IsMade SPAN (cell.Int (to_z w64 (of_z w64 c.in-Some.low)) ∷ cell.Int z ∷ []) c.loop-low.branch c.compound.new.self c.in_ok-interval.interval)
    (to_z-of_z w64 c.in-Some.high fits_high) c.in_ok-interval.ensures.made))
    c.in_ok-interval.ensures.heap c.in_ok-interval.ensures.sound
    c.compound-in-Some.new.self c.in_ok-list.list c.in_ok-list.ensures.made c.in_ok-list.ensures.heap c.in_ok-list.ensures.sound
