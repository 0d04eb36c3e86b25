use Rattle.std.proofs.Common.{List, ℕ, [], ◌∷◌, ◌++◌, map, ap, ◌∙◌, arith}
use Rattle.std.proofs.lemmas.List.{map_push, take_all}
use Rattle.clause_compiler.proofs.ClauseGroups.{no_groups}
use Rattle.clause_compiler.proofs.Vectors.{items}
use Rattle.clause_compiler.proofs.groups.empty_groups.Goals as goal

pub loop-predicate-init : goal.loop-predicate-init
loop-predicate-init c = ap (map items) c.in_ok-groups.ensures.items

pub loop-predicate-preserved : goal.loop-predicate-preserved
loop-predicate-preserved c =
    let old = c.loop-predicate.groups.items in
    ap (map items) c.in_ok-push.ensures.items ∙ map_push items old c.new.result ∙ ap (λ (l : List ℕ). map items old ++ l ∷ []) c.new.ensures.items
    ∙ no_groups c.args.predicates.now (map items old) c.loop-predicate._predicate (omega arith) c.loop-predicate.invariant

pub returns : goal.returns
returns c = c.loop-predicate.invariant ∙ ap (map (λ p. [])) (take_all c.loop-predicate._predicate c.args.predicates.now (omega arith))
