use Rattle.std.proofs.Common.{◌≡◌, ℕ, Option, Some, None, IfNone, length, map, set, sym, ap, ◌∙◌, arith}
use Rattle.std.proofs.lemmas.List.{map-set, length-map}
use Rattle.clause_compiler.specs.Groups.{numbers_of}
use Rattle.clause_compiler.proofs.Vectors.{items, list_put}
use Rattle.clause_compiler.proofs.ClauseGroups.{none_more, one_group}
use Rattle.clause_compiler.proofs.groups.groups_of.Goals as goal
use Rattle.clause_compiler.proofs.groups.groups_of.Goals.{in-Some+in_ok-push, in_default}

none_case : {P : Type 0} (o : Option ℕ) → o ≡ None → IfNone o P → P
none_case None e h = h
none_case (Some n) e h = absurd cc

pub loop-clause-init : goal.loop-clause-init
loop-clause-init c = c.in_ok-groups.ensures

pub index_mut-requires : goal.index_mut-requires
index_mut-requires c =
    let long = sym (length-map c.loop-clause.groups.items items) ∙ ap length c.loop-clause.invariant ∙ length-map c.args.predicates.now (numbers_of c.args.program.now c.loop-clause.clause) in
    let inside = c.in-Some.ensures.within in
    omega (arith, long, inside)

pub loop-clause-preserved : goal.loop-clause-preserved
loop-clause-preserved c =
    let p = c.args.program.now in
    let ps = c.args.predicates.now in
    let n = c.loop-clause.clause in
    let vs = c.loop-clause.groups.items in
    let long = sym (length-map vs items) ∙ ap length c.loop-clause.invariant ∙ length-map ps (numbers_of p n) in
    elim c.match-number_of_head.branch [
      | in-Some+in_ok-push w ↦
          let inside = w.in-Some.ensures.within in
          ap (λ v. map items v.items) w.groups-is ∙ map-set items vs w.in-Some.n w.push.new.self
          ∙ ap (set (map items vs) w.in-Some.n) (list_put vs w.in-Some.n n w.index_mut.result.now w.push.new.self.items w.in_ok-push.ensures.items
          w.index_mut.ensures.value (omega (arith, long, inside)))
          ∙ one_group p ps n (map items vs) w.in-Some.n c.requires.apart inside w.in-Some.ensures.found c.loop-clause.invariant
      | in_default w ↦ ap (λ v. map items v.items) w.groups-is
          ∙ none_more p ps n (map items vs) (none_case c.number_of_head.result w.in_default.is c.number_of_head.ensures.none) c.loop-clause.invariant
    ]
