use Rattle.std.proofs.Common.{◌≡◌, ◌∙◌, ◌∷◌, [], length, sym, subst, rules, w64, to_z, of_z}
use Rattle.range_code.specs.Frames.{family_of}
use Rattle.bound_search.specs.Members.{bound, member_of}
use Rattle.bound_search.specs.SearchStates.{Continues, all_levels, progress}
use Rattle.bound_search.specs.Objectives.{wanted}
use Rattle.bound_search.proofs.SearchSteps.{look_opens, look_opens_work, look_keeps, look_drops, look_back_work}
use Rattle.bound_search.proofs.search.look.Goals as goal
use Rattle.bound_search.proofs.search.look.Goals.{then-improves+in-None+in_ok-keep_leaf-in-None, else-improves}

pub returns-in-Some-clause-continues : goal.returns-in-Some-clause-continues
returns-in-Some-clause-continues g c =
    look_opens c.args.list.now c.args.aim c.args.store.now c.args.nodes.now.items c.requires.wanted c.requires.node c.in-Some.place
    c.variable_at-variable.result c.push.new.self.items c.args.best.now c.in-Some.ensures.picked c.variable_at-variable.ensures
    c.in_ok-push-in-Some.ensures.items

pub returns-in-Some-clause-work : goal.returns-in-Some-clause-work
returns-in-Some-clause-work g c =
    look_opens_work c.args.list.now c.args.aim c.args.store.now c.args.nodes.now.items c.requires.wanted c.requires.node c.in-Some.place
    c.variable_at-variable.result c.push.new.self.items c.args.best.now c.in-Some.ensures.picked c.variable_at-variable.ensures c.in_ok-push-in-Some.ensures.items

pub returns-clause-continues : goal.returns-clause-continues
returns-clause-continues g c =
    let fits : to_z w64 (of_z w64 c.bound_of-bound.result) ≡ c.bound_of-bound.result = search rules in
    let is : to_z w64 (of_z w64 c.bound_of-bound.result) ≡ bound c.args.aim.least (family_of c.args.store.now.current.sets) (member_of c.args.aim.cost) = fits ∙ c.bound_of-bound.ensures in
    elim c.if-improves.branch [
      | then-improves+in-None+in_ok-keep_leaf-in-None w ↦
          subst (λ b. Continues (wanted c.args.list.now c.args.aim) (length c.args.store.now.current.sets)
          (progress c.args.store.now.below c.args.nodes.now.items c.args.best.now) (c.args.store.now.current.posted ∷ [])
          (progress (all_levels c.pop_mark.new.self) c.args.nodes.now.items b)) (sym w.best-is)
          (look_keeps c.args.list.now c.args.aim c.args.store.now c.args.nodes.now.items c.requires.wanted c.requires.node c.pop_mark.new.self
          c.pop_mark.ensures.levels c.args.best.now w.keep_leaf.new.best (to_z w64 (of_z w64 c.bound_of-bound.result)) w.in-None.ensures.picked is
          (c.improves.ensures.yes w.if-improves.true) w.in_ok-keep_leaf-in-None.ensures.cost w.in_ok-keep_leaf-in-None.ensures.values)
      | else-improves w ↦
          subst (λ b. Continues (wanted c.args.list.now c.args.aim) (length c.args.store.now.current.sets)
          (progress c.args.store.now.below c.args.nodes.now.items c.args.best.now) (c.args.store.now.current.posted ∷ [])
          (progress (all_levels c.pop_mark.new.self) c.args.nodes.now.items b)) (sym w.best-is)
          (look_drops c.args.list.now c.args.aim c.args.store.now c.args.nodes.now.items c.requires.wanted c.requires.node c.pop_mark.new.self
          c.pop_mark.ensures.levels c.args.best.now (to_z w64 (of_z w64 c.bound_of-bound.result)) is (c.improves.ensures.no w.if-improves.false))
    ]

pub returns-clause-work : goal.returns-clause-work
returns-clause-work g c = look_back_work c.args.list.now c.args.aim c.args.store.now c.args.nodes.now.items c.requires.wanted c.requires.node c.pop_mark.new.self c.pop_mark.ensures.levels
