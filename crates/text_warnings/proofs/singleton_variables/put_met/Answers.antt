use Rattle.std.proofs.Common.{◌≡◌, List, arith, refl, sym, ap, ◌∙◌, subst, map, Option, ◌++◌, append-nil, get_or}
use Rattle.std.specs.Option.{option_to_list}
use Rattle.std.proofs.lemmas.List.{take_all}
use Rattle.term_pool.specs.Contents.{atom_name}
use Rattle.term_pool.specs.declared.AtomId.{AtomId}
use Rattle.text_warnings.specs.declared.Warning.{Warning}
use Rattle.text_warnings.specs.declared.singleton_variables.Met.TheVariants.{Never}
use Rattle.text_warnings.specs.Warnings.{singles_from}
use Rattle.text_warnings.specs.WarningViews.{Adds}
use Rattle.text_warnings.proofs.AddedWarnings.{singles_next}
use Rattle.text_warnings.proofs.singleton_variables.put_met.Goals as goal
use Rattle.text_warnings.proofs.singleton_variables.put_met.Goals.{in-Some+in_ok-push, in_default}

pub loop-n-preserved : goal.loop-n-preserved
loop-n-preserved c =
    let pool = c.args.pool.now in
    let names = c.args.names.now in
    let met = c.args.met.now in
    let n = c.loop-n.n in
    let d : AtomId = record { number = 0 } in
    let mid = c.loop-n.warnings.items in
    let new = c.match-single_warning.warnings.items in
    let put : new ≡ mid ++ option_to_list c.single_warning.result =
    elim c.match-single_warning.branch [
      | in-Some+in_ok-push w ↦ ap (λ v. v.items) w.warnings-is ∙ w.in_ok-push.ensures.items ∙ ap (λ (o : Option Warning). mid ++ option_to_list o) (sym w.in-Some.is)
      | in_default w ↦ ap (λ v. v.items) w.warnings-is ∙ sym (append-nil mid) ∙ ap (λ (o : Option Warning). mid ++ option_to_list o) (sym w.in_default.is)
    ] in
    λ t h.
    singles_next pool names met n (get_or names n d) d (get_or met n Never) c.args.warnings.now.items mid new c.single_warning.result t (omega arith)
    c.requires.long refl refl h (c.loop-n.invariant t h)
    c.single_warning.ensures.is c.single_warning.ensures.within put

pub returns : goal.returns
returns c = λ t h.
    subst (λ (names : List AtomId). Adds c.args.pool.now (singles_from 0 (map (atom_name c.args.pool.now) names) t) c.args.warnings.now.items c.loop-n.warnings.items)
    (take_all c.loop-n.n c.args.names.now (omega arith)) (c.loop-n.invariant t h)
