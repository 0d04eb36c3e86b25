use Rattle.std.proofs.Common.{rules, ◌≡◌, ◌≤◌, ◌<◌, ◌∙◌, Bool, true, false, List, ℕ, ap, subst, sym, take, arith}
use Rattle.std.specs.List.{list_any}
use Rattle.std.specs.Str.{bytes_eq}
use Rattle.std.proofs.lemmas.List.{take_all}
use Rattle.std.proofs.lemmas.Slice.Eq.{bytes_eq-Decides}
use Rattle.fd_model.specs.declared.kinds.ConstraintKind.{ConstraintKind}
use Rattle.listing_reader.specs.Goals.{constraint_spelled}
use Rattle.listing_reader.proofs.GoalWords.{none_found, none_more, all_constraints, constraint_found, constraint_is}
use Rattle.listing_reader.proofs.read_goals.read_constraint.Goals as goal

pub loop-kind-preserved : goal.loop-kind-preserved
loop-kind-preserved c =
    let differs : bytes_eq c.constraint_text.result.now c.args.word.now ≡ false = search rules in
    let low : c.loop-kind.kind-index < 13 = omega arith in
    none_more constraint_spelled all_constraints c.args.word.now c.loop-kind.kind-index _ low c.loop-kind.invariant
    (ap (λ (t : List ℕ). bytes_eq t c.args.word.now) (sym c.constraint_text.ensures) ∙ differs)

pub returns : goal.returns
returns c =
    let all : 13 ≤ c.loop-kind.kind-index = omega arith in
    let P = λ (l : List ConstraintKind). list_any (λ x. bytes_eq (constraint_spelled x) c.args.word.now) l ≡ false in
    let whole = subst P (take_all c.loop-kind.kind-index all_constraints all) c.loop-kind.invariant in
    λ x h e. none_found constraint_spelled all_constraints c.args.word.now whole x (constraint_found x) (sym (constraint_is x) ∙ e)

pub returns-then-eq : goal.returns-then-eq
returns-then-eq c =
    let same : bytes_eq c.constraint_text.result.now c.args.word.now ≡ true = search rules in
    (tt, constraint_is _ ∙ sym c.constraint_text.ensures ∙ (bytes_eq-Decides c.constraint_text.result.now c.args.word.now).0 same)
