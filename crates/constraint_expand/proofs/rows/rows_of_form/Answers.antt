use Rattle.std.proofs.Common.{◌≡◌, true, ap, ◌∙◌, ℤ, false, neg_ℤ, sym, subst}
use Rattle.std.specs.Int.{w64}
use Rattle.std.proofs.lemmas.Int.{to_z-of_z}
use Rattle.fd_model.specs.Linear.{in_integers}
use Rattle.linear_forms.proofs.Lemmas.{passed, neg_inside}
use Rattle.constraint_expand.specs.Posts.{Accepted}
use Rattle.constraint_expand.proofs.RowPosts.{sides_of, rows_same, made_form}
use Rattle.constraint_expand.proofs.rows.rows_of_form.Goals as goal

pub returns-clause-rows : goal.returns-clause-rows
returns-clause-rows c =
    let f = made_form c.args.comparison false c.in_ok-straight_terms.straight_terms.items c.args.terms.now _ c.args.constant c.in_ok-straight.straight
    c.in_ok-straight.ensures c.in_ok-straight_terms.ensures.items (to_z-of_z w64 c.args.constant c.ranges.constant) in
    rows_same c.args.comparison c.args.terms.now c.args.constant c.in_ok-straight.straight f

pub returns-clause-ready : goal.returns-clause-ready
returns-clause-ready c =
    let f = made_form c.args.comparison false c.in_ok-straight_terms.straight_terms.items c.args.terms.now _ c.args.constant c.in_ok-straight.straight
    c.in_ok-straight.ensures c.in_ok-straight_terms.ensures.items (to_z-of_z w64 c.args.constant c.ranges.constant) in
    record {
      sides = sides_of c.args.comparison c.args.terms.now c.in_ok-turned_terms.turned_terms.items c.args.constant _ c.in_ok-straight.straight
          c.in_ok-turned.turned f c.in_ok-turned.ensures c.in_ok-turned_terms.ensures c.requires.constant
          (λ h. passed (neg_ℤ c.args.constant) c.turned_constant.result (
            c.turned_constant.ensures (subst (λ (z : ℤ). in_integers z ≡ true) (sym (to_z-of_z w64 c.args.constant c.ranges.constant)) h)
                ∙ ap neg_ℤ (to_z-of_z w64 c.args.constant c.ranges.constant),
            neg_inside c.args.constant h,
          ));
      accepted = subst Accepted (sym (rows_same c.args.comparison c.args.terms.now c.args.constant c.in_ok-straight.straight f)) c.requires.accepted;
    }
