use Rattle.linear_forms.specs.LinearForm.{form_of}
use Rattle.linear_forms.proofs.Lemmas.{collected_inside}
use Rattle.term_pool.specs.Terms.{term_of}
use Rattle.product_bool.proofs.TellingSums.{collected_normal}
use Rattle.product_bool.proofs.reified.reified.Goals as goal

pub normal_form-requires : goal.normal_form-requires
normal_form-requires c = collected_inside (term_of c.args.pool.now c.in_ok-relation.left) (term_of c.args.pool.now c.in_ok-relation.right)
    (form_of c.in_ok-difference.difference) c.in_ok-difference.ensures

pub told_form-requires-clause-normal : goal.told_form-requires-clause-normal
told_form-requires-clause-normal c = collected_normal (term_of c.args.pool.now c.in_ok-relation.left) (term_of c.args.pool.now c.in_ok-relation.right)
    (form_of c.in_ok-difference.difference) _ _ c.in_ok-difference.ensures c.in_ok-linear.ensures
