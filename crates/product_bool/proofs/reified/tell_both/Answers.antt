use Rattle.std.specs.Int.{w64}
use Rattle.std.proofs.lemmas.Int.{to_z-of_z}
use Rattle.linear_forms.specs.LinearForm.{form_of}
use Rattle.product_bool.proofs.TellingSums.{turned_normal, turned_far}
use Rattle.product_bool.proofs.reified.tell_both.Goals as goal

pub tell-requires-2-clause-normal : goal.tell-requires-2-clause-normal
tell-requires-2-clause-normal c = turned_normal (form_of c.args.linear.now) (form_of c.in_ok-turned.turned) c.requires.normal c.in_ok-turned.ensures

pub tell-requires-2-clause-far : goal.tell-requires-2-clause-far
tell-requires-2-clause-far c = turned_far c.args.far _ (form_of c.args.linear.now) (form_of c.in_ok-turned.turned) c.requires.far (to_z-of_z w64 c.args.far c.ranges.far) c.in_ok-turned.ensures
