use Rattle.std.proofs.Common.{List, ◌∷◌}
use Rattle.std.proofs.lemmas.Option.{IfSome_then}
use Rattle.fd_language.specs.declared.range_node.RangeNode.{RangeNode}
use Rattle.range_code.specs.Forms.{IsSigned, IsPart}
use Rattle.range_code.proofs.Forms.{part_times}
use Rattle.range_code.proofs.form.product_of.Goals as goal

pub returns : goal.returns
returns c = IfSome_then c.signed.result {P = IsSigned c.args.last c.in_ok-product.product} {Q = λ a. (rest : List RangeNode)
    → IsPart (c.args.first ∷ c.args.second ∷ c.args.third ∷ c.args.last ∷ rest) a rest} c.signed.ensures
    (λ a s rest. part_times c.args.first c.args.last rest c.args.second c.args.third c.in_ok-a.a c.in_ok-b.b c.in_ok-product.product a
    (c.is_product.ensures c.if-not-is_product.false) c.in_ok-a.ensures c.in_ok-b.ensures c.in_ok-product.ensures.value c.in_ok-product.ensures.leaf s)
