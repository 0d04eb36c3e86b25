use Rattle.std.proofs.Common.{List, ◌∷◌, pos}
use Rattle.std.proofs.lemmas.Option.{IfSome_then}
use Rattle.fd_language.specs.declared.range_node.RangeNode.{RangeNode}
use Rattle.range_code.specs.Forms.{IsSigned, IsPart}
use Rattle.range_code.proofs.Forms.{part_alone}
use Rattle.range_code.proofs.form.addend_of.Goals as goal

pub returns : goal.returns
returns c = IfSome_then c.signed.result {P = IsSigned c.args.last (record { weight = pos 1; leaf = c.in_ok-leaf.leaf })} {Q = λ a. (rest : List RangeNode)
    → IsPart (c.args.first ∷ c.args.last ∷ rest) a rest} c.signed.ensures
    (λ a s rest. part_alone c.args.first c.args.last rest c.in_ok-leaf.leaf a c.in_ok-leaf.ensures s)
