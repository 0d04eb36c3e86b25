use Rattle.monotone_check.proofs.Leaves.{param_is, val_is}
use Rattle.monotone_check.proofs.summary.leaf.Goals as goal

pub returns-in-Param : goal.returns-in-Param
returns-in-Param c = record {
  leaf = λ at n e. rw c.in-Param.is
      (param_is at n _ _ _ e c.plain_leaf.ensures.place c.plain_leaf.ensures.size c.plain_leaf.ensures.wide c.plain_leaf.ensures.literal
      c.plain_leaf.ensures.parameter c.plain_leaf.ensures.plain c.plain_leaf.ensures.natural);
}

pub returns-in-Val : goal.returns-in-Val
returns-in-Val c = record {
  leaf = λ at n e. rw c.in-Val.is
      (val_is at n _ _ _ e c.plain_leaf-in-Val.ensures.place c.plain_leaf-in-Val.ensures.size c.plain_leaf-in-Val.ensures.wide c.plain_leaf-in-Val.ensures.literal
      c.plain_leaf-in-Val.ensures.parameter c.plain_leaf-in-Val.ensures.plain c.plain_leaf-in-Val.ensures.natural);
}
