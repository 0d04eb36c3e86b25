use Rattle.monotone_check.proofs.Clashes.{param_ok, named_ok, found_none}
use Rattle.monotone_check.proofs.clash.Uses.meet_node.Goals as goal

pub returns-in-Param : goal.returns-in-Param
returns-in-Param c = param_ok c.meet.result c.args.node c.in-Param.variable c.args.place c.args.self.now.parameters.keys c.args.self.now.named.keys
    c.meet.new.own.keys c.in-Param.is c.meet.ensures.clash c.meet.ensures.seen

pub returns-in-Min : goal.returns-in-Min
returns-in-Min c = named_ok c.meet-in-Min.result c.args.node c.in-Min.variable c.args.place c.args.self.now.parameters.keys c.args.self.now.named.keys
    c.meet-in-Min.new.own.keys c.in-Min.is c.meet-in-Min.ensures.clash c.meet-in-Min.ensures.seen

pub returns-in_default : goal.returns-in_default
returns-in_default c = found_none c.args.node c.args.place c.args.self.now.parameters.keys c.args.self.now.named.keys c.in_default.not-Param
    c.in_default.not-Min c.in_default.not-Max c.in_default.not-Val c.in_default.not-Dom
