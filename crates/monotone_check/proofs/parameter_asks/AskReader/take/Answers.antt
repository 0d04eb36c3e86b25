use Rattle.std.proofs.lemmas.Result.{on_ok_weaker}
use Rattle.monotone_check.proofs.NodeNeeds.{open_true_takes, open_false_takes, operate_takes, param_takes}
use Rattle.monotone_check.proofs.parameter_asks.AskReader.take.Goals as goal

pub returns-in-Int : goal.returns-in-Int
returns-in-Int c = on_ok_weaker c.open.result (open_true_takes c.args.node c.args.self.now c.open.new.self c.in-Int.is) c.open.ensures

pub returns-in-Param : goal.returns-in-Param
returns-in-Param c = on_ok_weaker c.open_parameter.result (param_takes c.args.node c.in-Param.variable c.args.self.now c.open_parameter.new.self c.in-Param.is) c.open_parameter.ensures

pub returns-in-Min : goal.returns-in-Min
returns-in-Min c = on_ok_weaker c.open-in-Min.result (open_false_takes c.args.node c.args.self.now c.open-in-Min.new.self c.in-Min.is) c.open-in-Min.ensures

pub returns-in-Add : goal.returns-in-Add
returns-in-Add c = on_ok_weaker c.operate.result (operate_takes c.args.node c.args.self.now c.operate.new.self c.in-Add.is) c.operate.ensures
