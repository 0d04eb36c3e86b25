use Rattle.wam_code.proofs.WorkMeasure.{fork_falls, step_falls, proceed_falls, back_falls, cut_less}
use Rattle.wam_code.proofs.CodeRegions.{names_nearer, falls_nearer}
use Rattle.wam_code.proofs.laws.work_falls.Goals as goal

pub returns : goal.returns
returns c = record { fork = fork_falls; step = step_falls; proceed = proceed_falls; back = back_falls; cut = cut_less; names = names_nearer; falls = falls_nearer }
