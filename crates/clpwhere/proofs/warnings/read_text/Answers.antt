use Rattle.clpwhere.proofs.warnings.read_text.Goals as goal

pub returns-in-Err-clause-fault : goal.returns-in-Err-clause-fault
returns-in-Err-clause-fault c = c.why_unread.ensures.fault c.args.text.now c.in-Err.ensures.fault
