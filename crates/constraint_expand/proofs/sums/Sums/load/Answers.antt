use Rattle.constraint_expand.proofs.SumRows.{form_accepted, loads, loads_ready}
use Rattle.constraint_expand.proofs.sums.Sums.load.Goals as goal

pub rows_of_form-requires-clause-accepted : goal.rows_of_form-requires-clause-accepted
rows_of_form-requires-clause-accepted c = form_accepted c.args.self.now c.index-form.result.now c.requires.ready c.requires.over.more c.index-form.ensures c.deref.result.now c.deref.ensures.value

pub returns-clause-loads : goal.returns-clause-loads
returns-clause-loads c = loads c.args.self.now c.index-form.result.now c.requires.ready c.requires.over.more c.index-form.ensures c.in_ok-self.field-0
    c.deref.result.now c.deref.ensures.value c.in_ok-self.ensures.rows c.requires.over.over

pub returns-clause-ready : goal.returns-clause-ready
returns-clause-ready c = loads_ready c.args.self.now c.index-form.result.now c.requires.ready c.requires.over.more c.index-form.ensures c.in_ok-self.field-0
    c.deref.result.now c.deref.ensures.value c.in_ok-self.ensures.rows c.in_ok-self.ensures.ready
