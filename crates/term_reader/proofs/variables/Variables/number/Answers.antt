use Rattle.std.proofs.Common.{◌∙◌, length}
use Rattle.std.proofs.lemmas.Result.{on_ok_weaker}
use Rattle.term_reader.proofs.VariableNumbers.{number_found, names_found, number_absent, names_absent, if_number}
use Rattle.term_reader.proofs.variables.Variables.number.Goals as goal

pub returns-in-Some-clause-number : goal.returns-in-Some-clause-number
returns-in-Some-clause-number c =
    let f = rw c.in-Some.is at c.find.ensures in
    number_found c.args.self.now.anonymous c.args.self.now.names.items c.args.self.now.numbers.items c.args.name c.in-Some.number c.requires c.if-name-self.false f.0 f.1

pub returns-in-Some-clause-names : goal.returns-in-Some-clause-names
returns-in-Some-clause-names c =
    let f = rw c.in-Some.is at c.find.ensures in
    names_found c.args.self.now.anonymous c.args.self.now.names.items c.args.name c.in-Some.number c.if-name-self.false f.0

pub returns-in-None-clause-number : goal.returns-in-None-clause-number
returns-in-None-clause-number c =
    let f = rw c.in-None.is at c.find.ensures in
    if_number c.add-in-None.result (length c.args.self.now.names.items) _
    (number_absent c.args.self.now.anonymous c.args.self.now.names.items c.args.self.now.numbers.items c.args.name c.requires c.if-name-self.false f)
    c.add-in-None.ensures.number

pub returns-in-None-clause-names : goal.returns-in-None-clause-names
returns-in-None-clause-names c =
    let f = rw c.in-None.is at c.find.ensures in
    on_ok_weaker c.add-in-None.result (λ h. h ∙ names_absent c.args.self.now.anonymous c.args.self.now.names.items c.args.self.now.numbers.items c.args.name
    c.requires c.if-name-self.false f) c.add-in-None.ensures.names
