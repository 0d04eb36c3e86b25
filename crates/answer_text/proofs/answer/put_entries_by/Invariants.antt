use Rattle.std.proofs.Common.{◌≡◌, ◌++◌, take, map, codes}
use Rattle.fd_language.specs.Variables.{distinct}
use Rattle.fd_language.specs.Term.{as_terms}
use Rattle.fd_model.specs.Lines.{equals_text, joined}
use Rattle.machine_events.specs.Events.{terms_in, variable_text}
use Rattle.term_pool.specs.Contents.{atom_name}
use Rattle.answer_text.proofs.VariableNumbers.{variables_in}
use Rattle.answer_text.proofs.answer.put_entries_by.Given as goal

abbrev pub invariant-loop-index : goal.invariant-loop-index
invariant-loop-index l =
    record {
      text : l.text.items ≡ l.initial.text.items
          ++ joined (codes ", ") (equals_text (variable_text l.shown (as_terms (terms_in l.shown))) (take l.index (map (atom_name l.pool) l.names)) (take l.index (terms_in l.shown)));
      numbers : l.numbers.keys ≡ distinct (variables_in (take l.index (terms_in l.shown)));
    }
