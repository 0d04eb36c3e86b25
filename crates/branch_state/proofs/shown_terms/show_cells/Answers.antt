use Rattle.std.proofs.Common.{◌∙◌, ap, List, ℕ}
use Rattle.fd_language.specs.Term.{Term}
use Rattle.fd_language.specs.Variables.{variables_of_all, distinct}
use Rattle.fd_model.specs.Lines.{as_terms}
use Rattle.branch_state.specs.ShownTerms.{open_set, with_sets, variables_at}
use Rattle.branch_state.proofs.ShownTerms.{all_read}
use Rattle.branch_state.proofs.shown_terms.show_cells.Goals as goal

pub returns : goal.returns
returns g c =
    let set = open_set c.args.heap.now.now c.args.store.now.current.sets in
    let all = c.in_ok-terms.ensures.terms ∙ all_read c.args.from.now.names c.args.heap.now.now c.args.store.now.current.sets c.know.ensures c.requires.atoms c.args.cells.now c.requires.cells in
    record {
      own = c.in_ok-terms.ensures.own;
      terms = all;
      sets_of = c.in_ok-sets.ensures ∙ ap (λ (l : List ℕ). with_sets set (distinct l))
          (c.deref-2.ensures.value ∙ c.in_ok-variables.ensures ∙ ap (variables_at c.read_cells.new.pool) c.deref.ensures.value ∙ ap (λ (ts : List Term). variables_of_all (as_terms ts)) all);
    }
