use Rattle.text_warnings.proofs.WarningOrder.{on_ok}
use Rattle.text_warnings.proofs.WarningViews.{all_put}
use Rattle.text_warnings.proofs.warnings.put_all.Goals as goal

pub returns : goal.returns
returns c =
    on_ok c.put_predicates.result (all_put c.args.starts.now c.args.sentences.now c.args.warnings.now.items c.put_singles.new.warnings.items c.put_losses.new.warnings.items c.put_open_variables.new.warnings.items c.put_predicates.new.warnings.items
    c.in_ok-put_singles.ensures c.in_ok-put_losses.ensures c.in_ok-put_open_variables.ensures) c.put_predicates.ensures
