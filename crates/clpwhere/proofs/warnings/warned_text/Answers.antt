use Rattle.clpwhere.proofs.WarnedText.{rising_kept}
use Rattle.clpwhere.proofs.warnings.warned_text.Goals as goal

pub put_told-requires-clause-rising : goal.put_told-requires-clause-rising
put_told-requires-clause-rising c =
    rising_kept c.args.sentences.now.pool c.in_ok-warnings.warnings.items c.deref.result.now c.deref.ensures.value c.in_ok-warnings.ensures.warnings.rising
