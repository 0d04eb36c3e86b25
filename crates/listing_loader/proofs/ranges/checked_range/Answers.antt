use Rattle.fd_language.specs.declared.TheConstants.{INFINITY}
use Rattle.fd_language.specs.RangeVerdict.{verdict}
use Rattle.fd_language.proofs.Lemmas.{verdict_agrees}
use Rattle.listing_loader.proofs.ranges.checked_range.Goals as goal

pub returns : goal.returns
returns c = λ a. c.in_ok-refused-in-Err.ensures.offence (verdict INFINITY c.deref.result.now c.args.range) c.in-Err.ensures ((verdict_agrees INFINITY c.deref.result.now c.args.range).1 a)
