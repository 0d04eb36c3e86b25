use Rattle.code_meaning.proofs.AnswerLines.{run_any}
use Rattle.code_meaning.proofs.laws.answers_are_told.Goals as goal

pub returns : goal.returns
returns c = λ M N area prog q name h valid qs G model most at c stack cs n es r f ds cells counted. run_any M N area prog q name h valid qs G model most at c stack cs n es r f ds cells counted
