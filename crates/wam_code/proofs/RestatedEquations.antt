-- Equations that are restated, beside those that are made already.
use Rattle.std.proofs.Common.{ℕ, ◌<◌, List, ◌++◌, sym, ◌∙◌}
use Rattle.fd_language.specs.Unifier.{Equation}
use Rattle.fd_language.proofs.Lemmas.{join_both, split_both}
use Rattle.branch_meaning.specs.Heap.{EquationsOf}
use Rattle.branch_meaning.specs.EquivalentEquations.{SaysSame}
use Rattle.branch_meaning.proofs.Lemmas.{agree_each}

-- For a machine: where the equations made and those still to be made say what the branch's do, they still do when the latter are restated. P are the variables
-- of the former and of the branch.
pub still_says_same : (P : ℕ → Type 0) (fresh : ℕ) (done todo ds es : List Equation) → ((v : ℕ) → v < fresh → P v) → EquationsOf P done → SaysSame P ds todo
    → SaysSame (λ v. v < fresh) (done ++ todo) es → SaysSame (λ v. v < fresh) (done ++ ds) es
still_says_same P fresh done todo ds es all below s h = record {
  there = λ u g. (let parts = split_both u done ds g in h.there u (join_both u done todo parts.0 (s.there u parts.1)));
  back = λ u g.
      let w = h.back u g in
      let parts = split_both w.0 done todo w.1 in
      let r = s.back w.0 parts.1 in
      (r.0, join_both r.0 done ds (agree_each P w.0 r.0 (λ x m. sym (r.2 x m)) done below parts.0) r.1, λ x m. r.2 x (all x m) ∙ w.2 x m);
}
