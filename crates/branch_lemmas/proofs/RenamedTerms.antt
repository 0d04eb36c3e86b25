-- Terms of a clause, whose variables stand behind a branch's.
use Rattle.std.proofs.Common.{ℕ, ◌+◌, ◌<◌, arith}
use Rattle.fd_language.specs.Term.{Terms, Var, no_terms, term, apply_all}
use Rattle.fd_language.specs.Variables.{TermsBelow}
use Rattle.fd_model.specs.Renaming.{rename_term}
use Rattle.fd_model.proofs.Lemmas.{term_renamed}
use Rattle.branch_meaning.specs.Heap.{AllOf}
use Rattle.branch_meaning.proofs.Lemmas.{of_below}

pub renamed_all : (n v : ℕ) (us : Terms) → TermsBelow v us → AllOf (λ x. x < n + v) (apply_all (λ x. Var (n + x)) us)
renamed_all n v no_terms b = tt
renamed_all n v (term u us) b = (of_below (n + v) (rename_term (λ x. n + x) u) (term_renamed v (n + v) (λ x. n + x) (λ x l. omega (arith, l)) u b.0), renamed_all n v us b.1)
