use Rattle.std.proofs.Common.{rules, ◌≡◌, ◌==◌, ◌∙◌, Bool, ap, sym, cond, [], ◌∷◌}
use Rattle.std.specs.Prelude.{not, slice_index}
use Rattle.fd_model.specs.Queries.{is_shown}
use Rattle.term_pool.specs.Contents.{atom_name}
use Rattle.text_warnings.specs.Warnings.{warning, single}
use Rattle.text_warnings.specs.OccurrenceCounts.{single_met}
use Rattle.text_warnings.proofs.AddedWarnings.{shown_by}
use Rattle.text_warnings.proofs.singleton_variables.single_warning.Goals as goal

pub returns-then-starts_with-clause-is : goal.returns-then-starts_with-clause-is
returns-then-starts_with-clause-is c =
    let name = atom_name c.args.pool.now c.args.name in
    let first : c.starts_with.result ≡ (slice_index c.name_of.result.now 0 == 95) = search rules in
    let shown = ap is_shown (sym c.name_of.ensures.name) ∙ shown_by c.name_of.result.now c.starts_with.result first ∙ ap not c.if-starts_with.true in
    sym (ap (single_met name) c.in-Once.is ∙ ap (λ (b : Bool). cond b (warning c.in-Once.place (single name) ∷ []) []) shown)

pub returns-clause-is : goal.returns-clause-is
returns-clause-is c =
    let name = atom_name c.args.pool.now c.args.name in
    let first : c.starts_with.result ≡ (slice_index c.name_of.result.now 0 == 95) = search rules in
    let shown = ap is_shown (sym c.name_of.ensures.name) ∙ shown_by c.name_of.result.now c.starts_with.result first ∙ ap not c.if-starts_with.false in
    sym (ap (single_met name) c.in-Once.is ∙ ap (λ (b : Bool). cond b (warning c.in-Once.place (single name) ∷ []) []) shown)
