-- A sentence without a wide term, by its form.
use Rattle.std.proofs.Common.{◌≡◌, ℕ, Option, Some, None, sym, ap, ◌∙◌, subst}
use Rattle.fd_language.specs.PlacedTerm.{PlacedTerm}
use Rattle.fd_language.specs.declared.TheConstants.{INFINITY}
use Rattle.fd_model.specs.Refusals as model
use Rattle.fd_model.specs.Refusals.{or_later, too_wide, form_of, clause_refusal, sentence_refusal}
use Rattle.term_pool.specs.PlacedTerms.{placed_of}
use Rattle.term_reader.specs.declared.reader.Sentence.{Sentence}
use Rattle.term_reader.specs.declared.reader.Sentences.{Sentences}
use Rattle.clause_check.specs.declared.check.Parts.{Parts}
use Rattle.clause_check.specs.declared.faults.Fault.{Fault}
use Rattle.clause_check.specs.declared.terms.SentenceForm.{SentenceForm}
use Rattle.clause_check.specs.Causes.{IsWideRefusal, RefusedBy}
use Rattle.clause_check.specs.Parts.{AddsForm, AddsAs, AddsSentence, names_in}
use Rattle.clause_check.specs.PartVerdicts.{RefusesAs, RefusesSentence}
use Rattle.clause_check.specs.Terms.{terms_of, form_in, IsWidePlace}

-- a sentence with one is refused at its smallest place
pub refused_wide : (N : ℕ) (s : Sentences) (x : Sentence) (o : Option ℕ) → IsWidePlace (placed_of s.pool x.term) o → (e : Fault) → IsWideRefusal o e → RefusesSentence N s x e
refused_wide N s x None wide e h = absurd h
refused_wide N s x (Some p) wide e h =
    let t = placed_of s.pool x.term in
    subst (RefusesSentence N s x) (sym h) (tt, ap (λ (q : Option ℕ). or_later (too_wide q) (clause_refusal INFINITY N (terms_of s) t (form_of t))) (sym wide))

module _ (N : ℕ) (s : Sentences) (x : Sentence) (o : Option ℕ) (found form : SentenceForm) (wide : IsWidePlace (placed_of s.pool x.term) o) (none : o ≡ None)
    (is : form_of (placed_of s.pool x.term) ≡ form_in s.pool found) (same : found ≡ form) where
  abbrev t : PlacedTerm
  t = placed_of s.pool x.term

  formed : form_of t ≡ form_in s.pool form
  formed = is ∙ ap (form_in s.pool) same

  -- its form decides
  by_form : sentence_refusal INFINITY N (terms_of s) t ≡ clause_refusal INFINITY N (terms_of s) t (form_in s.pool form)
  by_form =
      ap (λ (p : Option ℕ). or_later (too_wide p) (clause_refusal INFINITY N (terms_of s) t (form_of t))) (sym wide ∙ none)
      ∙ ap (clause_refusal INFINITY N (terms_of s) t) formed

  pub added_as : (old new : Parts) → AddsAs N s old new x form → AddsSentence N s old new x
  added_as old new h = record {
    accepted = by_form ∙ h.accepted;
    adds = subst (AddsForm N s old new (names_in s.pool x) t) (sym formed) h;
  }

  pub refused_as : (e : Fault) → RefusesAs N s x form e → RefusesSentence N s x e
  refused_as e h = subst (λ (r : Option model.Refusal). RefusedBy s.pool r e) (sym by_form) h
