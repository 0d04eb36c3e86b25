-- What a term is, by how many parts it has.
use Rattle.std.proofs.Common.{◌≡◌, ℕ, suc, ◌<◌, ◌≤◌, Bool, true, false, cond, List, [], ◌∷◌, refl, sym, ap, subst, arith, length, true≢false}
use Rattle.std.specs.Prelude.{codes}
use Rattle.std.specs.Str.{bytes_eq}
use Rattle.fd_language.specs.Term.{Name}
use Rattle.fd_language.specs.PlacedTerm.{PlacedTerm, comp}
use Rattle.fd_model.specs.Refusals.{query, clause, directive, fact, form_of, part_count}
use Rattle.term_pool.specs.declared.TermId.{TermId}
use Rattle.term_pool.specs.PlacedTerms.{parts_by}
use Rattle.answer_check.specs.FlatForm.{conjuncts}
use Rattle.answer_check.specs.TermShapes.{IsQueryForm}
use Rattle.term_pool.proofs.Lemmas.{other_name}

pub count_parts : (by : TermId → PlacedTerm) (ts : List TermId) → part_count (parts_by by ts) ≡ length ts
count_parts by [] = refl
count_parts by (t ∷ ts) = ap suc (count_parts by ts)

-- ---- one goal

module _ (x : PlacedTerm) (f : Name) (p : ℕ) (by : TermId → PlacedTerm) (ts : List TermId) (e : x ≡ comp f p (parts_by by ts)) where
  pub many_alone : 3 ≤ length ts → conjuncts x ≡ x ∷ []
  many_alone h = subst (λ y. conjuncts y ≡ y ∷ []) (sym e) (go ts h) where
    go : (ts : List TermId) → 3 ≤ length ts → conjuncts (comp f p (parts_by by ts)) ≡ comp f p (parts_by by ts) ∷ []
    go [] h = absurd (omega arith)
    go (a ∷ []) h = absurd (omega arith)
    go (a ∷ b ∷ []) h = absurd (omega arith)
    go (a ∷ b ∷ d ∷ ts) h = refl

  pub few_alone : length ts < 2 → conjuncts x ≡ x ∷ []
  few_alone h = subst (λ y. conjuncts y ≡ y ∷ []) (sym e) (go ts h) where
    go : (ts : List TermId) → length ts < 2 → conjuncts (comp f p (parts_by by ts)) ≡ comp f p (parts_by by ts) ∷ []
    go [] h = refl
    go (a ∷ []) h = refl
    go (a ∷ b ∷ ts) h = absurd (omega arith)

  pub two_alone : 2 ≤ length ts → length ts < 3 → (f ≡ codes "," → ⊥) → conjuncts x ≡ x ∷ []
  two_alone h k n = subst (λ y. conjuncts y ≡ y ∷ []) (sym e) (go ts h k (other_name f (codes ",") n)) where
    go : (ts : List TermId) → 2 ≤ length ts → length ts < 3 → bytes_eq f (codes ",") ≡ false → conjuncts (comp f p (parts_by by ts)) ≡ comp f p (parts_by by ts) ∷ []
    go [] h k g = absurd (omega arith)
    go (a ∷ []) h k g = absurd (omega arith)
    go (a ∷ b ∷ []) h k g = rw g refl
    go (a ∷ b ∷ d ∷ ts) h k g = absurd (omega arith)

  -- ---- no query
  pub many_unasked : 2 ≤ length ts → IsQueryForm (form_of x) → ⊥
  many_unasked h = subst (λ y. IsQueryForm (form_of y) → ⊥) (sym e) (go ts h) where
    two : (h b t : PlacedTerm) (s : Bool) → IsQueryForm (cond s (clause h b) (fact t)) → ⊥
    two h b t true q = q
    two h b t false q = q

    go : (ts : List TermId) → 2 ≤ length ts → IsQueryForm (form_of (comp f p (parts_by by ts))) → ⊥
    go [] h = absurd (omega arith)
    go (a ∷ []) h = absurd (omega arith)
    go (a ∷ b ∷ []) h = two (by a) (by b) (comp f p (parts_by by (a ∷ b ∷ []))) (bytes_eq f (codes ":-"))
    go (a ∷ b ∷ d ∷ ts) h = λ q. q

  pub none_unasked : length ts < 1 → IsQueryForm (form_of x) → ⊥
  none_unasked h = subst (λ y. IsQueryForm (form_of y) → ⊥) (sym e) (go ts h) where
    go : (ts : List TermId) → length ts < 1 → IsQueryForm (form_of (comp f p (parts_by by ts))) → ⊥
    go [] h = λ q. q
    go (a ∷ ts) h = absurd (omega arith)

  pub one_unasked : 1 ≤ length ts → length ts < 2 → (f ≡ codes "?-" → ⊥) → IsQueryForm (form_of x) → ⊥
  one_unasked h k n = subst (λ y. IsQueryForm (form_of y) → ⊥) (sym e) (go ts h k (other_name f (codes "?-") n)) where
    one : (b t : PlacedTerm) (r s : Bool) → r ≡ false → IsQueryForm (cond r (query b) (cond s directive (fact t))) → ⊥
    one b t true s i q = true≢false i
    one b t false true i q = q
    one b t false false i q = q

    go : (ts : List TermId) → 1 ≤ length ts → length ts < 2 → bytes_eq f (codes "?-") ≡ false → IsQueryForm (form_of (comp f p (parts_by by ts))) → ⊥
    go [] h k g = absurd (omega arith)
    go (a ∷ []) h k g = one (by a) (comp f p (parts_by by (a ∷ []))) (bytes_eq f (codes "?-")) (bytes_eq f (codes ":-")) g
    go (a ∷ b ∷ ts) h k g = absurd (omega arith)
