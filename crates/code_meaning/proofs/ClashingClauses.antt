-- A clause whose first argument clashes with what the goal's first cell shows may be left out: its branch has no model.
use Rattle.std.proofs.Common.{◌≡◌, ℕ, suc, ◌+◌, ◌<◌, true, List, ◌∷◌, ◌++◌, refl, ap, sym, ◌∙◌, subst, inl, inr, arith}
use Rattle.fd_language.specs.Term.{Term, Terms, Var, Int, Atom, Comp, no_terms, term, Substitution, apply, apply_all, term_count}
use Rattle.fd_language.specs.Family.{Family}
use Rattle.fd_language.specs.Range.{Indexical}
use Rattle.fd_model.specs.Children.{by_clause, fits_head, paired}
use Rattle.fd_model.specs.ConstraintExpansion.{arguments}
use Rattle.fd_model.specs.Goal.{Clause, Branch}
use Rattle.fd_model.specs.Models.{IsModel}
use Rattle.fd_model.specs.Renaming.{rename_term}
use Rattle.fd_model.proofs.Lemmas.{split_both, weaker}
use Rattle.heap_cells.specs.Cells.{Cells}
use Rattle.heap_cells.specs.Terms.{Naming, term_of}
use Rattle.branch_meaning.specs.Heap.{after}
use Rattle.branch_meaning.proofs.Lemmas.{after_is, agree}
use Rattle.branch_lemmas.proofs.Lemmas.{kept_barred}
use Rattle.wam_code.specs.declared.parts.Entry.{Entry}
use Rattle.wam_code.specs.Area.{Area, name_of}
use Rattle.wam_code.specs.Places.{Depth, made}
use Rattle.wam_code.specs.Tries.{Shape, shape_of, Clash, ClashFirst}
use Rattle.code_meaning.specs.Registers.{Registers, Saved, AreHeld}
use Rattle.code_meaning.specs.StateMeaning.{IsCalling}
use Rattle.code_meaning.specs.ClauseChoices.{shape_in, ShowsFirst}
use Rattle.code_meaning.proofs.ClauseEntry.{fits_count, fits_equations}

pub count_applied : (s : Substitution) (ts : Terms) → term_count (apply_all s ts) ≡ term_count ts
count_applied s no_terms = refl
count_applied s (term t ts) = ap suc (count_applied s ts)

clash_none : (w u : Term) (r v : Substitution) → Clash (shape_of w) u → apply r w ≡ apply v u → ⊥
clash_none (Var x) (Var y) r v k e = k
clash_none (Var x) (Int z) r v k e = k
clash_none (Var x) (Atom a) r v k e = k
clash_none (Var x) (Comp g us) r v k e = k
clash_none (Int y) (Var x) r v k e = k
clash_none (Int y) (Int z) r v k e = k (cc)
clash_none (Int y) (Atom a) r v k e = absurd (cc)
clash_none (Int y) (Comp g us) r v k e = absurd (cc)
clash_none (Atom a) (Var x) r v k e = k
clash_none (Atom a) (Int z) r v k e = absurd (cc)
clash_none (Atom a) (Atom b) r v k e = k (cc)
clash_none (Atom a) (Comp g us) r v k e = absurd (cc)
clash_none (Comp f ts) (Var x) r v k e = k
clash_none (Comp f ts) (Int z) r v k e = absurd (cc)
clash_none (Comp f ts) (Atom a) r v k e = absurd (cc)
clash_none (Comp f ts) (Comp g us) r v (inl k) e = k (cc)
clash_none (Comp f ts) (Comp g us) r v (inr k) e = let parts : apply_all r ts ≡ apply_all v us = cc in k (sym (count_applied r ts) ∙ ap term_count parts ∙ count_applied v us)

module _ (M N : ℕ) (marks : List ℕ) (noted : Depth) (area : Area) (shown : List ℕ) (name : Naming) (h : Cells) (qs : List Indexical) (e : Entry) (c : Registers)
    (stack : List Saved) (b : Branch) (m : IsCalling M N marks noted area shown name h qs e c stack b) (s : Shape) (shows : ShowsFirst name h c.x s) where
  pub clash_gone : (k : Clause) → fits_head (made (name_of area e.name) m.ts) k.head ≡ true → ClashFirst s (arguments k.head) → (S : Family)
      → IsModel M N (by_clause noted.branches b (made (name_of area e.name) m.ts) m.rest k).equations b.posted S → ⊥
  clash_gone k fits clash S g =
      go m.ts (arguments k.head) (fits_count (name_of area e.name) m.ts k.head fits) m.held clash
      (subst (λ l. IsModel M N (l ++ b.equations) b.posted S) (fits_equations (λ x. b.fresh + x) (name_of area e.name) m.ts k.head fits) g)
    where
      go : (ts us : Terms) → term_count ts ≡ term_count us → AreHeld name h m.look (λ v. v < b.fresh) 1 c.x ts → ClashFirst s us
          → IsModel M N (paired ts (apply_all (λ x. Var (b.fresh + x)) us) ++ b.equations) b.posted S → ⊥
      go ts no_terms w a n i = n
      go no_terms (term u us) w a n i = absurd (omega (arith, w))
      go (term t ts) (term u us) w a n i =
          let r : Term = rename_term (λ x. b.fresh + x) u in
          let one = a.0.2 in
          let clash : Clash (shape_of (term_of name h a.0.0)) u = subst (λ l. Clash l u) (shows ∙ ap (shape_in name h) a.0.1) n in
          let rest = paired ts (apply_all (λ x. Var (b.fresh + x)) us) in
          kept_barred M N h qs b.equations b.posted (λ v. v < b.fresh) m.look m.kept t r
          (λ back v known q. absurd (clash_none (term_of name h a.0.0) u back (after v (λ x. Var (b.fresh + x))) clash
          (ap (apply back) (sym one.value) ∙ sym (after_is back m.look t) ∙ agree (λ v. v < b.fresh) (after back m.look) v known t one.known ∙ q ∙ sym (after_is v (λ x. Var (b.fresh + x)) u))))
          S (weaker M N (record { left = t; right = r } ∷ (rest ++ b.equations)) (record { left = t; right = r } ∷ b.equations) b.posted S (λ v j. (j.0, (split_both v rest b.equations j.1).1)) i)
