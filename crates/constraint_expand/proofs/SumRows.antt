-- The rows of sums, made one sum after another.
use Rattle.std.proofs.Common.{◌≡◌, ℕ, ◌+◌, ◌<◌, true, ℤ, List, [], ◌∷◌, ◌++◌, map, drop, get_or, length, refl, ap, sym, ◌∙◌, subst, arith, to_z, of_z}
use Rattle.std.specs.Int.{w64}
use Rattle.std.proofs.lemmas.Int.{to_z-of_z}
use Rattle.std.proofs.lemmas.List.{drop_more}
use Rattle.fd_language.specs.Lists.{Each}
use Rattle.fd_language.specs.Range.{Indexical}
use Rattle.fd_language.specs.RangeVerdict.{is_accepted}
use Rattle.fd_language.specs.declared.TheConstants.{INFINITY}
use Rattle.fd_model.specs.Linear.{Linear, IsAtMost}
use Rattle.fd_model.specs.LinearRows.{rows_behind}
use Rattle.fd_model.specs.Splitting.{sum_rows}
use Rattle.fd_model.proofs.Lemmas.{posted_left, posted_right}
use Rattle.linear_forms.specs.declared.Linear as code
use Rattle.linear_forms.specs.LinearForm.{form_of}
use Rattle.linear_forms.specs.IntegerSums.{AreIntegers, IsInside}
use Rattle.linear_forms.proofs.Lemmas.{integer_fits}
use Rattle.constraint_expand.specs.declared.rows.Rows.{Rows}
use Rattle.constraint_expand.specs.declared.sums.Sums.{Sums}
use Rattle.constraint_expand.specs.Pieces.{rows_ahead, AreReady}
use Rattle.constraint_expand.specs.Posts.{Accepted}
use Rattle.constraint_expand.specs.Sums.{forms_ahead, AreReadySums, Loads}

module _ (s : Sums) (f : code.Linear) (ready : AreReadySums s) (more : s.next < length s.forms.items) (is : f ≡ get_or s.forms.items s.next f) where
  abbrev left : List Linear
  left = map form_of (drop (s.next + 1) s.forms.items)

  ahead : forms_ahead s ≡ form_of f ∷ left
  ahead = ap (map form_of) (drop_more s.forms.items s.next f more ∙ ap (λ (g : code.Linear). g ∷ drop (s.next + 1) s.forms.items) (sym is))

  inside : IsInside (form_of f) × Each IsInside left
  inside = subst (Each IsInside) ahead ready.inside

  accepted : Accepted (rows_behind IsAtMost f.constant [] f.terms.items ++ sum_rows left)
  accepted = subst (λ (ls : List Linear). Accepted (sum_rows ls)) ahead ready.accepted

  passed_constant : to_z w64 (of_z w64 f.constant) ≡ f.constant
  passed_constant = to_z-of_z w64 f.constant (integer_fits f.constant inside.0.1)

  pub form_inside : (ts : List (ℕ × ℤ)) → ts ≡ f.terms.items → AreIntegers ts
  form_inside ts e = subst AreIntegers (sym e) inside.0.0

  pub form_accepted : (ts : List (ℕ × ℤ)) → ts ≡ f.terms.items → Accepted (rows_behind IsAtMost (to_z w64 (of_z w64 f.constant)) [] ts)
  form_accepted ts e =
      let same : rows_behind IsAtMost f.constant [] f.terms.items ≡ rows_behind IsAtMost (to_z w64 (of_z w64 f.constant)) [] ts = λ i. rows_behind IsAtMost (sym passed_constant i) [] (sym e i) in
      subst Accepted same (posted_left (λ p. is_accepted INFINITY p.range ≡ true) (rows_behind IsAtMost f.constant [] f.terms.items) (sum_rows left) accepted)

  module _ (new : Rows) (ts : List (ℕ × ℤ)) (e : ts ≡ f.terms.items) (rows : rows_ahead new ≡ rows_behind IsAtMost (to_z w64 (of_z w64 f.constant)) [] ts) where
    abbrev after : Sums
    after = record { current = new; forms = s.forms; next = s.next + 1 }

    pub loads : rows_ahead s.current ≡ [] → Loads s after
    loads over = record {
      forms = refl;
      next = omega arith;
      ahead =
          (λ i. (rows ∙ (λ j. rows_behind IsAtMost (passed_constant j) [] (e j))) i ++ sum_rows left)
          ∙ (ap sum_rows (sym ahead) ∙ ap (λ (ps : List Indexical). ps ++ sum_rows (forms_ahead s)) (sym over));
    }

    pub loads_ready : AreReady new → AreReadySums after
    loads_ready r = record {
      current = r;
      inside = inside.1;
      accepted = posted_right (λ p. is_accepted INFINITY p.range ≡ true) (rows_behind IsAtMost f.constant [] f.terms.items) (sum_rows left) accepted;
    }
