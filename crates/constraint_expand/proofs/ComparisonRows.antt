-- Comparisons as rows.
use Rattle.std.proofs.Common.{◌≡◌, ℕ, suc, Bool, true, false, cond, ℤ, pos, List, [], ◌∷◌, Result, Ok, refl, sym, ap, ◌∙◌}
use Rattle.fd_language.specs.Term.{Term}
use Rattle.fd_model.specs.declared.kinds.QueryFault.{QueryFault}
use Rattle.fd_model.specs.declared.kinds.Relation.{Relation}
use Rattle.fd_model.specs.Linear as linear
use Rattle.fd_model.specs.Linear.{in_integers, scaled, of_one, collect, normal, normal_form, turned, comparison}
use Rattle.fd_model.specs.LinearRows as rows
use Rattle.fd_model.specs.ConstraintExpansion.{compare}
use Rattle.constraint_expand.proofs.DifferentVariables.{made}

pub compared_is : (r : Relation) (s t : Term) (n : ℕ) (l m : linear.Linear) → collect s t ≡ Ok l → normal_form r l ≡ Ok m
    → compare r s t n ≡ Ok (rows.linear_rows (comparison r) m.products m.constant n)
compared_is r s t n l m e f =
    ap (λ q. of_one (λ l. Ok (rows.linear_rows (comparison r) l.products l.constant n)) (of_one (normal_form r) q)) e
    ∙ ap (of_one (λ l. Ok (rows.linear_rows (comparison r) l.products l.constant n))) f

pub compared_expands : (d : Result rows.Expansion QueryFault) (y x : rows.Expansion) → d ≡ Ok y → y.equated ≡ [] → x.equated ≡ [] → x.ranges ≡ y.ranges → x.fresh ≡ y.fresh → d ≡ Ok x
compared_expands d y x e none f r n = e ∙ ap Ok (made x y.equated y.ranges y.fresh (f ∙ sym none) r n)

pub equated_none : (k : linear.Comparison) (ts : List (ℕ × ℤ)) (c : ℤ) (n : ℕ) → (rows.linear_rows k ts c n).equated ≡ []
equated_none k [] c n = by (rows.compares k (pos 0) c) where
  by : (b : Bool) → (let x : rows.Expansion = cond b (record { equated = []; ranges = []; fresh = n })
      (record { equated = []; ranges = record { target = n; range = rows.no_number } ∷ []; fresh = suc n }) in x.equated) ≡ []
  by true = refl
  by false = refl
equated_none k (t ∷ ts) c n = refl
