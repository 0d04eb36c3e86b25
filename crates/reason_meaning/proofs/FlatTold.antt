-- What is told of a flat query.
use Rattle.std.proofs.Common.{◌≡◌, ℕ, zero, suc, Bool, true, false, List, [], ◌∷◌, ◌++◌, length, map, refl, sym, subst}
use Rattle.std.proofs.lemmas.Bool.{true≢false}
use Rattle.fd_language.specs.Term.{Term}
use Rattle.fd_model.specs.declared.kinds.Order.{Order}
use Rattle.fd_model.specs.Goal.{Goal, Label}
use Rattle.reason_meaning.specs.FewerGoals.{is_kept}
use Rattle.reason_meaning.specs.Laws.{FlatReasons}
use Rattle.reason_meaning.specs.Staying.{either, staying, fixed, fixed_from, is_told_to_stay, with_domain, domain_of}
use Rattle.reason_meaning.specs.ToldLaws.{FlatTold}

-- the labelling behind the others stays
last_fixed : (o : Order) (l : Term) (xs : List ℕ) (gs : List Goal) → is_kept (fixed_from xs (gs ++ Label o l ∷ [])) (length gs) ≡ true
last_fixed o l xs [] = refl
last_fixed o l xs (g ∷ gs) = last_fixed o l (with_domain (domain_of g) xs) gs

-- what one list keeps is kept
either_first : (js ks : List Bool) (i : ℕ) → is_kept js i ≡ true → is_kept (either js ks) i ≡ true
either_first [] ks i h = h
either_first (j ∷ js) [] i h = h
either_first (true ∷ js) (k ∷ ks) zero h = refl
either_first (false ∷ js) (k ∷ ks) zero h = absurd (true≢false (sym h))
either_first (j ∷ js) (k ∷ ks) (suc i) h = either_first js ks i h

pub flat_told : FlatReasons → FlatTold
flat_told reasons M N n prog q c ts src gs o ms f ks out positive within below shown r =
    let last : is_kept (fixed q.goals) (length gs) ≡ true = subst (λ hs. is_kept (fixed hs) (length gs) ≡ true) (sym f.goals) (last_fixed o f.list [] gs) in
    reasons M N n prog q gs o ms f (staying c ts q.goals) ks positive within below shown (either_first (fixed q.goals) (map (is_told_to_stay c) ts) (length gs) last) r.reason
