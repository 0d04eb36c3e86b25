-- Warnings behind others.
use Rattle.std.proofs.Common.{◌≡◌, ℕ, suc, ◌+◌, ◌<◌, Bool, true, cond, List, [], ◌∷◌, ◌++◌, Option, Some, None, length, map, take, get_or, refl, sym, ap, ◌∙◌, subst, arith}
use Rattle.std.proofs.Common.{append_assoc, append-nil, length-take-le}
use Rattle.std.specs.Prelude.{◌==◌, not, slice_index, All, IfSome}
use Rattle.std.specs.List.{flat_map}
use Rattle.std.specs.Option.{option_to_list}
use Rattle.std.proofs.lemmas.List.{take_more, map-append, length-map}
use Rattle.std.proofs.lemmas.List.Concat.{flat_map-append}
use Rattle.std.proofs.lemmas.List.Elements.{All-push}
use Rattle.fd_language.specs.Term.{Name}
use Rattle.fd_language.specs.PlacedTerm.{PlacedTerm}
use Rattle.fd_model.specs.Queries.{is_shown}
use Rattle.term_pool.specs.declared.AtomId.{AtomId}
use Rattle.term_pool.specs.Contents.{Contents, atom_name}
use Rattle.text_warnings.specs.Warnings as model
use Rattle.text_warnings.specs.Warnings.{places_of, single_at, singles_from}
use Rattle.text_warnings.specs.SilentLosses.{warned_if}
use Rattle.text_warnings.specs.OccurrenceCounts.{met_at, single_met, AreMetIn}
use Rattle.text_warnings.specs.WarningViews.{concern_in, warning_in, Adds, IsConcernWithin, IsWarningWithin}
use Rattle.text_warnings.specs.declared.Warning.{Warning}
use Rattle.text_warnings.specs.declared.singleton_variables.Met.{Met}
use Rattle.text_warnings.specs.declared.singleton_variables.Met.TheVariants.{Never}

pub adds_none : (c : Contents) (old new : List Warning) → new ≡ old → Adds c [] old new
adds_none c old new e = record { are = ap (map (warning_in c)) e ∙ sym (append-nil (map (warning_in c) old)); within = λ h. subst (All (IsWarningWithin c)) (sym e) h }

pub adds_then : (c : Contents) (xs ys : List model.Warning) (old mid new : List Warning) → Adds c xs old mid → Adds c ys mid new → Adds c (xs ++ ys) old new
adds_then c xs ys old mid new a b = record {
  are = b.are ∙ ap (λ l. l ++ ys) a.are ∙ append_assoc (map (warning_in c) old) xs ys;
  within = λ h. b.within (a.within h);
}

-- one more, or none
pub adds_some : (c : Contents) (ys : List model.Warning) (old new : List Warning) (o : Option Warning) → map (warning_in c) (option_to_list o) ≡ ys
    → IfSome o (IsWarningWithin c) → new ≡ old ++ option_to_list o → Adds c ys old new
adds_some c ys old new None e h is = record {
  are = ap (map (warning_in c)) is ∙ map-append (warning_in c) old [] ∙ ap (λ l. map (warning_in c) old ++ l) e;
  within = λ all. subst (All (IsWarningWithin c)) (sym (is ∙ append-nil old)) all;
}
adds_some c ys old new (Some w) e h is = record {
  are = ap (map (warning_in c)) is ∙ map-append (warning_in c) old (w ∷ []) ∙ ap (λ l. map (warning_in c) old ++ l) e;
  within = λ all. subst (All (IsWarningWithin c)) (sym is) (All-push (IsWarningWithin c) old w all h);
}

-- one at this place, where the test holds
pub adds_where : (c : Contents) (b : Bool) (w : Warning) (p : ℕ) (old new : List Warning) → b ≡ true → p ≡ w.place → IsConcernWithin c w.concern → new ≡ old ++ w ∷ []
    → Adds c (warned_if b p (concern_in c w.concern)) old new
adds_where c b w p old new holds at own e =
    let k = concern_in c w.concern in
    let is : warned_if b p k ≡ warning_in c w ∷ [] = ap (λ (x : Bool). cond x (model.warning p k ∷ []) []) holds ∙ ap (λ (q : ℕ). model.warning q k ∷ []) at in
    adds_some c (warned_if b p k) old new (Some w) (sym is) own e

-- A name is shown where it doesn't begin with `_`.
pub shown_by : (name : Name) (r : Bool) → r ≡ (slice_index name 0 == 95) → is_shown name ≡ not r
shown_by [] r e = sym (ap not e)
shown_by (c ∷ cs) r e = sym (ap not e)

single_of : (name : Name) (ps : List ℕ) → single_met name (met_at ps) ≡ single_at name ps
single_of name [] = refl
single_of name (p ∷ []) = refl
single_of name (p ∷ q ∷ ps) = refl

singles_push : (n : ℕ) (names : List Name) (name : Name) (t : PlacedTerm) → singles_from n (names ++ name ∷ []) t ≡ singles_from n names t ++ single_at name (places_of (n + length names) t)
singles_push n [] name t = append-nil (single_at name (places_of n t)) ∙ ap (λ k. single_at name (places_of k t)) (let e : n ≡ n + 0 = omega arith in e)
singles_push n (x ∷ names) name t =
    let e : suc n + length names ≡ n + suc (length names) = omega arith in
    ap (λ l. single_at x (places_of n t) ++ l) (singles_push (suc n) names name t ∙ ap (λ k. singles_from (suc n) names t ++ single_at name (places_of k t)) e)
    ∙ sym (append_assoc (single_at x (places_of n t)) (singles_from (suc n) names t) (single_at name (places_of (n + suc (length names)) t)))

-- The variables of a term, with one more.
pub singles_next : (c : Contents) (names : List AtomId) (met : List Met) (n : ℕ) (a d : AtomId) (m : Met) (old mid new : List Warning) (o : Option Warning) (t : PlacedTerm)
    → n < length names → length met ≡ length names → a ≡ get_or names n d → m ≡ get_or met n Never → AreMetIn t met
    → Adds c (singles_from 0 (map (atom_name c) (take n names)) t) old mid
    → map (warning_in c) (option_to_list o) ≡ single_met (atom_name c a) m → IfSome o (IsWarningWithin c) → new ≡ mid ++ option_to_list o
    → Adds c (singles_from 0 (map (atom_name c) (take (n + 1) names)) t) old new
singles_next c names met n a d m old mid new o t h long is at all before e own put =
    subst (λ l. Adds c l old new) (sym split)
    (adds_then c (singles_from 0 (map (atom_name c) (take n names)) t) (single_at (atom_name c a) (places_of n t)) old mid new before
    (adds_some c (single_at (atom_name c a) (places_of n t)) mid new o (e ∙ ap (single_met (atom_name c a)) (at ∙ all n (omega (arith, h, long))) ∙ single_of (atom_name c a) (places_of n t)) own put))
  where
    count : length (map (atom_name c) (take n names)) ≡ n
    count = grind (arith, length-map, length-take-le)

    split : singles_from 0 (map (atom_name c) (take (n + 1) names)) t ≡ singles_from 0 (map (atom_name c) (take n names)) t ++ single_at (atom_name c a) (places_of n t)
    split =
        ap (λ l. singles_from 0 l t)
        (ap (map (atom_name c)) (take_more names n d h) ∙ map-append (atom_name c) (take n names) (get_or names n d ∷ []) ∙ ap (λ x. map (atom_name c) (take n names) ++ atom_name c x ∷ []) (sym is))
        ∙ singles_push 0 (map (atom_name c) (take n names)) (atom_name c a) t
        ∙ ap (λ k. singles_from 0 (map (atom_name c) (take n names)) t ++ single_at (atom_name c a) (places_of k t))
        (let e : 0 + length (map (atom_name c) (take n names)) ≡ n = omega (arith, count) in e)

pub flat_map_push : {X A : Type 0} (f : X → List A) (xs : List X) (x : X) → flat_map f (xs ++ x ∷ []) ≡ flat_map f xs ++ f x
flat_map_push f xs x = flat_map-append f xs (x ∷ []) ∙ ap (λ l. flat_map f xs ++ l) (append-nil (f x))
