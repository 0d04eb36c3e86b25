-- Words that name files.
use Rattle.std.proofs.Common.{◌≡◌, ◌∙◌, ℕ, ◌<◌, Bool, true, false, not, List, length, map, sym, ap, arith}
use Rattle.std.specs.Prelude.{◌==◌, ◌&&◌}
use Rattle.std.specs.List.{list_all}
use Rattle.std.proofs.lemmas.Bool.Decides.{nat_tests}
use Rattle.std.proofs.lemmas.List.{length-map}
use Rattle.std.proofs.lemmas.List.Folds.{list_all-map}
use Rattle.clpwhere.specs.Words.{are_file_names, is_file_name}

is_zero : (n : ℕ) → n ≡ 0 → (n == 0) ≡ true
is_zero n e = grind (arith, nat_tests)

not_zero : (n : ℕ) → 0 < n → (n == 0) ≡ false
not_zero n l = grind (arith, nat_tests)

pub names_none : {X : Type 0} (h : X → List ℕ) (ws : List X) → length ws ≡ 0 → false ≡ are_file_names (map h ws)
names_none {X} h ws e = sym (ap (λ (t : Bool). not t && list_all is_file_name (map h ws)) (is_zero (length (map h ws)) (length-map ws h ∙ e)))

pub names_all : {X : Type 0} (h : X → List ℕ) (ws : List X) (r : Bool) → r ≡ list_all (λ w. is_file_name (h w)) ws → 0 < length ws → r ≡ are_file_names (map h ws)
names_all {X} h ws r e s =
    let some : 0 < length (map h ws) = omega (arith, s, length-map ws h) in
    e ∙ sym (list_all-map is_file_name h ws) ∙ sym (ap (λ (t : Bool). not t && list_all is_file_name (map h ws)) (not_zero (length (map h ws)) some))
