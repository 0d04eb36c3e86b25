-- The rows of the table, found by bisection.
use Rattle.std.proofs.Common.{◌≡◌, ◌∙◌, sym, ap, subst, ℕ, zero, suc, ◌<◌, ◌≤◌, List, [], ◌∷◌, length, get_or, Option, Some, None, Bool, true, false, cond}
use Rattle.std.proofs.Common.{refl, arith, add-one, Ordering, Less, Equal, Greater, Err}
use Rattle.std.specs.Prelude.{find, map, option_map}
use Rattle.std.specs.Cmp.Lexicographic.{slice_cmp}
use Rattle.std.specs.List.{list_any, HoldsAt}
use Rattle.std.specs.List.Sorted.{IsBinarySearchResult, IsNonDecreasingBy}
use Rattle.std.specs.Ordering.{nat_cmp, ordering_index, is_eq, is_lt}
use Rattle.std.specs.Cmp.{first_so, second_so}
use Rattle.std.specs.Str.{bytes_eq}
use Rattle.std.specs.Prelude.{nat_lt}
use Rattle.std.proofs.lemmas.Bool.{ltb-true, ltb-false}
use Rattle.std.proofs.lemmas.Cmp.{nat_list_cmp_total, alike_right}
use Rattle.std.proofs.lemmas.List.{get_or-map}
use Rattle.std.proofs.lemmas.List.Folds.{list_any_none}
use Rattle.std.proofs.lemmas.List.Sorted.{IsNonDecreasingBy-from_all_adjacent}
use Rattle.std.proofs.lemmas.Map.Text.{is_eq-slice_cmp}
use Rattle.std.proofs.lemmas.Slice.Eq.{bytes_eq-Decides}
use Rattle.fd_language.specs.Term.{Name}
use Rattle.fd_language.specs.Operators as language
use Rattle.fd_language.specs.Operators.{infix_of, prefix_of, infix_operators, prefix_operators}
use Rattle.name_syntax.specs.declared.operators.Row.{Row}
use Rattle.name_syntax.specs.Operators.{operator_of, name_of, is_named, rise, have_all, AreRows}

abbrev compare : Name → Name → Ordering
compare = slice_cmp nat_cmp

-- where a row stands to a name
abbrev pub beside : Name → Row → Ordering
beside name r = slice_cmp nat_cmp (name_of r) name

-- ---- the rows rise, as a bisection asks

less : (o : Ordering) → is_lt o ≡ true → o ≡ Less
less Less e = refl
less Equal e = absurd cc
less Greater e = absurd cc

index_within : (o : Ordering) → ordering_index o ≤ 2
index_within Less = omega arith
index_within Equal = omega arith
index_within Greater = omega arith

index_rises : (x y k : Name) → compare x y ≡ Less → ordering_index (compare x k) ≤ ordering_index (compare y k)
index_rises x y k h = go (compare y k) refl
  where
    go : (o : Ordering) → compare y k ≡ o → ordering_index (compare x k) ≤ ordering_index o
    go Less e = let least : ordering_index (compare x k) ≡ 0 = ap ordering_index (nat_list_cmp_total.trans x y k h e) in omega (arith, least)
    go Equal e = let least : ordering_index (compare x k) ≡ 0 = ap ordering_index (sym (alike_right nat_list_cmp_total y k x e) ∙ h) in omega (arith, least)
    go Greater e = index_within (compare x k)

adjacent : (rs : List Row) → rise rs ≡ true → (k : ℕ) (d : Row) → suc k < length rs → compare (name_of (get_or rs k d)) (name_of (get_or rs (suc k) d)) ≡ Less
adjacent [] e k d h = absurd (omega arith)
adjacent (r ∷ []) e k d h = absurd (omega arith)
adjacent (r ∷ s ∷ rs) e zero d h = less (compare (name_of r) (name_of s)) (first_so (is_lt (compare (name_of r) (name_of s))) (rise (s ∷ rs)) e)
adjacent (r ∷ s ∷ rs) e (suc k) d h = adjacent (s ∷ rs) (second_so (is_lt (compare (name_of r) (name_of s))) (rise (s ∷ rs)) e) k d (omega arith)

rising : (rs : List Row) → rise rs ≡ true → (name : Name) → IsNonDecreasingBy (λ r. ordering_index (compare (name_of r) name)) rs
rising rs e name =
    IsNonDecreasingBy-from_all_adjacent (λ r. ordering_index (compare (name_of r) name)) rs
    (λ k d h. rw add-one (index_rises (name_of (get_or rs k d)) (name_of (get_or rs (suc k) d)) name (adjacent rs e k d (omega arith))))

-- ---- a name that is found

same_name : (x y : Name) → compare x y ≡ Equal → x ≡ y
same_name x y e = (bytes_eq-Decides x y).0 (sym (is_eq-slice_cmp x y) ∙ ap is_eq e)

at : {X : Type 0} (f g : Row → Option X) (rs : List Row) (i : ℕ) (d : Row) → i < length rs → map f rs ≡ map g rs → f (get_or rs i d) ≡ g (get_or rs i d)
at f g rs i d h e = sym (get_or-map f rs i d None h) ∙ ap (λ xs. get_or xs i None) e ∙ get_or-map g rs i d None h

module _ (rs : List Row) (are : AreRows rs) (name : Name) where
  module _ (i : ℕ) (d : Row) (within : i < length rs) (equal : HoldsAt (λ r. compare (name_of r) name ≡ Equal) rs i) where
    named : name_of (get_or rs i d) ≡ name
    named = same_name (name_of (get_or rs i d)) name (equal d)

    pub found_infix : option_map (operator_of name) (get_or rs i d).roles.infix ≡ infix_of name
    found_infix = subst (λ (n : Name). option_map (operator_of n) (get_or rs i d).roles.infix ≡ infix_of n) named
        (at (λ r. option_map (operator_of (name_of r)) r.roles.infix) (λ r. infix_of (name_of r)) rs i d within are.between)

    pub found_prefix : option_map (operator_of name) (get_or rs i d).roles.prefix ≡ prefix_of name
    found_prefix = subst (λ (n : Name). option_map (operator_of n) (get_or rs i d).roles.prefix ≡ prefix_of n) named
        (at (λ r. option_map (operator_of (name_of r)) r.roles.prefix) (λ r. prefix_of (name_of r)) rs i d within are.before)

  -- ---- a name that isn't

  module _ (i : ℕ) (parted : IsBinarySearchResult (λ r. compare (name_of r) name) rs (Err i)) where
    other : (o : Ordering) (x : Name) → compare x name ≡ o → is_eq o ≡ false → bytes_eq x name ≡ false
    other o x e h = sym (is_eq-slice_cmp x name) ∙ ap is_eq e ∙ h

    none_named : list_any (is_named name) rs ≡ false
    none_named = list_any_none (is_named name) rs (λ k d h. go (nat_lt k i) k d refl h)
      where
        go : (b : Bool) (k : ℕ) (d : Row) → nat_lt k i ≡ b → k < length rs → is_named name (get_or rs k d) ≡ false
        go true k d e h = other Less (name_of (get_or rs k d)) ((parted (rising rs are.ordered name)).0 k d (omega arith) (ltb-true k i e)) refl
        go false k d e h = other Greater (name_of (get_or rs k d)) ((parted (rising rs are.ordered name)).1 k d (ltb-false k i e) h) refl

    absent : (fs : List language.Operator) → have_all fs rs ≡ true → find (λ f. bytes_eq f.name name) fs ≡ None
    absent [] e = refl
    absent (f ∷ fs) e = go (bytes_eq f.name name) refl (absent fs (second_so (list_any (is_named f.name) rs) (have_all fs rs) e))
      where
        go : (b : Bool) → bytes_eq f.name name ≡ b → find (λ g. bytes_eq g.name name) fs ≡ None → cond b (Some f) (find (λ g. bytes_eq g.name name) fs) ≡ None
        go true h later =
            let same : f.name ≡ name = (bytes_eq-Decides f.name name).0 h in
            let there : list_any (is_named name) rs ≡ true = subst (λ (n : Name). list_any (is_named n) rs ≡ true) same (first_so (list_any (is_named f.name) rs) (have_all fs rs) e) in
            let not_there = none_named in
            absurd cc
        go false h later = later

    pub absent_infix : None ≡ infix_of name
    unfolding infix_of
    absent_infix = sym (absent infix_operators are.all_between)

    pub absent_prefix : None ≡ prefix_of name
    unfolding prefix_of
    absent_prefix = sym (absent prefix_operators are.all_before)
