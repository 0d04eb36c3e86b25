-- Rows of comparisons and of constraints on lists: their fresh variables, how many there can be, and the integers of those that are equated.
use Rattle.std.proofs.Common.{◌≡◌, ℕ, suc, ◌+◌, ◌≤◌, Bool, true, false, cond, ℤ, pos, List, [], ◌∷◌, length, Ok, Err, refl, ap, sym, subst, arith}
use Rattle.std.specs.Prelude.{codes, FitsSigned}
use Rattle.std.specs.Int.{w64}
use Rattle.std.proofs.lemmas.List.Elements.{All-nil, All-cons}
use Rattle.std.specs.Str.{bytes_eq}
use Rattle.fd_language.specs.Term.{Term, Terms, Var, Int, Atom, Comp, no_terms, term}
use Rattle.fd_model.specs.declared.kinds.ConstraintKind.{ConstraintKind}
use Rattle.fd_model.specs.declared.kinds.ConstraintKind.TheVariants.{Compare, AllDifferent, Element, Atmost}
use Rattle.fd_model.specs.ConstraintLaws.{cells}
use Rattle.fd_model.specs.ConstraintExpansion.{basic}
use Rattle.fd_model.specs.Linear.{Comparison, IsAtMost, comparison, normal_form, collect, of_one}
use Rattle.fd_model.specs.LinearRows.{Expansion, linear_rows, compares, no_number}
use Rattle.fd_model.specs.ListRows.{different_rows, units}
use Rattle.fd_model.specs.Members.{Member, Open, Known, walk, as_member, prepend, after, placed, equated_from, fresh_after}
use Rattle.fd_model.proofs.Lemmas.{one_ok, both_ok, test_ok, element_ok, atmost_ok, members_count}
use Rattle.term_pool.specs.PoolInvariant.{IsStorable, AreStorable}
use Rattle.branch_state.specs.Constraints.{AreFrom, AreWords}

-- the equated variables of members are the next ones
pub placed_from : (n : ℕ) (ms : List Member) → AreFrom n (equated_from n ms)
placed_from n [] = tt
placed_from n (Open x ∷ ms) = placed_from n ms
placed_from n (Known z ∷ ms) = (refl, placed_from (suc n) ms)

linear_none : (k : Comparison) (ts : List (ℕ × ℤ)) (c : ℤ) (n : ℕ) → (linear_rows k ts c n).equated ≡ []
linear_none k [] c n = by_test (compares k (pos 0) c) where
  by_test : (b : Bool) → (cond {A = Expansion} b (record { equated = []; ranges = []; fresh = n })
      (record { equated = []; ranges = record { target = n; range = no_number } ∷ []; fresh = suc n })).equated ≡ []
  by_test true = refl
  by_test false = refl
linear_none k (t ∷ ts) c n = refl

linear_end : (k : Comparison) (ts : List (ℕ × ℤ)) (c : ℤ) (n : ℕ) → (linear_rows k ts c n).fresh ≤ suc n
linear_end k [] c n = by_test (compares k (pos 0) c) where
  by_test : (b : Bool) → (cond {A = Expansion} b (record { equated = []; ranges = []; fresh = n })
      (record { equated = []; ranges = record { target = n; range = no_number } ∷ []; fresh = suc n })).fresh ≤ suc n
  by_test true = omega arith
  by_test false = omega arith
linear_end k (t ∷ ts) c n = omega arith

-- The equated variables of a constraint's row are the next ones.
pub basic_next : (kind : ConstraintKind) (ts : Terms) (n : ℕ) (x : Expansion) → basic kind ts n ≡ Ok x → AreFrom n x.equated
basic_next (Compare r) (term s (term t no_terms)) n x h =
    let k = one_ok (λ l. Ok (linear_rows (comparison r) l.products l.constant n)) (of_one (normal_form r) (collect s t)) x h in
    let e : linear_rows (comparison r) k.0.products k.0.constant n ≡ x = cc (k.2) in
    subst (λ y. AreFrom n y.equated) e (subst (AreFrom n) (sym (linear_none (comparison r) k.0.products k.0.constant n)) tt)
basic_next AllDifferent (term l no_terms) n x h =
    let k = one_ok (λ ms. Ok (different_rows ms n)) (walk as_member l) x h in
    let e : different_rows k.0 n ≡ x = cc (k.2) in
    subst (λ y. AreFrom n y.equated) e (placed_from n k.0)
basic_next Element (term i (term l (term v no_terms))) n x h =
    let k = element_ok i l v n x h in
    subst (λ y. AreFrom n y.equated) k.rows (placed_from n (k.index ∷ k.value ∷ []))
basic_next Atmost (term m (term l (term v no_terms))) n x h =
    let k = atmost_ok m l v n x h in
    subst (λ y. AreFrom n y.equated) k.rows (placed_from n k.members)
basic_next _ _ n x h = absurd (cc)

-- ---- how many there can be

pub after_end : (n : ℕ) (ms : List Member) → fresh_after n ms ≤ n + length ms
after_end n [] = omega arith
after_end n (Open x ∷ ms) = let l = after_end n ms in omega (arith, l)
after_end n (Known z ∷ ms) = let l = after_end (suc n) ms in omega (arith, l)

length_placed : (n : ℕ) (ms : List Member) → length (placed n ms) ≡ length ms
length_placed n [] = refl
length_placed n (m ∷ ms) = ap suc (length_placed (after n m) ms)

-- no argument has more cells
abbrev pub AllShort : ℕ → Terms → Type 0
AllShort m no_terms = Unit {0}
AllShort m (term t ts) = (cells t ≤ m) × AllShort m ts

-- A row's fresh variables are few where no argument has many cells.
pub basic_end : (m : ℕ) (kind : ConstraintKind) (ts : Terms) (n : ℕ) (x : Expansion) → AllShort m ts → basic kind ts n ≡ Ok x → x.fresh ≤ n + (m + m + 2)
basic_end m (Compare r) (term s (term t no_terms)) n x short h =
    let k = one_ok (λ l. Ok (linear_rows (comparison r) l.products l.constant n)) (of_one (normal_form r) (collect s t)) x h in
    let e : linear_rows (comparison r) k.0.products k.0.constant n ≡ x = cc (k.2) in
    let l = linear_end (comparison r) k.0.products k.0.constant n in
    let f = ap (λ (y : Expansion). y.fresh) e in
    omega (arith, l, f)
basic_end m AllDifferent (term l no_terms) n x short h =
    let k = one_ok (λ ms. Ok (different_rows ms n)) (walk as_member l) x h in
    let e : different_rows k.0 n ≡ x = cc (k.2) in
    let c = members_count l k.0 k.1 in
    let a = after_end n k.0 in
    let s = short.0 in
    let f : fresh_after n k.0 ≡ x.fresh = ap (λ (y : Expansion). y.fresh) e in
    omega (arith, c, a, s, f)
basic_end m Element (term i (term l (term v no_terms))) n x short h =
    let k = element_ok i l v n x h in
    let a = after_end n (k.index ∷ k.value ∷ []) in
    let f : fresh_after n (k.index ∷ k.value ∷ []) ≡ x.fresh = ap (λ (y : Expansion). y.fresh) k.rows in
    omega (arith, a, f)
basic_end m Atmost (term t (term l (term v no_terms))) n x short h =
    let k = atmost_ok t l v n x h in
    let xs = placed n k.members in
    let b = fresh_after n k.members in
    let c = members_count l k.members k.from_list in
    let a = after_end n k.members in
    let d = length_placed n k.members in
    let s = short.1.0 in
    let e = linear_end IsAtMost (units xs b) k.limit (b + length xs) in
    let f : (linear_rows IsAtMost (units xs b) k.limit (b + length xs)).fresh ≡ x.fresh = ap (λ (y : Expansion). y.fresh) k.rows in
    omega (arith, a, c, d, s, e, f)
basic_end m _ _ n x short h = absurd (cc)

-- ---- the integers of the equated variables

abbrev pub Fit : Member → Type 0
Fit (Open x) = Unit {0}
Fit (Known z) = FitsSigned w64 z

abbrev pub AllFit : List Member → Type 0
AllFit [] = Unit {0}
AllFit (m ∷ ms) = Fit m × AllFit ms

pub member_fits : (t : Term) (m : Member) → IsStorable t → as_member t ≡ Ok m → Fit m
member_fits (Var x) m s e = let f : Open x ≡ m = cc in subst Fit f tt
member_fits (Int z) m s e = let f : Known z ≡ m = cc in subst Fit f s
member_fits (Atom a) m s e = absurd (cc)
member_fits (Comp f ts) m s e = absurd (cc)

members_fit : (t : Term) (ms : List Member) → IsStorable t → walk as_member t ≡ Ok ms → AllFit ms
members_fit (Atom f) ms s h = test_ok (bytes_eq f (codes "[]")) (Ok []) (Err _) ms (AllFit ms) h (λ c e. let k : [] ≡ ms = cc in subst AllFit k tt) (λ c e. absurd (cc))
members_fit (Comp f (term x (term t no_terms))) ms s h =
    test_ok (bytes_eq f (codes ".")) _ (Err _) ms (AllFit ms) h
    (λ c e.
    let k = both_ok prepend (as_member x) (walk as_member t) ms e in
    let g : k.left ∷ k.right ≡ ms = cc (k.both) in
    subst AllFit g (member_fits x k.left s.1.0 k.from_left, members_fit t k.right s.1.1.0 k.from_right))
    (λ c e. absurd (cc))
members_fit _ ms s h = absurd (cc)

words_none : AreWords []
words_none = All-nil (λ d. FitsSigned w64 d.1)

pub words_from : (n : ℕ) (ms : List Member) → AllFit ms → AreWords (equated_from n ms)
words_from n [] f = words_none
words_from n (Open x ∷ ms) f = words_from n ms f.1
words_from n (Known z ∷ ms) f = All-cons (λ d. FitsSigned w64 d.1) (n, z) (equated_from (suc n) ms) f.0 (words_from (suc n) ms f.1)

-- The integers of a row of storable terms have 64 bits.
pub basic_words : (kind : ConstraintKind) (ts : Terms) (n : ℕ) (x : Expansion) → AreStorable ts → basic kind ts n ≡ Ok x → AreWords x.equated
basic_words (Compare r) (term s (term t no_terms)) n x st h =
    let k = one_ok (λ l. Ok (linear_rows (comparison r) l.products l.constant n)) (of_one (normal_form r) (collect s t)) x h in
    let e : linear_rows (comparison r) k.0.products k.0.constant n ≡ x = cc (k.2) in
    subst (λ y. AreWords y.equated) e (subst AreWords (sym (linear_none (comparison r) k.0.products k.0.constant n)) words_none)
basic_words AllDifferent (term l no_terms) n x st h =
    let k = one_ok (λ ms. Ok (different_rows ms n)) (walk as_member l) x h in
    let e : different_rows k.0 n ≡ x = cc (k.2) in
    subst (λ y. AreWords y.equated) e (words_from n k.0 (members_fit l k.0 st.0 k.1))
basic_words Element (term i (term l (term v no_terms))) n x st h =
    let k = element_ok i l v n x h in
    subst (λ y. AreWords y.equated) k.rows (words_from n (k.index ∷ k.value ∷ []) (member_fits i k.index st.0 k.from_index, (member_fits v k.value st.1.1.0 k.from_value, tt)))
basic_words Atmost (term m (term l (term v no_terms))) n x st h =
    let k = atmost_ok m l v n x h in
    subst (λ y. AreWords y.equated) k.rows (words_from n k.members (members_fit l k.members st.1.0 k.from_list))
basic_words _ _ n x st h = absurd (cc)
