-- How a constraint is split, and what its parts are.
use Rattle.std.proofs.Common.{◌≡◌, ℕ, Bool, true, ◌&&◌, ℤ, pos, negsuc, ◌+ℤ◌, ◌-ℤ◌, neg_ℤ, List, [], ◌∷◌, ◌++◌, Option, Some, None, append_assoc, refl, ap, sym}
use Rattle.std.proofs.Common.{◌∙◌, subst, inl, inr, ◌⊎◌, arith, Result, Ok, Err}
use Rattle.std.specs.List.{list_all}
use Rattle.fd_model.specs.declared.kinds.QueryFault.{QueryFault}
use Rattle.fd_model.specs.declared.kinds.QueryFault.TheVariants.{Evaluation}
use Rattle.fd_model.specs.declared.kinds.Relation.{Relation}
use Rattle.fd_model.specs.declared.kinds.ConstraintKind.{ConstraintKind}
use Rattle.fd_language.specs.Term.{Term, Terms, Var, Int, Atom, Comp, no_terms, term, Name}
use Rattle.fd_language.specs.Range.{Indexical}
use Rattle.fd_model.specs.Linear.{Linear, Comparison, IsAtMost, comparison, normal, normal_form, scaled, turned, with_product, nonzero, in_integers, of_one}
use Rattle.fd_model.specs.Linear.{of_both, collect}
use Rattle.fd_model.specs.LinearRows.{Expansion, rows_behind}
use Rattle.fd_model.specs.Members.{Member, as_member, place_of, after, equated_from}
use Rattle.fd_model.specs.ReifiedRows.{relation_named, formed, read_sides, read_comparison, collected_again, two, told_by, both_sums, reified_sums}
use Rattle.fd_model.specs.ReifiedRows.{reified_ranges, reified_end}
use Rattle.fd_model.specs.ProductRows.{Product}
use Rattle.fd_model.specs.Splitting.{Split, sum_rows, joined, product_split, product_of, pair_of, on_two, on_three, of_two, of_three, told, reified, split}
use Rattle.fd_model.specs.ConstraintExpansion.{basic, by_split, expand}
use Rattle.fd_model.proofs.CollectedSums.{one_ok, both_ok, test_ok}
use Rattle.fd_model.proofs.NormalForms.{normal_ok}

-- a constraint is split, or it is none that is
pub record IsSplit (M : ℕ) (kind : ConstraintKind) (ts : Terms) (n : ℕ) (x : Expansion) : Type 0 where
  pub parts : Split
  pub split_is : split M kind ts n ≡ Some (Ok parts)
  pub rows : joined parts ≡ x

pub record IsBasic (M : ℕ) (kind : ConstraintKind) (ts : Terms) (n : ℕ) (x : Expansion) : Type 0 where
  pub none : split M kind ts n ≡ None
  pub basic_is : basic kind ts n ≡ Ok x

pub expand_ok : (M : ℕ) (kind : ConstraintKind) (ts : Terms) (n : ℕ) (x : Expansion) → expand M kind ts n ≡ Ok x → IsBasic M kind ts n x ⊎ IsSplit M kind ts n x
expand_ok M kind ts n x h = by_option (split M kind ts n) refl h where
  by_option : (o : Option (Result Split QueryFault)) → split M kind ts n ≡ o → by_split o (basic kind ts n) ≡ Ok x → IsBasic M kind ts n x ⊎ IsSplit M kind ts n x
  by_option None e h = inl (record { none = e; basic_is = h })
  by_option (Some (Ok s)) e h = let f : joined s ≡ x = cc in inr (record { parts = s; split_is = e; rows = f })
  by_option (Some (Err f)) e h = absurd (cc)

-- the members of three arguments, and of two
pub record IsThree (rows : ℕ → ℕ → ℕ → List Indexical) (x y z : Term) (n : ℕ) (s : Split) : Type 0 where
  pub first : Member
  pub second : Member
  pub third : Member
  pub from_first : as_member x ≡ Ok first
  pub from_second : as_member y ≡ Ok second
  pub from_third : as_member z ≡ Ok third
  pub is : on_three rows n first second third ≡ s

pub three_ok : (rows : ℕ → ℕ → ℕ → List Indexical) (x y z : Term) (n : ℕ) (s : Split) → of_three rows x y z n ≡ Ok s → IsThree rows x y z n s
three_ok rows x y z n s h =
    let k = both_ok (λ p q. Ok (on_three rows n p.0 p.1 q)) (of_both pair_of (as_member x) (as_member y)) (as_member z) s h in
    let j = both_ok pair_of (as_member x) (as_member y) k.left k.from_left in
    let g : (j.left, j.right) ≡ k.left = cc (j.both) in
    let f : on_three rows n k.left.0 k.left.1 k.right ≡ s = cc (k.both) in
    record {
      first = j.left;
      second = j.right;
      third = k.right;
      from_first = j.from_left;
      from_second = j.from_right;
      from_third = k.from_right;
      is = subst (λ p. on_three rows n p.0 p.1 k.right ≡ s) (sym g) f;
    }

pub record IsTwo (rows : ℕ → ℕ → List Indexical) (x y : Term) (n : ℕ) (s : Split) : Type 0 where
  pub first : Member
  pub second : Member
  pub from_first : as_member x ≡ Ok first
  pub from_second : as_member y ≡ Ok second
  pub is : on_two rows n first second ≡ s

pub two_ok : (rows : ℕ → ℕ → List Indexical) (x y : Term) (n : ℕ) (s : Split) → of_two rows x y n ≡ Ok s → IsTwo rows x y n s
two_ok rows x y n s h =
    let k = both_ok (λ p q. Ok (on_two rows n p q)) (as_member x) (as_member y) s h in
    let f : on_two rows n k.left k.right ≡ s = cc (k.both) in
    record { first = k.left; second = k.right; from_first = k.from_left; from_second = k.from_right; is = f }

-- a term that is a comparison, and its normal form
pub record IsComparison (k : Term) (p : Comparison × Linear) : Type 0 where
  pub name : Name
  pub left : Term
  pub right : Term
  pub term_is : Comp name (term left (term right no_terms)) ≡ k
  pub relation : Relation
  pub named : relation_named name ≡ Some relation
  pub linear : Linear
  pub collected : collect left right ≡ Ok linear
  pub comparison_is : comparison relation ≡ p.0
  pub normal_is : normal relation linear ≡ p.1
  pub inside : in_integers p.1.constant ≡ true

sides_ok : (f : Name) (s t : Term) (p : Comparison × Linear) → read_sides (relation_named f) s t ≡ Ok p → IsComparison (Comp f (term s (term t no_terms))) p
sides_ok f s t p h = by_option (relation_named f) refl h where
  by_option : (o : Option Relation) → relation_named f ≡ o → read_sides o s t ≡ Ok p → IsComparison (Comp f (term s (term t no_terms))) p
  by_option None e h = absurd (cc)
  by_option (Some r) e h =
      let j = one_ok (formed r) (of_one (normal_form r) (collect s t)) p h in
      let k = one_ok (normal_form r) (collect s t) j.0 j.1 in
      let i : (comparison r, j.0) ≡ p = cc (j.2) in
      let m = normal_ok r k.0 j.0 k.2 in
      record {
        name = f;
        left = s;
        right = t;
        term_is = refl;
        relation = r;
        named = e;
        linear = k.0;
        collected = k.1;
        comparison_is = ap (λ (q : Comparison × Linear). q.0) i;
        normal_is = m.0 ∙ ap (λ (q : Comparison × Linear). q.1) i;
        inside = subst (λ (q : Comparison × Linear). in_integers q.1.constant ≡ true) i m.1;
      }

pub comparison_ok : (k : Term) (p : Comparison × Linear) → read_comparison k ≡ Ok p → IsComparison k p
comparison_ok (Var x) p h = absurd (cc)
comparison_ok (Int z) p h = absurd (cc)
comparison_ok (Atom a) p h = absurd (cc)
comparison_ok (Comp f no_terms) p h = absurd (cc)
comparison_ok (Comp f (term s no_terms)) p h = absurd (cc)
comparison_ok (Comp f (term s (term t no_terms))) p h = sides_ok f s t p h
comparison_ok (Comp f (term s (term t (term u us)))) p h = absurd (cc)

-- what is told
abbrev pub told_split : ℕ → Member → Comparison → List Linear → Split
told_split n b c ls = record { equated = equated_from n (b ∷ []); ranges = reified_ranges c (place_of n b) (after n b); sums = ls; fresh = reified_end c (after n b) }

pub record IsReified (M : ℕ) (b k : Term) (n : ℕ) (s : Split) : Type 0 where
  pub teller : Member
  pub from_teller : as_member b ≡ Ok teller
  pub kind : Comparison
  pub form : Linear
  pub from_term : IsComparison k (kind, form)
  pub sums : List Linear
  pub sums_are : reified_sums M kind (place_of n teller) (after n teller) form ≡ Ok sums
  pub is : told_split n teller kind sums ≡ s

pub reified_ok : (M : ℕ) (b k : Term) (n : ℕ) (s : Split) → reified M b k n ≡ Ok s → IsReified M b k n s
reified_ok M b k n s h =
    let j = both_ok (told M n) (as_member b) (read_comparison k) s h in
    let m = j.left in
    let p = j.right in
    let i = one_ok (λ ls. Ok (told_split n m p.0 ls)) (reified_sums M p.0 (place_of n m) (after n m) p.1) s j.both in
    let e : told_split n m p.0 i.0 ≡ s = cc (i.2) in
    record {
      teller = m;
      from_teller = j.from_left;
      kind = p.0;
      form = p.1;
      from_term = comparison_ok k p j.from_right;
      sums = i.0;
      sums_are = i.1;
      is = e;
    }

-- sums that were collected again
pub record IsAgain (ts : List (ℕ × ℤ)) (c : ℤ) (l : Linear) : Type 0 where
  pub is : record { products = nonzero ts; constant = c } ≡ l
  pub constant : in_integers c ≡ true
  pub coefficients : list_all (λ t. in_integers t.1) ts ≡ true

again_ok : (ts : List (ℕ × ℤ)) (c : ℤ) (l : Linear) → collected_again ts c ≡ Ok l → IsAgain ts c l
again_ok ts c l h =
    test_ok (in_integers c && list_all (λ t. in_integers t.1) ts) (Ok (record { products = nonzero ts; constant = c })) (Err Evaluation) l (IsAgain ts c l) h
    (λ e k. let f : record { products = nonzero ts; constant = c } ≡ l = cc in record { is = f; constant = first _ _ e; coefficients = second _ _ e }) (λ e k. absurd (cc)) where
      first : (p q : Bool) → (p && q) ≡ true → p ≡ true
      first p q h = grind arith

      second : (p q : Bool) → (p && q) ≡ true → q ≡ true
      second p q h = grind arith

pub record IsTold (b : ℕ) (w : ℤ) (l : Linear) (ls : List Linear) : Type 0 where
  pub over : Linear
  pub under : Linear
  pub within : in_integers w ≡ true
  pub from_over : IsAgain (with_product l.products b w) (l.constant +ℤ w) over
  pub from_under : IsAgain (scaled (negsuc 0) (with_product l.products b w)) (neg_ℤ l.constant -ℤ pos 1) under
  pub are : over ∷ under ∷ [] ≡ ls

pub told_ok : (b : ℕ) (w : ℤ) (l : Linear) (ls : List Linear) → told_by b w l ≡ Ok ls → IsTold b w l ls
told_ok b w l ls h =
    let ts = with_product l.products b w in
    let r = collected_again ts (l.constant +ℤ w) in
    let q = collected_again (scaled (negsuc 0) ts) (neg_ℤ l.constant -ℤ pos 1) in
    test_ok (in_integers w) (of_both two r q) (Err Evaluation) ls (IsTold b w l ls) h
    (λ e k.
    let j = both_ok two r q ls k in
    let f : j.left ∷ j.right ∷ [] ≡ ls = cc (j.both) in
    record {
      over = j.left;
      under = j.right;
      within = e;
      from_over = again_ok ts (l.constant +ℤ w) j.left j.from_left;
      from_under = again_ok (scaled (negsuc 0) ts) (neg_ℤ l.constant -ℤ pos 1) j.right j.from_right;
      are = f;
    })
    (λ e k. absurd (cc))

-- those of an equality, told by f and g
pub record AreBothTold (f g : ℕ) (w : ℤ) (l : Linear) (ls : List Linear) : Type 0 where
  pub first : List Linear
  pub second : List Linear
  pub from_first : IsTold f w l first
  pub from_second : IsTold g w (turned l) second
  pub are : first ++ second ≡ ls

pub both_told_ok : (f g : ℕ) (w : ℤ) (l : Linear) (ls : List Linear) → of_both both_sums (told_by f w l) (told_by g w (turned l)) ≡ Ok ls → AreBothTold f g w l ls
both_told_ok f g w l ls h =
    let j = both_ok both_sums (told_by f w l) (told_by g w (turned l)) ls h in
    let e : j.left ++ j.right ≡ ls = cc (j.both) in
    record { first = j.left; second = j.right; from_first = told_ok f w l j.left j.from_left; from_second = told_ok g w (turned l) j.right j.from_right; are = e }

-- what isn't split is no product
pub unsplit : (n : ℕ) (p : Option Product) → product_of n p ≡ None → p ≡ None
unsplit n None h = refl
unsplit n (Some p) h = absurd (cc)

-- the rows of the sums of two lists
pub rows_joined : (ls ms : List Linear) → sum_rows (ls ++ ms) ≡ sum_rows ls ++ sum_rows ms
rows_joined [] ms = refl
rows_joined (l ∷ ls) ms = ap (λ ps. rows_behind IsAtMost l.constant [] l.products ++ ps) (rows_joined ls ms)
    ∙ sym (append_assoc (rows_behind IsAtMost l.constant [] l.products) (sum_rows ls) (sum_rows ms))

-- and what is one
pub record IsProductSplit (n : ℕ) (o : Option Product) (s : Split) : Type 0 where
  pub product : Product
  pub form : o ≡ Some product
  pub is : product_split n product ≡ s

pub product_ok : (n : ℕ) (o : Option Product) (s : Split) → product_of n o ≡ Some (Ok s) → IsProductSplit n o s
product_ok n None s h = absurd (cc)
product_ok n (Some p) s h = let e : product_split n p ≡ s = cc in record { product = p; form = refl; is = e }

pub of_some : (r : Result Split QueryFault) (s : Split) → Some r ≡ Some (Ok s) → r ≡ Ok s
of_some r s h = cc
