-- The words of goals.
use Rattle.std.proofs.Common.{◌≡◌, ℕ, Bool, true, false, cond, ◌||◌, ◌+◌, ◌<◌, take, length, get_or, List, [], ◌∷◌, ◌++◌, Option, Some, None, refl, sym, ap}
use Rattle.std.proofs.Common.{◌∙◌, subst, arith, codes, decimal}
use Rattle.std.specs.Fmt.{digits}
use Rattle.std.specs.Str.{bytes_eq, chars}
use Rattle.std.specs.List.{list_any}
use Rattle.std.proofs.lemmas.List.Folds.{list_any_more}
use Rattle.unicode_ident.specs.Ident.{is_xid_start, is_xid_continue}
use Rattle.ucd_table.specs.Rows.{in_ranges}
use Rattle.ucd_derived.specs.XidStartRanges.{xid_start_ranges}
use Rattle.ucd_derived.specs.XidContinueRanges.{xid_continue_ranges}
use Rattle.fd_language.specs.Characters.{is_symbol}
use Rattle.fd_language.specs.Operators.{is_operator, infix_of, prefix_of}
use Rattle.fd_model.specs.declared.kinds.Order.{Order}
use Rattle.fd_model.specs.declared.kinds.Order.TheVariants.{Leftmost, FirstFail}
use Rattle.fd_model.specs.declared.kinds.Relation.TheVariants.{Equal, Differ, Less, AtMost, Greater, AtLeast}
use Rattle.fd_model.specs.declared.kinds.ConstraintKind.{ConstraintKind}
use Rattle.fd_model.specs.declared.kinds.ConstraintKind.TheVariants.{Compare, AllDifferent, Element, Atmost, And, Or, Not, Reified}
use Rattle.fd_model.specs.declared.kinds.BuiltinKind.{BuiltinKind}
use Rattle.fd_model.specs.declared.kinds.BuiltinKind.TheVariants.{True, Fail, False, Unify, Same, NotSame, Is, NumEqual, NumDiffer, NumLess, NumAtMost}
use Rattle.fd_model.specs.declared.kinds.BuiltinKind.TheVariants.{NumGreater, NumAtLeast, Var, Nonvar, Integer, Atom, Atomic, Compound, Write, Nl, FdMin, FdMax}
use Rattle.fd_model.specs.declared.kinds.BuiltinKind.TheVariants.{FdSize, FdDom}
use Rattle.code_listing.specs.Names.{constraint_word, builtin_word, order_word, aim_word}
use Rattle.listing_reader.specs.Goals.{builtin_spelled, constraint_spelled}
use Rattle.listing_reader.proofs.WordTexts.{IsPrinted}

-- ---- a thing by its text, in a list of things

module _ {A : Type 0} (text : A → List ℕ) where
  abbrev pub found : List A → List ℕ → Option A
  found [] w = None
  found (x ∷ xs) w = cond (bytes_eq (text x) w) (Some x) (found xs w)

-- where no thing of the list has the text
module _ {A : Type 0} (text : A → List ℕ) where
  none_here : (xs : List A) (w : List ℕ) → list_any (λ x. bytes_eq (text x) w) xs ≡ false → found text xs w ≡ None
  none_here [] w h = refl
  none_here (x ∷ xs) w h = go (bytes_eq (text x) w) refl h (λ g. none_here xs w g)
    where
      go : (b : Bool) → bytes_eq (text x) w ≡ b → (bytes_eq (text x) w || list_any (λ x. bytes_eq (text x) w) xs) ≡ false
          → (list_any (λ x. bytes_eq (text x) w) xs ≡ false → found text xs w ≡ None) → found text (x ∷ xs) w ≡ None
      go true e h ih = let k : true ≡ false = sym (ap (λ (b : Bool). b || list_any (λ x. bytes_eq (text x) w) xs) e) ∙ h in absurd (cc (k))
      go false e h ih = ap (λ (b : Bool). cond b (Some x) (found text xs w)) e ∙ ih (sym (ap (λ (b : Bool). b || list_any (λ x. bytes_eq (text x) w) xs) e) ∙ h)

  pub none_found : (xs : List A) (w : List ℕ) → list_any (λ x. bytes_eq (text x) w) xs ≡ false → (x : A) → found text xs (text x) ≡ Some x → ¬ (text x ≡ w)
  none_found xs w h x f e = let k : Some x ≡ None = sym f ∙ ap (found text xs) e ∙ none_here xs w h in cc

  -- one more that hasn't
  pub none_more : (xs : List A) (w : List ℕ) (i : ℕ) (d : A) → i < length xs → list_any (λ x. bytes_eq (text x) w) (take i xs) ≡ false
      → bytes_eq (text (get_or xs i d)) w ≡ false → list_any (λ x. bytes_eq (text x) w) (take (i + 1) xs) ≡ false
  none_more xs w i d l h e = list_any_more (λ x. bytes_eq (text x) w) xs i d l ∙ ap (λ (b : Bool). b || bytes_eq (text (get_or xs i d)) w) h ∙ e

abbrev pub all_builtins : List BuiltinKind
all_builtins = True ∷ Fail ∷ False ∷ Unify ∷ Same ∷ NotSame ∷ Is ∷ NumEqual ∷ NumDiffer ∷ NumLess ∷ NumAtMost ∷ NumGreater ∷ NumAtLeast ∷ Var ∷ Nonvar ∷ Integer
    ∷ Atom ∷ Atomic ∷ Compound ∷ Write ∷ Nl ∷ FdMin ∷ FdMax ∷ FdSize ∷ FdDom ∷ []

abbrev pub all_constraints : List ConstraintKind
all_constraints = Compare Equal ∷ Compare Differ ∷ Compare Less ∷ Compare AtMost ∷ Compare Greater ∷ Compare AtLeast ∷ AllDifferent ∷ Element ∷ Atmost ∷ And ∷ Or ∷ Not ∷ Reified ∷ []

pub builtin_found : (k : BuiltinKind) → found builtin_spelled all_builtins (builtin_spelled k) ≡ Some k
builtin_found True = refl
builtin_found _ = refl

pub constraint_found : (k : ConstraintKind) → found constraint_spelled all_constraints (constraint_spelled k) ≡ Some k
constraint_found (Compare Equal) = refl
constraint_found (Compare _) = refl
constraint_found _ = refl

pub builtin_is : (k : BuiltinKind) → builtin_word k ≡ builtin_spelled k
unfolding chars is_xid_start is_xid_continue in_ranges xid_start_ranges xid_continue_ranges is_symbol is_operator infix_of prefix_of digits
builtin_is True = refl
builtin_is _ = refl

pub constraint_is : (k : ConstraintKind) → constraint_word k ≡ constraint_spelled k
unfolding chars is_xid_start is_xid_continue in_ranges xid_start_ranges xid_continue_ranges is_symbol is_operator infix_of prefix_of digits
constraint_is (Compare Equal) = refl
constraint_is (Compare _) = refl
constraint_is _ = refl

pub one_builtin : (j k : BuiltinKind) → builtin_word j ≡ builtin_word k → j ≡ k
one_builtin j k e =
    let f : Some j ≡ Some k = sym (builtin_found j) ∙ ap (found builtin_spelled all_builtins) (sym (builtin_is j) ∙ e ∙ builtin_is k) ∙ builtin_found k in cc

pub one_constraint : (j k : ConstraintKind) → constraint_word j ≡ constraint_word k → j ≡ k
one_constraint j k e =
    let f : Some j ≡ Some k = sym (constraint_found j) ∙ ap (found constraint_spelled all_constraints) (sym (constraint_is j) ∙ e ∙ constraint_is k) ∙ constraint_found k in cc

pub printed_builtin : (k : BuiltinKind) → IsPrinted (builtin_word k)
printed_builtin k = subst IsPrinted (sym (builtin_is k)) (go k)
  where
    go : (k : BuiltinKind) → IsPrinted (builtin_spelled k)
    go True = refl
    go _ = refl

pub printed_constraint : (k : ConstraintKind) → IsPrinted (constraint_word k)
printed_constraint k = subst IsPrinted (sym (constraint_is k)) (go k)
  where
    go : (k : ConstraintKind) → IsPrinted (constraint_spelled k)
    go (Compare Equal) = refl
    go (Compare _) = refl
    go _ = refl

-- ---- orders and aims

order_found : (o : Order) → found order_word (Leftmost ∷ FirstFail ∷ []) (order_word o) ≡ Some o
order_found Leftmost = refl
order_found FirstFail = refl

pub one_order : (o p : Order) → order_word o ≡ order_word p → o ≡ p
one_order o p e = let f : Some o ≡ Some p = sym (order_found o) ∙ ap (found order_word (Leftmost ∷ FirstFail ∷ [])) e ∙ order_found p in cc

aim_found : (b : Bool) → found aim_word (true ∷ false ∷ []) (aim_word b) ≡ Some b
aim_found true = refl
aim_found false = refl

pub one_aim : (b c : Bool) → aim_word b ≡ aim_word c → b ≡ c
one_aim b c e = let f : Some b ≡ Some c = sym (aim_found b) ∙ ap (found aim_word (true ∷ false ∷ [])) e ∙ aim_found c in cc

pub printed_order : (o : Order) → IsPrinted (order_word o)
printed_order Leftmost = refl
printed_order FirstFail = refl

pub printed_aim : (b : Bool) → IsPrinted (aim_word b)
printed_aim true = refl
printed_aim false = refl
