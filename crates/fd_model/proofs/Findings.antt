-- What a built-in goal equates are terms over the variables of the goal, and what it comes to doesn't depend on the names of variables.
use Rattle.std.proofs.Common.{◌≡◌, ℕ, ℤ, pos, Bool, true, false, cond, ◌==◌, List, [], ◌++◌, Option, Result, Ok, Err, refl, sym, ◌∙◌, ap, inl, inr, eq-eqb}
use Rattle.std.proofs.Common.{ne_eqb}
use Rattle.std.specs.Prelude.{◌&&◌, not, codes, ◌∷◌}
use Rattle.std.specs.Str.{bytes_eq}
use Rattle.fd_language.specs.Term.{Name, Term, Terms, Var, Int, Atom, Comp, no_terms, term, Substitution, apply, apply_all}
use Rattle.fd_language.specs.Family.{has}
use Rattle.fd_language.specs.Variables.{TermBelow, variables_of, variables_of_all}
use Rattle.std.proofs.lemmas.Bool.{cases_eq}
use Rattle.fd_language.proofs.Lemmas.{two, in_left, in_right}
use Rattle.fd_model.proofs.ModelSubstitutions.{first_member}
use Rattle.fd_model.specs.declared.kinds.QueryFault.{QueryFault}
use Rattle.fd_model.specs.declared.kinds.BuiltinKind.{BuiltinKind}
use Rattle.fd_model.specs.declared.kinds.BuiltinKind.TheVariants as kind
use Rattle.fd_model.specs.Arithmetic.{Value, not_a_number, opposite_of, by_name, value_of}
use Rattle.fd_model.specs.Linear.{of_one}
use Rattle.fd_model.specs.Builtins.{evaluated, checked_value, is_same, are_same, is_open, is_integer, is_atom, is_atomic, is_compound, Numbers, one, those}
use Rattle.fd_model.specs.Builtins.{set_numbers, least_number, greatest_number, number_count, two_terms, interval_term, interval_terms, interval_list}
use Rattle.fd_model.specs.Builtins.{first_argument, second_argument, Finding, faulted, decided, equated, equals_value, equals_number, compared, numbers_of}
use Rattle.fd_model.specs.Builtins.{found, finding}
use Rattle.fd_model.specs.Lines.{Interval, intervals}

abbrev pub IsFindingBelow : ℕ → Finding → Type 0
IsFindingBelow n (faulted f) = Unit {0}
IsFindingBelow n (decided b) = Unit {0}
IsFindingBelow n (equated l r) = TermBelow n l × TermBelow n r

pub first_below : (n : ℕ) (t : Term) → TermBelow n t → TermBelow n (first_argument t)
first_below n (Var x) h = h
first_below n (Int z) h = tt
first_below n (Atom a) h = tt
first_below n (Comp f no_terms) h = h
first_below n (Comp f (term t ts)) h = h.0

pub second_below : (n : ℕ) (t : Term) → TermBelow n t → TermBelow n (second_argument t)
second_below n (Var x) h = h
second_below n (Int z) h = tt
second_below n (Atom a) h = tt
second_below n (Comp f no_terms) h = h
second_below n (Comp f (term t no_terms)) h = h.0
second_below n (Comp f (term t (term u us))) h = h.1.0

intervals_below : (n : ℕ) (is : List Interval) → TermBelow n (interval_terms is)
intervals_below n [] = tt
intervals_below n (i ∷ is) = ((tt, (tt, tt)), (intervals_below n is, tt))

list_below : (n : ℕ) (ns : Numbers) → TermBelow n (interval_list ns)
list_below n (one z) = ((tt, (tt, tt)), (tt, tt))
list_below n (those ns) = intervals_below n (intervals ns)

compared_below : (n : ℕ) (holds : ℤ → ℤ → Bool) (left right : Result ℤ QueryFault) → IsFindingBelow n (compared holds left right)
compared_below n holds (Err f) right = tt
compared_below n holds (Ok a) (Err f) = tt
compared_below n holds (Ok a) (Ok b) = tt

value_below : (n : ℕ) (t : Term) (r : Result ℤ QueryFault) → TermBelow n t → IsFindingBelow n (equals_value t r)
value_below n t (Err f) h = tt
value_below n t (Ok z) h = (h, tt)

number_below : (n : ℕ) (tell : Numbers → Term) → ((ns : Numbers) → TermBelow n (tell ns)) → (t : Term) (r : Result Numbers QueryFault) → TermBelow n t → IsFindingBelow n (equals_number tell t r)
number_below n tell told t (Err f) h = tt
number_below n tell told t (Ok ns) h = (h, told ns)

-- the terms that a goal equates have no variables but its arguments'
pub found_below : (n : ℕ) (k : BuiltinKind) (sets : ℕ → Option (List ℕ)) (a b u v : Term) → TermBelow n a → TermBelow n b → IsFindingBelow n (found k sets a b u v)
found_below n kind.Unify sets a b u v h i = (h, i)
found_below n kind.Is sets a b u v h i = value_below n a (evaluated v) h
found_below n kind.NumEqual sets a b u v h i = compared_below n _ (evaluated u) (evaluated v)
found_below n kind.NumDiffer sets a b u v h i = compared_below n _ (evaluated u) (evaluated v)
found_below n kind.NumLess sets a b u v h i = compared_below n _ (evaluated u) (evaluated v)
found_below n kind.NumAtMost sets a b u v h i = compared_below n _ (evaluated u) (evaluated v)
found_below n kind.NumGreater sets a b u v h i = compared_below n _ (evaluated u) (evaluated v)
found_below n kind.NumAtLeast sets a b u v h i = compared_below n _ (evaluated u) (evaluated v)
found_below n kind.FdMin sets a b u v h i = number_below n (λ ns. Int (least_number ns)) (λ ns. tt) b (numbers_of sets u) i
found_below n kind.FdMax sets a b u v h i = number_below n (λ ns. Int (greatest_number ns)) (λ ns. tt) b (numbers_of sets u) i
found_below n kind.FdSize sets a b u v h i = number_below n (λ ns. Int (number_count ns)) (λ ns. tt) b (numbers_of sets u) i
found_below n kind.FdDom sets a b u v h i = number_below n interval_list (list_below n) b (numbers_of sets u) i
found_below n _ sets a b u v h i = tt

pub finding_below : (n : ℕ) (k : BuiltinKind) (look : Substitution) (sets : ℕ → Option (List ℕ)) (t : Term) → TermBelow n t → IsFindingBelow n (finding k look sets t)
finding_below n k look sets t h = found_below n k sets (first_argument t) (second_argument t) (apply look (first_argument t)) (apply look (second_argument t)) (first_below n t h) (second_below n t h)

-- ---- terms with their variables renamed

abbrev pub Named : Substitution → (ℕ → ℕ) → List ℕ → Type 0
Named look cell xs = (y : ℕ) → has xs y ≡ true → look y ≡ Var (cell y)

named_same : (f : Name) (l l' r r' : Value) → l ≡ l' → r ≡ r' → by_name f l r ≡ by_name f l' r'
named_same f l l' r r' e g = cc

pub value_renamed : (look : Substitution) (cell : ℕ → ℕ) (t : Term) → Named look cell (variables_of t) → value_of (apply look t) ≡ value_of t
value_renamed look cell (Var x) h = ap value_of (h x (first_member x []))
value_renamed look cell (Int z) h = refl
value_renamed look cell (Atom a) h = refl
value_renamed look cell (Comp f no_terms) h = refl
value_renamed look cell (Comp f (term a no_terms)) h =
    ap (λ w. cond (bytes_eq f (codes "-")) (of_one opposite_of w) (Err not_a_number)) (value_renamed look cell a (λ y k. h y (in_left (variables_of a) [] y k)))
value_renamed look cell (Comp f (term a (term b no_terms))) h =
    named_same f _ _ _ _ (value_renamed look cell a (λ y k. h y (in_left (variables_of a) (variables_of b ++ []) y k)))
    (value_renamed look cell b (λ y k. h y (in_right (variables_of a) (variables_of b ++ []) y (in_left (variables_of b) [] y k))))
value_renamed look cell (Comp f (term a (term b (term c ts)))) h = refl

evaluated_renamed : (look : Substitution) (cell : ℕ → ℕ) (t : Term) → Named look cell (variables_of t) → evaluated (apply look t) ≡ evaluated t
evaluated_renamed look cell t h = ap checked_value (value_renamed look cell t h)

-- variables that are told apart
abbrev pub Apart : (ℕ → ℕ) → List ℕ → List ℕ → Type 0
Apart cell xs ys = (x y : ℕ) → has xs x ≡ true → has ys y ≡ true → cell x ≡ cell y → x ≡ y

pub same_number : (cell : ℕ → ℕ) (x y : ℕ) → (cell x ≡ cell y → x ≡ y) → (cell x == cell y) ≡ (x == y)
same_number cell x y h = elim (cases_eq x y) [
  | inl e ↦ eq-eqb (cell x) (cell y) (ap cell e) ∙ sym (eq-eqb x y e)
  | inr d ↦ ne_eqb (cell x) (cell y) (λ e. d (h e)) ∙ sym (ne_eqb x y d)
]

mutual
  pub same_renamed : (look : Substitution) (cell : ℕ → ℕ) (t u : Term) → Named look cell (variables_of t) → Named look cell (variables_of u)
      → Apart cell (variables_of t) (variables_of u) → is_same (apply look t) (apply look u) ≡ is_same t u
  same_renamed look cell (Var x) (Var y) h i d = two is_same (h x (first_member x [])) (i y (first_member y [])) ∙ same_number cell x y (d x y (first_member x []) (first_member y []))
  same_renamed look cell (Var x) (Int z) h i d = ap (λ t. is_same t (Int z)) (h x (first_member x []))
  same_renamed look cell (Var x) (Atom a) h i d = ap (λ t. is_same t (Atom a)) (h x (first_member x []))
  same_renamed look cell (Var x) (Comp g us) h i d = ap (λ t. is_same t (Comp g (apply_all look us))) (h x (first_member x []))
  same_renamed look cell (Int z) (Var y) h i d = ap (is_same (Int z)) (i y (first_member y []))
  same_renamed look cell (Int z) (Int w) h i d = refl
  same_renamed look cell (Int z) (Atom a) h i d = refl
  same_renamed look cell (Int z) (Comp g us) h i d = refl
  same_renamed look cell (Atom a) (Var y) h i d = ap (is_same (Atom a)) (i y (first_member y []))
  same_renamed look cell (Atom a) (Int w) h i d = refl
  same_renamed look cell (Atom a) (Atom b) h i d = refl
  same_renamed look cell (Atom a) (Comp g us) h i d = refl
  same_renamed look cell (Comp f ts) (Var y) h i d = ap (is_same (Comp f (apply_all look ts))) (i y (first_member y []))
  same_renamed look cell (Comp f ts) (Int w) h i d = refl
  same_renamed look cell (Comp f ts) (Atom b) h i d = refl
  same_renamed look cell (Comp f ts) (Comp g us) h i d = ap (λ x. bytes_eq f g && x) (all_same_renamed look cell ts us h i d)

  all_same_renamed : (look : Substitution) (cell : ℕ → ℕ) (ts us : Terms) → Named look cell (variables_of_all ts) → Named look cell (variables_of_all us)
      → Apart cell (variables_of_all ts) (variables_of_all us) → are_same (apply_all look ts) (apply_all look us) ≡ are_same ts us
  all_same_renamed look cell no_terms no_terms h i d = refl
  all_same_renamed look cell no_terms (term u us) h i d = refl
  all_same_renamed look cell (term t ts) no_terms h i d = refl
  all_same_renamed look cell (term t ts) (term u us) h i d =
      let tv = variables_of t in let tsv = variables_of_all ts in let uv = variables_of u in let usv = variables_of_all us in
      two (λ x y. x && y)
      (same_renamed look cell t u (λ y k. h y (in_left tv tsv y k)) (λ y k. i y (in_left uv usv y k)) (λ x y k l. d x y (in_left tv tsv x k) (in_left uv usv y l)))
      (all_same_renamed look cell ts us (λ y k. h y (in_right tv tsv y k)) (λ y k. i y (in_right uv usv y k)) (λ x y k l. d x y (in_right tv tsv x k) (in_right uv usv y l)))

pub numbers_renamed : (look : Substitution) (cell : ℕ → ℕ) (sets sets' : ℕ → Option (List ℕ)) (t : Term) → Named look cell (variables_of t)
    → ((y : ℕ) → has (variables_of t) y ≡ true → sets' (cell y) ≡ sets y) → numbers_of sets' (apply look t) ≡ numbers_of sets t
numbers_renamed look cell sets sets' (Var x) h s = ap (numbers_of sets') (h x (first_member x [])) ∙ ap set_numbers (s x (first_member x []))
numbers_renamed look cell sets sets' (Int z) h s = refl
numbers_renamed look cell sets sets' (Atom a) h s = refl
numbers_renamed look cell sets sets' (Comp f ts) h s = refl

kind_renamed : {A : Type 0} (test : Term → A) (var : A) → ((x : ℕ) → test (Var x) ≡ var)
    → (other : (f : Name) (ts us : Terms) → test (Comp f ts) ≡ test (Comp f us)) → (look : Substitution) (cell : ℕ → ℕ) (t : Term)
    → Named look cell (variables_of t) → test (apply look t) ≡ test t
kind_renamed test var v other look cell (Var x) h = ap test (h x (first_member x [])) ∙ v (cell x) ∙ sym (v x)
kind_renamed test var v other look cell (Int z) h = refl
kind_renamed test var v other look cell (Atom a) h = refl
kind_renamed test var v other look cell (Comp f ts) h = other f (apply_all look ts) ts

-- The finding g is f, where terms are replaced by what look gives.
abbrev pub SameFinding : Substitution → Finding → Finding → Type 0
SameFinding look (faulted e) g = g ≡ faulted e
SameFinding look (decided b) g = g ≡ decided b
SameFinding look (equated l r) g = g ≡ equated (apply look l) (apply look r)

intervals_stay : (look : Substitution) (is : List Interval) → apply look (interval_terms is) ≡ interval_terms is
intervals_stay look [] = refl
intervals_stay look (i ∷ is) = ap (λ t. Comp (codes ".") (two_terms (interval_term (pos i.low) (pos i.high)) t)) (intervals_stay look is)

list_stays : (look : Substitution) (ns : Numbers) → apply look (interval_list ns) ≡ interval_list ns
list_stays look (one z) = refl
list_stays look (those ns) = intervals_stay look (intervals ns)

compared_same : (look : Substitution) (holds : ℤ → ℤ → Bool) (l l' r r' : Result ℤ QueryFault) → l' ≡ l → r' ≡ r → SameFinding look (compared holds l r) (compared holds l' r')
compared_same look holds (Err f) l' r r' e i = ap (λ x. compared holds x r') e
compared_same look holds (Ok a) l' (Err f) r' e i = two (compared holds) e i
compared_same look holds (Ok a) l' (Ok b) r' e i = two (compared holds) e i

value_same : (look : Substitution) (t : Term) (r r' : Result ℤ QueryFault) → r' ≡ r → SameFinding look (equals_value t r) (equals_value (apply look t) r')
value_same look t (Err f) r' e = ap (equals_value (apply look t)) e
value_same look t (Ok z) r' e = ap (equals_value (apply look t)) e

number_same : (look : Substitution) (tell : Numbers → Term) → ((ns : Numbers) → apply look (tell ns) ≡ tell ns) → (t : Term) (r r' : Result Numbers QueryFault)
    → r' ≡ r → SameFinding look (equals_number tell t r) (equals_number tell (apply look t) r')
number_same look tell s t (Err f) r' e = ap (equals_number tell (apply look t)) e
number_same look tell s t (Ok ns) r' e = ap (equals_number tell (apply look t)) e ∙ ap (equated (apply look t)) (sym (s ns))

-- What a goal comes to doesn't depend on the names of variables: u and v are as they are seen, and settled gives these with other names, one for each variable.
module _ (look settled : Substitution) (cell : ℕ → ℕ) (sets sets' : ℕ → Option (List ℕ)) (a b u v : Term) (named_u : Named settled cell (variables_of u))
    (named_v : Named settled cell (variables_of v)) (apart : Apart cell (variables_of u) (variables_of v))
    (same_sets : (y : ℕ) → has (variables_of u) y ≡ true → sets' (cell y) ≡ sets y) where
  abbrev left : Term
  left = apply settled u

  abbrev right : Term
  right = apply settled v

  open_same : is_open left ≡ is_open u
  open_same = kind_renamed is_open true (λ x. refl) (λ f ts us. refl) settled cell u named_u

  values : (holds : ℤ → ℤ → Bool) → SameFinding look (compared holds (evaluated u) (evaluated v)) (compared holds (evaluated left) (evaluated right))
  values holds = compared_same look holds (evaluated u) (evaluated left) (evaluated v) (evaluated right) (evaluated_renamed settled cell u named_u) (evaluated_renamed settled cell v named_v)

  numbers : (tell : Numbers → Term) → ((ns : Numbers) → apply look (tell ns) ≡ tell ns)
      → SameFinding look (equals_number tell b (numbers_of sets u)) (equals_number tell (apply look b) (numbers_of sets' left))
  numbers tell s = number_same look tell s b (numbers_of sets u) (numbers_of sets' left) (numbers_renamed settled cell sets sets' u named_u same_sets)

  pub found_renamed : (k : BuiltinKind) → SameFinding look (found k sets a b u v) (found k sets' (apply look a) (apply look b) left right)
  found_renamed kind.True = refl
  found_renamed kind.Fail = refl
  found_renamed kind.False = refl
  found_renamed kind.Unify = refl
  found_renamed kind.Same = ap decided (same_renamed settled cell u v named_u named_v apart)
  found_renamed kind.NotSame = ap (λ x. decided (not x)) (same_renamed settled cell u v named_u named_v apart)
  found_renamed kind.Is = value_same look a (evaluated v) (evaluated right) (evaluated_renamed settled cell v named_v)
  found_renamed kind.NumEqual = values _
  found_renamed kind.NumDiffer = values _
  found_renamed kind.NumLess = values _
  found_renamed kind.NumAtMost = values _
  found_renamed kind.NumGreater = values _
  found_renamed kind.NumAtLeast = values _
  found_renamed kind.Var = ap decided open_same
  found_renamed kind.Nonvar = ap (λ x. decided (not x)) open_same
  found_renamed kind.Integer = ap decided (kind_renamed is_integer false (λ x. refl) (λ f ts us. refl) settled cell u named_u)
  found_renamed kind.Atom = ap decided (kind_renamed is_atom false (λ x. refl) (λ f ts us. refl) settled cell u named_u)
  found_renamed kind.Atomic = ap decided (kind_renamed is_atomic false (λ x. refl) (λ f ts us. refl) settled cell u named_u)
  found_renamed kind.Compound = ap decided (kind_renamed is_compound false (λ x. refl) (λ f ts us. refl) settled cell u named_u)
  found_renamed kind.Write = refl
  found_renamed kind.Nl = refl
  found_renamed kind.FdMin = numbers (λ ns. Int (least_number ns)) (λ ns. refl)
  found_renamed kind.FdMax = numbers (λ ns. Int (greatest_number ns)) (λ ns. refl)
  found_renamed kind.FdSize = numbers (λ ns. Int (number_count ns)) (λ ns. refl)
  found_renamed kind.FdDom = numbers interval_list (list_stays look)
