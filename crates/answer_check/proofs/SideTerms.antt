-- The sides of comparisons: what they are as terms of a range, and a turn of the walk that spells them.
use Rattle.std.proofs.Common.{◌≡◌, ℕ, ◌+◌, ◌*◌, ◌<◌, ◌≤◌, Bool, true, false, cond, ◌&&◌, ◌||◌, ℤ, pos, neg_ℤ, ◌+ℤ◌, ◌-ℤ◌, ◌*ℤ◌, List, [], ◌∷◌, ◌++◌, length}
use Rattle.std.proofs.Common.{Option, Some, None, refl, sym, ap, ◌∙◌, subst, arith, append-nil, zero-add, true≢false}
use Rattle.std.specs.Prelude.{All, codes, option_and_then, Result, Ok, Err, IfOk}
use Rattle.std.specs.Str.{bytes_eq}
use Rattle.std.proofs.Math.IntN.{+ℤ_idl}
use Rattle.std.proofs.lemmas.Bool.{and_parts}
use Rattle.std.proofs.lemmas.List.Elements.{All-nil, All-cons, All-append}
use Rattle.std.proofs.lemmas.Option.{same_Some}
use Rattle.fd_language.specs.declared.TheConstants.{INFINITY}
use Rattle.fd_language.specs.declared.range_node.RangeNode.{RangeNode}
use Rattle.fd_language.specs.declared.range_node.RangeNode.TheVariants as node
use Rattle.fd_language.specs.Range.{Span, Expr, Number, Add, Sub, Mul, is_none_left}
use Rattle.fd_language.specs.RangeVerdict.{bound}
use Rattle.fd_language.specs.Term.{Name, Term, Var, Int, Atom, Comp, no_terms, term}
use Rattle.fd_language.specs.Variables.{variables_of}
use Rattle.fd_language.proofs.Lemmas.{two}
use Rattle.fd_model.specs.FlatConstraints.{width, is_narrow, is_ground, is_operator, is_flat}
use Rattle.fd_model.specs.Satisfaction.{Assignment, worth, operation}
use Rattle.term_pool.specs.declared.TermId.{TermId}
use Rattle.term_pool.specs.Contents.{Contents}
use Rattle.term_pool.specs.Terms.{term_of, terms_by, size}
use Rattle.term_pool.proofs.Lemmas.{size_above_zero}
use Rattle.answer_check.specs.declared.sides.Task.{Task}
use Rattle.answer_check.specs.declared.sides.Task.TheVariants as task
use Rattle.answer_check.specs.declared.sides.Spelling.{Spelling}
use Rattle.answer_check.specs.Sides.{operation_by, expr_of, flat_side, operator_in, is_ground_expr, Holds, made_by, may_join, joined, alone, before, step, run}
use Rattle.answer_check.specs.Sides.{task_weight, load, IsOperator, IsOf, Applies, Does, IsDone, IsLeft, interval_in, sides_in}
use Rattle.answer_check.specs.OperandStack.{value_by}

-- ---- sides as terms of a range

binary_bound : (f : Name) (d e : Expr) (m n : ℕ) → bound INFINITY d ≡ m → bound INFINITY e ≡ n
    → bound INFINITY (operation_by f d e) ≡ cond (bytes_eq f (codes "+") || bytes_eq f (codes "-")) (m + n) (m * n)
binary_bound f d e m n h g = by (bytes_eq f (codes "+")) (bytes_eq f (codes "-")) where
  by : (p q : Bool) → bound INFINITY (cond p (Add d e) (cond q (Sub d e) (Mul d e))) ≡ cond (p || q) (m + n) (m * n)
  by true q = two (λ x y. x + y) h g
  by false true = two (λ x y. x + y) h g
  by false false = two (λ x y. x * y) h g

pub width_is : (t : Term) → bound INFINITY (expr_of t) ≡ width INFINITY t
width_is (Var x) = refl
width_is (Int z) = refl
width_is (Atom a) = refl
width_is (Comp f no_terms) = refl
width_is (Comp f (term s no_terms)) = zero-add (bound INFINITY (expr_of s)) ∙ width_is s
width_is (Comp f (term s (term t no_terms))) = binary_bound f (expr_of s) (expr_of t) (width INFINITY s) (width INFINITY t) (width_is s) (width_is t)
width_is (Comp f (term s (term t (term u us)))) = refl

module _ (a : Assignment) where
  binary_value : (f : Name) (d e : Expr) (x y : ℤ) → value_by a d ≡ x → value_by a e ≡ y → value_by a (operation_by f d e) ≡ operation f x y
  binary_value f d e x y h g = by (bytes_eq f (codes "+")) (bytes_eq f (codes "-")) where
    by : (p q : Bool) → value_by a (cond p (Add d e) (cond q (Sub d e) (Mul d e))) ≡ cond p (x +ℤ y) (cond q (x -ℤ y) (x *ℤ y))
    by true q = two (λ u v. u +ℤ v) h g
    by false true = two (λ u v. u -ℤ v) h g
    by false false = two (λ u v. u *ℤ v) h g

  -- a side has the value that it is worth
  pub value_is : (t : Term) → value_by a (expr_of t) ≡ worth a t
  value_is (Var x) = refl
  value_is (Int z) = refl
  value_is (Atom b) = refl
  value_is (Comp f no_terms) = refl
  value_is (Comp f (term s no_terms)) = +ℤ_idl (neg_ℤ (value_by a (expr_of s))) ∙ ap neg_ℤ (value_is s)
  value_is (Comp f (term s (term t no_terms))) = binary_value f (expr_of s) (expr_of t) (worth a s) (worth a t) (value_is s) (value_is t)
  value_is (Comp f (term s (term t (term u us)))) = refl

-- ---- flat sides

none_left_append : (xs ys : List ℕ) → is_none_left (xs ++ ys) ≡ (is_none_left xs && is_none_left ys)
none_left_append [] ys = refl
none_left_append (x ∷ xs) ys = refl

pub flat_narrow : (t : Term) → is_flat INFINITY t ≡ true → is_narrow (width INFINITY t) ≡ true
flat_narrow (Var x) h = h
flat_narrow (Int z) h = h
flat_narrow (Atom a) h = absurd (true≢false (sym h))
flat_narrow (Comp f no_terms) h = absurd (true≢false (sym h))
flat_narrow (Comp f (term s no_terms)) h = flat_narrow s ((and_parts (bytes_eq f (codes "-")) (is_flat INFINITY s) h).1)
flat_narrow (Comp f (term s (term t no_terms))) h =
    let w = is_narrow (width INFINITY (Comp f (term s (term t no_terms)))) in
    let both = and_parts (is_flat INFINITY s && is_flat INFINITY t) (is_operator f s t && w) h in
    (and_parts (is_operator f s t) w both.1).1
flat_narrow (Comp f (term s (term t (term u us)))) h = absurd (true≢false (sym h))

ground_by : (f : Name) (d e : Expr) (p q : Bool) → is_ground_expr d ≡ p → is_ground_expr e ≡ q → is_ground_expr (operation_by f d e) ≡ (p && q)
ground_by f d e p q h g = by (bytes_eq f (codes "+")) (bytes_eq f (codes "-")) where
  by : (x y : Bool) → is_ground_expr (cond x (Add d e) (cond y (Sub d e) (Mul d e))) ≡ (p && q)
  by true y = two (λ u v. u && v) h g
  by false true = two (λ u v. u && v) h g
  by false false = two (λ u v. u && v) h g

pub ground_is : (t : Term) → is_flat INFINITY t ≡ true → is_ground_expr (expr_of t) ≡ is_ground t
ground_is (Var x) h = refl
ground_is (Int z) h = refl
ground_is (Atom a) h = refl
ground_is (Comp f no_terms) h = refl
ground_is (Comp f (term s no_terms)) h = ground_is s ((and_parts (bytes_eq f (codes "-")) (is_flat INFINITY s) h).1) ∙ ap is_none_left (sym (append-nil (variables_of s)))
ground_is (Comp f (term s (term t no_terms))) h =
    let w = is_narrow (width INFINITY (Comp f (term s (term t no_terms)))) in
    let both = and_parts (is_flat INFINITY s && is_flat INFINITY t) (is_operator f s t && w) h in
    let sides = and_parts (is_flat INFINITY s) (is_flat INFINITY t) both.0 in
    ground_by f (expr_of s) (expr_of t) (is_ground s) (is_ground t) (ground_is s sides.0) (ground_is t sides.1)
    ∙ sym (none_left_append (variables_of s) (variables_of t ++ []) ∙ ap (λ xs. is_none_left (variables_of s) && is_none_left xs) (append-nil (variables_of t)))
ground_is (Comp f (term s (term t (term u us)))) h = absurd (true≢false (sym h))

-- ---- lists of tasks

one_in_turn : {A B C : Type 0} (g : B → Option C) (f : A → Option B) (o : Option A) → option_and_then g (option_and_then f o) ≡ option_and_then (λ x. option_and_then g (f x)) o
one_in_turn g f (Some x) = refl
one_in_turn g f None = refl

pub run-append : (c : Contents) (ks more : List Task) (es : List Expr) → run c (ks ++ more) es ≡ option_and_then (run c ks) (run c more es)
run-append c [] more es = by (run c more es) where
  by : (o : Option (List Expr)) → o ≡ option_and_then (λ fs. Some fs) o
  by (Some fs) = refl
  by None = refl
run-append c (k ∷ ks) more es = ap (option_and_then (step c k)) (run-append c ks more es) ∙ one_in_turn (step c k) (run c ks) (run c more es)

pub load-append : (c : Contents) (ks more : List Task) → load c (ks ++ more) ≡ load c ks + load c more
unfolding load
load-append c [] more = omega arith
load-append c (k ∷ ks) more = omega (arith, load-append c ks more)

pub load_one : (c : Contents) (k : Task) → load c (k ∷ []) ≡ task_weight c k
unfolding load
load_one c k = omega arith

load_none : (c : Contents) → load c [] ≡ 0
unfolding load
load_none c = refl

load_two : (c : Contents) (k l : Task) → load c (k ∷ l ∷ []) ≡ task_weight c k + task_weight c l
unfolding load
load_two c k l = omega arith

load_three : (c : Contents) (k l m : Task) → load c (k ∷ l ∷ m ∷ []) ≡ task_weight c k + task_weight c l + task_weight c m
unfolding load
load_three c k l m = omega arith

weight_positive : (c : Contents) (k : Task) → 0 < task_weight c k
weight_positive c (task.Spell t) = let h = size_above_zero (term_of c t) in omega arith
weight_positive c (task.Put n) = omega arith

-- ---- what is done at once

pub done_at_once : (c : Contents) (k : Task) (old new : Spelling) (ahead : List Task) (op : List Expr → Option (List Expr)) (b : Bool)
    → ((es : List Expr) → step c k es ≡ op es) → Applies op old new b → IsDone c k old ahead new ahead b
done_at_once c k old new ahead op true same h = record {
  more = [];
  pushed = sym (append-nil ahead);
  made = λ es g. let r = h es g in (r.0, sym r.1 ∙ sym (same es), r.2);
  lighter = (let e = load_none c in let f = weight_positive c k in omega arith);
  within = All-nil (IsOf c);
}
done_at_once c k old new ahead op false same h = λ es g. same es ∙ h es g

-- a variable or an integer
pub done_alone : (c : Contents) (t : TermId) (e : Expr) (x : Term) → term_of c t ≡ x → is_flat INFINITY x ≡ is_narrow (bound INFINITY e) → expr_of x ≡ e
    → (es : List Expr) → step c (task.Spell t) es ≡ alone e es
done_alone c t e x is narrow same es =
    ap (λ y. before (flat_side y) es) is
    ∙ ap (λ b. before (cond b (Some (expr_of x)) None) es) narrow
    ∙ ap (λ d. before (cond (is_narrow (bound INFINITY e)) (Some d) None) es) same
    ∙ by (is_narrow (bound INFINITY e)) where
      by : (b : Bool) → before (cond b (Some e) None) es ≡ cond b (Some (e ∷ es)) None
      by true = refl
      by false = refl

pub weaker : {A E : Type 0} (P Q : A → Type 0) (r : Result A E) → ((x : A) → P x → Q x) → IfOk r P → IfOk r Q
weaker P Q (Ok x) f h = f x h
weaker P Q (Err e) f h = tt

-- ---- an operator of two terms

module _ (f : Name) (s t : Term) where
  abbrev both : Term
  both = Comp f (term s (term t no_terms))

  pub record IsJoin (n : RangeNode) : Type 0 where
    pub operator : IsOperator n
    pub test : is_flat INFINITY s ≡ true → is_flat INFINITY t ≡ true → may_join n (expr_of s) (expr_of t) ≡ (is_operator f s t && is_narrow (width INFINITY both))
    pub made : made_by n (expr_of s) (expr_of t) ≡ expr_of both

  sum_test : may_join node.Add (expr_of s) (expr_of t) ≡ is_narrow (width INFINITY s + width INFINITY t)
  sum_test = ap is_narrow (two (λ x y. x + y) (width_is s) (width_is t))

  product_test : is_flat INFINITY s ≡ true → is_flat INFINITY t ≡ true → may_join node.Mul (expr_of s) (expr_of t) ≡ ((is_ground s || is_ground t) && is_narrow (width INFINITY s * width INFINITY t))
  product_test h g = two (λ x y. x && y) (two (λ x y. x || y) (ground_is s h) (ground_is t g)) (ap is_narrow (two (λ x y. x * y) (width_is s) (width_is t)))

  -- by the names of the operators
  join_by : (n : RangeNode) (p q r : Bool) → bytes_eq f (codes "+") ≡ p → bytes_eq f (codes "-") ≡ q → bytes_eq f (codes "*") ≡ r
      → cond p (Some node.Add) (cond q (Some node.Sub) (cond r (Some node.Mul) None)) ≡ Some n → IsJoin n
  join_by n true q r e g h i = let is : node.Add ≡ n = cc in subst IsJoin is (record {
    operator = tt;
    test = λ x y. sum_test ∙ sym (rw e refl);
    made = rw e refl;
  })
  join_by n false true r e g h i = let is : node.Sub ≡ n = cc in subst IsJoin is (record {
    operator = tt;
    test = λ x y. sum_test ∙ sym (rw (e, g) refl);
    made = rw (e, g) refl;
  })
  join_by n false false true e g h i = let is : node.Mul ≡ n = cc in subst IsJoin is (record {
    operator = tt;
    test = λ x y. product_test x y ∙ sym (rw (e, g, h) refl);
    made = rw (e, g) refl;
  })
  join_by n false false false e g h i = absurd (cc)

  pub join_is : (n : RangeNode) → operator_in f ≡ Some n → IsJoin n
  join_is n h = join_by n (bytes_eq f (codes "+")) (bytes_eq f (codes "-")) (bytes_eq f (codes "*")) refl refl refl h

  no_operator : operator_in f ≡ None → is_operator f s t ≡ false
  no_operator h = by (bytes_eq f (codes "+")) (bytes_eq f (codes "-")) (bytes_eq f (codes "*")) h where
    by : (p q r : Bool) → cond p (Some node.Add) (cond q (Some node.Sub) (cond r (Some node.Mul) None)) ≡ None → (p || (q || (r && (is_ground s || is_ground t)))) ≡ false
    by true q r h = absurd (cc)
    by false true r h = absurd (cc)
    by false false true h = absurd (cc)
    by false false false h = refl

  and_none : (p : Bool) → (p && false) ≡ false
  and_none true = refl
  and_none false = refl

  pub not_flat : operator_in f ≡ None → is_flat INFINITY both ≡ false
  not_flat h = ap (λ b. (is_flat INFINITY s && is_flat INFINITY t) && (b && is_narrow (width INFINITY both))) (no_operator h) ∙ and_none (is_flat INFINITY s && is_flat INFINITY t)

  abbrev later : Bool
  later = is_operator f s t && is_narrow (width INFINITY both)

  -- what comes of the tasks of an operator
  joined_is : (n : RangeNode) (es : List Expr) → IsJoin n
      → option_and_then (joined n) (option_and_then (λ fs. before (flat_side t) fs) (before (flat_side s) es)) ≡ before (flat_side both) es
  joined_is n es j = by (is_flat INFINITY s) (is_flat INFINITY t) refl refl where
    last : (m b : Bool) → m ≡ b → cond m (Some (made_by n (expr_of s) (expr_of t) ∷ es)) None ≡ before (cond b (Some (expr_of both)) None) es
    last true true e = ap (λ x. Some (x ∷ es)) j.made
    last true false e = absurd (true≢false e)
    last false true e = absurd (true≢false (sym e))
    last false false e = refl

    by : (p q : Bool) → is_flat INFINITY s ≡ p → is_flat INFINITY t ≡ q
        → option_and_then (joined n) (option_and_then (λ fs. before (cond q (Some (expr_of t)) None) fs) (before (cond p (Some (expr_of s)) None) es)) ≡ before
        (cond ((p && q) && later) (Some (expr_of both)) None) es
    by false q e g = refl
    by true false e g = refl
    by true true e g = last (may_join n (expr_of s) (expr_of t)) later (j.test e g)

pub operator_done : (c : Contents) (t a b : TermId) (f : Name) (n : RangeNode) (old : Spelling) (ahead new_ahead : List Task)
    → term_of c t ≡ Comp f (term (term_of c a) (term (term_of c b) no_terms)) → a.number < length c.entries → b.number < length c.entries
    → operator_in f ≡ Some n → new_ahead ≡ ahead ++ task.Put n ∷ task.Spell b ∷ task.Spell a ∷ [] → IsDone c (task.Spell t) old ahead old new_ahead true
operator_done c t a b f n old ahead new_ahead is la lb op pushed =
    let j = join_is f (term_of c a) (term_of c b) n op in
    record {
      more = task.Put n ∷ task.Spell b ∷ task.Spell a ∷ [];
      pushed = pushed;
      made = λ es h. (es, joined_is f (term_of c a) (term_of c b) n es j ∙ sym (ap (λ x. before (flat_side x) es) is), h);
      lighter = (let l = load_three c (task.Put n) (task.Spell b) (task.Spell a) in
          let w : size (term_of c t) ≡ 1 + (size (term_of c a) + (size (term_of c b) + 0)) = ap size is in omega (arith, l, w));
      within = All-cons (IsOf c) (task.Put n) (task.Spell b ∷ task.Spell a ∷ []) j.operator
          (All-cons (IsOf c) (task.Spell b) (task.Spell a ∷ []) lb (All-cons (IsOf c) (task.Spell a) [] la (All-nil (IsOf c))));
    }

pub none_done : (c : Contents) (t : TermId) (old new : Spelling) (ahead new_ahead : List Task) → is_flat INFINITY (term_of c t) ≡ false → IsDone c (task.Spell t) old ahead new new_ahead false
none_done c t old new ahead new_ahead e = λ es h. ap (λ b. before (cond b (Some (expr_of (term_of c t))) None) es) e

-- a term of three parts or more
pub many_not_flat : (x : Term) (f : Name) (by : TermId → Term) (ts : List TermId) → x ≡ Comp f (terms_by by ts) → 3 ≤ length ts → is_flat INFINITY x ≡ false
many_not_flat x f by ts e h = ap (is_flat INFINITY) e ∙ go ts h where
  go : (ts : List TermId) → 3 ≤ length ts → is_flat INFINITY (Comp f (terms_by by ts)) ≡ false
  go [] h = absurd (omega arith)
  go (a ∷ []) h = absurd (omega arith)
  go (a ∷ b ∷ []) h = absurd (omega arith)
  go (a ∷ b ∷ d ∷ ts) h = refl

-- ---- the operator of one term

module _ (s : Term) where
  abbrev negated : Name → Term
  negated f = Comp f (term s no_terms)

  minus_is : (f : Name) (es : List Expr) → f ≡ codes "-" → option_and_then (joined node.Sub) (before (flat_side s) (Number (pos 0) ∷ es)) ≡ before (flat_side (negated f)) es
  minus_is f es is = by (is_flat INFINITY s) refl ∙ sym (ap (λ g. before (flat_side (negated g)) es) is) where
    narrow : is_flat INFINITY s ≡ true → is_narrow (0 + bound INFINITY (expr_of s)) ≡ true
    narrow h = ap is_narrow (zero-add (bound INFINITY (expr_of s)) ∙ width_is s) ∙ flat_narrow s h

    by : (p : Bool) → is_flat INFINITY s ≡ p → option_and_then (joined node.Sub) (before (cond p (Some (expr_of s)) None) (Number (pos 0) ∷ es)) ≡ before
        (cond p (Some (Sub (Number (pos 0)) (expr_of s))) None) es
    by false e = refl
    by true e = ap (λ b. cond b (Some (Sub (Number (pos 0)) (expr_of s) ∷ es)) None) (narrow e)

pub minus_done : (c : Contents) (t a : TermId) (f : Name) (old new : Spelling) (ahead new_ahead : List Task)
    → term_of c t ≡ Comp f (term (term_of c a) no_terms) → a.number < length c.entries → f ≡ codes "-"
    → new_ahead ≡ ahead ++ task.Put node.Sub ∷ task.Spell a ∷ [] → (b : Bool) → Applies (alone (Number (pos 0))) old new b → IsDone c (task.Spell t) old ahead new new_ahead b
minus_done c t a f old new ahead new_ahead is la name pushed true h = record {
  more = task.Put node.Sub ∷ task.Spell a ∷ [];
  pushed = pushed;
  made = λ es g. (
      let r = h es g in
      let same : Number (pos 0) ∷ es ≡ r.0 = cc in
      (r.0, subst (λ fs. run c (task.Put node.Sub ∷ task.Spell a ∷ []) fs ≡ step c (task.Spell t) es) same (minus_is (term_of c a) f es name ∙ sym (ap (λ x. before (flat_side x) es) is)), r.2)
      );
  lighter = (let l = load_two c (task.Put node.Sub) (task.Spell a) in let w : size (term_of c t) ≡ 1 + (size (term_of c a) + 0) = ap size is in omega (arith, l, w));
  within = All-cons (IsOf c) (task.Put node.Sub) (task.Spell a ∷ []) tt (All-cons (IsOf c) (task.Spell a) [] la (All-nil (IsOf c)));
}
minus_done c t a f old new ahead new_ahead is la name pushed false h = λ es g. let r = h es g in absurd (cc)

-- ---- the walk

one_step : (c : Contents) (k : Task) (es : List Expr) → run c (k ∷ []) es ≡ step c k es
one_step c k es = refl

pub smaller_load : (c : Contents) (k : Task) (old new : Spelling) (rest ahead : List Task) → Does c k old rest new ahead → load c ahead < load c (rest ++ k ∷ [])
smaller_load c k old new rest ahead d =
    let e = ap (load c) d.pushed ∙ load-append c rest d.more in
    let f = load-append c rest (k ∷ []) in
    let g = load_one c k in
    let l = d.lighter in
    omega (arith, e, f, g, l)

pub sides_start : (c : Contents) (left right : TermId) (made : Spelling) (ahead : List Task) → ahead ≡ task.Spell right ∷ task.Spell left ∷ [] → Holds made []
    → left.number < length c.entries → right.number < length c.entries → IsLeft c (run c (task.Spell right ∷ task.Spell left ∷ []) []) made ahead
sides_start c left right made ahead e h l r = record {
  terms = [];
  is = ap (λ ks. run c ks []) e;
  holds = h;
  within = subst (All (IsOf c)) (sym e) (All-cons (IsOf c) (task.Spell right) (task.Spell left ∷ []) r (All-cons (IsOf c) (task.Spell left) [] l (All-nil (IsOf c))));
}

pub still_left : (c : Contents) (aim : Option (List Expr)) (k : Task) (old new : Spelling) (rest next : List Task) → Does c k old rest new next
    → IsLeft c aim old (rest ++ k ∷ []) → All (IsOf c) rest → IsLeft c aim new next
still_left c aim k old new rest next d i w =
    let m = d.made i.terms i.holds in
    record {
      terms = m.0;
      is = ap (λ ks. run c ks m.0) d.pushed ∙ run-append c rest d.more m.0 ∙ ap (option_and_then (run c rest)) (m.1 ∙ sym (one_step c k i.terms)) ∙ sym (run-append c rest (k ∷ []) i.terms) ∙ i.is;
      holds = m.2;
      within = subst (All (IsOf c)) (sym d.pushed) (All-append (IsOf c) rest d.more w d.within);
    }

-- nothing comes of it
pub none_left : (c : Contents) (aim : Option (List Expr)) (k : Task) (old : Spelling) (rest : List Task)
    → ((es : List Expr) → Holds old es → step c k es ≡ None) → IsLeft c aim old (rest ++ k ∷ []) → aim ≡ None
none_left c aim k old rest f i = sym i.is ∙ run-append c rest (k ∷ []) i.terms ∙ ap (option_and_then (run c rest)) (one_step c k i.terms ∙ f i.terms i.holds)

-- both sides are spelled
pub sides_made : (c : Contents) (left right : TermId) (es : List Expr) → run c (task.Spell right ∷ task.Spell left ∷ []) [] ≡ Some es
    → (es ≡ expr_of (term_of c right) ∷ expr_of (term_of c left) ∷ []) × (is_flat INFINITY (term_of c left) ≡ true)
    × (is_flat INFINITY (term_of c right) ≡ true)
sides_made c left right es e = by (is_flat INFINITY (term_of c left)) (is_flat INFINITY (term_of c right)) refl refl e where
  d : Expr
  d = expr_of (term_of c left)

  r : Expr
  r = expr_of (term_of c right)

  by : (p q : Bool) → is_flat INFINITY (term_of c left) ≡ p → is_flat INFINITY (term_of c right) ≡ q
      → option_and_then (λ fs. before (cond q (Some r) None) fs) (before (cond p (Some d) None) []) ≡ Some es
      → (es ≡ r ∷ d ∷ []) × (is_flat INFINITY (term_of c left) ≡ true) × (is_flat INFINITY (term_of c right) ≡ true)
  by true true f g e = (sym (same_Some (r ∷ d ∷ []) es e), f, g)
  by true false f g e = absurd (cc (e))
  by false q f g e = absurd (cc (e))

-- or one of them isn't flat
pub sides_unmade : (c : Contents) (left right : TermId) → run c (task.Spell right ∷ task.Spell left ∷ []) [] ≡ None → None ≡ sides_in (term_of c left) (term_of c right)
sides_unmade c left right e = by (is_flat INFINITY (term_of c left)) (is_flat INFINITY (term_of c right)) e where
  d : Expr
  d = expr_of (term_of c left)

  r : Expr
  r = expr_of (term_of c right)

  by : (p q : Bool) → option_and_then (λ fs. before (cond q (Some r) None) fs) (before (cond p (Some d) None) []) ≡ None
      → None ≡ cond ((p && q) && is_narrow (width INFINITY (term_of c left) + width INFINITY (term_of c right))) (Some (Span d r)) None
  by true true e = absurd (cc (e))
  by true false e = refl
  by false q e = refl

pub sides_between : (s t : Term) → is_flat INFINITY s ≡ true → is_flat INFINITY t ≡ true → interval_in (expr_of s) (expr_of t) ≡ sides_in s t
sides_between s t f g =
    ap (λ n. cond (is_narrow n) (Some (Span (expr_of s) (expr_of t))) None) (two (λ x y. x + y) (width_is s) (width_is t))
    ∙ sym (ap (λ b. cond (b && is_narrow (width INFINITY s + width INFINITY t)) (Some (Span (expr_of s) (expr_of t))) None) (ap (λ b. b && is_flat INFINITY t) f ∙ g))
