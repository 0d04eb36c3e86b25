-- A turn of the walk.
use Rattle.std.proofs.Common.{◌≡◌, ℕ, ◌+◌, ◌*◌, ◌<◌, ◌≤◌, Bool, true, false, cond, not, negsuc, List, [], ◌∷◌, ◌++◌, length, None, Some, Result, Ok, Err, refl}
use Rattle.std.proofs.Common.{sym, ap, subst, ◌∙◌, arith, append-nil}
use Rattle.std.specs.Prelude.{All, codes, MatchResult}
use Rattle.std.specs.Str.{bytes_eq}
use Rattle.std.proofs.lemmas.List.Elements.{All-nil, All-cons, All-head, All-tail, All-append, All-weaker}
use Rattle.fd_language.specs.Term.{Name, Term, Comp, no_terms, term}
use Rattle.fd_model.specs.declared.kinds.QueryFault.{QueryFault}
use Rattle.fd_model.specs.declared.kinds.QueryFault.TheVariants.{BadType}
use Rattle.fd_model.specs.Linear as linear
use Rattle.fd_model.specs.Linear.{of_one, of_both, sum_of, difference_of, product_of, collect_term, checked, times}
use Rattle.term_pool.specs.declared.AtomId.{AtomId}
use Rattle.term_pool.specs.declared.TermId.{TermId}
use Rattle.term_pool.specs.Contents as pool
use Rattle.term_pool.specs.Contents.{Contents, shape_at, atom_name}
use Rattle.term_pool.specs.Terms.{term_of, terms_by, size, total_size}
use Rattle.term_pool.specs.PoolInvariant.{IsPool}
use Rattle.term_pool.proofs.Lemmas.{term_of_shape, shape_within, size_of_shape, total_size-nil, total_size-cons}
use Rattle.linear_forms.specs.declared.LinearFault.{LinearFault}
use Rattle.linear_forms.specs.declared.LinearFault.TheVariants as fault
use Rattle.linear_forms.specs.declared.sums.Sum.{Sum}
use Rattle.linear_forms.specs.declared.walk.Task.{Task}
use Rattle.linear_forms.specs.declared.walk.Task.TheVariants as task
use Rattle.linear_forms.specs.declared.walk.Made.{Made}
use Rattle.linear_forms.specs.declared.Linear.{Linear}
use Rattle.linear_forms.specs.LinearForm.{form_of, IsFaultOf}
use Rattle.linear_forms.specs.Shares.{OverflowsBy}
use Rattle.linear_forms.specs.Sums.{signed}
use Rattle.linear_forms.specs.Tasks.{before, on_two, step, run, task_weight, load, IsOf, operator_tasks, compound_tasks, Opens, AreSums, Makes, Applies, Does}
use Rattle.linear_forms.specs.Tasks.{Refuses, IsLeft}
use Rattle.linear_forms.proofs.Signs.{sum_signed, difference_signed, product_signed, opposite_signed}

-- ---- lists of tasks
one_in_turn : {A B C : Type 0} (g : B → Result C QueryFault) (f : A → Result B QueryFault) (r : Result A QueryFault) → of_one g (of_one f r) ≡ of_one (λ a. of_one g (f a)) r
one_in_turn g f (Ok a) = refl
one_in_turn g f (Err e) = refl

pub run-append : (c : Contents) (ks more : List Task) (ss : List linear.Sum) → run c (ks ++ more) ss ≡ of_one (run c ks) (run c more ss)
run-append c [] more ss = by (run c more ss) where
  by : (r : Result (List linear.Sum) QueryFault) → r ≡ of_one (λ ts. Ok ts) r
  by (Ok ts) = refl
  by (Err f) = refl
run-append c (k ∷ ks) more ss = ap (of_one (step c k)) (run-append c ks more ss) ∙ one_in_turn (step c k) (run c ks) (run c more ss)

pub load-append : (c : Contents) (ks more : List Task) → load c (ks ++ more) ≡ load c ks + load c more
unfolding load
load-append c [] more = omega arith
load-append c (k ∷ ks) more = omega (arith, load-append c ks more)

load_one : (c : Contents) (k : Task) → load c (k ∷ []) ≡ task_weight c k
unfolding load
load_one c k = omega arith

load_none : (c : Contents) → load c [] ≡ 0
unfolding load
load_none c = refl

load_three : (c : Contents) (k l m : Task) → load c (k ∷ l ∷ m ∷ []) ≡ task_weight c k + task_weight c l + task_weight c m
unfolding load
load_three c k l m = omega arith

weight_positive : (c : Contents) (k : Task) → 0 < task_weight c k
weight_positive c (task.Collect t n) = let h = size_positive (term_of c t) in omega arith
  where
    size_positive : (t : Term) → 0 < size t
    size_positive (Comp f ts) = omega arith
    size_positive t = omega arith
weight_positive c task.Add = omega arith
weight_positive c task.Multiply = omega arith

-- what needs no more tasks
pub done_at_once : (c : Contents) (k : Task) (old new : Made) (ahead : List Task)
    → ((ss : List linear.Sum) → Makes old ss → (ts : List linear.Sum) × (step c k ss ≡ Ok ts) × Makes new ts) → Does c k old ahead new ahead
done_at_once c k old new ahead h = record {
  more = [];
  pushed = sym (append-nil ahead);
  made = λ ss a. let r = h ss a in (r.0, sym r.1, r.2);
  lighter = let e = load_none c in let f = weight_positive c k in omega arith;
  within = All-nil (IsOf c);
}

-- ---- a compound term
two_in_turn : (c : Contents) (k : Task) (op : linear.Sum → linear.Sum → Result linear.Sum QueryFault) (ss : List linear.Sum)
    (r q : Result linear.Sum QueryFault) → ((ts : List linear.Sum) → step c k ts ≡ on_two op ts)
    → of_one (step c k) (of_one (λ ts. before ts q) (of_one (λ ts. before ts r) (Ok ss))) ≡ before ss (of_both op r q)
two_in_turn c k op ss (Ok s) (Ok t) h = h (t ∷ s ∷ ss)
two_in_turn c k op ss (Ok s) (Err f) h = refl
two_in_turn c k op ss (Err f) q h = refl

module _ (c : Contents) (a b : TermId) (n : Bool) (ss : List linear.Sum) where
  add_run : run c (task.Add ∷ task.Collect b n ∷ task.Collect a n ∷ []) ss ≡ before ss (signed n (of_both sum_of (collect_term (term_of c a)) (collect_term (term_of c b))))
  add_run = two_in_turn c task.Add sum_of ss (signed n (collect_term (term_of c a))) (signed n (collect_term (term_of c b))) (λ ts. refl)
      ∙ ap (before ss) (sum_signed n (collect_term (term_of c a)) (collect_term (term_of c b)))

  pub subtract_run : run c (task.Add ∷ task.Collect b (not n) ∷ task.Collect a n ∷ []) ss ≡ before ss (signed n (of_both difference_of (collect_term (term_of c a)) (collect_term (term_of c b))))
  subtract_run = two_in_turn c task.Add sum_of ss (signed n (collect_term (term_of c a))) (signed (not n) (collect_term (term_of c b))) (λ ts. refl)
      ∙ ap (before ss) (difference_signed n (collect_term (term_of c a)) (collect_term (term_of c b)))

  multiply_run : run c (task.Multiply ∷ task.Collect b n ∷ task.Collect a false ∷ []) ss ≡ before ss (signed n (of_both product_of (collect_term (term_of c a)) (collect_term (term_of c b))))
  multiply_run = two_in_turn c task.Multiply product_of ss (collect_term (term_of c a)) (signed n (collect_term (term_of c b))) (λ ts. refl)
      ∙ ap (before ss) (product_signed n (collect_term (term_of c a)) (collect_term (term_of c b)))

  operator_run : (f : Name) (more : List Task) → operator_tasks f a b n ≡ Some more → run c more ss ≡ before ss (signed n (collect_term (Comp f (term (term_of c a) (term (term_of c b) no_terms)))))
  operator_run f more = by (bytes_eq f (codes "+")) (bytes_eq f (codes "-")) (bytes_eq f (codes "*")) where
    x : Result linear.Sum QueryFault
    x = collect_term (term_of c a)

    y : Result linear.Sum QueryFault
    y = collect_term (term_of c b)

    by : (p q r : Bool)
        → cond p (Some (task.Add ∷ task.Collect b n ∷ task.Collect a n ∷ []))
        (cond q (Some (task.Add ∷ task.Collect b (not n) ∷ task.Collect a n ∷ []))
        (cond r (Some (task.Multiply ∷ task.Collect b n ∷ task.Collect a false ∷ [])) None)) ≡ Some more
        → run c more ss ≡ before ss (signed n (cond p (of_both sum_of (collect_term (term_of c a)) (collect_term (term_of c b)))
        (cond q (of_both difference_of (collect_term (term_of c a)) (collect_term (term_of c b)))
        (cond r (of_both product_of (collect_term (term_of c a)) (collect_term (term_of c b))) (Err BadType)))))
    by true q r h = let e : task.Add ∷ task.Collect b n ∷ task.Collect a n ∷ [] ≡ more = cc in ap (λ ks. run c ks ss) (sym e) ∙ add_run
    by false true r h = let e : task.Add ∷ task.Collect b (not n) ∷ task.Collect a n ∷ [] ≡ more = cc in ap (λ ks. run c ks ss) (sym e) ∙ subtract_run
    by false false true h = let e : task.Multiply ∷ task.Collect b n ∷ task.Collect a false ∷ [] ≡ more = cc in ap (λ ks. run c ks ss) (sym e) ∙ multiply_run
    by false false false h = absurd (cc)

  operator_none : (f : Name) → operator_tasks f a b n ≡ None → collect_term (Comp f (term (term_of c a) (term (term_of c b) no_terms))) ≡ Err BadType
  operator_none f = by (bytes_eq f (codes "+")) (bytes_eq f (codes "-")) (bytes_eq f (codes "*")) where
    by : (p q r : Bool)
        → cond p (Some (task.Add ∷ task.Collect b n ∷ task.Collect a n ∷ []))
        (cond q (Some (task.Add ∷ task.Collect b (not n) ∷ task.Collect a n ∷ []))
        (cond r (Some (task.Multiply ∷ task.Collect b n ∷ task.Collect a false ∷ [])) None)) ≡ None
        → cond p (of_both sum_of (collect_term (term_of c a)) (collect_term (term_of c b)))
        (cond q (of_both difference_of (collect_term (term_of c a)) (collect_term (term_of c b)))
        (cond r (of_both product_of (collect_term (term_of c a)) (collect_term (term_of c b))) (Err BadType))) ≡ Err BadType
    by true q r h = absurd (cc)
    by false true r h = absurd (cc)
    by false false true h = absurd (cc)
    by false false false h = refl

  -- an operator's tasks are lighter than its term, and of the pool
  operator_light : (f : Name) (more : List Task) → operator_tasks f a b n ≡ Some more → a.number < length c.entries → b.number < length c.entries
      → (load c more ≡ 1 + (2 * size (term_of c b) + 2 * size (term_of c a))) × All (IsOf c) more
  operator_light f more = by (bytes_eq f (codes "+")) (bytes_eq f (codes "-")) (bytes_eq f (codes "*")) where
    three : (k : Task) (p q : Bool) → task_weight c k ≡ 1 → IsOf c k → a.number < length c.entries → b.number < length c.entries
        → k ∷ task.Collect b p ∷ task.Collect a q ∷ [] ≡ more → (load c more ≡ 1 + (2 * size (term_of c b) + 2 * size (term_of c a))) × All (IsOf c) more
    three k p q w o i j e =
        let l : load c (k ∷ task.Collect b p ∷ task.Collect a q ∷ []) ≡ 1 + (2 * size (term_of c b) + 2 * size (term_of c a)) = omega (arith, load_three c k (task.Collect b p) (task.Collect a q)) in (
          ap (load c) (sym e) ∙ l,
          subst (All (IsOf c)) e
              (All-cons (IsOf c) k (task.Collect b p ∷ task.Collect a q ∷ []) o
              (All-cons (IsOf c) (task.Collect b p) (task.Collect a q ∷ []) j (All-cons (IsOf c) (task.Collect a q) [] i (All-nil (IsOf c))))),
        )

    by : (p q r : Bool)
        → cond p (Some (task.Add ∷ task.Collect b n ∷ task.Collect a n ∷ []))
        (cond q (Some (task.Add ∷ task.Collect b (not n) ∷ task.Collect a n ∷ []))
        (cond r (Some (task.Multiply ∷ task.Collect b n ∷ task.Collect a false ∷ [])) None)) ≡ Some more
        → a.number < length c.entries → b.number < length c.entries → (load c more ≡ 1 + (2 * size (term_of c b) + 2 * size (term_of c a))) × All (IsOf c) more
    by true q r h i j = three task.Add n n refl tt i j (cc)
    by false true r h i j = three task.Add (not n) n refl tt i j (cc)
    by false false true h i j = three task.Multiply n false refl tt i j (cc)
    by false false false h i j = absurd (cc)

module _ (c : Contents) (n : Bool) (f : Name) where
  compound_run : (ts : List TermId) (more : List Task) (ss : List linear.Sum) → compound_tasks f ts n ≡ Some more
      → run c more ss ≡ before ss (signed n (collect_term (Comp f (terms_by (term_of c) ts))))
  compound_run [] more ss h = absurd (cc)
  compound_run (a ∷ []) more ss h = by (bytes_eq f (codes "-")) h where
    by : (p : Bool) → cond p (Some (task.Collect a (not n) ∷ [])) None ≡ Some more
        → run c more ss ≡ before ss (signed n (cond p (of_one (λ s. checked (times (negsuc 0) s)) (collect_term (term_of c a))) (Err BadType)))
    by true h = let e : task.Collect a (not n) ∷ [] ≡ more = cc in ap (λ ks. run c ks ss) (sym e) ∙ ap (before ss) (opposite_signed n (term_of c a))
    by false h = absurd (cc)
  compound_run (a ∷ b ∷ []) more ss h = operator_run c a b n ss f more h
  compound_run (a ∷ b ∷ d ∷ ts) more ss h = absurd (cc)

  compound_none : (ts : List TermId) → compound_tasks f ts n ≡ None → collect_term (Comp f (terms_by (term_of c) ts)) ≡ Err BadType
  compound_none [] h = refl
  compound_none (a ∷ []) h = by (bytes_eq f (codes "-")) h where
    by : (p : Bool) → cond p (Some (task.Collect a (not n) ∷ [])) None ≡ None → cond p (of_one (λ s. checked (times (negsuc 0) s)) (collect_term (term_of c a))) (Err BadType) ≡ Err BadType
    by true h = absurd (cc)
    by false h = refl
  compound_none (a ∷ b ∷ []) h = operator_none c a b n [] f h
  compound_none (a ∷ b ∷ d ∷ ts) h = refl

  compound_light : (ts : List TermId) (more : List Task) → compound_tasks f ts n ≡ Some more → All (λ t. t.number < length c.entries) ts → (load c more < 2 * (total_size c ts + 1)) × All (IsOf c) more
  compound_light [] more h w = absurd (cc)
  compound_light (a ∷ []) more h w = by (bytes_eq f (codes "-")) h w where
    by : (p : Bool) → cond p (Some (task.Collect a (not n) ∷ [])) None ≡ Some more → All (λ t. t.number < length c.entries) (a ∷ [])
        → (load c more < 2 * (total_size c (a ∷ []) + 1)) × All (IsOf c) more
    by true h w =
        let e : task.Collect a (not n) ∷ [] ≡ more = cc in
        let l : load c (task.Collect a (not n) ∷ []) < 2 * (total_size c (a ∷ []) + 1) = omega (arith, load_one c (task.Collect a (not n)), total_size-cons c a [], total_size-nil c) in (
          subst (λ (ks : List Task). load c ks < 2 * (total_size c (a ∷ []) + 1)) e l,
          subst (All (IsOf c)) e (All-cons (IsOf c) (task.Collect a (not n)) [] (All-head (λ t. t.number < length c.entries) a [] w) (All-nil (IsOf c))),
        )
    by false h w = absurd (cc)
  compound_light (a ∷ b ∷ []) more h w =
      let inside : TermId → Type 0 = λ t. t.number < length c.entries in
      let r = operator_light c a b n [] f more h (All-head inside a (b ∷ []) w) (All-head inside b [] (All-tail inside a (b ∷ []) w)) in
      let l : load c more < 2 * (total_size c (a ∷ b ∷ []) + 1) = omega (arith, r.0, total_size-cons c a (b ∷ []), total_size-cons c b [], total_size-nil c) in
      (l, r.1)
  compound_light (a ∷ b ∷ d ∷ ts) more h w = absurd (cc)

module _ (c : Contents) (v : IsPool c) (t : TermId) (a : AtomId) (ts : List TermId) (n : Bool) (i : t.number < length c.entries) (h : shape_at c t ≡ Some (pool.comp a ts)) where
  is_compound : term_of c t ≡ Comp (atom_name c a) (terms_by (term_of c) ts)
  is_compound = term_of_shape c v t (pool.comp a ts) h

  parts_of_pool : All (λ u. u.number < length c.entries) ts
  parts_of_pool = All-weaker (λ u. u.number < t.number) (λ u. u.number < length c.entries) (λ u k. omega arith) ts (shape_within c v t (pool.comp a ts) h).1

  pub opened : (old : Made) (ahead new_ahead more : List Task) → compound_tasks (atom_name c a) ts n ≡ Some more → new_ahead ≡ ahead ++ more → Does c (task.Collect t n) old ahead old new_ahead
  opened old ahead new_ahead more e p =
      let l = compound_light c n (atom_name c a) ts more e parts_of_pool in
      let w = size_of_shape c t (pool.comp a ts) is_compound in
      record {
        more = more;
        pushed = p;
        made = λ ss m. (ss, compound_run c n (atom_name c a) ts more ss e ∙ ap (λ u. before ss (signed n (collect_term u))) (sym is_compound), m);
        lighter = omega (arith, l.0, w);
        within = l.1;
      }

  pub not_opened : (old : Made) → compound_tasks (atom_name c a) ts n ≡ None → Refuses c (task.Collect t n) old fault.NotANumber
  not_opened old e ss m = ap (λ u. before ss (signed n (collect_term u))) is_compound ∙ ap (λ r. before ss (signed n r)) (compound_none c n (atom_name c a) ts e) ∙ none n
    where
      none : (n : Bool) → before ss (signed n (Err BadType)) ≡ Err BadType
      none true = refl
      none false = refl

-- ---- the walk
pub still_left : (c : Contents) (goal : Result (List linear.Sum) QueryFault) (k : Task) (old new : Made) (rest next : List Task) → Does c k old rest new next
    → IsLeft c goal old (rest ++ k ∷ []) → All (IsOf c) rest → IsLeft c goal new next
still_left c goal k old new rest next d i w =
    let m = d.made i.sums i.makes in
    record {
      sums = m.0;
      is = ap (λ ks. run c ks m.0) d.pushed ∙ run-append c rest d.more m.0 ∙ ap (of_one (run c rest)) m.1 ∙ sym (run-append c rest (k ∷ []) i.sums) ∙ i.is;
      makes = m.2;
      within = subst (All (IsOf c)) (sym d.pushed) (All-append (IsOf c) rest d.more w d.within);
    }

pub smaller_load : (c : Contents) (k : Task) (old new : Made) (rest next : List Task) → Does c k old rest new next → load c next < load c (rest ++ k ∷ [])
smaller_load c k old new rest next d =
    subst (λ (ks : List Task). load c ks < load c (rest ++ k ∷ [])) (sym d.pushed)
    (omega (arith, load-append c rest d.more, load-append c rest (k ∷ []), load_one c k, d.lighter))

fault_kept : (c : Contents) (ks : List Task) (r : Result (List linear.Sum) QueryFault) (f : LinearFault) → IsFaultOf r f → IsFaultOf (of_one (run c ks) r) f
fault_kept c ks r fault.Nonlinear h = ap (of_one (run c ks)) h
fault_kept c ks r fault.NotANumber h = ap (of_one (run c ks)) h
fault_kept c ks r fault.Overflow h = ap (of_one (run c ks)) h
fault_kept c ks r fault.NoMemory h = tt

pub refused : (c : Contents) (goal : Result (List linear.Sum) QueryFault) (k : Task) (old : Made) (rest : List Task) (f : LinearFault) → Refuses c k old f
    → IsLeft c goal old (rest ++ k ∷ []) → IsFaultOf goal f
refused c goal k old rest f h i =
    subst (λ (r : Result (List linear.Sum) QueryFault). IsFaultOf r f) (sym (run-append c rest (k ∷ []) i.sums) ∙ i.is) (fault_kept c rest (step c k i.sums) f (h i.sums i.makes))

-- what a function that opens or does a task answers
pub at_once : (c : Contents) (k : Task) (old new : Made) (ahead : List Task) (r : Result (Unit {0}) LinearFault) → Applies (step c k) old new r
    → MatchResult r (λ _. Does c k old ahead new ahead) (Refuses c k old)
at_once c k old new ahead (Ok u) h = done_at_once c k old new ahead h
at_once c k old new ahead (Err f) h = h

module _ (c : Contents) (v : IsPool c) (t : TermId) (a : AtomId) (ts : List TermId) (n : Bool) (i : t.number < length c.entries) (h : shape_at c t ≡ Some (pool.comp a ts)) where
  pub opens : (old : Made) (ahead new_ahead : List Task) (r : Result (Unit {0}) LinearFault) → Opens (compound_tasks (atom_name c a) ts n) ahead new_ahead r
      → MatchResult r (λ _. Does c (task.Collect t n) old ahead old new_ahead) (Refuses c (task.Collect t n) old)
  opens old ahead new_ahead (Ok u) o = opened c v t a ts n i h old ahead new_ahead o.0 o.1 o.2
  opens old ahead new_ahead (Err fault.Nonlinear) o = absurd o
  opens old ahead new_ahead (Err fault.NotANumber) o = not_opened c v t a ts n i h old o
  opens old ahead new_ahead (Err fault.Overflow) o = absurd o
  opens old ahead new_ahead (Err fault.NoMemory) o = λ ss m. tt

-- ---- the whole
pub whole : (c : Contents) (left right : TermId) → run c (task.Add ∷ task.Collect right true ∷ task.Collect left false ∷ []) [] ≡ before []
    (of_both difference_of (collect_term (term_of c left)) (collect_term (term_of c right)))
whole c left right = subtract_run c left right false []

pub last_is : (d : Result linear.Sum QueryFault) (ss : List linear.Sum) → Ok ss ≡ before [] d → (s : linear.Sum) × (d ≡ Ok s) × (ss ≡ s ∷ [])
last_is (Ok s) ss h = (s, refl, cc)
last_is (Err f) ss h = absurd (cc)

same_err : (f g : QueryFault) → (let e : Result (List linear.Sum) QueryFault = Err f in e) ≡ Err g → (let e : Result linear.Sum QueryFault = Err f in e) ≡ Err g
same_err f g h = let e : f ≡ g = cc in ap (λ (q : QueryFault). Err q) e

pub fault_is : (d : Result linear.Sum QueryFault) (f : LinearFault) → IsFaultOf (before [] d) f → IsFaultOf d f
fault_is (Ok s) fault.Nonlinear h = absurd (cc)
fault_is (Ok s) fault.NotANumber h = absurd (cc)
fault_is (Ok s) fault.Overflow h = absurd (cc)
fault_is (Ok s) fault.NoMemory h = tt
fault_is (Err g) fault.Nonlinear h = same_err g _ h
fault_is (Err g) fault.NotANumber h = same_err g _ h
fault_is (Err g) fault.Overflow h = same_err g _ h
fault_is (Err g) fault.NoMemory h = tt

pub starts : (c : Contents) (left right : TermId) (made : Made) (ahead : List Task) → ahead ≡ task.Add ∷ task.Collect right true ∷ task.Collect left false ∷ []
    → made.sums.items ≡ [] → made.met ≡ 0 → left.number < length c.entries → right.number < length c.entries
    → IsLeft c (before [] (of_both difference_of (collect_term (term_of c left)) (collect_term (term_of c right)))) made ahead
starts c left right made ahead e f g l r =
    let low : 0 ≤ 0 = omega arith in
    record {
      sums = [];
      is = ap (λ ks. run c ks []) e ∙ whole c left right;
      makes = subst (λ (ts : List Sum). AreSums 0 ts [] [] made.met) (sym f) (subst (λ (n : ℕ). AreSums 0 [] [] [] n) (sym g) (refl, low));
      within = subst (All (IsOf c)) (sym e) (All-cons (IsOf c) task.Add (task.Collect right true ∷ task.Collect left false ∷ []) tt
          (All-cons (IsOf c) (task.Collect right true) (task.Collect left false ∷ []) r (All-cons (IsOf c) (task.Collect left false) [] l (All-nil (IsOf c)))));
    }

-- once nothing is ahead, the goal is made
pub made_all : (c : Contents) (d : Result linear.Sum QueryFault) (made : Made) (ahead : List Task) → IsLeft c (before [] d) made ahead → ahead ≡ []
    → (s : linear.Sum) × (d ≡ Ok s) × Makes made (s ∷ [])
made_all c d made ahead i e =
    let l = last_is d i.sums (sym (ap (λ ks. run c ks i.sums) e) ∙ i.is) in
    (l.0, l.1, subst (λ (ss : List linear.Sum). Makes made ss) l.2 i.makes)

-- the sum against its constant
pub formed : (d : Result linear.Sum QueryFault) (s : linear.Sum) → d ≡ Ok s → (r : Result Linear LinearFault) → MatchResult r (λ l. linear.linear_of s ≡ Ok (form_of l)) (OverflowsBy ⊥)
    → MatchResult r (λ l. of_one linear.linear_of d ≡ Ok (form_of l)) (IsFaultOf (of_one linear.linear_of d))
formed d s e (Ok l) h = ap (of_one linear.linear_of) e ∙ h
formed d s e (Err fault.Nonlinear) h = absurd h
formed d s e (Err fault.NotANumber) h = absurd h
formed d s e (Err fault.Overflow) h = absurd h
formed d s e (Err fault.NoMemory) h = tt
