-- What a goal gives in two branches that are a pair, each seen by a most general unifier of its own, are pairs again.
use Rattle.std.proofs.Common.{◌≡◌, ℕ, ◌<◌, ◌≤◌, Bool, true, false, cond, ℤ, List, [], ◌∷◌, ◌++◌, map, Option, Some, None, Result, Ok, Err}
use Rattle.std.proofs.Common.{refl, ap, sym, ◌∙◌, subst, inl, inr}
use Rattle.std.proofs.lemmas.Bool.{cases_Bool, true≢false}
use Rattle.fd_language.specs.Term.{Term, Var, Int, Atom, Comp, Substitution, apply}
use Rattle.fd_language.specs.Unifier.{Equation, IsMostGeneral}
use Rattle.fd_language.specs.Family.{Family, has}
use Rattle.fd_language.specs.Range.{Indexical}
use Rattle.fd_language.specs.RangeRenaming.{rename_indexical}
use Rattle.fd_language.specs.Variables.{TermBelow, variables_of, variables_of_all}
use Rattle.fd_language.proofs.Lemmas.{two, in_left, in_right, first_member, apply_vars, renamed_as_is, has_map, map_has}
use Rattle.fd_model.specs.declared.kinds.Order.{Order}
use Rattle.fd_model.specs.declared.kinds.QueryFault.{QueryFault}
use Rattle.fd_model.specs.declared.kinds.QueryFault.TheVariants.{Parameter}
use Rattle.fd_model.specs.declared.kinds.BuiltinKind.{BuiltinKind}
use Rattle.fd_model.specs.declared.kinds.ConstraintKind.{ConstraintKind}
use Rattle.fd_model.specs.BranchViews.{set_at}
use Rattle.fd_model.specs.Builtins.{Finding, faulted, decided, equated, found, finding, first_argument, second_argument}
use Rattle.fd_model.specs.ClosedFamilies.{constrained}
use Rattle.fd_model.specs.ConstraintLaws.{AllFresh}
use Rattle.fd_model.specs.ConstraintExpansion.{constrain, arguments, equations, expand}
use Rattle.fd_model.specs.Goal.{Goal, listed, True, Fail, Unify, Post, Constrain, Label, Call, Either, Builtin, Cut, If, IfElse, Not, Best, Clause}
use Rattle.fd_model.specs.Goal.{Program, Branch}
use Rattle.fd_model.specs.Labelling.{read_list, values_by, open_ones}
use Rattle.fd_model.specs.LinearRows.{Expansion}
use Rattle.fd_model.specs.Members.{Member, Open, Known}
use Rattle.fd_model.specs.Posting.{Found, offends, posts, post}
use Rattle.fd_model.specs.RunnablePrograms.{GoalBelow}
use Rattle.fd_model.specs.Children.{Offer, Faults, Gives, Seeks, offer, with_goals, is_number, by_value, by_clause, by_clauses, by_post}
use Rattle.fd_model.specs.Children.{by_constraint, by_finding}
use Rattle.fd_model.specs.Children.{by_cost, unless_fault, cost_fault, fits_head, look_in, sets_in}
use Rattle.fd_model.proofs.Lemmas.{scoped_rows, SameFinding, found_renamed, unifier_below}
use Rattle.branch_meaning.specs.Labelling.{Labelled, faults, done, labels, labelled, rename_labelled, by_labelled}
use Rattle.branch_meaning.specs.Rows.{rename_products, rename_row}
use Rattle.branch_meaning.proofs.Lemmas.{row_by, label_in, seen_by_variable, of_arguments}
use Rattle.branch_meaning.proofs.Lemmas.{SameKind, post_same, rename_members, rename_listing, list_renamed, labelled_renamed, list_in, ListedIn}
use Rattle.run_laws.proofs.RowNames.{row_name, row_named, old_name, fresh_name}
use Rattle.run_laws.proofs.SamePosted.{AreEqual, AreRenamed, named}
use Rattle.run_laws.proofs.Scopes.{variable_below}
use Rattle.fd_model.proofs.Lemmas.{below_under}
use Rattle.fd_model.proofs.Lemmas.{EquationsBelow, look_below, after, after_is, after_back, seen_other, seen_variables, split_both}
use Rattle.run_laws.proofs.Pairs.{ArePair, AllPairs, pair_goals, pair_equations, pair_ranges}

abbrev pub SameOffer : Branch → Branch → Offer → Offer → Type 0
SameOffer b c (Faults f) (Faults g) = f ≡ g
SameOffer b c (Gives bs) (Gives cs) = AllPairs bs cs
SameOffer b c (Seeks d rest o least t x) (Seeks e more p most u y) = (d ≡ b) × (e ≡ c) × (rest ≡ more) × (o ≡ p) × (least ≡ most) × (t ≡ u) × (x ≡ y)
SameOffer b c _ _ = ⊥

kind_of : (u : Substitution) (f : ℕ → ℕ) (t w : Term) → ((y : ℕ) → has (variables_of t) y ≡ true → u y ≡ Var (f y)) → apply u t ≡ w → SameKind t w
kind_of u f (Var x) w h e = subst (SameKind (Var x)) (sym (h x (first_member x [])) ∙ e) tt
kind_of u f (Int z) w h e = subst (SameKind (Int z)) e refl
kind_of u f (Atom a) w h e = subst (SameKind (Atom a)) e refl
kind_of u f (Comp g ts) w h e = subst (SameKind (Comp g ts)) e tt

as_it_is : (es : List Equation) (p : Indexical) → AreRenamed es (p ∷ []) (p ∷ [])
as_it_is es p = (record { new = λ y. y; is = ap (λ r. record { target = p.target; range = r }) (sym (renamed_as_is p.range)); equal = λ v c u i. refl }, tt)

all_renamed : (es : List Equation) (f : ℕ → ℕ) (ps : List Indexical) → ((v : ℕ) → has (constrained ps) v ≡ true → AreEqual es v (f v)) → AreRenamed es ps (map (rename_indexical f) ps)
all_renamed es f [] h = tt
all_renamed es f (p ∷ ps) h = (
  record { new = f; is = refl; equal = λ v c. h v (in_left (named p) (constrained ps) v c) },
  all_renamed es f ps (λ v c. h v (in_right (named p) (constrained ps) v c)),
)

products_stay : (n m : ℕ) (ps : List Indexical) (f : ℕ → ℕ) → ((y : ℕ) → n ≤ y → f y ≡ y) → (es : List (ℕ × ℤ)) → AllFresh n m ps es → rename_products f es ≡ es
products_stay n m ps f h [] k = refl
products_stay n m ps f h (e ∷ es) k = two (λ v l. (v, e.1) ∷ l) (h e.0 k.0.0) (products_stay n m ps f h es k.1)

-- the open members under other names
open_renamed : (f : ℕ → ℕ) (ms : List Member) → open_ones (rename_members f ms) ≡ map f (open_ones ms)
open_renamed f [] = refl
open_renamed f (Open x ∷ ms) = ap (λ l. f x ∷ l) (open_renamed f ms)
open_renamed f (Known z ∷ ms) = open_renamed f ms

same_has : (f : ℕ → ℕ) (vs : List ℕ) (x : ℕ) → ((y : ℕ) → has vs y ≡ true → f y ≡ f x → y ≡ x) → has (map f vs) (f x) ≡ has vs x
same_has f vs x h = elim (cases_Bool (has vs x)) [
  | inl e ↦ has_map f vs x e ∙ sym e
  | inr e ↦ elim (cases_Bool (has (map f vs) (f x))) [
    | inl g ↦ absurd (let k = map_has f vs (f x) g in true≢false (sym (subst (λ y. has vs y ≡ true) (h k.0 k.1 k.2) k.1) ∙ e))
    | inr g ↦ g ∙ sym e
  ]
]

cost_renamed : (u : Substitution) (f : ℕ → ℕ) (ms : List Member) (w : Term) → ((y : ℕ) → has (variables_of w) y ≡ true → u y ≡ Var (f y))
    → ((x y : ℕ) → has (open_ones ms) y ≡ true → has (variables_of w) x ≡ true → f y ≡ f x → y ≡ x) → cost_fault (rename_members f ms) (apply u w) ≡ cost_fault ms w
cost_renamed u f ms (Var x) h a =
    ap (cost_fault (rename_members f ms)) (h x (first_member x []))
    ∙ ap (λ l. cond (has l (f x)) None (Some Parameter)) (open_renamed f ms)
    ∙ ap (λ k. cond k None (Some Parameter)) (same_has f (open_ones ms) x (λ y i e. a x y i (first_member x []) e))
cost_renamed u f ms (Int z) h a = refl
cost_renamed u f ms (Atom a) h i = refl
cost_renamed u f ms (Comp g ts) h a = refl

-- b is seen by s and D, and the branch of the goals gs, the equations ds and the ranges qs by u and E.
module _ (M N m : ℕ) (prog : Program) (b : Branch) (gs : List Goal) (ds : List Equation) (qs : List Indexical) (s u : Substitution) (D E : Family) (g : IsMostGeneral b.equations s)
    (h : IsMostGeneral b.equations u) (match : (y z : ℕ) → s y ≡ Var y → u y ≡ Var z → s z ≡ Var y → set_at u E (constrained qs) z ≡ set_at s D (constrained b.posted) y)
    (own : EquationsBelow b.fresh b.equations) where
  abbrev pub other : Branch
  other = record { goals = gs; equations = ds; posted = qs; fresh = b.fresh }

  abbrev n : ℕ
  n = b.fresh

  abbrev pub here : Substitution
  here = look_in b s D

  abbrev pub there : Substitution
  there = look_in other u E

  abbrev pub name_of : ℕ → ℕ
  name_of = after b.equations s u g h D E (constrained b.posted) (constrained qs) match

  pub name_is : (y : ℕ) → s y ≡ Var y → u y ≡ Var (name_of y)
  name_is = after_is b.equations s u g h D E (constrained b.posted) (constrained qs) match

  name_back : (y : ℕ) → s y ≡ Var y → s (name_of y) ≡ Var y
  name_back = after_back b.equations s u g h D E (constrained b.posted) (constrained qs) match

  name_apart : (x y : ℕ) → s x ≡ Var x → s y ≡ Var y → name_of x ≡ name_of y → x ≡ y
  name_apart x y i j e = let k : Var x ≡ Var y = sym (name_back x i) ∙ ap s e ∙ name_back y j in cc

  -- the other's seen term has the names
  pub seen_there : (t : Term) → apply u (apply here t) ≡ apply there t
  seen_there t =
      ap (apply u) (seen_by_variable s D (constrained b.posted) t) ∙ seen_other b.equations s u g h D E (constrained b.posted) (constrained qs) match t
      ∙ sym (seen_by_variable u E (constrained qs) t)

  pub still_own : (t : Term) (y : ℕ) → has (variables_of (apply here t)) y ≡ true → s y ≡ Var y
  still_own t y c = seen_variables b.equations s u g h D E (constrained b.posted) (constrained qs) match t y
      (subst (λ w. has (variables_of w) y ≡ true) (seen_by_variable s D (constrained b.posted) t) c)

  pub named_in : (t : Term) (y : ℕ) → has (variables_of (apply here t)) y ≡ true → u y ≡ Var (name_of y)
  named_in t y c = name_is y (still_own t y c)

  low : (t : Term) → TermBelow n t → (y : ℕ) → has (variables_of (apply here t)) y ≡ true → y < n
  low t k y c = variable_below n (apply here t) (below_under n n here (look_below n b s D g own) t k) y c

  name_low : (y : ℕ) → s y ≡ Var y → y < n → name_of y < n
  name_low y i l = subst (TermBelow n) (name_is y i) (unifier_below n b.equations u h own y l)

  -- a variable and its name are equal
  pub equal_name : (y : ℕ) → s y ≡ Var y → AreEqual b.equations y (name_of y)
  equal_name y i w k = sym (ap (apply w) (name_back y i)) ∙ g.general w (name_of y) k

  pub same_set : (y : ℕ) → s y ≡ Var y → set_at u E (constrained qs) (name_of y) ≡ set_at s D (constrained b.posted) y
  same_set y i = match y (name_of y) i (name_is y i) (name_back y i)

  -- ---- a labelling

  abbrev pub values_here : ℕ → List ℕ
  values_here x = values_by N (sets_in b s D x)

  abbrev pub values_there : ℕ → List ℕ
  values_there x = values_by N (sets_in other u E x)

  pub labelled_there : (o : Order) (t : Term) → labelled o values_there (apply there t) ≡ rename_labelled name_of (labelled o values_here (apply here t))
  labelled_there o t =
      ap (labelled o values_there) (sym (seen_there t))
      ∙ labelled_renamed u name_of values_here values_there o (apply here t) (named_in t) (λ y c. ap (values_by N) (same_set y (still_own t y c)))

  module _ (p : ArePair b other) where
    pub value_pairs : (rest : List Goal) (x : ℕ) → s x ≡ Var x → (ns : List ℕ) → AllPairs (map (by_value b rest x) ns) (map (by_value other rest (name_of x)) ns)
    value_pairs rest x i [] = tt
    value_pairs rest x i (k ∷ ns) = (
      pair_equations b other p (is_number x k ∷ []) (is_number (name_of x) k ∷ []) (λ w a e. (sym (equal_name x i w a) ∙ e.0, tt)) (λ w a e. (equal_name x i w a ∙ e.0, tt)) rest n,
      value_pairs rest x i ns,
    )

    module _ (rest : List Goal) where
      -- the same goals, and the same equations
      goals_pair : (hs : List Goal) → ArePair (with_goals b hs) (with_goals other hs)
      goals_pair = pair_goals b other p

      equations_pair : (es : List Equation) (hs : List Goal) (k : ℕ) → ArePair (record { goals = hs; equations = es ++ b.equations; posted = b.posted; fresh = k })
          (record { goals = hs; equations = es ++ ds; posted = qs; fresh = k })
      equations_pair es hs k = pair_equations b other p es es (λ w a e. e) (λ w a e. e) hs k

      post_pair : (f : Found) → SameOffer b other (by_post b rest f) (by_post other rest f)
      post_pair (offends f) = refl
      post_pair (posts q k es) = (pair_ranges b other p es es (λ w a e. e) (λ w a e. e) rest k (q ∷ []) (q ∷ []) (as_it_is (es ++ b.equations) q), tt)

      clauses_pair : (t : Term) (cs : List Clause) → AllPairs (by_clauses m cs b t rest) (by_clauses m cs other t rest)
      clauses_pair t [] = tt
      clauses_pair t (c ∷ cs) = by_head (fits_head t c.head) (clauses_pair t cs)
        where
          by_head : (fits : Bool) → AllPairs (by_clauses m cs b t rest) (by_clauses m cs other t rest)
              → AllPairs (cond fits (by_clause m b t rest c ∷ by_clauses m cs b t rest) (by_clauses m cs b t rest))
              (cond fits (by_clause m other t rest c ∷ by_clauses m cs other t rest) (by_clauses m cs other t rest))
          by_head true more = (equations_pair _ _ _, more)
          by_head false more = more

      finding_pair : (f k : Finding) → SameFinding Var f k → SameOffer b other (by_finding b rest f) (by_finding other rest k)
      finding_pair (faulted f) k e = subst (λ x. SameOffer b other (Faults f) (by_finding other rest x)) (sym e) refl
      finding_pair (decided true) k e = subst (λ x. SameOffer b other (Gives (with_goals b rest ∷ [])) (by_finding other rest x)) (sym e) (goals_pair rest, tt)
      finding_pair (decided false) k e = subst (λ x. SameOffer b other (Gives []) (by_finding other rest x)) (sym e) tt
      finding_pair (equated l r) k e =
          subst (λ x. SameOffer b other (by_finding b rest (equated l r)) (by_finding other rest x)) (sym (e ∙ two equated (apply_vars l) (apply_vars r)))
          (equations_pair (record { left = l; right = r } ∷ []) rest n, tt)

      found_there : (k : BuiltinKind) (a c : Term) → SameFinding Var (found k (sets_in b s D) a c (apply here a) (apply here c)) (found k (sets_in other u E) a c (apply there a) (apply there c))
      found_there k a c =
          subst (λ w. SameFinding Var (found k (sets_in b s D) a c (apply here a) (apply here c)) (found k (sets_in other u E) a c (apply there a) w)) (seen_there c)
          (subst (λ w. SameFinding Var (found k (sets_in b s D) a c (apply here a) (apply here c)) (found k (sets_in other u E) a c w (apply u (apply here c)))) (seen_there a)
          (subst (λ w. SameFinding Var (found k (sets_in b s D) a c (apply here a) (apply here c)) (found k (sets_in other u E) a w (apply u (apply here a)) (apply u (apply here c)))) (apply_vars c)
          (subst (λ w. SameFinding Var (found k (sets_in b s D) a c (apply here a) (apply here c))
          (found k (sets_in other u E) w (apply Var c) (apply u (apply here a)) (apply u (apply here c)))) (apply_vars a)
          (found_renamed Var u name_of (sets_in b s D) (sets_in other u E) a c (apply here a) (apply here c) (named_in a) (named_in c)
          (λ x y i j e. name_apart x y (still_own a x i) (still_own c y j) e) (λ y i. same_set y (still_own a y i)) k))))

      module _ (t : Term) (k : TermBelow n t) where
        row_to : ℕ → ℕ
        row_to = row_name M N n s u name_of name_is name_back name_low (apply here t) (λ y c. (still_own t y c, low t k y c))

        old_row : (y : ℕ) → has (variables_of_all (arguments (apply here t))) y ≡ true → row_to y ≡ name_of y
        unfolding row_to
        old_row = old_name M N n s u name_of name_is name_back name_low (apply here t) (λ y c. (still_own t y c, low t k y c))

        fresh_row : (y : ℕ) → n ≤ y → row_to y ≡ y
        unfolding row_to
        fresh_row = fresh_name M N n s u name_of name_is name_back name_low (apply here t) (λ y c. (still_own t y c, low t k y c))

        row_there : (kind : ConstraintKind) → constrain M there kind t n ≡ rename_row row_to (constrain M here kind t n)
        unfolding row_to
        row_there kind =
            ap (λ w. expand M kind (arguments w) n) (sym (seen_there t))
            ∙ row_named M N n s u name_of name_is name_back name_low (apply here t) (λ y c. (still_own t y c, low t k y c)) kind

        row_pair : (kind : ConstraintKind) (r : Result Expansion QueryFault) → constrain M here kind t n ≡ r
            → SameOffer b other (by_constraint b rest r) (by_constraint other rest (rename_row row_to r))
        row_pair kind (Err f) e = refl
        row_pair kind (Ok x) e =
            let scoped = scoped_rows M kind (arguments (apply here t)) n x e in
            let equal : (v : ℕ) → has (constrained x.ranges) v ≡ true → AreEqual b.equations v (row_to v) = λ v c. elim (scoped.named v c) [
              | inl i ↦ subst (AreEqual b.equations v) (sym (old_row v i)) (equal_name v (still_own t v (of_arguments (apply here t) v i)))
              | inr l ↦ subst (AreEqual b.equations v) (sym (fresh_row v l.0)) (λ w a. refl)
            ] in
            subst (λ es. SameOffer b other (by_constraint b rest (Ok x))
            (by_constraint other rest (Ok (record { equated = es; ranges = map (rename_indexical row_to) x.ranges; fresh = row_to x.fresh }))))
            (sym (products_stay n x.fresh x.ranges row_to fresh_row x.equated scoped.equated))
            (subst (λ l. SameOffer b other (by_constraint b rest (Ok x)) (by_constraint other rest (Ok (record { equated = x.equated; ranges = map (rename_indexical row_to) x.ranges; fresh = l }))))
            (sym (fresh_row x.fresh scoped.grows)) (
              pair_ranges b other p (equations x.equated) (equations x.equated) (λ w a i. i) (λ w a i. i) rest x.fresh x.ranges (map (rename_indexical row_to) x.ranges)
                  (all_renamed (equations x.equated ++ b.equations) row_to x.ranges (λ v c w i. equal v c w (split_both w (equations x.equated) b.equations i).1)),
              tt,
            ))

      labelled_pair : (o : Goal) (l : Labelled) → ((x : ℕ) (ns : List ℕ) → l ≡ labels x ns → s x ≡ Var x)
          → SameOffer b other (by_labelled b o rest l) (by_labelled other o rest (rename_labelled name_of l))
      labelled_pair o (faults f) i = refl
      labelled_pair o done i = (goals_pair rest, tt)
      labelled_pair o (labels x ns) i = value_pairs (o ∷ rest) x (i x ns refl) ns

      cost_pair : (o : Order) (least : Bool) (t c : Term) → SameOffer b other (by_cost (apply here c) (Seeks b rest o least t c) (read_list (apply here t)))
          (by_cost (apply there c) (Seeks other rest o least t c) (read_list (apply there t)))
      cost_pair o least t c =
          subst (λ w. SameOffer b other (by_cost (apply here c) (Seeks b rest o least t c) (read_list (apply here t)))
          (by_cost w (Seeks other rest o least t c) (read_list (apply there t)))) (seen_there c)
          (subst (λ l. SameOffer b other (by_cost (apply here c) (Seeks b rest o least t c) (read_list (apply here t))) (by_cost (apply u (apply here c)) (Seeks other rest o least t c) l))
          (sym (list_renamed u name_of (apply here t) (named_in t)) ∙ ap read_list (seen_there t))
          (by_members (read_list (apply here t)) (list_in (apply here t))))
        where
          by_members : (l : Result (List Member) QueryFault) → ListedIn (variables_of (apply here t)) l
              → SameOffer b other (by_cost (apply here c) (Seeks b rest o least t c) l) (by_cost (apply u (apply here c)) (Seeks other rest o least t c) (rename_listing name_of l))
          by_members (Err f) i = refl
          by_members (Ok ms) i =
              subst (λ k. SameOffer b other (unless_fault (cost_fault ms (apply here c)) (Seeks b rest o least t c)) (unless_fault k (Seeks other rest o least t c)))
              (sym (cost_renamed u name_of ms (apply here c) (named_in c)
              (λ x y j k e. name_apart y x (still_own t y (i y j)) (still_own c x k) e)))
              (by_fault (cost_fault ms (apply here c)))
            where
              by_fault : (f : Option QueryFault) → SameOffer b other (unless_fault f (Seeks b rest o least t c)) (unless_fault f (Seeks other rest o least t c))
              by_fault (Some f) = refl
              by_fault None = (refl, refl, refl, refl, refl, refl, refl)

      pub offers_pair : (k : Goal) → GoalBelow n k → SameOffer b other (offer M N m prog here (sets_in b s D) b k rest) (offer M N m prog there (sets_in other u E) other k rest)
      offers_pair True i = (goals_pair rest, tt)
      offers_pair Fail i = tt
      offers_pair (Unify a c) i = (equations_pair (record { left = a; right = c } ∷ []) rest n, tt)
      offers_pair (Post t r) i =
          subst (λ f. SameOffer b other (by_post b rest (post here t r n)) (by_post other rest f))
          (post_same n here there (λ v l. kind_of u name_of (here v) (there v) (named_in (Var v)) (seen_there (Var v))) t r n i.0 i.1) (post_pair (post here t r n))
      offers_pair (Constrain kind t) i =
          subst (λ r. SameOffer b other (by_constraint b rest (constrain M here kind t n)) (by_constraint other rest r)) (sym (row_there t i kind)) (row_pair t i kind (constrain M here kind t n) refl)
      offers_pair (Label o t) i =
          two_offers (sym (row_by M b o (Label o t) rest values_here (read_list (apply here t))))
          (sym (row_by M other o (Label o t) rest values_there (read_list (apply there t)) ∙ ap (by_labelled other (Label o t) rest) (labelled_there o t)))
          (labelled_pair (Label o t) (labelled o values_here (apply here t)) (λ x ns e. still_own t x (label_in o values_here (apply here t) x ns e)))
        where
          two_offers : {a a' c c' : Offer} → a ≡ a' → c ≡ c' → SameOffer b other a c → SameOffer b other a' c'
          two_offers {a = a} {a' = a'} {c = c} {c' = c'} e f k = subst (λ x. SameOffer b other x c') e (subst (SameOffer b other a) f k)
      offers_pair (Call t) i = clauses_pair t prog.clauses
      offers_pair (Either x y) i = (goals_pair (listed x ++ rest), (goals_pair (listed y ++ rest), tt))
      offers_pair (Builtin k t) i =
          finding_pair (finding k here (sets_in b s D) t) (finding k there (sets_in other u E) t) (found_there k (first_argument t) (second_argument t))
      offers_pair (Cut c) i = (goals_pair rest, tt)
      offers_pair (If test holds) i = (goals_pair _, tt)
      offers_pair (IfElse test holds else_goals) i = (goals_pair _, (goals_pair _, tt))
      offers_pair (Not hs) i = (goals_pair _, (goals_pair _, tt))
      offers_pair (Best o least t c) i = cost_pair o least t c
