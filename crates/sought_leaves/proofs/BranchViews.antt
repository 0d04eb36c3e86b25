-- What the heap and the store's sets show, and what is seen in the branch, come from one another: so both have the same members, up to their names.
use Rattle.std.proofs.Common.{◌≡◌, ℕ, ◌<◌, ◌==◌, Bool, true, false, cond, pos, negsuc, List, [], ◌∷◌, map, Option, Some, None, Result, Ok, Err, codes, refl, ap}
use Rattle.std.proofs.Common.{sym, ◌∙◌, subst, inl, inr, eq-eqb, eqb-true, ne_eqb, ◌||◌}
use Rattle.std.proofs.lemmas.Bool.{or_cases, or_left, or_right, true≢false}
use Rattle.std.proofs.lemmas.Option.{same_Some}
use Rattle.std.specs.Str.{bytes_eq}
use Rattle.fd_language.specs.Family.{Family, has, IsInside}
use Rattle.fd_language.specs.Range.{Indexical}
use Rattle.fd_language.specs.SingleValues.{value_in, value_at}
use Rattle.fd_language.specs.Term.{Term, Var, Int, Atom, Comp, no_terms, term, Substitution, apply}
use Rattle.fd_language.specs.Unifier.{Equation, Unifies}
use Rattle.fd_language.proofs.Lemmas.{after_is, rising_same, two}
use Rattle.fd_model.specs.declared.kinds.QueryFault.{QueryFault}
use Rattle.fd_model.specs.declared.kinds.QueryFault.TheVariants.{BadType, Parameter}
use Rattle.fd_model.specs.Children.{cost_fault}
use Rattle.fd_model.specs.Labelling.{read_list, open_ones}
use Rattle.fd_model.specs.Linear.{of_both}
use Rattle.fd_model.specs.Members.{Member, Open, Known, as_member, prepend}
use Rattle.fd_model.specs.ClosedFamilies.{constrained}
use Rattle.fd_model.specs.Models.{IsModel}
use Rattle.fd_model.specs.BranchViews.{IsConsistent, IsView, seen, set_at, by_set, is_variable}
use Rattle.fd_model.proofs.Lemmas.{closed_either, is_variable_true}
use Rattle.branch_meaning.specs.Heap.{after, Of}
use Rattle.branch_meaning.specs.Store.{IsStored, linked_set, shown_set}
use Rattle.branch_meaning.proofs.Lemmas.{agree, functions, seen_by_variable}
use Rattle.sought_leaves.specs.LeafSearch.{shown_by}
use Rattle.sought_leaves.proofs.Members.{list_parts}

-- the set of a variable is that of a constrained one that is seen as it
set_from : (s : Substitution) (D : Family) (ws : List ℕ) (y : ℕ) (ns : List ℕ) → set_at s D ws y ≡ Some ns → (v : ℕ) × (has ws v ≡ true) × (s v ≡ Var y) × (D v ≡ ns)
set_from s D [] y ns e = absurd (cc)
set_from s D (w ∷ ws) y ns e = by_test (λ j. set_from s D ws y ns j) (is_variable (s w) y) refl e
  where
    by_test : (set_at s D ws y ≡ Some ns → (v : ℕ) × (has ws v ≡ true) × (s v ≡ Var y) × (D v ≡ ns)) → (b : Bool) → is_variable (s w) y ≡ b → cond b (Some (D w)) (set_at s D ws y) ≡ Some ns
        → (v : ℕ) × (has (w ∷ ws) v ≡ true) × (s v ≡ Var y) × (D v ≡ ns)
    by_test rest true i j = (w, or_left (w == w) (has ws w) (eq-eqb w w refl), is_variable_true (s w) y i, same_Some (D w) ns j)
    by_test rest false i j = let r = rest j in (r.0, or_right (w == r.0) (has ws r.0) r.1, r.2, r.3)

-- and each constrained one that is seen as it has that set
set_there : (s : Substitution) (D : Family) (ws : List ℕ) (y v : ℕ) → has ws v ≡ true → s v ≡ Var y → (w : ℕ) × (has ws w ≡ true) × (s w ≡ Var y) × (set_at s D ws y ≡ Some (D w))
set_there s D [] y v i e = absurd (true≢false (sym i))
set_there s D (w ∷ ws) y v i e = by_test (λ j. set_there s D ws y v j e) (is_variable (s w) y) refl
  where
    by_test : (has ws v ≡ true → (u : ℕ) × (has ws u ≡ true) × (s u ≡ Var y) × (set_at s D ws y ≡ Some (D u))) → (b : Bool) → is_variable (s w) y ≡ b
        → (u : ℕ) × (has (w ∷ ws) u ≡ true) × (s u ≡ Var y) × (cond b (Some (D w)) (set_at s D ws y) ≡ Some (D u))
    by_test rest true j = (w, or_left (w == w) (has ws w) (eq-eqb w w refl), is_variable_true (s w) y j, refl)
    by_test rest false j =
        let r = rest (elim (or_cases (w == v) (has ws v) i) [
          | inl a ↦ absurd (true≢false (sym (ap (λ u. is_variable (s u) y) (eqb-true w v a) ∙ ap (λ u. is_variable u y) e ∙ eq-eqb y y refl) ∙ j))
          | inr a ↦ a
        ]) in
        (r.0, or_right (w == r.0) (has ws r.0) r.1, r.2, r.3)

-- ---- members by other names

abbrev pub number_of : Term → ℕ
number_of (Var y) = y
number_of u = 0

abbrev pub renamed : Substitution → Member → Member
renamed r (Open d) = Open (number_of (r d))
renamed r (Known z) = Known z

-- the variable of each open member is one by r, and comes back by w
abbrev AllBack : Substitution → Substitution → List Member → Type 0
AllBack r w [] = Unit {0}
AllBack r w (Open d ∷ ms) = ((y : ℕ) × (r d ≡ Var y) × (w y ≡ Var d)) × AllBack r w ms
AllBack r w (Known z ∷ ms) = AllBack r w ms

-- a term that comes back as a variable is one
comes_back : (w : Substitution) (u : Term) (d : ℕ) → apply w u ≡ Var d → (y : ℕ) × (u ≡ Var y) × (w y ≡ Var d)
comes_back w (Var y) d e = (y, refl, e)
comes_back w (Int z) d e = absurd (cc)
comes_back w (Atom a) d e = absurd (cc)
comes_back w (Comp f ts) d e = absurd (cc)

one_back : (r w : Substitution) (u : Term) (x : Member) → as_member u ≡ Ok x → apply w (apply r u) ≡ u → (as_member (apply r u) ≡ Ok (renamed r x)) × AllBack r w (x ∷ [])
one_back r w (Var d) x e i =
    let same : Open d ≡ x = cc in
    let k = comes_back w (r d) d i in
    subst (λ y. (as_member (r d) ≡ Ok (renamed r y)) × AllBack r w (y ∷ [])) same (ap as_member k.1 ∙ ap (λ u. Ok (Open (number_of u))) (sym k.1), (k, tt))
one_back r w (Int z) x e i = let same : Known z ≡ x = cc in subst (λ y. (as_member (Int z) ≡ Ok (renamed r y)) × AllBack r w (y ∷ [])) same (refl, tt)
one_back r w (Atom a) x e i = absurd (cc)
one_back r w (Comp f ts) x e i = absurd (cc)

more_back : (r w : Substitution) (x : Member) (ms : List Member) → AllBack r w (x ∷ []) → AllBack r w ms → AllBack r w (x ∷ ms)
more_back r w (Open d) ms a b = (a.0, b)
more_back r w (Known z) ms a b = b

-- A list that comes back has the members by these names.
list_back : (r w : Substitution) (u : Term) (ms : List Member) → read_list u ≡ Ok ms → apply w (apply r u) ≡ u → (read_list (apply r u) ≡ Ok (map (renamed r) ms)) × AllBack r w ms
list_back r w (Var d) ms e i = absurd (cc)
list_back r w (Int z) ms e i = absurd (cc)
list_back r w (Atom a) ms e i = at_end (bytes_eq a (codes "[]")) e
  where
    at_end : (b : Bool) → ◌≡◌ {A = Result (List Member) QueryFault} (cond b (Ok []) (Err BadType)) (Ok ms)
        → ◌≡◌ {A = Result (List Member) QueryFault} (cond b (Ok []) (Err BadType)) (Ok (map (renamed r) ms)) × AllBack r w ms
    at_end true j = let same : [] ≡ ms = cc in subst (λ l. ◌≡◌ {A = Result (List Member) QueryFault} (Ok []) (Ok (map (renamed r) l)) × AllBack r w l) same (refl, tt)
    at_end false j = absurd (cc)
list_back r w (Comp f no_terms) ms e i = absurd (cc)
list_back r w (Comp f (term a no_terms)) ms e i = absurd (cc)
list_back r w (Comp f (term a (term t no_terms))) ms e i =
    let k = list_parts (bytes_eq f (codes ".")) (as_member a) (read_list t) ms e in
    let first : apply w (apply r a) ≡ a = cc in
    let later : apply w (apply r t) ≡ t = cc in
    let one = one_back r w a k.0 k.3 first in
    let more = list_back r w t k.1 k.4 later in (
      ap (λ b. cond b (of_both prepend (as_member (apply r a)) (read_list (apply r t))) (Err BadType)) k.2 ∙ two (of_both prepend) one.0 more.0 ∙ ap (λ l. Ok (map (renamed r) l)) (sym k.5),
      subst (AllBack r w) (sym k.5) (more_back r w k.0 k.1 one.1 more.1),
    )
list_back r w (Comp f (term a (term t (term u us)))) ms e i = absurd (cc)

-- a variable that comes back stands among the members by its name where it stood by its cell
among_back : (r w : Substitution) (d y : ℕ) → r d ≡ Var y → w y ≡ Var d → (ms : List Member) → AllBack r w ms → has (open_ones (map (renamed r) ms)) y ≡ has (open_ones ms) d
among_back r w d y e i [] a = refl
among_back r w d y e i (Known z ∷ ms) a = among_back r w d y e i ms a
among_back r w d y e i (Open x ∷ ms) a = two (λ p q. p || q) (by_test (x == d) refl) (among_back r w d y e i ms a.1)
  where
    other : (x ≡ d → ⊥) → number_of (r x) ≡ y → ⊥
    other k j = k (let f : a.0.0 ≡ y = sym (ap number_of a.0.1) ∙ j in let g : Var x ≡ Var d = sym a.0.2 ∙ ap w f ∙ i in cc)

    by_test : (b : Bool) → (x == d) ≡ b → (number_of (r x) == y) ≡ b
    by_test true j = eq-eqb (number_of (r x)) y (ap (λ z. number_of (r z)) (eqb-true x d j) ∙ ap number_of e)
    by_test false j = ne_eqb (number_of (r x)) y (other (λ k. true≢false (sym (eq-eqb x d k) ∙ j)))

-- so the cost's fault is the same
cost_back : (r w : Substitution) (ms : List Member) → AllBack r w ms → (u : Term) → apply w (apply r u) ≡ u → cost_fault (map (renamed r) ms) (apply r u) ≡ cost_fault ms u
cost_back r w ms a (Var d) i =
    let k = comes_back w (r d) d i in
    ap (cost_fault (map (renamed r) ms)) k.1 ∙ ap (λ b. cond b None (Some Parameter)) (among_back r w d k.0 k.1 k.2 ms a)
cost_back r w ms a (Int z) i = refl
cost_back r w ms a (Atom f) i = refl
cost_back r w ms a (Comp f ts) i = refl

module _ (M N : ℕ) (n : ℕ) (es : List Equation) (ps : List Indexical) (h : ℕ) (look : Substitution) (link : ℕ → Option ℕ) (slot : ℕ → ℕ) (qs : List Indexical) (A : Family)
    (st : IsStored M N es ps (λ v. v < n) h look link slot qs)
    (model : IsModel M N [] qs A) (most : (R : Family) → IsModel M N [] qs R → IsInside R A) (ok : IsConsistent M N es ps) (s : Substitution) (D : Family) (view : IsView M N es ps s D) where
  abbrev pub ws : List ℕ
  ws = constrained ps

  abbrev pub value : Substitution
  value d = value_at (link d) A d

  abbrev pub shown : Substitution
  shown = shown_by link A look

  abbrev pub sets : Substitution
  sets y = by_set (set_at s D ws y) y

  -- the view's family is a model, so its sets are those of the store's variables
  full : (x : ℕ) → has ws x ≡ true → (i : ℕ) × (has (D x) i ≡ true)
  full x k = let g = ok.some x k in (g.0, ((view.contains g.1.family (closed_either M N es s g.1.unifier ps g.1.family view.general g.1.general g.1.closed)).at x).each g.0 g.1.member)

  view_model : IsModel M N es ps D
  view_model = record { unifier = s; general = view.general; closed = view.closed; full = full }

  same_sets : (x : ℕ) → has ws x ≡ true → D x ≡ A (slot x)
  same_sets x k =
      let up = st.up D view_model in
      let down = st.down A model in
      rising_same 0 M (D x) (A (slot x)) (view.closed.family.rising x) (model.closed.family.rising (slot x))
      (record { each = λ i e. ((most up.0 up.1).at (slot x)).each i (subst (λ l. has l i ≡ true) (sym (up.2 x k)) e) })
      ((view.contains (λ v. A (slot v)) (closed_either M N es s down.unifier ps (λ v. A (slot v)) view.general down.general down.closed)).at x)

  -- a constrained variable of one value is seen as it, and is shown as it
  seen_one : (x i : ℕ) → has ws x ≡ true → D x ≡ i ∷ [] → apply sets (s x) ≡ Int (pos i)
  seen_one x i k e = by_term (s x) refl
    where
      not_in : (xs : List ℕ) → D x ≡ xs → xs ≡ [] → ⊥
      not_in xs a b = let f : [] ≡ i ∷ [] = sym (a ∙ b) ∙ e in cc

      by_term : (u : Term) → s x ≡ u → apply sets u ≡ Int (pos i)
      by_term (Var y) f =
          let r = set_there s D ws y x k f in
          let one : D r.0 ≡ i ∷ [] = view.closed.same r.0 x y r.1 k r.2 f ∙ e in
          ap (λ o. by_set o y) (r.3 ∙ ap Some one)
      by_term (Int z) f = ap Int (sym (view.closed.values x z i k f (subst (λ l. has l i ≡ true) (sym e) (or_left (i == i) false (eq-eqb i i refl)))))
      by_term (Atom a) f = absurd (not_in (D x) refl (view.closed.atoms x a k f))
      by_term (Comp g ts) f = absurd (not_in (D x) refl (view.closed.compounds x g ts k f))

  shown_one : (x i : ℕ) → has ws x ≡ true → D x ≡ i ∷ [] → shown x ≡ Int (pos i)
  shown_one x i k e = by_term (look x) refl (st.agrees A model x k ∙ sym (same_sets x k) ∙ e)
    where
      linked_one : (o : Option ℕ) (d : ℕ) → linked_set o A ≡ i ∷ [] → value_at o A d ≡ Int (pos i)
      linked_one None d f = absurd (cc)
      linked_one (Some j) d f = ap (λ xs. value_in xs d) f

      by_term : (u : Term) → look x ≡ u → shown_set link A u ≡ i ∷ [] → shown x ≡ Int (pos i)
      by_term (Var d) f g = ap (apply value) f ∙ linked_one (link d) d g
      by_term (Int (pos m)) f g = ap (apply value) f ∙ (let same : m ≡ i = cc in ap (λ y. Int (pos y)) same)
      by_term (Int (negsuc m)) f g = absurd (cc)
      by_term (Atom a) f g = absurd (cc)
      by_term (Comp h' ts) f g = absurd (cc)

  -- what is shown unifies the branch's equations
  shown_unifies : (ds : List Equation) → Unifies look ds → Unifies shown ds
  shown_unifies [] u = tt
  shown_unifies (d ∷ ds) u = (after_is value look d.left ∙ ap (apply value) u.0 ∙ sym (after_is value look d.right), shown_unifies ds u.1)

  seen_unifies : (ds : List Equation) → Unifies s ds → Unifies (after sets s) ds
  seen_unifies [] u = tt
  seen_unifies (d ∷ ds) u = (after_is sets s d.left ∙ ap (apply sets) u.0 ∙ sym (after_is sets s d.right), seen_unifies ds u.1)

  -- through the view's unifier
  shown_s : (x : ℕ) → apply shown (s x) ≡ shown x
  shown_s x = view.general.general shown x (shown_unifies es st.heap.unifies)

  -- where a variable is seen as an integer, it is shown as it
  shown_sets : (y : ℕ) → apply shown (sets y) ≡ shown y
  shown_sets y = by_at (set_at s D ws y) refl
    where
      by_at : (o : Option (List ℕ)) → set_at s D ws y ≡ o → apply shown (by_set o y) ≡ shown y
      by_at None e = refl
      by_at (Some []) e = refl
      by_at (Some (i ∷ [])) e = let r = set_from s D ws y (i ∷ []) e in sym (shown_one r.0 i r.1 r.3) ∙ sym (shown_s r.0) ∙ ap (apply shown) r.2
      by_at (Some (i ∷ j ∷ is)) e = refl

  -- What is seen is shown as the term itself.
  pub shown_seen : (u : Term) → apply shown (seen s D ws u) ≡ apply shown u
  shown_seen u =
      sym (after_is shown sets (apply s u))
      ∙ ap (λ f. apply f (apply s u)) (functions shown_sets)
      ∙ sym (after_is shown s u)
      ∙ ap (λ f. apply f u) (functions shown_s)

  -- and what is shown is seen by one substitution
  pub through : (r : Substitution) × ((x : ℕ) → x < n → apply r (look x) ≡ after sets s x)
  through = st.heap.through (after sets s) (seen_unifies es view.general.unifies)

  back_value : (d : ℕ) → apply through.0 (value d) ≡ through.0 d
  back_value d = by_link (link d) refl
    where
      by_one : (j : ℕ) → link d ≡ Some j → (xs : List ℕ) → A j ≡ xs → apply through.0 (value_in xs d) ≡ through.0 d
      by_one j e [] f = refl
      by_one j e (i ∷ []) f =
          let v = st.from d j e in
          let one : D v.0 ≡ i ∷ [] = same_sets v.0 v.1 ∙ ap A v.3 ∙ f in
          sym (seen_one v.0 i v.1 one) ∙ sym (through.1 v.0 (st.used v.0 v.1)) ∙ ap (apply through.0) v.2
      by_one j e (i ∷ m ∷ is) f = refl

      by_link : (o : Option ℕ) → link d ≡ o → apply through.0 (value_at o A d) ≡ through.0 d
      by_link None e = refl
      by_link (Some j) e = by_one j e (A j) refl

  pub seen_shown : (u : Term) → Of (λ v. v < n) u → apply through.0 (apply shown u) ≡ seen s D ws u
  seen_shown u known =
      ap (apply through.0) (after_is value look u)
      ∙ sym (after_is through.0 value (apply look u))
      ∙ ap (λ f. apply f (apply look u)) (functions back_value)
      ∙ sym (after_is through.0 look u)
      ∙ agree (λ v. v < n) (after through.0 look) (after sets s) through.1 u known
      ∙ after_is sets s u

  -- ---- the list and the cost of a search

  -- Where the list is shown with these members, it is seen with as many, and the cost's fault is the same.
  pub members_there : (t c : Term) → Of (λ v. v < n) t → Of (λ v. v < n) c → (ms : List Member) → read_list (apply shown t) ≡ Ok ms
      → (ks : List Member) × (read_list (apply (λ v. seen s D ws (Var v)) t) ≡ Ok ks) × (cost_fault ks (apply (λ v. seen s D ws (Var v)) c) ≡ cost_fault ms (apply shown c))
  members_there t c known cost_known ms e =
      let r = through.0 in
      let comes : (u : Term) → Of (λ v. v < n) u → apply shown (apply r (apply shown u)) ≡ apply shown u = λ u o. ap (apply shown) (seen_shown u o) ∙ shown_seen u in
      let list = list_back r shown (apply shown t) ms e (comes t known) in
      let is : (u : Term) → Of (λ v. v < n) u → apply (λ v. seen s D ws (Var v)) u ≡ apply r (apply shown u) = λ u o. seen_by_variable s D ws u ∙ sym (seen_shown u o) in
      (map (renamed r) ms, ap read_list (is t known) ∙ list.0, ap (cost_fault (map (renamed r) ms)) (is c cost_known) ∙ cost_back r shown ms list.1 (apply shown c) (comes c cost_known))
