-- What is seen at a node: the branch picks the variable whose cell's variable of the store is picked over the posted ranges, with the same values.
use Rattle.std.proofs.Common.{◌≡◌, ◌⊎◌, ℕ, ◌<◌, ◌≤◌, true, ℤ, pos, List, [], ◌∷◌, map, Option, Some, None, Result, Ok, Err, refl, ap, sym, ◌∙◌, subst, inl, inr}
use Rattle.std.proofs.Common.{arith}
use Rattle.std.proofs.lemmas.Bool.{true≢false}
use Rattle.std.proofs.lemmas.Int.{ints}
use Rattle.std.specs.Ordering.{int_eq}
use Rattle.fd_language.specs.Family.{Family, has, universe, IsInside}
use Rattle.fd_language.specs.Range.{Indexical}
use Rattle.fd_language.specs.SingleValues.{only, value_in, value_at}
use Rattle.fd_language.specs.Term.{Term, Var, Int, Atom, Comp, Substitution, apply}
use Rattle.fd_language.specs.Unifier.{Equation}
use Rattle.fd_language.proofs.Lemmas.{after_is, rising_same, in_universe, only_member}
use Rattle.fd_model.specs.declared.kinds.BuiltinKind.TheVariants as kind
use Rattle.fd_model.specs.declared.kinds.Order.{Order}
use Rattle.fd_model.specs.declared.kinds.QueryFault.{QueryFault}
use Rattle.fd_model.specs.BestPosted.{IsCostOf}
use Rattle.fd_model.specs.Branches.{look_in, sets_in}
use Rattle.fd_model.specs.Builtins.{decided, is_same}
use Rattle.fd_model.specs.ClosedFamilies.{constrained}
use Rattle.fd_model.specs.Goal.{Branch, Query}
use Rattle.fd_model.specs.Labelling.{read_list, pick, values_by, open_ones}
use Rattle.fd_model.specs.Leaves.{IsSeenAs}
use Rattle.fd_model.specs.Members.{Member, Open, Known, as_member}
use Rattle.fd_model.specs.Models.{IsModel}
use Rattle.fd_model.specs.PostedLeaves.{AreLeft, seen_in, picked_in, open_unless}
use Rattle.fd_model.specs.BranchViews.{IsConsistent, IsView, seen}
use Rattle.heap_cells.specs.Cells.{Cells}
use Rattle.heap_cells.specs.SeenTerms.{link_in}
use Rattle.heap_cells.specs.Terms.{Naming}
use Rattle.branch_meaning.specs.AnswerTexts.{cell_set}
use Rattle.branch_meaning.specs.Heap.{after, Below}
use Rattle.branch_meaning.specs.HeldBranches.{HeldState, IsHeld, IsAtRest, fixed_held, link_at, open_link}
use Rattle.branch_meaning.specs.Labelling.{done, labels, by_listing, by_picked, labelled}
use Rattle.branch_meaning.specs.Store.{IsStored}
use Rattle.branch_meaning.proofs.Lemmas.{found_same, functions, sole_value, label_done, label_there, label_in, seen_by_variable, seen_of, variables_on}
use Rattle.branch_lemmas.specs.Frames.{held_of, IsKept}
use Rattle.branch_lemmas.proofs.Lemmas.{settled_held, settled_look, settled_rest, unsettled}
use Rattle.sought_leaves.specs.LeafSearch.{owned, shown_by, IsSearched}
use Rattle.sought_leaves.proofs.Heaps.{heap_by, heap_long, heap_links, heap_valid}
use Rattle.sought_leaves.proofs.Members.{as_one, under, IsPlain, member_under, list_under, Alike, SamePick, pick_alike, none_alike, some_alike, shown_alike}
use Rattle.sought_leaves.proofs.Nodes.{at_branch, IsPicked, IsNode}
use Rattle.sought_leaves.proofs.Values.{greatest_model, left_model, left_most, left_free}

-- what a labelling does, from its list
listing_done : (o : Order) (v : ℕ → List ℕ) (l : Result (List Member) QueryFault) → by_listing o v l ≡ done → (ms : List Member) × (l ≡ Ok ms) × (pick o v ms ≡ None)
listing_done o v (Err f) e = absurd (cc)
listing_done o v (Ok ms) e = (ms, refl, none (pick o v ms) e)
  where
    none : (p : Option ℕ) → by_picked v p ≡ done → p ≡ None
    none None i = refl
    none (Some x) i = absurd (cc)

listing_labels : (o : Order) (v : ℕ → List ℕ) (l : Result (List Member) QueryFault) (x : ℕ) (ns : List ℕ) → by_listing o v l ≡ labels x ns
    → (ms : List Member) × (l ≡ Ok ms) × (pick o v ms ≡ Some x) × (v x ≡ ns)
listing_labels o v (Err f) x ns e = absurd (cc)
listing_labels o v (Ok ms) x ns e = let p = some (pick o v ms) e in (ms, refl, p.0, p.1)
  where
    some : (p : Option ℕ) → by_picked v p ≡ labels x ns → (p ≡ Some x) × (v x ≡ ns)
    some None i = absurd (cc)
    some (Some y) i = let same : y ≡ x = cc in (ap Some same, (let g : v y ≡ ns = cc in ap v (sym same) ∙ g))

no_names : Naming
no_names a = []

no_query : Query
no_query = record { variables = 0; names = []; shown = []; goals = [] }

same_int : (z : ℤ) (u : Term) → is_same u (Int z) ≡ true → u ≡ Int z
same_int z (Var x) e = absurd (true≢false (sym e))
same_int z (Int w) e = ap Int (equal w e)
  where
    equal : (w : ℤ) → int_eq w z ≡ true → w ≡ z
    equal w i = grind (arith, ints)
same_int z (Atom a) e = absurd (true≢false (sym e))
same_int z (Comp f ts) e = absurd (true≢false (sym e))

itself : (z : ℤ) → is_same (Int z) (Int z) ≡ true
itself z = equal z
  where
    equal : (w : ℤ) → int_eq w w ≡ true
    equal w = grind (arith, ints)

-- a set with two members has no only one
not_alone : (ws : List ℕ) → has ws 0 ≡ true → has ws 1 ≡ true → only ws ≡ None
not_alone [] e i = refl
not_alone (w ∷ []) e i = (let a = only_member w 0 e in let b = only_member w 1 i in absurd (omega (arith, a, b)))
not_alone (w ∷ v ∷ ws) e i = refl

value_plain : (q : Option ℕ) (T : Family) (d : ℕ) → (value_at q T d ≡ Var d) ⊎ ((z : ℤ) × (value_at q T d ≡ Int z))
value_plain None T d = inl refl
value_plain (Some k) T d = by_set (T k)
  where
    by_set : (ws : List ℕ) → (value_in ws d ≡ Var d) ⊎ ((z : ℤ) × (value_in ws d ≡ Int z))
    by_set [] = inl refl
    by_set (w ∷ []) = inr (pos w, refl)
    by_set (w ∷ v ∷ ws) = inl refl

-- a term that comes from a variable is one
unbound : (bound : Substitution) → ((d : ℕ) → (bound d ≡ Var d) ⊎ ((n : ℕ) × (bound d ≡ Int (pos n)))) → (u : Term) (d : ℕ) → apply bound u ≡ Var d → (u ≡ Var d) × (bound d ≡ Var d)
unbound bound plain (Var e) d i = elim (plain e) [
  | inl j ↦ (let same : Var e ≡ Var d = sym j ∙ i in let k : e ≡ d = cc in (ap Var k, ap bound (sym k) ∙ i))
  | inr j ↦ absurd (let f : Int (pos j.0) ≡ Var d = sym j.1 ∙ i in cc)
]
unbound bound plain (Int z) d i = absurd (cc)
unbound bound plain (Atom a) d i = absurd (cc)
unbound bound plain (Comp f ts) d i = absurd (cc)

module _ (M N : ℕ) (big : 0 < N) (b : Branch) (o : Order) (t c : Term) (h : ℕ) (look : Substitution) (link : ℕ → Option ℕ) (slot : ℕ → ℕ) (qs : List Indexical) (A : Family) (ms : List Member)
    (cost : Member) (own : ℕ → ℕ) (ls : List Indexical) (s : IsSearched M N b t c h look link slot qs A ms cost own ls)
    (es : List Equation) (l : List Indexical) (k : IsNode M N big b o t c h look link slot qs A ms cost own ls s es l) (ok : IsConsistent M N es b.posted) (sure : IsConsistent M M [] l)
    (G : Family) (left : AreLeft M l G) where
  model : IsModel M M [] l G
  model = left_model M l G k.list_monotone sure left

  greatest : (D : Family) × IsModel M N [] k.store D × ((R : Family) → IsModel M N [] k.store R → IsInside R D)
  greatest = greatest_model M N k.store k.store_monotone G (k.more G model)

  abbrev T : Family
  T = greatest.0

  -- the store's sets are those of the posted ranges
  sets_same : (j : ℕ) → has (constrained k.store) j ≡ true → T j ≡ G j
  sets_same j i =
      let r = k.back T greatest.1 in
      rising_same 0 M (T j) (G j) (greatest.1.closed.family.rising j) (left.family.rising j)
      (record { each = λ n e. ((left_most M l G r.0 left r.1).at j).each n (subst (λ ws. has ws n ≡ true) (sym (r.2 j i)) e) })
      ((greatest.2 G (k.more G model)).at j)

  -- ---- the node as a frame of the machine's relation

  none_behind : (d : ℕ) → h ≤ d → k.links d ≡ None
  none_behind d a = by_link (k.links d) refl
    where
      by_link : (q : Option ℕ) → k.links d ≡ q → k.links d ≡ None
      by_link None e = e
      by_link (Some j) e =
          let v = k.stored.from d j e in
          let low : d < h = subst (Below h) v.2 (k.stored.heap.cells v.0 (k.stored.used v.0 v.1)) in
          absurd (omega (arith, a, low))

  abbrev H : Cells
  H = heap_by k.links h

  links_is : link_in H ≡ k.links
  links_is = heap_links k.links h none_behind

  kept : IsKept M N H k.store es b.posted (λ v. v < b.fresh) k.at
  kept = record {
    slot = k.slots;
    stored = subst (λ n. IsStored M N es b.posted (λ v. v < b.fresh) n k.at (link_in H) k.slots k.store) (sym (heap_long k.links h))
        (subst (λ f. IsStored M N es b.posted (λ v. v < b.fresh) h k.at f k.slots k.store) (sym links_is) k.stored);
  }

  abbrev F : HeldState
  F = fixed_held (held_of no_names H k.store) T

  abbrev seen_look : Substitution
  seen_look = settled_look M N no_names H (heap_valid k.links h) k.store es b.posted (λ v. v < b.fresh) k.at kept T greatest.2

  abbrev value : Substitution
  value d = value_at (link_in H d) T d

  abbrev w : Substitution
  w = after value k.bound

  now_term : (u : Term) → apply seen_look u ≡ apply w (apply look u)
  now_term u =
      after_is value k.at u
      ∙ ap (λ f. apply value (apply f u)) (functions (λ x. k.looks x))
      ∙ ap (apply value) (after_is k.bound look u)
      ∙ sym (after_is value k.bound (apply look u))

  w_plain : IsPlain w
  w_plain d = elim (k.plain d) [
    | inl e ↦ elim (value_plain (link_in H d) T d) [ inl i ↦ inl (ap (apply value) e ∙ i) | inr i ↦ inr (i.0, ap (apply value) e ∙ i.1) ]
    | inr e ↦ inr (pos e.0, ap (apply value) e.1)
  ]

  -- what was shown as an integer before the search still is
  abbrev before : Substitution
  before d = value_at (link d) A d

  shown_again : (d : ℕ) → w d ≡ apply w (before d)
  shown_again d = by_link (link d) refl
    where
      same_number : (j n m : ℕ) → link d ≡ Some j → A j ≡ n ∷ [] → k.bound d ≡ Int (pos m) → m ≡ n
      same_number j n m i e f =
          let v = s.stored.from d j i in
          let named : has (constrained qs) j ≡ true = subst (λ x. has (constrained qs) x ≡ true) v.3 (s.stored.slots v.0 v.1) in
          let one = sole_value M N qs A s.most j n named e G (k.older G (k.more G model)) in
          let g = k.held d m f in
          let owns : own d ≡ j = s.owned.linked d j g.0 i in
          let both : m ∷ [] ≡ n ∷ [] = sym (g.1 G model) ∙ ap G owns ∙ one in
          cc

      by_set : (j : ℕ) → link d ≡ Some j → (ws : List ℕ) → A j ≡ ws → w d ≡ apply w (value_in ws d)
      by_set j i [] e = refl
      by_set j i (n ∷ []) e = elim (k.plain d) [
        | inl f ↦
            let v = s.stored.from d j i in
            let named : has (constrained qs) j ≡ true = subst (λ x. has (constrained qs) x ≡ true) v.3 (s.stored.slots v.0 v.1) in
            let one = sole_value M N qs A s.most j n named e T (k.older T greatest.1) in
            ap (apply value) f ∙ ap (λ q. value_at q T d) (ap (λ g. g d) links_is ∙ k.same d f ∙ i) ∙ ap (λ ws. value_in ws d) one
        | inr f ↦ ap (apply value) f.1 ∙ ap (λ z. Int (pos z)) (same_number j n f.0 i e f.1)
      ]
      by_set j i (n ∷ m ∷ ws) e = refl

      by_link : (q : Option ℕ) → link d ≡ q → w d ≡ apply w (value_at q A d)
      by_link None i = refl
      by_link (Some j) i = by_set j i (A j) refl

  now_shown : (u : Term) → apply seen_look u ≡ apply w (apply (shown_by link A look) u)
  now_shown u =
      now_term u
      ∙ ap (λ f. apply f (apply look u)) (functions shown_again)
      ∙ after_is w before (apply look u)
      ∙ ap (apply w) (sym (after_is before look u))

  -- ---- members

  abbrev here : ℕ → List ℕ
  here d = values_by N (cell_set T (F.link d))

  abbrev Is : ℕ → ℕ → Type 0
  Is d j = (here d ≡ G j) × (k.bound d ≡ Var d) × (has (open_ones ms) d ≡ true) × (own d ≡ j)

  is_same_set : (d j : ℕ) → Is d j → here d ≡ G j
  is_same_set d j i = i.0

  abbrev AlikeAt : Member → Member → Type 0
  AlikeAt = Alike here G Is is_same_set

  -- an open cell that isn't linked: all numbers are left to its variable of the store
  alike_unlinked : (d : ℕ) → has (open_ones ms) d ≡ true → k.bound d ≡ Var d → link d ≡ None → AlikeAt (as_one (w d)) (seen_in G (Open (own d)))
  alike_unlinked d among e none =
      let no_link : link_in H d ≡ None = ap (λ f. f d) links_is ∙ k.same d e ∙ none in
      let all : G (own d) ≡ universe N = left_free M N l G (own d) s.within left (k.low d among G model) (k.free d among e none G model) in
      let stays : w d ≡ Var d = ap (apply value) e ∙ ap (λ q. value_at q T d) no_link in
      let several : only (G (own d)) ≡ None = ap only all ∙ not_alone (universe N) (in_universe N 0 (omega arith)) (in_universe N 1 (omega (arith, big))) in
      let set : here d ≡ G (own d) = ap (λ q. values_by N (cell_set T (link_at q T))) no_link ∙ sym all in
      subst (λ u. AlikeAt (as_one u) (seen_in G (Open (own d)))) (sym stays) (subst (λ q. AlikeAt (Open d) (open_unless (own d) q)) (sym several) (set, e, among, refl))

  -- one that is linked has the set of its variable of the store
  alike_linked : (d j : ℕ) → has (open_ones ms) d ≡ true → k.bound d ≡ Var d → link d ≡ Some j → AlikeAt (as_one (w d)) (seen_in G (Open (own d)))
  alike_linked d j among e there =
      let linked : link_in H d ≡ Some j = ap (λ f. f d) links_is ∙ k.same d e ∙ there in
      let v = k.stored.from d j (k.same d e ∙ there) in
      let named : has (constrained k.store) j ≡ true = subst (λ i. has (constrained k.store) i ≡ true) v.3 (k.stored.slots v.0 v.1) in
      let owns : own d ≡ j = s.owned.linked d j among there in
      let goes : w d ≡ value_in (T j) d = ap (apply value) e ∙ ap (λ q. value_at q T d) linked in
      let set : here d ≡ values_by N (cell_set T (open_link (T j) j)) = ap (λ q. values_by N (cell_set T (link_at q T))) linked in
      subst (λ u. AlikeAt (as_one u) (seen_in G (Open (own d)))) (sym goes) (subst (λ i. AlikeAt (as_one (value_in (T j) d)) (open_unless i (only (G i)))) (sym owns)
      (by_set (T j) refl (sym (sets_same j named)) set owns))
    where
      by_set : (ws : List ℕ) → T j ≡ ws → G j ≡ T j → here d ≡ values_by N (cell_set T (open_link (T j) j)) → own d ≡ j → AlikeAt (as_one (value_in (T j) d)) (open_unless j (only (G j)))
      by_set [] i g set owns =
          subst (λ ws. AlikeAt (as_one (value_in ws d)) (open_unless j (only (G j)))) (sym i) (subst (λ ws. AlikeAt (Open d) (open_unless j (only ws))) (sym (g ∙ i))
          (set ∙ ap (λ ws. values_by N (cell_set T (open_link ws j))) i ∙ sym g, e, among, owns))
      by_set (n ∷ []) i g set owns =
          subst (λ ws. AlikeAt (as_one (value_in ws d)) (open_unless j (only (G j)))) (sym i) (subst (λ ws. AlikeAt (Known (pos n)) (open_unless j (only ws))) (sym (g ∙ i)) refl)
      by_set (n ∷ m ∷ ns) i g set owns =
          subst (λ ws. AlikeAt (as_one (value_in ws d)) (open_unless j (only (G j)))) (sym i) (subst (λ ws. AlikeAt (Open d) (open_unless j (only ws))) (sym (g ∙ i))
          (set ∙ ap (λ ws. values_by N (cell_set T (open_link ws j))) i ∙ sym g, e, among, owns))

  one_alike : (d : ℕ) → has (open_ones ms) d ≡ true → AlikeAt (as_one (w d)) (seen_in G (Open (own d)))
  one_alike d among = elim (k.plain d) [
    | inl e ↦ by_link (link d) refl e
    | inr e ↦
        let set = (k.held d e.0 e.1).1 G model in
        subst (λ u. AlikeAt (as_one u) (seen_in G (Open (own d)))) (sym (ap (apply value) e.1)) (subst (λ ws. AlikeAt (Known (pos e.0)) (open_unless (own d) (only ws))) (sym set) refl)
  ]
    where
      by_link : (q : Option ℕ) → link d ≡ q → k.bound d ≡ Var d → AlikeAt (as_one (w d)) (seen_in G (Open (own d)))
      by_link None i e = alike_unlinked d among e i
      by_link (Some j) i e = alike_linked d j among e i

  abbrev shown : List Member
  shown = map (under w) ms

  abbrev stored_members : List Member
  stored_members = map (owned own) ms

  picks : SamePick here G Is is_same_set (pick o here shown) (picked_in o G stored_members)
  picks = pick_alike here G Is is_same_set o shown (map (seen_in G) stored_members) (shown_alike here G Is is_same_set w own ms one_alike)

  on_held : labelled o here (apply seen_look t) ≡ by_picked here (pick o here shown)
  on_held = ap (λ u. labelled o here u) (now_shown t) ∙ ap (by_listing o here) (list_under w w_plain (apply (shown_by link A look) t) ms s.members)

  -- ---- what is seen in the branch

  module _ (v : Substitution) (D : Family) (view : IsView M N es b.posted v D) where
    held' : IsHeld M N F es b.posted (λ v. v < b.fresh) seen_look
    held' = settled_held M N no_names H (heap_valid k.links h) k.store es b.posted (λ v. v < b.fresh) k.at kept T greatest.2

    rest' : IsAtRest M N F T
    rest' = settled_rest M N no_names H (heap_valid k.links h) k.store es b.posted (λ v. v < b.fresh) k.at kept T greatest.2 no_query greatest.1

    abbrev values : ℕ → List ℕ
    values y = values_by N (sets_in (at_branch b o t es) v D y)

    -- the list by the branch's view
    abbrev seen_list : Term
    seen_list = apply (look_in (at_branch b o t es) v D) t

    list_is : seen_list ≡ seen v D (constrained b.posted) t
    list_is = seen_by_variable v D (constrained b.posted) t

    -- Nothing is picked.
    pub leaf_there : picked_in o G stored_members ≡ None → (ns : List Member) × (read_list seen_list ≡ Ok ns) × (pick o values ns ≡ None)
    leaf_there e =
        let none = none_alike here G Is is_same_set (pick o here shown) (picked_in o G stored_members) picks e in
        let there = label_done M N F es b.posted (λ v. v < b.fresh) seen_look held' T rest' v D view ok o t s.list (on_held ∙ ap (by_picked here) none) in
        let r = listing_done o values (read_list (seen v D (constrained b.posted) t)) there in
        (r.0, ap read_list list_is ∙ r.1, r.2)

    -- The variable that is picked is an open cell, whose variable of the store is picked there, with the same values.
    pub record IsNext (j : ℕ) : Type 0 where
      pub members : List Member
      pub variable : ℕ
      pub picked : IsPicked M N b o t es v D members variable
      pub values_are : values variable ≡ G j
      pub low : variable < b.fresh
      pub cell : ℕ
      pub is_cell : look variable ≡ Var cell
      pub open_now : k.bound cell ≡ Var cell
      pub among : has (open_ones ms) cell ≡ true
      pub owns : own cell ≡ j

    pub next_there : (j : ℕ) → picked_in o G stored_members ≡ Some j → IsNext j
    next_there j e =
        let d = some_alike here G Is is_same_set (pick o here shown) (picked_in o G stored_members) j picks e in
        let there = label_there M N F es b.posted (λ v. v < b.fresh) seen_look held' T rest' v D view ok o t s.list d.0 (here d.0) (on_held ∙ ap (by_picked here) d.1) in
        let r = listing_labels o values (read_list (seen v D (constrained b.posted) t)) there.0 (here d.0) there.1 in
        let low = variables_on (λ v. v < b.fresh) (seen v D (constrained b.posted) t) (seen_of b.fresh es v view.general k.stored.heap.scoped D (constrained b.posted) t s.list) there.0
        (label_in o values (seen v D (constrained b.posted) t) there.0 (here d.0) there.1) in
        let raw : k.at there.0 ≡ Var d.0 = unsettled H T (k.at there.0) d.0 there.2 in
        let bare = unbound k.bound k.plain (look there.0) d.0 (sym (k.looks there.0) ∙ raw) in
        record {
          members = r.0;
          variable = there.0;
          picked = record { view = view; list = ap read_list list_is ∙ r.1; picked = r.2 };
          values_are = r.3 ∙ d.2.0;
          low = low;
          cell = d.0;
          is_cell = bare.0;
          open_now = d.2.1;
          among = d.2.2;
          owns = d.2.3;
        }

    alike_known : (m q : Member) (z : ℤ) → AlikeAt m q → q ≡ Known z → m ≡ Known z
    alike_known (Known x) (Known y) z a e = ap Known a ∙ e
    alike_known (Known x) (Open j) z a e = absurd a
    alike_known (Open d) (Known y) z a e = absurd a
    alike_known (Open d) (Open j) z a e = absurd (cc)

    cost_under : (m : Member) (z : ℤ) → ((d : ℕ) → m ≡ Open d → has (open_ones ms) d ≡ true) → seen_in G (owned own m) ≡ Known z → under w m ≡ Known z
    cost_under (Known y) z among e = e
    cost_under (Open d) z among e = alike_known (as_one (w d)) (seen_in G (Open (own d))) z (one_alike d (among d refl)) e

    cost_among : (m : Member) (d : ℕ) → IsCostOf ms m → m ≡ Open d → has (open_ones ms) d ≡ true
    cost_among (Known y) d i e = absurd (cc)
    cost_among (Open f) d i e = let same : f ≡ d = cc in subst (λ x. has (open_ones ms) x ≡ true) same i

    integer_only : (u : Term) (z : ℤ) → as_member u ≡ Ok (Known z) → u ≡ Int z
    integer_only (Var x) z e = absurd (cc)
    integer_only (Int y) z e = cc
    integer_only (Atom a) z e = absurd (cc)
    integer_only (Comp f ts) z e = absurd (cc)

    -- The cost is seen as the integer that it is over the posted ranges.
    pub cost_there : (z : ℤ) → seen_in G (owned own cost) ≡ Known z → IsSeenAs M N (at_branch b o t es) c z
    cost_there z e =
        let known = cost_under cost z (λ d i. cost_among cost d s.among i) e in
        let now : apply seen_look c ≡ Int z = now_shown c ∙ integer_only (apply w (apply (shown_by link A look) c)) z
        (member_under w w_plain (apply (shown_by link A look) c) cost s.costs ∙ ap Ok known) in
        let found = found_same M N F es b.posted (λ v. v < b.fresh) seen_look held' T rest' v D view ok kind.Same seen_look c (Int z) s.known tt in
        let both : is_same (seen v D (constrained b.posted) c) (Int z) ≡ true =
        (
        let f : decided (is_same (apply seen_look c) (Int z)) ≡ decided (is_same (seen v D (constrained b.posted) c) (Int z)) = found in
        let g : is_same (apply seen_look c) (Int z) ≡ is_same (seen v D (constrained b.posted) c) (Int z) = cc in
        sym g ∙ ap (λ u. is_same u (Int z)) now ∙ itself z
        ) in
        record { unifier = v; family = D; view = view; seen = seen_by_variable v D (constrained b.posted) c ∙ same_int z (seen v D (constrained b.posted) c) both }
