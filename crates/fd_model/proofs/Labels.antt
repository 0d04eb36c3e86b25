-- The branches of a labelling: each leaf shows its only solution, and the children of a branch part its solutions.
use Rattle.std.proofs.Common.{◌≡◌, ℕ, ◌<◌, ◌≤◌, true, false, cond, ◌==◌, ℤ, pos, IsTrue, List, [], ◌∷◌, ◌++◌, map, Option, Some, None, ◌⊎◌, refl, ap, sym, ◌∙◌}
use Rattle.std.proofs.Common.{subst, inl, inr, arith, eqb-true, Result, Err, Ok}
use Rattle.fd_model.proofs.Slots.{int_number}
use Rattle.std.proofs.lemmas.Bool.{or_cases, or_right, cases_Bool, true≢false}
use Rattle.fd_model.specs.declared.kinds.QueryFault.{QueryFault}
use Rattle.fd_model.specs.declared.kinds.Order.{Order}
use Rattle.fd_model.specs.declared.kinds.Order.TheVariants.{Leftmost, FirstFail}
use Rattle.fd_language.specs.Term.{Term, Var, Int, Atom, Comp, Substitution, apply, after}
use Rattle.fd_language.specs.Unifier.{Unifies}
use Rattle.fd_language.specs.Family.{Family, has, IsSubset, IsRising}
use Rattle.fd_language.specs.Range.{Indexical, set_of, reads}
use Rattle.fd_model.specs.ClosedFamilies.{AllPosted, constrained}
use Rattle.fd_model.specs.Goal.{Goal, Label, Program, Branch}
use Rattle.fd_model.specs.BranchViews.{IsConsistent, IsView, set_at, by_set}
use Rattle.fd_model.specs.Children.{Gives, Faults, with_goals, Kept, KeptOffer, look_in, Children, kept_by, offer, by_value, by_pick, by_listing, sets_in}
use Rattle.fd_language.proofs.Lemmas.{has_high, has_either, in_universe, universe_rising, in_left, in_right, set_agree, still_unifies, number_for, number_at}
use Rattle.fd_language.proofs.Lemmas.{number_back}
use Rattle.fd_model.proofs.OneView.{one_view}
use Rattle.fd_model.specs.Labelling.{read_list, values_by, pick, open_ones}
use Rattle.fd_model.specs.Members.{Member}
use Rattle.fd_model.specs.Satisfaction.{Assignment, singles}
use Rattle.fd_model.specs.Answers.{IsSolution, Somewhere, Precedes, Comes, OneValue, Settles}
use Rattle.fd_model.proofs.Models.{view_model}
use Rattle.fd_model.proofs.ModelSubstitutions.{Heeds, heeds_weaker, solution_heeds, solution_consistent, solution_inside, given_constrained, given_listed}
use Rattle.fd_model.proofs.ModelSubstitutions.{set_found, look_heeds, look_only, look_single, single_set, by_set_int, through_look, first_member, pos_same}
use Rattle.fd_model.proofs.SubstitutedLists.{read_members}
use Rattle.fd_model.proofs.PickedMembers.{IsInt, AllInts, First, Among, Picked, picked_among, pick_none, pick_some}
use Rattle.fd_model.proofs.ValueBranches.{rising_within, kept_each, kept_there, kept_order}
use Rattle.fd_model.proofs.OpenMembers.{Follows, IsGrounded, child_ground, is_read, list_read as read_as, open_self as self_open}
use Rattle.fd_model.proofs.SearchAnswers.{IsParted, IsLeaf, Before}

pub natural : Term → ℕ
natural (Int (pos n)) = n
natural _ = 0

natural_of : (n : ℕ) (t : Term) → t ≡ Int (pos n) → natural t ≡ n
unfolding natural
natural_of n t e = ap natural e

-- lists of values
pub map_same : (a c : Assignment) (ys : List ℕ) → ((y : ℕ) → has ys y ≡ true → a y ≡ c y) → map a ys ≡ map c ys
map_same a c [] h = refl
map_same a c (y ∷ ys) h = let one = h y (first_member y ys) in let more = map_same a c ys (λ w k. h w (or_right (y == w) (has ys w) k)) in cc

map_shown : (f : Substitution) (a : Assignment) (ys : List ℕ) → ((y : ℕ) → has ys y ≡ true → f y ≡ Int (pos (a y))) → map f ys ≡ map (λ n. Int (pos n)) (map a ys)
map_shown f a [] h = refl
map_shown f a (y ∷ ys) h = let one = h y (first_member y ys) in let more = map_shown f a ys (λ w k. h w (or_right (y == w) (has ys w) k)) in cc

map_at : (a c : Assignment) (ys : List ℕ) (y : ℕ) → map a ys ≡ map c ys → has ys y ≡ true → a y ≡ c y
map_at a c [] y e h = absurd (true≢false (sym h))
map_at a c (x ∷ ys) y e h = elim (or_cases (x == y) (has ys y) h) [
  | inl k ↦ subst (λ w. a w ≡ c w) (eqb-true x y k) (let g : a x ≡ c x = cc in g)
  | inr k ↦ map_at a c ys y (let g : map a ys ≡ map c ys = cc in g) k
]

int_same : (n : ℕ) (z : ℤ) → Int (pos n) ≡ Int z → z ≡ pos n
int_same n z e = cc

module _ (M N : ℕ) (low : N ≤ M) (prog : Program) (o : Order) (t : Term) (ms : List Member) (base : Substitution) (ws : List ℕ) (listed : read_list (apply base t) ≡ Ok ms) where
  abbrev vs : List ℕ
  vs = open_ones ms

  -- a branch of the labelling
  pub record IsReady (b : Branch) : Type 0 where
    pub goals : (b.goals ≡ []) ⊎ (b.goals ≡ Label o t ∷ [])
    pub consistent : IsConsistent M N b.equations b.posted
    pub follows : (u : Substitution) → Heeds M N b.equations b.posted u → Follows base u
    pub settles : Settles M b.posted ws
    pub covered : (w : ℕ) → has (constrained b.posted) w ≡ true → (has ws w ≡ true) ⊎ ((u : Substitution) → Heeds M N b.equations b.posted u → AllInts u vs → IsInt (u w))
    pub inside : (y : ℕ) (z : ℤ) → has vs y ≡ true → ((u : Substitution) → Unifies u b.equations → u y ≡ Int z) → (n : ℕ) × (n ≤ N) × (z ≡ pos n)
    pub ground : (u : Substitution) × Unifies u b.equations × AllInts u vs
    pub finished : b.goals ≡ [] → (s : Substitution) (D : Family) → IsView M N b.equations b.posted s D → AllInts (look_in b s D) vs

  as_grounded : (b : Branch) → IsReady b → IsGrounded M N t ms base listed b
  as_grounded b ready = record { consistent = ready.consistent; follows = ready.follows; ground = ready.ground }

  abbrev pub Allows : Branch → List ℕ → Type 0
  Allows b ns = (a : Assignment) × IsSolution M N b.equations b.posted vs a × (ns ≡ map a vs)

  abbrev pub Parted : Branch → List Branch → Type 0
  Parted b cs = IsParted M N prog vs (Comes o) IsReady Allows b cs

  module _ (b : Branch) (s : Substitution) (D : Family) (ready : IsReady b) (v : IsView M N b.equations b.posted s D) where
    abbrev look : Substitution
    look = look_in b s D

    heeds : Heeds M N b.equations b.posted look
    heeds = look_heeds M N b s D v ready.consistent

    -- what a solution gives is what is seen
    seen_value : (a : Assignment) (l : IsSolution M N b.equations b.posted vs a) (y : ℕ) (z : ℤ) → has vs y ≡ true → look y ≡ Int z → z ≡ pos (a y)
    seen_value a l y z h e =
        let k = sym (given_listed M N low b.equations b.posted vs a l y h)
        ∙ sym (through_look M N b s D v ready.consistent l.unifier (solution_heeds M N low b.equations b.posted vs a l) y) ∙ ap (apply l.unifier) e in
        int_same (a y) z k

    full : (x : ℕ) → has (constrained b.posted) x ≡ true → (n : ℕ) × (has (D x) n ≡ true)
    full x c = (view_model M N b.equations b.posted s D v ready.consistent).full x c

    seen_one : (w : ℕ) → has (constrained b.posted) w ≡ true → IsInt (look w) → OneValue (D w)
    seen_one w c i =
        let f = full w c in (
          f.0,
          single_set M N b s D v ready.consistent w f.0 c
              (λ k h. pos_same k f.0 (look_only M N b s D v ready.consistent w i.0 k c i.1 h ∙ sym (look_only M N b s D v ready.consistent w i.0 f.0 c i.1 f.1))),
        )

    module _ (ints : AllInts look vs) where
      unsettled : (w : ℕ) → has (constrained b.posted) w ≡ true → has ws w ≡ false → OneValue (D w)
      unsettled w c out = elim (ready.covered w c) [ inl h ↦ absurd (true≢false (sym h ∙ out)) | inr h ↦ seen_one w c (h look heeds ints) ]

      one_value : (x : ℕ) → has (constrained b.posted) x ≡ true → OneValue (D x)
      one_value x c = ready.settles D v.closed.family v.closed.posted full unsettled x c

      seen_constrained : (x : ℕ) → has (constrained b.posted) x ≡ true → (n : ℕ) × (n ≤ N) × (look x ≡ Int (pos n)) × (D x ≡ n ∷ [])
      seen_constrained x c =
          let d = one_value x c in
          (d.0, v.closed.within x d.0 c (subst (λ l. has l d.0 ≡ true) (sym d.1) (first_member d.0 [])), look_single M N b s D v ready.consistent x d.0 c d.1, d.1)

      by_option : (y x n : ℕ) → s y ≡ Var x → set_at s D (constrained b.posted) x ≡ Some (n ∷ []) → n ≤ N
      by_option y x n e h =
          let f = set_found s D x (constrained b.posted) (n ∷ []) h in
          v.closed.within f.variable n f.listed (subst (λ l. has l n ≡ true) (sym f.set) (first_member n []))

      listed_by : (y : ℕ) (z : ℤ) (r : Term) → has vs y ≡ true → s y ≡ r → look y ≡ Int z → (n : ℕ) × (n ≤ N) × (z ≡ pos n)
      listed_by y z (Var x) h e i =
          let g = by_set_int (set_at s D (constrained b.posted) x) x z (sym (ap (apply (λ w. by_set (set_at s D (constrained b.posted) w) w)) e) ∙ i) in
          (g.0, by_option y x g.0 e g.1, g.2)
      listed_by y z (Int k) h e i =
          let same : Int k ≡ Int z = sym (ap (apply (λ w. by_set (set_at s D (constrained b.posted) w) w)) e) ∙ i in
          ready.inside y z h (λ u j. sym (v.general.general u y j) ∙ ap (apply u) (e ∙ same))
      listed_by y z (Atom a) h e i = absurd (let same : Atom a ≡ Int z = sym (ap (apply (λ w. by_set (set_at s D (constrained b.posted) w) w)) e) ∙ i in cc)
      listed_by y z (Comp f ts) h e i = absurd (let same = sym (ap (apply (λ w. by_set (set_at s D (constrained b.posted) w) w)) e) ∙ i in cc)

      seen_listed : (y : ℕ) → has vs y ≡ true → (n : ℕ) × (n ≤ N) × (look y ≡ Int (pos n))
      seen_listed y h = let i = ints y h in let g = listed_by y i.0 (s y) h refl i.1 in (g.0, g.1, i.1 ∙ ap Int g.2)

      -- the assignment that is seen
      abbrev seen_number : Assignment
      seen_number x = cond (has (vs ++ constrained b.posted) x) (natural (look x)) 0

      seen_all : (x : ℕ) → has (vs ++ constrained b.posted) x ≡ true → (n : ℕ) × (n ≤ N) × (look x ≡ Int (pos n))
      seen_all x h = elim (has_either vs (constrained b.posted) x h) [ inl k ↦ seen_listed x k | inr k ↦ let c = seen_constrained x k in (c.0, c.1, c.2) ]

      number_is : (x n : ℕ) → has (vs ++ constrained b.posted) x ≡ true → look x ≡ Int (pos n) → seen_number x ≡ n
      number_is x n h e = rw h (natural_of n (look x) e)

      number_low : (x : ℕ) → seen_number x ≤ N
      number_low x = elim (cases_Bool (has (vs ++ constrained b.posted) x)) [
        | inl h ↦ let k = seen_all x h in subst (λ n. n ≤ N) (sym (number_is x k.0 h k.2)) k.1
        | inr h ↦ rw h (omega arith)
      ]

      number_given : (x : ℕ) → has (vs ++ constrained b.posted) x ≡ true → look x ≡ Int (pos (seen_number x))
      number_given x h = let k = seen_all x h in k.2 ∙ ap (λ n. Int (pos n)) (sym (number_is x k.0 h k.2))

      family_is : (x : ℕ) → has (constrained b.posted) x ≡ true → D x ≡ singles seen_number x
      family_is x c = let k = seen_constrained x c in k.3 ∙ ap (λ n. n ∷ []) (sym (number_is x k.0 (in_right vs (constrained b.posted) x c) k.2))

      put_inside : (qs : List Indexical) → ((x : ℕ) → has (constrained qs) x ≡ true → D x ≡ singles seen_number x) → AllPosted (λ p. IsSubset (D p.target) (set_of M D p.range)) qs
          → AllPosted (λ p. IsTrue (has (set_of M (singles seen_number) p.range) (seen_number p.target))) qs
      put_inside [] same h = tt
      put_inside (q ∷ qs) same h = (
        subst (λ l. has l (seen_number q.target) ≡ true) (set_agree M D (singles seen_number) q.range (λ x i. same x (or_right (q.target == x) _ (in_left (reads q.range) (constrained qs) x i))))
            (h.0.each (seen_number q.target) (subst (λ l. has l (seen_number q.target) ≡ true) (sym (same q.target (first_member q.target _))) (first_member (seen_number q.target) []))),
        put_inside qs (λ x i. same x (or_right (q.target == x) _ (in_right (reads q.range) (constrained qs) x i))) h.1,
      )

      seen_solution : IsSolution M N b.equations b.posted vs seen_number
      seen_solution = record { bounded = number_low; unifier = look; unifies = heeds.unifies; given = number_given; posted = put_inside b.posted family_is v.closed.posted }

      -- a leaf shows its one solution
      leaf_of : IsLeaf M N prog vs (Comes o) IsReady Allows b
      leaf_of = record {
        values = map seen_number vs;
        shown = record { unifier = s; family = D; view = v; values = map_shown look seen_number vs (λ y h. number_given y (in_left vs (constrained b.posted) y h)) };
        allowed = (seen_number, seen_solution, refl);
        only = λ ns h. h.2 ∙ map_same h.0 seen_number vs
            (λ y k. let e = seen_value h.0 h.1 y (pos (seen_number y)) k (number_given y (in_left vs (constrained b.posted) y k)) in
            pos_same (h.0 y) (seen_number y) (sym e));
      }

    grounded : IsGrounded M N t ms base listed b
    grounded = as_grounded b ready

    -- the list as it is read in the branch
    list_read : read_list (apply look t) ≡ read_members look ms
    list_read = read_as M N t ms base listed b s D grounded v

    -- nothing is picked: the rest of the goals
    module _ (ints : AllInts look vs) where
      done_view : (s' : Substitution) (D' : Family) → IsView M N b.equations b.posted s' D' → AllInts (look_in b s' D') vs
      done_view s' D' v' =
          let one = one_view M N b.equations b.posted s s' D D' v v' in
          subst (λ r. AllInts (look_in b r D') vs) one.0 (subst (λ E. AllInts (look_in b s E) vs) one.1 ints)

      done_ready : IsReady (with_goals b [])
      done_ready = record {
        goals = inl refl;
        consistent = ready.consistent;
        follows = ready.follows;
        settles = ready.settles;
        covered = ready.covered;
        inside = ready.inside;
        ground = ready.ground;
        finished = λ e. done_view;
      }

      done_part : (cs : List Branch) → Kept M N (with_goals b [] ∷ []) cs → Parted b cs
      done_part cs (inl k) = subst (Parted b) (sym (k.1.1 ∙ ap (λ l. with_goals b [] ∷ l) k.1.2)) (record {
        good = (done_ready, tt);
        into = λ ns h. inl h;
        out = (λ ns h. h, tt);
        order = (tt, tt);
      })
      done_part cs (inr k) = absurd (k.0 ready.consistent)

    -- x is picked: a child for each of its values
    module _ (x : ℕ) (picked : Picked o look vs x) where
      abbrev values : List ℕ
      values = values_by N (set_at s D (constrained b.posted) x)

      abbrev child : ℕ → Branch
      child n = by_value b (Label o t ∷ []) x n

      open_self : s x ≡ Var x
      open_self = self_open M N t ms base listed b s D grounded v x (picked_among o look vs x picked)

      values_of : (r : Option (List ℕ)) → set_at s D (constrained b.posted) x ≡ r → IsRising 0 N (values_by N r)
      values_of None e = universe_rising N
      values_of (Some xs) e = let f = set_found s D x (constrained b.posted) xs e in
          subst (IsRising 0 N) f.set (rising_within 0 M N (D f.variable) (v.closed.family.rising f.variable) (λ n h. v.closed.within f.variable n f.listed h))

      rising : IsRising 0 N values
      rising = values_of (set_at s D (constrained b.posted) x) refl

      -- a solution gives x the number of each variable that is seen as x
      module _ (a : Assignment) (l : IsSolution M N b.equations b.posted vs a) where
        open_number : (y : ℕ) → has vs y ≡ true → look y ≡ Var x → l.unifier x ≡ Int (pos (a y))
        open_number y h e =
            sym (ap (apply l.unifier) e) ∙ through_look M N b s D v ready.consistent l.unifier (solution_heeds M N low b.equations b.posted vs a l) y
            ∙ given_listed M N low b.equations b.posted vs a l y h

        value_by : (n : ℕ) (r : Option (List ℕ)) → n ≤ N → l.unifier x ≡ Int (pos n) → set_at s D (constrained b.posted) x ≡ r → has (values_by N r) n ≡ true
        value_by n None h e i = in_universe N n h
        value_by n (Some xs) h e i =
            let f = set_found s D x (constrained b.posted) xs i in
            let same : a f.variable ≡ n = int_number (a f.variable) n (sym (given_constrained M N low b.equations b.posted vs a l f.variable f.listed)
            ∙ sym (v.general.general l.unifier f.variable l.unifies) ∙ ap (apply l.unifier) f.term ∙ e) in
            subst (λ k. has xs k ≡ true) same (subst (λ k. has k (a f.variable) ≡ true) f.set (solution_inside M N low b.equations b.posted vs a l s D v f.variable))

        more_solution : (n : ℕ) → l.unifier x ≡ Int (pos n) → IsSolution M N (child n).equations (child n).posted vs a
        more_solution n e = record { bounded = l.bounded; unifier = l.unifier; unifies = (e, l.unifies); given = l.given; posted = l.posted }

      less_solution : (n : ℕ) (a : Assignment) → IsSolution M N (child n).equations (child n).posted vs a → IsSolution M N b.equations b.posted vs a
      less_solution n a l = record { bounded = l.bounded; unifier = l.unifier; unifies = l.unifies.1; given = l.given; posted = l.posted }

      child_into : (cs : List Branch) → Kept M N (map child values) cs → (ns : List ℕ) → Allows b ns → Somewhere (λ c. Allows c ns) cs
      child_into cs k ns h =
          let m = picked_among o look vs x picked in
          let e = open_number h.0 h.1 m.0 m.1 m.2 in
          let l = more_solution h.0 h.1 (h.0 m.0) e in
          kept_there M N child (λ c. Allows c ns) values cs (h.0 m.0) (value_by h.0 h.1 (h.0 m.0) (set_at s D (constrained b.posted) x) (h.1.bounded m.0) e refl)
          (solution_consistent M N low (child (h.0 m.0)).equations b.posted vs h.0 l) (h.0, l, h.2) k

      weak : (n : ℕ) (u : Substitution) → Unifies u (child n).equations → Unifies u b.equations
      weak n u h = h.1

      heeds_less : (n : ℕ) (u : Substitution) → Heeds M N (child n).equations b.posted u → Heeds M N b.equations b.posted u
      heeds_less n u h = heeds_weaker M N (child n).equations b.equations b.posted u (weak n) h

      -- the unifier that gives x the number
      inside_by : (n : ℕ) (y : ℕ) (z : ℤ) → has values n ≡ true → has vs y ≡ true → ((u : Substitution) → Unifies u (child n).equations → u y ≡ Int z) → (m : ℕ) × (m ≤ N) × (z ≡ pos m)
      inside_by n y z i h all =
          let u = after (number_for x (pos n)) s in
          let e : apply (number_for x (pos n)) (s y) ≡ Int z = all u (
            ap (apply (number_for x (pos n))) open_self ∙ number_at x (pos n),
            still_unifies (number_for x (pos n)) s b.equations v.general.unifies,
          ) in
          elim (number_back x (pos n) z (s y) e) [
            | inl k ↦ (n, has_high 0 N values n rising i, sym k.1)
            | inr k ↦ ready.inside y z h (λ r j. sym (v.general.general r y j) ∙ ap (apply r) k)
          ]

      child_ready : (n : ℕ) → has values n ≡ true → IsConsistent M N (child n).equations (child n).posted → IsReady (child n)
      child_ready n i c = record {
        goals = inr refl;
        consistent = c;
        follows = λ u h. ready.follows u (heeds_less n u h);
        settles = ready.settles;
        covered = λ w d. elim (ready.covered w d) [ inl h ↦ inl h | inr h ↦ inr (λ u j. h u (heeds_less n u j)) ];
        inside = λ y z h all. inside_by n y z i h all;
        ground = child_ground M N t ms base listed b s D grounded v x (picked_among o look vs x picked) n;
        finished = λ e. absurd (cc);
      }

      -- a solution of the child for n gives n
      child_number : (n : ℕ) (a : Assignment) → IsSolution M N (child n).equations (child n).posted vs a → (y : ℕ) → has vs y ≡ true → look y ≡ Var x → a y ≡ n
      unfolding less_solution
      child_number n a l y h e = int_number (a y) n (sym (open_number a (less_solution n a l) y h e) ∙ l.unifies.0)

      module _ (m n : ℕ) (less : m < n) (a c : Assignment) (k : IsSolution M N (child m).equations (child m).posted vs a) (l : IsSolution M N (child n).equations (child n).posted vs c) where
        first_precedes : (ys : List ℕ) → ((y : ℕ) → has ys y ≡ true → has vs y ≡ true) → First look ys x → Precedes (map a ys) (map c ys)
        first_precedes [] inside h = h
        first_precedes (y ∷ ys) inside (inl e) =
            let h = inside y (first_member y ys) in
            let one = child_number m a k y h e in let other = child_number n c l y h e in
            inl (omega arith)
        first_precedes (y ∷ ys) inside (inr h) =
            let i = inside y (first_member y ys) in
            inr (
              pos_same (a y) (c y) (sym (seen_value a (less_solution m a k) y h.0.0 i h.0.1) ∙ seen_value c (less_solution n c l) y h.0.0 i h.0.1),
              first_precedes ys (λ w j. inside w (or_right (y == w) (has ys w) j)) h.1,
            )

        differ : Among look vs x → map a vs ≡ map c vs → ⊥
        differ w e =
            let one = child_number m a k w.0 w.1 w.2 in let other = child_number n c l w.0 w.1 w.2 in let same = map_at a c vs w.0 e w.1 in
            omega arith

        comes : (p : Order) → Picked p look vs x → Comes p (map a vs) (map c vs)
        comes Leftmost h = first_precedes vs (λ y i. i) h
        comes FirstFail h = differ h

      children_order : (m n : ℕ) → m < n → Before M N prog vs (Comes o) IsReady Allows (child m) (child n)
      children_order m n less is js h g = subst (λ l. Comes o l js) (sym h.2) (subst (Comes o (map h.0 vs)) (sym g.2) (comes m n less h.0 g.0 h.1 g.1 o picked))

      picked_part : (cs : List Branch) → Kept M N (map child values) cs → Parted b cs
      picked_part cs k = record {
        good = kept_each M N child IsReady values cs child_ready k;
        into = child_into cs k;
        out = kept_each M N child (λ c. (ns : List ℕ) → Allows c ns → Allows b ns) values cs (λ n i c ns h. (h.0, less_solution n h.0 h.1, h.2)) k;
        order = kept_order M N child (Before M N prog vs (Comes o) IsReady Allows) 0 N values cs children_order rising k;
      }

    by_picked : (r : Option ℕ) (new : List Member) → read_members look ms ≡ Ok new → pick o (λ x. values_by N (set_at s D (constrained b.posted) x)) new ≡ r
        → (cs : List Branch) → KeptOffer M N (by_pick (λ x. values_by N (set_at s D (constrained b.posted) x)) b (Label o t) [] r) (Gives cs) → Parted b cs
    by_picked None new e h cs k = done_part (pick_none o _ look ms new e h) cs k
    by_picked (Some x) new e h cs k = picked_part x (pick_some o _ look ms new x e h) cs k

    by_listed : (r : Result (List Member) QueryFault) → read_list (apply look t) ≡ r → (cs : List Branch)
        → KeptOffer M N (by_listing (λ x. values_by N (set_at s D (constrained b.posted) x)) b o (Label o t) [] r) (Gives cs) → Parted b cs
    by_listed (Err f) e cs k = absurd k
    by_listed (Ok new) e cs k = by_picked (pick o (λ x. values_by N (set_at s D (constrained b.posted) x)) new) new (sym list_read ∙ e) refl cs k

  pub leaf : (b : Branch) (s : Substitution) (D : Family) → IsReady b → b.goals ≡ [] → IsView M N b.equations b.posted s D → IsLeaf M N prog vs (Comes o) IsReady Allows b
  leaf b s D ready e v = leaf_of b s D ready v (ready.finished e s D v)

  pub part : (m : ℕ) (b : Branch) (g : Goal) (rest : List Goal) (s : Substitution) (D : Family) (cs : List Branch) → IsReady b → b.goals ≡ g ∷ rest
      → Children M N prog m b g rest s D (Gives cs) → Parted b cs
  part m b g rest s D cs ready e c = elim ready.goals [
    | inl h ↦ absurd (let k = sym e ∙ h in cc)
    | inr h ↦
        let heads : g ∷ rest ≡ Label o t ∷ [] = sym e ∙ h in
        let one : g ≡ Label o t = cc in
        let others : rest ≡ [] = cc in
        let kept : KeptOffer M N (offer M N m prog (look_in b s D) (sets_in b s D) b (Label o t) []) (Gives cs) =
        subst (λ r. KeptOffer M N (offer M N m prog (look_in b s D) (sets_in b s D) b (Label o t) r) (Gives cs)) others
        (subst (λ f. KeptOffer M N (offer M N m prog (look_in b s D) (sets_in b s D) b f rest) (Gives cs)) one c.kept) in
        by_listed b s D ready c.view (read_list (apply (look_in b s D) t)) refl cs kept
  ]

  -- the list of a branch of the labelling is read without fault
  module _ (b : Branch) (s : Substitution) (D : Family) (ready : IsReady b) (v : IsView M N b.equations b.posted s D) where
    no_listing : (r : Result (List Member) QueryFault) (f : QueryFault) → read_list (apply (look_in b s D) t) ≡ r
        → KeptOffer M N (by_listing (λ x. values_by N (set_at s D (constrained b.posted) x)) b o (Label o t) [] r) (Faults f) → ⊥
    no_listing (Err g) f e k = let n = is_read M N t ms base listed b s D (as_grounded b ready) v in let same : Err g ≡ Ok n.0 = sym e ∙ list_read b s D ready v ∙ n.1 in cc
    no_listing (Ok new) f e k = no_pick (pick o (λ x. values_by N (set_at s D (constrained b.posted) x)) new) k
      where
        no_pick : (r : Option ℕ) → KeptOffer M N (by_pick (λ x. values_by N (set_at s D (constrained b.posted) x)) b (Label o t) [] r) (Faults f) → ⊥
        no_pick None h = h
        no_pick (Some x) h = h

  pub no_fault : (m : ℕ) (b : Branch) (g : Goal) (rest : List Goal) (s : Substitution) (D : Family) (f : QueryFault) → IsReady b → b.goals ≡ g ∷ rest → Children M N prog m b g rest s D (Faults f) → ⊥
  no_fault m b g rest s D f ready e c = elim ready.goals [
    | inl h ↦ let k = sym e ∙ h in cc
    | inr h ↦
        let heads : g ∷ rest ≡ Label o t ∷ [] = sym e ∙ h in
        let one : g ≡ Label o t = cc in
        let others : rest ≡ [] = cc in
        let kept : KeptOffer M N (offer M N m prog (look_in b s D) (sets_in b s D) b (Label o t) []) (Faults f) =
        subst (λ r. KeptOffer M N (offer M N m prog (look_in b s D) (sets_in b s D) b (Label o t) r) (Faults f)) others
        (subst (λ i. KeptOffer M N (offer M N m prog (look_in b s D) (sets_in b s D) b i rest) (Faults f)) one c.kept) in
        no_listing b s D ready c.view (read_list (apply (look_in b s D) t)) f refl kept
  ]

  -- a labelling keeps the other branches
  pub whole : (b : Branch) (g : Goal) (rest : List Goal) → IsReady b → b.goals ≡ g ∷ rest → (m : ℕ) → kept_by m g ≡ m
  whole b g rest ready e m = elim ready.goals [
    | inl h ↦ absurd (let k = sym e ∙ h in cc)
    | inr h ↦ let heads : g ∷ rest ≡ Label o t ∷ [] = sym e ∙ h in let one : g ≡ Label o t = cc in ap (kept_by m) one
  ]
