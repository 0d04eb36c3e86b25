-- What a way keeps: variables below the next fresh number, and added variables that follow the others.
use Rattle.std.proofs.Common.{◌≡◌, ℕ, suc, ◌+◌, ◌<◌, ◌≤◌, Bool, true, false, not, cond, ◌||◌, ◌==◌, List, [], ◌∷◌, ◌++◌, map, length, Option, Some, None, refl}
use Rattle.std.proofs.Common.{sym, subst, inl, inr, arith, eqb-true, Result, Ok, Err}
use Rattle.std.proofs.lemmas.Bool.{or_cases, or_right, cases_Bool, true≢false}
use Rattle.std.specs.Str.{bytes_eq}
use Rattle.std.specs.Prelude.{codes}
use Rattle.fd_model.specs.declared.kinds.QueryFault.{QueryFault}
use Rattle.fd_model.specs.declared.kinds.Order.{Order}
use Rattle.fd_model.proofs.Findings.{IsFindingBelow, finding_below}
use Rattle.fd_model.specs.Builtins.{Finding, faulted, decided, equated, finding}
use Rattle.fd_language.specs.Term.{Term, Terms, Var, Int, Atom, Comp, Substitution, apply, no_terms, term}
use Rattle.fd_language.specs.Unifier.{Equation}
use Rattle.fd_language.specs.Family.{has}
use Rattle.fd_language.specs.Range.{Range, Indexical, read_at, reads}
use Rattle.fd_model.specs.ClosedFamilies.{constrained}
use Rattle.fd_language.specs.Check.{fill_range}
use Rattle.fd_language.specs.Needs.{need_of}
use Rattle.fd_language.specs.RangeRenaming.{rename_range}
use Rattle.fd_model.specs.Renaming.{rename_term, rename_goal}
use Rattle.fd_language.specs.Occurrences.{Occurrence, one_occurrence, range_occurrences}
use Rattle.fd_model.specs.Posting.{is_integer, integer_of, integers_at, slot, slot_equations, Found, offends, posts, first_offence, unless_offence, post}
use Rattle.fd_model.specs.Goal.{Goal, Clause, listed, True, Fail, Unify, Post, Constrain, Label, Call, Either, Builtin, Cut, If, IfElse, Not, Best, Goals}
use Rattle.fd_model.specs.Goal.{marked_all, Program, Query, Branch}
use Rattle.fd_language.specs.Variables.{TermBelow, TermsBelow}
use Rattle.fd_model.specs.RunnablePrograms.{OccurrencesBelow, GoalBelow, GoalsBelow, EachBelow, ClausesScoped}
use Rattle.fd_model.specs.BranchViews.{IsConsistent}
use Rattle.fd_model.specs.Children.{Offer, Faults, Gives, Seeks, by_test, by_cost, cost_fault, unless_fault, with_goals, with_equations, fits_head, paired}
use Rattle.fd_model.specs.Children.{argument_equations, by_clause, by_clauses, by_post, by_constraint, by_finding, Kept, KeptOffer, look_in, offer, is_number}
use Rattle.fd_model.specs.Children.{by_value, by_pick, by_listing, sets_in}
use Rattle.fd_language.proofs.Lemmas.{has_either, filled_leaves, reads_occur}
use Rattle.fd_model.specs.Labelling.{read_list, values_by, pick, open_ones}
use Rattle.fd_model.specs.Members.{Member}
use Rattle.fd_model.proofs.GoalRows.{Rewritten, with_ranges, rewritten, EquationsBelow, IsFollowing}
use Rattle.fd_language.specs.Lists.{Each}
use Rattle.fd_model.specs.Answers.{Settles}
use Rattle.fd_model.specs.Ways.{Way, begins, goes, added_in, added_by, WayAnswers}
use Rattle.fd_model.proofs.Lists.{each_both, each_at}
use Rattle.fd_model.specs.Leaves.{SoughtLeaf}
use Rattle.fd_model.proofs.Leaves.{Passes, sought_each}
use Rattle.fd_model.proofs.LabelledAnswers.{labelling_answers}
use Rattle.fd_model.proofs.ModelSubstitutions.{first_member}
use Rattle.fd_model.proofs.SubstitutedLists.{Cell, cell_of, variable, integer, with_element}
use Rattle.fd_model.proofs.PickedMembers.{among_picked}
use Rattle.fd_model.proofs.Slots.{slot_out, slot_high}
use Rattle.fd_model.proofs.PostRows.{renamed, renamed_from}
use Rattle.fd_model.proofs.ListNames.{named_left, named_right}
use Rattle.fd_model.proofs.AddedRanges.{constrained_either, settles_both}
use Rattle.fd_model.proofs.SeenTerms.{wider, arguments_below as terms_below}
use Rattle.fd_model.proofs.ExactRows.{following}
use Rattle.fd_model.specs.LinearRows.{Expansion}
use Rattle.fd_model.specs.ConstraintExpansion.{constrain, arguments}
use Rattle.fd_model.proofs.BranchScopes.{each_marked, below_under, look_below, equations_wider, each_wider, each_both_below, listed_below, occurrences_wider}
use Rattle.fd_model.proofs.BranchScopes.{term_renamed, body_renamed}

abbrev Low : ℕ → List ℕ → Type 0
Low n xs = (x : ℕ) → has xs x ≡ true → x < n

low_none : (n : ℕ) → Low n []
low_none n x h = absurd (true≢false (sym h))

-- the arguments of two terms, in pairs
paired_below : (n : ℕ) (ts us : Terms) → TermsBelow n ts → TermsBelow n us → EquationsBelow n (paired ts us)
paired_below n no_terms us h k = tt
paired_below n (term t ts) no_terms h k = tt
paired_below n (term t ts) (term u us) h k = ((h.0, k.0), paired_below n ts us h.1 k.1)

pub arguments_below : (n : ℕ) (t u : Term) → TermBelow n t → TermBelow n u → EquationsBelow n (argument_equations t u)
arguments_below n (Comp f ts) (Comp h us) i k = paired_below n ts us i k
arguments_below n _ _ i k = tt

-- what posting gives is below the next fresh number
module _ (look : Substitution) where
  abbrev Ints : List ℕ → Type 0
  Ints ys = (y : ℕ) → has ys y ≡ true → is_integer (look y) ≡ true

  ints_more : (ys : List ℕ) (x : ℕ) → Ints ys → is_integer (look x) ≡ true → Ints (ys ++ x ∷ [])
  ints_more ys x h i y k = elim (has_either ys (x ∷ []) y k) [
    | inl j ↦ h y j
    | inr j ↦ elim (or_cases (x == y) false j) [
      | inl e ↦ subst (λ z. is_integer (look z) ≡ true) (eqb-true x y e) i
      | inr e ↦ absurd (true≢false (sym e))
    ]
  ]

  skipped : (p a b : Bool) → (p || (not a || b)) ≡ false → a ≡ true
  skipped p a b h = grind arith

  ints_at : (ps : List Occurrence) (ys : List ℕ) → Ints ys → Ints (integers_at look ps ys)
  ints_at [] ys h = h
  ints_at (p ∷ ps) ys h = elim (cases_Bool (p.parameter || (not (is_integer (look p.variable)) || has ys p.variable))) [
    | inl e ↦ rw e (ints_at ps ys h)
    | inr e ↦ rw e (ints_at ps (ys ++ p.variable ∷ []) (ints_more ys p.variable h (skipped p.parameter (is_integer (look p.variable)) (has ys p.variable) e)))
  ]

  int_below : (m : ℕ) (t : Term) → is_integer t ≡ true → TermBelow m t
  int_below m (Int z) h = tt
  int_below m (Var x) h = absurd (true≢false (sym h))
  int_below m (Atom a) h = tt
  int_below m (Comp f ts) h = absurd (true≢false (sym h))

  slots_below : (m n : ℕ) (ys : List ℕ) → n + length ys ≤ m → Ints ys → EquationsBelow m (slot_equations look n ys)
  slots_below m n [] l h = tt
  slots_below m n (y ∷ ys) l h = ((omega arith, int_below m (look y) (h y (first_member y ys))), slots_below m (suc n) ys (omega arith) (λ z i. h z (or_right (y == z) (has ys z) i)))

  pub record IsPostBelow (n m : ℕ) (p : Indexical) (es : List Equation) : Type 0 where
    pub fresh : n ≤ m
    pub target : Low m (constrained (p ∷ []))
    pub equations : EquationsBelow m es

  no_posts : (f : QueryFault) (p : Indexical) (m : ℕ) (es : List Equation) → offends f ≡ posts p m es → ⊥
  no_posts f p m es e = cc

  at_below : (ps : List Occurrence) (x : ℕ) (es ds : List Equation) (l n m : ℕ) (r : Range) (p : Indexical) → l ≤ n → x < n → EquationsBelow n es
      → OccurrencesBelow n (range_occurrences r) → (o : Option QueryFault)
      → unless_offence o (record {
        target = slot n (integers_at look ps []) x;
        range = rename_range (slot n (integers_at look ps [])) (fill_range (λ y. integer_of (look y)) r);
      }) (n + length (integers_at look ps []))
      (es ++ slot_equations look n (integers_at look ps [])) ≡ posts p m ds → IsPostBelow l m p ds
  at_below ps x es ds l n m r p le lx be br (Some f) e = absurd (no_posts f p m ds e)
  at_below ps x es ds l n m r p le lx be br None e =
      let ys = integers_at look ps [] in
      let q = fill_range (λ y. integer_of (look y)) r in
      let same_p : renamed q n x ys ≡ p = cc in
      let same_m : n + length ys ≡ m = cc in
      let same_e : es ++ slot_equations look n ys ≡ ds = cc in
      let small : Low n (x ∷ reads q) = λ y h. elim (or_cases (x == y) (has (reads q) y) h) [
        | inl k ↦ subst (λ z. z < n) (eqb-true x y k) lx
        | inr k ↦ reads_occur (λ z. z < n) r br y
            (subst (λ s. has s y ≡ true) (filled_leaves read_at (λ z. refl) (λ z. integer_of (look z)) r) k)
      ] in
      let high : (y : ℕ) → y < n → slot n ys y < n + length ys = λ y h. elim (cases_Bool (has ys y))
      [ inl k ↦ slot_high n ys y k | inr k ↦ subst (λ z. z < n + length ys) (sym (slot_out n ys y k)) (omega arith) ] in
      subst (λ k. IsPostBelow l k p ds) same_m (subst (λ d. IsPostBelow l (n + length ys) p d) same_e (subst (λ k. IsPostBelow l (n + length ys) k (es ++ slot_equations look n ys)) same_p (record {
        fresh = omega arith;
        target = λ y h. (let g = renamed_from q n x ys y h in subst (λ z. z < n + length ys) g.2 (high g.0 (small g.0 g.1)));
        equations = each_both (λ d. TermBelow (n + length ys) d.left × TermBelow (n + length ys) d.right) es (slot_equations look n ys) (equations_wider n (n + length ys) (omega arith) es be)
            (slots_below (n + length ys) n ys (omega arith) (ints_at ps [] (λ y h. absurd (true≢false (sym h)))));
      })))

  pub post_below : (t : Term) (r : Range) (n m : ℕ) (p : Indexical) (es : List Equation) → TermBelow n t → OccurrencesBelow n (range_occurrences r) → post look t r n ≡ posts p m es → IsPostBelow n m p es
  post_below (Var v) r n m p es h b e = at_below (one_occurrence v false ++ range_occurrences r) v [] es n n m r p (omega arith) h tt b
      (first_offence (need_of r) look (one_occurrence v false ++ range_occurrences r)) e
  post_below (Int z) r n m p es h b e = at_below (range_occurrences r) n (record { left = Var n; right = Int z } ∷ []) es n (suc n) m r p (omega arith)
      (omega arith) ((omega arith, tt), tt) (occurrences_wider n (suc n) (omega arith) (range_occurrences r) b)
      (first_offence (need_of r) look (range_occurrences r)) e
  post_below (Atom a) r n m p es h b e = absurd (no_posts _ p m es e)
  post_below (Comp f ts) r n m p es h b e = absurd (no_posts _ p m es e)

-- the members of a list are below what its variables are below
module _ (n : ℕ) where
  cell_below : (t : Term) (l : Result (List Member) QueryFault) (ms : List Member) → TermBelow n t → Cell ms l t → ((rest : List Member) → l ≡ Ok rest → Low n (open_ones rest)) → Low n (open_ones ms)
  cell_below _ l ms b (variable x rest e f) h = subst (λ k. Low n (open_ones k)) (sym e)
      (λ y i. elim (or_cases (x == y) (has (open_ones rest) y) i) [ inl k ↦ subst (λ z. z < n) (eqb-true x y k) b | inr k ↦ h rest f y k ])
  cell_below _ l ms b (integer z rest e f) h = subst (λ k. Low n (open_ones k)) (sym e) (h rest f)

  if_members : (b : Bool) (l : Result (List Member) QueryFault) (f : QueryFault) (ms : List Member) → cond b l (Err f) ≡ Ok ms → l ≡ Ok ms
  if_members true l f ms e = e
  if_members false l f ms e = absurd (cc)

  pub list_below : (t : Term) (ms : List Member) → TermBelow n t → read_list t ≡ Ok ms → Low n (open_ones ms)
  list_below (Atom a) ms b e = let h = if_members (bytes_eq a (codes "[]")) (Ok []) _ ms e in let k : [] ≡ ms = cc in subst (λ l. Low n (open_ones l)) k (low_none n)
  list_below (Comp f (term h (term t no_terms))) ms b e =
      cell_below h (read_list t) ms b.0 (cell_of h (read_list t) ms (if_members (bytes_eq f (codes ".")) (with_element h (read_list t)) _ ms e)) (λ rest g. list_below t rest b.1.0 g)
  list_below _ ms b e = absurd (cc)

-- the variables of a branch are below its next fresh number
pub record IsSmall (b : Branch) : Type 0 where
  pub goals : EachBelow b.fresh b.goals
  pub equations : EquationsBelow b.fresh b.equations
  pub posted : Low b.fresh (constrained b.posted)

module _ (M N : ℕ) (prog : Program) (scoped : ClausesScoped prog.clauses) where
  -- what a way keeps
  pub record IsTracked (b : Branch) (ws : List ℕ) : Type 0 where
    pub small : IsSmall b
    pub settles : Settles M b.posted ws
    pub inside : (x : ℕ) → has ws x ≡ true → has (constrained b.posted) x ≡ true

  module _ (m : ℕ) (b : Branch) (ws : List ℕ) (tracked : IsTracked b ws) (g : Goal) (rest : List Goal) (head : GoalBelow b.fresh g)
      (others : EachBelow b.fresh rest) (look : Substitution) (seen : (x : ℕ) → x < b.fresh → TermBelow b.fresh (look x)) where
    -- the ranges are as they were
    same_posted : (c : Branch) → c.posted ≡ b.posted → IsSmall c → IsTracked c ws
    same_posted c e small = record {
      small = small;
      settles = subst (λ ps. Settles M ps ws) (sym e) tracked.settles;
      inside = subst (λ ps. (x : ℕ) → has ws x ≡ true → has (constrained ps) x ≡ true) (sym e) tracked.inside;
    }

    same_goals : (gs : List Goal) → EachBelow b.fresh gs → IsTracked (with_goals b gs) ws
    same_goals gs h = same_posted (with_goals b gs) refl (record { goals = h; equations = tracked.small.equations; posted = tracked.small.posted })

    more_equations : (gs : List Goal) (es : List Equation) (n : ℕ) → b.fresh ≤ n → EachBelow n gs → EquationsBelow n es → IsTracked (with_equations b gs es n) ws
    more_equations gs es n l h k = same_posted (with_equations b gs es n) refl (record {
      goals = h;
      equations = each_both (λ d. TermBelow n d.left × TermBelow n d.right) es b.equations k (equations_wider b.fresh n l b.equations tracked.small.equations);
      posted = λ x c. (let i = tracked.small.posted x c in omega arith);
    })

    -- with a row
    more_ranges : (w : Rewritten) → IsFollowing M b.fresh w → IsTracked (with_ranges b rest w) (w.added ++ ws)
    more_ranges w k = record {
      small = record {
        goals = each_wider b.fresh w.fresh k.fresh rest others;
        equations = each_both (λ d. TermBelow w.fresh d.left × TermBelow w.fresh d.right) w.equations b.equations k.equations
            (equations_wider b.fresh w.fresh k.fresh b.equations tracked.small.equations);
        posted = λ x c. elim (constrained_either w.ranges b.posted x c) [ inl i ↦ k.below x i | inr i ↦ (let j = tracked.small.posted x i in let l = k.fresh in omega arith) ];
      };
      settles = settles_both M w.ranges b.posted w.added ws k.settles tracked.settles
          (λ x c. elim (cases_Bool (has w.added x)) [ inl i ↦ absurd (let j = (k.added x i).0 in let l = tracked.small.posted x c in omega arith) | inr i ↦ i ]) tracked.inside;
      inside = λ x h. elim (has_either w.added ws x h) [ inl i ↦ named_left w.ranges b.posted x (k.added x i).1 | inr i ↦ named_right w.ranges b.posted x (tracked.inside x i) ];
    }

    abbrev Tracks : List ℕ → Offer → Type 0
    Tracks us (Faults f) = Unit {0}
    Tracks us (Gives cs) = Each (λ c. IsTracked c us) cs
    Tracks us (Seeks d r o least t c) = (d ≡ b) × (r ≡ rest) × TermBelow b.fresh t × (us ≡ ws)

    by_posting : (f : Found) → ((p : Indexical) (m : ℕ) (es : List Equation) → f ≡ posts p m es → IsPostBelow look b.fresh m p es) → Tracks ws (by_post b rest f)
    by_posting (offends f) h = tt
    by_posting (posts p m es) h = let k = h p m es refl in (
      more_ranges (record { ranges = p ∷ []; equations = es; fresh = m; added = [] })
          (record { fresh = k.fresh; below = k.target; equations = k.equations; added = λ x i. absurd (true≢false (sym i)); settles = λ S family closed full others x c. others x c refl }),
      tt,
    )

    by_row : (r : Result Expansion QueryFault) → ((x : Expansion) → r ≡ Ok x → IsFollowing M b.fresh (rewritten b.fresh x)) → Tracks (added_in b.fresh r ++ ws) (by_constraint b rest r)
    by_row (Err f) h = tt
    by_row (Ok x) h = (more_ranges (rewritten b.fresh x) (h x refl), tt)

    by_numbers : (x : ℕ) → x < b.fresh → (ns : List ℕ) → Each (λ c. IsTracked c ws) (map (by_value b (g ∷ rest) x) ns)
    by_numbers x l [] = tt
    by_numbers x l (n ∷ ns) = (more_equations (g ∷ rest) (is_number x n ∷ []) b.fresh (omega arith) (head, others) ((l, tt), tt), by_numbers x l ns)

    by_picked : (values : ℕ → List ℕ) (r : Option ℕ) → ((x : ℕ) → r ≡ Some x → x < b.fresh) → Tracks ws (by_pick values b g rest r)
    by_picked values None h = (same_goals rest others, tt)
    by_picked values (Some x) h = by_numbers x (h x refl) (values x)

    by_listed : (values : ℕ → List ℕ) (o : Order) (l : Result (List Member) QueryFault) → ((ms : List Member) → l ≡ Ok ms → Low b.fresh (open_ones ms)) → Tracks ws (by_listing values b o g rest l)
    by_listed values o (Err f) h = tt
    by_listed values o (Ok ms) h = by_picked values (pick o values ms) (λ x e. h ms refl x (among_picked o values ms x e))

    clause_tracked : (t : Term) (c : Clause) → TermBelow b.fresh t → TermBelow c.variables c.head → EachBelow c.variables c.body → IsTracked (by_clause m b t rest c) ws
    clause_tracked t c h i k =
        let shift : (x : ℕ) → x < c.variables → b.fresh + x < b.fresh + c.variables = λ x l. omega arith in
        more_equations _ _ (b.fresh + c.variables) (omega arith)
        (each_both_below (b.fresh + c.variables) (marked_all m (map (rename_goal (λ x. b.fresh + x)) c.body)) rest
        (each_marked (b.fresh + c.variables) m (map (rename_goal (λ x. b.fresh + x)) c.body)
        (body_renamed c.variables (b.fresh + c.variables) (λ x. b.fresh + x) shift c.body k))
        (each_wider b.fresh (b.fresh + c.variables) (omega arith) rest others))
        (arguments_below (b.fresh + c.variables) t (rename_term (λ x. b.fresh + x) c.head) (wider b.fresh (b.fresh + c.variables) (omega arith) t h)
        (term_renamed c.variables (b.fresh + c.variables) (λ x. b.fresh + x) shift c.head i))

    by_head : (fits : Bool) (c : Branch) (cs : List Branch) → IsTracked c ws → Each (λ d. IsTracked d ws) cs → Each (λ d. IsTracked d ws) (cond fits (c ∷ cs) cs)
    by_head true c cs h k = (h, k)
    by_head false c cs h k = k

    clauses_tracked : (t : Term) (cs : List Clause) → TermBelow b.fresh t → ClausesScoped cs → Each (λ d. IsTracked d ws) (by_clauses m cs b t rest)
    clauses_tracked t [] h k = tt
    clauses_tracked t (c ∷ cs) h k = by_head (fits_head t c.head) (by_clause m b t rest c) (by_clauses m cs b t rest) (clause_tracked t c h k.0.0 k.0.1) (clauses_tracked t cs h k.1)

    finding_tracked : (f : Finding) → IsFindingBelow b.fresh f → Tracks ws (by_finding b rest f)
    finding_tracked (faulted f) h = tt
    finding_tracked (decided true) h = (same_goals rest others, tt)
    finding_tracked (decided false) h = tt
    finding_tracked (equated l r) h = (more_equations rest (record { left = l; right = r } ∷ []) b.fresh (omega arith) others (h, tt), tt)

    seen_below : (t : Term) → TermBelow b.fresh t → TermBelow b.fresh (apply look t)
    seen_below t h = below_under b.fresh b.fresh look seen t h

    -- a test, a cut, and what comes then
    tested : (k : ℕ) (test : Goals) (gs : List Goal) → GoalsBelow b.fresh test → EachBelow b.fresh gs → IsTracked (by_test k m b test gs) ws
    tested k test gs h others = same_goals (marked_all k (listed test) ++ Cut (Some m) ∷ gs)
        (each_both_below b.fresh (marked_all k (listed test)) (Cut (Some m) ∷ gs) (each_marked b.fresh k (listed test) (listed_below b.fresh test h))
        (tt, others))

    by_costs : (o : Order) (least : Bool) (t c : Term) → TermBelow b.fresh t → (l : Result (List Member) QueryFault) → Tracks ws (by_cost (apply look c) (Seeks b rest o least t c) l)
    by_costs o least t c h (Err f) = tt
    by_costs o least t c h (Ok ms) = unless (cost_fault ms (apply look c))
      where
        unless : (f : Option QueryFault) → Tracks ws (unless_fault f (Seeks b rest o least t c))
        unless (Some f) = tt
        unless None = (refl, refl, h, refl)

    offer_tracked : (sets : ℕ → Option (List ℕ)) (h : Goal) → GoalBelow b.fresh h → g ≡ h → Tracks (added_by M look b.fresh h ++ ws) (offer M N m prog look sets b h rest)
    offer_tracked sets True i e = (same_goals rest others, tt)
    offer_tracked sets Fail i e = tt
    offer_tracked sets (Unify s t) i e = (more_equations rest (record { left = s; right = t } ∷ []) b.fresh (omega arith) others (i, tt), tt)
    offer_tracked sets (Post t r) i e = by_posting (post look t r b.fresh) (λ p m es f. post_below look t r b.fresh m p es i.0 i.1 f)
    offer_tracked sets (Constrain c t) i e = by_row (constrain M look c t b.fresh) (λ x f. following M c (arguments (apply look t)) b.fresh x (terms_below b.fresh (apply look t) (seen_below t i)) f)
    offer_tracked sets (Label o t) i e =
        subst (λ k. Tracks ws (by_listing (λ x. values_by N (sets x)) b o k rest (read_list (apply look t)))) e
        (by_listed (λ x. values_by N (sets x)) o (read_list (apply look t)) (λ ms f. list_below b.fresh (apply look t) ms (seen_below t i) f))
    offer_tracked sets (Call t) i e = clauses_tracked t prog.clauses i scoped
    offer_tracked sets (Either x y) i e = (
      same_goals (listed x ++ rest) (each_both_below b.fresh (listed x) rest (listed_below b.fresh x i.0) others),
      (same_goals (listed y ++ rest) (each_both_below b.fresh (listed y) rest (listed_below b.fresh y i.1) others), tt),
    )
    offer_tracked sets (Builtin k t) i e = finding_tracked (finding k look sets t) (finding_below b.fresh k look sets t i)
    offer_tracked sets (Cut c) i e = (same_goals rest others, tt)
    offer_tracked sets (If test holds) i e = (tested m test (listed holds ++ rest) i.0 (each_both_below b.fresh (listed holds) rest (listed_below b.fresh holds i.1) others), tt)
    offer_tracked sets (IfElse test holds other) i e = (
      tested (suc m) test (listed holds ++ rest) i.0 (each_both_below b.fresh (listed holds) rest (listed_below b.fresh holds i.1) others),
      (same_goals (listed other ++ rest) (each_both_below b.fresh (listed other) rest (listed_below b.fresh other i.2) others), tt),
    )
    offer_tracked sets (Not gs) i e = (tested (suc m) gs (Fail ∷ rest) i (tt, others), (same_goals rest others, tt))
    offer_tracked sets (Best o least t c) i e = by_costs o least t c i.0 (read_list (apply look t))

    kept_tracked : (us : List ℕ) (bs cs : List Branch) → Each (λ c. IsTracked c us) bs → Kept M N bs cs → Each (λ c. IsTracked c us × IsConsistent M N c.equations c.posted) cs
    kept_tracked us [] cs h k = subst (Each (λ c. IsTracked c us × IsConsistent M N c.equations c.posted)) (sym k) tt
    kept_tracked us (c ∷ bs) cs h (inl k) = subst (Each (λ c. IsTracked c us × IsConsistent M N c.equations c.posted)) (sym k.1.1) ((h.0, k.0), kept_tracked us bs k.1.0 h.1 k.1.2)
    kept_tracked us (c ∷ bs) cs h (inr k) = kept_tracked us bs cs h.1 k.1

  heads_below : (n : ℕ) (gs : List Goal) (g : Goal) (rest : List Goal) → gs ≡ g ∷ rest → EachBelow n gs → GoalBelow n g × EachBelow n rest
  heads_below n gs g rest e h = subst (EachBelow n) e h

  -- a branch on the way to a best leaf
  abbrev IsSought : Branch → List ℕ → Order → Term → Branch → Type 0
  IsSought b ws o t c = IsTracked c ws × IsConsistent M N c.equations c.posted × (c.goals ≡ Label o t ∷ []) × (c.fresh ≡ b.fresh)

  sought_passes : (b : Branch) (ws : List ℕ) (o : Order) (t : Term) → Passes M N o t (IsSought b ws o t)
  sought_passes b ws o t c s D ms x n h v e p i ok =
      let g : GoalBelow c.fresh (Label o t) = (subst (EachBelow c.fresh) h.2 h.0.small.goals).0 in
      let seen : (y : ℕ) → y < c.fresh → TermBelow c.fresh (look_in c s D y) = look_below c.fresh c s D v.general h.0.small.equations in
      let low : x < c.fresh = list_below c.fresh (apply (look_in c s D) t) ms (seen_below 0 c ws h.0 (Label o t) [] g tt (look_in c s D) seen t g) e x (among_picked o _ ms x p) in
      let one = by_numbers 0 c ws h.0 (Label o t) [] g tt (look_in c s D) seen x low (n ∷ []) in
      (subst (λ gs. IsTracked (by_value c gs x n) ws) (sym h.2) one.0, ok, h.2, h.3)

  -- the children of an offer that tracks
  children_tracked : (m : ℕ) (b : Branch) (ws : List ℕ) (tracked : IsTracked b ws) → IsConsistent M N b.equations b.posted
      → (g : Goal) (rest : List Goal) (head : GoalBelow b.fresh g) (others : EachBelow b.fresh rest) (look : Substitution)
      (seen : (x : ℕ) → x < b.fresh → TermBelow b.fresh (look x)) (us : List ℕ) (o : Offer) (cs : List Branch) → Tracks m b ws tracked g rest head others look seen us o → KeptOffer M N o (Gives cs)
      → Each (λ c. IsTracked c us × IsConsistent M N c.equations c.posted) cs
  children_tracked m b ws tracked ok g rest head others look seen us (Faults f) cs h k = absurd k
  children_tracked m b ws tracked ok g rest head others look seen us (Gives bs) cs h k = kept_tracked m b ws tracked g rest head others look seen us bs cs h k
  children_tracked m b ws tracked ok g rest head others look seen us (Seeks d r o least t c) cs h k =
      let found : SoughtLeaf M N b rest o least t c cs = subst (λ gs. SoughtLeaf M N b gs o least t c cs) h.1 (subst (λ a. SoughtLeaf M N a r o least t c cs) h.0 k) in
      let start : IsTracked (with_goals b (Label o t ∷ [])) ws = same_goals m b ws tracked g rest head others look seen (Label o t ∷ []) (h.2, tt) in
      subst (λ vs. Each (λ e. IsTracked e vs × IsConsistent M N e.equations e.posted) cs) (sym h.3)
      (sought_each M N b rest o least t c cs (IsSought b ws o t) (λ e. IsTracked e ws × IsConsistent M N e.equations e.posted) (sought_passes b ws o t) (start, ok, refl, refl)
      (λ e i. (
        record {
          small = record { goals = subst (λ n. EachBelow n rest) (sym i.3) others; equations = i.0.small.equations; posted = i.0.small.posted };
          settles = i.0.settles;
          inside = i.0.inside;
        },
        i.1,
      )) found)

  module _ (q : Query) (goals : EachBelow q.variables q.goals) where
    pub way_tracked : {b : Branch} {ws : List ℕ} → Way M N prog q b ws → IsTracked b ws × IsConsistent M N b.equations b.posted
    way_tracked begins = (
      record {
        small = record { goals = each_marked q.variables 0 q.goals goals; equations = tt; posted = λ x h. absurd (true≢false (sym h)) };
        settles = λ S family closed full others x h. absurd (true≢false (sym h));
        inside = λ x h. h;
      },
      record { unifier = λ x. Var x; general = record { unifies = tt; general = λ u x h. refl }; some = λ x h. absurd (true≢false (sym h)) },
    )
    way_tracked (goes {b = b} {c = c} {ws = ws} m g rest s D cs way e k i) =
        let before = way_tracked way in
        let both = heads_below b.fresh b.goals g rest e before.0.small.goals in
        let look = look_in b s D in
        let seen : (x : ℕ) → x < b.fresh → TermBelow b.fresh (look x) = look_below b.fresh b s D k.view.general before.0.small.equations in
        let us = added_by M look b.fresh g ++ ws in
        let after = children_tracked m b ws before.0 before.1 g rest both.0 both.1 look seen us (offer M N m prog look (sets_in b s D) b g rest) cs
        (offer_tracked m b ws before.0 g rest both.0 both.1 look seen (sets_in b s D) g both.0 refl) k.kept in
        each_at (λ d. IsTracked d us × IsConsistent M N d.equations d.posted) cs (λ d. d ≡ c) (IsTracked c us × IsConsistent M N c.equations c.posted) after i
        (λ d h f. subst (λ d. IsTracked d us × IsConsistent M N d.equations d.posted) f h)

pub way_answers : WayAnswers
way_answers M N prog q low scoped goals b ws o ms way l n k es r run =
    let h = way_tracked M N prog scoped q goals way in
    labelling_answers M N prog q n k b es r o ms ws low h.1 h.0.settles l run
