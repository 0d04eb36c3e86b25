-- A search for the best leaf of a labelling: its members and its cost, and what it finds.
use Rattle.std.proofs.Common.{◌≡◌, ◌⊎◌, ℕ, zero, suc, ◌+◌, ◌-◌, ◌<◌, ◌≤◌, Bool, true, false, cond, ℤ, List, [], ◌∷◌, ◌++◌, length, map, get_or, take, Option}
use Rattle.std.proofs.Common.{Some, None, Result, Ok, Err, inl, inr, refl, ap, sym, ◌∙◌, subst, arith}
use Rattle.std.specs.Prelude.{MatchOption}
use Rattle.std.proofs.lemmas.Bool.{cases_Bool, true≢false}
use Rattle.std.proofs.lemmas.List.{length-map}
use Rattle.std.proofs.lemmas.Option.{none-some}
use Rattle.fd_language.specs.declared.TheConstants.{INFINITY}
use Rattle.fd_language.specs.Family.{has}
use Rattle.fd_language.specs.Monotonicity.{IsMonotone}
use Rattle.fd_language.specs.Range.{Indexical}
use Rattle.fd_language.specs.Term.{Term, Var, Int, Atom, Comp}
use Rattle.fd_language.proofs.Lemmas.{has_map}
use Rattle.fd_model.specs.declared.kinds.Order.{Order}
use Rattle.fd_model.specs.declared.kinds.QueryFault.{QueryFault}
use Rattle.fd_model.specs.declared.kinds.QueryFault.TheVariants.{Parameter}
use Rattle.fd_model.specs.Bounds.{bound}
use Rattle.fd_model.specs.BestPosted.{IsCostOf, SoughtValues}
use Rattle.fd_model.specs.Children.{cost_fault}
use Rattle.fd_model.specs.ClosedFamilies.{AllPosted, constrained}
use Rattle.fd_model.specs.Labelling.{open_ones}
use Rattle.fd_model.specs.Levels.{Levels}
use Rattle.fd_model.specs.Members as seen
use Rattle.fd_model.specs.Members.{as_member}
use Rattle.heap_cells.specs.declared.Cell.{Cell}
use Rattle.heap_cells.specs.Cells.{Cells, Heaps, IsOf}
use Rattle.heap_cells.specs.Terms.{Naming, term_of}
use Rattle.heap_cells.specs.SeenTerms.{seen_term}
use Rattle.range_code.specs.Frames.{family_of}
use Rattle.branch_lemmas.specs.Frames.{link_in}
use Rattle.branch_lemmas.proofs.Lemmas.{unsettled}
use Rattle.sought_leaves.specs.LeafSearch.{owned, IsBegun}
use Rattle.bound_search.specs.Members.{AreOwn, member_of, members_of}
use Rattle.label_search.specs.declared.Member.{Member}
use Rattle.label_search.specs.declared.Member.TheVariants as member
use Rattle.branch_state.specs.VariableBounds.{new_bounds}
use Rattle.branch_state.specs.States.{State, IsSound}
use Rattle.branch_state.proofs.Lemmas.{are_bounds, new_bounded, somewhere_right}
use Rattle.branch_goals.specs.declared.searches.Named.{Named}
use Rattle.branch_goals.specs.declared.searches.Prepared.{Prepared}
use Rattle.branch_goals.specs.Labels.{IsVariableOf}
use Rattle.branch_goals.specs.Lists.{IsMemberAt, AreMembersAt}
use Rattle.branch_goals.specs.Searches.{firsts, own_by, IsOpenCell, AreNamed, IsNamed, Numbers, IsCostIn, IsPreparedIn, IsPrepared, IsSearch, IsSought}
use Rattle.branch_goals.proofs.Labels.{variable_member}
use Rattle.branch_goals.proofs.SearchMembers.{named_known, named_open, owned_open}

-- a cell that is seen as a variable
variable_at : (name : Naming) (h : Cells) (sets : List (List ℕ)) (c : Cell) (i v : ℕ) → as_member (seen_term name h (family_of sets) c) ≡ Ok (seen.Open i)
    → IsVariableOf name h c v → (i ≡ v) × IsOpenCell name h v
variable_at name h sets c i v e is =
    let f = is i (unsettled h (family_of sets) (term_of name h c) i (variable_member (seen_term name h (family_of sets) c) i e)) in
    (f.0, (f.1, f.2))

-- ---- one member more

module _ (name : Naming) (h : Cells) (sets : List (List ℕ)) (c : Cell) (ms : List seen.Member) (m : seen.Member) (old mid : Named) (items : List Member) where
  abbrev After : List (ℕ × ℕ) → Type 0
  After ps = AreNamed name h (length sets) (ms ++ m ∷ []) items ps mid.next

  pub step_none : (x : Member) (v : ℕ) → Numbers x v old None mid → IsMemberAt name h sets c x m → IsNamed name h (length sets) ms old → items ≡ mid.members.items ++ x ∷ [] → After mid.open_ones.items
  step_none (member.Fixed z) v g k a e =
      subst (λ (l : List Member). AreNamed name h (length sets) (ms ++ m ∷ []) l mid.open_ones.items mid.next) (sym e)
      (subst (λ (d : Named). AreNamed name h (length sets) (ms ++ m ∷ []) (d.members.items ++ member.Fixed z ∷ []) d.open_ones.items d.next) (sym g)
      (subst (λ s. AreNamed name h (length sets) (ms ++ s ∷ []) (old.members.items ++ member.Fixed z ∷ []) old.open_ones.items old.next) (sym k.1)
      (named_known name h (length sets) ms old.members.items old.open_ones.items old.next a z)))
  step_none (member.Var j) v g k a e = absurd g
  step_none member.Free v g k a e = absurd g

  module _ (v j : ℕ) (is : IsVariableOf name h c v) (a : IsNamed name h (length sets) ms old) (ps : List (ℕ × ℕ))
      (e : items ≡ mid.members.items ++ member.Var j ∷ []) (f : ps ≡ mid.open_ones.items ++ (v, j) ∷ []) where
    abbrev Begun : Named → seen.Member → Type 0
    Begun d s = AreNamed name h (length sets) (ms ++ s ∷ []) (d.members.items ++ member.Var j ∷ []) (d.open_ones.items ++ (v, j) ∷ []) d.next

    ended : (i : ℕ) → m ≡ seen.Open i → i ≡ v → Begun mid (seen.Open v) → After ps
    ended i g n b =
        subst (λ (l : List Member). AreNamed name h (length sets) (ms ++ m ∷ []) l ps mid.next) (sym e)
        (subst (λ qs. AreNamed name h (length sets) (ms ++ m ∷ []) (mid.members.items ++ member.Var j ∷ []) qs mid.next) (sym f) (subst (Begun mid) (sym (g ∙ ap seen.Open n)) b))

    -- a variable of the store
    linked_one : (k i : ℕ) → j ≡ k → mid ≡ old → m ≡ seen.Open i → link_in h i ≡ Some k → k < length sets → as_member (seen_term name h (family_of sets) c) ≡ Ok m → After ps
    linked_one k i n g o l low w =
        let t = variable_at name h sets c i v (w ∙ ap Ok o) is in
        let here : link_in h v ≡ Some j = ap (link_in h) (sym t.0) ∙ l ∙ ap Some (sym n) in
        ended i o t.0 (subst (λ (d : Named). Begun d (seen.Open v)) (sym g)
        (named_open name h (length sets) ms old.members.items old.open_ones.items old.next a v j old.next (omega arith) (let up = a.more in omega (arith, low, n, up)) t.1
        (known (has (firsts old.open_ones.items) v) refl here)
        (λ q r. let s : Some j ≡ Some q = sym here ∙ r in cc)
        (λ r. absurd (none-some j (sym r ∙ here)))))
      where
        known : (b : Bool) → has (firsts old.open_ones.items) v ≡ b → link_in h v ≡ Some j
            → (has (firsts old.open_ones.items) v ≡ true) × (own_by old.open_ones.items v ≡ j) ⊎ (has (firsts old.open_ones.items) v ≡ false)
        known true q here = inl (q, a.linked v j (subst (λ xs. has xs v ≡ true) a.open_are q) here)
        known false q here = inr q

    -- one that the store doesn't have, which is named already
    named_one : (i : ℕ) → has (firsts old.open_ones.items) v ≡ true → j ≡ own_by old.open_ones.items v → mid ≡ old → m ≡ seen.Open i → link_in h i ≡ None
        → as_member (seen_term name h (family_of sets) c) ≡ Ok m → After ps
    named_one i q n g o l w =
        let t = variable_at name h sets c i v (w ∙ ap Ok o) is in
        let here : link_in h v ≡ None = ap (link_in h) (sym t.0) ∙ l in
        let s = a.new v (subst (λ xs. has xs v ≡ true) a.open_are q) here in
        ended i o t.0 (subst (λ (d : Named). Begun d (seen.Open v)) (sym g)
        (named_open name h (length sets) ms old.members.items old.open_ones.items old.next a v j old.next (omega arith) (let u = s.1 in omega (arith, u, n)) t.1
        (inl (q, sym n))
        (λ y r. absurd (none-some y (sym here ∙ r)))
        (λ r. ((let u = s.0 in omega (arith, u, n)), λ y. absurd (true≢false (sym q ∙ y))))))

    -- and which isn't
    new_one : (i : ℕ) → has (firsts old.open_ones.items) v ≡ false → j ≡ old.next → mid ≡ record old { next = suc old.next } → m ≡ seen.Open i
        → link_in h i ≡ None → as_member (seen_term name h (family_of sets) c) ≡ Ok m → After ps
    new_one i q n g o l w =
        let t = variable_at name h sets c i v (w ∙ ap Ok o) is in
        let here : link_in h v ≡ None = ap (link_in h) (sym t.0) ∙ l in
        let up = a.more in
        ended i o t.0 (subst (λ (d : Named). Begun d (seen.Open v)) (sym g)
        (named_open name h (length sets) ms old.members.items old.open_ones.items old.next a v j (suc old.next) (omega arith) (omega (arith, n)) t.1
        (inr q)
        (λ y r. absurd (none-some y (sym here ∙ r)))
        (λ r. (omega (arith, n, up), λ y. omega (arith, n)))))

    pub step_some : (x : Member) → Numbers x v old (Some j) mid → IsMemberAt name h sets c x m → After ps
    step_some (member.Fixed z) g k = absurd g
    step_some (member.Var n) g k = linked_one n k.1.0 g.0 g.1 k.1.1 k.1.2 k.1.3 k.0
    step_some member.Free g k = elim g [
      | inl d ↦ named_one k.1.0 d.0 d.1 d.2 k.1.1 k.1.2 k.0
      | inr d ↦ new_one k.1.0 d.0 d.1 d.2 k.1.1 k.1.2 k.0
    ]

-- ---- the members of a list

module _ (name : Naming) (h : Cells) (sets : List (List ℕ)) where
  pub cells_long : (cs : List Cell) (xs : List Member) (ms : List seen.Member) → AreMembersAt name h sets cs xs ms → length cs ≡ length xs
  cells_long [] [] [] a = refl
  cells_long [] [] (m ∷ ms) a = absurd a
  cells_long [] (x ∷ xs) ms a = absurd a
  cells_long (c ∷ cs) [] ms a = absurd a
  cells_long (c ∷ cs) (x ∷ xs) [] a = absurd a
  cells_long (c ∷ cs) (x ∷ xs) (m ∷ ms) a = ap suc (cells_long cs xs ms a.2)

  pub members_long : (cs : List Cell) (xs : List Member) (ms : List seen.Member) → AreMembersAt name h sets cs xs ms → length ms ≡ length xs
  members_long [] [] [] a = refl
  members_long [] [] (m ∷ ms) a = absurd a
  members_long [] (x ∷ xs) ms a = absurd a
  members_long (c ∷ cs) [] ms a = absurd a
  members_long (c ∷ cs) (x ∷ xs) [] a = absurd a
  members_long (c ∷ cs) (x ∷ xs) (m ∷ ms) a = ap suc (members_long cs xs ms a.2)

  -- the member at a place
  pub member_there : (cs : List Cell) (xs : List Member) (ms : List seen.Member) → AreMembersAt name h sets cs xs ms → (i : ℕ) (d : Cell) (y : Member) → i < length xs
      → (m : seen.Member) × (take (i + 1) ms ≡ take i ms ++ m ∷ []) × IsOf h (get_or cs i d) × IsMemberAt name h sets (get_or cs i d) (get_or xs i y) m
  member_there [] [] [] a i d y l = absurd (omega (arith, l))
  member_there [] [] (m ∷ ms) a i d y l = absurd a
  member_there [] (x ∷ xs) ms a i d y l = absurd a
  member_there (c ∷ cs) [] ms a i d y l = absurd a
  member_there (c ∷ cs) (x ∷ xs) [] a i d y l = absurd a
  member_there (c ∷ cs) (x ∷ xs) (m ∷ ms) a zero d y l = (m, refl, a.0, a.1)
  member_there (c ∷ cs) (x ∷ xs) (m ∷ ms) a (suc i) d y l =
      let r = member_there cs xs ms a.2 i d y (omega (arith, l)) in
      (r.0, subst (λ k. take k (m ∷ ms) ≡ m ∷ (take i ms ++ r.0 ∷ [])) (let e : suc (i + 1) ≡ suc i + 1 = omega arith in e) (ap (λ q. m ∷ q) r.1), r.2, r.3)

-- ---- the cost

pub cost_bad : (ms : List seen.Member) (t : Term) (f : QueryFault) → as_member t ≡ Err f → cost_fault ms t ≡ Some f
cost_bad ms (Var x) f e = absurd (cc)
cost_bad ms (Int z) f e = absurd (cc)
cost_bad ms (Atom a) f e = cc
cost_bad ms (Comp g ts) f e = cc

module _ (name : Naming) (h : Cells) (sets : List (List ℕ)) (ms : List seen.Member) (named : Named) (c : Cell) where
  abbrev In : Result Member QueryFault → Type 0
  In r = IsCostIn name h sets ms named c r

  pub cost_known : (x : Member) (z : ℤ) → x ≡ member.Fixed z → (s : seen.Member) → IsMemberAt name h sets c x s → In (Ok x)
  cost_known x z e s k =
      let f : s ≡ seen.Known z = (subst (λ y. IsMemberAt name h sets c y s) e k).1 in
      (seen.Known z, k.0 ∙ ap Ok f, tt, ap member_of e)

  -- a member that isn't an integer is a variable
  open_at : (x : Member) → ((z : ℤ) → x ≡ member.Fixed z → ⊥) → (s : seen.Member) → IsMemberAt name h sets c x s → (i : ℕ) × (s ≡ seen.Open i)
  open_at (member.Fixed z) n s k = absurd (n z refl)
  open_at (member.Var j) n s k = (k.1.0, k.1.1)
  open_at member.Free n s k = (k.1.0, k.1.1)

  module _ (a : IsNamed name h (length sets) ms named) (x : Member) (other : (z : ℤ) → x ≡ member.Fixed z → ⊥) (s : seen.Member)
      (k : IsMemberAt name h sets c x s) (v : ℕ) (is : IsVariableOf name h c v) where
    pub cost_open : (j : ℕ) → has (firsts named.open_ones.items) v ≡ true → j ≡ own_by named.open_ones.items v → In (Ok (member.Var j))
    cost_open j e f =
        let o = open_at x other s k in
        let t = variable_at name h sets c o.0 v (k.0 ∙ ap Ok o.1) is in (
          seen.Open v,
          k.0 ∙ ap Ok (o.1 ∙ ap seen.Open t.0),
          subst (λ xs. has xs v ≡ true) a.open_are e,
          ap seen.Open f,
        )

    pub cost_other : has (firsts named.open_ones.items) v ≡ false → In (Err Parameter)
    cost_other e =
        let o = open_at x other s k in
        let t = variable_at name h sets c o.0 v (k.0 ∙ ap Ok o.1) is in
        let u : seen_term name h (family_of sets) c ≡ Var v = variable_member (seen_term name h (family_of sets) c) v (k.0 ∙ ap Ok (o.1 ∙ ap seen.Open t.0)) in
        ap (cost_fault ms) u ∙ ap (λ b. cond b None (Some Parameter)) (ap (λ xs. has xs v) (sym a.open_are) ∙ e)

-- ---- what is found

pub match_some : {X : Type 0} (o : Option X) (x : X) (P : Type 0) (Q : X → Type 0) → o ≡ Some x → MatchOption o P Q → Q x
match_some o x P Q e m = subst (λ q. MatchOption q P Q) e m

pub match_none : {X : Type 0} (o : Option X) (P : Type 0) (Q : X → Type 0) → o ≡ None → MatchOption o P Q → P
match_none o P Q e m = subst (λ q. MatchOption q P Q) e m

pub prepared_by : (s : State) (hs : Heaps) (ls : Levels) → hs ≡ s.heaps → ls ≡ s.levels → (name : Naming) (list cost : Cell) (r : Result Prepared QueryFault)
    → IsPreparedIn name hs.now ls.current.sets list cost r → IsPrepared name s list cost r
prepared_by s hs ls e f name list cost r p =
    subst (λ (l : Levels). IsPreparedIn name s.heaps.now l.current.sets list cost r) f (subst (λ (h : Heaps). IsPreparedIn name h.now ls.current.sets list cost r) e p)

pub cost_owned : (own : ℕ → ℕ) (ms : List seen.Member) (c : seen.Member) → IsCostOf ms c → IsCostOf (map (owned own) ms) (owned own c)
cost_owned own ms (seen.Known z) i = tt
cost_owned own ms (seen.Open x) i = subst (λ xs. has xs (own x) ≡ true) (sym (owned_open own ms)) (has_map own (open_ones ms) x i)

module _ (name : Naming) (s : State) (o : IsSound s) (list cost : Cell) (p : Prepared) (g : IsPrepared name s list cost (Ok p)) where
  abbrev ms : List seen.Member
  ms = g.0

  abbrev own : ℕ → ℕ
  own = own_by p.named.open_ones.items

  a : AreNamed name s.heaps.now (length s.levels.current.sets) ms p.named.members.items p.named.open_ones.items p.named.next
  a = g.2

  -- what a search asks
  pub prepared_more : length s.levels.current.sets ≤ p.named.next
  prepared_more = a.more

  pub prepared_own : (added : ℕ) → added ≡ p.named.next - length s.levels.current.sets → AreOwn (length s.levels.current.sets + added) p.named.members.items
  prepared_own added e = let m = a.more in let n : p.named.next ≡ length s.levels.current.sets + added = omega (arith, e, m) in subst (λ k. AreOwn k p.named.members.items) n a.own

  pub prepared_cost : IsCostOf (members_of p.named.members.items) (member_of p.cost)
  prepared_cost =
      subst (λ l. IsCostOf l (member_of p.cost)) (sym a.members) (subst (IsCostOf (map (owned own) ms)) (sym g.3.3) (cost_owned own ms g.3.0 g.3.2))

  new_unnamed : (c : ℕ) → has (open_ones ms) c ≡ true → link_in s.heaps.now c ≡ None → has (constrained s.levels.current.posted) (own c) ≡ false
  new_unnamed c e i = elim (cases_Bool (has (constrained s.levels.current.posted) (own c))) [
    | inl y ↦ let l = o.now.posted (own c) y in let n = (a.new c e i).0 in absurd (omega (arith, l, n))
    | inr n ↦ n
  ]

  -- what it begins with, where so many variables were added
  module _ (added : ℕ) (count : added ≡ p.named.next - length s.levels.current.sets) where
    abbrev pub begins : List Indexical
    begins = s.levels.current.posted ++ new_bounds s.infinity (length s.levels.current.sets) added

    begun_is : IsBegun INFINITY s.infinity (link_in s.heaps.now) s.levels.current.posted own (open_ones ms) begins
    begun_is = record {
      bounds = new_bounds s.infinity (length s.levels.current.sets) added;
      are = are_bounds s.infinity (length s.levels.current.sets) added;
      behind = refl;
      each = λ x c other. o.now.bounded x (o.now.posted x c) other;
      new = λ c e i other. (
          let l = a.new c e i in
          let low = l.0 in
          let high = l.1 in
          somewhere_right (λ q. q ≡ bound s.infinity (own c)) s.levels.current.posted (new_bounds s.infinity (length s.levels.current.sets) added)
          (new_bounded s.infinity (length s.levels.current.sets) added (own c) low (omega (arith, low, high, count)) other)
          );
    }

    search_is : AllPosted (λ q. IsMonotone INFINITY q.range) s.levels.current.posted → IsSearch name s list cost ms g.3.0 own begins
    search_is mono = record {
      members = g.1;
      costs = g.3.1;
      among = g.3.2;
      owned = record { linked = a.linked; new = new_unnamed; apart = a.apart };
      begun = begun_is;
      cells = a.cells;
      monotone = mono;
    }

    pub sought_is : AllPosted (λ q. IsMonotone INFINITY q.range) s.levels.current.posted → (order : Order) (least : Bool) (found : Option (List ℕ))
        → SoughtValues INFINITY order (members_of p.named.members.items) (member_of p.cost) least begins found → IsSought name s order least list cost ms found
    sought_is mono order least found v = record {
      cost_member = g.3.0;
      own = own;
      ranges = begins;
      search = search_is mono;
      values = subst (λ l. SoughtValues INFINITY order l (owned own g.3.0) least begins found) a.members
          (subst (λ c. SoughtValues INFINITY order (members_of p.named.members.items) c least begins found) g.3.3 v);
    }

  pub open_is : firsts p.named.open_ones.items ≡ open_ones ms
  open_is = a.open_are

  -- as many values as open members
  pub as_many : (order : Order) (least : Bool) (ls : List Indexical) (ns : List ℕ)
      → SoughtValues INFINITY order (members_of p.named.members.items) (member_of p.cost) least ls (Some ns) → length p.named.open_ones.items ≡ length ns
  as_many order least ls ns v =
      let w = v.best.3 in
      sym (length-map p.named.open_ones.items (λ q. q.0)) ∙ ap length a.open_are
      ∙ sym (ap length (ap open_ones a.members ∙ owned_open own ms) ∙ length-map (open_ones ms) own)
      ∙ sym (length-map (open_ones (members_of p.named.members.items)) w.family) ∙ ap length w.values ∙ length-map ns (λ n. n ∷ [])
