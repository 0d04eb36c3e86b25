-- Lists of a heap, node by node.
use Rattle.std.proofs.Common.{◌≡◌, ℕ, zero, suc, ◌<◌, true, false, cond, ℤ, pos, codes, List, [], ◌∷◌, ◌++◌, length, get_or, Some, None, Result, Ok}
use Rattle.std.proofs.Common.{Err, inl, inr, refl, ap, sym, ◌∙◌, subst, arith, All}
use Rattle.std.specs.Str.{bytes_eq}
use Rattle.std.proofs.lemmas.Bool.{cases_Bool}
use Rattle.std.proofs.lemmas.Option.{unwrap_or-slice_get}
use Rattle.std.proofs.lemmas.Slice.Eq.{bytes_eq-Decides}
use Rattle.fd_language.specs.Family.{Family}
use Rattle.fd_language.specs.Range.{is_none_left}
use Rattle.fd_language.specs.Term.{Term, Atom, Comp, no_terms, term}
use Rattle.fd_model.specs.declared.kinds.QueryFault.{QueryFault}
use Rattle.fd_model.specs.declared.kinds.QueryFault.TheVariants.{Instantiation, BadType}
use Rattle.fd_model.specs.Labelling.{read_list}
use Rattle.fd_model.specs.Linear.{of_both}
use Rattle.fd_model.specs.Members as seen
use Rattle.fd_model.specs.Members.{as_member, prepend}
use Rattle.term_pool.specs.Terms.{size}
use Rattle.term_pool.specs.declared.AtomId.{AtomId}
use Rattle.term_pool.specs.declared.TheConstants.{NIL, CONS}
use Rattle.heap_cells.specs.declared.Cell.{Cell}
use Rattle.heap_cells.specs.declared.Cell.TheVariants as cell
use Rattle.heap_cells.specs.Cells.{Cells, Compound, free, linked, slot_at, compound_at, IsOf}
use Rattle.heap_cells.specs.SeenCells.{IsSeen}
use Rattle.heap_cells.specs.declared.Seen.{Seen}
use Rattle.heap_cells.specs.declared.Seen.TheVariants as looks
use Rattle.heap_cells.specs.Terms.{Naming, Same, terms_by}
use Rattle.heap_cells.specs.HeapInvariant.{IsHeap}
use Rattle.domain_ranges.proofs.Lemmas.{one_value}
use Rattle.heap_cells.proofs.Lemmas.{none_at_all, both_of, shown_atom, shown_compound, shown_free, shown_int, shown_linked}
use Rattle.fd_language.specs.SingleValues.{only}
use Rattle.range_code.specs.Frames.{family_of}
use Rattle.fd_language.specs.SingleValues.{value_in}
use Rattle.branch_lemmas.specs.Frames.{link_of}
use Rattle.branch_lemmas.specs.AtomNames.{full}
use Rattle.branch_lemmas.proofs.Lemmas.{full_one}
use Rattle.label_search.specs.declared.Member.{Member}
use Rattle.label_search.specs.declared.Member.TheVariants as member
use Rattle.label_search.specs.Picks.{IsThere, AreThere}
use Rattle.branch_goals.specs.declared.lists.ListNode.{ListNode}
use Rattle.branch_goals.specs.declared.lists.ListNode.TheVariants.{Pair, Empty, Broken}
use Rattle.heap_cells.specs.SeenTerms.{seen_term}
use Rattle.branch_goals.specs.Lists.{IsListNaming, HasNoEmpty, IsNode, IsVariableNode, IsAtomNode, IsCompoundNode, IsSeenMember, IsMemberAt, IsMemberOf}
use Rattle.branch_goals.specs.Lists.{AreMembersAt}
use Rattle.std.proofs.lemmas.List.{append-nil, append_assoc}

-- ---- some names

abbrev two_names : List (List ℕ)
two_names = codes "[]" ∷ codes "." ∷ []

apart_names : (i j : ℕ) → i < 2 → j < 2 → get_or two_names i [] ≡ get_or two_names j [] → i ≡ j
apart_names zero zero k l e = refl
apart_names zero (suc zero) k l e = let n : 2 ≡ 1 = ap length e in absurd (omega (arith, n))
apart_names (suc zero) zero k l e = let n : 1 ≡ 2 = ap length e in absurd (omega (arith, n))
apart_names (suc zero) (suc zero) k l e = refl
apart_names (suc (suc i)) j k l e = absurd (omega (arith, k))
apart_names zero (suc (suc j)) k l e = absurd (omega (arith, l))
apart_names (suc zero) (suc (suc j)) k l e = absurd (omega (arith, l))

-- a naming with the names of lists
abbrev pub list_naming : Naming
list_naming = full two_names

pub is_list_naming : IsListNaming list_naming
is_list_naming = record {
  nil = refl;
  cons = refl;
  apart = full_one two_names (λ a b k l e. ap (λ n. record { number = n })
      (apart_names a.number b.number k l (sym (unwrap_or-slice_get two_names a.number []) ∙ e ∙ unwrap_or-slice_get two_names b.number [])));
}

-- ---- one node

-- two atoms with different ids have different names
named_apart : (name : Naming) (n : IsListNaming name) (a b : AtomId) → (a ≡ b → ⊥) → (t : List ℕ) → name b ≡ t → bytes_eq (name a) t ≡ false
named_apart name n a b apart t e = elim (cases_Bool (bytes_eq (name a) t)) [
  | inl y ↦ absurd (apart (n.apart a b ((bytes_eq-Decides (name a) t).0 y ∙ sym e)))
  | inr y ↦ y
]

named_same : (name : Naming) (b : AtomId) (t : List ℕ) → name b ≡ t → bytes_eq (name b) t ≡ true
named_same name b t e = (bytes_eq-Decides (name b) t).1 e

-- a compound term that is no node
pub other_name : (f : AtomId) (args : List Cell) → (f ≡ CONS → ⊥) → (name : Naming) → IsListNaming name → (by : Cell → Term) → read_list (Comp (name f) (terms_by by args)) ≡ Err BadType
other_name f [] apart name n by = refl
other_name f (a ∷ []) apart name n by = refl
other_name f (a ∷ b ∷ []) apart name n by = ap (λ x. cond x (of_both prepend (as_member (by a)) (read_list (by b))) (Err BadType)) (named_apart name n f CONS apart (codes ".") n.cons)
other_name f (a ∷ b ∷ c ∷ cs) apart name n by = refl

pub other_count : (f : AtomId) (args : List Cell) → (length args ≡ 2 → ⊥) → (name : Naming) → IsListNaming name → (by : Cell → Term) → read_list (Comp (name f) (terms_by by args)) ≡ Err BadType
other_count f [] apart name n by = refl
other_count f (a ∷ []) apart name n by = refl
other_count f (a ∷ b ∷ []) apart name n by = absurd (apart refl)
other_count f (a ∷ b ∷ c ∷ cs) apart name n by = refl

-- the list of a node
pub read_pair : (name : Naming) → IsListNaming name → (t u : Term) → read_list (Comp (name CONS) (term t (term u no_terms))) ≡ of_both prepend (as_member t) (read_list u)
read_pair name n t u = ap (λ x. cond x (of_both prepend (as_member t) (read_list u)) (Err BadType)) (named_same name CONS (codes ".") n.cons)

pub read_empty : (name : Naming) → IsListNaming name → read_list (Atom (name NIL)) ≡ Ok []
read_empty name n = ap (λ b. cond b (Ok []) (Err BadType)) (named_same name NIL (codes "[]") n.nil)

-- ---- a cell

module _ (name : Naming) (h : Cells) (valid : IsHeap h) (sets : List (List ℕ)) (c : Cell) where
  abbrev G : Family
  G = family_of sets

  -- the nodes by what is seen
  pub node_variable : (i k : ℕ) (n : ListNode) → slot_at h i ≡ linked k → Same h c (cell.Ref i) → IsVariableNode (G k) n → IsNode name h sets c n
  node_variable i k (Pair a b) e s v = absurd v
  node_variable i k Empty e s v = absurd v
  node_variable i k (Broken f) e s v = ap read_list (shown_linked name h valid G c i k e s) ∙ v i

  pub node_free : (i : ℕ) → slot_at h i ≡ free → Same h c (cell.Ref i) → IsNode name h sets c (Broken Instantiation)
  node_free i e s = ap read_list (shown_free name h valid G c i e s)

  pub node_int : (z : ℤ) → Same h c (cell.Int z) → IsNode name h sets c (Broken BadType)
  node_int z s = ap read_list (shown_int name h valid G c z s)

  pub node_atom : IsListNaming name → (a : AtomId) (n : ListNode) → Same h c (cell.Atom a) → IsAtomNode a n → IsNode name h sets c n
  node_atom names a (Pair x y) s v = absurd v
  node_atom names a Empty s v = shown_atom name h valid G c a s ∙ ap (λ b. Atom (name b)) v
  node_atom names a (Broken f) s v = ap read_list (shown_atom name h valid G c a s) ∙ v name names

  pub node_compound : IsListNaming name → (f : AtomId) (args : List Cell) (j : ℕ) (n : ListNode) → compound_at h j ≡ record { name = f; args = args }
      → Same h c (cell.Struct j) → IsCompoundNode f args n → IsNode name h sets c n
  node_compound names f args j (Pair a b) e s v =
      let own : All (IsOf h) args = subst (λ (k : Compound). All (IsOf h) k.args) e (valid.parts j) in
      let two : All (IsOf h) (a ∷ b ∷ []) = subst (All (IsOf h)) v.1 own in (
        two 0 a (omega arith),
        two 1 a (omega arith),
        shown_compound name h valid G c f args j e s
            ∙ ap (λ g. Comp (name g) (terms_by (seen_term name h G) args)) v.0 ∙ ap (λ cs. Comp (name CONS) (terms_by (seen_term name h G) cs)) v.1,
      )
  node_compound names f args j Empty e s v = absurd v
  node_compound names f args j (Broken g) e s v = ap read_list (shown_compound name h valid G c f args j e s) ∙ v name names (seen_term name h G)

  -- the members by what is seen
  pub member_free : (i : ℕ) → slot_at h i ≡ free → Same h c (cell.Ref i) → IsMemberOf name h sets c (Ok member.Free)
  member_free i e s = (seen.Open i, (ap as_member (shown_free name h valid G c i e s), (i, refl, ap link_of e)))

  pub member_int : (z : ℤ) → Same h c (cell.Int z) → IsMemberOf name h sets c (Ok (member.Fixed z))
  member_int z s = (seen.Known z, (ap as_member (shown_int name h valid G c z s), refl))

  open_member : (xs : List ℕ) (i : ℕ) → only xs ≡ None → is_none_left xs ≡ false → (as_member (value_in xs i) ≡ Ok (seen.Open i)) × (1 < length xs)
  open_member [] i e s = absurd (cc)
  open_member (v ∷ []) i e s = absurd (cc)
  open_member (x ∷ y ∷ ys) i e s = (refl, omega arith)

  pub member_fixed : (i k w : ℕ) → slot_at h i ≡ linked k → Same h c (cell.Ref i) → only (G k) ≡ Some w → IsMemberOf name h sets c (Ok (member.Fixed (pos w)))
  member_fixed i k w e s o = (seen.Known (pos w), (ap as_member (shown_linked name h valid G c i k e s ∙ one_value (G k) w i o), refl))

  pub member_variable : (i k : ℕ) → slot_at h i ≡ linked k → Same h c (cell.Ref i) → k < length sets → HasNoEmpty sets → only (G k) ≡ None → IsMemberOf name h sets c (Ok (member.Var k))
  member_variable i k e s low some o =
      let both = open_member (G k) i o (some k) in
      (seen.Open i, (ap as_member (shown_linked name h valid G c i k e s) ∙ both.0, (i, refl, ap link_of e, low, both.1)))

  pub member_atom : (a : AtomId) → Same h c (cell.Atom a) → IsMemberOf name h sets c (Err BadType)
  member_atom a s = ap as_member (shown_atom name h valid G c a s)

  pub member_compound : (f : AtomId) (args : List Cell) (j : ℕ) → compound_at h j ≡ record { name = f; args = args } → Same h c (cell.Struct j) → IsMemberOf name h sets c (Err BadType)
  member_compound f args j e s = ap as_member (shown_compound name h valid G c f args j e s)

  pub member_default : (v : Seen) → IsSeen h c v → ((i : ℕ) → v ≡ looks.Open i → ⊥) → ((i k : ℕ) → v ≡ looks.Constrained i k → ⊥) → ((z : ℤ) → v ≡ looks.Int z → ⊥) → IsMemberOf name h sets c (Err BadType)
  member_default (looks.Open i) s a b z = absurd (a i refl)
  member_default (looks.Constrained i k) s a b z = absurd (b i k refl)
  member_default (looks.Int i) s a b z = absurd (z i refl)
  member_default (looks.Atom i) s a b z = member_atom i s
  member_default (looks.Struct f args) s a b z = member_compound f args.now s.0 s.2 s.3

-- ---- the walk

-- the members in front of the others
abbrev pub joined : List seen.Member → Result (List seen.Member) QueryFault → Result (List seen.Member) QueryFault
joined ss (Err f) = Err f
joined ss (Ok more) = Ok (ss ++ more)

joined_more : (ss : List seen.Member) (s : seen.Member) (r : Result (List seen.Member) QueryFault) → joined ss (of_both prepend (Ok s) r) ≡ joined (ss ++ s ∷ []) r
joined_more ss s (Err f) = refl
joined_more ss s (Ok more) = ap Ok (sym (append_assoc ss (s ∷ []) more))

-- Of the list in a cell the front was walked: its members, and the cell of the rest.
pub record IsWalked (name : Naming) (h : Cells) (sets : List (List ℕ)) (list : Cell) (cells : List Cell) (members : List Member) (at : Cell) : Type 0 where
  pub own : IsOf h at
  pub front : List seen.Member
  pub are : AreMembersAt name h sets cells members front
  pub rest : read_list (seen_term name h (family_of sets) list) ≡ joined front (read_list (seen_term name h (family_of sets) at))

pub walk_start : (name : Naming) (h : Cells) (sets : List (List ℕ)) (list : Cell) → IsOf h list → IsWalked name h sets list [] [] list
walk_start name h sets list own = record { own = own; front = []; are = tt; rest = no_front (read_list (seen_term name h (family_of sets) list)) }
  where
    no_front : (r : Result (List seen.Member) QueryFault) → r ≡ joined [] r
    no_front (Err f) = refl
    no_front (Ok ms) = refl

pub start_front : (name : Naming) (h : Cells) (sets : List (List ℕ)) (list : Cell) (own : IsOf h list) → (walk_start name h sets list own).front ≡ []
unfolding walk_start
start_front name h sets list own = refl

are_more : (name : Naming) (h : Cells) (sets : List (List ℕ)) (cs : List Cell) (ms : List Member) (ss : List seen.Member) (c : Cell) (m : Member)
    (s : seen.Member) → AreMembersAt name h sets cs ms ss → IsOf h c → IsMemberAt name h sets c m s
    → AreMembersAt name h sets (cs ++ c ∷ []) (ms ++ m ∷ []) (ss ++ s ∷ [])
are_more name h sets [] [] [] c m s a own i = (own, i, tt)
are_more name h sets [] [] (x ∷ ss) c m s a own i = absurd a
are_more name h sets [] (y ∷ ms) ss c m s a own i = absurd a
are_more name h sets (d ∷ cs) [] ss c m s a own i = absurd a
are_more name h sets (d ∷ cs) (y ∷ ms) [] c m s a own i = absurd a
are_more name h sets (d ∷ cs) (y ∷ ms) (x ∷ ss) c m s a own i = (a.0, a.1, are_more name h sets cs ms ss c m s a.2 own i)

pub walk_more : (name : Naming) (h : Cells) (sets : List (List ℕ)) (list : Cell) (cells : List Cell) (members : List Member) (at a b : Cell) (m : Member)
    → IsListNaming name → IsWalked name h sets list cells members at → IsNode name h sets at (Pair a b) → IsMemberOf name h sets a (Ok m)
    → IsWalked name h sets list (cells ++ a ∷ []) (members ++ m ∷ []) b
walk_more name h sets list cells members at a b m names w n i = record {
  own = n.1;
  front = w.front ++ i.0 ∷ [];
  are = are_more name h sets cells members w.front a m i.0 w.are n.0 i.1;
  rest =
      w.rest
      ∙ ap (λ t. joined w.front (read_list t)) n.2
      ∙ ap (joined w.front) (read_pair name names (seen_term name h (family_of sets) a) (seen_term name h (family_of sets) b))
      ∙ ap (λ r. joined w.front (of_both prepend r (read_list (seen_term name h (family_of sets) b)))) i.1.0
      ∙ joined_more w.front i.0 (read_list (seen_term name h (family_of sets) b));
}

pub more_front : (name : Naming) (h : Cells) (sets : List (List ℕ)) (list : Cell) (cells : List Cell) (members : List Member) (at a b : Cell) (m : Member)
    (names : IsListNaming name) (w : IsWalked name h sets list cells members at) (n : IsNode name h sets at (Pair a b)) (i : IsMemberOf name h sets a (Ok m))
    → (walk_more name h sets list cells members at a b m names w n i).front ≡ w.front ++ i.0 ∷ []
unfolding walk_more
more_front name h sets list cells members at a b m names w n i = refl

-- the same with what two pushes give
pub walk_pushed : (name : Naming) (h : Cells) (sets : List (List ℕ)) (list : Cell) (cells cells' : List Cell) (members members' : List Member) (at a b : Cell)
    (m : Member) → cells' ≡ cells ++ a ∷ [] → members' ≡ members ++ m ∷ [] → IsListNaming name → IsWalked name h sets list cells members at
    → IsNode name h sets at (Pair a b) → IsMemberOf name h sets a (Ok m)
    → IsWalked name h sets list cells' members' b
walk_pushed name h sets list cells cells' members members' at a b m e f names w n i =
    subst (λ xs. IsWalked name h sets list xs members' b) (sym e)
    (subst (λ ys. IsWalked name h sets list (cells ++ a ∷ []) ys b) (sym f) (walk_more name h sets list cells members at a b m names w n i))

-- what is left is smaller
pub walk_falls : (h : Cells) (sets : List (List ℕ)) (at a b : Cell) → IsNode list_naming h sets at (Pair a b)
    → size (seen_term list_naming h (family_of sets) b) < size (seen_term list_naming h (family_of sets) at)
walk_falls h sets at a b n = let e = ap size n.2 in omega (arith, e)

pub walk_broken : (name : Naming) (h : Cells) (sets : List (List ℕ)) (list : Cell) (cells : List Cell) (members : List Member) (at : Cell) (f : QueryFault)
    → IsWalked name h sets list cells members at → IsNode name h sets at (Broken f) → read_list (seen_term name h (family_of sets) list) ≡ Err f
walk_broken name h sets list cells members at f w n = w.rest ∙ ap (joined w.front) n

bad_first : (f : QueryFault) (r : Result (List seen.Member) QueryFault) → of_both prepend (Err f) r ≡ Err f
bad_first f (Err g) = refl
bad_first f (Ok ms) = refl

pub walk_bad : (name : Naming) (h : Cells) (sets : List (List ℕ)) (list : Cell) (cells : List Cell) (members : List Member) (at a b : Cell) (f : QueryFault)
    → IsListNaming name → IsWalked name h sets list cells members at → IsNode name h sets at (Pair a b) → IsMemberOf name h sets a (Err f)
    → read_list (seen_term name h (family_of sets) list) ≡ Err f
walk_bad name h sets list cells members at a b f names w n i =
    w.rest
    ∙ ap (λ t. joined w.front (read_list t)) n.2
    ∙ ap (joined w.front) (read_pair name names (seen_term name h (family_of sets) a) (seen_term name h (family_of sets) b)
    ∙ ap (λ r. of_both prepend r (read_list (seen_term name h (family_of sets) b))) i ∙ bad_first f (read_list (seen_term name h (family_of sets) b)))

pub walk_end : (name : Naming) (h : Cells) (sets : List (List ℕ)) (list : Cell) (cells : List Cell) (members : List Member) (at : Cell) → IsListNaming name
    → (w : IsWalked name h sets list cells members at) → IsNode name h sets at Empty → read_list (seen_term name h (family_of sets) list) ≡ Ok w.front
walk_end name h sets list cells members at names w n =
    w.rest ∙ ap (λ t. joined w.front (read_list t)) n ∙ ap (joined w.front) (read_empty name names) ∙ ap Ok (append-nil w.front)

-- the variables of the store among them are there
pub members_there : (name : Naming) (h : Cells) (sets : List (List ℕ)) (cs : List Cell) (ms : List Member) (ss : List seen.Member) → AreMembersAt name h sets cs ms ss → AreThere (length sets) ms
members_there name h sets [] [] [] a = none_at_all (IsThere (length sets))
members_there name h sets [] [] (s ∷ ss) a = absurd a
members_there name h sets [] (m ∷ ms) ss a = absurd a
members_there name h sets (c ∷ cs) [] ss a = absurd a
members_there name h sets (c ∷ cs) (m ∷ ms) [] a = absurd a
members_there name h sets (c ∷ cs) (m ∷ ms) (s ∷ ss) a = both_of (IsThere (length sets)) m ms (there m a.1.1) (members_there name h sets cs ms ss a.2)
  where
    there : (m : Member) → IsSeenMember h sets m s → IsThere (length sets) m
    there (member.Fixed z) i = tt
    there (member.Var k) i = i.3
    there member.Free i = tt
