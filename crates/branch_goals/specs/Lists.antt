-- Lists of a heap, as the sets of a store show them.
use Rattle.std.specs.Prelude.{◌≡◌, ℕ, ◌<◌, false, codes, List, [], ◌∷◌, length, Some, None, Result, Ok, Err}
use Rattle.fd_language.specs.Range.{is_none_left}
use Rattle.fd_language.specs.Term.{Term, Atom, Comp, no_terms, term}
use Rattle.fd_model.specs.declared.kinds.QueryFault.{QueryFault}
use Rattle.fd_model.specs.Labelling.{read_list}
use Rattle.fd_model.specs.Members as seen
use Rattle.fd_model.specs.Members.{as_member}
use Rattle.term_pool.specs.declared.AtomId.{AtomId}
use Rattle.term_pool.specs.declared.TheConstants.{NIL, CONS}
use Rattle.heap_cells.specs.declared.Cell.{Cell}
use Rattle.heap_cells.specs.Cells.{Cells, IsOf}
use Rattle.heap_cells.specs.Terms.{Naming, IsOneToOne, terms_by}
use Rattle.range_code.specs.Frames.{family_of}
use Rattle.fd_language.specs.SingleValues.{value_in}
use Rattle.heap_cells.specs.SeenTerms.{seen_term}
use Rattle.branch_lemmas.specs.Frames.{link_in}
use Rattle.label_search.specs.declared.Member.{Member}
use Rattle.label_search.specs.declared.Member.TheVariants.{Fixed, Var, Free}
use Rattle.label_search.specs.Picks.{AreThere}
use Rattle.branch_goals.specs.declared.lists.ListNode.{ListNode}
use Rattle.branch_goals.specs.declared.lists.ListNode.TheVariants.{Pair, Empty, Broken}
use Rattle.branch_goals.specs.declared.lists.Members.{Members}

-- the names of the atoms of lists, and no two atoms have one name
pub record IsListNaming (name : Naming) : Type 0 where
  pub nil : name NIL ≡ codes "[]"
  pub cons : name CONS ≡ codes "."
  pub apart : IsOneToOne name

-- no set is empty
abbrev pub HasNoEmpty : List (List ℕ) → Type 0
HasNoEmpty sets = (k : ℕ) → is_none_left (family_of sets k) ≡ false

-- a cell as a node of a list
abbrev pub IsNode : Naming → Cells → List (List ℕ) → Cell → ListNode → Type 0
IsNode name h sets at (Pair a b) =
    IsOf h a × IsOf h b × (seen_term name h (family_of sets) at
    ≡ Comp (name CONS) (term (seen_term name h (family_of sets) a) (term (seen_term name h (family_of sets) b) no_terms)))
IsNode name h sets at Empty = seen_term name h (family_of sets) at ≡ Atom (name NIL)
IsNode name h sets at (Broken f) = read_list (seen_term name h (family_of sets) at) ≡ Err f

-- the same of a variable by its set, of an atom, and of a compound term
abbrev pub IsVariableNode : List ℕ → ListNode → Type 0
IsVariableNode xs (Broken f) = (i : ℕ) → read_list (value_in xs i) ≡ Err f
IsVariableNode xs _ = ⊥

abbrev pub IsAtomNode : AtomId → ListNode → Type 0
IsAtomNode a Empty = a ≡ NIL
IsAtomNode a (Broken f) = (name : Naming) → IsListNaming name → read_list (Atom (name a)) ≡ Err f
IsAtomNode a _ = ⊥

abbrev pub IsCompoundNode : AtomId → List Cell → ListNode → Type 0
IsCompoundNode f args (Pair a b) = (f ≡ CONS) × (args ≡ a ∷ b ∷ [])
IsCompoundNode f args (Broken e) = (name : Naming) → IsListNaming name → (by : Cell → Term)
    → read_list (Comp (name f) (terms_by by args)) ≡ Err e
IsCompoundNode f args _ = ⊥

-- The member is what is seen: an integer, the store's variable that the variable of the heap is, or one that the store doesn't have.
abbrev pub IsSeenMember : Cells → List (List ℕ) → Member → seen.Member → Type 0
IsSeenMember h sets (Fixed z) s = s ≡ seen.Known z
IsSeenMember h sets (Var k) s = (i : ℕ) × (s ≡ seen.Open i) × (link_in h i ≡ Some k)
    × (k < length sets) × (1 < length (family_of sets k))
IsSeenMember h sets Free s = (i : ℕ) × (s ≡ seen.Open i) × (link_in h i ≡ None)

abbrev pub IsMemberAt : Naming → Cells → List (List ℕ) → Cell → Member → seen.Member → Type 0
IsMemberAt name h sets c m s = (as_member (seen_term name h (family_of sets) c) ≡ Ok s) × IsSeenMember h sets m s

-- a cell as a member of a list, or the fault that it is none
abbrev pub IsMemberOf : Naming → Cells → List (List ℕ) → Cell → Result Member QueryFault → Type 0
IsMemberOf name h sets c (Err f) = as_member (seen_term name h (family_of sets) c) ≡ Err f
IsMemberOf name h sets c (Ok m) = (s : seen.Member) × IsMemberAt name h sets c m s

-- the cells are members, each as it is seen
abbrev pub AreMembersAt : Naming → Cells → List (List ℕ) → List Cell → List Member
    → List seen.Member → Type 0
AreMembersAt name h sets [] [] [] = Unit {0}
AreMembersAt name h sets (c ∷ cs) (m ∷ ms) (s ∷ ss) = IsOf h c × IsMemberAt name h sets c m s
    × AreMembersAt name h sets cs ms ss
AreMembersAt name h sets _ _ _ = ⊥

-- the list in a cell: its members with their cells, or its fault
abbrev pub IsListRead : Naming → Cells → List (List ℕ) → Cell → Result Members QueryFault → Type 0
IsListRead name h sets c (Err f) = read_list (seen_term name h (family_of sets) c) ≡ Err f
IsListRead name h sets c (Ok r) =
    (ss : List seen.Member) × (read_list (seen_term name h (family_of sets) c) ≡ Ok ss)
    × AreMembersAt name h sets r.cells.items r.members.items ss
    × AreThere (length sets) r.members.items
