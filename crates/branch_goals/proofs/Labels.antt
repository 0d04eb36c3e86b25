-- What a labelling takes.
use Rattle.std.proofs.Common.{◌≡◌, ℕ, ◌<◌, false, List, [], ◌∷◌, length, Option, Some, None, Result, Ok, Err, refl, ap, sym, ◌∙◌, subst, arith}
use Rattle.fd_language.specs.Family.{Family, universe}
use Rattle.fd_language.specs.Term.{Term, Var, Int, Atom, Comp}
use Rattle.fd_model.specs.declared.kinds.Order.{Order}
use Rattle.fd_model.specs.declared.kinds.QueryFault.{QueryFault}
use Rattle.fd_model.specs.Levels.{Levels}
use Rattle.fd_model.specs.Labelling.{read_list, values_by}
use Rattle.fd_model.specs.Members as seen
use Rattle.fd_model.specs.Members.{as_member}
use Rattle.heap_cells.specs.declared.Cell.{Cell}
use Rattle.heap_cells.specs.declared.Cell.TheVariants as cell
use Rattle.heap_cells.specs.Cells.{Cells, Heaps, is_bound, slot_at, compound_at, IsOf}
use Rattle.heap_cells.specs.SeenCells.{IsSeen}
use Rattle.heap_cells.specs.declared.Seen.{Seen}
use Rattle.heap_cells.specs.declared.Seen.TheVariants as looks
use Rattle.heap_cells.specs.Terms.{Naming, Same, term_of, terms_by}
use Rattle.heap_cells.specs.HeapInvariant.{IsHeap}
use Rattle.heap_cells.proofs.Lemmas.{unbound_term, term-Int, term-Atom, term-Struct}
use Rattle.range_code.specs.Frames.{family_of}
use Rattle.branch_meaning.specs.HeldBranches.{link_at, fixed_held}
use Rattle.branch_meaning.specs.HeldBranches as held
use Rattle.branch_meaning.specs.Labelling.{labels, by_listing, by_picked}
use Rattle.branch_meaning.specs.AnswerTexts.{cell_set}
use Rattle.branch_lemmas.specs.Frames.{held_of, link_in}
use Rattle.branch_lemmas.proofs.Lemmas.{unsettled}
use Rattle.label_search.specs.declared.Member.{Member}
use Rattle.label_search.specs.declared.Member.TheVariants as member
use Rattle.branch_state.specs.States.{State}
use Rattle.branch_goals.specs.declared.labelling.Labelling.TheVariants.{Done, Takes, Fault}
use Rattle.branch_goals.specs.declared.variable_selection.Taken.{Taken}
use Rattle.heap_cells.specs.SeenTerms.{seen_term}
use Rattle.branch_goals.specs.Lists.{IsListNaming, IsSeenMember}
use Rattle.branch_goals.specs.VariableSelection.{HaveCounts, IsFound, IsTakenOf}
use Rattle.branch_goals.specs.Labels.{Labels, IsVariableOf, labelled_in, values_of}

-- the variable of a cell that comes to one
pub variable_is : (name : Naming) (h : Cells) → IsHeap h → (c : Cell) (i : ℕ) → i < length h.slots → is_bound (slot_at h i) ≡ false → Same h c (cell.Ref i) → IsVariableOf name h c i
variable_is name h valid c i low open_now s j e =
    let own = unbound_term name h valid i open_now in
    let f : Var j ≡ Var i = sym e ∙ s name ∙ own in
    let g : j ≡ i = cc in
    (g, low, own)

-- and a cell that comes to something else is no variable
pub no_variable : (name : Naming) (h : Cells) → IsHeap h → (c : Cell) (v : Seen) → IsSeen h c v → ((i : ℕ) → v ≡ looks.Open i → ⊥)
    → ((i k : ℕ) → v ≡ looks.Constrained i k → ⊥) → (n : ℕ) → IsVariableOf name h c n
no_variable name h valid c (looks.Open i) s a b n j e = absurd (a i refl)
no_variable name h valid c (looks.Constrained i k) s a b n j e = absurd (b i k refl)
no_variable name h valid c (looks.Int z) s a b n j e = let f : Int z ≡ Var j = sym (s name ∙ term-Int name h valid z) ∙ e in absurd (cc)
no_variable name h valid c (looks.Atom x) s a b n j e = let f : Atom (name x) ≡ Var j = sym (s name ∙ term-Atom name h valid x) ∙ e in absurd (cc)
no_variable name h valid c (looks.Struct g args) s a b n j e =
    let k = compound_at h s.0 in
    let f : Comp (name k.name) (terms_by (term_of name h) k.args) ≡ Var j = sym (s.3 name ∙ term-Struct name h valid s.0) ∙ e in absurd (cc)

pub variable_member : (t : Term) (x : ℕ) → as_member t ≡ Ok (seen.Open x) → t ≡ Var x
variable_member (Var y) x e = let f : y ≡ x = cc in ap Var f
variable_member (Int z) x e = absurd (cc)
variable_member (Atom a) x e = absurd (cc)
variable_member (Comp f ts) x e = absurd (cc)

module _ (name : Naming) (s : State) (o : Order) (c : Cell) where
  abbrev h : Cells
  h = s.heaps.now

  abbrev sets : List (List ℕ)
  sets = s.levels.current.sets

  abbrev G : Family
  G = family_of sets

  -- as the labelling has them
  abbrev values : ℕ → List ℕ
  values d = values_by s.infinity (cell_set G ((fixed_held (held_of name h s.levels.current.posted) G).link d))

  kept_link : (xs : List ℕ) (k : ℕ) → 1 < length xs → held.open_link xs k ≡ Some k
  kept_link [] k l = absurd (omega (arith, l))
  kept_link (x ∷ []) k l = absurd (omega (arith, l))
  kept_link (x ∷ y ∷ ys) k l = refl

  values_linked : (i k : ℕ) → link_in h i ≡ Some k → 1 < length (G k) → (values i ≡ G k) × (values_of s i ≡ G k)
  values_linked i k e l = (
    ap (λ v. values_by s.infinity (cell_set G (link_at v G))) e ∙ ap (λ v. values_by s.infinity (cell_set G v)) (kept_link (G k) k l),
    ap (λ v. values_by s.infinity (cell_set G v)) e,
  )

  values_free : (i : ℕ) → link_in h i ≡ None → (values i ≡ universe s.infinity) × (values_of s i ≡ universe s.infinity)
  values_free i e = (ap (λ v. values_by s.infinity (cell_set G (link_at v G))) e, ap (λ v. values_by s.infinity (cell_set G v)) e)

  -- each open variable has as many values as its set
  counts : HaveCounts s.infinity h sets values
  counts = record { linked = λ i k e l. ap length (values_linked i k e l).0; free = λ i e. ap length (values_free i e).0 }

  same_values : (m : Member) (x : ℕ) → IsSeenMember h sets m (seen.Open x) → values x ≡ values_of s x
  same_values (member.Fixed z) x e = absurd (cc)
  same_values (member.Var k) x e =
      let f : e.0 ≡ x = let g = e.1 in cc in
      let v = values_linked e.0 k e.2 e.4 in
      subst (λ y. values y ≡ values_of s y) f (v.0 ∙ sym v.1)
  same_values member.Free x e =
      let f : e.0 ≡ x = let g = e.1 in cc in
      let v = values_free e.0 e.2 in
      subst (λ y. values y ≡ values_of s y) f (v.0 ∙ sym v.1)

  pub label_fault : (f : QueryFault) → read_list (seen_term name h (family_of sets) c) ≡ Err f → Labels name s o c (Fault f)
  label_fault f e = ap (by_listing o values) e

  pub label_done : IsFound s.infinity name h sets o c (Ok None) → Labels name s o c Done
  label_done f = ap (by_listing o values) f.1 ∙ ap (by_picked values) (f.2 values counts)

  module _ (t : Taken) (f : IsFound s.infinity name h sets o c (Ok (Some t))) where
    abbrev taken : IsTakenOf name h sets values o f.0 t
    taken = f.2 values counts

    -- the cell of what is taken is the heap's
    pub taken_own : IsOf h t.cell
    taken_own = taken.own

    pub label_takes : (i : ℕ) → IsVariableOf name h t.cell i → Labels name s o c (Takes i)
    label_takes i v =
        let x = taken.variable in
        let found = v x (unsettled h G (term_of name h t.cell) x (variable_member (seen_term name h (family_of sets) t.cell) x taken.at.0)) in
        let is : labelled_in name s o c ≡ labels x (values_of s x) =
        ap (by_listing o values) f.1 ∙ ap (by_picked values) taken.picked ∙ ap (labels x) (same_values taken.member x taken.at.1) in
        (subst (λ y. labelled_in name s o c ≡ labels y (values_of s y)) found.0 is, found.1, found.2)

-- ---- what was found by the branch's heaps and levels

pub found_by : (s : State) (n : ℕ) → n ≡ s.infinity → (hs : Heaps) (ls : Levels) → hs ≡ s.heaps → ls ≡ s.levels
    → (o : Order) (c : Cell) (r : Result (Option Taken) QueryFault) → ((name : Naming) → IsListNaming name → IsFound n name hs.now ls.current.sets o c r)
    → (x : Result (Option Taken) QueryFault) → r ≡ x → (name : Naming) → IsListNaming name → IsFound s.infinity name s.heaps.now s.levels.current.sets o c x
found_by s n m hs ls e f o c r found x g name names =
    subst (λ y. IsFound s.infinity name s.heaps.now s.levels.current.sets o c y) g
    (subst (λ k. IsFound k name s.heaps.now s.levels.current.sets o c r) m
    (subst (λ (l : Levels). IsFound n name s.heaps.now l.current.sets o c r) f (subst (λ (h : Heaps). IsFound n name h.now ls.current.sets o c r) e (found name names))))
