-- Variables of the heap that become variables of the store, one after the other.
use Rattle.std.proofs.Common.{◌≡◌, ℕ, suc, ◌+◌, ◌<◌, true, false, List, [], ◌∷◌, ◌++◌, length, take, get_or, Some, refl, ap, sym, ◌∙◌, subst, inl, inr, arith}
use Rattle.std.proofs.Common.{append-nil, append_assoc, eqb-true, ◌==◌}
use Rattle.std.proofs.lemmas.Bool.{cases_Bool, or_cases, true≢false}
use Rattle.std.proofs.lemmas.List.{take_more, nil_from_length}
use Rattle.std.proofs.lemmas.Option.{none-some}
use Rattle.branch_meaning.proofs.Lemmas.{same_var}
use Rattle.fd_language.specs.declared.TheConstants.{INFINITY}
use Rattle.fd_language.specs.Family.{has, universe}
use Rattle.fd_language.specs.Term.{Term, Var, Int, Atom, Comp}
use Rattle.fd_language.proofs.Lemmas.{has_either, in_left, only_member}
use Rattle.heap_cells.specs.declared.Cell.{Cell}
use Rattle.heap_cells.specs.declared.Cell.TheVariants as cell
use Rattle.heap_cells.specs.declared.Seen.{Seen}
use Rattle.heap_cells.specs.declared.Seen.TheVariants as seen
use Rattle.heap_cells.specs.Cells.{Cells, Compound, free, linked, is_bound, slot_at, with_slot}
use Rattle.heap_cells.specs.SeenCells.{IsSeen}
use Rattle.heap_cells.specs.Terms.{Naming, term_of, terms_by, Same}
use Rattle.heap_cells.specs.HeapInvariant.{IsHeap}
use Rattle.heap_cells.proofs.Lemmas.{unbound_term, term-Int, term-Atom, term-Struct}
use Rattle.branch_lemmas.specs.Frames.{link_of, link_in}
use Rattle.branch_state.specs.Constraints.{IsUnbound}
use Rattle.branch_state.specs.PostingLists.{LinksMore}
use Rattle.branch_state.specs.declared.cell_looks.Look.{Look}
use Rattle.branch_state.specs.declared.cell_looks.Look.TheVariants.{Open, Linked}
use Rattle.branch_state.specs.StoreVariables.{LooksAs, integers, IsNaming, NameStep, OwnLinks}
use Rattle.branch_state.proofs.ConstraintHeaps.{unbound_kept}
use Rattle.branch_state.proofs.StoreVariables.{naming_start, naming_next}

no_name : Naming
no_name a = []

-- no variable is an integer
no_integers : (xs : List ℕ) → integers Var xs ≡ []
no_integers [] = refl
no_integers (x ∷ xs) = no_integers xs

-- a number above all of a list
above : List ℕ → ℕ
above [] = 0
above (x ∷ xs) = suc x + above xs

below_all : (xs : List ℕ) (z : ℕ) → has xs z ≡ true → z < above xs
unfolding above
below_all [] z e = absurd (true≢false (sym e))
below_all (x ∷ xs) z e = elim (or_cases (x == z) (has xs z) e) [
  | inl i ↦ (let f = eqb-true x z i in omega (arith, f))
  | inr i ↦ (let l = below_all xs z i in omega (arith, l))
]

module _ (h : Cells) (sets : List (List ℕ)) (xs : List ℕ) (now : Cells) (S : List (List ℕ)) (w : IsNaming Var h sets xs now S [] []) (x : ℕ) where
  abbrev Next : Cells → List (List ℕ) → Type 0
  Next now' S' = IsNaming Var h sets (xs ++ x ∷ []) now' S' [] []

  -- one that is named already
  again : has xs x ≡ true → Next now S
  again i = record {
    more = w.more;
    links = w.links;
    atoms = w.atoms;
    listed = λ c j l. (let t = w.listed c j l in (t.0, in_left xs (x ∷ []) t.0 t.1, t.2, t.3));
    below = w.below;
    longer = w.longer;
    same = w.same;
    named = λ z c l e. elim (has_either xs (x ∷ []) z l) [
      | inl a ↦ w.named z c a e
      | inr a ↦ w.named z c (subst (λ y. has xs y ≡ true) (only_member x z a) i) e
    ];
    count = ap length (sym (no_integers (xs ++ x ∷ [])));
    told = refl;
    fresh = λ k e. absurd (true≢false (sym e));
    apart = tt;
  }

  -- one that isn't
  named_now : has xs x ≡ false → (l : Look) → LooksAs now (Var x) l → (now' : Cells) (S' : List (List ℕ)) (k : ℕ) → NameStep l now S [] now' S' [] k → Next now' S'
  named_now new_one l looks now' S' k step =
      let t = naming_next Var (above (xs ++ x ∷ [])) h sets xs now S [] [] w x new_one (λ z i e. below_all (xs ++ x ∷ []) z i) l looks now' S' [] k step in
      subst (λ ks. IsNaming Var h sets (xs ++ x ∷ []) now' S' ks []) (nil_from_length t.ks' (t.naming.count ∙ ap length (no_integers (xs ++ x ∷ [])))) t.naming

  -- an open one
  pub open_named : (i : ℕ) → x ≡ i → i < length now.slots → slot_at now i ≡ free → (now' : Cells) (S' : List (List ℕ))
      → now' ≡ with_slot now i (linked (length S)) → S' ≡ S ++ universe INFINITY ∷ [] → Next now' S'
  open_named i same own e now' S' f g = elim (cases_Bool (has xs x)) [
    | inl a ↦ absurd (let k = w.named x x a refl in none-some k.0 (sym (ap link_of (ap (slot_at now) same ∙ e)) ∙ k.1))
    | inr a ↦ named_now a (Open i) (ap Var same, own, e) now' S' (length S) (refl, f, g, refl)
  ]

  -- a linked one
  pub linked_named : (i k : ℕ) → x ≡ i → slot_at now i ≡ linked k → Next now S
  linked_named i k same e = elim (cases_Bool (has xs x)) [
    | inl a ↦ again a
    | inr a ↦ named_now a (Linked k) (i, ap Var same, ap link_of e) now S k (refl, refl, refl, refl)
  ]

-- what an unbound variable is seen as
module _ (h : Cells) (valid : IsHeap h) (x : ℕ) (u : IsUnbound h x) where
  pub seen_var : (i : ℕ) → is_bound (slot_at h i) ≡ false → Same h (cell.Ref x) (cell.Ref i) → x ≡ i
  seen_var i e s = same_var x i (sym (u.term no_name) ∙ s no_name ∙ unbound_term no_name h valid i e)

  seen_else : (c : Cell) (t : Term) → term_of no_name h c ≡ t → ((y : ℕ) → t ≡ Var y → ⊥) → Same h (cell.Ref x) c → ⊥
  seen_else c t e other s = other x (sym e ∙ sym (s no_name) ∙ u.term no_name)

  pub seen_linked : (v : Seen) → IsSeen h (cell.Ref x) v → ((i : ℕ) → v ≡ seen.Open i → ⊥) → (i : ℕ) × (k : ℕ) × (x ≡ i) × (slot_at h i ≡ linked k)
  seen_linked (seen.Open i) s open_not = absurd (open_not i refl)
  seen_linked (seen.Constrained i k) s open_not = (i, k, seen_var i (ap is_bound s.1) s.2, s.1)
  seen_linked (seen.Int z) s open_not = absurd (seen_else (cell.Int z) (Int z) (term-Int no_name h valid z) (λ y e. (cc)) s)
  seen_linked (seen.Atom a) s open_not = absurd (seen_else (cell.Atom a) (Atom (no_name a)) (term-Atom no_name h valid a) (λ y e. (cc)) s)
  seen_linked (seen.Struct f args) s open_not =
      absurd (seen_else (cell.Struct s.0) (Comp (no_name f) (terms_by (term_of no_name h) args.now))
      (term-Struct no_name h valid s.0 ∙ ap (λ (k : Compound). Comp (no_name k.name) (terms_by (term_of no_name h) k.args)) s.2) (λ y e. (cc)) s.3)

-- ---- a list of them

module _ (h : Cells) (sets : List (List ℕ)) where
  pub links_none : LinksMore h sets [] h sets
  links_none first before ys w = subst (λ zs. IsNaming Var first before zs h sets [] []) (sym (append-nil ys)) w

  pub links_both : (xs ys : List ℕ) (middle now : Cells) (S T : List (List ℕ)) → LinksMore h sets xs middle S → LinksMore middle S ys now T → LinksMore h sets (xs ++ ys) now T
  links_both xs ys middle now S T a b first before zs w = subst (λ l. IsNaming Var first before l now T [] []) (append_assoc zs xs ys) (b first before (zs ++ xs) (a first before zs w))

  pub links_step : (xs : List ℕ) (i d : ℕ) → i < length xs → (middle : Cells) (S : List (List ℕ)) (now : Cells) (T : List (List ℕ))
      → LinksMore h sets (take i xs) middle S → LinksMore middle S (get_or xs i d ∷ []) now T → LinksMore h sets (take (i + 1) xs) now T
  links_step xs i d l middle S now T a b = subst (λ ys. LinksMore h sets ys now T) (sym (take_more xs i d l)) (links_both (take i xs) (get_or xs i d ∷ []) middle now S T a b)

  module _ (own : OwnLinks (length sets) h) (xs : List ℕ) (now : Cells) (S : List (List ℕ)) (more : LinksMore h sets xs now S) where
    pub links_named : IsNaming Var h sets xs now S [] []
    links_named = more h sets [] (naming_start Var h sets own)

    pub links_own : OwnLinks (length S) now
    links_own = let w = links_named in record { valid = w.links.valid; below = w.below; one = w.links.one }

    pub links_unbound : (x : ℕ) → IsUnbound h x → IsUnbound now x
    links_unbound x u = let w = links_named in unbound_kept h now (let e = w.links.size in omega (arith, e)) w.links.terms x u

    -- a variable that was linked stays so
    pub links_keep : (x k : ℕ) → link_in h x ≡ Some k → link_in now x ≡ Some k
    links_keep x k e = links_named.links.keep x k e
