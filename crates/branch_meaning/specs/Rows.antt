-- Goals that post ranges, over cells: their rows, and how the ranges of a row are linked.
use Rattle.std.specs.Prelude.{◌≡◌, ℕ, suc, ◌+◌, true, false, ℤ, List, [], ◌∷◌, ◌++◌, length, map, Option, Some, None, ◌⊎◌, Result, Ok, Err}
use Rattle.fd_model.specs.declared.kinds.QueryFault.{QueryFault}
use Rattle.fd_model.specs.declared.kinds.QueryFault.TheVariants.{BadType}
use Rattle.fd_model.specs.declared.kinds.ConstraintKind.{ConstraintKind}
use Rattle.fd_language.specs.Term.{Term, Var, Int, Atom, Comp, Substitution}
use Rattle.fd_language.specs.Family.{has}
use Rattle.fd_language.specs.Range.{Range, Indexical}
use Rattle.fd_language.specs.Check.{fill_range}
use Rattle.fd_language.specs.Needs.{need_of}
use Rattle.fd_language.specs.Occurrences.{Occurrence, one_occurrence, range_occurrences}
use Rattle.fd_model.specs.Posting.{first_offence, integers_at, slot, integer_of}
use Rattle.fd_model.specs.ClosedFamilies.{constrained}
use Rattle.fd_language.specs.RangeRenaming.{rename_range, rename_indexical}
use Rattle.fd_model.specs.LinearRows.{Expansion}
use Rattle.fd_model.specs.ConstraintExpansion.{constrain}
use Rattle.branch_meaning.specs.HeldBranches.{HeldState}
use Rattle.branch_meaning.specs.Store.{names}

-- products, or variables equated with integers
abbrev pub rename_products : (ℕ → ℕ) → List (ℕ × ℤ) → List (ℕ × ℤ)
rename_products f [] = []
rename_products f (t ∷ ts) = (f t.0, t.1) ∷ rename_products f ts

abbrev pub rename_expansion : (ℕ → ℕ) → Expansion → Expansion
rename_expansion f x = record { equated = rename_products f x.equated; ranges = map (rename_indexical f) x.ranges; fresh = f x.fresh }

abbrev pub rename_row : (ℕ → ℕ) → Result Expansion QueryFault → Result Expansion QueryFault
rename_row f (Err e) = Err e
rename_row f (Ok x) = Ok (rename_expansion f x)

-- the row of a constraint on the term t over cells, by a heap, in the universe up to M: the fresh variables are the next cells
abbrev pub held_row : ℕ → HeldState → ConstraintKind → Term → Result Expansion QueryFault
held_row M f c t = constrain M f.heap c t f.cells

-- the fresh variables of a posted range, from n on, with their integers
abbrev pub slot_numbers : Substitution → ℕ → List ℕ → List (ℕ × ℤ)
slot_numbers look n [] = []
slot_numbers look n (x ∷ xs) = (n, integer_of (look x)) ∷ slot_numbers look (suc n) xs

abbrev pub unless_fault : Option QueryFault → Expansion → Result Expansion QueryFault
unless_fault (Some f) x = Err f
unless_fault None x = Ok x

-- x in r as a row, where n is the next fresh number, es are variables already equated, and ps are the occurrences looked at
abbrev pub post_row_at : Substitution → List Occurrence → ℕ → List (ℕ × ℤ) → ℕ → Range → Result Expansion QueryFault
post_row_at look ps x es n r =
    let ys = integers_at look ps [] in
    unless_fault (first_offence (need_of r) look ps)
    (record {
      equated = es ++ slot_numbers look n ys;
      ranges = record { target = slot n ys x; range = rename_range (slot n ys) (fill_range (λ y. integer_of (look y)) r) } ∷ [];
      fresh = n + length ys;
    })

-- what `T in r` posts, as a row
abbrev pub post_row : Substitution → Term → Range → ℕ → Result Expansion QueryFault
post_row look (Var v) r n = post_row_at look (one_occurrence v false ++ range_occurrences r) v [] n r
post_row look (Int z) r n = post_row_at look (range_occurrences r) n ((n, z) ∷ []) (suc n) r
post_row look (Atom a) r n = Err BadType
post_row look (Comp f ts) r n = Err BadType

-- What a store supplies for a range on cells: each cell that it names is linked now, g gives its variable of the store; older links stay, and new ones go to
-- variables that no posted range names.
pub record IsJoined (link : ℕ → Option ℕ) (qs : List Indexical) (p : Indexical) (g : ℕ → ℕ) (link' : ℕ → Option ℕ) : Type 0 where
  pub cell : (c : ℕ) → has (names p) c ≡ true → link' c ≡ Some (g c)
  pub keep : (c k : ℕ) → link c ≡ Some k → link' c ≡ Some k
  pub fresh : (c k : ℕ) → link' c ≡ Some k → (link c ≡ Some k) ⊎ ((has (names p) c ≡ true) × (has (constrained qs) k ≡ false))
  pub one : (c d k : ℕ) → link' c ≡ Some k → link' d ≡ Some k → c ≡ d

-- ranges on cells that are posted one after the other, the first of them first
abbrev pub AreJoined : (ℕ → Option ℕ) → List Indexical → List Indexical → (ℕ → Option ℕ) → List Indexical → Type 0
AreJoined link qs [] link' qs' = (link ≡ link') × (qs ≡ qs')
AreJoined link qs (p ∷ ps) link' qs' = (g : ℕ → ℕ) × (l : ℕ → Option ℕ) × IsJoined link qs p g l × AreJoined l (qs ++ rename_indexical g p ∷ []) ps link' qs'

-- the frame with the fresh variables' cells and the linked ranges of the row y
abbrev pub joined_held : HeldState → Expansion → (ℕ → Option ℕ) → List Indexical → HeldState
joined_held f y link' qs' = record { heap = f.heap; cells = y.fresh; link = link'; store = qs' }
