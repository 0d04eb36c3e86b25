-- The steps of the walk that reads a cell back, over a list of tasks and a list of terms, the next and the newest last.
use Rattle.std.specs.Prelude.{◌≡◌, ℕ, ◌-◌, ◌<◌, ◌≤◌, ◌⊎◌, Some, List, [], ◌∷◌, ◌++◌, length, take, drop, map, reverse, All}
use Rattle.fd_language.specs.Term.{Name, Term, Comp}
use Rattle.term_pool.specs.declared.AtomId.{AtomId}
use Rattle.term_pool.specs.declared.TermId.{TermId}
use Rattle.term_pool.specs.Contents.{Contents, name_in, place_at}
use Rattle.term_pool.specs.Terms.{term_of as pool_term, terms_by as pool_terms}
use Rattle.heap_cells.specs.declared.Cell.{Cell}
use Rattle.heap_cells.specs.Cells.{Cells, IsOf}
use Rattle.heap_cells.specs.Terms.{terms_by}
use Rattle.heap_cells.specs.Atoms.{IsAtomBelow}
use Rattle.heap_cells.specs.SeenTerms.{seen_term}
use Rattle.domain_ranges.specs.Views.{family_of}
use Rattle.heap_terms.specs.declared.ReadTask.{ReadTask}
use Rattle.heap_terms.specs.declared.ReadTask.TheVariants.{Visit, Make}
use Rattle.heap_terms.specs.Tasks.{Task, visit, make}

-- the new terms have the place 0
abbrev pub PlacesAtZero : Contents → Contents → Type 0
PlacesAtZero old new = (t : TermId) → length old.entries ≤ t.number → t.number < length new.entries → place_at new t ≡ Some 0

-- a cell can be looked at, and an atom of the pool named
abbrev pub CanRead : List Name → Cells → ReadTask → Type 0
CanRead names h (Visit c) = IsOf h c × IsAtomBelow (length names) c
CanRead names h (Make f n) = f.number < length names

-- the term is a new result
abbrev pub AddsTerm : Term → List TermId → Contents → List TermId → Type 0
AddsTerm x ds p es = (t : TermId) × (t.number < length p.entries) × (pool_term p t ≡ x) × (es ≡ ds ++ t ∷ [])

-- a cell becomes its term, or the visits of its arguments and a task that makes it
abbrev pub VisitsLeaf : List Name → Cells → List (List ℕ) → Cell → List ReadTask → List TermId → Contents → List ReadTask → List TermId → Type 0
VisitsLeaf names h sets c ks ds p ms es = (ms ≡ ks) × AddsTerm (seen_term (name_in names) h (family_of sets) c) ds p es

abbrev pub VisitsCompound : List Name → Cells → List (List ℕ) → Cell → List ReadTask → List TermId → List ReadTask → List TermId → Type 0
VisitsCompound names h sets c ks ds ms es = (f : AtomId) × (args : List Cell)
    × (seen_term (name_in names) h (family_of sets) c ≡ Comp (name_in names f) (terms_by (seen_term (name_in names) h (family_of sets)) args))
    × (f.number < length names) × All (IsOf h) args × All (IsAtomBelow (length names)) args
    × (ms ≡ (ks ++ Make f (length args) ∷ []) ++ reverse (map Visit args)) × (es ≡ ds)

abbrev pub VisitsCell : List Name → Cells → List (List ℕ) → Cell → List ReadTask → List TermId → Contents → List ReadTask → List TermId → Type 0
VisitsCell names h sets c ks ds p ms es = VisitsLeaf names h sets c ks ds p ms es ⊎ VisitsCompound names h sets c ks ds ms es

-- the last terms become the parts of a new compound term
abbrev pub MakesTerm : List Name → AtomId → ℕ → Contents → List TermId → Contents → List TermId → Type 0
MakesTerm names f n p ds q es = AddsTerm (Comp (name_in names f) (pool_terms (pool_term p) (drop (length ds - n) ds))) (take (length ds - n) ds) q es

abbrev pub task_of : List Name → Cells → List (List ℕ) → ReadTask → Task
task_of names h sets (Visit c) = visit (seen_term (name_in names) h (family_of sets) c)
task_of names h sets (Make f n) = make (name_in names f) n
