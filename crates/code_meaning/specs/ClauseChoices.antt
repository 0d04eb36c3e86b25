-- What a machine stands for before a clause, where it chooses among those that are to be tried.
use Rattle.std.specs.Prelude.{◌≡◌, ◌⊎◌, ℕ, List, [], ◌∷◌, ◌++◌, map, Option, Some, None}
use Rattle.fd_language.specs.Range.{Indexical}
use Rattle.fd_model.specs.Children.{by_clause}
use Rattle.fd_model.specs.Goal.{Clause, Branch}
use Rattle.fd_model.specs.RunnablePrograms.{ClausesScoped}
use Rattle.heap_cells.specs.declared.Cell.{Cell}
use Rattle.heap_cells.specs.Cells.{Cells}
use Rattle.heap_cells.specs.Terms.{Naming, term_of}
use Rattle.branch_lemmas.specs.FittingClauses.{AllFit}
use Rattle.wam_code.specs.declared.instruction.Code.{Code}
use Rattle.wam_code.specs.declared.instruction.Code.TheVariants.{Jump, FailNow, TryMeElse, RetryMeElse, TrustMe, Try, Retry, Trust, SwitchOnTerm}
use Rattle.wam_code.specs.declared.instruction.Code.TheVariants.{SwitchOnConstant, SwitchOnInteger, SwitchOnStructure}
use Rattle.wam_code.specs.declared.parts.Entry.{Entry}
use Rattle.wam_code.specs.Area.{Area, Table, name_of}
use Rattle.wam_code.specs.Places.{Depth, made}
use Rattle.wam_code.specs.Tries.{Shape, is_open, shape_of, IsShape, Tries}
use Rattle.code_meaning.specs.Registers.{Registers, Saved}
use Rattle.code_meaning.specs.StateMeaning.{IsCalling}

-- what a register shows: nothing where it holds no cell
abbrev pub shape_in : Naming → Cells → Option Cell → Shape
shape_in name h None = is_open
shape_in name h (Some d) = shape_of (term_of name h d)

-- What the first argument's register shows. Of a goal without arguments it is never asked, whatever the register holds.
abbrev pub ShowsFirst : Naming → Cells → (ℕ → Option Cell) → Shape → Type 0
ShowsFirst name h cells s = s ≡ shape_in name h (cells 1)

-- At this place the branch b's goal, which is called, is to try clauses. Their branches are kids: the cuts of each keep what the depth counts that the call has
-- noted.
pub record IsTrying (M N : ℕ) (marks : List ℕ) (area : Area) (shown : List ℕ) (name : Naming) (h : Cells) (qs : List Indexical) (at : ℕ) (e : Entry)
    (c : Registers) (stack : List Saved) (b : Branch) (kids : List Branch) : Type 0 where
  pub noted : Depth
  pub calling : IsCalling M N marks noted area shown name h qs e c stack b
  pub shape : Shape
  pub shows : ShowsFirst name h c.x shape
  pub clauses : List Clause
  pub tries : Tries area shape at clauses
  pub fit : AllFit (made (name_of area e.name) calling.ts) clauses
  pub scoped : ClausesScoped clauses
  pub kids_are : kids ≡ map (by_clause noted.branches b (made (name_of area e.name) calling.ts) calling.rest) clauses

-- The clauses of two places: those of the one come first.
pub record TriesBoth (M N : ℕ) (marks : List ℕ) (area : Area) (shown : List ℕ) (name : Naming) (h : Cells) (qs : List Indexical) (first other : ℕ) (e : Entry)
    (c : Registers) (stack : List Saved) (b : Branch) (kids : List Branch) : Type 0 where
  pub before : List Branch
  pub behind : List Branch
  pub now : IsTrying M N marks area shown name h qs first e c stack b before
  pub later : IsTrying M N marks area shown name h qs other e c stack b behind
  pub both : kids ≡ before ++ behind

-- no row has the shape's key
abbrev pub HasNoRow : Area → Shape → Table → Type 0
HasNoRow area s [] = Unit {0}
HasNoRow area s (row ∷ rows) = (IsShape area row.0 s → ⊥) × HasNoRow area s rows

-- the first row with the shape's key has this place
abbrev pub HasRow : Area → Shape → Table → ℕ → Type 0
HasRow area s [] to = ⊥
HasRow area s (row ∷ rows) to = (IsShape area row.0 s × (row.1 ≡ to)) ⊎ ((IsShape area row.0 s → ⊥) × HasRow area s rows to)

-- neither a choice nor a switch
abbrev pub IsFirst : Code → Type 0
IsFirst (TryMeElse to) = ⊥
IsFirst (RetryMeElse to) = ⊥
IsFirst TrustMe = ⊥
IsFirst (Try to) = ⊥
IsFirst (Retry to) = ⊥
IsFirst (Trust to) = ⊥
IsFirst (Jump to) = ⊥
IsFirst FailNow = ⊥
IsFirst (SwitchOnTerm v k i s) = ⊥
IsFirst (SwitchOnConstant n) = ⊥
IsFirst (SwitchOnInteger n) = ⊥
IsFirst (SwitchOnStructure n) = ⊥
IsFirst _ = Unit {0}

-- a choice or a switch, but for a jump
abbrev pub IsChoice : Code → Type 0
IsChoice (TryMeElse to) = Unit {0}
IsChoice (RetryMeElse to) = Unit {0}
IsChoice TrustMe = Unit {0}
IsChoice (Try to) = Unit {0}
IsChoice (Retry to) = Unit {0}
IsChoice (Trust to) = Unit {0}
IsChoice FailNow = Unit {0}
IsChoice (SwitchOnTerm v k i s) = Unit {0}
IsChoice (SwitchOnConstant n) = Unit {0}
IsChoice (SwitchOnInteger n) = Unit {0}
IsChoice (SwitchOnStructure n) = Unit {0}
IsChoice _ = ⊥
