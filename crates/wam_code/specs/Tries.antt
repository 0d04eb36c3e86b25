-- What a place before a clause stands for: clauses in text order, of which those may be left out whose first argument clashes with the goal's.
use Rattle.std.specs.Prelude.{◌≡◌, ◌≢◌, ◌⊎◌, ℕ, zero, suc, ◌+◌, ◌<◌, ◌≤◌, ℤ, true, false, List, [], ◌∷◌, ◌++◌, map, length, Some}
use Rattle.fd_language.specs.Term.{Name, Term, Terms, Var, Int, Atom, Comp, no_terms, term, apply_all, term_count}
use Rattle.fd_model.specs.Goal.{Goal, Clause, Query, Program, marked_all}
use Rattle.fd_model.specs.Children.{paired, fits_head}
use Rattle.fd_model.specs.ConstraintExpansion.{arguments}
use Rattle.fd_model.specs.Renaming.{rename_goal}
use Rattle.branch_meaning.specs.Heap.{AllOf}
use Rattle.wam_code.specs.declared.instruction.Key.{Key}
use Rattle.wam_code.specs.declared.instruction.Key.TheVariants as key
use Rattle.wam_code.specs.declared.instruction.Code.{Code}
use Rattle.wam_code.specs.declared.instruction.Code.TheVariants.{Jump, FailNow, TryMeElse, RetryMeElse, TrustMe, Try, Retry, Trust, SwitchOnTerm}
use Rattle.wam_code.specs.declared.instruction.Code.TheVariants.{SwitchOnConstant, SwitchOnInteger, SwitchOnStructure}
use Rattle.wam_code.specs.declared.parts.Entry.{Entry}
use Rattle.wam_code.specs.Area.{Area, Span, Table, Holds, HasEntry, name_of, table_at}
use Rattle.wam_code.specs.Places.{Depth, no_depth, Places, Hold, made}
use Rattle.wam_code.specs.CodeMeaning.{Means}

-- ---- what the first argument shows

-- An open variable is open whether or not it is constrained.
pub data Shape : Type 0 where
  is_open : Shape
  is_atom : Name → Shape
  is_integer : ℤ → Shape
  is_structure : Name → ℕ → Shape

abbrev pub shape_of : Term → Shape
shape_of (Var c) = is_open
shape_of (Int z) = is_integer z
shape_of (Atom a) = is_atom a
shape_of (Comp f ts) = is_structure f (term_count ts)

-- no term of this shape is made equal to the other one, whatever its variables are
abbrev pub Clash : Shape → Term → Type 0
Clash s (Var x) = ⊥
Clash is_open t = ⊥
Clash (is_atom a) (Int z) = Unit {0}
Clash (is_atom a) (Atom b) = a ≢ b
Clash (is_atom a) (Comp f ts) = Unit {0}
Clash (is_integer y) (Int z) = y ≢ z
Clash (is_integer y) (Atom b) = Unit {0}
Clash (is_integer y) (Comp f ts) = Unit {0}
Clash (is_structure f n) (Int z) = Unit {0}
Clash (is_structure f n) (Atom b) = Unit {0}
Clash (is_structure f n) (Comp g ts) = (f ≢ g) ⊎ (n ≢ term_count ts)

abbrev pub ClashFirst : Shape → Terms → Type 0
ClashFirst s no_terms = ⊥
ClashFirst s (term t ts) = Clash s t

-- a clause that the goal t needn't try: of another name or arity, or its first argument clashes
abbrev pub IsNeedless : Shape → Term → Clause → Type 0
IsNeedless s t c = (fits_head t c.head ≡ false) ⊎ ClashFirst s (arguments c.head)

-- the clauses in their order that fit the goal, without some that it needn't try
abbrev pub Thinned : Shape → Term → List Clause → List Clause → Type 0
Thinned s t [] ds = ds ≡ []
Thinned s t (c ∷ cs) [] = IsNeedless s t c × Thinned s t cs []
Thinned s t (c ∷ cs) (d ∷ ds) = ((d ≡ c) × (fits_head t c.head ≡ true) × Thinned s t cs ds) ⊎ (IsNeedless s t c × Thinned s t cs (d ∷ ds))

-- ---- clauses

-- Before a clause or a query: the variables below n are known, and those of the clause come next.
pub record IsBefore (p : Places) (n variables : ℕ) : Type 0 where
  pub known : (i : ℕ) → i < n → p.known i ≡ true
  pub fresh : (i : ℕ) → n ≤ i → p.known i ≡ false
  pub own : p.own ≡ n + variables
  pub top : p.top ≡ n + variables

-- From this place a clause's equations and goals follow, whatever the next fresh number, the arguments with variables below it, the depth that was noted, which
-- the cuts keep, and the caller are.
abbrev pub IsClause : Area → ℕ → Clause → Type 0
IsClause area at c =
    (n : ℕ) (as' : Terms) (d : Depth) (after : List Goal) (shown : List ℕ) (p : Places) → term_count as' ≡ term_count (arguments c.head)
    → AllOf (λ v. v < n) as' → Hold p 1 as' → p.noted ≡ Some d → IsBefore p n c.variables
    → Means area (record { goals = after; shown = shown }) at p (paired as' (apply_all (λ x. Var (n + x)) (arguments c.head))) (marked_all d.branches (map (rename_goal (λ x. n + x)) c.body) ++ after)

-- ---- choices and switches

abbrev pub by_shape : Shape → ℕ → ℕ → ℕ → ℕ → ℕ
by_shape is_open v c i s = v
by_shape (is_atom a) v c i s = c
by_shape (is_integer z) v c i s = i
by_shape (is_structure f n) v c i s = s

-- the key is the shape
abbrev pub IsShape : Area → Key → Shape → Type 0
IsShape area (key.Atom c) (is_atom a) = name_of area c ≡ a
IsShape area (key.Int z) (is_integer y) = z ≡ y
IsShape area (key.Struct c n) (is_structure f m) = (name_of area c ≡ f) × (n ≡ m)
IsShape area _ _ = ⊥

-- the first row with the shape's key decides, and where there is none, no clause is tried
abbrev pub Rows : Area → (ℕ → List Clause → Type 0) → Shape → Table → List Clause → Type 0
Rows area rest s [] cs = cs ≡ []
Rows area rest s (row ∷ rows) cs = (IsShape area row.0 s × rest row.1 cs) ⊎ ((IsShape area row.0 s → ⊥) × Rows area rest s rows cs)

-- the clauses of the one place come before those of the other
abbrev pub Both : (ℕ → List Clause → Type 0) → ℕ → ℕ → List Clause → Type 0
Both rest first other cs = (xs : List Clause) × (ys : List Clause) × (cs ≡ xs ++ ys) × rest first xs × rest other ys

abbrev pub TryRule : Area → (ℕ → List Clause → Type 0) → Shape → Code → ℕ → List Clause → Type 0
TryRule area rest s (TryMeElse to) at cs = Both rest (suc at) to cs
TryRule area rest s (RetryMeElse to) at cs = Both rest (suc at) to cs
TryRule area rest s TrustMe at cs = rest (suc at) cs
TryRule area rest s (Try to) at cs = Both rest to (suc at) cs
TryRule area rest s (Retry to) at cs = Both rest to (suc at) cs
TryRule area rest s (Trust to) at cs = rest to cs
TryRule area rest s (Jump to) at cs = rest to cs
TryRule area rest s FailNow at cs = cs ≡ []
TryRule area rest s (SwitchOnTerm v c i t) at cs = rest (by_shape s v c i t) cs
TryRule area rest s (SwitchOnConstant t) at cs = Rows area rest s (table_at area t) cs
TryRule area rest s (SwitchOnInteger t) at cs = Rows area rest s (table_at area t) cs
TryRule area rest s (SwitchOnStructure t) at cs = Rows area rest s (table_at area t) cs
-- and any other instruction is the first one of a clause
TryRule area rest s _ at cs = (c : Clause) × IsClause area at c × (cs ≡ c ∷ [])

-- with a bound on the steps up to a clause
abbrev pub TriesWithin : Area → Shape → ℕ → ℕ → List Clause → Type 0
TriesWithin area s zero at cs = ⊥
TriesWithin area s (suc n) at cs = (i : Code) × Holds area at i × TryRule area (TriesWithin area s n) s i at cs

-- The place stands for these clauses, for a goal whose first argument has this shape.
abbrev pub Tries : Area → Shape → ℕ → List Clause → Type 0
Tries area s at cs = (n : ℕ) × TriesWithin area s n at cs

-- ---- programs

-- a goal of this predicate tries its clauses, but for some that it needn't try
abbrev pub IsPredicate : Area → Program → Entry → Type 0
IsPredicate area prog e = (ts : Terms) (s : Shape) → term_count ts ≡ e.arity → (cs : List Clause) × Thinned s (made (name_of area e.name) ts) prog.clauses cs × Tries area s e.at cs

-- The query's names and goals follow, with none behind them. Its cuts keep no other branch.
pub record IsQueryCode (area : Area) (q : Query) (c : Span) : Type 0 where
  pub names : map (name_of area) c.names ≡ q.names
  pub shown : length q.names ≡ length q.shown
  pub means : (p : Places) → p.noted ≡ Some no_depth → IsBefore p 0 q.variables → Means area (record { goals = []; shown = q.shown }) c.at p [] (marked_all 0 q.goals)

abbrev pub AreQueries : Area → List Query → List Span → Type 0
AreQueries area [] [] = Unit {0}
AreQueries area [] (c ∷ cs) = ⊥
AreQueries area (q ∷ qs) [] = ⊥
AreQueries area (q ∷ qs) (c ∷ cs) = IsQueryCode area q c × AreQueries area qs cs

-- The code stands for the program.
pub record StandsForProgram (area : Area) (prog : Program) : Type 0 where
  pub predicates : (n : ℕ) (e : Entry) → HasEntry area n e → IsPredicate area prog e
  pub queries : AreQueries area prog.queries area.queries
