-- The choices of a predicate, chosen by the first argument.
use Rattle.std.specs.Prelude.{◌≡◌, ◌⊎◌, ℕ, suc, ◌+◌, ◌<◌, true, false, List, [], ◌∷◌, ◌++◌, map, length, slice_get, Some}
use Rattle.clause_check.specs.Programs.{FlatProgram}
use Rattle.wam_code.specs.declared.instruction.Code.{Code}
use Rattle.wam_code.specs.declared.instruction.Code.TheVariants.{SwitchOnTerm, SwitchOnConstant, SwitchOnInteger, SwitchOnStructure}
use Rattle.wam_code.specs.declared.instruction.Key.{Key}
use Rattle.wam_code.specs.Area.{Table}
use Rattle.wam_code.specs.Keys.{Rises}
use Rattle.clause_code.specs.ClauseChoices.{list_of}
use Rattle.clause_compiler.specs.declared.keys.Kind.{Kind}
use Rattle.clause_compiler.specs.declared.keys.Kind.TheVariants as kind
use Rattle.clause_compiler.specs.Keys.{key_of, kind_numbers, is_switched, is_tabled}
use Rattle.clause_compiler.specs.ClauseKeys.{key_numbers}
use Rattle.clause_compiler.specs.Layout.{joined, offset}

-- what choices are made of: the choices of a list of clauses, by their numbers, and switches
pub data Segment : Type 0 where
  listing : List ℕ → Segment
  switch : Code → Segment

abbrev pub segment_code : Segment → List Code
segment_code (listing ns) = list_of ns
segment_code (switch i) = i ∷ []

abbrev pub code_of : List Segment → List Code
code_of ss = joined (map segment_code ss)

-- the place of the segment with a number, where the first one begins at `at`
abbrev pub place_of : ℕ → List Segment → ℕ → ℕ
place_of at ss k = at + offset (map segment_code ss) k

-- the place is that of the choices of these clauses, behind the segment j
abbrev pub LeadsTo : ℕ → List Segment → ℕ → ℕ → List ℕ → Type 0
LeadsTo at ss j to ns = (k : ℕ) × (j < k) × (to ≡ place_of at ss k) × (slice_get ss k ≡ Some (listing ns))

-- each of the first is one of the second
abbrev pub AreAmong : List ℕ → List ℕ → Type 0
AreAmong ms ns = (k n : ℕ) → slice_get ms k ≡ Some n → (j : ℕ) × (slice_get ns j ≡ Some n)

abbrev pub switch_on : Kind → ℕ → Code
switch_on kind.Atom t = SwitchOnConstant t
switch_on kind.Integer t = SwitchOnInteger t
switch_on kind.Structure t = SwitchOnStructure t

-- The segment j is a switch by this table among these clauses: each row leads to the clauses with its key, each clause has a key with a row, and the keys rise.
pub record IsTableOf (p : FlatProgram) (table : Table) (ns : List ℕ) (at : ℕ) (ss : List Segment) (j : ℕ) : Type 0 where
  pub rows : (r : ℕ) (x : Key) (to : ℕ) → slice_get table r ≡ Some (x, to) → LeadsTo at ss j to (key_numbers p x ns)
  pub own : (r : ℕ) (x : Key) (to : ℕ) → slice_get table r ≡ Some (x, to) → (i : ℕ) × (n : ℕ) × (slice_get ns i ≡ Some n) × (key_of p n ≡ Some x)
  pub each : (i n : ℕ) → slice_get ns i ≡ Some n → (r : ℕ) × (x : Key) × (to : ℕ) × (slice_get table r ≡ Some (x, to)) × (key_of p n ≡ Some x)
  pub rising : Rises table

-- the switch at the segment j is by a table among the clauses that may fit the kind
pub record IsKeySwitch (p : FlatProgram) (tables : List Table) (k : Kind) (ns : List ℕ) (at : ℕ) (ss : List Segment) (j : ℕ) (i : Code) : Type 0 where
  pub number : ℕ
  pub table : Table
  pub code : i ≡ switch_on k number
  pub there : slice_get tables number ≡ Some table
  pub keys : IsTableOf p table (kind_numbers p k ns) at ss j

pub record SwitchesTo (p : FlatProgram) (tables : List Table) (k : Kind) (ns : List ℕ) (at : ℕ) (ss : List Segment) (to : ℕ) : Type 0 where
  pub j : ℕ
  pub i : Code
  pub later : 0 < j
  pub place : to ≡ place_of at ss j
  pub segment : slice_get ss j ≡ Some (switch i)
  pub key_switch : IsKeySwitch p tables k ns at ss j i

-- the place chooses among the clauses that may fit the kind by the key, where that tells them apart, and else tries them all
abbrev pub KindAt : FlatProgram → List Table → Kind → List ℕ → ℕ → List Segment → ℕ → Type 0
KindAt p tables k ns at ss to = ((is_tabled p (kind_numbers p k ns) ≡ false) × LeadsTo at ss 0 to (kind_numbers p k ns))
    ⊎ ((is_tabled p (kind_numbers p k ns) ≡ true) × SwitchesTo p tables k ns at ss to)

-- a segment behind the first one
abbrev pub IsBehind : FlatProgram → List Table → List ℕ → ℕ → List Segment → ℕ → Segment → Type 0
IsBehind p tables ns at ss j (listing ms) = AreAmong ms ns
IsBehind p tables ns at ss j (switch i) = (k : Kind) × IsKeySwitch p tables k ns at ss j i

-- A variable leads to all of the clauses, and each kind of first argument to those that may fit it.
pub record IsSwitching (p : FlatProgram) (tables : List Table) (ns : List ℕ) (at : ℕ) (ss : List Segment) : Type 0 where
  pub v : ℕ
  pub c : ℕ
  pub i : ℕ
  pub s : ℕ
  pub first : slice_get ss 0 ≡ Some (switch (SwitchOnTerm v c i s))
  pub all : LeadsTo at ss 0 v ns
  pub atoms : KindAt p tables kind.Atom ns at ss c
  pub integers : KindAt p tables kind.Integer ns at ss i
  pub structures : KindAt p tables kind.Structure ns at ss s
  pub others : (k : ℕ) (x : Segment) → slice_get ss (suc k) ≡ Some x → IsBehind p tables ns at ss (suc k) x

abbrev pub IsSwitchCode : FlatProgram → List Table → List ℕ → ℕ → List Code → Type 0
IsSwitchCode p tables ns at is = (ss : List Segment) × (is ≡ code_of ss) × IsSwitching p tables ns at ss

-- the choices of a predicate with so many arguments: its clauses chosen by the first argument, where that tells them apart, and else in a list
abbrev pub AreChoicesBy : FlatProgram → List Table → List ℕ → ℕ → ℕ → List Code → Type 0
AreChoicesBy p tables ns arity at is = ((is_switched p arity ns ≡ false) × (is ≡ list_of ns)) ⊎ ((is_switched p arity ns ≡ true) × IsSwitchCode p tables ns at is)

-- each key of the tables is one of these clauses'
abbrev pub AreKeysAmong : FlatProgram → List ℕ → List Table → Type 0
AreKeysAmong p ns tables = (t : ℕ) (table : Table) → slice_get tables t ≡ Some table → (r : ℕ) (x : Key) (to : ℕ) → slice_get table r ≡ Some (x, to)
    → (i : ℕ) × (n : ℕ) × (slice_get ns i ≡ Some n) × (key_of p n ≡ Some x)

-- each key of the tables is that of a clause
abbrev pub AreKeysIn : FlatProgram → List Table → Type 0
AreKeysIn p tables = (t : ℕ) (table : Table) → slice_get tables t ≡ Some table → (r : ℕ) (x : Key) (to : ℕ) → slice_get table r ≡ Some (x, to)
    → (n : ℕ) × (n < length p.clauses) × (key_of p n ≡ Some x)

-- the keys of each table rise
abbrev pub AreRising : List Table → Type 0
AreRising tables = (t : ℕ) (table : Table) → slice_get tables t ≡ Some table → Rises table

-- more tables behind the old ones, with keys of these clauses, which rise
abbrev pub TablesGrow : FlatProgram → List ℕ → List Table → List Table → Type 0
TablesGrow p ns old new = (more : List Table) × (new ≡ old ++ more) × AreKeysAmong p ns more × AreRising more

-- what the choices of a kind are, behind the segments before them
pub record AreKindPut (p : FlatProgram) (tables : List Table) (k : Kind) (ns : List ℕ) (at : ℕ) (ss : List Segment) (to : ℕ) (more : List Segment) : Type 0 where
  pub kind_at : KindAt p tables k ns at (ss ++ more) to
  pub behind : (j : ℕ) (x : Segment) → slice_get more j ≡ Some x → IsBehind p tables ns at (ss ++ more) (length ss + j) x

abbrev pub PutsKind : FlatProgram → List Table → Kind → List ℕ → List Code → List Code → Type 0
PutsKind p tables k ns old new = (ss : List Segment) (at : ℕ) → length old ≡ at + length (code_of ss) → 0 < length ss
    → (more : List Segment) × (new ≡ old ++ code_of more) × AreKindPut p tables k ns at ss (length old) more
