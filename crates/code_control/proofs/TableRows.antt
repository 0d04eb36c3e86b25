-- What the first argument shows, and the row of a table that decides.
use Rattle.std.proofs.Common.{◌≡◌, ℕ, suc, ◌<◌, true, ◌==◌, IsTrue, List, [], ◌∷◌, length, Some, All, refl, ap, sym, ◌∙◌, subst, inl, inr, arith, get_or, drop}
use Rattle.std.proofs.lemmas.Bool.{or_right}
use Rattle.std.proofs.Math.Seq.{drop-cons}
use Rattle.fd_language.specs.declared.TheConstants.{INFINITY}
use Rattle.fd_language.specs.Family.{has}
use Rattle.fd_language.proofs.Lemmas.{first_member}
use Rattle.fd_model.specs.Goal.{Branch}
use Rattle.heap_cells.specs.declared.Cell.{Cell}
use Rattle.heap_cells.specs.declared.Seen.{Seen}
use Rattle.heap_cells.specs.declared.Seen.TheVariants.{Open, Constrained, Int, Atom, Struct}
use Rattle.heap_cells.specs.Cells.{Cells, Heaps, IsOf}
use Rattle.heap_cells.specs.SeenCells.{IsSeen}
use Rattle.heap_cells.specs.Terms.{Naming, term_of, slot_term, compound_term}
use Rattle.heap_cells.specs.HeapInvariant.{IsHeap}
use Rattle.heap_cells.proofs.Lemmas.{term-Ref, term-Int, term-Atom, term-Struct}
use Rattle.branch_state.specs.States as branch
use Rattle.wam_code.specs.declared.instruction.Code.{Code}
use Rattle.wam_code.specs.declared.instruction.Code.TheVariants.{SwitchOnTerm, SwitchOnConstant, SwitchOnInteger, SwitchOnStructure}
use Rattle.wam_code.specs.declared.instruction.Key.{Key}
use Rattle.wam_code.specs.declared.instruction.Key.TheVariants as key
use Rattle.wam_code.specs.declared.parts.Entry.{Entry}
use Rattle.wam_code.specs.Area.{Table, Area, Holds, table_at}
use Rattle.wam_code.specs.Effect.{plain_effect, when}
use Rattle.wam_code.specs.Tries.{Shape, is_open, is_atom, is_integer, is_structure, shape_of, by_shape, IsShape}
use Rattle.wam_code.specs.VerifiedCode.{arms, named, IsKey}
use Rattle.code_areas.specs.Areas.{cell_at, IsSet, Contents}
use Rattle.code_meaning.specs.ClauseChoices.{shape_in, HasNoRow, HasRow, IsTrying, IsChoice}
use Rattle.code_meaning.proofs.Lemmas.{count_terms, step_switch, step_constants, step_integers, step_structures}
use Rattle.code_safety.specs.Machine.{registers_of, stack_of}
use Rattle.code_safety.specs.Queries.{KeepsQuery, KeepsQueryThen}
use Rattle.code_safety.specs.Safety.{IsSafe, IsSafeThen}
use Rattle.code_safety.specs.RepresentedBranch.{IsNaming}
use Rattle.code_safety.specs.declared.instruction_outcomes.Went.{Went}
use Rattle.code_safety.specs.declared.instruction_outcomes.Went.TheVariants.{On, Back}
use Rattle.code_control.specs.JumpTargets.{ArgumentShows}
use Rattle.code_control.specs.Rows.{IsKeyOf, IsFirstRow, HasNoKey, Finds, place_for}
use Rattle.code_safety.specs.RemainingEvents.{Task, KeepsRunning, RunsThen}
use Rattle.code_safety.specs.Work.{work_at, work_then}
use Rattle.code_control.proofs.Queries.{named_query}
use Rattle.code_control.proofs.Stages.{tries, over}
use Rattle.code_control.proofs.Threads.{first_set, switch_thread, moved_safe, back_safe}
use Rattle.code_control.proofs.Work.{named_near, moved_falls, back_less}

-- ---- what is seen

-- what is seen of the first argument's cell is what the argument shows
pub first_shows : (s : branch.State) (c : Contents) (hs : Heaps) → hs ≡ s.heaps → (d : Cell) → cell_at c.registers 1 ≡ Some d → (x : Seen) → IsSeen hs.now d x
    → (such : Seen → Type 0) → such x → ArgumentShows s c 1 such
first_shows s c hs same d there x seen such so = record { cell = d; there = there; shown = x; is_seen = subst (λ (y : Heaps). IsSeen y.now d x) same seen; so = so }

-- ---- shapes

seen_shape : Naming → Seen → Shape
seen_shape name (Open i) = is_open
seen_shape name (Constrained i k) = is_open
seen_shape name (Int z) = is_integer z
seen_shape name (Atom a) = is_atom (name a)
seen_shape name (Struct f args) = is_structure (name f) (length args.now)

shape_seen : (name : Naming) (h : Cells) → IsHeap h → (d : Cell) (x : Seen) → IsSeen h d x → shape_of (term_of name h d) ≡ seen_shape name x
unfolding seen_shape
shape_seen name h valid d (Open i) e = ap shape_of (e.2 name ∙ term-Ref name h valid i ∙ ap (slot_term (term_of name h) i) e.1)
shape_seen name h valid d (Constrained i k) e = ap shape_of (e.2 name ∙ term-Ref name h valid i ∙ ap (slot_term (term_of name h) i) e.1)
shape_seen name h valid d (Int z) e = ap shape_of (e name ∙ term-Int name h valid z)
shape_seen name h valid d (Atom a) e = ap shape_of (e name ∙ term-Atom name h valid a)
shape_seen name h valid d (Struct f args) e =
    ap shape_of (e.3 name ∙ term-Struct name h valid e.0 ∙ ap (compound_term name (term_of name h)) e.2) ∙ ap (is_structure (name f)) (count_terms (term_of name h) args.now)

-- a key is the shape exactly where it is what is seen
key_there : (area : Area) (name : Naming) → IsNaming area name → (x : Seen) (k : Key) → IsKey area k → IsKeyOf x k → IsShape area k (seen_shape name x)
unfolding seen_shape
key_there area name n (Open i) k there e = absurd e
key_there area name n (Constrained i j) k there e = absurd e
key_there area name n (Int z) (key.Atom b) there e = absurd e
key_there area name n (Int z) (key.Int y) there e = e
key_there area name n (Int z) (key.Struct g m) there e = absurd e
key_there area name n (Atom a) (key.Atom b) there e = sym (n.same b there) ∙ ap name e
key_there area name n (Atom a) (key.Int y) there e = absurd e
key_there area name n (Atom a) (key.Struct g m) there e = absurd e
key_there area name n (Struct f args) (key.Atom b) there e = absurd e
key_there area name n (Struct f args) (key.Int y) there e = absurd e
key_there area name n (Struct f args) (key.Struct g m) there e = (sym (n.same g there) ∙ ap name e.0, e.1)

key_back : (area : Area) (name : Naming) → IsNaming area name → (x : Seen) (k : Key) → IsKey area k → IsShape area k (seen_shape name x) → IsKeyOf x k
unfolding seen_shape
key_back area name n (Open i) (key.Atom b) there e = absurd e
key_back area name n (Open i) (key.Int y) there e = absurd e
key_back area name n (Open i) (key.Struct g m) there e = absurd e
key_back area name n (Constrained i j) (key.Atom b) there e = absurd e
key_back area name n (Constrained i j) (key.Int y) there e = absurd e
key_back area name n (Constrained i j) (key.Struct g m) there e = absurd e
key_back area name n (Int z) (key.Atom b) there e = absurd e
key_back area name n (Int z) (key.Int y) there e = e
key_back area name n (Int z) (key.Struct g m) there e = absurd e
key_back area name n (Atom a) (key.Atom b) there e = n.apart b a (n.same b there ∙ e)
key_back area name n (Atom a) (key.Int y) there e = absurd e
key_back area name n (Atom a) (key.Struct g m) there e = absurd e
key_back area name n (Struct f args) (key.Atom b) there e = absurd e
key_back area name n (Struct f args) (key.Int y) there e = absurd e
key_back area name n (Struct f args) (key.Struct g m) there e = (n.apart g f (n.same g there ∙ e.0), e.1)

row_there : (area : Area) (name : Naming) → IsNaming area name → (x : Seen) (rows : Table) → All (λ row. IsKey area row.0) rows → (to : ℕ)
    → IsFirstRow x rows to → HasRow area (seen_shape name x) rows to
row_there area name n x [] own to f = f
row_there area name n x (row ∷ rows) own to (inl f) = inl (key_there area name n x row.0 (own 0 row (omega arith)) f.0, f.1)
row_there area name n x (row ∷ rows) own to (inr f) = inr (
  (λ k. f.0 (key_back area name n x row.0 (own 0 row (omega arith)) k)),
  row_there area name n x rows (λ k d l. own (suc k) d (omega (arith, l))) to f.1,
)

none_there : (area : Area) (name : Naming) → IsNaming area name → (x : Seen) (rows : Table) → All (λ row. IsKey area row.0) rows → HasNoKey x rows → HasNoRow area (seen_shape name x) rows
none_there area name n x [] own f = tt
none_there area name n x (row ∷ rows) own f = ((λ k. f.0 (key_back area name n x row.0 (own 0 row (omega arith)) k)), none_there area name n x rows (λ k d l. own (suc k) d (omega (arith, l))) f.1)

-- ---- one row after another

-- a row without the key is passed by
finds_later : (x : Seen) (row : Key × ℕ) (later : Table) → (IsKeyOf x row.0 → ⊥) → (w : Went) → Finds x later w → Finds x (row ∷ later) w
finds_later x row later other (On to) f = inr (other, f)
finds_later x row later other Back f = (other, f)

module _ (x : Seen) (rows : Table) (i : ℕ) (d : Key × ℕ) (low : i < length rows) (sofar : (w : Went) → Finds x (drop i rows) w → Finds x rows w) where
  pub row_passed : (j : ℕ) → j ≡ suc i → (IsKeyOf x (get_or rows i d).0 → ⊥) → (w : Went) → Finds x (drop j rows) w → Finds x rows w
  row_passed j e other w f =
      sofar w (subst (λ l. Finds x l w) (sym (drop-cons rows i d low)) (finds_later x (get_or rows i d) (drop (suc i) rows) other w (subst (λ k. Finds x (drop k rows) w) e f)))

-- a row's place is one of the table's
row_named : (x : Seen) (rows : Table) (to : ℕ) → IsFirstRow x rows to → has (arms rows) to ≡ true
row_named x [] to f = absurd f
row_named x (row ∷ rows) to (inl f) = subst (λ p. has (row.1 ∷ arms rows) p ≡ true) f.1 (first_member row.1 (arms rows))
row_named x (row ∷ rows) to (inr f) = or_right (row.1 == to) (has (arms rows) to) (row_named x rows to f.1)

by_seen : (name : Naming) (x : Seen) (v c i s : ℕ) → by_shape (seen_shape name x) v c i s ≡ place_for x v c i s
unfolding seen_shape
by_seen name (Open j) v c i s = refl
by_seen name (Constrained j k) v c i s = refl
by_seen name (Int z) v c i s = refl
by_seen name (Atom a) v c i s = refl
by_seen name (Struct f args) v c i s = refl

place_named : (x : Seen) (v c i s : ℕ) → has (v ∷ c ∷ i ∷ s ∷ []) (place_for x v c i s) ≡ true
place_named (Open j) v c i s = first_member v (c ∷ i ∷ s ∷ [])
place_named (Constrained j k) v c i s = first_member v (c ∷ i ∷ s ∷ [])
place_named (Atom a) v c i s = or_right (v == c) _ (first_member c (i ∷ s ∷ []))
place_named (Int z) v c i s = or_right (v == i) _ (or_right (c == i) _ (first_member i (s ∷ [])))
place_named (Struct f args) v c i s = or_right (v == s) _ (or_right (c == s) _ (or_right (i == s) _ (first_member s [])))

-- ---- a machine's switches

module _ (area : Area) (s : branch.State) (at : ℕ) (c : Contents) (safe : IsSafe area s at 0 c) (d : Cell) (first : cell_at c.registers 1 ≡ Some d) (x : Seen)
    (seen : IsSeen s.heaps.now d x) (valid : IsHeap s.heaps.now) where
  -- what is tried is of the shape that is seen
  shape_is : (name : Naming) (sh : Shape) → sh ≡ shape_in name s.heaps.now (cell_at c.registers 1) → sh ≡ seen_shape name x
  shape_is name sh shows = shows ∙ ap (shape_in name s.heaps.now) first ∙ shape_seen name s.heaps.now valid d x seen

  module _ (v k i t : ℕ) (f : Holds area at (SwitchOnTerm v k i t)) where
    abbrev place : ℕ
    place = place_for x v k i t

    place_in : IsTrue (has (named area (SwitchOnTerm v k i t)) place)
    place_in = place_named x v k i t

    pub term_safe : IsSafe area s place 0 c
    term_safe = moved_safe area s at c safe place (switch_thread area s at c safe (SwitchOnTerm v k i t) f refl place place_in)

    pub term_falls : work_at area place c < work_at area at c
    term_falls = moved_falls area safe.states safe.verified at c place (named_near area safe.states safe.verified at c (SwitchOnTerm v k i t) f place place_in)

    pub term_query : KeepsQuery area at c place c
    term_query = named_query area s at c safe (SwitchOnTerm v k i t) f place place_in

    pub term_runs : KeepsRunning area s at c s place c
    term_runs = tries area s at c (SwitchOnTerm v k i t) tt f place (λ marks task naming e b kids m.
        subst (λ to. IsTrying INFINITY s.infinity marks area task.query.shown task.name s.heaps.now s.levels.current.posted to e (registers_of c) (stack_of c) b kids)
        (ap (λ sh. by_shape sh v k i t) (shape_is task.name m.shape m.shows) ∙ by_seen task.name x v k i t)
        (step_switch INFINITY s.infinity marks area task.query.shown task.name s.heaps.now s.levels.current.posted at e (registers_of c) (stack_of c) b kids m v k i t f))

  -- a table decides
  module _ (i : Code) (n : ℕ) (f : Holds area at i) (is : plain_effect area.entries i safe.here.reached.state ≡ when (has safe.here.reached.state.regs 1)
      safe.here.reached.state) (leads : named area i ≡ arms (table_at area n)) (low : n < length area.tables) where
    row_in : (to : ℕ) → IsFirstRow x (table_at area n) to → IsTrue (has (named area i) to)
    row_in to r = subst (λ l. has l to ≡ true) (sym leads) (row_named x (table_at area n) to r)

    table_safe : (w : Went) → Finds x (table_at area n) w → IsSafeThen area s c w
    table_safe (On to) r = moved_safe area s at c safe to (switch_thread area s at c safe i f is to (row_in to r))
    table_safe Back r = back_safe area s at c safe

    table_falls : (w : Went) → Finds x (table_at area n) w → work_then area c w < work_at area at c
    table_falls (On to) r = moved_falls area safe.states safe.verified at c to (named_near area safe.states safe.verified at c i f to (row_in to r))
    table_falls Back r = back_less area safe.states safe.verified at c

    table_query : (w : Went) → Finds x (table_at area n) w → KeepsQueryThen area at c c w
    table_query (On to) r = named_query area s at c safe i f to (row_in to r)
    table_query Back r = tt

    abbrev Trying : List ℕ → Task → ℕ → Entry → Branch → List Branch → Type 0
    Trying marks task to e b kids = IsTrying INFINITY s.infinity marks area task.query.shown task.name s.heaps.now s.levels.current.posted to e (registers_of c) (stack_of c) b kids

    own : All (λ row. IsKey area row.0) (table_at area n)
    own = safe.verified.keys n [] low

    module _ (choice : IsChoice i) (step : (marks : List ℕ) (task : Task) (e : Entry) (b : Branch) (kids : List Branch) (m : Trying marks task at e b kids)
        → ((to : ℕ) → HasRow area m.shape (table_at area n) to → Trying marks task to e b kids) × (HasNoRow area m.shape (table_at area n) → kids ≡ [])) where
      table_runs : (w : Went) → Finds x (table_at area n) w → RunsThen area s at c s c w
      table_runs (On to) r = tries area s at c i choice f to (λ marks task naming e b kids m.
          (step marks task e b kids m).0 to (subst (λ sh. HasRow area sh (table_at area n) to) (sym (shape_is task.name m.shape m.shows))
          (row_there area task.name naming x (table_at area n) own to r)))
      table_runs Back r = over area s at c i choice f (λ marks task naming e b kids m.
          (step marks task e b kids m).1 (subst (λ sh. HasNoRow area sh (table_at area n)) (sym (shape_is task.name m.shape m.shows)) (none_there area task.name naming x (table_at area n) own r)))

      pub table_all : (rows : Table) → rows ≡ table_at area n → (w : Went) → Finds x rows w
          → IsSafeThen area s c w × RunsThen area s at c s c w × (work_then area c w < work_at area at c) × KeepsQueryThen area at c c w
      table_all rows same w found = let r = subst (λ l. Finds x l w) same found in (table_safe w r, table_runs w r, table_falls w r, table_query w r)

  abbrev Switched : Table → Went → Type 0
  Switched rows w = IsSafeThen area s c w × RunsThen area s at c s c w × (work_then area c w < work_at area at c) × KeepsQueryThen area at c c w

  pub constant_switched : (t : ℕ) → Holds area at (SwitchOnConstant t) → (w : Went) → Finds x (table_at area t) w → Switched (table_at area t) w
  constant_switched t holds w found = table_all (SwitchOnConstant t) t holds refl refl (safe.verified.there at (SwitchOnConstant t) holds).0 tt
      (λ marks task e b kids m. step_constants INFINITY s.infinity marks area task.query.shown task.name s.heaps.now s.levels.current.posted at e
      (registers_of c) (stack_of c) b kids m t holds) (table_at area t) refl w found

  pub integer_switched : (t : ℕ) → Holds area at (SwitchOnInteger t) → (w : Went) → Finds x (table_at area t) w → Switched (table_at area t) w
  integer_switched t holds w found = table_all (SwitchOnInteger t) t holds refl refl (safe.verified.there at (SwitchOnInteger t) holds).0 tt
      (λ marks task e b kids m. step_integers INFINITY s.infinity marks area task.query.shown task.name s.heaps.now s.levels.current.posted at e
      (registers_of c) (stack_of c) b kids m t holds) (table_at area t) refl w found

  pub structure_switched : (t : ℕ) → Holds area at (SwitchOnStructure t) → (w : Went) → Finds x (table_at area t) w → Switched (table_at area t) w
  structure_switched t holds w found = table_all (SwitchOnStructure t) t holds refl refl (safe.verified.there at (SwitchOnStructure t) holds).0 tt
      (λ marks task e b kids m. step_structures INFINITY s.infinity marks area task.query.shown task.name s.heaps.now s.levels.current.posted at e
      (registers_of c) (stack_of c) b kids m t holds) (table_at area t) refl w found

-- a switch finds something in the first register
pub first_there : (area : Area) (s : branch.State) (at : ℕ) (c : Contents) (safe : IsSafe area s at 0 c) (i : Code) → Holds area at i
    → plain_effect area.entries i safe.here.reached.state ≡ when (has safe.here.reached.state.regs 1) safe.here.reached.state → IsSet c.registers 1
first_there area s at c safe i f is = first_set area s at c safe i f is

-- and it is a cell of the heap
pub first_own : (area : Area) (s : branch.State) (at : ℕ) (c : Contents) (safe : IsSafe area s at 0 c) (d : Cell) → cell_at c.registers 1 ≡ Some d → IsOf s.heaps.now d
first_own area s at c safe d e = (safe.here.registers_own 1 d e).0
