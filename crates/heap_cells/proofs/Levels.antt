-- The heaps at the marks while cells are added, marks set, dropped and undone.
use Rattle.std.proofs.Common.{◌≡◌, ℕ, ◌+◌, ◌≤◌, refl, ap, sym, ◌∙◌, subst, arith, List, [], ◌∷◌, ◌++◌, length, map, get_or, take, drop, reverse, length-append}
use Rattle.std.specs.Prelude.{All}
use Rattle.std.proofs.lemmas.List.{map-append, drop-append-le, take-append-le, reverse-append, length-drop}
use Rattle.std.proofs.Math.Seq.{take-length, drop-length}
use Rattle.heap_cells.specs.declared.Cell.{Cell}
use Rattle.heap_cells.specs.declared.Variable.{Variable}
use Rattle.heap_cells.specs.declared.Variable.TheVariants as variable
use Rattle.heap_cells.specs.declared.Structure.{Structure}
use Rattle.heap_cells.specs.declared.Saved.{Saved}
use Rattle.heap_cells.specs.declared.Mark.{Mark}
use Rattle.heap_cells.specs.Cells.{Slot, Compound, Cells, Heaps, with_new_slot, with_compound}
use Rattle.heap_cells.specs.HeapInvariant.{IsHeap}
use Rattle.heap_cells.specs.HeapFields.{slot_of, compound_of, cells_of, heaps_of, AreStored, restored, IsUpTo, Fall, lengths, marked, HasArgs}
use Rattle.heap_cells.proofs.Marks.{map_same, up_to_itself, fall_more, each_up_to, restored-take}
use Rattle.heap_cells.proofs.Elements.{both_of, all_push}

-- a heap with nothing in it
bare : IsHeap (record { slots = []; compounds = [] })
bare = record {
  slots = λ i c e. absurd cc;
  parts = λ j k d l. absurd (omega arith);
  ranked = (λ c. 0, record { slots = λ i c e. absurd cc; parts = λ j k d l. absurd (omega arith); low = λ c. omega arith });
}

pub empty_stored : (vs : List Variable) (args : List Cell) (ss : List Structure) (trail : List Saved) (marks : List Mark) → vs ≡ [] → args ≡ [] → ss ≡ []
    → trail ≡ [] → marks ≡ [] → AreStored vs args ss trail marks
empty_stored vs args ss trail marks a b c d e =
    let none : AreStored [] [] [] [] [] = record { now = bare; below = λ k f l. absurd (omega arith); held = λ k f l. absurd (omega arith); held_below = λ k f l. absurd (omega arith); falls = tt } in
    let f : List Variable → Type 0 = λ l. AreStored l args ss trail marks in
    subst f (sym a)
    (let g : List Cell → Type 0 = λ l. AreStored [] l ss trail marks in subst g (sym b)
    (let h : List Structure → Type 0 = λ l. AreStored [] [] l trail marks in subst h (sym c)
    (let i : List Saved → Type 0 = λ l. AreStored [] [] [] l marks in subst i (sym d)
    (let j : List Mark → Type 0 = λ l. AreStored [] [] [] [] l in subst j (sym e) none))))

-- a mark at the present lengths shows the heap as it is
pub marked_here : (vs : List Variable) (args : List Cell) (ss : List Structure) (trail : List Saved) → marked vs args ss trail (lengths vs args ss trail) ≡ cells_of vs args ss
marked_here vs args ss trail =
    ap (λ (l : List Variable). cells_of l args (take (length ss) ss)) (ap (λ es. take (length vs) (restored es vs)) (drop-length trail) ∙ take-length vs)
    ∙ ap (cells_of vs args) (take-length ss)

pub mark_stored : (vs : List Variable) (args : List Cell) (ss : List Structure) (trail : List Saved) (marks : List Mark) → AreStored vs args ss trail marks
    → AreStored vs args ss trail (marks ++ lengths vs args ss trail ∷ [])
mark_stored vs args ss trail marks k =
    let here : Mark = lengths vs args ss trail in
    let e : reverse (marks ++ here ∷ []) ≡ here ∷ reverse marks = reverse-append marks (here ∷ []) in
    record {
      now = k.now;
      below = subst (All (λ m. IsHeap (marked vs args ss trail m))) (sym e)
          (both_of (λ m. IsHeap (marked vs args ss trail m)) here (reverse marks) (subst IsHeap (sym (marked_here vs args ss trail)) k.now) k.below);
      held = k.held;
      held_below = subst (All (λ (m : Mark). All (HasArgs m.args) (take m.structures ss))) (sym e)
          (both_of (λ (m : Mark). All (HasArgs m.args) (take m.structures ss)) here (reverse marks)
          (subst (All (HasArgs (length args))) (sym (take-length ss)) k.held) k.held_below);
      falls = subst (Fall here) (sym e) (up_to_itself here, k.falls);
    }

-- one more variable
module _ (vs : List Variable) (args : List Cell) (ss : List Structure) (trail : List Saved) (ms : List Mark) (v : Variable) (falls : Fall (lengths vs args ss trail) ms) where
  pub var_at_mark : (m : Mark) → IsUpTo (lengths vs args ss trail) m → take m.variables (restored (drop m.trail trail) (vs ++ v ∷ [])) ≡ take m.variables (restored (drop m.trail trail) vs)
  var_at_mark m u = restored-take m.variables (drop m.trail trail) (vs ++ v ∷ [])
      ∙ ap (restored (drop m.trail trail)) (take-append-le m.variables vs (v ∷ []) u.variables) ∙ sym (restored-take m.variables (drop m.trail trail) vs)

  var_marked : (m : Mark) → IsUpTo (lengths vs args ss trail) m → marked (vs ++ v ∷ []) args ss trail m ≡ marked vs args ss trail m
  var_marked m u = ap (λ (l : List Variable). cells_of l args (take m.structures ss)) (var_at_mark m u)

  pub var_each : All (λ m. marked (vs ++ v ∷ []) args ss trail m ≡ marked vs args ss trail m) ms
  var_each = λ k d l. var_marked (get_or ms k d) (each_up_to (lengths vs args ss trail) ms falls k d l)

  pub var_below : map (marked (vs ++ v ∷ []) args ss trail) ms ≡ map (marked vs args ss trail) ms
  var_below = map_same (λ m. marked (vs ++ v ∷ []) args ss trail m ≡ marked vs args ss trail m) (marked (vs ++ v ∷ []) args ss trail) (marked vs args ss trail) (λ m e. e) ms var_each

pub var_now : (vs : List Variable) (args : List Cell) (ss : List Structure) → cells_of (vs ++ variable.Loose ∷ []) args ss ≡ with_new_slot (cells_of vs args ss)
var_now vs args ss = ap (λ (l : List Slot). let h : Cells = record { slots = l; compounds = map (compound_of args) ss } in h) (map-append slot_of vs (variable.Loose ∷ []))

pub var_view : (vs : List Variable) (args : List Cell) (ss : List Structure) (trail : List Saved) (marks : List Mark) → AreStored vs args ss trail marks
    → heaps_of (vs ++ variable.Loose ∷ []) args ss trail marks ≡ record (heaps_of vs args ss trail marks) { now = with_new_slot (cells_of vs args ss) }
var_view vs args ss trail marks k =
    ap (λ (h : Cells). let r : Heaps = record { now = h; below = map (marked (vs ++ variable.Loose ∷ []) args ss trail) (reverse marks) } in r) (var_now vs args ss)
    ∙ ap (λ (l : List Cells). let r : Heaps = record { now = with_new_slot (cells_of vs args ss); below = l } in r) (var_below vs args ss trail (reverse marks) variable.Loose k.falls)

pub var_stored : (vs : List Variable) (args : List Cell) (ss : List Structure) (trail : List Saved) (marks : List Mark) → AreStored vs args ss trail marks
    → IsHeap (with_new_slot (cells_of vs args ss)) → AreStored (vs ++ variable.Loose ∷ []) args ss trail marks
var_stored vs args ss trail marks k v = record {
  now = subst IsHeap (sym (var_now vs args ss)) v;
  below = λ n d l. subst IsHeap (sym (var_each vs args ss trail (reverse marks) variable.Loose k.falls n d l)) (k.below n d l);
  held = k.held;
  held_below = k.held_below;
  falls = fall_more (lengths (vs ++ variable.Loose ∷ []) args ss trail) (lengths vs args ss trail) (reverse marks)
      (record { variables = omega (arith, length-append vs (variable.Loose ∷ [])); args = omega arith; structures = omega arith; trail = omega arith }) k.falls;
}

-- more arguments
args_kept : (first count : ℕ) (xs ys : List Cell) → first + count ≤ length xs → take count (drop first (xs ++ ys)) ≡ take count (drop first xs)
args_kept first count xs ys h = rw (drop-append-le first xs ys (omega arith), take-append-le count (drop first xs) ys (omega (arith, length-drop first xs))) refl

pub compounds_kept : (xs ys : List Cell) (ss : List Structure) → All (HasArgs (length xs)) ss → map (compound_of (xs ++ ys)) ss ≡ map (compound_of xs) ss
compounds_kept xs ys ss h = map_same (HasArgs (length xs)) (compound_of (xs ++ ys)) (compound_of xs)
    (λ s l. ap (λ (cs : List Cell). let k : Compound = record { name = s.name; args = cs } in k) (args_kept s.first s.count xs ys l)) ss h

pub some_args : (n m : ℕ) → n ≤ m → (ss : List Structure) → All (HasArgs n) ss → All (HasArgs m) ss
some_args n m l ss h = λ k d q. let a : HasArgs n (get_or ss k d) = h k d q in let b : HasArgs m (get_or ss k d) = omega arith in b

module _ (vs : List Variable) (args more : List Cell) (ss : List Structure) (trail : List Saved) (ms : List Mark) (falls : Fall (lengths vs args ss trail) ms)
    (held_below : All (λ (m : Mark). All (HasArgs m.args) (take m.structures ss)) ms) where
  args_marked : (m : Mark) → IsUpTo (lengths vs args ss trail) m → All (HasArgs m.args) (take m.structures ss) → marked vs (args ++ more) ss trail m ≡ marked vs args ss trail m
  args_marked m u h = ap (λ (l : List Compound). let g : Cells = record { slots = map slot_of (take m.variables (restored (drop m.trail trail) vs)); compounds = l } in g)
      (compounds_kept args more (take m.structures ss) (some_args m.args (length args) u.args (take m.structures ss) h))

  pub args_each : All (λ m. marked vs (args ++ more) ss trail m ≡ marked vs args ss trail m) ms
  args_each = λ k d l. args_marked (get_or ms k d) (each_up_to (lengths vs args ss trail) ms falls k d l) (held_below k d l)

  pub args_below : map (marked vs (args ++ more) ss trail) ms ≡ map (marked vs args ss trail) ms
  args_below = map_same (λ m. marked vs (args ++ more) ss trail m ≡ marked vs args ss trail m) (marked vs (args ++ more) ss trail) (marked vs args ss trail) (λ m e. e) ms args_each

pub args_view : (vs : List Variable) (args more : List Cell) (ss : List Structure) (trail : List Saved) (marks : List Mark) → AreStored vs args ss trail marks
    → heaps_of vs (args ++ more) ss trail marks ≡ heaps_of vs args ss trail marks
args_view vs args more ss trail marks k =
    ap (λ (l : List Compound). let r : Heaps = record {
      now = record { slots = map slot_of vs; compounds = l };
      below = map (marked vs (args ++ more) ss trail) (reverse marks);
    } in r) (compounds_kept args more ss k.held)
    ∙ ap (λ (l : List Cells). let r : Heaps = record { now = cells_of vs args ss; below = l } in r) (args_below vs args more ss trail (reverse marks) k.falls k.held_below)

pub args_stored : (vs : List Variable) (args more : List Cell) (ss : List Structure) (trail : List Saved) (marks : List Mark) → AreStored vs args ss trail marks
    → AreStored vs (args ++ more) ss trail marks
args_stored vs args more ss trail marks k =
    let long : length args ≤ length (args ++ more) = omega (arith, length-append args more) in
    record {
      now = subst IsHeap (sym (ap (λ (h : Heaps). h.now) (args_view vs args more ss trail marks k))) k.now;
      below = λ n d l. subst IsHeap (sym (args_each vs args more ss trail (reverse marks) k.falls k.held_below n d l)) (k.below n d l);
      held = some_args (length args) (length (args ++ more)) long ss k.held;
      held_below = k.held_below;
      falls = fall_more (lengths vs (args ++ more) ss trail) (lengths vs args ss trail) (reverse marks)
          (record { variables = omega arith; args = long; structures = omega arith; trail = omega arith }) k.falls;
    }

-- one more compound term, whose arguments are there
module _ (vs : List Variable) (args : List Cell) (ss : List Structure) (trail : List Saved) (ms : List Mark) (s : Structure) (falls : Fall (lengths vs args ss trail) ms) where
  struct_front : (m : Mark) → IsUpTo (lengths vs args ss trail) m → take m.structures (ss ++ s ∷ []) ≡ take m.structures ss
  struct_front m u = take-append-le m.structures ss (s ∷ []) u.structures

  pub struct_each : All (λ m. marked vs args (ss ++ s ∷ []) trail m ≡ marked vs args ss trail m) ms
  struct_each = λ k d l. ap (cells_of (take (get_or ms k d).variables (restored (drop (get_or ms k d).trail trail) vs)) args)
      (struct_front (get_or ms k d) (each_up_to (lengths vs args ss trail) ms falls k d l))

  pub struct_below : map (marked vs args (ss ++ s ∷ []) trail) ms ≡ map (marked vs args ss trail) ms
  struct_below = map_same (λ m. marked vs args (ss ++ s ∷ []) trail m ≡ marked vs args ss trail m) (marked vs args (ss ++ s ∷ []) trail) (marked vs args ss trail) (λ m e. e) ms struct_each

  pub struct_held : All (λ (m : Mark). All (HasArgs m.args) (take m.structures ss)) ms → All (λ (m : Mark). All (HasArgs m.args) (take m.structures (ss ++ s ∷ []))) ms
  struct_held h = λ k d l. subst (All (HasArgs (get_or ms k d).args)) (sym (struct_front (get_or ms k d) (each_up_to (lengths vs args ss trail) ms falls k d l))) (h k d l)

pub struct_now : (vs : List Variable) (args : List Cell) (ss : List Structure) (s : Structure) → cells_of vs args (ss ++ s ∷ []) ≡ with_compound (cells_of vs args ss) (compound_of args s)
struct_now vs args ss s = ap (λ (l : List Compound). let h : Cells = record { slots = map slot_of vs; compounds = l } in h) (map-append (compound_of args) ss (s ∷ []))

pub struct_view : (vs : List Variable) (args : List Cell) (ss : List Structure) (trail : List Saved) (marks : List Mark) (s : Structure) → AreStored vs args ss trail marks
    → heaps_of vs args (ss ++ s ∷ []) trail marks ≡ record (heaps_of vs args ss trail marks) { now = with_compound (cells_of vs args ss) (compound_of args s) }
struct_view vs args ss trail marks s k =
    ap (λ (h : Cells). let r : Heaps = record { now = h; below = map (marked vs args (ss ++ s ∷ []) trail) (reverse marks) } in r) (struct_now vs args ss s)
    ∙ ap (λ (l : List Cells). let r : Heaps = record { now = with_compound (cells_of vs args ss) (compound_of args s); below = l } in r) (struct_below vs args ss trail (reverse marks) s k.falls)

pub struct_stored : (vs : List Variable) (args : List Cell) (ss : List Structure) (trail : List Saved) (marks : List Mark) (s : Structure) → AreStored vs args ss trail marks → HasArgs (length args) s
    → IsHeap (with_compound (cells_of vs args ss) (compound_of args s)) → AreStored vs args (ss ++ s ∷ []) trail marks
struct_stored vs args ss trail marks s k h v = record {
  now = subst IsHeap (sym (struct_now vs args ss s)) v;
  below = λ n d l. subst IsHeap (sym (struct_each vs args ss trail (reverse marks) s k.falls n d l)) (k.below n d l);
  held = all_push (HasArgs (length args)) ss s k.held h;
  held_below = struct_held vs args ss trail (reverse marks) s k.falls k.held_below;
  falls = fall_more (lengths vs args (ss ++ s ∷ []) trail) (lengths vs args ss trail) (reverse marks)
      (record { variables = omega arith; args = omega arith; structures = omega (arith, length-append ss (s ∷ [])); trail = omega arith }) k.falls;
}
