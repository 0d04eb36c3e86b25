-- The heap at the newest mark given back, and marks dropped.
use Rattle.std.proofs.Common.{◌≡◌, ℕ, zero, suc, ◌+◌, ◌-◌, ◌<◌, ◌≤◌, refl, ap, sym, ◌∙◌, subst, arith, List, [], ◌∷◌, ◌++◌, length, map, get_or, set, take}
use Rattle.std.proofs.Common.{drop, reverse, length-append}
use Rattle.std.specs.Prelude.{All}
use Rattle.std.proofs.lemmas.List.{reverse-append, drop-map, drop-append-le, take-append-le, length-take-le, take-append-drop, length-drop, length-reverse}
use Rattle.std.proofs.lemmas.List.{take-take, set_past}
use Rattle.std.proofs.lemmas.List.Elements.{All-drop}
use Rattle.std.proofs.Math.Seq.{drop-append_seam}
use Rattle.heap_cells.specs.declared.Cell.{Cell}
use Rattle.heap_cells.specs.declared.Variable.{Variable}
use Rattle.heap_cells.specs.declared.Structure.{Structure}
use Rattle.heap_cells.specs.declared.Saved.{Saved}
use Rattle.heap_cells.specs.declared.Mark.{Mark}
use Rattle.heap_cells.specs.Cells.{Compound, Cells, Heaps}
use Rattle.heap_cells.specs.HeapInvariant.{IsHeap}
use Rattle.heap_cells.specs.HeapFields.{slot_of, compound_of, cells_of, heaps_of, AreStored, restored, IsUpTo, Fall, lengths, marked, HasArgs}
use Rattle.heap_cells.proofs.Marks.{map_same, fall_more, each_up_to, restored-take, restored-append, length-restored}
use Rattle.heap_cells.proofs.Levels.{compounds_kept, some_args}
use Rattle.heap_cells.proofs.Elements.{head_of, tail_of}

pub drop_rest : {X : Type 0} (a b : ℕ) (xs : List X) → a ≤ b → drop a (take b xs) ++ drop b xs ≡ drop a xs
drop_rest zero b xs l = take-append-drop b xs
drop_rest (suc a) zero xs l = absurd (omega arith)
drop_rest (suc a) (suc b) [] l = refl
drop_rest (suc a) (suc b) (x ∷ xs) l = drop_rest a b xs (omega arith)

pub fall_drop : (top : Mark) (n : ℕ) (ms : List Mark) → Fall top ms → Fall top (drop n ms)
fall_drop top zero ms f = f
fall_drop top (suc n) [] f = f
fall_drop top (suc n) (m ∷ ms) f = fall_drop top n ms (fall_more top m ms f.0 f.1)

-- the last n of a list taken away
pub reverse_front : {X : Type 0} (n : ℕ) (xs : List X) → n ≤ length xs → reverse (take (length xs - n) xs) ≡ drop n (reverse xs)
reverse_front n xs l =
    let k = length xs - n in
    let front = take k xs in
    let back = drop k xs in
    let e : reverse xs ≡ reverse back ++ reverse front = ap reverse (sym (take-append-drop k xs)) ∙ reverse-append front back in
    let m : length (reverse back) ≡ n = length-reverse back ∙ length-drop k xs ∙ omega arith in
    sym (ap (drop n) e ∙ ap (λ j. drop j (reverse back ++ reverse front)) (sym m) ∙ drop-append_seam (reverse back) (reverse front))

pub dropped_stored : (vs : List Variable) (args : List Cell) (ss : List Structure) (trail : List Saved) (marks left : List Mark) (n : ℕ)
    → reverse left ≡ drop n (reverse marks) → AreStored vs args ss trail marks → AreStored vs args ss trail left
dropped_stored vs args ss trail marks left n e k = record {
  now = k.now;
  below = subst (All (λ m. IsHeap (marked vs args ss trail m))) (sym e) (All-drop (λ m. IsHeap (marked vs args ss trail m)) n (reverse marks) k.below);
  held = k.held;
  held_below = subst (All (λ (m : Mark). All (HasArgs m.args) (take m.structures ss))) (sym e) (All-drop (λ (m : Mark). All (HasArgs m.args) (take m.structures ss)) n (reverse marks) k.held_below);
  falls = subst (Fall (lengths vs args ss trail)) (sym e) (fall_drop (lengths vs args ss trail) n (reverse marks) k.falls);
}

pub dropped_view : (vs : List Variable) (args : List Cell) (ss : List Structure) (trail : List Saved) (marks left : List Mark) (n : ℕ) → reverse left ≡ drop n (reverse marks)
    → heaps_of vs args ss trail left ≡ record (heaps_of vs args ss trail marks) { below = drop n (heaps_of vs args ss trail marks).below }
dropped_view vs args ss trail marks left n e =
    ap (λ (l : List Cells). let r : Heaps = record { now = cells_of vs args ss; below = l } in r) (ap (map (marked vs args ss trail)) e ∙ sym (drop-map (marked vs args ss trail) n (reverse marks)))

-- the newest mark m
module _ (vs : List Variable) (args : List Cell) (ss : List Structure) (trail : List Saved) (m : Mark) (ms : List Mark)
    (up : IsUpTo (lengths vs args ss trail) m) (falls : Fall m ms) (held : All (HasArgs m.args) (take m.structures ss))
    (held_below : All (λ (k : Mark). All (HasArgs k.args) (take k.structures ss)) ms) where
  abbrev vs' : List Variable
  vs' = take m.variables (restored (drop m.trail trail) vs)

  abbrev args' : List Cell
  args' = take m.args args

  abbrev ss' : List Structure
  ss' = take m.structures ss

  abbrev trail' : List Saved
  trail' = take m.trail trail

  args_length : length args' ≡ m.args
  args_length = length-take-le m.args args up.args

  fewer_args : (some : List Structure) → All (HasArgs m.args) some → map (compound_of args') some ≡ map (compound_of args) some
  fewer_args some h =
      sym (compounds_kept args' (drop m.args args) some (subst (λ n. All (HasArgs n) some) (sym args_length) h))
      ∙ ap (λ (l : List Cell). map (compound_of l) some) (take-append-drop m.args args)

  pub now_undone : cells_of vs' args' ss' ≡ marked vs args ss trail m
  now_undone = ap (λ (l : List Compound). let h : Cells = record { slots = map slot_of vs'; compounds = l } in h) (fewer_args ss' held)

  pub vars_undone : (k : Mark) → IsUpTo m k → take k.variables (restored (drop k.trail trail') vs') ≡ take k.variables (restored (drop k.trail trail) vs)
  vars_undone k u =
      let a = drop k.trail trail' in
      let b = drop m.trail trail in
      restored-take k.variables a vs'
      ∙ ap (restored a) (take-take k.variables m.variables (restored b vs) u.variables)
      ∙ sym (restored-take k.variables a (restored b vs))
      ∙ ap (take k.variables) (sym (restored-append a b vs) ∙ ap (λ es. restored es vs) (drop_rest k.trail m.trail trail u.trail))

  pub mark_undone : (k : Mark) → IsUpTo m k → All (HasArgs k.args) (take k.structures ss) → marked vs' args' ss' trail' k ≡ marked vs args ss trail k
  mark_undone k u h =
      ap (λ (l : List Variable). cells_of l args' (take k.structures ss')) (vars_undone k u)
      ∙ ap (cells_of (take k.variables (restored (drop k.trail trail) vs)) args') (take-take k.structures m.structures ss u.structures)
      ∙ ap (λ (l : List Compound). let g : Cells = record { slots = map slot_of (take k.variables (restored (drop k.trail trail) vs)); compounds = l } in
      g) (fewer_args (take k.structures ss) (some_args k.args m.args u.args (take k.structures ss) h))

  each_undone : All (λ k. marked vs' args' ss' trail' k ≡ marked vs args ss trail k) ms
  each_undone = λ n d l. mark_undone (get_or ms n d) (each_up_to m ms falls n d l) (held_below n d l)

  pub below_undone : map (marked vs' args' ss' trail') ms ≡ map (marked vs args ss trail) ms
  below_undone = map_same (λ k. marked vs' args' ss' trail' k ≡ marked vs args ss trail k) (marked vs' args' ss' trail') (marked vs args ss trail) (λ k e. e) ms each_undone

  lengths_undone : IsUpTo (lengths vs' args' ss' trail') m
  lengths_undone = record {
    variables = (let a = length-take-le m.variables (restored (drop m.trail trail) vs) (let b = length-restored (drop m.trail trail) vs in let c = up.variables in omega arith) in omega arith);
    args = (let a = args_length in omega arith);
    structures = (let a = length-take-le m.structures ss up.structures in omega arith);
    trail = (let a = length-take-le m.trail trail up.trail in omega arith);
  }

  pub undone_stored : (front : List Mark) → reverse front ≡ ms → IsHeap (marked vs args ss trail m) → All (λ k. IsHeap (marked vs args ss trail k)) ms → AreStored vs' args' ss' trail' front
  undone_stored front e valid below = record {
    now = subst IsHeap (sym now_undone) valid;
    below = subst (All (λ k. IsHeap (marked vs' args' ss' trail' k))) (sym e) (λ n d l. subst IsHeap (sym (each_undone n d l)) (below n d l));
    held = subst (λ n. All (HasArgs n) ss') (sym args_length) held;
    held_below = subst (All (λ (k : Mark). All (HasArgs k.args) (take k.structures ss'))) (sym e)
        (λ n d l. subst (All (HasArgs (get_or ms n d).args)) (sym (take-take (get_or ms n d).structures m.structures ss (each_up_to m ms falls n d l).structures)) (held_below n d l));
    falls = subst (Fall (lengths vs' args' ss' trail')) (sym e) (fall_more (lengths vs' args' ss' trail') m ms lengths_undone falls);
  }

-- the same of all fields: marks are front and then m
module _ (vs : List Variable) (args : List Cell) (ss : List Structure) (trail : List Saved) (marks front : List Mark) (m : Mark)
    (marks_are : marks ≡ front ++ m ∷ []) (k : AreStored vs args ss trail marks) where
  pub order : reverse marks ≡ m ∷ reverse front
  order = ap reverse marks_are ∙ reverse-append front (m ∷ [])

  pub all_falls : Fall (lengths vs args ss trail) (m ∷ reverse front)
  all_falls = subst (Fall (lengths vs args ss trail)) order k.falls

  pub all_held : All (λ (n : Mark). All (HasArgs n.args) (take n.structures ss)) (m ∷ reverse front)
  all_held = subst (All (λ (n : Mark). All (HasArgs n.args) (take n.structures ss))) order k.held_below

  all_valid : All (λ n. IsHeap (marked vs args ss trail n)) (m ∷ reverse front)
  all_valid = subst (All (λ n. IsHeap (marked vs args ss trail n))) order k.below

  pub trail_long : m.trail ≤ length trail
  trail_long = all_falls.0.trail

  pub undo_stored : AreStored (take m.variables (restored (drop m.trail trail) vs)) (take m.args args) (take m.structures ss) (take m.trail trail) front
  undo_stored = undone_stored vs args ss trail m (reverse front) all_falls.0 all_falls.1
      (head_of (λ (n : Mark). All (HasArgs n.args) (take n.structures ss)) m (reverse front) all_held)
      (tail_of (λ (n : Mark). All (HasArgs n.args) (take n.structures ss)) m (reverse front) all_held) front refl
      (head_of (λ n. IsHeap (marked vs args ss trail n)) m (reverse front) all_valid) (tail_of (λ n. IsHeap (marked vs args ss trail n)) m (reverse front) all_valid)

  abbrev undone : Heaps
  undone = heaps_of (take m.variables (restored (drop m.trail trail) vs)) (take m.args args) (take m.structures ss) (take m.trail trail) front

  pub undo_view : (heaps_of vs args ss trail marks).below ≡ undone.now ∷ undone.below
  undo_view =
      let h = head_of (λ (n : Mark). All (HasArgs n.args) (take n.structures ss)) m (reverse front) all_held in
      let t = tail_of (λ (n : Mark). All (HasArgs n.args) (take n.structures ss)) m (reverse front) all_held in
      ap (map (marked vs args ss trail)) order
      ∙ ap (λ (c : Cells). c ∷ map (marked vs args ss trail) (reverse front)) (sym (now_undone vs args ss trail m (reverse front) all_falls.0 all_falls.1 h t))
      ∙ ap (λ (l : List Cells). undone.now ∷ l) (sym (below_undone vs args ss trail m (reverse front) all_falls.0 all_falls.1 h t))

-- one entry of the trail given back
pub one_restored : (n : ℕ) (trail rest whole : List Saved) (s : Saved) (vs first : List Variable) → trail ≡ rest ++ s ∷ [] → n < length trail
    → (n ≤ length trail) × (restored (drop n trail) vs ≡ restored (drop n whole) first) × (take n trail ≡ take n whole)
    → (n ≤ length rest) × (restored (drop n rest) (set vs s.at s.was) ≡ restored (drop n whole) first) × (take n rest ≡ take n whole)
one_restored n trail rest whole s vs first e l h =
    let long : length trail ≡ length rest + 1 = ap length e ∙ length-append rest (s ∷ []) in
    let short : n ≤ length rest = omega arith in
    let dropped : drop n trail ≡ drop n rest ++ s ∷ [] = ap (drop n) e ∙ drop-append-le n rest (s ∷ []) short in
    let taken : take n trail ≡ take n rest = ap (take n) e ∙ take-append-le n rest (s ∷ []) short in
    (short, sym (ap (λ es. restored es vs) dropped ∙ restored-append (drop n rest) (s ∷ []) vs) ∙ h.1, sym taken ∙ h.2)

pub none_restored : (n : ℕ) (trail rest whole : List Saved) (s : Saved) (vs first : List Variable) → trail ≡ rest ++ s ∷ [] → n < length trail → length vs ≤ s.at
    → (n ≤ length trail) × (restored (drop n trail) vs ≡ restored (drop n whole) first) × (take n trail ≡ take n whole)
    → (n ≤ length rest) × (restored (drop n rest) vs ≡ restored (drop n whole) first) × (take n rest ≡ take n whole)
none_restored n trail rest whole s vs first e l past h =
    let r = one_restored n trail rest whole s vs first e l h in
    (r.0, ap (restored (drop n rest)) (sym (set_past vs s.at s.was past)) ∙ r.1, r.2)

-- a fact of fields holds of fields that are equal to them
pub by_fields : (F : List Variable → List Cell → List Structure → List Saved → Type 0) (vs us : List Variable) (args ds : List Cell) (ss rs : List Structure)
    (trail tail : List Saved) → vs ≡ us → args ≡ ds → ss ≡ rs → trail ≡ tail → F us ds rs tail → F vs args ss trail
by_fields F vs us args ds ss rs trail tail a b c d h =
    subst (λ l. F l args ss trail) (sym a) (subst (λ l. F us l ss trail) (sym b) (subst (λ l. F us ds l trail) (sym c) (subst (λ l. F us ds rs l) (sym d) h)))
