-- Loose variables: no compound term has them, and no variable is bound to them.
use Rattle.std.proofs.Common.{◌≡◌, ◌≢◌, ℕ, zero, suc, ◌+◌, ◌<◌, ◌≤◌, false, ◌||◌, refl, ap, sym, ◌∙◌, subst, arith, inl, inr, List, [], ◌∷◌, ◌++◌, length, map}
use Rattle.std.proofs.Common.{get_or, set, take, drop, reverse, ne_eqb, length-set, get_or-set_other, get_or-set_same}
use Rattle.std.specs.Prelude.{All}
use Rattle.std.proofs.Math.Seq.{take-suc}
use Rattle.std.proofs.lemmas.Bool.{cases_eq, cases_lt}
use Rattle.std.proofs.lemmas.List.{map-set, set_past, take-map}
use Rattle.fd_language.specs.Term.{Var}
use Rattle.heap_cells.specs.declared.Cell.{Cell}
use Rattle.heap_cells.specs.declared.Cell.TheVariants as cell
use Rattle.heap_cells.specs.declared.Variable.{Variable}
use Rattle.heap_cells.specs.declared.Variable.TheVariants as variable
use Rattle.heap_cells.specs.declared.Structure.{Structure}
use Rattle.heap_cells.specs.declared.Saved.{Saved}
use Rattle.heap_cells.specs.declared.Mark.{Mark}
use Rattle.heap_cells.specs.Cells.{Slot, free, linked, bound, Cells, Heaps, slot_at, compound_at}
use Rattle.heap_cells.specs.Terms.{Naming, terms_by, slot_term, within, term_of, occurs, occurs_any, IsAbsent}
use Rattle.heap_cells.specs.HeapInvariant.{IsHeap}
use Rattle.heap_cells.specs.HeapFields.{slot_of, compound_of, cells_of, heaps_of, restored, marked, lengths, held_at, held, held_all, IsUnheld, AreLooseAt}
use Rattle.heap_cells.specs.HeapFields.{AreStored}
use Rattle.heap_cells.proofs.Elements.{head_of, tail_of, both_of, none_at_all}
use Rattle.heap_cells.proofs.Marks.{map_same, fall_more}

-- ---- where a variable is held nowhere

-- It occurs in no cell but its own.
module _ (name : Naming) (h : Cells) (i : ℕ) (u : IsUnheld h i) where
  other_number : (k : ℕ) → cell.Ref k ≢ cell.Ref i → occurs i (Var k) ≡ false
  other_number k d = ne_eqb k i (λ e. d (ap cell.Ref e))

  in_none : (n : ℕ) → ((c : Cell) → c ≢ cell.Ref i → occurs i (within name h n c) ≡ false) → (cs : List Cell) → All (λ c. c ≢ cell.Ref i) cs → occurs_any i (terms_by (within name h n) cs) ≡ false
  in_none n f [] a = refl
  in_none n f (c ∷ cs) a =
      ap (λ b. b || occurs_any i (terms_by (within name h n) cs)) (f c (head_of (λ d. d ≢ cell.Ref i) c cs a)) ∙ in_none n f cs (tail_of (λ d. d ≢ cell.Ref i) c cs a)

  in_slot : (n k : ℕ) → cell.Ref k ≢ cell.Ref i → ((c : Cell) → c ≢ cell.Ref i → occurs i (within name h n c) ≡ false) → (s : Slot) → slot_at h k ≡ s
      → occurs i (slot_term (within name h n) k s) ≡ false
  in_slot n k d f free e = other_number k d
  in_slot n k d f (linked m) e = other_number k d
  in_slot n k d f (bound c) e = f c (λ q. u.slots k (e ∙ ap bound q))

  not_within : (n : ℕ) (c : Cell) → c ≢ cell.Ref i → occurs i (within name h n c) ≡ false
  not_within zero c d = refl
  not_within (suc n) (cell.Ref k) d = in_slot n k d (not_within n) (slot_at h k) refl
  not_within (suc n) (cell.Int z) d = refl
  not_within (suc n) (cell.Atom a) d = refl
  not_within (suc n) (cell.Struct j) d = in_none n (not_within n) (compound_at h j).args (u.parts j)

pub unheld_absent : (h : Cells) (i : ℕ) → IsUnheld h i → (j : ℕ) → IsAbsent h i (cell.Struct j)
unfolding term_of
unheld_absent h i u j name = not_within name h i u _ (cell.Struct j) (λ e. absurd cc)

-- ---- variables of which more are held

-- The same variables, but that loose ones may have become open.
pub record IsHeldMore (new old : List Variable) : Type 0 where
  pub slots : map slot_of new ≡ map slot_of old
  pub length : length new ≡ length old
  pub fewer : (i : ℕ) → get_or new i variable.Open ≡ variable.Loose → get_or old i variable.Open ≡ variable.Loose

pub more_same : (vs : List Variable) → IsHeldMore vs vs
more_same vs = record { slots = refl; length = refl; fewer = λ i e. e }

pub more_both : (a b c : List Variable) → IsHeldMore a b → IsHeldMore b c → IsHeldMore a c
more_both a b c m n = record { slots = m.slots ∙ n.slots; length = m.length ∙ n.length; fewer = λ i e. n.fewer i (m.fewer i e) }

set_more : (new old : List Variable) (k : ℕ) (v : Variable) → IsHeldMore new old → IsHeldMore (set new k v) (set old k v)
set_more new old k v m = record {
  slots = map-set slot_of new k v ∙ ap (λ l. set l k (slot_of v)) m.slots ∙ sym (map-set slot_of old k v);
  length = length-set new k v ∙ m.length ∙ sym (length-set old k v);
  fewer = λ i e. elim (cases_eq i k) [
    | inl q ↦ elim (cases_lt k (length old)) [
      | inl l ↦
          let n : k < length new = (let s = m.length in omega (arith, s, l)) in
          let there : v ≡ variable.Loose = sym (get_or-set_same new k v variable.Open n) ∙ ap (λ j. get_or (set new k v) j variable.Open) (sym q) ∙ e in
          ap (λ j. get_or (set old k v) j variable.Open) q ∙ get_or-set_same old k v variable.Open l ∙ there
      | inr l ↦
          let n : length new ≤ k = (let s = m.length in omega (arith, s, l)) in
          ap (λ l. get_or l i variable.Open) (set_past old k v l) ∙ m.fewer i (ap (λ l. get_or l i variable.Open) (sym (set_past new k v n)) ∙ e)
    ]
    | inr d ↦ get_or-set_other old k i v variable.Open d ∙ m.fewer i (sym (get_or-set_other new k i v variable.Open d) ∙ e)
  ];
}

restored_more : (es : List Saved) (new old : List Variable) → IsHeldMore new old → IsHeldMore (restored es new) (restored es old)
restored_more [] new old m = m
restored_more (s ∷ es) new old m = set_more (restored es new) (restored es old) s.at s.was (restored_more es new old m)

take_fewer : (n : ℕ) (new old : List Variable) → ((i : ℕ) → get_or new i variable.Open ≡ variable.Loose → get_or old i variable.Open ≡ variable.Loose) → length new ≡ length old
    → (i : ℕ) → get_or (take n new) i variable.Open ≡ variable.Loose → get_or (take n old) i variable.Open ≡ variable.Loose
take_fewer zero new old f l i e = absurd cc
take_fewer (suc n) [] old f l i e = absurd cc
take_fewer (suc n) (v ∷ new) [] f l i e = absurd cc
take_fewer (suc n) (v ∷ new) (u ∷ old) f l zero e = f zero e
take_fewer (suc n) (v ∷ new) (u ∷ old) f l (suc i) e = take_fewer n new old (λ k. f (suc k)) (omega (arith, l)) i e

take_length : (n : ℕ) (new old : List Variable) → length new ≡ length old → length (take n new) ≡ length (take n old)
take_length zero new old l = refl
take_length (suc n) [] [] l = refl
take_length (suc n) [] (u ∷ old) l = absurd cc
take_length (suc n) (v ∷ new) [] l = absurd cc
take_length (suc n) (v ∷ new) (u ∷ old) l = ap suc (take_length n new old (omega (arith, l)))

pub take_more : (n : ℕ) (new old : List Variable) → IsHeldMore new old → IsHeldMore (take n new) (take n old)
take_more n new old m = record {
  slots = sym (take-map slot_of n new) ∙ ap (take n) m.slots ∙ take-map slot_of n old;
  length = take_length n new old m.length;
  fewer = take_fewer n new old m.fewer m.length;
}

opened_more : (vs : List Variable) (i : ℕ) → get_or vs i variable.Open ≡ variable.Loose → IsHeldMore (set vs i variable.Open) vs
opened_more vs i was = record {
  slots = slots vs i was;
  length = length-set vs i variable.Open;
  fewer = λ k e. elim (cases_eq k i) [
    | inl q ↦ ap (λ j. get_or vs j variable.Open) q ∙ was
    | inr d ↦ sym (get_or-set_other vs i k variable.Open variable.Open d) ∙ e
  ];
}
  where
    slots : (us : List Variable) (i : ℕ) → get_or us i variable.Open ≡ variable.Loose → map slot_of (set us i variable.Open) ≡ map slot_of us
    slots [] i e = refl
    slots (u ∷ us) zero e = ap (λ (w : Variable). slot_of w ∷ map slot_of us) (sym e)
    slots (u ∷ us) (suc i) e = ap (λ l. slot_of u ∷ l) (slots us i e)

held_at_more : (vs : List Variable) (i : ℕ) (v : Variable) → get_or vs i variable.Open ≡ v → IsHeldMore (held_at vs i v) vs
held_at_more vs i variable.Open e = more_same vs
held_at_more vs i variable.Loose e = opened_more vs i e
held_at_more vs i (variable.Constrained k) e = more_same vs
held_at_more vs i (variable.Ref k) e = more_same vs
held_at_more vs i (variable.Int z) e = more_same vs
held_at_more vs i (variable.Atom a) e = more_same vs
held_at_more vs i (variable.Struct j) e = more_same vs

pub held_more : (vs : List Variable) (c : Cell) → IsHeldMore (held vs c) vs
held_more vs (cell.Ref i) = held_at_more vs i (get_or vs i variable.Open) refl
held_more vs (cell.Int z) = more_same vs
held_more vs (cell.Atom a) = more_same vs
held_more vs (cell.Struct j) = more_same vs

pub all_held_more : (vs : List Variable) (cs : List Cell) → IsHeldMore (held_all vs cs) vs
all_held_more vs [] = more_same vs
all_held_more vs (c ∷ cs) = more_both (held_all (held vs c) cs) (held vs c) vs (all_held_more (held vs c) cs) (held_more vs c)

-- what is held isn't loose
open_there : (vs : List Variable) (i : ℕ) → get_or (set vs i variable.Open) i variable.Open ≢ variable.Loose
open_there [] i e = absurd cc
open_there (v ∷ vs) zero e = absurd cc
open_there (v ∷ vs) (suc i) e = open_there vs i e

held_at_open : (vs : List Variable) (i : ℕ) (v : Variable) → get_or vs i variable.Open ≡ v → get_or (held_at vs i v) i variable.Open ≢ variable.Loose
held_at_open vs i variable.Open e l = absurd (let f : variable.Open ≡ variable.Loose = sym e ∙ l in cc)
held_at_open vs i variable.Loose e l = open_there vs i l
held_at_open vs i (variable.Constrained k) e l = absurd (let f : variable.Constrained k ≡ variable.Loose = sym e ∙ l in cc)
held_at_open vs i (variable.Ref k) e l = absurd (let f : variable.Ref k ≡ variable.Loose = sym e ∙ l in cc)
held_at_open vs i (variable.Int z) e l = absurd (let f : variable.Int z ≡ variable.Loose = sym e ∙ l in cc)
held_at_open vs i (variable.Atom a) e l = absurd (let f : variable.Atom a ≡ variable.Loose = sym e ∙ l in cc)
held_at_open vs i (variable.Struct j) e l = absurd (let f : variable.Struct j ≡ variable.Loose = sym e ∙ l in cc)

pub held_open : (vs : List Variable) (i : ℕ) (c : Cell) → get_or (held vs c) i variable.Open ≡ variable.Loose → c ≢ cell.Ref i
held_open vs i c l e = held_at_open vs i (get_or vs i variable.Open) refl (ap (λ (d : Cell). get_or (held vs d) i variable.Open) (sym e) ∙ l)

none_first : (i : ℕ) (c : Cell) (cs : List Cell) → c ≢ cell.Ref i → All (λ d. d ≢ cell.Ref i) cs → All (λ d. d ≢ cell.Ref i) (c ∷ cs)
none_first i c cs f a = both_of (λ d. d ≢ cell.Ref i) c cs f a

pub all_held_open : (vs : List Variable) (i : ℕ) (cs : List Cell) → get_or (held_all vs cs) i variable.Open ≡ variable.Loose → All (λ c. c ≢ cell.Ref i) cs
all_held_open vs i [] l = none_at_all (λ c. c ≢ cell.Ref i)
all_held_open vs i (c ∷ cs) l = none_first i c cs (held_open vs i c ((all_held_more (held vs c) cs).fewer i l)) (all_held_open (held vs c) i cs l)

-- one cell more
pub held_next : (vs : List Variable) (cs : List Cell) (c : Cell) → held_all vs (cs ++ c ∷ []) ≡ held (held_all vs cs) c
held_next vs [] c = refl
held_next vs (d ∷ cs) c = held_next (held vs d) cs c

pub held_step : (d : Cell) (vs new old : List Variable) (cs : List Cell) (i : ℕ) → new ≡ held old (get_or cs i d) → old ≡ held_all vs (take i cs) → i < length cs → new ≡ held_all vs (take (i + 1) cs)
held_step d vs new old cs i e f l =
    let next : i + 1 ≡ suc i = omega arith in
    e ∙ ap (λ us. held us (get_or cs i d)) f ∙ sym (ap (λ n. held_all vs (take n cs)) next ∙ ap (held_all vs) (take-suc cs i d l) ∙ held_next vs (take i cs) (get_or cs i d))

-- ---- the heaps are the same ones

pub cells_more : (args : List Cell) (ss : List Structure) (new old : List Variable) → IsHeldMore new old → cells_of new args ss ≡ cells_of old args ss
cells_more args ss new old m = ap (λ (l : List Slot). let h : Cells = record { slots = l; compounds = map (compound_of args) ss } in h) m.slots

module _ (args : List Cell) (ss : List Structure) (trail : List Saved) (new old : List Variable) (m : IsHeldMore new old) where
  at_mark_more : (k : Mark) → IsHeldMore (take k.variables (restored (drop k.trail trail) new)) (take k.variables (restored (drop k.trail trail) old))
  at_mark_more k = take_more k.variables (restored (drop k.trail trail) new) (restored (drop k.trail trail) old) (restored_more (drop k.trail trail) new old m)

  marked_more : (k : Mark) → marked new args ss trail k ≡ marked old args ss trail k
  marked_more k = cells_more args (take k.structures ss) (take k.variables (restored (drop k.trail trail) new)) (take k.variables (restored (drop k.trail trail) old)) (at_mark_more k)

  pub view_more : (marks : List Mark) → heaps_of new args ss trail marks ≡ heaps_of old args ss trail marks
  view_more marks =
      ap (λ (h : Cells). let r : Heaps = record { now = h; below = map (marked new args ss trail) (reverse marks) } in r) (cells_more args ss new old m)
      ∙ ap (λ (l : List Cells). let r : Heaps = record { now = cells_of old args ss; below = l } in r)
      (map_same (λ (k : Mark). Unit {0}) (marked new args ss trail) (marked old args ss trail) (λ k u. marked_more k) (reverse marks) (λ k d l. tt))

  pub stored_more : (marks : List Mark) → AreStored old args ss trail marks → AreStored new args ss trail marks
  stored_more marks k = record {
    now = subst IsHeap (sym (cells_more args ss new old m)) k.now;
    below = λ n d l. subst IsHeap (sym (marked_more (get_or (reverse marks) n d))) (k.below n d l);
    held = k.held;
    held_below = k.held_below;
    falls = fall_more (lengths new args ss trail) (lengths old args ss trail) (reverse marks) (record {
      variables = (let e = m.length in
          omega (arith, e));
      args = omega arith;
      structures = omega arith;
      trail = omega arith;
    }) k.falls;
  }

  pub loose_at_more : (k : Mark) → AreLooseAt old args ss trail k → AreLooseAt new args ss trail k
  loose_at_more k h i e = subst (λ (g : Cells). IsUnheld g i) (sym (marked_more k)) (h i ((at_mark_more k).fewer i e))
