-- Branches in order.
use Rattle.std.proofs.Common.{◌≡◌, ℕ, zero, suc, ◌<◌, Bool, true, false, List, [], ◌∷◌, length, drop, Some, refl, ap, sym, ◌∙◌, subst, arith}
use Rattle.std.specs.Prelude.{All, Result, Ok, Err, OnOk}
use Rattle.std.proofs.lemmas.Bool.{true≢false}
use Rattle.std.proofs.lemmas.List.{get_or_past, length-drop}
use Rattle.std.proofs.lemmas.List.Elements.{All-append}
use Rattle.std.proofs.lemmas.Option.{none-some}
use Rattle.fd_language.specs.declared.NoMemory.{NoMemory}
use Rattle.fd_language.specs.Family.{has}
use Rattle.fd_model.specs.ClosedFamilies.{constrained}
use Rattle.fd_model.specs.Levels.{Level, Levels}
use Rattle.heap_cells.specs.declared.Cell.{Cell}
use Rattle.heap_cells.specs.Atoms.{IsAtomBelow, HasAtomsBelow}
use Rattle.heap_cells.specs.Cells.{Cells, Compound, Heaps, no_cells, with_new_slot, with_now}
use Rattle.heap_cells.specs.HeapInvariant.{IsHeap}
use Rattle.heap_cells.proofs.Lemmas.{new_below, none_at_all, new_slot_at}
use Rattle.term_pool.specs.declared.TheConstants.{NIL}
use Rattle.unify_core.specs.declared.Touch.{Touch}
use Rattle.unify_core.specs.declared.Touch.TheVariants.{Value, Same}
use Rattle.unify_core.specs.TerminationMeasure.{unnamed}
use Rattle.unify_core.specs.Outcome.{IfTrue, IfFalse}
use Rattle.unify_core.specs.Touches.{NamesLinked}
use Rattle.unify_core.specs.Unifications.{AreUnified, IsEqualled, KeepsAtoms}
use Rattle.propagate_queue.specs.PropagationInvariant.{AreDomains}
use Rattle.fd_language.specs.declared.TheConstants.{INFINITY}
use Rattle.fd_model.specs.Bounds.{bound}
use Rattle.branch_meaning.specs.Store.{posts}
use Rattle.branch_lemmas.specs.VariableBounds.{IsBounded}
use Rattle.branch_lemmas.specs.Frames.{link_in, link_of, store_touches}
use Rattle.branch_lemmas.proofs.Lemmas.{slot_behind, linked_at, link_at}
use Rattle.branch_state.specs.States.{State, HasBounds, IsGreatest, IsPair, ArePairs, IsSound, IsSettled, first_state, no_level, without_pairs, IsCell}
use Rattle.branch_state.specs.Steps.{IsTouchBelow, AreTouchesBelow, posted_with}
use Rattle.branch_state.proofs.VariableBounds.{level_settled, somewhere_left}
use Rattle.branch_state.proofs.LevelModels.{settled}
use Rattle.branch_state.proofs.Touches.{posted_low}

no_links : (c k : ℕ) → link_in no_cells c ≡ Some k → ⊥
no_links c k e = none-some k (sym (ap link_of (slot_behind no_cells c (omega arith))) ∙ e)

no_atoms : (n : ℕ) → HasAtomsBelow n no_cells
no_atoms n = record {
  slots = λ i c e. (let f = sym (slot_behind no_cells i (omega arith)) ∙ e in absurd (cc));
  names = λ j l. absurd (omega (arith, l));
  args = λ j. subst (λ (k : Compound). All (IsAtomBelow n) k.args) (sym (get_or_past no_cells.compounds j (record { name = NIL; args = [] }) (omega arith))) (none_at_all (IsAtomBelow n));
}

-- a new branch is in order
pub first_pair : (n N : ℕ) → IsGreatest N → IsHeap no_cells → AreDomains [] [] → IsPair n N no_cells no_level
first_pair n N g valid d = record {
  valid = valid;
  names = no_atoms n;
  linked = λ c k e. absurd (no_links c k e);
  one = λ c d k e f. absurd (no_links c k e);
  posted = λ k e. absurd (true≢false (sym e));
  bounded = λ k l other. absurd (omega (arith, l));
  live = refl;
  settled = level_settled N g no_level (λ k l other. absurd (omega (arith, l))) (λ k e. absurd (true≢false (sym e))) (settled no_level d);
}

pub first_sound : (n N : ℕ) → IsGreatest N → IsHeap no_cells → AreDomains [] [] → IsSound (first_state n N)
first_sound n N g valid d = record { greatest = g; unspent = refl; marked = omega arith; below = (first_pair n N g valid d, tt); now = first_pair n N g valid d }

-- where pairs below are gone
pub pairs_counted : (n N : ℕ) (hs : List Cells) (ls : List Level) → ArePairs n N hs ls → length hs ≡ length ls
pairs_counted n N [] [] p = refl
pairs_counted n N [] (l ∷ ls) p = absurd p
pairs_counted n N (h ∷ hs) [] p = absurd p
pairs_counted n N (h ∷ hs) (l ∷ ls) p = ap suc (pairs_counted n N hs ls p.1)

fewer_pairs : (n N k : ℕ) (hs : List Cells) (ls : List Level) → ArePairs n N hs ls → ArePairs n N (drop k hs) (drop k ls)
fewer_pairs n N zero hs ls p = p
fewer_pairs n N (suc k) [] [] p = tt
fewer_pairs n N (suc k) [] (l ∷ ls) p = absurd p
fewer_pairs n N (suc k) (h ∷ hs) [] p = absurd p
fewer_pairs n N (suc k) (h ∷ hs) (l ∷ ls) p = fewer_pairs n N k hs ls p.1

pub dropped_sound : (s : State) (k : ℕ) → IsSound s → k < length s.heaps.below → IsSound (without_pairs s k)
dropped_sound s k o l = record {
  greatest = o.greatest;
  unspent = o.unspent;
  marked = omega (arith, l, length-drop k s.heaps.below);
  below = fewer_pairs s.atoms s.infinity k s.heaps.below s.levels.below o.below;
  now = o.now;
}

-- a heap with no more variables of the store
pub pair_fewer : (n N : ℕ) (h now : Cells) (l : Level) → IsPair n N h l → IsHeap now → HasAtomsBelow n now → ((c k : ℕ) → link_in now c ≡ Some k → link_in h c ≡ Some k) → IsPair n N now l
pair_fewer n N h now l p valid names fewer = record {
  valid = valid;
  names = names;
  linked = λ c k e. p.linked c k (fewer c k e);
  one = λ c d k e f. p.one c d k (fewer c k e) (fewer d k f);
  posted = p.posted;
  bounded = p.bounded;
  live = p.live;
  settled = p.settled;
}

pub heaps_sound : (s : State) → IsSound s → (h : Heaps) → h.below ≡ s.heaps.below → IsPair s.atoms s.infinity h.now s.levels.current → IsSound (record s { heaps = h })
heaps_sound s o h e p = record {
  greatest = o.greatest;
  unspent = o.unspent;
  marked = subst (λ (b : List Cells). 0 < length b) (sym e) o.marked;
  below = subst (λ (b : List Cells). ArePairs s.atoms s.infinity b s.levels.below) (sym e) o.below;
  now = p;
}

-- a new variable
pub var_sound : (s : State) → IsSound s → (h : Heaps) → h ≡ with_now s.heaps (with_new_slot s.heaps.now) → IsHeap h.now → IsSound (record s { heaps = h })
var_sound s o h e valid =
    let is : h.now ≡ with_new_slot s.heaps.now = ap (λ (x : Heaps). x.now) e in
    heaps_sound s o h (ap (λ (x : Heaps). x.below) e)
    (subst (λ (x : Cells). IsPair s.atoms s.infinity x s.levels.current) (sym is)
    (pair_fewer s.atoms s.infinity s.heaps.now (with_new_slot s.heaps.now) s.levels.current o.now (subst IsHeap is valid)
    (new_below s.atoms s.heaps.now o.now.names) (λ c k e. sym (ap link_of (new_slot_at s.heaps.now.slots c)) ∙ e)))

-- a unification leaves no new variable of the store
pub unified_fewer : (old now : Cells) (a b : Cell) (ts : List Touch) → AreUnified old a b now ts → (c k : ℕ) → link_in now c ≡ Some k → link_in old c ≡ Some k
unified_fewer old now a b ts u c k e = link_at old c k ((u unnamed).touches.still c k (linked_at now c k e)).0

pub unified_pair : (n N : ℕ) (old now : Cells) (a b : Cell) (before after : List Touch) (l : Level) → IsPair n N old l → IsEqualled old a b now before after
    → IsHeap now → HasAtomsBelow n now → IsPair n N now l
unified_pair n N old now a b before after l p u valid names = pair_fewer n N old now l p valid names (unified_fewer old now a b u.more u.unified)

touch_low : (h : Cells) (n : ℕ) → ((c k : ℕ) → link_in h c ≡ Some k → k < n) → (t : Touch) → NamesLinked h t → IsTouchBelow n t
touch_low h n low (Value k z) t = low t.0 k (link_at h t.0 k t.1)
touch_low h n low (Same k j) t = (low t.0.0 k (link_at h t.0.0 k t.0.1), low t.1.0 j (link_at h t.1.0 j t.1.1))

all_low : (h : Cells) (n : ℕ) → ((c k : ℕ) → link_in h c ≡ Some k → k < n) → (ts : List Touch) → All (NamesLinked h) ts → All (IsTouchBelow n) ts
all_low h n low ts a = λ k d l. touch_low h n low _ (a k d l)

-- and touches of the store's variables
pub touches_low : (n N : ℕ) (old now : Cells) (a b : Cell) (before after : List Touch) (l : Level) → IsPair n N old l → IsEqualled old a b now before after
    → AreTouchesBelow (length l.sets) before → AreTouchesBelow (length l.sets) after
touches_low n N old now a b before after l p u low =
    subst (AreTouchesBelow (length l.sets)) (sym u.touches)
    (All-append (IsTouchBelow (length l.sets)) before u.more low (all_low old (length l.sets) p.linked u.more (u.unified unnamed).touches.named))

pub if_true : {E : Type 0} (r : Result _ E) (P Q : Type 0) → (P → Q) → IfTrue r P → IfTrue r Q
if_true (Ok true) P Q f p = f p
if_true (Ok false) P Q f p = tt
if_true (Err e) P Q f p = tt

pub false_at : (b : Bool) (P : Type 0) → b ≡ false → IfFalse {E = NoMemory} (Ok b) P → P
false_at true P e p = absurd (true≢false e)
false_at false P e p = p

pub if_both : {E : Type 0} (r : Result _ E) (P Q : Type 0) → IfTrue r P → IfTrue r Q → IfTrue r (P × Q)
if_both (Ok true) P Q p q = (p, q)
if_both (Ok false) P Q p q = tt
if_both (Err e) P Q p q = tt

-- cells that are equal now
pub unified_sound : (s : State) → IsSound s → (h : Heaps) (a b : Cell) (before after : List Touch) → h.below ≡ s.heaps.below → IsCell s a → IsCell s b
    → IsEqualled s.heaps.now a b h.now before after → KeepsAtoms s.heaps.now a b h.now → IsHeap h.now → IsSound (record s { heaps = h })
unified_sound s o h a b before after e own_a own_b u atoms valid = heaps_sound s o h e
    (unified_pair s.atoms s.infinity s.heaps.now h.now a b before after s.levels.current o.now u valid (atoms s.atoms o.now.names own_a.1 own_b.1))

pub ok_true : {E : Type 0} (r : Result _ E) (P Q : Type 0) → (P → Q) → OnOk r P → IfTrue r Q
ok_true (Ok true) P Q f p = f p
ok_true (Ok false) P Q f p = tt
ok_true (Err e) P Q f p = tt

pub if_false_by : {E : Type 0} (r : Result _ E) (P Q R : Type 0) → (P → Q → R) → OnOk r P → IfFalse r Q → IfFalse r R
if_false_by (Ok true) P Q R f p q = tt
if_false_by (Ok false) P Q R f p q = f p q
if_false_by (Err e) P Q R f p q = tt

pub if_false_as : {E : Type 0} (r : Result _ E) (P Q : Type 0) → (P → Q) → IfFalse r P → IfFalse r Q
if_false_as (Ok true) P Q f p = tt
if_false_as (Ok false) P Q f p = f p
if_false_as (Err e) P Q f p = tt

pub levels_sound : (s : State) → IsSound s → (l : Levels) → l.below ≡ s.levels.below → l.spent ≡ false → IsPair s.atoms s.infinity s.heaps.now l.current → IsSound (record s { levels = l })
levels_sound s o l e u p = record {
  greatest = o.greatest;
  unspent = u;
  marked = o.marked;
  below = subst (ArePairs s.atoms s.infinity s.heaps.below) (sym e) o.below;
  now = p;
}

-- touches that are posted
pub posted_sound : (s : State) → IsSound s → (l : Levels) (ts : List Touch) → AreTouchesBelow (length s.levels.current.sets) ts → l.below ≡ s.levels.below
    → l.spent ≡ false → l.current.posted ≡ posted_with s ts → length l.current.sets ≡ length s.levels.current.sets
    → (l.current.failed ≡ false) × IsSettled INFINITY l.current → IsSound (record s { levels = l })
posted_sound s o l ts low e u q v k = levels_sound s o l e u (record {
  valid = o.now.valid;
  names = o.now.names;
  linked = λ c j h. subst (λ n. j < n) (sym v) (o.now.linked c j h);
  one = o.now.one;
  posted = named;
  bounded = bounded;
  live = k.0;
  settled = level_settled s.infinity o.greatest l.current bounded named k.1;
}) where
  named : (j : ℕ) → has (constrained l.current.posted) j ≡ true → j < length l.current.sets
  named j h = subst (λ n. j < n) (sym v) (posted_low (length s.levels.current.sets) s.levels.current.posted ts o.now.posted low j (subst (λ ps. has (constrained ps) j ≡ true) q h))

  bounded : HasBounds s.infinity l.current
  bounded j i other =
      subst (λ ps. IsBounded s.infinity ps j) (sym q)
      (somewhere_left (λ p. p ≡ bound s.infinity j) s.levels.current.posted (posts (store_touches ts)) (o.now.bounded j (subst (λ n. j < n) v i) other))

pub same_sound : (n N : ℕ) (h h' : Heaps) (l l' : Levels) → h ≡ h' → l ≡ l' → IsSound (record { atoms = n; infinity = N; heaps = h'; levels = l' })
    → IsSound (record { atoms = n; infinity = N; heaps = h; levels = l })
same_sound n N h h' l l' e f o = subst (λ (x : Heaps). IsSound (record { atoms = n; infinity = N; heaps = x; levels = l })) (sym e)
    (subst (λ (x : Levels). IsSound (record { atoms = n; infinity = N; heaps = h'; levels = x })) (sym f) o)
