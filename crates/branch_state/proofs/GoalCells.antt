-- The cells of a goal are made ready: its target, and behind it slot by slot.
use Rattle.std.proofs.Common.{◌≡◌, ℕ, zero, suc, ◌+◌, ◌<◌, true, false, cond, ◌==◌, ℤ, List, [], ◌∷◌, ◌++◌, length, map, take, get_or, Option, Some, None}
use Rattle.std.proofs.Common.{is_some, refl, ap, sym, ◌∙◌, subst, inl, inr, ◌⊎◌, arith, append-nil, eq-eqb, ne_eqb}
use Rattle.std.proofs.lemmas.Bool.{or_left, or_right, true≢false}
use Rattle.std.proofs.lemmas.List.{length-map}
use Rattle.fd_language.specs.declared.range_node.Need.{Need}
use Rattle.fd_language.specs.Family.{Family, has}
use Rattle.fd_language.specs.Occurrences.{range_occurrences}
use Rattle.fd_language.specs.Range.{Range}
use Rattle.fd_language.specs.Term.{Term, Var, Int, Atom, Comp, Substitution}
use Rattle.fd_language.proofs.Lemmas.{has_either, in_left, in_right, only_member}
use Rattle.fd_model.specs.declared.kinds.QueryFault.{QueryFault}
use Rattle.heap_cells.specs.declared.Cell.{Cell}
use Rattle.heap_cells.specs.Cells.{Cells}
use Rattle.heap_cells.specs.Terms.{Naming}
use Rattle.range_code.specs.declared.frame.Arg.{Arg}
use Rattle.range_code.specs.declared.frame.Arg.TheVariants as arg
use Rattle.range_code.specs.Frames.{family_of}
use Rattle.range_code.specs.Slots.{slots_of}
use Rattle.unify_core.specs.declared.Touch.{Touch}
use Rattle.branch_lemmas.specs.CellRanges.{slot_terms}
use Rattle.heap_cells.specs.SeenTerms.{seen_term}
use Rattle.branch_state.specs.declared.cell_looks.Look.{Look}
use Rattle.heap_cells.specs.SeenTerms.{seen_term}
use Rattle.branch_state.specs.CellVariables.{shown_slots, slots_open, NamedBy, slot_in, IsTermNaming, TermStep, SlotStep, AreCellsReady}
use Rattle.branch_state.specs.StoreVariables.{LooksAs, IsKind, IsInteger, offence, first_in, Apart, StandsIn, AllStand, OwnLinks}
use Rattle.branch_state.proofs.SlotOccurrences.{apart_once}
use Rattle.branch_state.proofs.CellLooks.{look_kind, number_is}
use Rattle.branch_state.proofs.Occurrences.{variables}
use Rattle.branch_state.proofs.RangeSlots.{fine_at, take_lengths, take_next, stand_more}
use Rattle.branch_state.proofs.CellVariables.{IsNextTerm, terms_start, terms_same, term_next}

-- ---- a slot's cell

has_at : (ys : List ℕ) (i : ℕ) → i < length ys → has ys (get_or ys i 0) ≡ true
has_at [] i l = absurd (omega (arith, l))
has_at (y ∷ ys) zero l = or_left (y == y) (has ys y) (eq-eqb y y refl)
has_at (y ∷ ys) (suc i) l = or_right (y == get_or ys i 0) (has ys (get_or ys i 0)) (has_at ys i (omega (arith, l)))

-- each of different variables is seen as its own cell
pub slot_shown : (name : Naming) (h : Cells) (G : Family) (ys : List ℕ) (ds : List Cell) (d : Cell) → Apart ys → length ds ≡ length ys → (i : ℕ) → i < length ys
    → slot_terms name h G ys ds (get_or ys i 0) ≡ seen_term name h G (get_or ds i d)
slot_shown name h G [] ds d a e i l = absurd (omega (arith, l))
slot_shown name h G (y ∷ ys) [] d a e i l = absurd (omega (arith, e))
slot_shown name h G (y ∷ ys) (c ∷ ds) d a e zero l = ap (λ b. cond b (seen_term name h G c) (slot_terms name h G ys ds y)) (eq-eqb y y refl)
slot_shown name h G (y ∷ ys) (c ∷ ds) d a e (suc i) l =
    let other : (y == get_or ys i 0) ≡ false = ne_eqb y (get_or ys i 0) (λ k. true≢false (sym (has_at ys i (omega (arith, l))) ∙ ap (has ys) (sym k) ∙ a.0)) in
    ap (λ b. cond b (seen_term name h G c) (slot_terms name h G ys ds (get_or ys i 0))) other ∙ slot_shown name h G ys ds d a.1 (omega (arith, e)) i (omega (arith, l))

-- and so is each slot of a range
pub cell_shown : (name : Naming) (h : Cells) (sets : List (List ℕ)) (r : Range) (ds : List Cell) (d : Cell) → length ds ≡ length (slots_of r) → (i : ℕ)
    → i < length (slots_of r) → shown_slots name h sets r ds (get_or (slots_of r) i 0) ≡ seen_term name h (family_of sets) (get_or ds i d)
cell_shown name h sets r ds d e i l = slot_shown name h (family_of sets) (slots_of r) ds d (apart_once (variables (range_occurrences r))) e i l

-- the offence of a slot, by what its cell looks as
pub cell_offence : (name : Naming) (h : Cells) (sets : List (List ℕ)) (r : Range) (ds : List Cell) (d : Cell) → length ds ≡ length (slots_of r) → (i : ℕ)
    → i < length (slots_of r) → (k : Look) → LooksAs h (seen_term name h (family_of sets) (get_or ds i d)) k → (need : Option Need) (o : Option QueryFault)
    → ((t : Term) → IsKind t k → o ≡ offence need t)
    → o ≡ offence need (shown_slots name h sets r ds (get_or (slots_of r) i 0))
cell_offence name h sets r ds d e i l k looks need o is =
    let see = shown_slots name h sets r ds (get_or (slots_of r) i 0) in
    is see (look_kind h see k (subst (λ t. LooksAs h t k) (sym (cell_shown name h sets r ds d e i l)) looks))

-- ---- one argument

pub slot_number : (t : Term) (need : Option Need) (h : Cells) (sets : List (List ℕ)) (fs : List Touch) (of : ℤ → Option ℕ) (l : Look) (w : ℤ) (a : Arg)
    → is_some need ≡ true → LooksAs h t l → IsInteger l w → a ≡ arg.Int w → SlotStep t need h sets fs of h sets fs of a
slot_number t None h sets fs of l w a e k i is = absurd (true≢false (sym e))
slot_number t (Some n) h sets fs of l w a e k i is = (refl, refl, refl, refl, λ z f. is ∙ ap arg.Int (number_is h t l w z k i f))

pub slot_named : (t : Term) (need : Option Need) (h : Cells) (sets : List (List ℕ)) (fs : List Touch) (of : ℤ → Option ℕ) (now : Cells) (S : List (List ℕ))
    (fs' : List Touch) (of' : ℤ → Option ℕ) (l : Look) (k : ℕ) → is_some need ≡ false → LooksAs h t l → TermStep l h sets fs of now S fs' of' k
    → SlotStep t need h sets fs of now S fs' of' (arg.Var k)
slot_named t (Some n) h sets fs of now S fs' of' l k e looks st = absurd (true≢false e)
slot_named t None h sets fs of now S fs' of' l k e looks st = (l, k, refl, looks, st)

-- ---- slots that are no parameters

abbrev added : ℕ → Option Need → List ℕ
added y None = y ∷ []
added y (Some n) = []

open_more : (ys : List ℕ) (ns : List (Option Need)) (y : ℕ) (n : Option Need) → length ys ≡ length ns → slots_open (ys ++ y ∷ []) (ns ++ n ∷ []) ≡ slots_open ys ns ++ added y n
open_more [] [] y None l = refl
open_more [] [] y (Some n) l = refl
open_more [] (m ∷ ns) y n l = absurd (omega (arith, l))
open_more (x ∷ ys) [] y n l = absurd (omega (arith, l))
open_more (x ∷ ys) (None ∷ ns) y n l = ap (λ zs. x ∷ zs) (open_more ys ns y n (omega (arith, l)))
open_more (x ∷ ys) (Some m ∷ ns) y n l = open_more ys ns y n (omega (arith, l))

stand_same : (see : Substitution) (f g : ℕ → ℕ) (ys : List ℕ) (ns : List (Option Need)) (as' : List Arg)
    → ((y : ℕ) → has (slots_open ys ns) y ≡ true → f y ≡ g y) → AllStand see f ys ns as' → AllStand see g ys ns as'
stand_same see f g [] [] [] h t = tt
stand_same see f g [] [] (a ∷ as') h t = absurd t
stand_same see f g [] (n ∷ ns) as' h t = absurd t
stand_same see f g (y ∷ ys) [] as' h t = absurd t
stand_same see f g (y ∷ ys) (n ∷ ns) [] h t = absurd t
stand_same see f g (y ∷ ys) (None ∷ ns) (a ∷ as') h t = (
  t.0 ∙ ap arg.Var (h y (or_left (y == y) (has (slots_open ys ns) y) (eq-eqb y y refl))),
  stand_same see f g ys ns as' (λ z k. h z (or_right (y == z) (has (slots_open ys ns) z) k)) t.1,
)
stand_same see f g (y ∷ ys) (Some n ∷ ns) (a ∷ as') h t = (t.0, stand_same see f g ys ns as' h t.1)

-- ---- the target, and one slot more

pub cells_start : (h : Cells) (sets : List (List ℕ)) (of : ℤ → Option ℕ) → ((z : ℤ) → of z ≡ None) → OwnLinks (length sets) h
    → (t : Term) (see : Substitution) (l : Look) → LooksAs h t l → (now : Cells) (S : List (List ℕ)) (fs : List Touch) (of' : ℤ → Option ℕ) (k : ℕ)
    → TermStep l h sets [] of now S fs of' k
    → AreCellsReady t see h sets [] [] now S fs of' k []
cells_start h sets of none o t see l looks now S fs of' k st =
    let n = term_next h sets (λ u. ⊥) h sets [] of (terms_start h sets of none o) t l looks now S fs of' k st in
    record {
      naming = terms_same h sets (λ v. ⊥ ⊎ (v ≡ t)) (NamedBy t see []) now S fs of' (λ u e. elim e [ inl a ↦ absurd a | inr a ↦ inl a ])
          (λ u e. elim e [ inl a ↦ inr a | inr a ↦ absurd (true≢false (sym a.1)) ]) n.naming;
      at = n.own;
      stand = tt;
    }

module _ (t : Term) (see : Substitution) (h : Cells) (sets : List (List ℕ)) (ys : List ℕ) (ns : List (Option Need)) (same : length ys ≡ length ns) (now : Cells)
    (S : List (List ℕ)) (fs : List Touch) (of : ℤ → Option ℕ) (k : ℕ) (as' : List Arg) (r : AreCellsReady t see h sets ys ns now S fs of k as') (y : ℕ) where
  abbrev Next : Option Need → Cells → List (List ℕ) → List Touch → (ℤ → Option ℕ) → Arg → Type 0
  Next need now' S' fs' of' a = AreCellsReady t see h sets (ys ++ y ∷ []) (ns ++ need ∷ []) now' S' fs' of' k (as' ++ a ∷ [])

  parameter_next : (n : Need) (a : Arg) → StandsIn see (λ z. slot_in now of (see z)) y (Some n) a → Next (Some n) now S fs of a
  parameter_next n a st =
      let names : slots_open (ys ++ y ∷ []) (ns ++ Some n ∷ []) ≡ slots_open ys ns = open_more ys ns y (Some n) same ∙ append-nil (slots_open ys ns) in
      record {
        naming = subst (λ l. IsTermNaming h sets (NamedBy t see l) now S fs of) (sym names) r.naming;
        at = r.at;
        stand = stand_more see (λ z. slot_in now of (see z)) ys ns as' y (Some n) a r.stand st;
      }

  open_next : (now' : Cells) (S' : List (List ℕ)) (fs' : List Touch) (of' : ℤ → Option ℕ) (j : ℕ)
      → IsNextTerm h sets (NamedBy t see (slots_open ys ns)) now S fs of r.naming (see y) now' S' fs' of' j → Next None now' S' fs' of' (arg.Var j)
  open_next now' S' fs' of' j n = record {
    naming = terms_same h sets (λ v. NamedBy t see (slots_open ys ns) v ⊎ (v ≡ see y)) (NamedBy t see (slots_open (ys ++ y ∷ []) (ns ++ None ∷ []))) now' S' fs' of' to from n.naming;
    at = r.at ∙ n.others t (inl refl);
    stand = stand_more see (λ z. slot_in now' of' (see z)) ys ns as' y None (arg.Var j)
        (stand_same see (λ z. slot_in now of (see z)) (λ z. slot_in now' of' (see z)) ys ns as' (λ z i. n.others (see z) (inr (z, i, refl))) r.stand) (ap arg.Var n.own);
  } where
    names : slots_open (ys ++ y ∷ []) (ns ++ None ∷ []) ≡ slots_open ys ns ++ y ∷ []
    names = open_more ys ns y None same

    to : (u : Term) → NamedBy t see (slots_open ys ns) u ⊎ (u ≡ see y) → NamedBy t see (slots_open (ys ++ y ∷ []) (ns ++ None ∷ [])) u
    to u e = subst (λ l. NamedBy t see l u) (sym names) (elim e [
      | inl a ↦ elim a [ inl b ↦ inl b | inr b ↦ inr (b.0, in_left (slots_open ys ns) (y ∷ []) b.0 b.1, b.2) ]
      | inr a ↦ inr (y, in_right (slots_open ys ns) (y ∷ []) y (or_left (y == y) false (eq-eqb y y refl)), a)
    ])

    from : (u : Term) → NamedBy t see (slots_open (ys ++ y ∷ []) (ns ++ None ∷ [])) u → NamedBy t see (slots_open ys ns) u ⊎ (u ≡ see y)
    from u e = elim (subst (λ l. NamedBy t see l u) names e) [
      | inl a ↦ inl (inl a)
      | inr a ↦ elim (has_either (slots_open ys ns) (y ∷ []) a.0 a.1) [ inl b ↦ inl (inr (a.0, b, a.2)) | inr b ↦ inr (a.2 ∙ ap see (sym (only_member y a.0 b))) ]
    ]

  integer_there : (m : Need) (u : Term) → see y ≡ u → offence (Some m) u ≡ None → (z : ℤ) × (see y ≡ Int z)
  integer_there m (Var z) e f = absurd (cc)
  integer_there m (Int z) e f = (z, e)
  integer_there m (Atom b) e f = absurd (cc)
  integer_there m (Comp q ts) e f = absurd (cc)

  pub cells_next : (need : Option Need) (now' : Cells) (S' : List (List ℕ)) (fs' : List Touch) (of' : ℤ → Option ℕ) (a : Arg)
      → SlotStep (see y) need now S fs of now' S' fs' of' a → offence need (see y) ≡ None → Next need now' S' fs' of' a
  cells_next (Some m) now' S' fs' of' a st fine =
      let i = integer_there m (see y) refl fine in
      subst (λ (o : ℤ → Option ℕ). Next (Some m) now' S' fs' o a) (sym st.3)
      (subst (λ (f : List Touch). Next (Some m) now' S' f of a) (sym st.2) (subst (λ (z : List (List ℕ)). Next (Some m) now' z fs of a) (sym st.1)
      (subst (λ (z : Cells). Next (Some m) z S fs of a) (sym st.0) (parameter_next m a (i.0, i.1, st.4 i.0 i.1)))))
  cells_next None now' S' fs' of' a st fine =
      subst (Next None now' S' fs' of') (sym st.2) (open_next now' S' fs' of' st.1
      (term_next h sets (NamedBy t see (slots_open ys ns)) now S fs of r.naming (see y) st.0 st.3 now' S' fs' of' st.1 st.4))

-- the loop over a range's slots
pub cells_more : (t : Term) (see : Substitution) (h : Cells) (sets : List (List ℕ)) (slots : List ℕ) (need : ℕ → Option Need) → first_in see slots (map need slots) ≡ None
    → (i : ℕ) → i < length slots → (now : Cells) (S : List (List ℕ)) (fs : List Touch) (of : ℤ → Option ℕ) (k : ℕ) (as' : List Arg)
    → AreCellsReady t see h sets (take i slots) (take i (map need slots)) now S fs of k as'
    → (now' : Cells) (S' : List (List ℕ)) (fs' : List Touch) (of' : ℤ → Option ℕ) (a : Arg) → SlotStep (see (get_or slots i 0)) (get_or (map need slots) i None) now S fs of now' S' fs' of' a
    → (as'' : List Arg) → as'' ≡ as' ++ a ∷ [] → AreCellsReady t see h sets (take (i + 1) slots) (take (i + 1) (map need slots)) now' S' fs' of' k as''
cells_more t see h sets slots need fine i l now S fs of k as' r now' S' fs' of' a step as'' e =
    let nl : i < length (map need slots) = (let m = length-map slots need in omega (arith, l, m)) in
    let next = cells_next t see h sets (take i slots) (take i (map need slots)) (take_lengths need slots i) now S fs of k as' r (get_or slots i 0)
    (get_or (map need slots) i None) now' S' fs' of' a step (fine_at see slots (map need slots) i 0 None l nl fine) in
    let more : suc i ≡ i + 1 = omega arith in
    let one = subst (λ ys. AreCellsReady t see h sets ys (take i (map need slots) ++ get_or (map need slots) i None ∷ []) now' S' fs' of' k (as' ++ a ∷ [])) (sym (take_next slots i 0 l)) next in
    let two = subst (λ (ns : List (Option Need)). AreCellsReady t see h sets (take (suc i) slots) ns now' S' fs' of' k (as' ++ a ∷ [])) (sym (take_next (map need slots) i None nl)) one in
    let three = subst (λ m. AreCellsReady t see h sets (take m slots) (take m (map need slots)) now' S' fs' of' k (as' ++ a ∷ [])) more two in
    subst (AreCellsReady t see h sets (take (i + 1) slots) (take (i + 1) (map need slots)) now' S' fs' of' k) (sym e) three
