-- A heap with one more variable, with one more compound term, or with a variable of the store.
use Rattle.std.proofs.Common.{◌≡◌, ◌≢◌, ℕ, zero, suc, ◌+◌, ◌^◌, ◌<◌, ◌≤◌, pos, Bool, true, false, cond, ◌==◌, refl, ap, sym, ◌∙◌, subst, arith, inl, inr, List}
use Rattle.std.proofs.Common.{[], ◌∷◌, ◌++◌, length, get_or, set, eq-eqb, ne_eqb, length-append, length-set}
use Rattle.std.specs.Prelude.{All}
use Rattle.std.proofs.lemmas.Bool.{cases_eq, cases_lt}
use Rattle.std.proofs.lemmas.List.{get_or_append_left}
use Rattle.std.proofs.lemmas.List.Sums.{sum_by-set, sum_by-append}
use Rattle.std.proofs.Math.Nat.{pow-suc}
use Rattle.term_pool.specs.declared.TheConstants.{NIL}
use Rattle.fd_language.specs.Term.{Term, Comp}
use Rattle.heap_cells.specs.declared.Cell.{Cell}
use Rattle.heap_cells.specs.declared.Cell.TheVariants as cell
use Rattle.heap_cells.specs.Cells.{Slot, free, linked, bound, is_bound, Compound, Cells, slot_at, compound_at, IsOf, with_slot, with_new_slot, with_compound}
use Rattle.heap_cells.specs.Terms.{Naming, slot_term, compound_term, within, term_of, KeepsTerms}
use Rattle.heap_cells.specs.HeapInvariant.{bound_in, IsRanked, IsHeap}
use Rattle.heap_cells.proofs.Ranks.{term_by_rank, slot_agrees, terms_agree}
use Rattle.heap_cells.proofs.Bindings.{slot_there, slot_elsewhere, of_same}

pub all_of : (P Q : Cell → Type 0) → ((c : Cell) → P c → Q c) → (cs : List Cell) → All P cs → All Q cs
all_of P Q f cs h = λ k d l. f (get_or cs k d) (h k d l)

-- terms are the same under one rank where they are the same at each depth
same_terms : (h g : Cells) (rank : Cell → ℕ) → IsRanked h rank → IsRanked g rank → (name : Naming) (c : Cell) → ((n : ℕ) → within name g n c ≡ within name h n c) → term_of name g c ≡ term_of name h c
same_terms h g rank r q name c e = term_by_rank name g rank q (suc (rank c)) c (omega arith) ∙ e (suc (rank c)) ∙ sym (term_by_rank name h rank r (suc (rank c)) c (omega arith))

-- one more variable
pub new_slot_at : (xs : List Slot) (i : ℕ) → get_or (xs ++ free ∷ []) i free ≡ get_or xs i free
new_slot_at [] zero = refl
new_slot_at [] (suc i) = refl
new_slot_at (x ∷ xs) zero = refl
new_slot_at (x ∷ xs) (suc i) = new_slot_at xs i

pub of_wider : (h g : Cells) (c : Cell) → length h.slots ≤ length g.slots → length h.compounds ≤ length g.compounds → IsOf h c → IsOf g c
of_wider h g (cell.Ref i) e f o = omega arith
of_wider h g (cell.Int z) e f o = tt
of_wider h g (cell.Atom a) e f o = tt
of_wider h g (cell.Struct j) e f o = omega arith

-- where a compound term can stand
module _ (h : Cells) (k : Compound) where
  pub part_old : (j : ℕ) → j < length h.compounds → compound_at (with_compound h k) j ≡ compound_at h j
  part_old j l = get_or_append_left h.compounds (k ∷ []) (record { name = NIL; args = [] }) j l

  pub part_new : (ks : List Compound) (d : Compound) → get_or (ks ++ k ∷ []) (length ks) d ≡ k
  part_new [] d = refl
  part_new (x ∷ ks) d = part_new ks d

  part_past : (ks : List Compound) (d : Compound) (j : ℕ) → length ks < j → get_or (ks ++ k ∷ []) j d ≡ d
  part_past [] d zero l = absurd (omega arith)
  part_past [] d (suc j) l = refl
  part_past (x ∷ ks) d zero l = absurd (omega arith)
  part_past (x ∷ ks) d (suc j) l = part_past ks d j (omega arith)

  pub at_part : (P : ℕ → Compound → Type 0) → ((j : ℕ) → j < length h.compounds → P j (compound_at h j)) → P (length h.compounds) k
      → ((j : ℕ) → length h.compounds < j → P j (record { name = NIL; args = [] })) → (j : ℕ) → P j (compound_at (with_compound h k) j)
  at_part P old now past j = elim (cases_eq j (length h.compounds)) [
    | inl q ↦ subst (λ n. P n (compound_at (with_compound h k) n)) (sym q) (subst (P (length h.compounds)) (sym (part_new h.compounds (record { name = NIL; args = [] }))) now)
    | inr d ↦ elim (cases_lt j (length h.compounds)) [
      | inl l ↦ subst (P j) (sym (part_old j l)) (old j l)
      | inr l ↦ (let m : length h.compounds < j = omega arith in subst (P j) (sym (part_past h.compounds (record { name = NIL; args = [] }) j m)) (past j m))
    ]
  ]

module _ (h : Cells) (valid : IsHeap h) where
  var_ranked : IsRanked (with_new_slot h) valid.ranked.0
  var_ranked = record {
    slots = λ i c e. valid.ranked.1.slots i c (sym (new_slot_at h.slots i) ∙ e);
    parts = valid.ranked.1.parts;
    low = λ c.
        let same : bound_in (h.slots ++ free ∷ []) ≡ bound_in h.slots = sum_by-append (λ s. cond (is_bound s) 1 0) h.slots (free ∷ []) ∙ omega arith in
        subst (λ n. valid.ranked.0 c < 2 ^ (n + length h.compounds)) (sym same) (valid.ranked.1.low c);
  }

  longer : length h.slots ≤ length (h.slots ++ free ∷ [])
  longer = omega (arith, length-append h.slots (free ∷ []))

  pub var_valid : IsHeap (with_new_slot h)
  var_valid = record {
    slots = λ i c e. of_wider h (with_new_slot h) c longer (omega arith) (valid.slots i c (sym (new_slot_at h.slots i) ∙ e));
    parts = λ j. all_of (IsOf h) (IsOf (with_new_slot h)) (λ c o. of_wider h (with_new_slot h) c longer (omega arith) o) (compound_at h j).args (valid.parts j);
    ranked = (valid.ranked.0, var_ranked);
  }

  var_within : (name : Naming) (n : ℕ) (c : Cell) → within name (with_new_slot h) n c ≡ within name h n c
  var_within name zero c = refl
  var_within name (suc n) (cell.Ref i) = ap (slot_term (within name (with_new_slot h) n) i) (new_slot_at h.slots i)
      ∙ slot_agrees (within name (with_new_slot h) n) (within name h n) i (slot_at h i) (λ c e. var_within name n c)
  var_within name (suc n) (cell.Int z) = refl
  var_within name (suc n) (cell.Atom a) = refl
  var_within name (suc n) (cell.Struct j) = ap (Comp (name (compound_at h j).name))
      (terms_agree (λ c. Unit {0}) (within name (with_new_slot h) n) (within name h n) (λ c u. var_within name n c) (compound_at h j).args (λ k d l. tt))

  pub var_kept : KeepsTerms h (with_new_slot h)
  var_kept name c o = same_terms h (with_new_slot h) valid.ranked.0 valid.ranked.1 var_ranked name c (λ n. var_within name n c)

  -- a variable of the store
  module _ (i k : ℕ) (there : i < length h.slots) (open_now : slot_at h i ≡ free) where
    abbrev linked_heap : Cells
    linked_heap = with_slot h i (linked k)

    bound_same : (j : ℕ) (c : Cell) → slot_at linked_heap j ≡ bound c → slot_at h j ≡ bound c
    bound_same j c e = elim (cases_eq j i) [
      | inl q ↦ (let f : linked k ≡ bound c = sym (slot_there h i (linked k) there) ∙ ap (slot_at linked_heap) (sym q) ∙ e in absurd cc)
      | inr d ↦ sym (slot_elsewhere h i j (linked k) d) ∙ e
    ]

    link_ranked : IsRanked linked_heap valid.ranked.0
    link_ranked = record {
      slots = λ j c e. valid.ranked.1.slots j c (bound_same j c e);
      parts = valid.ranked.1.parts;
      low = λ c.
          let one_of : Slot → ℕ = λ s. cond (is_bound s) 1 0 in
          let e = sum_by-set one_of h.slots i (linked k) free there in
          let was : one_of (get_or h.slots i free) ≡ 0 = ap one_of open_now in
          let same : bound_in (set h.slots i (linked k)) ≡ bound_in h.slots = omega arith in
          subst (λ n. valid.ranked.0 c < 2 ^ (n + length h.compounds)) (sym same) (valid.ranked.1.low c);
    }

    pub link_valid : IsHeap linked_heap
    link_valid = record {
      slots = λ j c e. of_same h linked_heap c (sym (length-set h.slots i (linked k))) refl (valid.slots j c (bound_same j c e));
      parts = λ j. all_of (IsOf h) (IsOf linked_heap) (λ c o. of_same h linked_heap c (sym (length-set h.slots i (linked k))) refl o) (compound_at h j).args (valid.parts j);
      ranked = (valid.ranked.0, link_ranked);
    }

    slot_same : (by : Cell → Term) (j : ℕ) → slot_term by j (slot_at linked_heap j) ≡ slot_term by j (slot_at h j)
    slot_same by j = elim (cases_eq j i) [
      | inl q ↦ ap (slot_term by j) (ap (slot_at linked_heap) q ∙ slot_there h i (linked k) there) ∙ sym (ap (slot_term by j) (ap (slot_at h) q ∙ open_now))
      | inr d ↦ ap (slot_term by j) (slot_elsewhere h i j (linked k) d)
    ]

    link_within : (name : Naming) (n : ℕ) (c : Cell) → within name linked_heap n c ≡ within name h n c
    link_within name zero c = refl
    link_within name (suc n) (cell.Ref j) = slot_same (within name linked_heap n) j ∙ slot_agrees (within name linked_heap n) (within name h n) j (slot_at h j) (λ c e. link_within name n c)
    link_within name (suc n) (cell.Int z) = refl
    link_within name (suc n) (cell.Atom a) = refl
    link_within name (suc n) (cell.Struct j) = ap (Comp (name (compound_at h j).name))
        (terms_agree (λ c. Unit {0}) (within name linked_heap n) (within name h n) (λ c u. link_within name n c) (compound_at h j).args (λ m d l. tt))

    pub link_kept : KeepsTerms h linked_heap
    link_kept name c o = same_terms h linked_heap valid.ranked.0 valid.ranked.1 link_ranked name c (λ n. link_within name n c)

  -- one more compound term
  module _ (k : Compound) (own : All (IsOf h) k.args) where
    abbrev grown : Cells
    grown = with_compound h k

    top : ℕ
    top = 2 ^ (bound_in h.slots + length h.compounds)

    rank' : Cell → ℕ
    rank' (cell.Ref i) = valid.ranked.0 (cell.Ref i)
    rank' (cell.Int z) = valid.ranked.0 (cell.Int z)
    rank' (cell.Atom a) = valid.ranked.0 (cell.Atom a)
    rank' (cell.Struct j) = cond (j == length h.compounds) top (valid.ranked.0 (cell.Struct j))

    rank_same : (c : Cell) → IsOf h c → rank' c ≡ valid.ranked.0 c
    unfolding rank'
    rank_same (cell.Ref i) o = refl
    rank_same (cell.Int z) o = refl
    rank_same (cell.Atom a) o = refl
    rank_same (cell.Struct j) o = let d : j ≢ length h.compounds = omega arith in rw (ne_eqb j (length h.compounds) d) refl

    rank_new : rank' (cell.Struct (length h.compounds)) ≡ top
    unfolding rank'
    rank_new = rw (eq-eqb (length h.compounds) (length h.compounds) refl) refl

    rank_old : (j : ℕ) → j ≢ length h.compounds → rank' (cell.Struct j) ≡ valid.ranked.0 (cell.Struct j)
    unfolding rank'
    rank_old j d = rw (ne_eqb j (length h.compounds) d) refl

    either : (b : Bool) (n : ℕ) → n < 2 ^ (bound_in h.slots + length h.compounds) → cond b top n ≤ top
    unfolding top
    either true n l = omega arith
    either false n l = omega arith

    rank_low : (c : Cell) → rank' c ≤ top
    unfolding rank' top
    rank_low (cell.Ref i) = let l = valid.ranked.1.low (cell.Ref i) in omega arith
    rank_low (cell.Int z) = let l = valid.ranked.1.low (cell.Int z) in omega arith
    rank_low (cell.Atom a) = let l = valid.ranked.1.low (cell.Atom a) in omega arith
    rank_low (cell.Struct j) = either (j == length h.compounds) (valid.ranked.0 (cell.Struct j)) (valid.ranked.1.low (cell.Struct j))

    rank_ref : (i : ℕ) → rank' (cell.Ref i) ≡ valid.ranked.0 (cell.Ref i)
    unfolding rank'
    rank_ref i = refl

    below_top : (c : Cell) → valid.ranked.0 c < top
    unfolding top
    below_top c = valid.ranked.1.low c

    doubled : (n : ℕ) → n ≤ top → n < 2 ^ suc (bound_in h.slots + length h.compounds)
    unfolding top
    doubled n l = let a = pow-suc 2 (bound_in h.slots + length h.compounds) in let b = valid.ranked.1.low (cell.Int (pos 0)) in omega arith

    struct_ranked : IsRanked grown rank'
    struct_ranked = record {
      slots = λ i c e. (let old = valid.ranked.1.slots i c e in let a = rank_same c (valid.slots i c e) in let b = rank_ref i in omega arith);
      parts = at_part h k (λ j d. All (λ c. rank' c < rank' (cell.Struct j)) d.args)
          (λ j l m d q. let old = valid.ranked.1.parts j m d q in let a = rank_same (get_or (compound_at h j).args m d) (valid.parts j m d q) in
          let n : j ≢ length h.compounds = omega arith in let b = rank_old j n in omega arith)
          (λ m d q. let a = rank_same (get_or k.args m d) (own m d q) in let b = rank_new in let l : valid.ranked.0 (get_or k.args m d) < top = below_top (get_or k.args m d) in omega arith)
          (λ j l m d q. absurd (omega arith));
      low = λ c.
          let a = rank_low c in
          let more : length (h.compounds ++ k ∷ []) ≡ length h.compounds + 1 = length-append h.compounds (k ∷ []) in
          let e : bound_in h.slots + length (h.compounds ++ k ∷ []) ≡ suc (bound_in h.slots + length h.compounds) = omega arith in
          subst (λ n. rank' c < 2 ^ n) (sym e) (doubled (rank' c) a);
    }

    counted : length h.compounds ≤ length (h.compounds ++ k ∷ [])
    counted = omega (arith, length-append h.compounds (k ∷ []))

    pub wide : (c : Cell) → IsOf h c → IsOf grown c
    wide c o = of_wider h grown c (omega arith) counted o

    pub struct_valid : IsHeap grown
    struct_valid = record {
      slots = λ i c e. wide c (valid.slots i c e);
      parts = at_part h k (λ j d. All (IsOf grown) d.args)
          (λ j l. all_of (IsOf h) (IsOf grown) wide (compound_at h j).args (valid.parts j))
          (all_of (IsOf h) (IsOf grown) wide k.args own)
          (λ j l m d q. absurd (omega arith));
      ranked = (rank', struct_ranked);
    }

    struct_within : (name : Naming) (n : ℕ) (c : Cell) → IsOf h c → within name grown n c ≡ within name h n c
    struct_within name zero c o = refl
    struct_within name (suc n) (cell.Ref i) o = slot_agrees (within name grown n) (within name h n) i (slot_at h i) (λ c e. struct_within name n c (valid.slots i c e))
    struct_within name (suc n) (cell.Int z) o = refl
    struct_within name (suc n) (cell.Atom a) o = refl
    struct_within name (suc n) (cell.Struct j) o =
        ap (compound_term name (within name grown n)) (part_old h k j o)
        ∙ ap (Comp (name (compound_at h j).name)) (terms_agree (IsOf h) (within name grown n) (within name h n) (λ c p. struct_within name n c p) (compound_at h j).args (valid.parts j))

    pub struct_kept : KeepsTerms h grown
    struct_kept name c o =
        term_by_rank name grown rank' struct_ranked (suc (rank' c)) c (omega arith)
        ∙ struct_within name (suc (rank' c)) c o
        ∙ sym (term_by_rank name h valid.ranked.0 valid.ranked.1 (suc (rank' c)) c (let a = rank_same c o in omega arith))
