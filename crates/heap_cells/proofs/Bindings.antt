-- A variable bound to a cell that it doesn't occur in.
use Rattle.std.proofs.Common.{◌≡◌, ◌≢◌, ℕ, zero, suc, ◌+◌, ◌^◌, ◌<◌, ◌≤◌, Bool, true, false, cond, refl, ap, sym, ◌∙◌, subst, arith, inl, inr, List, [], ◌∷◌}
use Rattle.std.proofs.Common.{length, get_or, set, eq-eqb, ne_eqb, get_or-set_other, get_or-set_same}
use Rattle.std.specs.Prelude.{All}
use Rattle.std.proofs.lemmas.Bool.{cases_eq, or_parts}
use Rattle.std.proofs.lemmas.List.Sums.{sum_by-set}
use Rattle.std.proofs.Math.ListN.{length-set}
use Rattle.std.proofs.Math.Nat.{pow-suc}
use Rattle.fd_language.specs.Term.{Term, Var, Comp, Substitution, apply, apply_all, term}
use Rattle.heap_cells.specs.declared.Cell.{Cell}
use Rattle.heap_cells.specs.declared.Cell.TheVariants as cell
use Rattle.heap_cells.specs.Cells.{Slot, free, linked, bound, is_bound, Cells, slot_at, compound_at, IsOf, with_slot}
use Rattle.heap_cells.specs.Terms.{Naming, terms_by, slot_term, within, term_of, occurs, occurs_any, one}
use Rattle.heap_cells.specs.HeapInvariant.{bound_in, IsRanked, IsHeap}
use Rattle.heap_cells.proofs.Ranks.{term_by_rank, term-Struct, term-Int, term-Atom, unbound_term, bound_term, terms_agree}
use Rattle.heap_cells.proofs.Substitutions.{one_other, one_self}
use Rattle.heap_cells.proofs.Elements.{both_of}

pub slot_there : (h : Cells) (i : ℕ) (s : Slot) → i < length h.slots → slot_at (with_slot h i s) i ≡ s
slot_there h i s l = get_or-set_same h.slots i s free l

pub slot_elsewhere : (h : Cells) (i j : ℕ) (s : Slot) → j ≢ i → slot_at (with_slot h i s) j ≡ slot_at h j
slot_elsewhere h i j s d = get_or-set_other h.slots i j s free d

pub bound_more : (xs : List Slot) (i : ℕ) (s : Slot) → i < length xs → is_bound (get_or xs i free) ≡ false → is_bound s ≡ true → bound_in (set xs i s) ≡ suc (bound_in xs)
bound_more xs i s l u b =
    let one_of : Slot → ℕ = λ x. cond (is_bound x) 1 0 in
    let e = sum_by-set one_of xs i s free l in
    let was : one_of (get_or xs i free) ≡ 0 = ap (λ (c : Bool). cond c 1 0) u in
    let is : one_of s ≡ 1 = ap (λ (c : Bool). cond c 1 0) b in
    omega arith

-- a variable that isn't in a compound term is in none of its parts
pub occurs_parts : (x : ℕ) (by : Cell → Term) (cs : List Cell) → occurs_any x (terms_by by cs) ≡ false → All (λ c. occurs x (by c) ≡ false) cs
occurs_parts x by [] h = λ k d l. absurd (omega arith)
occurs_parts x by (c ∷ cs) h = let two = or_parts (occurs x (by c)) (occurs_any x (terms_by by cs)) h in both_of (λ e. occurs x (by e) ≡ false) c cs two.0 (occurs_parts x by cs two.1)

pub apply-terms_by : (s : Substitution) (by : Cell → Term) (cs : List Cell) → apply_all s (terms_by by cs) ≡ terms_by (λ c. apply s (by c)) cs
apply-terms_by s by [] = refl
apply-terms_by s by (c ∷ cs) = ap (term (apply s (by c))) (apply-terms_by s by cs)

pub of_same : (h g : Cells) (c : Cell) → length h.slots ≡ length g.slots → length h.compounds ≡ length g.compounds → IsOf h c → IsOf g c
of_same h g (cell.Ref i) e f o = omega arith
of_same h g (cell.Int z) e f o = tt
of_same h g (cell.Atom a) e f o = tt
of_same h g (cell.Struct j) e f o = omega arith

raised : Bool → ℕ → ℕ → ℕ
raised b k n = cond b (n + k + 1) n

raised_less : (b : Bool) (k m n : ℕ) → m < n → raised b k m < raised b k n
unfolding raised
raised_less true k m n l = omega arith
raised_less false k m n l = l

raised_part : (a b : Bool) (k m n : ℕ) → m < n → (b ≡ false → a ≡ false) → raised a k m < raised b k n
unfolding raised
raised_part true true k m n l f = omega arith
raised_part false true k m n l f = omega arith
raised_part true false k m n l f = let e = f refl in cc
raised_part false false k m n l f = l

raised_at_most : (b : Bool) (k m : ℕ) → raised b k m ≤ m + k + 1
unfolding raised
raised_at_most true k m = omega arith
raised_at_most false k m = omega arith

-- One binding, of a variable that isn't bound.
module _ (h : Cells) (v : ℕ) (to : Cell) (valid : IsHeap h) (there : v < length h.slots) (own : IsOf h to) (unbound : is_bound (slot_at h v) ≡ false)
    (absent : (name : Naming) → occurs v (term_of name h to) ≡ false) where
  abbrev pub new : Cells
  new = with_slot h v (bound to)

  bare : Naming
  bare a = []

  rank : Cell → ℕ
  rank = valid.ranked.0

  -- a cell in which the variable occurs is raised above the variable's new value
  rank' : Cell → ℕ
  rank' c = raised (occurs v (term_of bare h c)) (rank to) (rank c)

  here : slot_at new v ≡ bound to
  here = slot_there h v (bound to) there

  elsewhere : (i : ℕ) → i ≢ v → slot_at new i ≡ slot_at h i
  elsewhere i d = slot_elsewhere h v i (bound to) d

  falls_here : rank' to < rank' (cell.Ref v)
  unfolding rank' raised
  falls_here = rw (absent bare, unbound_term bare h valid v unbound, eq-eqb v v refl) (omega arith)

  ranked : IsRanked new rank'
  unfolding rank' rank
  ranked = record {
    slots = λ i c e. elim (cases_eq i v) [
      | inl q ↦
          let same : to ≡ c = (let f : bound to ≡ bound c = sym here ∙ ap (slot_at new) (sym q) ∙ e in cc) in
          subst (λ d. rank' d < rank' (cell.Ref i)) same (subst (λ j. rank' to < rank' (cell.Ref j)) (sym q) falls_here)
      | inr d ↦
          let old : slot_at h i ≡ bound c = sym (elsewhere i d) ∙ e in
          let l = valid.ranked.1.slots i c old in
          subst (λ (t : Term). raised (occurs v (term_of bare h c)) (rank to) (rank c) < raised (occurs v t) (rank to) (rank (cell.Ref i)))
          (sym (bound_term bare h valid i c old)) (raised_less (occurs v (term_of bare h c)) (rank to) (rank c) (rank (cell.Ref i)) l)
    ];
    parts = λ j k d l.
        let old = valid.ranked.1.parts j k d l in
        raised_part (occurs v (term_of bare h (get_or (compound_at h j).args k d))) (occurs v (term_of bare h (cell.Struct j))) (rank to)
        (rank (get_or (compound_at h j).args k d)) (rank (cell.Struct j)) old
        (λ e. occurs_parts v (term_of bare h) (compound_at h j).args (ap (occurs v) (sym (term-Struct bare h valid j)) ∙ e) k d l);
    low = λ c.
        let a = valid.ranked.1.low c in
        let b = valid.ranked.1.low to in
        let m = raised_at_most (occurs v (term_of bare h c)) (rank to) (rank c) in
        let more : bound_in new.slots ≡ suc (bound_in h.slots) = bound_more h.slots v (bound to) there unbound refl in
        let e : bound_in new.slots + length h.compounds ≡ suc (bound_in h.slots + length h.compounds) = omega arith in
        subst (λ n. rank' c < 2 ^ n) (sym e) (let p = pow-suc 2 (bound_in h.slots + length h.compounds) in
        let k : rank to < 2 ^ (bound_in h.slots + length h.compounds) = b in let n : rank c < 2 ^ (bound_in h.slots + length h.compounds) = a in
        omega arith);
  }

  pub bind_valid : IsHeap new
  bind_valid = record {
    slots = λ i c e. elim (cases_eq i v) [
      | inl q ↦
          let same : to ≡ c = (let f : bound to ≡ bound c = sym here ∙ ap (slot_at new) (sym q) ∙ e in cc) in
          subst (IsOf new) same (of_same h new to (sym (length-set h.slots v (bound to))) refl own)
      | inr d ↦ of_same h new c (sym (length-set h.slots v (bound to))) refl (valid.slots i c (sym (elsewhere i d) ∙ e))
    ];
    parts = λ j k d l. of_same h new (get_or (compound_at h j).args k d) (sym (length-set h.slots v (bound to))) refl (valid.parts j k d l);
    ranked = (rank', ranked);
  }

  put : (name : Naming) → Substitution
  put name = one v (term_of name h to)

  kept_slot : (name : Naming) (n i : ℕ) → i ≢ v → ((c : Cell) → slot_at h i ≡ bound c → within name new n c ≡ apply (put name) (term_of name h c))
      → slot_term (within name new n) i (slot_at h i) ≡ apply (put name) (term_of name h (cell.Ref i))
  unfolding put
  kept_slot name n i d e = go (slot_at h i) refl
    where
      self : apply (put name) (Var i) ≡ Var i
      self = rw (ne_eqb i v d) refl

      go : (s : Slot) → slot_at h i ≡ s → slot_term (within name new n) i s ≡ apply (put name) (term_of name h (cell.Ref i))
      go free q = sym (ap (apply (put name)) (unbound_term name h valid i (ap is_bound q)) ∙ self)
      go (linked k) q = sym (ap (apply (put name)) (unbound_term name h valid i (ap is_bound q)) ∙ self)
      go (bound c) q = e c q ∙ sym (ap (apply (put name)) (bound_term name h valid i c q))

  terms_within : (name : Naming) (n : ℕ) (c : Cell) → rank' c < n → within name new n c ≡ apply (put name) (term_of name h c)
  unfolding put
  terms_within name zero c l = absurd (omega arith)
  terms_within name (suc n) (cell.Ref i) l = elim (cases_eq i v) [
    | inl q ↦
        let lower : rank' to < n = (let a = falls_here in let b : rank' (cell.Ref i) ≡ rank' (cell.Ref v) = ap (λ j. rank' (cell.Ref j)) q in omega arith) in
        subst (λ j. slot_term (within name new n) j (slot_at new j) ≡ apply (put name) (term_of name h (cell.Ref j))) (sym q)
        (ap (slot_term (within name new n) v) here ∙ terms_within name n to lower ∙ one_other v (term_of name h to) (term_of name h to) (absent name)
        ∙ sym (ap (apply (put name)) (unbound_term name h valid v unbound) ∙ one_self v (term_of name h to)))
    | inr d ↦
        ap (slot_term (within name new n) i) (elsewhere i d)
        ∙ kept_slot name n i d (λ c e. terms_within name n c (let a = ranked.slots i c (elsewhere i d ∙ e) in omega arith))
  ]
  terms_within name (suc n) (cell.Int z) l = sym (ap (apply (put name)) (term-Int name h valid z))
  terms_within name (suc n) (cell.Atom a) l = sym (ap (apply (put name)) (term-Atom name h valid a))
  terms_within name (suc n) (cell.Struct j) l =
      ap (Comp (name (compound_at h j).name))
      (terms_agree (λ c. rank' c < rank' (cell.Struct j)) (within name new n) (λ c. apply (put name) (term_of name h c))
      (λ c k. terms_within name n c (omega arith)) (compound_at h j).args (ranked.parts j)
      ∙ sym (apply-terms_by (put name) (term_of name h) (compound_at h j).args))
      ∙ sym (ap (apply (put name)) (term-Struct name h valid j))

  pub bind_terms : (name : Naming) (c : Cell) → term_of name new c ≡ apply (one v (term_of name h to)) (term_of name h c)
  unfolding put
  bind_terms name c = term_by_rank name new rank' ranked (suc (rank' c)) c (omega arith) ∙ terms_within name (suc (rank' c)) c (omega arith)
