-- Segments are safe as the choices of a predicate.
use Rattle.std.proofs.Common.{◌≡◌, ◌⊎◌, ℕ, suc, ◌+◌, ◌<◌, ◌≤◌, IsTrue, List, [], ◌∷◌, map, option_map, Some, length, slice_get, refl, ap, sym, ◌∙◌, subst, inl}
use Rattle.std.proofs.Common.{inr, arith}
use Rattle.std.proofs.lemmas.List.{length-map}
use Rattle.std.proofs.lemmas.Option.{slice_get-map}
use Rattle.fd_language.specs.Family.{has}
use Rattle.wam_code.specs.declared.instruction.Code.{Code}
use Rattle.wam_code.specs.declared.instruction.Code.TheVariants.{SwitchOnTerm, SwitchOnConstant, SwitchOnInteger, SwitchOnStructure}
use Rattle.wam_code.specs.Area.{Area}
use Rattle.wam_code.specs.VerifiedCode.{named, is_before, is_behind, IsThere}
use Rattle.clause_compiler.specs.Layout.{offset, is_switch, is_listing, is_first, Passes, AreChoicesOf}
use Rattle.clause_compiler.specs.Switches.{Segment, listing, switch, segment_code, code_of, place_of}
use Rattle.clause_compiler.proofs.Lists.{get_there, get_joined, find_joined, offset_order, got_map, never}
use Rattle.clause_compiler.proofs.Listing.{Each, only_one, list_listed, list_first, list_next, list_previous, not_switch}

switch_first : (i : Code) → IsTrue (is_switch i) → IsTrue (is_first i)
switch_first (SwitchOnTerm v c i s) h = refl
switch_first (SwitchOnConstant t) h = refl
switch_first (SwitchOnInteger t) h = refl
switch_first (SwitchOnStructure t) h = refl
switch_first _ h = never h

switch_not_before : (i : Code) → IsTrue (is_switch i) → IsTrue (is_before i) → ⊥
switch_not_before (SwitchOnTerm v c i s) h g = never g
switch_not_before (SwitchOnConstant t) h g = never g
switch_not_before (SwitchOnInteger t) h g = never g
switch_not_before (SwitchOnStructure t) h g = never g
switch_not_before _ h g = never h

switch_not_behind : (i : Code) → IsTrue (is_switch i) → IsTrue (is_behind i) → ⊥
switch_not_behind (SwitchOnTerm v c i s) h g = never g
switch_not_behind (SwitchOnConstant t) h g = never g
switch_not_behind (SwitchOnInteger t) h g = never g
switch_not_behind (SwitchOnStructure t) h g = never g
switch_not_behind _ h g = never h

-- The first list begins at once.
pub offset_none : {X : Type 0} (xss : List (List X)) → offset xss 0 ≡ 0
offset_none [] = refl
offset_none (xs ∷ xss) = refl

-- where an instruction of segments is
pub record Spot (ss : List Segment) (n : ℕ) (i : Code) : Type 0 where
  pub k : ℕ
  pub j : ℕ
  pub s : Segment
  pub segment : slice_get ss k ≡ Some s
  pub get : slice_get (segment_code s) j ≡ Some i
  pub sum : n ≡ offset (map segment_code ss) k + j

pub spot : (ss : List Segment) (n : ℕ) (i : Code) → slice_get (code_of ss) n ≡ Some i → Spot ss n i
spot ss n i e =
    let f = find_joined (map segment_code ss) n i e in
    let g = got_map segment_code ss f.list f.elements f.at_list in
    record { k = f.list; j = f.index; s = g.0; segment = g.1; get = subst (λ xs. slice_get xs f.index ≡ Some i) g.2 f.at_index; sum = f.sum }

code_at : (ss : List Segment) (k : ℕ) (s : Segment) → slice_get ss k ≡ Some s → slice_get (map segment_code ss) k ≡ Some (segment_code s)
code_at ss k s e = slice_get-map segment_code ss k ∙ ap (λ o. option_map segment_code o) e

-- An instruction of a segment is one of them all.
pub from_segment : (ss : List Segment) (k : ℕ) (s : Segment) (j : ℕ) (i : Code) → slice_get ss k ≡ Some s → slice_get (segment_code s) j ≡ Some i
    → slice_get (code_of ss) (offset (map segment_code ss) k + j) ≡ Some i
from_segment ss k s j i e f = get_joined (map segment_code ss) k j (segment_code s) i (code_at ss k s e) f

-- Lists of places where clauses begin, and switches that lead ahead to them.
pub record AreSafe (a : Area) (begins : ℕ → Type 0) (at arity : ℕ) (ss : List Segment) : Type 0 where
  pub some : (s : Segment) × (slice_get ss 0 ≡ Some s)
  pub listings : (k : ℕ) (ls : List ℕ) → slice_get ss k ≡ Some (listing ls) → Each begins ls
  pub switches : (k : ℕ) (i : Code) → slice_get ss k ≡ Some (switch i) → IsTrue (is_switch i)
  pub argument : (k : ℕ) (i : Code) → slice_get ss k ≡ Some (switch i) → 1 ≤ arity
  pub ahead : (k : ℕ) (i : Code) (to : ℕ) → slice_get ss k ≡ Some (switch i) → IsTrue (has (named a i) to) → (m : ℕ) × (k < m) × (m < length ss) × (to ≡ place_of at ss m)
  pub there : (k : ℕ) (i : Code) → slice_get ss k ≡ Some (switch i) → IsThere a i

module _ (a : Area) (begins : ℕ → Type 0) (at arity : ℕ) (ss : List Segment) (w : AreSafe a begins at arity ss) where
  sorted : (k j : ℕ) (s : Segment) (i : Code) → slice_get ss k ≡ Some s → slice_get (segment_code s) j ≡ Some i → IsTrue (is_switch i) ⊎ IsTrue (is_listing i)
  sorted k j (listing ls) i e f = inr (list_listed a begins ls (w.listings k ls e) j i f).listing
  sorted k j (switch x) i e f = inl (subst (λ y. IsTrue (is_switch y)) (only_one x j i f).1 (w.switches k x e))

  argued : (k j : ℕ) (s : Segment) (i : Code) → slice_get ss k ≡ Some s → slice_get (segment_code s) j ≡ Some i → IsTrue (is_switch i) → 1 ≤ arity
  argued k j (listing ls) i e f h = absurd (not_switch a begins i (list_listed a begins ls (w.listings k ls e) j i f).listing h)
  argued k j (switch x) i e f h = w.argument k x e

  first_of : (k : ℕ) (s : Segment) → slice_get ss k ≡ Some s → Passes (segment_code s) is_first 0
  first_of k (listing ls) e = list_first a begins ls
  first_of k (switch x) e = (x, refl, switch_first x (w.switches k x e))

  first_at : (k : ℕ) (s : Segment) → slice_get ss k ≡ Some s → Passes (code_of ss) is_first (offset (map segment_code ss) k)
  first_at k s e =
      let f = first_of k s e in
      (f.0, subst (λ n. slice_get (code_of ss) n ≡ Some f.0) (let z : offset (map segment_code ss) k + 0 ≡ offset (map segment_code ss) k = omega arith in z) (from_segment ss k s 0 f.0 e f.1), f.2)

  leads_on : (n k j : ℕ) (s : Segment) (i : Code) (to : ℕ) → n ≡ offset (map segment_code ss) k + j → slice_get ss k ≡ Some s
      → slice_get (segment_code s) j ≡ Some i → IsTrue (has (named a i) to) → begins to ⊎ ((m : ℕ) × (to ≡ at + m) × (n < m) × Passes (code_of ss) is_first m)
  leads_on n k j (listing ls) i to sum e f h = inl ((list_listed a begins ls (w.listings k ls e) j i f).leads to h)
  leads_on n k j (switch x) i to sum e f h =
      let one = only_one x j i f in
      let first = one.0 in
      let g = w.ahead k x to e (subst (λ y. IsTrue (has (named a y) to)) (sym one.1) h) in
      let long = length-map ss segment_code in
      let inside = g.2 in
      let before = offset_order (map segment_code ss) k g.0 (x ∷ []) g.1 (code_at ss k (switch x) e) (omega (arith, inside, long)) in
      let s = get_there ss g.0 inside in
      inr (offset (map segment_code ss) g.0, g.3, omega (arith, sum, first, before), first_at g.0 s.0 s.1)

  goes_behind : (n k j : ℕ) (s : Segment) (i : Code) → n ≡ offset (map segment_code ss) k + j → slice_get ss k ≡ Some s → slice_get (segment_code s) j ≡ Some i
      → IsTrue (is_before i) → Passes (code_of ss) is_behind (suc n)
  goes_behind n k j (listing ls) i sum e f h =
      let g = list_next a begins ls j (i, f, h) in
      (g.0, subst (λ m. slice_get (code_of ss) m ≡ Some g.0) (let z : offset (map segment_code ss) k + suc j ≡ suc n = omega (arith, sum) in z) (from_segment ss k (listing ls) (suc j) g.0 e g.1), g.2)
  goes_behind n k j (switch x) i sum e f h = absurd (switch_not_before x (w.switches k x e) (subst (λ y. IsTrue (is_before y)) (sym (only_one x j i f).1) h))

  stands_before : (n k j : ℕ) (s : Segment) (i : Code) → n ≡ offset (map segment_code ss) k + j → slice_get ss k ≡ Some s
      → slice_get (segment_code s) j ≡ Some i → IsTrue (is_behind i) → (m : ℕ) × (n ≡ suc m) × Passes (code_of ss) is_before m
  stands_before n k j (listing ls) i sum e f h =
      let g = list_previous a begins ls j (i, f, h) in
      let next = g.1 in
      (offset (map segment_code ss) k + g.0, omega (arith, sum, next), (g.2.0, from_segment ss k (listing ls) g.0 g.2.0 e g.2.1, g.2.2))
  stands_before n k j (switch x) i sum e f h = absurd (switch_not_behind x (w.switches k x e) (subst (λ y. IsTrue (is_behind y)) (sym (only_one x j i f).1) h))

  is_there : (k j : ℕ) (s : Segment) (i : Code) → slice_get ss k ≡ Some s → slice_get (segment_code s) j ≡ Some i → IsThere a i
  is_there k j (listing ls) i e f = (list_listed a begins ls (w.listings k ls e) j i f).there
  is_there k j (switch x) i e f = subst (IsThere a) (only_one x j i f).1 (w.there k x e)

  first_whole : Passes (code_of ss) is_first 0
  first_whole = subst (Passes (code_of ss) is_first) (offset_none (map segment_code ss)) (first_at 0 w.some.0 w.some.1)

  -- They are.
  pub segment_choices : AreChoicesOf a begins at arity (code_of ss)
  segment_choices = record {
    first = first_whole;
    lists = λ n i e. let s = spot ss n i e in sorted s.k s.j s.s i s.segment s.get;
    argument = λ n i e h. let s = spot ss n i e in argued s.k s.j s.s i s.segment s.get h;
    leads = λ n i to e h. let s = spot ss n i e in leads_on n s.k s.j s.s i to s.sum s.segment s.get h;
    behind = λ n h. let s = spot ss n h.0 h.1 in goes_behind n s.k s.j s.s h.0 s.sum s.segment s.get h.2;
    before = λ n h. let s = spot ss n h.0 h.1 in stands_before n s.k s.j s.s h.0 s.sum s.segment s.get h.2;
    there = λ n i e. let s = spot ss n i e in is_there s.k s.j s.s i s.segment s.get;
  }
