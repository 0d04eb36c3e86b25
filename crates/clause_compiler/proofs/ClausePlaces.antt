-- Places in the place of clauses' numbers, in lists and in segments.
use Rattle.std.proofs.Common.{◌≡◌, ℕ, zero, suc, ◌<◌, IsTrue, List, [], ◌∷◌, map, Some, slice_get, refl, ap, ap₂, sym, ◌∙◌, subst, arith}
use Rattle.std.proofs.lemmas.List.{length-map}
use Rattle.wam_code.specs.declared.instruction.Code.{Code}
use Rattle.wam_code.specs.declared.instruction.Code.TheVariants.{Jump, FailNow, Try, Retry, Trust, SwitchOnTerm, SwitchOnConstant, SwitchOnInteger}
use Rattle.wam_code.specs.declared.instruction.Code.TheVariants.{SwitchOnStructure}
use Rattle.clause_code.specs.ClauseChoices.{rest_of_list, list_of}
use Rattle.clause_compiler.specs.Layout.{joined, offset, is_switch}
use Rattle.clause_compiler.specs.Sections.{place_in, placed_code, IsNumbered}
use Rattle.clause_compiler.specs.Switches.{Segment, listing, switch, segment_code, code_of}
use Rattle.clause_compiler.proofs.Lists.{map_joined, never}

-- the places in place of the numbers
module _ (places : List ℕ) where
  placed_rest : (l : ℕ) (ls : List ℕ) → map (placed_code places) (rest_of_list (l ∷ ls)) ≡ rest_of_list (map (place_in places) (l ∷ ls))
  placed_rest l [] = refl
  placed_rest l (k ∷ ls) = ap (λ is. Retry (place_in places l) ∷ is) (placed_rest k ls)

  pub placed_list : (ls : List ℕ) → map (placed_code places) (list_of ls) ≡ list_of (map (place_in places) ls)
  placed_list [] = refl
  placed_list (l ∷ []) = refl
  placed_list (l ∷ k ∷ ls) = ap (λ is. Try (place_in places l) ∷ is) (placed_rest k ls)

-- the numbers in a list of choices
module _ (many : ℕ) where
  rest_numbered : (l : ℕ) (ls : List ℕ) → ((k n : ℕ) → slice_get (l ∷ ls) k ≡ Some n → n < many) → (n : ℕ) (i : Code) → slice_get (rest_of_list (l ∷ ls)) n ≡ Some i → IsNumbered many i
  rest_numbered l [] h zero i e = let s : Trust l ≡ i = cc in subst (IsNumbered many) s (h 0 l refl)
  rest_numbered l [] h (suc n) i e = absurd cc
  rest_numbered l (k ∷ ls) h zero i e = let s : Retry l ≡ i = cc in subst (IsNumbered many) s (h 0 l refl)
  rest_numbered l (k ∷ ls) h (suc n) i e = rest_numbered k ls (λ j. h (suc j)) n i e

  pub list_numbered : (ls : List ℕ) → ((k n : ℕ) → slice_get ls k ≡ Some n → n < many) → (n : ℕ) (i : Code) → slice_get (list_of ls) n ≡ Some i → IsNumbered many i
  list_numbered [] h zero i e = let s : FailNow ≡ i = cc in subst (IsNumbered many) s tt
  list_numbered [] h (suc n) i e = absurd cc
  list_numbered (l ∷ []) h zero i e = let s : Jump l ≡ i = cc in subst (IsNumbered many) s (h 0 l refl)
  list_numbered (l ∷ []) h (suc n) i e = absurd cc
  list_numbered (l ∷ k ∷ ls) h zero i e = let s : Try l ≡ i = cc in subst (IsNumbered many) s (h 0 l refl)
  list_numbered (l ∷ k ∷ ls) h (suc n) i e = rest_numbered k ls (λ j. h (suc j)) n i e

-- ---- segments

-- a segment with places in the place of numbers
abbrev pub placed_segment : List ℕ → Segment → Segment
placed_segment places (listing ns) = listing (map (place_in places) ns)
placed_segment places (switch i) = switch i

abbrev pub IsSegment : Segment → Type 0
IsSegment (listing ns) = Unit {0}
IsSegment (switch i) = IsTrue (is_switch i)

module _ (places : List ℕ) where
  placed_switch : (i : Code) → IsTrue (is_switch i) → placed_code places i ≡ i
  placed_switch (SwitchOnTerm v c i s) h = refl
  placed_switch (SwitchOnConstant t) h = refl
  placed_switch (SwitchOnInteger t) h = refl
  placed_switch (SwitchOnStructure t) h = refl
  placed_switch _ h = never h

  placed_one : (s : Segment) → IsSegment s → map (placed_code places) (segment_code s) ≡ segment_code (placed_segment places s)
  placed_one (listing ns) h = placed_list places ns
  placed_one (switch i) h = ap (λ x. x ∷ []) (placed_switch i h)

  placed_each : (ss : List Segment) → ((k : ℕ) (s : Segment) → slice_get ss k ≡ Some s → IsSegment s)
      → map (map (placed_code places)) (map segment_code ss) ≡ map segment_code (map (placed_segment places) ss)
  placed_each [] h = refl
  placed_each (s ∷ ss) h = ap₂ (λ x xs. x ∷ xs) (placed_one s (h 0 s refl)) (placed_each ss (λ k. h (suc k)))

  -- Segments are placed one by one.
  pub placed_segments : (ss : List Segment) → ((k : ℕ) (s : Segment) → slice_get ss k ≡ Some s → IsSegment s) → map (placed_code places) (code_of ss) ≡ code_of (map (placed_segment places) ss)
  placed_segments ss h = map_joined (placed_code places) (map segment_code ss) ∙ ap joined (placed_each ss h)

  offset_map : (xss : List (List Code)) (k : ℕ) → offset (map (map (placed_code places)) xss) k ≡ offset xss k
  offset_map [] k = refl
  offset_map (xs ∷ xss) zero = refl
  offset_map (xs ∷ xss) (suc k) = let l = length-map xs (placed_code places) in let r = offset_map xss k in omega (arith, l, r)

  -- They begin where they did.
  pub placed_offset : (ss : List Segment) → ((k : ℕ) (s : Segment) → slice_get ss k ≡ Some s → IsSegment s) → (k : ℕ)
      → offset (map segment_code (map (placed_segment places) ss)) k ≡ offset (map segment_code ss) k
  placed_offset ss h k = ap (λ l. offset l k) (sym (placed_each ss h)) ∙ offset_map (map segment_code ss) k

-- A switch names no clause.
pub switch_numbered : (many : ℕ) (i : Code) → IsTrue (is_switch i) → IsNumbered many i
switch_numbered many (SwitchOnTerm v c i s) h = tt
switch_numbered many (SwitchOnConstant t) h = tt
switch_numbered many (SwitchOnInteger t) h = tt
switch_numbered many (SwitchOnStructure t) h = tt
switch_numbered many _ h = never h
