-- What is compiled is the range.
use Rattle.std.proofs.Common.{◌≡◌, ℕ, suc, ◌+◌, ◌<◌, ◌≤◌, Bool, true, false, cond, not, ◌||◌, ◌==◌, nat_lt, nat_eq, List, [], ◌∷◌, ◌++◌, length, map, filter}
use Rattle.std.proofs.Common.{fold, reverse, pos, take, get_or, Option, Some, None, IsTrue, refl, sym, ◌∙◌, ap, subst, arith, eqb-true}
use Rattle.std.specs.Prelude.{MatchOption}
use Rattle.std.specs.List.{position, position_or_len, list_all}
use Rattle.std.proofs.lemmas.List.{take_more, map-append, append_assoc}
use Rattle.std.proofs.lemmas.List.Folds.{list_any-append}
use Rattle.fd_language.specs.declared.TheConstants.{INFINITY}
use Rattle.fd_language.specs.declared.range_node.Need.{Need}
use Rattle.fd_language.specs.declared.range_node.Feature.{Feature}
use Rattle.fd_language.specs.declared.range_node.RangeNode.{RangeNode}
use Rattle.fd_language.specs.Range.{Range}
use Rattle.fd_language.specs.PostfixRanges.{nodes_of, spelled_range, spelled_range-nodes}
use Rattle.fd_language.specs.RangeVerdict.{is_accepted}
use Rattle.fd_language.specs.Needs.{needs, once}
use Rattle.fd_language.specs.declared.range_node.Feature.TheVariants as feature
use Rattle.fd_language.specs.Family.{count_up}
use Rattle.fd_language.specs.Features.{each_once, is_same_pair, feature_at, node_features}
use Rattle.fd_language.proofs.Lemmas.{two, whole_nodes, bounded_values, needs_met}
use Rattle.range_code.specs.ParameterNeeds.{need_in}
use Rattle.range_code.specs.Nodes.{node_variables, node_variable, rename_node}
use Rattle.range_code.specs.Slots.{slots_of, slot_of, slot_needs, in_slots, slot_features}
use Rattle.range_code.specs.ValSlots.{has_pair, val_slots}
use Rattle.range_code.specs.Heights.{tallest}
use Rattle.range_code.specs.FoldedRanges.{folded_nodes}
use Rattle.range_code.specs.Pieces.{piece_node, taken, literals, FitsAlone}
use Rattle.range_code.specs.Instructions.{integers}
use Rattle.range_code.specs.declared.fold.Piece.{Piece}
use Rattle.range_code.specs.CodeFields.{IsCompiled, AreStepsOf}
use Rattle.fd_language.specs.declared.range_node.Need.TheVariants as need
use Rattle.fd_language.specs.Family.{IsFamily}
use Rattle.fd_language.specs.CheckLaws.{AreBounded}
use Rattle.fd_language.specs.Check.{fill_range}
use Rattle.fd_language.specs.Needs.{meets, meets_needs}
use Rattle.range_code.proofs.Fits.{divides, fits}
use Rattle.range_code.proofs.PostedRanges.{fits_table}
use Rattle.range_code.proofs.FoldedRanges.{pieces_are}
use Rattle.range_code.specs.Forms.{IsEvaluation, IsShifted}
use Rattle.range_code.specs.declared.form.Evaluation.{Evaluation}
use Rattle.range_code.specs.declared.evaluate.Steps.{Steps}
use Rattle.range_code.specs.SlotNumbering.{IsNumbered}
use Rattle.range_code.specs.declared.compile.Numbered.{Numbered}
use Rattle.range_code.proofs.Variables.{node_variables_of, renamed_nodes, one_more}
use Rattle.range_code.proofs.SlotNeeds.{need_more, needs_found}
use Rattle.std.specs.Option.{option_to_list}

pub copied : (o : Option Range) (x r : Range) (P : Type 0) (items ns : List RangeNode) → o ≡ Some x → MatchOption o P (λ f. nodes_of f ≡ items) → items ≡ ns → ns ≡ nodes_of r → x ≡ r
copied o x r P items ns e h f g =
    let same : nodes_of x ≡ items = subst (λ q. MatchOption q P (λ f. nodes_of f ≡ items)) e h in
    sym (spelled_range-nodes x) ∙ (ap spelled_range (same ∙ (f ∙ g)) ∙ spelled_range-nodes r)

-- where no element passes, the first place that passes is the length
pub none_passes : {X : Type 0} (p : X → Bool) (xs : List X) (n : ℕ) → position p xs ≡ None → n ≡ length xs → n ≡ position_or_len p xs
none_passes {X} p xs n e h = h ∙ by_test (nat_lt (position_or_len p xs) (length xs)) refl e where
  within : (xs : List X) → position_or_len p xs ≤ length xs
  within [] = omega arith
  within (x ∷ xs) = more (p x) (position_or_len p xs) (length xs) (within xs) where
    more : (c : Bool) (m n : ℕ) → m ≤ n → cond (not c) (1 + m) 0 ≤ suc n
    more true m n h = omega arith
    more false m n h = omega arith

  by_test : (c : Bool) → nat_lt (position_or_len p xs) (length xs) ≡ c → cond c (Some (position_or_len p xs)) None ≡ None → length xs ≡ position_or_len p xs
  by_test true f g = absurd cc
  by_test false f g = let w = within xs in grind (arith, w, f)

-- and where one does, it is the place of the first
pub one_passes : {X : Type 0} (p : X → Bool) (xs : List X) (n : ℕ) → position p xs ≡ Some n → n ≡ position_or_len p xs
one_passes p xs n e = by_test (nat_lt (position_or_len p xs) (length xs)) e where
  by_test : (c : Bool) → cond c (Some (position_or_len p xs)) None ≡ Some n → n ≡ position_or_len p xs
  by_test true f = cc
  by_test false f = absurd cc

-- the image of one more element
pub mapped_more : {X Y : Type 0} (f : X → Y) (xs : List X) (i : ℕ) (d : X) (old new : List Y) (y : Y) → i < length xs → old ≡ map f (take i xs)
    → new ≡ old ++ y ∷ [] → y ≡ f (get_or xs i d) → new ≡ map f (take (i + 1) xs)
mapped_more f xs i d old new y l h e g = e ∙ (two (λ ys z. ys ++ z ∷ []) h g ∙ sym (ap (map f) (take_more xs i d l) ∙ map-append f (take i xs) (get_or xs i d ∷ [])))

-- what is put behind others grows by one more
pub mapped_onto : {X Y : Type 0} (front : List Y) (f : X → Y) (xs : List X) (i : ℕ) (d : X) (old new : List Y) (y : Y) → i < length xs
    → old ≡ front ++ map f (take i xs) → new ≡ old ++ y ∷ [] → y ≡ f (get_or xs i d) → new ≡ front ++ map f (take (i + 1) xs)
mapped_onto front f xs i d old new y l h e g = e ∙ (ap (λ ys. ys ++ y ∷ []) h
    ∙ (append_assoc front (map f (take i xs)) (y ∷ []) ∙ ap (λ ys. front ++ ys)
    (mapped_more f xs i d (map f (take i xs)) (map f (take i xs) ++ y ∷ []) y l refl refl g)))

pub mapped_twice : {X Y Z : Type 0} (front : List Z) (f : X → Y) (g : Y → Z) (xs : List X) (i : ℕ) (d : X) (old new : List Z) (z : Z) → i < length xs
    → old ≡ front ++ map g (map f (take i xs)) → new ≡ old ++ z ∷ [] → z ≡ g (f (get_or xs i d)) → new ≡ front ++ map g (map f (take (i + 1) xs))
mapped_twice front f g xs i d old new z l h e s =
    e ∙ (two (λ zs y. zs ++ y ∷ []) h s ∙ (append_assoc front (map g (map f (take i xs))) (g (f (get_or xs i d)) ∷ []) ∙ ap (λ zs. front ++ zs)
    (sym (ap (λ l. map g (map f l)) (take_more xs i d l) ∙ (ap (map g) (map-append f (take i xs) (get_or xs i d ∷ [])) ∙ map-append g (map f (take i xs)) (f (get_or xs i d) ∷ []))))))

-- one more node
pub numbered_more : (nodes : List RangeNode) (i : ℕ) (d : RangeNode) (old new : Numbered) → i < length nodes → IsNumbered (node_variables (take i nodes)) old →
    ((xs : List ℕ) → IsNumbered xs old → IsNumbered (xs ++ option_to_list (node_variable (get_or nodes i d))) new) → IsNumbered (node_variables (take (i + 1) nodes)) new
numbered_more nodes i d old new l h f = subst (λ xs. IsNumbered xs new)
    (sym (ap node_variables (take_more nodes i d l) ∙ one_more (take i nodes) (get_or nodes i d))) (f (node_variables (take i nodes)) h)

pub needs_more : (ds : List (ℕ × Need)) (i : ℕ) (d : ℕ × Need) (old new : Option Need) (y : ℕ) → i < length ds
    → new ≡ cond ((get_or ds i d).0 == y) (Some (get_or ds i d).1) old → old ≡ need_in (take i ds) y → new ≡ need_in (take (i + 1) ds) y
needs_more ds i d old new y l e h = e ∙ (ap (λ o. cond ((get_or ds i d).0 == y) (Some (get_or ds i d).1) o) h
    ∙ (sym (need_more (take i ds) (get_or ds i d) y) ∙ ap (λ k. need_in k y) (sym (take_more ds i d l))))

-- one more pair
pub met_more : (ds : List (ℕ × Feature)) (i : ℕ) (d : ℕ × Feature) (wanted : ℕ × Feature) (old new : Bool) → i < length ds → old ≡ has_pair (take i ds) wanted
    → new ≡ (is_same_pair wanted (get_or ds i d) || old) → new ≡ has_pair (take (i + 1) ds) wanted
met_more ds i d wanted old new l h f = f ∙ (ap (λ b. is_same_pair wanted (get_or ds i d) || b) h ∙ (swapped (is_same_pair wanted (get_or ds i d)) (has_pair (take i ds) wanted)
    ∙ sym (ap (λ l. has_pair l wanted) (take_more ds i d l) ∙ list_any-append (is_same_pair wanted) (take i ds) (get_or ds i d ∷ [])))) where
      swapped : (a b : Bool) → (a || b) ≡ (b || (a || false))
      swapped a b = grind arith

-- No value is over the limit where each parameter is 1, which meets each need.
one_meets : (ds : List (ℕ × Need)) → list_all (λ d. meets d.1 (pos 1)) ds ≡ true
one_meets [] = refl
one_meets ((y, need.Whole) ∷ ds) = one_meets ds
one_meets ((y, need.Natural) ∷ ds) = one_meets ds
one_meets ((y, need.Divisor) ∷ ds) = one_meets ds

fits_alone : (r : Range) → is_accepted INFINITY r ≡ true → FitsAlone (in_slots r)
fits_alone r a =
    let met : meets_needs (λ y. pos 1) r ≡ true = one_meets (needs r) in
    let family : IsFamily INFINITY (λ y. []) = record { rising = λ y. tt } in
    let b : AreBounded INFINITY (λ y. []) (fill_range (λ y. pos 1) r) = bounded_values INFINITY r (λ y. pos 1) (λ y. []) a met family in
    fits (slot_of r) (λ y. []) (λ y. []) (λ y. pos 1) r (λ y h. refl) b.values b.divisors (divides (λ y. []) (λ y. pos 1) r true (fits_table r a) (needs_met (λ y. pos 1) r met))

-- what is put in slots
pub shaped : (q : Range) (ns : List RangeNode) (slots keys : List ℕ) (asked : List (ℕ × Need)) (ms : List RangeNode) (by_slot : List (Option Need)) →
    ns ≡ nodes_of q → slots ≡ once (node_variables ns) → keys ≡ once (node_variables ns) → ms ≡ map (rename_node (λ y. position_or_len (nat_eq y) keys)) ns
    → asked ≡ needs q → by_slot ≡ map (need_in asked) slots →
    (slots ≡ slots_of q) × (by_slot ≡ slot_needs q) × (ms ≡ nodes_of (in_slots q))
shaped q ns slots keys asked ms by_slot nodes slotted keyed named d needed =
    let all : once (node_variables ns) ≡ slots_of q = ap once (ap node_variables nodes ∙ node_variables_of q) in (
      slotted ∙ all,
      needed ∙ (ap (λ l. map (need_in l) slots) d ∙ (ap (map (need_in (needs q))) (slotted ∙ all) ∙ needs_found q)),
      named ∙ (ap (λ l. map (rename_node (λ y. position_or_len (nat_eq y) l)) ns) (keyed ∙ all) ∙ (ap (map (rename_node (slot_of q))) nodes ∙ renamed_nodes (slot_of q) q)),
    )

-- what is gathered of a range in slots
pub record Gathers (r : Range) (slots : List ℕ) (ms : List RangeNode) (fs : List (ℕ × Feature)) (ys : List ℕ) (by_slot : List (Option Need)) : Type 0 where
  pub slotted : slots ≡ slots_of r
  pub needed : by_slot ≡ slot_needs r
  pub named : ms ≡ nodes_of (in_slots r)
  pub features : fs ≡ each_once (node_features ms)
  pub vals : ys ≡ filter (λ s. has_pair fs (s, feature.Val)) (count_up 0 (length slots))

-- a list without elements
pub none_there : (ys : List ℕ) (n : ℕ) → length ys ≡ n → (n == 0) ≡ true → ys ≡ []
none_there [] n e h = refl
none_there (y ∷ ys) n e h = absurd (let k : n ≡ 0 = eqb-true n 0 h in let z : ⊥ = omega (arith, e, k) in z)

-- the whole
pub compiled : (r q : Range) (slots : List ℕ) (ms : List RangeNode) (fs : List (ℕ × Feature)) (ys : List ℕ)
    (by_slot : List (Option Need)) (pieces : List Piece) (steps : Steps) (form : Evaluation) (high : ℕ) →
    IsTrue (is_accepted INFINITY r) → q ≡ r → Gathers r slots ms fs ys by_slot →
    reverse pieces ≡ fold taken [] ms → AreStepsOf by_slot ys (literals pieces) (map piece_node pieces) steps → ((x : Range) → ms ≡ nodes_of x → IsEvaluation x form)
    → (IsShifted form → ys ≡ []) → high ≡ tallest (map piece_node pieces) →
    IsCompiled q slots by_slot fs ys ms steps form high
compiled r q slots ms fs ys by_slot pieces steps form high accepted e g ps st fm sh hi =
    let told : fs ≡ slot_features r = g.features ∙ (ap (λ l. each_once (node_features l)) g.named ∙ ap each_once (whole_nodes feature_at (in_slots r))) in
    let val : ys ≡ val_slots r = g.vals ∙ (ap (λ l. filter (λ x. has_pair l (x, feature.Val)) (count_up 0 (length slots))) told
    ∙ ap (λ l. filter (λ x. has_pair (slot_features r) (x, feature.Val)) (count_up 0 (length l))) g.slotted) in
    let folds = pieces_are (in_slots r) ms pieces (fits_alone r accepted) g.named ps in
    subst (λ x. IsCompiled x slots by_slot fs ys ms steps form high) (sym e) (record {
      accepted = accepted;
      slots = g.slotted;
      needs = g.needed;
      features = told;
      vals = val;
      nodes = g.named;
      steps = subst (λ ns. AreStepsOf ns (val_slots r) (integers (folded_nodes r)) (folded_nodes r) steps) g.needed
          (subst (λ l. AreStepsOf by_slot l (integers (folded_nodes r)) (folded_nodes r) steps) val
          (subst (λ l. AreStepsOf by_slot ys l (folded_nodes r) steps) folds.values (subst (λ l. AreStepsOf by_slot ys (literals pieces) l steps) folds.nodes st)));
      form = fm (in_slots r) g.named;
      shifted = λ t. sym val ∙ sh t;
      height = hi ∙ ap tallest folds.nodes;
    })
