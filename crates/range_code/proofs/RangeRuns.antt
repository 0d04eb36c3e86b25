-- A run gives the set of the range that is posted.
use Rattle.std.proofs.Common.{◌≡◌, ℕ, ℤ, pos, arith, Bool, true, false, cond, ◌||◌, List, [], ◌∷◌, filter, length, refl, sym, ◌∙◌, ap, subst}
use Rattle.std.specs.Prelude.{Result, IfOk}
use Rattle.std.specs.List.{All, list_any}
use Rattle.std.proofs.lemmas.Result.{IfOk-weaker}
use Rattle.std.proofs.Math.Bool.{or-false}
use Rattle.std.proofs.lemmas.List.{length-map}
use Rattle.fd_language.specs.declared.TheConstants.{INFINITY}
use Rattle.fd_language.specs.declared.range_node.Feature.{Feature}
use Rattle.fd_language.specs.declared.range_node.RangeNode.{RangeNode}
use Rattle.fd_language.specs.declared.range_node.Feature.TheVariants as feature
use Rattle.fd_language.specs.declared.range_node.RangeNode.TheVariants as node
use Rattle.fd_language.specs.Family.{Family, has, universe, IsRising, IsFamily, count_up}
use Rattle.fd_language.proofs.Lemmas.{bounded_values, filled_renamed, needs_met, two, set_same, whole_nodes}
use Rattle.fd_language.specs.Range.{Range, reads, vals, in_range, set_of, least, is_none_left, is_several}
use Rattle.fd_language.specs.Needs.{meets_needs}
use Rattle.fd_language.specs.Check.{fill_range}
use Rattle.fd_language.specs.RangeVerdict.{is_accepted}
use Rattle.fd_language.specs.Features.{range_features, features_of}
use Rattle.fd_language.specs.PostfixRanges.{nodes_of, spelled_range, IsSpelled, spelled_range-nodes}
use Rattle.fd_language.specs.CheckLaws.{AreBounded}
use Rattle.range_code.specs.declared.frame.Arg.{Arg}
use Rattle.range_code.specs.declared.frame.Standing.TheVariants.{Empty, Open, Settled}
use Rattle.domain_ranges.specs.declared.Narrowed.{Narrowed}
use Rattle.domain_ranges.specs.Narrowing.{IsNarrowed, all_but}
use Rattle.range_code.specs.Slots.{slot_of, in_slots, slots_of, slot_needs, need_at}
use Rattle.range_code.specs.ValSlots.{has_pair, val_slots}
use Rattle.range_code.specs.Frames.{IsArgumentFrame, slot_variable, slot_integer, family_of, slot_set, posted}
use Rattle.range_code.specs.Nodes.{IsSeen, IsReadable}
use Rattle.range_code.specs.Standings.{opens, standing_of, tested, IsTestSeen, TestRises}
use Rattle.range_code.specs.declared.instr.RangeInstr.{RangeInstr}
use Rattle.range_code.specs.FoldedRanges.{folded_range, folded_nodes}
use Rattle.range_code.specs.Instructions.{without_need, tests_of}
use Rattle.range_code.specs.declared.Reach.{Reach}
use Rattle.range_code.specs.declared.Reach.TheVariants as reach
use Rattle.range_code.specs.SetReaches.{IsReach}
use Rattle.range_code.specs.Forms.{all_but_val}
use Rattle.range_code.proofs.Forms.{but_val_set}
use Rattle.range_code.proofs.FoldedRanges.{set_folded, range_fits_folded, readable_folded}
use Rattle.range_code.proofs.RangeTests.{tested_is, tests_seen, some_seen, any_tested, reads_rise}
use Rattle.range_code.specs.Work.{RangeFits, filled_set}
use Rattle.fd_language.specs.Features.{feature_at}
use Rattle.range_code.proofs.Fits.{divides, fits}
use Rattle.range_code.proofs.Frames.{all_readable}
use Rattle.range_code.proofs.PostedRanges.{fits_table, one_use, frame_meets}
use Rattle.range_code.proofs.OpenVals.{all_kept, one_pair, vals_open, all_below}
use Rattle.range_code.proofs.Standings.{features_seen, all_once, any_read, any_val, reads_filled, vals_filled}

empty_rises : (c : Bool) (xs : List ℕ) → (c ≡ true → IsRising 0 INFINITY xs) → IsRising 0 INFINITY (cond c xs [])
empty_rises true xs h = h refl
empty_rises false xs h = tt

module _ (sets : List (List ℕ)) (r : Range) (args : List Arg) where
  abbrev Sets : Family
  Sets = slot_set sets args

  abbrev integers : ℕ → ℤ
  integers = slot_integer args

  abbrev by_variable : ℕ → ℤ
  by_variable y = integers (slot_of r y)

  -- the set of the posted range, by slots
  posted_is : set_of INFINITY (family_of sets) (posted r args) ≡ set_of INFINITY Sets (fill_range integers (in_slots r))
  posted_is =
      set_same INFINITY (λ y. slot_variable args (slot_of r y)) (family_of sets) (λ y. Sets (slot_of r y)) (fill_range by_variable r) (λ v h. refl)
      ∙ sym (ap (set_of INFINITY Sets) (filled_renamed (slot_of r) integers r) ∙ set_same INFINITY (slot_of r) Sets (λ y. Sets (slot_of r y)) (fill_range by_variable r) (λ v h. refl))

  abbrev filled : Range
  filled = fill_range integers (in_slots r)

  abbrev features : List (ℕ × Feature)
  features = features_of (in_slots r)

  none_is : list_any (λ d. is_none_left (Sets d.0)) features ≡ list_any (λ y. is_none_left (Sets y)) (reads filled)
  none_is = any_read (λ y. is_none_left (Sets y)) (in_slots r) ∙ sym (ap (list_any (λ y. is_none_left (Sets y))) (reads_filled integers (in_slots r)))

  open_is : list_any (opens Sets) features ≡ list_any (λ y. is_several (Sets y)) (vals filled)
  open_is = any_val (λ y. is_several (Sets y)) (in_slots r) ∙ sym (ap (list_any (λ y. is_several (Sets y))) (vals_filled integers (in_slots r)))

  by_standing : (x y : Bool) → list_any (λ d. is_none_left (Sets d.0)) features ≡ x → list_any (opens Sets) features ≡ y →
      set_of INFINITY (family_of sets) (posted r args) ≡ filter (λ n. cond x false (cond y true (in_range INFINITY Sets filled n))) (universe INFINITY)
  by_standing x y h g = posted_is ∙ (ap (λ b. filter (λ n. cond b false
      (cond (list_any (λ z. is_several (Sets z)) (vals filled)) true (in_range INFINITY Sets filled n))) (universe INFINITY)) (sym none_is ∙ h)
      ∙ ap (λ b. filter (λ n. cond x false (cond b true (in_range INFINITY Sets filled n))) (universe INFINITY)) (sym open_is ∙ g))

  keeps_none : (xs : List ℕ) → filter (λ n. false) xs ≡ []
  keeps_none [] = refl
  keeps_none (x ∷ xs) = keeps_none xs

  keeps_all : (xs : List ℕ) → filter (λ n. true) xs ≡ xs
  keeps_all [] = refl
  keeps_all (x ∷ xs) = ap (λ l. x ∷ l) (keeps_all xs)

  empty_by : (x y : Bool) → list_any (λ d. is_none_left (Sets d.0)) features ≡ x → list_any (opens Sets) features ≡ y
      → Empty ≡ cond x Empty (cond y Open Settled) → [] ≡ set_of INFINITY (family_of sets) (posted r args)
  empty_by true y h g e = sym (by_standing true y h g ∙ keeps_none (universe INFINITY))
  empty_by false true h g e = absurd cc
  empty_by false false h g e = absurd cc

  open_by : (x y : Bool) → list_any (λ d. is_none_left (Sets d.0)) features ≡ x → list_any (opens Sets) features ≡ y → Open ≡ cond x Empty (cond y Open Settled)
      → universe INFINITY ≡ set_of INFINITY (family_of sets) (posted r args)
  open_by true y h g e = absurd cc
  open_by false true h g e = sym (by_standing false true h g ∙ keeps_all (universe INFINITY))
  open_by false false h g e = absurd cc

  settled_by : (x y : Bool) → list_any (λ d. is_none_left (Sets d.0)) features ≡ x → list_any (opens Sets) features ≡ y
      → Settled ≡ cond x Empty (cond y Open Settled) → filled_set Sets integers (in_slots r) ≡ set_of INFINITY (family_of sets) (posted r args)
  settled_by true y h g e = absurd cc
  settled_by false true h g e = absurd cc
  settled_by false false h g e = sym (by_standing false false h g)

-- what is kept of an accepted range, whose arguments fit
module _ (sets : List (List ℕ)) (r : Range) (args : List Arg) (accepted : is_accepted INFINITY r ≡ true) (fit : IsArgumentFrame (length sets) r args) where
  pub read_nodes : All (IsReadable (length sets) args) (nodes_of (in_slots r))
  read_nodes = all_readable (length sets) r args fit (one_use r accepted)

  abbrev Seen : ℕ × Feature → Type 0
  Seen d = IsSeen (length sets) args d.0

  features_seen_all : All Seen (features_of (in_slots r))
  features_seen_all = all_once Seen (range_features (in_slots r)) (subst (All Seen) (whole_nodes feature_at (in_slots r)) (features_seen (length sets) args (nodes_of (in_slots r)) read_nodes))

  pub vals_there : (ys : List ℕ) → ys ≡ val_slots r → All (IsSeen (length sets) args) ys
  vals_there ys e = subst (All (IsSeen (length sets) args)) (sym e)
      (all_kept (λ s. has_pair (features_of (in_slots r)) (s, feature.Val)) (IsSeen (length sets) args) (count_up 0 (length (slots_of r)))
      (λ s h. one_pair (IsSeen (length sets) args) (features_of (in_slots r)) s feature.Val features_seen_all h))

  pub tests_there : (is : List RangeInstr) → is ≡ tests_of r → All (IsTestSeen (length sets) args) is
  tests_there is e = subst (All (IsTestSeen (length sets) args)) (sym e)
      (tests_seen (length sets) args (without_need 0 (slot_needs r)) (val_slots r) (some_seen (length sets) args (slot_needs r) fit)
      (vals_there (val_slots r) refl))

  met : meets_needs (by_variable sets r args) r ≡ true
  met = frame_meets (length sets) r args accepted fit

  -- the sets of the variables that are read, and empty ones for the others
  abbrev Rising : Family
  Rising y = cond (has (reads r) y) (Sets sets r args (slot_of r y)) []

  read_rises : All (TestRises (Sets sets r args)) (tests_of r) → (y : ℕ) → has (reads r) y ≡ true → IsRising 0 INFINITY (Sets sets r args (slot_of r y))
  read_rises = reads_rise (Sets sets r args) r (one_use r accepted)

  abbrev none : Bool
  none = list_any (λ d. is_none_left (Sets sets r args d.0)) (features_of (in_slots r))

  abbrev several : Bool
  several = list_any (opens (Sets sets r args)) (features_of (in_slots r))

  -- the slots that are read by val have several members where some pair says so
  pub opens_same : (ys : List ℕ) → ys ≡ val_slots r → list_any (λ s. is_several (Sets sets r args s)) ys ≡ list_any (opens (Sets sets r args)) (features_of (in_slots r))
  opens_same ys e =
      ap (list_any (λ s. is_several (Sets sets r args s))) e
      ∙ vals_open (Sets sets r args) (features_of (in_slots r)) (length (slots_of r))
      (all_below (length sets) (slot_needs r) args (length (slots_of r)) (features_of (in_slots r)) fit (length-map (slots_of r) (need_at r))
      features_seen_all)

  none_empty : ((d : ℕ × Feature) → is_none_left (Sets sets r args d.0) ≡ false) → (ds : List (ℕ × Feature)) → list_any (λ d. is_none_left (Sets sets r args d.0)) ds ≡ false
  none_empty h [] = refl
  none_empty h (d ∷ ds) = two (λ a b. a || b) (h d) (none_empty h ds)

  -- how the variables stand by the tests and by the features
  standing_is : (is : List RangeInstr) → is ≡ tests_of r → tested (Sets sets r args) is ≡ standing_of (Sets sets r args) (features_of (in_slots r))
  standing_is is e = ap (tested (Sets sets r args)) e ∙ (tested_is (Sets sets r args) (without_need 0 (slot_needs r)) (val_slots r)
      ∙ two (λ a b. cond a Empty (cond b Open Settled)) (any_tested r (one_use r accepted) (λ s. is_none_left (Sets sets r args s))) (opens_same (val_slots r) refl))

  -- the set by the table, and whether nodes that spell the folded range may be evaluated
  module _ (nodes : List RangeNode) (nodes_are : nodes ≡ folded_nodes r) where
    pub nodes_readable : All (IsReadable (length sets) args) nodes
    nodes_readable = subst (All (IsReadable (length sets) args)) (sym nodes_are) (readable_folded (length sets) args (in_slots r) read_nodes)

    pub nodes_spelled : IsSpelled nodes
    nodes_spelled = (folded_range (in_slots r), sym nodes_are)

    spells : spelled_range nodes ≡ folded_range (in_slots r)
    spells = ap spelled_range nodes_are ∙ spelled_range-nodes (folded_range (in_slots r))

    fits_where : ((y : ℕ) → has (reads r) y ≡ true → IsRising 0 INFINITY (Sets sets r args (slot_of r y))) → RangeFits (Sets sets r args) (integers sets r args) (spelled_range nodes)
    fits_where rise =
        let family : IsFamily INFINITY Rising = record { rising = λ y. empty_rises (has (reads r) y) (Sets sets r args (slot_of r y)) (rise y) } in
        let b : AreBounded INFINITY Rising (fill_range (by_variable sets r args) r) = bounded_values INFINITY r (by_variable sets r args) Rising accepted met family in
        subst (RangeFits (Sets sets r args) (integers sets r args)) (sym spells)
        (range_fits_folded (Sets sets r args) (integers sets r args) (in_slots r)
        (fits (slot_of r) Rising (Sets sets r args) (integers sets r args) r (λ y h. ap (λ c. cond c (Sets sets r args (slot_of r y)) []) h) b.values b.divisors
        (divides Rising (by_variable sets r args) r true (fits_table r accepted) (needs_met (by_variable sets r args) r met))))

    pub nodes_fit : (is : List RangeInstr) → is ≡ tests_of r → All (TestRises (Sets sets r args)) is → RangeFits (Sets sets r args) (integers sets r args) (spelled_range nodes)
    nodes_fit is e rises = fits_where (read_rises (subst (All (TestRises (Sets sets r args))) e rises))

    pub nodes_fit_family : IsFamily INFINITY (family_of sets) → RangeFits (Sets sets r args) (integers sets r args) (spelled_range nodes)
    nodes_fit_family f = fits_where (λ y h. f.rising (slot_variable args (slot_of r y)))

    abbrev table : List ℕ
    table = filled_set (Sets sets r args) (integers sets r args) (spelled_range nodes)

    unfolds : table ≡ filled_set (Sets sets r args) (integers sets r args) (in_slots r)
    unfolds = ap (filled_set (Sets sets r args) (integers sets r args)) spells ∙ set_folded (Sets sets r args) (integers sets r args) (in_slots r)

    table_is : list_any (λ d. is_none_left (Sets sets r args d.0)) (features_of (in_slots r)) ≡ false
        → list_any (opens (Sets sets r args)) (features_of (in_slots r)) ≡ false → table ≡ set_of INFINITY (family_of sets) (posted r args)
    table_is h g = unfolds ∙ settled_by sets r args false false h g refl

    pub gives_table : {E : Type 0} (res : Result (List ℕ) E) (is : List RangeInstr) → is ≡ tests_of r → Settled ≡ tested (Sets sets r args) is
        → IfOk res (λ d. d ≡ table) → IfOk res (λ d. d ≡ set_of INFINITY (family_of sets) (posted r args))
    gives_table res is e s h = IfOk-weaker res (λ d. d ≡ table) (λ d. d ≡ set_of INFINITY (family_of sets) (posted r args))
        (λ d g. g ∙ (unfolds ∙ settled_by sets r args none several refl refl (s ∙ standing_is is e))) h

    -- where no set is empty and no val is open
    pub table_narrows : {E : Type 0} (res : Result Narrowed E) (old : List ℕ) (ys : List ℕ) → ((k : ℕ) → is_none_left (family_of sets k) ≡ false)
        → ys ≡ val_slots r → false ≡ list_any (λ s. is_several (Sets sets r args s)) ys →
        IfOk res (IsNarrowed old table) → IfOk res (IsNarrowed old (set_of INFINITY (family_of sets) (posted r args)))
    table_narrows res old ys some e f h = IfOk-weaker res (IsNarrowed old table) (IsNarrowed old (set_of INFINITY (family_of sets) (posted r args)))
        (λ o. subst (λ l. IsNarrowed old l o) (table_is (none_empty (λ d. some (slot_variable args d.0)) (features_of (in_slots r))) (sym (opens_same ys e) ∙ sym f))) h

  -- where no set is empty and no val is open
  pub settled_set : ((k : ℕ) → is_none_left (family_of sets k) ≡ false) → list_any (λ s. is_several (Sets sets r args s)) (val_slots r) ≡ false
      → set_of INFINITY (family_of sets) (posted r args) ≡ filled_set (Sets sets r args) (integers sets r args) (in_slots r)
  settled_set some f = sym (settled_by sets r args false false (none_empty (λ d. some (slot_variable args d.0)) (features_of (in_slots r))) (sym (opens_same (val_slots r) refl) ∙ f) refl)

  -- where no set is empty and nothing is read by val
  pub shifted_set : ((k : ℕ) → is_none_left (family_of sets k) ≡ false) → val_slots r ≡ []
      → set_of INFINITY (family_of sets) (posted r args) ≡ filled_set (Sets sets r args) (integers sets r args) (in_slots r)
  shifted_set some e = settled_set some (ap (list_any (λ s. is_several (Sets sets r args s))) e)

  -- where some val is open
  pub open_set : (ys : List ℕ) → ((k : ℕ) → is_none_left (family_of sets k) ≡ false) → ys ≡ val_slots r
      → true ≡ list_any (λ s. is_several (Sets sets r args s)) ys → set_of INFINITY (family_of sets) (posted r args) ≡ universe INFINITY
  open_set ys some e f = sym (open_by sets r args false true (none_empty (λ d. some (slot_variable args d.0)) (features_of (in_slots r))) (sym (opens_same ys e) ∙ sym f) refl)

  -- where all numbers but one value are meant
  module _ (slot : ℕ) (differs : in_slots r ≡ all_but_val slot) (some : (k : ℕ) → is_none_left (family_of sets k) ≡ false) where
    pub one_open : list_any (λ s. is_several (Sets sets r args s)) (val_slots r) ≡ is_several (Sets sets r args slot)
    one_open = opens_same (val_slots r) refl ∙ (ap (λ q. list_any (opens (Sets sets r args)) (features_of q)) differs ∙ or-false (is_several (Sets sets r args slot)))

    differs_open : is_several (Sets sets r args slot) ≡ true → set_of INFINITY (family_of sets) (posted r args) ≡ universe INFINITY
    differs_open e = open_set (val_slots r) some refl (sym (one_open ∙ e))

    differs_known : is_several (Sets sets r args slot) ≡ false → set_of INFINITY (family_of sets) (posted r args) ≡ all_but (pos (least (Sets sets r args slot)))
    differs_known e = settled_set some (one_open ∙ e) ∙ (ap (filled_set (Sets sets r args) (integers sets r args)) differs ∙ but_val_set (Sets sets r args) (integers sets r args) slot)

    pub differs_reach : (d : List ℕ) (res : Reach) → d ≡ Sets sets r args slot → (is_several d ≡ true → res ≡ reach.All)
        → (is_several d ≡ false → res ≡ reach.Except (pos (least d))) → IsReach (set_of INFINITY (family_of sets) (posted r args)) res
    differs_reach d res h opened known = by (is_several d) refl where
      by : (b : Bool) → is_several d ≡ b → IsReach (set_of INFINITY (family_of sets) (posted r args)) res
      by true g = subst (IsReach (set_of INFINITY (family_of sets) (posted r args))) (sym (opened g)) (differs_open (sym (ap is_several h) ∙ g))
      by false g = subst (IsReach (set_of INFINITY (family_of sets) (posted r args))) (sym (known g)) (differs_known (sym (ap is_several h) ∙ g) ∙ ap (λ l. all_but (pos (least l))) (sym h))

  pub differs_seen : (slot : ℕ) → in_slots r ≡ all_but_val slot → IsSeen (length sets) args slot
  differs_seen slot e = subst (λ q. All (IsReadable (length sets) args) (nodes_of q)) e read_nodes 0 node.One (omega arith)

  pub gives_empty : (d : List ℕ) (is : List RangeInstr) → is ≡ tests_of r → d ≡ [] → Empty ≡ tested (Sets sets r args) is → d ≡ set_of INFINITY (family_of sets) (posted r args)
  gives_empty d is e h s = h ∙ empty_by sets r args none several refl refl (s ∙ standing_is is e)

  pub gives_all : (d : List ℕ) (is : List RangeInstr) → is ≡ tests_of r → d ≡ universe INFINITY → Open ≡ tested (Sets sets r args) is → d ≡ set_of INFINITY (family_of sets) (posted r args)
  gives_all d is e h s = h ∙ open_by sets r args none several refl refl (s ∙ standing_is is e)
