-- Ranges that are made ready one after another.
use Rattle.std.proofs.Common.{◌≡◌, ℕ, ◌+◌, ◌<◌, ◌≤◌, List, [], ◌∷◌, ◌++◌, map, take, length, get_or, Some, None, Option, Result, Ok, Err, IsTrue, slice_get}
use Rattle.std.proofs.Common.{sym, ap, ◌∙◌, subst, arith, inl, inr, Vec, Global}
use Rattle.std.specs.Prelude.{IfOk, MatchOption}
use Rattle.std.proofs.lemmas.Bool.{cases_lt}
use Rattle.std.proofs.lemmas.Option.{same_Some, slice_get_within, slice_get-get_or}
use Rattle.std.proofs.lemmas.List.{map-append, take_more, take_all, get_or-map, length-map}
use Rattle.fd_language.specs.declared.range_node.RangeNode.{RangeNode}
use Rattle.fd_language.specs.Range.{Range}
use Rattle.fd_language.specs.declared.TheConstants.{INFINITY}
use Rattle.fd_language.specs.declared.NoMemory.{NoMemory}
use Rattle.fd_language.specs.RangeVerdict.{is_accepted}
use Rattle.fd_language.specs.PostfixRanges.{nodes_of, spelled_range, spelled_range-nodes}
use Rattle.code_listing.specs.Listing.{Sheet}
use Rattle.listing_loader.specs.Marks.{IsGoodRange, number_marks, AreRight}
use Rattle.listing_loader.specs.LoadedCode.{IsRangeFault, AreRanges}
use Rattle.listing_loader.proofs.Lists.{all_from}

-- so many ranges are good
abbrev pub AreGood : Sheet → ℕ → Type 0
AreGood s n = (k : ℕ) (ns : List RangeNode) → k < n → slice_get s.ranges k ≡ Some ns → IsGoodRange ns

module _ (s : Sheet) (i : ℕ) (ns : List RangeNode) (here : slice_get s.ranges i ≡ Some ns) where
  pub good_more : AreGood s i → IsGoodRange ns → AreGood s (i + 1)
  good_more f g k ms h e = elim (cases_lt k i) [
    | inl l ↦ f k ms l e
    | inr l ↦ subst IsGoodRange (same_Some ns ms (sym here ∙ ap (slice_get s.ranges) (let is : i ≡ k = omega (arith, h, l) in is) ∙ e)) g
  ]

  pub made_more : (rs : List Range) (r : Range) → rs ≡ map spelled_range (take i s.ranges) → r ≡ spelled_range ns → rs ++ r ∷ [] ≡ map spelled_range (take (i + 1) s.ranges)
  made_more rs r e f =
      let low = slice_get_within s.ranges i ns here in
      let is : get_or s.ranges i [] ≡ ns = same_Some _ _ (sym (slice_get-get_or s.ranges i [] low) ∙ here) in
      ap (λ qs. qs ++ r ∷ []) e ∙ ap (λ q. map spelled_range (take i s.ranges) ++ q ∷ []) (f ∙ ap spelled_range (sym is))
      ∙ sym (ap (map spelled_range) (take_more s.ranges i [] low) ∙ map-append spelled_range (take i s.ranges) (get_or s.ranges i [] ∷ []))

  pub first_bad : (line : ℕ) → line ≡ 4 + length s.atoms + i → AreRight (number_marks s) → AreGood s i → ¬ IsGoodRange ns → IsRangeFault s line
  first_bad line e r f bad = record { numbers = r; first = record { number = i; nodes = ns; at = omega (arith, e); there = here; bad = bad; before = λ k ms h g. f k ms h g } }

pub all_made : (s : Sheet) (n : ℕ) (rs : List Range) → length s.ranges ≤ n → rs ≡ map spelled_range (take n s.ranges) → AreGood s n → AreRanges s rs
all_made s n rs h e f = record {
  spelled = e ∙ ap (map spelled_range) (take_all n s.ranges h);
  good = all_from IsGoodRange s.ranges (λ k ns g. f k ns (omega (arith, h, slice_get_within s.ranges k ns g)) g);
}

-- the nodes of a range that is kept
pub kept_here : (s : Sheet) (xs : List (Vec RangeNode Global)) (i : ℕ) (v : Vec RangeNode Global) (ns : List RangeNode) → s.ranges ≡ map (λ x. x.items) xs
    → i < length xs → v ≡ get_or xs i v → ns ≡ v.items → slice_get s.ranges i ≡ Some ns
kept_here s xs i v ns all low is e =
    ap (λ l. slice_get l i) all ∙ slice_get-get_or (map (λ (x : Vec RangeNode Global). x.items) xs) i [] (omega (arith, low, length-map xs (λ (x : Vec RangeNode Global). x.items)))
    ∙ ap Some (get_or-map (λ (x : Vec RangeNode Global). x.items) xs i v [] low ∙ sym (ap (λ (x : Vec RangeNode Global). x.items) is) ∙ sym e)

-- what is answered of nodes, by what is answered of the range that they spell
pub of_nodes : (ns : List RangeNode) (q : Range) (r : Result (Option Range) NoMemory) → nodes_of q ≡ ns
    → IfOk r (λ o. MatchOption o (¬ IsTrue (is_accepted INFINITY q)) (λ p. IsTrue (is_accepted INFINITY q) × (p ≡ q)))
    → IfOk r (λ o. MatchOption o (¬ IsGoodRange ns) (λ p. IsGoodRange ns × (p ≡ spelled_range ns)))
of_nodes ns q (Ok None) e h = λ g. h (subst (λ (p : Range). IsTrue (is_accepted INFINITY p)) (sym (spelled_range-nodes g.0) ∙ ap spelled_range (g.1 ∙ sym e) ∙ spelled_range-nodes q) g.2)
of_nodes ns q (Ok (Some p)) e h = ((q, e, h.0), h.1 ∙ sym (spelled_range-nodes q) ∙ ap spelled_range e)
of_nodes ns q (Err f) e h = tt
