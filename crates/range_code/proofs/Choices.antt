-- How the nodes of a range are read as a choice, and how numbers are chosen.
use Rattle.std.proofs.Common.{◌≡◌, ℕ, ◌*◌, ◌≤◌, length, Bool, true, false, ◌&&◌, ◌||◌, ◌==◌, eqb-true, eq-eqb, ℤ, pos, ◌+ℤ◌, ◌*ℤ◌, List, [], ◌∷◌, ◌++◌, filter}
use Rattle.std.proofs.Common.{sym, ◌∙◌, ap, subst, arith}
use Rattle.fd_language.proofs.Lemmas.{some_from}
use Rattle.std.specs.List.{All}
use Rattle.std.specs.List.Sorted.{IsPermutation}
use Rattle.std.specs.Ordering.{int_eq}
use Rattle.std.proofs.lemmas.Bool.{and_parts, and_from, false_from_ne_true}
use Rattle.std.proofs.Math.IntN.{+ℤ_idl}
use Rattle.std.proofs.lemmas.List.Elements.{All-nil, All-cons, All-append}
use Rattle.std.proofs.lemmas.List.Folds.{list_any-append}
use Rattle.std.proofs.lemmas.List.Sorted.{list_any-IsPermutation, All-permutation}
use Rattle.std.proofs.lemmas.Option.{same_Some}
use Rattle.std.proofs.lemmas.List.{nil_from_length}
use Rattle.std.proofs.Math.Bool.{or-false}
use Rattle.std.specs.Cmp.{both_ways}
use Rattle.fd_language.specs.declared.TheConstants.{INFINITY}
use Rattle.fd_language.specs.declared.range_node.RangeNode.{RangeNode}
use Rattle.fd_language.specs.declared.range_node.RangeNode.TheVariants as node
use Rattle.fd_language.specs.Family.{Family, has, universe}
use Rattle.fd_language.specs.Range.{Range, Union, some_number}
use Rattle.fd_language.specs.PostfixRanges.{nodes_of, range_nodes, built, builds_range}
use Rattle.domain_ranges.proofs.Lemmas.{set_same, some_has, int_same, same_int, pos_same, times_zero}
use Rattle.range_code.specs.declared.frame.Arg.{Arg}
use Rattle.range_code.specs.declared.choice.Choice.{Choice}
use Rattle.range_code.specs.declared.choice.Part.{Part}
use Rattle.range_code.specs.Nodes.{IsReadable, IsSeen}
use Rattle.range_code.specs.Choices.{part_range, is_chosen, is_in, AreRising, IsChoice, IsPairAdded, IsChoosing}

-- the number of a part is in its range where its key is in the set
module _ (S : Family) (p : ℕ → ℤ) (m : Part) (n : ℕ) (low : n ≤ INFINITY) where
  abbrev key_there : ℕ → Bool
  key_there f = int_eq m.key (pos f) && has (S m.slot) f

  abbrev from_key : ℕ → ℕ → Bool
  from_key e f = key_there f && int_eq (pos f *ℤ pos 0) (pos e)

  abbrev from_zero : ℕ → Bool
  from_zero e = some_number INFINITY (from_key e) && int_eq (pos e +ℤ m.number) (pos n)

  record Found : Type 0 where
    key : ℕ
    high : key ≤ INFINITY
    is : m.key ≡ pos key
    there : has (S m.slot) key ≡ true
    number : pos 0 +ℤ m.number ≡ pos n

  found : is_in S p (part_range m) n ≡ true → Found
  found t =
      let outer = some_from INFINITY from_zero t in
      let both = and_parts (some_number INFINITY (from_key outer.0)) (int_eq (pos outer.0 +ℤ m.number) (pos n)) outer.2 in
      let inner = some_from INFINITY (from_key outer.0) both.0 in
      let parts = and_parts (key_there inner.0) (int_eq (pos inner.0 *ℤ pos 0) (pos outer.0)) inner.2 in
      let key = and_parts (int_eq m.key (pos inner.0)) (has (S m.slot) inner.0) parts.0 in
      let zeroth : outer.0 ≡ 0 = sym (pos_same (inner.0 * 0) outer.0 (same_int (pos (inner.0 * 0)) (pos outer.0) parts.1)) ∙ times_zero inner.0 in
      record {
        key = inner.0;
        high = inner.1;
        is = same_int m.key (pos inner.0) key.0;
        there = key.1;
        number = ap (λ e. pos e +ℤ m.number) (sym zeroth) ∙ same_int (pos outer.0 +ℤ m.number) (pos n) both.1;
      }

  there : (k : ℕ) → k ≤ INFINITY → m.key ≡ pos k → has (S m.slot) k ≡ true → pos 0 +ℤ m.number ≡ pos n → is_in S p (part_range m) n ≡ true
  there k high is h number =
      some_has INFINITY from_zero 0 (omega arith)
      (and_from (some_number INFINITY (from_key 0)) (int_eq (pos 0 +ℤ m.number) (pos n))
      (some_has INFINITY (from_key 0) k high
      (and_from (key_there k) (int_eq (pos k *ℤ pos 0) (pos 0)) (and_from (int_eq m.key (pos k)) (has (S m.slot) k) (int_same m.key (pos k) is) h)
      (int_same (pos (k * 0)) (pos 0) (ap pos (times_zero k)))))
      (int_same (pos 0 +ℤ m.number) (pos n) number))

  none_there : ((k j : ℕ) → k ≤ INFINITY → j ≤ INFINITY → m.key ≡ pos k → m.number ≡ pos j → ⊥) → is_in S p (part_range m) n ≡ false
  none_there h = false_from_ne_true (is_in S p (part_range m) n) (λ t. let f = found t in h f.key n f.high low f.is (sym (+ℤ_idl m.number) ∙ f.number))

  pair_there : (d : ℕ × ℕ) → m.key ≡ pos d.0 → m.number ≡ pos d.1 → d.0 ≤ INFINITY → (has (S m.slot) d.0 && (d.1 == n)) ≡ is_in S p (part_range m) n
  pair_there d key number high = both_ways (has (S m.slot) d.0 && (d.1 == n)) (is_in S p (part_range m) n)
      (λ t. let both = and_parts (has (S m.slot) d.0) (d.1 == n) t in there d.0 high key both.0 (+ℤ_idl m.number ∙ (number ∙ ap pos (eqb-true d.1 n both.1))))
      (λ t. let f = found t in
      let at : f.key ≡ d.0 = pos_same f.key d.0 (sym f.is ∙ key) in
      let is : d.1 ≡ n = pos_same d.1 n (sym number ∙ (sym (+ℤ_idl m.number) ∙ f.number)) in
      and_from (has (S m.slot) d.0) (d.1 == n) (ap (has (S m.slot)) (sym at) ∙ f.there) (eq-eqb d.1 n is))

abbrev IsHigh : ℕ × ℕ → Type 0
IsHigh d = d.1 ≤ INFINITY

pub pair_added : (m : Part) (old new : List (ℕ × ℕ)) (d : ℕ × ℕ) → new ≡ old ++ d ∷ [] → m.key ≡ pos d.0 → m.number ≡ pos d.1 → d.0 ≤ INFINITY → d.1 ≤ INFINITY → IsPairAdded m old new
pair_added m old new d e key number high top = record {
  same = λ S p n low. ap (λ l. is_chosen (S m.slot) l n) e ∙ (list_any-append (λ c. has (S m.slot) c.0 && (c.1 == n)) old (d ∷ [])
      ∙ ap (λ b. is_chosen (S m.slot) old n || b) (or-false (has (S m.slot) d.0 && (d.1 == n)) ∙ pair_there S p m n low d key number high));
  high = λ h. subst (All IsHigh) (sym e) (All-append IsHigh old (d ∷ []) h (All-cons IsHigh d [] top (All-nil IsHigh)));
}

pub none_added : (m : Part) (old new : List (ℕ × ℕ)) → new ≡ old → ((k j : ℕ) → k ≤ INFINITY → j ≤ INFINITY → m.key ≡ pos k → m.number ≡ pos j → ⊥) → IsPairAdded m old new
none_added m old new e none = record {
  same = λ S p n low. ap (λ l. is_chosen (S m.slot) l n) e ∙ sym (ap (λ b. is_chosen (S m.slot) old n || b) (none_there S p m n low none) ∙ or-false (is_chosen (S m.slot) old n));
  high = λ h. subst (All IsHigh) (sym e) h;
}

-- the first part, and one more
third_seen : (count : ℕ) (args : List Arg) (m : Part) (rest : List RangeNode) → All (IsReadable count args) (range_nodes (part_range m) rest) → IsSeen count args m.slot
third_seen count args m rest h = h 2 node.One (omega arith)

pub choosing_first : (ns rest : List RangeNode) (m : Part) (ds : List (ℕ × ℕ)) → ns ≡ range_nodes (part_range m) rest → IsPairAdded m [] ds → IsChoosing ns m.slot ds rest
choosing_first ns rest m ds e a = record {
  range = part_range m;
  nodes = ap (λ l. built l [] []) e ∙ builds_range (part_range m) rest [];
  same = λ S p n low. sym (a.same S p n low);
  high = a.high (All-nil IsHigh);
  seen = λ count args h. third_seen count args m rest (subst (All (IsReadable count args)) e h);
}

pub choosing_more : (ns rest behind : List RangeNode) (slot : ℕ) (m : Part) (old new : List (ℕ × ℕ)) → IsChoosing ns slot old rest
    → rest ≡ range_nodes (part_range m) (node.Union ∷ behind) → m.slot ≡ slot → IsPairAdded m old new → IsChoosing ns slot new behind
choosing_more ns rest behind slot m old new f e s a = record {
  range = Union f.range (part_range m);
  nodes = f.nodes ∙ (ap (λ l. built l (f.range ∷ []) []) e ∙ builds_range (part_range m) (node.Union ∷ behind) (f.range ∷ []));
  same = λ S p n low. ap (λ b. b || is_in S p (part_range m) n) (f.same S p n low ∙ ap (λ k. is_chosen (S k) old n) (sym s)) ∙ (sym (a.same S p n low) ∙ ap (λ k. is_chosen (S k) new n) s);
  high = a.high f.high;
  seen = f.seen;
}

pub choosing_whole : (ns rest : List RangeNode) (ds : List (ℕ × ℕ)) (c : Choice) → IsChoosing ns c.slot ds rest → length rest ≡ 0
    → IsPermutation ds c.pairs.items → AreRising c.pairs.items → (r : Range) → ns ≡ nodes_of r → IsChoice r c
choosing_whole ns rest ds c f none perm rise r e =
    let is : r ≡ f.range = same_Some r f.range (sym (ap (λ l. built l [] []) e ∙ builds_range r [] []) ∙ (f.nodes ∙ ap (λ l. built l (f.range ∷ []) []) (nil_from_length rest none))) in
    record {
      set = λ S p. ap (λ q. filter (is_in S p q) (universe INFINITY)) is
          ∙ set_same INFINITY (is_in S p f.range) (is_chosen (S c.slot) c.pairs.items)
          (λ n low. f.same S p n low ∙ list_any-IsPermutation (λ d. has (S c.slot) d.0 && (d.1 == n)) ds c.pairs.items perm);
      high = All-permutation IsHigh ds c.pairs.items perm f.high;
      rising = rise;
      seen = λ count args h. f.seen count args (subst (All (IsReadable count args)) (sym e) h);
    }
