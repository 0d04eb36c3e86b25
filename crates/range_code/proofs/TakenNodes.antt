-- Each node that is read leaves the values and sets that wait those of the terms and ranges that wait.
use Rattle.std.proofs.Common.{◌≡◌, ℕ, suc, ◌+◌, ◌-◌, ℤ, pos, get_or, List, [], ◌∷◌, ◌++◌, filter, Option, Some, None, refl, sym, ◌∙◌, ap, subst, ◌⊎◌, inl, inr}
use Rattle.std.proofs.Common.{arith}
use Rattle.fd_language.specs.declared.TheConstants.{INFINITY}
use Rattle.fd_language.specs.declared.range_node.RangeNode.{RangeNode}
use Rattle.fd_language.specs.declared.range_node.RangeNode.TheVariants as node
use Rattle.fd_language.specs.Family.{Family, has, IsRising}
use Rattle.fd_language.specs.Range.{Range, Span, One, Dom, Union, Inter, Outside, Plus, Minus, Times, Over, Expr, Number, Param, Min, Max, Val, Add, Sub, Mul}
use Rattle.fd_language.specs.Range.{DivDown, DivUp, in_range}
use Rattle.fd_language.specs.Check.{fill_range}
use Rattle.fd_language.specs.PostfixRanges.{built}
use Rattle.range_code.specs.declared.work.Work.{Work}
use Rattle.range_code.specs.Work.{leaf_value, filled_value, filled_set, stacked_values, stacked_sets, IsPending, Follows, IsTaken, CanTake, CanTakeTerms}
use Rattle.range_code.specs.Work.{CanTakeRange}
use Rattle.range_code.specs.Heights.{Counts, IsCounted}
use Rattle.domain_ranges.specs.Narrowing.{between}
use Rattle.range_code.specs.Steps.{PushesValue, PushesSet, Operates, Spans, Singles, either, Joins, Meets, outside, Complements, moved, Moves}
use Rattle.range_code.specs.declared.instr.RangeInstr.{RangeInstr}
use Rattle.range_code.specs.declared.instr.RangeInstr.TheVariants as instr
use Rattle.range_code.specs.Instructions.{operator_of, node_of}
use Rattle.range_code.proofs.Tables.{one_is, dom_is, union_is, inter_is, outside_is, plus_is, minus_is, times_is, over_is}

follows : (S : Family) (p : ℕ → ℤ) (ns : List RangeNode) (rs : List Range) (ts : List Expr) (o : Option Range) (w : Work) → o ≡ built ns rs ts → IsPending S p rs ts w → Follows S p ns o w
follows S p ns rs ts None w e i = tt
follows S p ns rs ts (Some r) w e i = (rs, ts, e, i)

module _ (S : Family) (p : ℕ → ℤ) (ns : List RangeNode) (old new : Work) where
  put_term : (rs : List Range) (ts : List Expr) (front : List ℤ) (e : Expr) → front ≡ stacked_values S p ts
      → new.values.items ≡ front ++ filled_value S p e ∷ [] → new.sets ≡ old.sets → old.sets.sets ≡ stacked_sets S p rs →
      IsPending S p rs (e ∷ ts) new
  put_term rs ts front e f v s o = record { values = v ∙ ap (λ l. l ++ filled_value S p e ∷ []) f; sets = ap (λ w. w.sets) s ∙ o }

  put_range : (rs : List Range) (front : List (List ℕ)) (r : Range) (s : List ℕ) → front ≡ stacked_sets S p rs → s ≡ filled_set S p r → new.values.items ≡ []
      → new.sets.sets ≡ s ∷ front → IsPending S p (r ∷ rs) [] new
  put_range rs front r s f e v i = record { values = v; sets = i ∙ (ap (λ l. s ∷ l) f ∙ ap (λ x. x ∷ stacked_sets S p rs) e) }

  pub read_int : (z : ℤ) (rs : List Range) (ts : List Expr) → IsPending S p rs ts old → PushesValue (leaf_value S p (node.Int z)) old new → Follows S p ns (built (node.Int z ∷ ns) rs ts) new
  read_int z rs ts w f = follows S p ns rs (Number z ∷ ts) (built ns rs (Number z ∷ ts)) new refl (put_term rs ts old.values.items (Number z) w.values f.0 f.1 w.sets)

  pub read_param : (x : ℕ) (rs : List Range) (ts : List Expr) → IsPending S p rs ts old → PushesValue (leaf_value S p (node.Param x)) old new → Follows S p ns (built (node.Param x ∷ ns) rs ts) new
  read_param x rs ts w f = follows S p ns rs (Param x ∷ ts) (built ns rs (Param x ∷ ts)) new refl (put_term rs ts old.values.items (Param x) w.values f.0 f.1 w.sets)

  pub read_min : (y : ℕ) (rs : List Range) (ts : List Expr) → IsPending S p rs ts old → PushesValue (leaf_value S p (node.Min y)) old new → Follows S p ns (built (node.Min y ∷ ns) rs ts) new
  read_min y rs ts w f = follows S p ns rs (Min y ∷ ts) (built ns rs (Min y ∷ ts)) new refl (put_term rs ts old.values.items (Min y) w.values f.0 f.1 w.sets)

  pub read_max : (y : ℕ) (rs : List Range) (ts : List Expr) → IsPending S p rs ts old → PushesValue (leaf_value S p (node.Max y)) old new → Follows S p ns (built (node.Max y ∷ ns) rs ts) new
  read_max y rs ts w f = follows S p ns rs (Max y ∷ ts) (built ns rs (Max y ∷ ts)) new refl (put_term rs ts old.values.items (Max y) w.values f.0 f.1 w.sets)

  pub read_val : (y : ℕ) (rs : List Range) (ts : List Expr) → IsPending S p rs ts old → PushesValue (leaf_value S p (node.Val y)) old new → Follows S p ns (built (node.Val y ∷ ns) rs ts) new
  read_val y rs ts w f = follows S p ns rs (Val y ∷ ts) (built ns rs (Val y ∷ ts)) new refl (put_term rs ts old.values.items (Val y) w.values f.0 f.1 w.sets)

  pub read_add : (rs : List Range) (ts : List Expr) → IsPending S p rs ts old → Operates node.Add old new → Follows S p ns (built (node.Add ∷ ns) rs ts) new
  read_add rs [] w f = tt
  read_add rs (b ∷ []) w f = tt
  read_add rs (b ∷ a ∷ ts) w f =
      let made = f (stacked_values S p ts) (filled_value S p a) (filled_value S p b) w.values in
      follows S p ns rs (Add a b ∷ ts) (built ns rs (Add a b ∷ ts)) new refl (put_term rs ts (stacked_values S p ts) (Add a b) refl made.0 made.1 w.sets)

  pub read_sub : (rs : List Range) (ts : List Expr) → IsPending S p rs ts old → Operates node.Sub old new → Follows S p ns (built (node.Sub ∷ ns) rs ts) new
  read_sub rs [] w f = tt
  read_sub rs (b ∷ []) w f = tt
  read_sub rs (b ∷ a ∷ ts) w f =
      let made = f (stacked_values S p ts) (filled_value S p a) (filled_value S p b) w.values in
      follows S p ns rs (Sub a b ∷ ts) (built ns rs (Sub a b ∷ ts)) new refl (put_term rs ts (stacked_values S p ts) (Sub a b) refl made.0 made.1 w.sets)

  pub read_mul : (rs : List Range) (ts : List Expr) → IsPending S p rs ts old → Operates node.Mul old new → Follows S p ns (built (node.Mul ∷ ns) rs ts) new
  read_mul rs [] w f = tt
  read_mul rs (b ∷ []) w f = tt
  read_mul rs (b ∷ a ∷ ts) w f =
      let made = f (stacked_values S p ts) (filled_value S p a) (filled_value S p b) w.values in
      follows S p ns rs (Mul a b ∷ ts) (built ns rs (Mul a b ∷ ts)) new refl (put_term rs ts (stacked_values S p ts) (Mul a b) refl made.0 made.1 w.sets)

  pub read_div_down : (rs : List Range) (ts : List Expr) → IsPending S p rs ts old → Operates node.DivDown old new → Follows S p ns (built (node.DivDown ∷ ns) rs ts) new
  read_div_down rs [] w f = tt
  read_div_down rs (b ∷ []) w f = tt
  read_div_down rs (b ∷ a ∷ ts) w f =
      let made = f (stacked_values S p ts) (filled_value S p a) (filled_value S p b) w.values in
      follows S p ns rs (DivDown a b ∷ ts) (built ns rs (DivDown a b ∷ ts)) new refl (put_term rs ts (stacked_values S p ts) (DivDown a b) refl made.0 made.1 w.sets)

  pub read_div_up : (rs : List Range) (ts : List Expr) → IsPending S p rs ts old → Operates node.DivUp old new → Follows S p ns (built (node.DivUp ∷ ns) rs ts) new
  read_div_up rs [] w f = tt
  read_div_up rs (b ∷ []) w f = tt
  read_div_up rs (b ∷ a ∷ ts) w f =
      let made = f (stacked_values S p ts) (filled_value S p a) (filled_value S p b) w.values in
      follows S p ns rs (DivUp a b ∷ ts) (built ns rs (DivUp a b ∷ ts)) new refl (put_term rs ts (stacked_values S p ts) (DivUp a b) refl made.0 made.1 w.sets)

  pub read_span : (rs : List Range) (ts : List Expr) → IsPending S p rs ts old → Spans old new → Follows S p ns (built (node.Span ∷ ns) rs ts) new
  read_span rs [] w f = tt
  read_span rs (b ∷ []) w f = tt
  read_span rs (b ∷ a ∷ c ∷ ts) w f = tt
  read_span rs (b ∷ a ∷ []) w f =
      let made = f [] (filled_value S p a) (filled_value S p b) w.values in
      follows S p ns (Span a b ∷ rs) [] (built ns (Span a b ∷ rs) []) new refl (put_range rs old.sets.sets (Span a b) (between (filled_value S p a) (filled_value S p b)) w.sets refl made.0 made.1)

  pub read_one : (rs : List Range) (ts : List Expr) → IsPending S p rs ts old → Singles old new → Follows S p ns (built (node.One ∷ ns) rs ts) new
  read_one rs [] w f = tt
  read_one rs (b ∷ a ∷ ts) w f = tt
  read_one rs (a ∷ []) w f =
      let made = f [] (filled_value S p a) w.values in
      follows S p ns (One a ∷ rs) [] (built ns (One a ∷ rs) []) new refl
      (put_range rs old.sets.sets (One a) (between (filled_value S p a) (filled_value S p a)) w.sets (one_is INFINITY (filled_value S p a)) made.0 made.1)

  pub read_dom : (y : ℕ) (rs : List Range) (ts : List Expr) → IsRising 0 INFINITY (S y) → IsPending S p rs ts old → PushesSet (S y) old new → Follows S p ns (built (node.Dom y ∷ ns) rs ts) new
  read_dom y rs (a ∷ ts) r w f = tt
  read_dom y rs [] r w f = follows S p ns (Dom y ∷ rs) [] (built ns (Dom y ∷ rs) []) new refl (put_range rs old.sets.sets (Dom y) (S y) w.sets (dom_is INFINITY (S y) r) (f.0 ∙ w.values) f.1)

  pub read_union : (rs : List Range) (ts : List Expr) → IsPending S p rs ts old → Joins old new → Follows S p ns (built (node.Union ∷ ns) rs ts) new
  read_union [] [] w f = tt
  read_union (q ∷ []) [] w f = tt
  read_union [] (a ∷ ts) w f = tt
  read_union (q ∷ []) (a ∷ ts) w f = tt
  read_union (q ∷ r ∷ rs) (a ∷ ts) w f = tt
  read_union (q ∷ r ∷ rs) [] w f =
      let made = f (stacked_sets S p rs) (filled_set S p r) (filled_set S p q) w.sets in
      follows S p ns (Union r q ∷ rs) [] (built ns (Union r q ∷ rs) []) new refl
      (put_range rs (stacked_sets S p rs) (Union r q) (either (filled_set S p r) (filled_set S p q)) refl
      (union_is INFINITY (in_range INFINITY S (fill_range p r)) (in_range INFINITY S (fill_range p q))) (made.0 ∙ w.values) made.1)

  pub read_inter : (rs : List Range) (ts : List Expr) → IsPending S p rs ts old → Meets old new → Follows S p ns (built (node.Inter ∷ ns) rs ts) new
  read_inter [] [] w f = tt
  read_inter (q ∷ []) [] w f = tt
  read_inter [] (a ∷ ts) w f = tt
  read_inter (q ∷ []) (a ∷ ts) w f = tt
  read_inter (q ∷ r ∷ rs) (a ∷ ts) w f = tt
  read_inter (q ∷ r ∷ rs) [] w f =
      let made = f (stacked_sets S p rs) (filled_set S p r) (filled_set S p q) w.sets in
      follows S p ns (Inter r q ∷ rs) [] (built ns (Inter r q ∷ rs) []) new refl
      (put_range rs (stacked_sets S p rs) (Inter r q) (filter (has (filled_set S p q)) (filled_set S p r)) refl
      (inter_is INFINITY (in_range INFINITY S (fill_range p r)) (in_range INFINITY S (fill_range p q))) (made.0 ∙ w.values) made.1)

  pub read_outside : (rs : List Range) (ts : List Expr) → IsPending S p rs ts old → Complements old new → Follows S p ns (built (node.Outside ∷ ns) rs ts) new
  read_outside [] [] w f = tt
  read_outside [] (a ∷ ts) w f = tt
  read_outside (r ∷ rs) (a ∷ ts) w f = tt
  read_outside (r ∷ rs) [] w f =
      let made = f (stacked_sets S p rs) (filled_set S p r) w.sets in
      follows S p ns (Outside r ∷ rs) [] (built ns (Outside r ∷ rs) []) new refl
      (put_range rs (stacked_sets S p rs) (Outside r) (outside (filled_set S p r)) refl (outside_is INFINITY (in_range INFINITY S (fill_range p r))) (made.0 ∙ w.values) made.1)

  pub read_plus : (rs : List Range) (ts : List Expr) → IsPending S p rs ts old → Moves node.Plus old new → Follows S p ns (built (node.Plus ∷ ns) rs ts) new
  read_plus [] [] w f = tt
  read_plus [] (a ∷ []) w f = tt
  read_plus [] (b ∷ a ∷ ts) w f = tt
  read_plus (r ∷ rs) [] w f = tt
  read_plus (r ∷ rs) (b ∷ a ∷ ts) w f = tt
  read_plus (r ∷ rs) (c ∷ []) w f =
      let made = f [] (stacked_sets S p rs) (filled_set S p r) (filled_value S p c) w.values w.sets in
      follows S p ns (Plus r c ∷ rs) [] (built ns (Plus r c ∷ rs) []) new refl
      (put_range rs (stacked_sets S p rs) (Plus r c) (moved node.Plus (filled_set S p r) (filled_value S p c)) refl
      (plus_is INFINITY (in_range INFINITY S (fill_range p r)) (filled_value S p c)) made.0 made.1)

  pub read_minus : (rs : List Range) (ts : List Expr) → IsPending S p rs ts old → Moves node.Minus old new → Follows S p ns (built (node.Minus ∷ ns) rs ts) new
  read_minus [] [] w f = tt
  read_minus [] (a ∷ []) w f = tt
  read_minus [] (b ∷ a ∷ ts) w f = tt
  read_minus (r ∷ rs) [] w f = tt
  read_minus (r ∷ rs) (b ∷ a ∷ ts) w f = tt
  read_minus (r ∷ rs) (c ∷ []) w f =
      let made = f [] (stacked_sets S p rs) (filled_set S p r) (filled_value S p c) w.values w.sets in
      follows S p ns (Minus r c ∷ rs) [] (built ns (Minus r c ∷ rs) []) new refl
      (put_range rs (stacked_sets S p rs) (Minus r c) (moved node.Minus (filled_set S p r) (filled_value S p c)) refl
      (minus_is INFINITY (in_range INFINITY S (fill_range p r)) (filled_value S p c)) made.0 made.1)

  pub read_times : (rs : List Range) (ts : List Expr) → IsPending S p rs ts old → Moves node.Times old new → Follows S p ns (built (node.Times ∷ ns) rs ts) new
  read_times [] [] w f = tt
  read_times [] (a ∷ []) w f = tt
  read_times [] (b ∷ a ∷ ts) w f = tt
  read_times (r ∷ rs) [] w f = tt
  read_times (r ∷ rs) (b ∷ a ∷ ts) w f = tt
  read_times (r ∷ rs) (c ∷ []) w f =
      let made = f [] (stacked_sets S p rs) (filled_set S p r) (filled_value S p c) w.values w.sets in
      follows S p ns (Times r c ∷ rs) [] (built ns (Times r c ∷ rs) []) new refl
      (put_range rs (stacked_sets S p rs) (Times r c) (moved node.Times (filled_set S p r) (filled_value S p c)) refl
      (times_is INFINITY (in_range INFINITY S (fill_range p r)) (filled_value S p c)) made.0 made.1)

  pub read_over : (rs : List Range) (ts : List Expr) → IsPending S p rs ts old → Moves node.Over old new → Follows S p ns (built (node.Over ∷ ns) rs ts) new
  read_over [] [] w f = tt
  read_over [] (a ∷ []) w f = tt
  read_over [] (b ∷ a ∷ ts) w f = tt
  read_over (r ∷ rs) [] w f = tt
  read_over (r ∷ rs) (b ∷ a ∷ ts) w f = tt
  read_over (r ∷ rs) (c ∷ []) w f =
      let made = f [] (stacked_sets S p rs) (filled_set S p r) (filled_value S p c) w.values w.sets in
      follows S p ns (Over r c ∷ rs) [] (built ns (Over r c ∷ rs) []) new refl
      (put_range rs (stacked_sets S p rs) (Over r c) (moved node.Over (filled_set S p r) (filled_value S p c)) refl
      (over_is INFINITY (in_range INFINITY S (fill_range p r)) (filled_value S p c)) made.0 made.1)

-- the same for each kind of instruction that the code tells apart

at_instr : (P : RangeInstr → Type 0) (m k : RangeInstr) → k ≡ m → P m → P k
at_instr P m k e h = subst P (sym e) h

abbrev IsPush : RangeInstr → Type 0
IsPush i = ((c : ℕ) × (i ≡ instr.PushConst c)) ⊎ (((x : ℕ) × (i ≡ instr.PushArg x)) ⊎ (((y : ℕ) × (i ≡ instr.PushMin y)) ⊎ (((y : ℕ) × (i ≡ instr.PushMax y)) ⊎ ((y : ℕ) × (i ≡ instr.PushVal y)))))

abbrev IsTermOperator : RangeInstr → Type 0
IsTermOperator i = (i ≡ instr.Add) ⊎ ((i ≡ instr.Sub) ⊎ ((i ≡ instr.Mul) ⊎ ((i ≡ instr.DivDown) ⊎ (i ≡ instr.DivUp))))

abbrev IsMove : RangeInstr → Type 0
IsMove i = (i ≡ instr.Plus) ⊎ ((i ≡ instr.Minus) ⊎ ((i ≡ instr.Times) ⊎ (i ≡ instr.Over)))

push_case : (P : RangeInstr → Type 0) (i : RangeInstr) → IsPush i → ((c : ℕ) → P (instr.PushConst c)) → ((x : ℕ) → P (instr.PushArg x))
    → ((y : ℕ) → P (instr.PushMin y)) → ((y : ℕ) → P (instr.PushMax y)) → ((y : ℕ) → P (instr.PushVal y)) → P i
push_case P i is h f g u v = elim is [
  | inl e ↦ at_instr P (instr.PushConst e.0) i e.1 (h e.0)
  | inr a ↦ elim a [
    | inl e ↦ at_instr P (instr.PushArg e.0) i e.1 (f e.0)
    | inr b ↦ elim b [
      | inl e ↦ at_instr P (instr.PushMin e.0) i e.1 (g e.0)
      | inr c ↦ elim c [ inl e ↦ at_instr P (instr.PushMax e.0) i e.1 (u e.0) | inr e ↦ at_instr P (instr.PushVal e.0) i e.1 (v e.0) ]
    ]
  ]
]

term_case : (P : RangeInstr → Type 0) (i : RangeInstr) → IsTermOperator i → P instr.Add → P instr.Sub → P instr.Mul → P instr.DivDown → P instr.DivUp → P i
term_case P i is h f g u v = elim is [
  | inl e ↦ at_instr P instr.Add i e h
  | inr a ↦ elim a [
    | inl e ↦ at_instr P instr.Sub i e f
    | inr b ↦ elim b [
      | inl e ↦ at_instr P instr.Mul i e g
      | inr c ↦ elim c [ inl e ↦ at_instr P instr.DivDown i e u | inr e ↦ at_instr P instr.DivUp i e v ]
    ]
  ]
]

move_case : (P : RangeInstr → Type 0) (i : RangeInstr) → IsMove i → P instr.Plus → P instr.Minus → P instr.Times → P instr.Over → P i
move_case P i is h f g u = elim is [
  | inl e ↦ at_instr P instr.Plus i e h
  | inr a ↦ elim a [
    | inl e ↦ at_instr P instr.Minus i e f
    | inr b ↦ elim b [ inl e ↦ at_instr P instr.Times i e g | inr e ↦ at_instr P instr.Over i e u ]
  ]
]

-- how many wait behind it, and what it needs
module _ (k : List ℤ) (old new : Work) (i : RangeInstr) where
  pub push_counted : IsPush i → Counts suc (λ n. n) old new → IsCounted (node_of k i) old new
  push_counted is h = push_case (λ j. IsCounted (node_of k j) old new) i is (λ c. now) (λ x. now) (λ y. now) (λ y. now) (λ y. now) where
    now : Counts (λ n. n + 1 - 0) (λ n. n + 0 - 0) old new
    now = record { values = omega (arith, h.values); sets = omega (arith, h.sets) }

  pub terms_counted : IsTermOperator i → Counts (λ n. n - 1) (λ n. n) old new → IsCounted (node_of k i) old new
  terms_counted is h = term_case (λ j. IsCounted (node_of k j) old new) i is now now now now now where
    now : Counts (λ n. n + 1 - 2) (λ n. n + 0 - 0) old new
    now = record { values = omega (arith, h.values); sets = omega (arith, h.sets) }

  pub move_counted : IsMove i → Counts (λ n. n - 1) (λ n. n) old new → IsCounted (node_of k i) old new
  move_counted is h = move_case (λ j. IsCounted (node_of k j) old new) i is now now now now where
    now : Counts (λ n. n + 0 - 1) (λ n. n + 1 - 1) old new
    now = record { values = omega (arith, h.values); sets = omega (arith, h.sets) }

  pub terms_there : IsTermOperator i → CanTake (node_of k i) old → CanTakeTerms (operator_of i) old
  terms_there is h = term_case (λ j. CanTake (node_of k j) old → CanTakeTerms (operator_of j) old) i is (λ t. t.0) (λ t. t.0) (λ t. t.0) (λ t. t.0) (λ t. t.0) h

  pub moves_there : IsMove i → CanTake (node_of k i) old → CanTakeRange (operator_of i) old
  moves_there is h = move_case (λ j. CanTake (node_of k j) old → CanTakeRange (operator_of j) old) i is (λ t. t.1) (λ t. t.1) (λ t. t.1) (λ t. t.1) h

module _ (S : Family) (p : ℕ → ℤ) (k : List ℤ) (old new : Work) where
  abbrev Pushes : RangeInstr → Type 0
  Pushes i = PushesValue (leaf_value S p (node_of k i)) old new → IsTaken S p (node_of k i) old new

  pub push_taken : (i : RangeInstr) → IsPush i → PushesValue (leaf_value S p (node_of k i)) old new → IsTaken S p (node_of k i) old new
  push_taken i is = push_case Pushes i is (λ c f ns rs ts w. read_int S p ns old new (get_or k c (pos 0)) rs ts w f)
      (λ x f ns rs ts w. read_param S p ns old new x rs ts w f) (λ y f ns rs ts w. read_min S p ns old new y rs ts w f)
      (λ y f ns rs ts w. read_max S p ns old new y rs ts w f) (λ y f ns rs ts w. read_val S p ns old new y rs ts w f)

  abbrev Operating : RangeInstr → Type 0
  Operating i = Operates (operator_of i) old new → IsTaken S p (node_of k i) old new

  pub operator_taken : (i : RangeInstr) → IsTermOperator i → Operates (operator_of i) old new → IsTaken S p (node_of k i) old new
  operator_taken i is = term_case Operating i is (λ f ns rs ts w. read_add S p ns old new rs ts w f) (λ f ns rs ts w. read_sub S p ns old new rs ts w f)
      (λ f ns rs ts w. read_mul S p ns old new rs ts w f)
      (λ f ns rs ts w. read_div_down S p ns old new rs ts w f) (λ f ns rs ts w. read_div_up S p ns old new rs ts w f)

  abbrev Moving : RangeInstr → Type 0
  Moving i = Moves (operator_of i) old new → IsTaken S p (node_of k i) old new

  pub moved_taken : (i : RangeInstr) → IsMove i → Moves (operator_of i) old new → IsTaken S p (node_of k i) old new
  moved_taken i is = move_case Moving i is (λ f ns rs ts w. read_plus S p ns old new rs ts w f) (λ f ns rs ts w. read_minus S p ns old new rs ts w f)
      (λ f ns rs ts w. read_times S p ns old new rs ts w f)
      (λ f ns rs ts w. read_over S p ns old new rs ts w f)

  pub span_taken : (i : RangeInstr) → i ≡ instr.Span → Spans old new → IsTaken S p (node_of k i) old new
  span_taken i is f = at_instr (λ j. IsTaken S p (node_of k j) old new) instr.Span i is (λ ns rs ts w. read_span S p ns old new rs ts w f)

  pub one_taken : (i : RangeInstr) → i ≡ instr.One → Singles old new → IsTaken S p (node_of k i) old new
  one_taken i is f = at_instr (λ j. IsTaken S p (node_of k j) old new) instr.One i is (λ ns rs ts w. read_one S p ns old new rs ts w f)

  pub union_taken : (i : RangeInstr) → i ≡ instr.Union → Joins old new → IsTaken S p (node_of k i) old new
  union_taken i is f = at_instr (λ j. IsTaken S p (node_of k j) old new) instr.Union i is (λ ns rs ts w. read_union S p ns old new rs ts w f)

  pub inter_taken : (i : RangeInstr) → i ≡ instr.Inter → Meets old new → IsTaken S p (node_of k i) old new
  inter_taken i is f = at_instr (λ j. IsTaken S p (node_of k j) old new) instr.Inter i is (λ ns rs ts w. read_inter S p ns old new rs ts w f)

  pub outside_taken : (i : RangeInstr) → i ≡ instr.Outside → Complements old new → IsTaken S p (node_of k i) old new
  outside_taken i is f = at_instr (λ j. IsTaken S p (node_of k j) old new) instr.Outside i is (λ ns rs ts w. read_outside S p ns old new rs ts w f)

  pub dom_taken : (i : RangeInstr) (y : ℕ) → i ≡ instr.PushDom y → IsRising 0 INFINITY (S y) → PushesSet (S y) old new → IsTaken S p (node_of k i) old new
  dom_taken i y is r f = at_instr (λ j. IsTaken S p (node_of k j) old new) (instr.PushDom y) i is (λ ns rs ts w. read_dom S p ns old new y rs ts r w f)
