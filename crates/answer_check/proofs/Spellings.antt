-- The nodes and widths that are put.
use Rattle.std.proofs.Common.{◌≡◌, ℕ, ◌+◌, ◌*◌, ◌-◌, ◌≤◌, Bool, true, false, cond, ◌&&◌, ◌||◌, List, [], ◌∷◌, ◌++◌, length, drop, Option, Some, None, refl, sym}
use Rattle.std.proofs.Common.{ap, ◌∙◌, arith, append_assoc, length-append, true≢false}
use Rattle.std.specs.Prelude.{is_none, MatchOption}
use Rattle.std.proofs.Math.Seq.{drop-append_seam}
use Rattle.std.proofs.lemmas.Option.{same_Some}
use Rattle.fd_language.specs.declared.TheConstants.{INFINITY}
use Rattle.fd_language.specs.declared.range_node.RangeNode.{RangeNode}
use Rattle.fd_language.specs.declared.range_node.RangeNode.TheVariants as node
use Rattle.fd_language.specs.PostfixRanges.{expr_nodes, nodes_of, built, IsSpelled, spelled_range, spelled_range-nodes}
use Rattle.fd_language.specs.Range.{Range, Span, Expr}
use Rattle.fd_language.specs.RangeVerdict.{bound}
use Rattle.fd_language.proofs.Lemmas.{expr_append, two}
use Rattle.fd_model.specs.FlatConstraints.{is_narrow}
use Rattle.fd_model.specs.Satisfaction.{Assignment}
use Rattle.answer_check.specs.declared.sides.Width.{Width}
use Rattle.answer_check.specs.declared.operand_stack.Work.{Work}
use Rattle.answer_check.specs.Sides.{interval_in, narrowed, joined_width, is_ground_expr, width_by, all_nodes, all_widths, made_by, may_join, joined, alone}
use Rattle.answer_check.specs.Sides.{IsOperator}
use Rattle.answer_check.specs.OperandStack.{value_by, stacked_numbers, IsAt}
use Rattle.answer_check.proofs.NodeWalk.{ends_same}

-- what is put makes these terms
pub record Puts (o : Option (List Expr)) (nodes : List RangeNode) (widths : List Width) : Type 0 where
  pub terms : List Expr
  pub is : o ≡ Some terms
  pub nodes_are : nodes ≡ all_nodes terms
  pub widths_are : widths ≡ all_widths terms

record IsNarrowed (n : ℕ) (g : Bool) (w : Width) : Type 0 where
  test : is_narrow n ≡ true
  is : w ≡ (let v : Width = record { most = n; is_ground = g } in v)

narrowed_is : (n : ℕ) (g : Bool) (w : Width) → narrowed n g ≡ Some w → IsNarrowed n g w
narrowed_is n g w e = by (is_narrow n) refl e where
  by : (b : Bool) → is_narrow n ≡ b → cond b (Some (let v : Width = record { most = n; is_ground = g } in v)) None ≡ Some w → IsNarrowed n g w
  by true f e = record { test = f; is = sym (same_Some (let v : Width = record { most = n; is_ground = g } in v) w e) }
  by false f e = absurd (cc (e))

-- a node that stands alone
pub put_alone_is : (e : Expr) (es : List Expr) (n : RangeNode) (most : ℕ) (g : Bool) (w : Width) (old_nodes new_nodes : List RangeNode)
    (old_widths new_widths : List Width) → expr_nodes e [] ≡ n ∷ [] → width_by e ≡ (let v : Width = record { most = most; is_ground = g } in v)
    → narrowed most g ≡ Some w → new_nodes ≡ old_nodes ++ n ∷ [] → new_widths ≡ old_widths ++ w ∷ [] → old_nodes ≡ all_nodes es → old_widths ≡ all_widths es → Puts (alone e es) new_nodes new_widths
put_alone_is e es n most g w old_nodes new_nodes old_widths new_widths spelled width narrow nodes widths had_nodes had_widths =
    let k = narrowed_is most g w narrow in
    let same : bound INFINITY e ≡ most = ap (λ (v : Width). v.most) width in
    record {
      terms = e ∷ es;
      is = ap (λ b. cond b (Some (e ∷ es)) None) (ap is_narrow same ∙ k.test);
      nodes_are = nodes ∙ ap (λ ns. ns ++ n ∷ []) had_nodes ∙ ap (λ ns. all_nodes es ++ ns) (sym spelled);
      widths_are = widths ∙ ap (λ ws. ws ++ w ∷ []) had_widths ∙ ap (λ v. all_widths es ++ v ∷ []) (k.is ∙ sym width);
    }

-- ---- an operator

pub both_nodes : (d e : Expr) (n : RangeNode) (ns : List RangeNode) → ns ++ expr_nodes d (expr_nodes e (n ∷ [])) ≡ ((ns ++ expr_nodes d []) ++ expr_nodes e []) ++ n ∷ []
both_nodes d e n ns =
    ap (λ ms. ns ++ ms) (expr_append d [] (expr_nodes e (n ∷ [])) ∙ ap (λ ms. expr_nodes d [] ++ ms) (expr_append e [] (n ∷ [])) ∙ sym (append_assoc (expr_nodes d []) (expr_nodes e []) (n ∷ [])))
    ∙ sym (append_assoc ns (expr_nodes d [] ++ expr_nodes e []) (n ∷ [])) ∙ ap (λ ms. ms ++ n ∷ []) (sym (append_assoc ns (expr_nodes d []) (expr_nodes e [])))

record IsJoined (n : RangeNode) (d e : Expr) (w : Width) : Type 0 where
  test : may_join n d e ≡ true
  width : w ≡ width_by (made_by n d e)
  nodes : expr_nodes (made_by n d e) [] ≡ expr_nodes d (expr_nodes e (n ∷ []))

joined_is : (n : RangeNode) (d e : Expr) (w : Width) → IsOperator n → joined_width n (width_by d) (width_by e) ≡ Some w → IsJoined n d e w
joined_is node.Add d e w o h = let k = narrowed_is (bound INFINITY d + bound INFINITY e) (is_ground_expr d && is_ground_expr e) w h in record { test = k.test; width = k.is; nodes = refl }
joined_is node.Sub d e w o h = let k = narrowed_is (bound INFINITY d + bound INFINITY e) (is_ground_expr d && is_ground_expr e) w h in record { test = k.test; width = k.is; nodes = refl }
joined_is node.Mul d e w o h = by (is_ground_expr d || is_ground_expr e) refl h where
  by : (b : Bool) → (is_ground_expr d || is_ground_expr e) ≡ b → cond b (narrowed (bound INFINITY d * bound INFINITY e) (is_ground_expr d && is_ground_expr e)) None ≡ Some w → IsJoined node.Mul d e w
  by true f h =
      let k = narrowed_is (bound INFINITY d * bound INFINITY e) (is_ground_expr d && is_ground_expr e) w h in
      record { test = ap (λ b. b && is_narrow (bound INFINITY d * bound INFINITY e)) f ∙ k.test; width = k.is; nodes = refl }
  by false f h = absurd (cc (h))
joined_is node.Infinity d e w o h = absurd o
joined_is (node.Int z) d e w o h = absurd o
joined_is (node.Param x) d e w o h = absurd o
joined_is (node.Min x) d e w o h = absurd o
joined_is (node.Max x) d e w o h = absurd o
joined_is (node.Val x) d e w o h = absurd o
joined_is node.DivDown d e w o h = absurd o
joined_is node.DivUp d e w o h = absurd o
joined_is node.Span d e w o h = absurd o
joined_is node.One d e w o h = absurd o
joined_is (node.Dom x) d e w o h = absurd o
joined_is node.Union d e w o h = absurd o
joined_is node.Inter d e w o h = absurd o
joined_is node.Outside d e w o h = absurd o
joined_is node.Plus d e w o h = absurd o
joined_is node.Minus d e w o h = absurd o
joined_is node.Times d e w o h = absurd o
joined_is node.Over d e w o h = absurd o

joined_some : (n : RangeNode) (d e : Expr) (es : List Expr) → IsOperator n → may_join n d e ≡ true → joined n (e ∷ d ∷ es) ≡ Some (made_by n d e ∷ es)
joined_some n d e es o h = ap (λ b. cond b (Some (made_by n d e ∷ es)) None) h

pub put_operator_is : (n : RangeNode) (es : List Expr) (left right w : Width) (old_nodes new_nodes : List RangeNode)
    (old_widths one two new_widths : List Width) → IsOperator n → old_widths ≡ one ++ right ∷ [] → one ≡ two ++ left ∷ [] → joined_width n left right ≡ Some w
    → new_nodes ≡ old_nodes ++ n ∷ [] → new_widths ≡ two ++ w ∷ [] → old_nodes ≡ all_nodes es → old_widths ≡ all_widths es → Puts (joined n es) new_nodes new_widths
put_operator_is n [] left right w old_nodes new_nodes old_widths one two new_widths o a b j nodes widths had_nodes had_widths = absurd
    (let l = ap (λ (ws : List Width). length ws) (sym a ∙ had_widths) in omega (arith, l, length-append one (right ∷ [])))
put_operator_is n (e ∷ []) left right w old_nodes new_nodes old_widths one two new_widths o a b j nodes widths had_nodes had_widths =
    absurd (let l = ap (λ (ws : List Width). length ws) (sym a ∙ had_widths) in let k = ap (λ (ws : List Width). length ws) b in
    omega (arith, l, k, length-append one (right ∷ []), length-append two (left ∷ [])))
put_operator_is n (e ∷ d ∷ es) left right w old_nodes new_nodes old_widths one two new_widths o a b j nodes widths had_nodes had_widths =
    let x = ends_same one (all_widths es ++ width_by d ∷ []) right (width_by e) (sym a ∙ had_widths) in
    let y = ends_same two (all_widths es) left (width_by d) (sym b ∙ x.fronts) in
    let k = joined_is n d e w o (ap (λ v. joined_width n v (width_by e)) (sym y.lasts) ∙ ap (joined_width n left) (sym x.lasts) ∙ j) in
    record {
      terms = made_by n d e ∷ es;
      is = joined_some n d e es o k.test;
      nodes_are = nodes ∙ ap (λ ns. ns ++ n ∷ []) had_nodes ∙ sym (both_nodes d e n (all_nodes es)) ∙ ap (λ ns. all_nodes es ++ ns) (sym k.nodes);
      widths_are = widths ∙ ap (λ ws. ws ++ w ∷ []) y.fronts ∙ ap (λ v. all_widths es ++ v ∷ []) k.width;
    }

-- ---- the interval between two terms

pub span_nodes : (d e : Expr) → nodes_of (Span d e) ≡ (expr_nodes d [] ++ expr_nodes e []) ++ node.Span ∷ []
span_nodes d e = both_nodes d e node.Span []

pub some_node : (d e : Expr) → 1 ≤ length (nodes_of (Span d e))
some_node d e = let l = ap (λ (ns : List RangeNode). length ns) (span_nodes d e) in omega (arith, l, length-append (expr_nodes d [] ++ expr_nodes e []) (node.Span ∷ []))

interval_is : (r : Range) (nodes : List RangeNode) (o : Option Range) → nodes ≡ nodes_of r → MatchOption o (IsSpelled nodes → ⊥) (λ f. nodes_of f ≡ nodes) → o ≡ Some r
interval_is r nodes None e h = absurd (h (r, sym e))
interval_is r nodes (Some x) e h = ap Some (sym (spelled_range-nodes x) ∙ ap spelled_range (h ∙ e) ∙ spelled_range-nodes r)

pub interval_made : (d e : Expr) (left right : Width) (old_nodes new_nodes : List RangeNode) (old_widths one two : List Width) (o : Option Range)
    → old_widths ≡ one ++ right ∷ [] → one ≡ two ++ left ∷ [] → is_none (joined_width node.Sub left right) ≡ false
    → new_nodes ≡ old_nodes ++ node.Span ∷ [] → old_nodes ≡ all_nodes (e ∷ d ∷ []) → old_widths ≡ all_widths (e ∷ d ∷ [])
    → MatchOption o (IsSpelled new_nodes → ⊥) (λ f. nodes_of f ≡ new_nodes) → o ≡ interval_in d e
interval_made d e left right old_nodes new_nodes old_widths one two o a b some nodes had_nodes had_widths from =
    let x = ends_same one (all_widths (d ∷ [])) right (width_by e) (sym a ∙ had_widths) in
    let y = ends_same two [] left (width_by d) (sym b ∙ x.fronts) in
    let some_width : is_none (joined_width node.Sub (width_by d) (width_by e)) ≡ false = ap (λ v. is_none (joined_width node.Sub v (width_by e))) (sym y.lasts)
    ∙ ap (λ v. is_none (joined_width node.Sub left v)) (sym x.lasts) ∙ some in
    interval_is (Span d e) new_nodes o (nodes ∙ ap (λ ns. ns ++ node.Span ∷ []) had_nodes ∙ sym (span_nodes d e)) from
    ∙ sym (ap (λ b. cond b (Some (Span d e)) None) (narrow (is_narrow (bound INFINITY d + bound INFINITY e)) some_width))
  where
    narrow : (b : Bool) → is_none (cond b (Some (let v : Width = record { most = bound INFINITY d + bound INFINITY e; is_ground = is_ground_expr d && is_ground_expr e } in v)) None) ≡ false → b ≡ true
    narrow true h = refl
    narrow false h = absurd (true≢false h)

module _ (a : Assignment) where
  ends_wait : (d e : Expr) (rs : List Range) (ts : List Expr) → Some (Span d e) ≡ built (node.Span ∷ []) rs ts → (rs ≡ []) × (ts ≡ e ∷ d ∷ [])
  ends_wait d e rs [] h = absurd (cc (h))
  ends_wait d e rs (x ∷ []) h = absurd (cc (h))
  ends_wait d e [] (x ∷ y ∷ []) h = (refl, (let f : Span d e ≡ Span y x = cc in let g : d ≡ y = cc in let k : e ≡ x = cc in ap (λ z. z ∷ y ∷ []) (sym k) ∙ ap (λ z. e ∷ z ∷ []) (sym g)))
  ends_wait d e (r ∷ rs) (x ∷ y ∷ []) h = absurd (cc (h))
  ends_wait d e rs (x ∷ y ∷ z ∷ ts) h = absurd (cc (h))

  last_left : (d e : Expr) (count : ℕ) → count ≡ length (nodes_of (Span d e)) - 1 → drop count (nodes_of (Span d e)) ≡ node.Span ∷ []
  last_left d e count is =
      let ns = expr_nodes d [] ++ expr_nodes e [] in
      let l = ap (λ (ms : List RangeNode). length ms) (span_nodes d e) in
      let c : count ≡ length ns = omega (arith, is, l, length-append ns (node.Span ∷ [])) in
      ap (λ k. drop k (nodes_of (Span d e))) c ∙ ap (drop (length ns)) (span_nodes d e) ∙ drop-append_seam ns (node.Span ∷ [])

  -- behind all nodes but the last one the values of both ends wait
  pub ends_waiting : (n : ℕ) (d e : Expr) (count : ℕ) (w : Work) → count ≡ length (nodes_of (Span d e)) - 1 → IsAt a n (Span d e) count w
      → w.numbers.items ≡ ([] ++ value_by a d ∷ []) ++ value_by a e ∷ []
  ends_waiting n d e count w is k =
      let r = ends_wait d e k.ranges k.terms (k.left ∙ ap (λ ns. built ns k.ranges k.terms) (last_left d e count is)) in
      k.pending.numbers ∙ ap (stacked_numbers a) r.1
