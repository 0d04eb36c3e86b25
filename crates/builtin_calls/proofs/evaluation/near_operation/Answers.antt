use Rattle.std.proofs.Common.{◌≡◌, ◌∷◌, ◌∙◌, ℤ, [], ap, sym, FitsSigned, w64, to_z, of_z, rules, get_or, Result, Ok, Err, IfSome, Option, Some, None, subst}
use Rattle.std.specs.Result.{result_ok}
use Rattle.fd_language.specs.Family.{Family}
use Rattle.heap_cells.specs.declared.Cell.TheVariants as cell
use Rattle.heap_cells.specs.declared.Seen.TheVariants as seen
use Rattle.heap_cells.specs.Cells.{Cells}
use Rattle.heap_cells.specs.Terms.{Naming}
use Rattle.fd_model.specs.Arithmetic.{value_of}
use Rattle.heap_cells.specs.SeenTerms.{seen_term}
use Rattle.builtin_calls.specs.Outcomes.{IsMeaning, IsNamedBy, Tells, meaning}
use Rattle.builtin_calls.specs.declared.evaluation.EvalFault.{EvalFault}
use Rattle.builtin_calls.specs.declared.operations.Operation.{Operation}
use Rattle.builtin_calls.proofs.Remainders.{read_back}
use Rattle.builtin_calls.proofs.CellTops.{shown_else, held_seen}
use Rattle.builtin_calls.proofs.Evaluations.{both_valued, held_name, operation_at}
use Rattle.builtin_calls.proofs.evaluation.near_operation.Goals as goal

pub returns-in-len1 : goal.returns-in-len1
returns-in-len1 c = go c.value_by_sign.result c.value_by_sign.ensures
  where
    h : Cells
    h = c.args.heap.now.now

    a : ℤ
    a = c.in_ok-a.a

    b : ℤ
    b = c.in_ok-b.b

    same : (o : Operation) → meaning o (to_z w64 (of_z w64 a)) (to_z w64 (of_z w64 b)) ≡ meaning o a b
    same o =
        let fa : FitsSigned w64 c.in_ok-a.a = search rules in
        let fb : FitsSigned w64 c.in_ok-b.b = search rules in
        ap (λ x. meaning o x (to_z w64 (of_z w64 b))) (read_back a fa) ∙ ap (meaning o a) (read_back b fb)

    go : (o : Option ℤ) → IfSome o (λ z. IsMeaning (get_or c.as_bytes.result.now 0 0 ∷ []) (to_z w64 (of_z w64 a)) (to_z w64 (of_z w64 b)) z)
        → IfSome o (λ z. (name : Naming) (G : Family) → IsNamedBy c.args.pool.now.names name → value_of (seen_term name h G c.args.c) ≡ Ok z)
    go None k = tt
    go (Some z) k = λ name G n.
        both_valued c.args.pool.now.names h G c.args.c c.in-Struct-default-len2.f c.in-Struct-default-len2.field-1.now
        (held_name _ h c.requires.atoms c.in-Struct-default-len2.f c.in-Struct-default-len2.field-1
        (held_seen h c.args.c (seen.Struct c.in-Struct-default-len2.f c.in-Struct-default-len2.field-1) c.in-Struct-default-len2.ensures.seen))
        (λ name. shown_else name h G c.in-Struct-default-len2.ensures.valid c.args.c (seen.Struct c.in-Struct-default-len2.f c.in-Struct-default-len2.field-1)
        c.in-Struct-default-len2.ensures.seen (λ i j e. cc))
        c.in-Struct-default-len2.len_at_least c.in-Struct-default-len2.len_below (cell.Ref 0) c.name_of-name.result.now k.0 c.name_of-name.ensures.name
        (operation_at c.name_of-name.result.now c.as_bytes.result.now k.0 c.as_bytes.ensures.value c.in-len1.len_at_least c.in-len1.len_below k.1)
        a b (λ name. c.in_ok-a.ensures name G) (λ name. c.in_ok-b.ensures name G) (Ok z) (sym (same k.0) ∙ k.2) name n

pub returns-in_ok-operation_named-in_default-as_bytes : goal.returns-in_ok-operation_named-in_default-as_bytes
returns-in_ok-operation_named-in_default-as_bytes c = go c.apply.result c.ok.result c.apply.ensures.tells c.ok.ensures.value
  where
    h : Cells
    h = c.args.heap.now.now

    a : ℤ
    a = c.in_ok-a.a

    b : ℤ
    b = c.in_ok-b.b

    op : Operation
    op = c.in_ok-operation_named-in_default-as_bytes.field-0

    same : meaning op (to_z w64 (of_z w64 a)) (to_z w64 (of_z w64 b)) ≡ meaning op a b
    same =
        let fa : FitsSigned w64 c.in_ok-a.a = search rules in
        let fb : FitsSigned w64 c.in_ok-b.b = search rules in
        ap (λ x. meaning op x (to_z w64 (of_z w64 b))) (read_back a fa) ∙ ap (meaning op a) (read_back b fb)

    go : (r : Result ℤ EvalFault) (o : Option ℤ) → Tells r (meaning op (to_z w64 (of_z w64 a)) (to_z w64 (of_z w64 b))) → o ≡ result_ok r
        → IfSome o (λ z. (name : Naming) (G : Family) → IsNamedBy c.args.pool.now.names name → value_of (seen_term name h G c.args.c) ≡ Ok z)
    go (Err e) o k is = subst (λ (x : Option ℤ). IfSome x (λ z. (name : Naming) (G : Family) → IsNamedBy c.args.pool.now.names name → value_of (seen_term name h G c.args.c) ≡ Ok z)) (sym is) tt
    go (Ok z) o k is = subst (λ (x : Option ℤ). IfSome x (λ z. (name : Naming) (G : Family) → IsNamedBy c.args.pool.now.names name
        → value_of (seen_term name h G c.args.c) ≡ Ok z)) (sym is) (λ name G n.
        both_valued c.args.pool.now.names h G c.args.c c.in-Struct-default-len2.f c.in-Struct-default-len2.field-1.now
        (held_name _ h c.requires.atoms c.in-Struct-default-len2.f c.in-Struct-default-len2.field-1
        (held_seen h c.args.c (seen.Struct c.in-Struct-default-len2.f c.in-Struct-default-len2.field-1) c.in-Struct-default-len2.ensures.seen))
        (λ name. shown_else name h G c.in-Struct-default-len2.ensures.valid c.args.c (seen.Struct c.in-Struct-default-len2.f c.in-Struct-default-len2.field-1)
        c.in-Struct-default-len2.ensures.seen (λ i j e. cc))
        c.in-Struct-default-len2.len_at_least c.in-Struct-default-len2.len_below (cell.Ref 0) c.name_of-name.result.now op c.name_of-name.ensures.name
        (sym c.operation_named.ensures ∙ c.in_ok-operation_named-in_default-as_bytes.was)
        a b (λ name. c.in_ok-a.ensures name G) (λ name. c.in_ok-b.ensures name G) (Ok z) (sym same ∙ k) name n)
