use Rattle.std.proofs.Common.{◌≡◌, ◌-◌, length, [], ◌∷◌, ◌++◌, drop, subst, sym, ap, arith, rules, append-nil}
use Rattle.std.specs.Prelude.{reverse, option_to_list}
use Rattle.heap_cells.specs.declared.Cell.TheVariants as cell
use Rattle.builtin_calls.specs.declared.identity.Pair.{Pair}
use Rattle.builtin_calls.specs.Identity.{paired, IsSettled}
use Rattle.builtin_calls.proofs.TermPairs.{settled_none, settled_skip, settled_put}
use Rattle.builtin_calls.proofs.identity.pair_up.Goals as goal

pub loop-i-init : goal.loop-i-init
loop-i-init c G = subst (IsSettled c.args.heap.now.now G
    (c.args.work.now.items ++ reverse (paired (drop (length c.args.left.now) c.args.left.now) (drop (length c.args.left.now) c.args.right.now))))
    (sym (append-nil c.args.work.now.items)) (settled_none c.args.heap.now.now G c.args.work.now.items c.args.left.now c.args.right.now (length c.args.left.now)
    (omega arith))

-- a pair of other cells
pub loop-i-preserved-then-ne : goal.loop-i-preserved-then-ne
loop-i-preserved-then-ne c G =
    let one = c.root-one.ensures in
    let other = c.root-other.ensures in
    let p : Pair = record { left = c.root-one.result; right = c.root-other.result } in
    let put = settled_put c.args.heap.now.now G c.args.work.now.items (c.loop-i.work.items ++ option_to_list c.loop-i.next) c.args.left.now c.args.right.now
    (c.loop-i.i - 1) c.loop-i.i (cell.Ref 0) c.root-one.result c.root-other.result
    (omega arith) (omega arith) (omega (arith, c.requires.count)) (c.loop-i.invariant G) one.same other.same one.own other.own in
    subst (IsSettled c.args.heap.now.now G (c.args.work.now.items
    ++ reverse (paired (drop (c.loop-i.i - 1) c.args.left.now) (drop (c.loop-i.i - 1) c.args.right.now))))
    (sym (ap (λ ps. ps ++ p ∷ []) c.in_ok-put_off.ensures)) put

-- a pair of one cell
pub loop-i-preserved : goal.loop-i-preserved
loop-i-preserved c G =
    let e : c.root-one.result ≡ c.root-other.result = search rules in
    settled_skip c.args.heap.now.now G c.args.work.now.items (c.loop-i.work.items ++ option_to_list c.loop-i.next) c.args.left.now c.args.right.now
    (c.loop-i.i - 1) c.loop-i.i (cell.Ref 0) c.root-one.result c.root-other.result
    (omega arith) (omega arith) (omega (arith, c.requires.count)) (c.loop-i.invariant G) c.root-one.ensures.same c.root-other.ensures.same e

pub returns : goal.returns
returns c G =
    let none : c.loop-i.i ≡ 0 = omega arith in
    subst (λ i. IsSettled c.args.heap.now.now G (c.args.work.now.items ++ reverse (paired (drop i c.args.left.now) (drop i c.args.right.now)))
    (c.loop-i.work.items ++ option_to_list c.loop-i.next)) none (c.loop-i.invariant G)
