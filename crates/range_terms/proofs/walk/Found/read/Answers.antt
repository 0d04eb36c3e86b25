use Rattle.std.proofs.Common.{◌*◌}
use Rattle.range_terms.specs.Forms.{of_operand}
use Rattle.term_pool.specs.Terms.{term_of, size}
use Rattle.term_pool.proofs.Lemmas.{entry_of}
use Rattle.range_terms.proofs.Steps.{has_weight, step_unary, step_binary}
use Rattle.range_terms.proofs.Walks.{step_put, step_refuse}
use Rattle.range_terms.proofs.walk.Found.read.Goals as goal

pub returns-in_ok-put-in-Leaf : goal.returns-in_ok-put-in-Leaf
returns-in_ok-put-in-Leaf c =
    let now = c.args.pool.now in
    let t = c.args.operand.term in
    let e = entry_of now t c.requires in
    step_put c.args.infinity now (of_operand c.args.infinity now c.args.operand) (2 * size (term_of now t)) c.in-Leaf.node c.place-place.result c.args.self.now c.put.new.self c.args.ahead.now.items
    (c.in-Leaf.ensures e.0.shape c.place-place.result e.1 c.place-place.ensures.place) (has_weight now c.place-place.ensures.valid t e.0.shape e.1) c.in_ok-put-in-Leaf.ensures

pub returns-in_ok-extend_from_slice-in-Unary : goal.returns-in_ok-extend_from_slice-in-Unary
returns-in_ok-extend_from_slice-in-Unary c =
    let now = c.args.pool.now in
    let t = c.args.operand.term in
    let e = entry_of now t c.requires in
    step_unary c.args.infinity now c.place-place.ensures.valid t e.0.shape c.place-place.result (of_operand c.args.infinity now c.args.operand) c.in-Unary.node
    c.in-Unary.only c.args.self.now c.args.ahead.now.items c.extend_from_slice.new.self.items
    c.requires e.1 (c.in-Unary.ensures e.0.shape c.place-place.result e.1 c.place-place.ensures.place) c.in_ok-extend_from_slice-in-Unary.ensures.items

pub returns-in_ok-extend_from_slice-in-Binary : goal.returns-in_ok-extend_from_slice-in-Binary
returns-in_ok-extend_from_slice-in-Binary c =
    let now = c.args.pool.now in
    let t = c.args.operand.term in
    let e = entry_of now t c.requires in
    step_binary c.args.infinity now c.place-place.ensures.valid t e.0.shape c.place-place.result (of_operand c.args.infinity now c.args.operand)
    c.in-Binary.node c.in-Binary.first c.in-Binary.second c.args.self.now c.args.ahead.now.items c.extend_from_slice-in-Binary.new.self.items
    c.requires e.1 (c.in-Binary.ensures e.0.shape c.place-place.result e.1 c.place-place.ensures.place) c.in_ok-extend_from_slice-in-Binary.ensures.items

pub returns-in-Misfit : goal.returns-in-Misfit
returns-in-Misfit c =
    let now = c.args.pool.now in
    let t = c.args.operand.term in
    let e = entry_of now t c.requires in
    step_refuse c.args.infinity now (of_operand c.args.infinity now c.args.operand) (2 * size (term_of now t)) c.place-place.result c.args.self.now c.refuse.new.self c.args.ahead.now.items
    (c.in-Misfit.ensures e.0.shape c.place-place.result e.1 c.place-place.ensures.place) (has_weight now c.place-place.ensures.valid t e.0.shape e.1) c.refuse.ensures
