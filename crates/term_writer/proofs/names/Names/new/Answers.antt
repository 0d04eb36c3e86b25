use Rattle.std.proofs.Common.{◌+◌, ℕ, sym, subst}
use Rattle.std.specs.Prelude.{nat_eq}
use Rattle.indexmap.specs.IndexMap.{get}
use Rattle.term_writer.proofs.Index.{IsIndexed, indexed_kept, indexed_added, is_known, is_new}
use Rattle.term_writer.proofs.names.Names.new.Goals as goal
use Rattle.term_writer.proofs.names.Names.new.Goals.{then-is_none+in_ok-insert, else-is_none}

pub loop-place-preserved : goal.loop-place-preserved
loop-place-preserved c =
    let vars = c.args.vars.now in
    let n = c.loop-place.place in
    let v = c.index-vars-place.result in
    elim c.if-is_none.branch [
      | then-is_none+in_ok-insert w ↦
          subst (λ m. (x : ℕ) → IsIndexed vars (n + 1) x (get nat_eq m x)) (sym w.places-is)
          (indexed_added vars n v c.loop-place-test.true c.index-vars-place.is (get nat_eq c.loop-place.places) (get nat_eq w.insert.new.self)
          (is_new c.get.result _ c.is_none.result c.get.ensures.value c.is_none.ensures w.if-is_none.true) w.in_ok-insert.ensures.updates.0 c.loop-place.invariant)
      | else-is_none w ↦
          subst (λ m. (x : ℕ) → IsIndexed vars (n + 1) x (get nat_eq m x)) (sym w.places-is)
          (indexed_kept vars n v c.loop-place-test.true c.index-vars-place.is (get nat_eq c.loop-place.places)
          (is_known c.get.result _ c.is_none.result c.get.ensures.value c.is_none.ensures w.if-is_none.false) c.loop-place.invariant)
    ]
