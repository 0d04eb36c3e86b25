use Rattle.std.proofs.Common.{◌≡◌, length, sym, subst, rules, arith, w64, to_z, of_z}
use Rattle.std.proofs.lemmas.Int.{ints, to_z-of_z}
use Rattle.propagate_queue.specs.StoreFields.{IsPosted}
use Rattle.bound_search.specs.Posting.{IsEnd, between_range}
use Rattle.bound_search.proofs.PostedValues.{between_fits, between_posted, failed_inconsistent}
use Rattle.bound_search.proofs.posting.post_between.Goals as goal

pub post_one-requires : goal.post_one-requires
post_one-requires g c =
    let is : c.in_ok-code.code.value ≡ between_range = search rules in
    let low : to_z w64 (of_z w64 c.args.ends.0) ≡ c.args.ends.0 = first_of (search rules, grind (arith, ints, to_z-of_z)) in
    let high : to_z w64 (of_z w64 c.args.ends.1) ≡ c.args.ends.1 = first_of (search rules, grind (arith, ints, to_z-of_z)) in
    between_fits (length c.args.store.now.current.sets) c.args.variable c.in_ok-code.code.value (to_z w64 (of_z w64 c.args.ends.0)) (to_z w64 (of_z w64 c.args.ends.1)) is c.requires.variable
    (subst IsEnd (sym low) c.requires.low) (subst IsEnd (sym high) c.requires.high)

pub returns-in-Kept-clause-posted : goal.returns-in-Kept-clause-posted
returns-in-Kept-clause-posted g c =
    let is : c.in_ok-code.code.value ≡ between_range = search rules in
    let low : to_z w64 (of_z w64 c.args.ends.0) ≡ c.args.ends.0 = first_of (search rules, grind (arith, ints, to_z-of_z)) in
    let high : to_z w64 (of_z w64 c.args.ends.1) ≡ c.args.ends.1 = first_of (search rules, grind (arith, ints, to_z-of_z)) in
    between_posted c.args.store.now.current.posted c.post_one.new.self.current.posted c.in_ok-code.code.value c.args.variable c.args.ends.0 c.args.ends.1
    (to_z w64 (of_z w64 c.args.ends.0)) (to_z w64 (of_z w64 c.args.ends.1)) is low high c.in_ok-posted.ensures.posted

pub returns-in-Failed-clause-posted : goal.returns-in-Failed-clause-posted
returns-in-Failed-clause-posted g c =
    let is : c.in_ok-code.code.value ≡ between_range = search rules in
    let low : to_z w64 (of_z w64 c.args.ends.0) ≡ c.args.ends.0 = first_of (search rules, grind (arith, ints, to_z-of_z)) in
    let high : to_z w64 (of_z w64 c.args.ends.1) ≡ c.args.ends.1 = first_of (search rules, grind (arith, ints, to_z-of_z)) in
    between_posted c.args.store.now.current.posted c.post_one.new.self.current.posted c.in_ok-code.code.value c.args.variable c.args.ends.0 c.args.ends.1
    (to_z w64 (of_z w64 c.args.ends.0)) (to_z w64 (of_z w64 c.args.ends.1)) is low high c.in_ok-posted.ensures.posted

pub returns-in-Failed-clause-failed : goal.returns-in-Failed-clause-failed
returns-in-Failed-clause-failed g c = λ e. failed_inconsistent c.post_one.new.self.current.posted (length c.post_one.new.self.current.sets)
    (subst (λ p. IsPosted p c.post_one.new.self.current) c.in-Failed.is c.in_ok-posted.ensures.done).1
