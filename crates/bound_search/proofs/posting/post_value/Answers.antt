use Rattle.std.proofs.Common.{◌≡◌, ◌∙◌, length, subst, rules, arith, w64, to_z, of_z}
use Rattle.std.proofs.lemmas.Int.{ints, to_z-of_z}
use Rattle.propagate_queue.specs.StoreFields.{IsPosted}
use Rattle.bound_search.specs.Posting.{exact_range}
use Rattle.bound_search.proofs.PostedValues.{exact_posted, failed_inconsistent}
use Rattle.bound_search.proofs.posting.post_value.Goals as goal

pub returns-in-Kept-clause-posted : goal.returns-in-Kept-clause-posted
returns-in-Kept-clause-posted g c =
    let is : c.in_ok-code.code.value ≡ exact_range = search rules in
    let fits : to_z w64 (of_z w64 c.from.result) ≡ c.from.result = first_of (search rules, grind (arith, ints, to_z-of_z)) in
    exact_posted c.args.store.now.current.posted c.post_one.new.self.current.posted c.in_ok-code.code.value c.args.variable c.args.value
    (to_z w64 (of_z w64 c.from.result)) is (fits ∙ c.from.ensures) c.in_ok-posted.ensures.posted

pub returns-in-Failed-clause-posted : goal.returns-in-Failed-clause-posted
returns-in-Failed-clause-posted g c =
    let is : c.in_ok-code.code.value ≡ exact_range = search rules in
    let fits : to_z w64 (of_z w64 c.from.result) ≡ c.from.result = first_of (search rules, grind (arith, ints, to_z-of_z)) in
    exact_posted c.args.store.now.current.posted c.post_one.new.self.current.posted c.in_ok-code.code.value c.args.variable c.args.value
    (to_z w64 (of_z w64 c.from.result)) is (fits ∙ c.from.ensures) c.in_ok-posted.ensures.posted

pub returns-in-Failed-clause-failed : goal.returns-in-Failed-clause-failed
returns-in-Failed-clause-failed g c = λ e. failed_inconsistent c.post_one.new.self.current.posted (length c.post_one.new.self.current.sets)
    (subst (λ p. IsPosted p c.post_one.new.self.current) c.in-Failed.is c.in_ok-posted.ensures.done).1
