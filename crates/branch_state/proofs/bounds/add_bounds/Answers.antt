use Rattle.std.proofs.Common.{◌≡◌, ℕ, ℤ, ◌-◌, ◌+◌, suc, pos, [], ◌∷◌, ◌++◌, ◌∙◌, ap, map, arith, rules, w64, to_z, of_z}
use Rattle.fd_language.specs.Range.{Range}
use Rattle.range_code.specs.declared.frame.Arg.TheVariants as arg
use Rattle.propagate_queue.specs.Instances.{posting}
use Rattle.propagate_queue.specs.Postings.{Posting}
use Rattle.branch_state.specs.VariableBounds.{bound_posting, bound_postings}
use Rattle.branch_state.specs.Codes.{bound_range}
use Rattle.branch_state.proofs.VariableBounds.{postings_more}
use Rattle.branch_state.proofs.bounds.add_bounds.Goals as goal

abbrev posts_one : Range → ℕ → ℤ → Posting
posts_one r k z = record { range = r; target = k; args = arg.Int z ∷ [] }

same_one : (r : Range) (k j : ℕ) (z : ℤ) (N : ℕ) → r ≡ bound_range → k ≡ j → z ≡ pos N → posts_one r k z ≡ bound_posting N j
same_one r k j z N e f g = ap (λ q. posts_one q k z) e ∙ ap (λ i. posts_one bound_range i z) f ∙ ap (λ y. posts_one bound_range j y) g

pub returns : goal.returns
returns c =
    let a = c.loop-k.invariant.to in
    let b = c.loop-k-test.false in
    c.loop-k.invariant.listed ∙ ap (λ n. map posting c.args.list.now.items ++ bound_postings c.args.made.infinity c.args.made.first n)
    (let e : c.loop-k.k - c.args.made.first ≡ c.args.vars - c.args.made.first = omega (arith, a, b) in e)

pub loop-k-preserved : goal.loop-k-preserved
loop-k-preserved c =
    let N = c.args.made.infinity in
    let start = c.args.made.first in
    let from = c.loop-k.auto.k in
    let below = c.loop-k-test.true in
    let more : c.loop-k.k + 1 - start ≡ suc (c.loop-k.k - start) = omega (arith, from) in
    let there : c.loop-k.k ≡ start + (c.loop-k.k - start) = omega (arith, from) in
    let fits : to_z w64 (of_z w64 c.from.result) ≡ pos N = search rules in
    record {
      to = omega (arith, below);
      listed = postings_more c.args.list.now.items c.loop-k.list.items c.push.new.self.items N start (c.loop-k.k - start) (c.loop-k.k + 1 - start) more
          c.loop-k.invariant.listed c.in_ok-instance.field-0
          (c.in_ok-instance.ensures ∙ same_one _ c.loop-k.k (start + (c.loop-k.k - start)) _ N c.args.codes.now.bound_is there fits) c.in_ok-push.ensures.items;
    }
