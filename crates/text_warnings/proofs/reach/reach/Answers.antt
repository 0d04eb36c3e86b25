use Rattle.std.proofs.Common.{◌≡◌, ◌<◌, ◌≤◌, ℕ, List, Some, length, map, sym, ap, ◌∙◌, subst, arith}
use Rattle.std.specs.Prelude.{◌||◌, slice_get}
use Rattle.std.proofs.lemmas.List.{length-map}
use Rattle.text_warnings.specs.Graphs.{is_in, items_of, leads_to, AreBelow}
use Rattle.text_warnings.proofs.ReachedNumbers.{begun, reaching_more, reached_all, as_many, found_at, none_at, in_at}
use Rattle.text_warnings.proofs.reach.reach.Goals as goal
use Rattle.text_warnings.proofs.reach.reach.Goals.{else-loop-at-test, then-loop-at-test+in_default}

pub loop-at-init : goal.loop-at-init
loop-at-init c =
    let starts = c.args.starts.now in
    let vs = c.args.edges.now in
    begun starts (map items_of vs) c.insert_all.new.reached.keys (subst (λ (m : ℕ). AreBelow m starts) (sym (length-map vs items_of)) c.requires.starts)
    (λ n. c.in_ok-insert_all.ensures.members n ∙ ap (λ (l : List ℕ). is_in l n || is_in starts n) c.requires.none)

pub numbers_at-requires : goal.numbers_at-requires
numbers_at-requires c =
    let ns = c.loop-at.reached.keys in
    let at : slice_get ns c.loop-at.at ≡ Some c.in-Some.number = cc (c.get_index.ensures.key, c.copied.ensures, c.in-Some.is) in
    let found = found_at ns c.loop-at.at c.in-Some.number at in
    let below = c.loop-at.invariant.below c.in-Some.number (ap (is_in ns) found.1 ∙ in_at ns c.loop-at.at found.0) in
    subst (λ (m : ℕ). c.in-Some.number < m) (length-map c.args.edges.now items_of) below

pub loop-at-preserved : goal.loop-at-preserved
loop-at-preserved c =
    let starts = c.args.starts.now in
    let vs = c.args.edges.now in
    let ns = c.loop-at.reached.keys in
    let n = c.in-Some.number in
    let new = c.insert_all-in-loop-at.new.reached.keys in
    let at : slice_get ns c.loop-at.at ≡ Some n = cc (c.get_index.ensures.key, c.copied.ensures, c.in-Some.is) in
    let found = found_at ns c.loop-at.at n at in
    reaching_more starts (map items_of vs) c.loop-at.at ns new n c.loop-at.invariant found.0 found.1
    (subst (λ (m : ℕ). AreBelow m (leads_to (map items_of vs) n)) (sym (length-map vs items_of)) (c.requires.edges n))
    (λ m. c.in_ok-insert_all-2.ensures.members m ∙ ap (λ (l : List ℕ). is_in ns m || is_in l m) c.numbers_at.ensures)
    c.in_ok-insert_all-2.ensures.grown

pub returns : goal.returns
returns c =
    let starts = c.args.starts.now in
    let vs = c.args.edges.now in
    let ns = c.loop-at.reached.keys in
    let few = as_many starts (map items_of vs) c.loop-at.at ns c.loop-at.invariant c.len-count.ensures.unique in
    let whole : length ns ≤ c.loop-at.at =
    elim c.loop-at-test.branch [
      | else-loop-at-test w ↦ omega (arith, few, length-map vs items_of, w.loop-at-test.false)
      | then-loop-at-test+in_default w ↦ none_at ns c.loop-at.at (cc (w.get_index.ensures.key, w.copied.ensures, w.in_default.is))
    ] in
    reached_all starts (map items_of vs) c.loop-at.at ns c.loop-at.invariant whole
