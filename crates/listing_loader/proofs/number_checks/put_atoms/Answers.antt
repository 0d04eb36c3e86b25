use Rattle.std.proofs.Common.{◌≡◌, ◌≢◌, ◌<◌, ◌++◌, ◌∙◌, ◌+◌, not, true, false, map, take, length, get_or, string_bytes, List, [], sym, ap, arith, below_more}
use Rattle.std.proofs.lemmas.List.{get_or-map, length-map}
use Rattle.std.proofs.lemmas.Bool.{not_from_true}
use Rattle.fd_language.specs.Term.{Name}
use Rattle.term_pool.specs.Contents.{Contents, interned}
use Rattle.listing_loader.specs.Marks.{atom_marks}
use Rattle.listing_loader.proofs.FirstMatches.{first_at, none_at}
use Rattle.listing_loader.proofs.Atoms.{length_marks, was_there, was_new, mark_put, names_more}
use Rattle.listing_loader.proofs.number_checks.put_atoms.Goals as goal
use Rattle.listing_loader.proofs.number_checks.put_atoms.Goals.{In_ok-atom}

-- the name that is put
text_is : (c : In_ok-atom) → c.as_str.result.now ≡ get_or (map string_bytes c.args.atoms.now) c.loop-index.index []
text_is c =
    c.as_str.ensures.value ∙ ap string_bytes c.index-atoms-index.is ∙ sym (get_or-map string_bytes c.args.atoms.now c.loop-index.index c.index-atoms-index.result [] c.loop-index-test.true)

pub returns-then-atoms-before-clause-found : goal.returns-then-atoms-before-clause-found
returns-then-atoms-before-clause-found c =
    let cs = map string_bytes c.args.atoms.now in
    let before = c.args.pool.now.names in
    let marks = atom_marks before cs in
    let i = c.loop-index.index in
    let names = c.loop-index.pool.names in
    let text = c.as_str.result.now in
    let low : i < length cs = omega (arith, length-map c.args.atoms.now string_bytes, c.loop-index-test.true) in
    let are : names ≡ before ++ take i cs = ap (λ (p : Contents). p.names) c.loop-index.invariant.pool in
    let now : c.atom.new.self.names ≡ interned names text = ap (λ (p : Contents). p.names) c.in_ok-atom.ensures.names in
    let same : length (interned names text) ≡ length names = sym (ap length now) ∙ sym c.atoms.ensures.count ∙ c.if-atoms-before.true ∙ c.atoms-before.ensures.count in
    first_at not marks i true (omega (arith, length_marks before cs, low)) (λ k h. not_from_true _ (c.loop-index.invariant.new k h))
    (ap not (mark_put before cs names i text true low are (text_is (goal.at.returns-then-atoms-before-clause-found c).In_ok-atom) (was_there names text same)))

pub loop-index-preserved : goal.loop-index-preserved
loop-index-preserved c =
    let cs = map string_bytes c.args.atoms.now in
    let before = c.args.pool.now.names in
    let i = c.loop-index.index in
    let names = c.loop-index.pool.names in
    let text = c.as_str.result.now in
    let low : i < length cs = omega (arith, length-map c.args.atoms.now string_bytes, c.loop-index-test.true) in
    let are : names ≡ before ++ take i cs = ap (λ (p : Contents). p.names) c.loop-index.invariant.pool in
    let is = text_is (goal.at.loop-index-preserved c).In_ok-atom in
    let now : c.atom.new.self.names ≡ interned names text = ap (λ (p : Contents). p.names) c.in_ok-atom.ensures.names in
    let other : length (interned names text) ≢ length names = λ e. c.if-atoms-before.false (c.atoms.ensures.count ∙ ap length now ∙ e ∙ sym c.atoms-before.ensures.count) in
    let fresh = was_new names text other in
    record {
      pool = c.in_ok-atom.ensures.names ∙ ap (λ (l : List Name). record c.loop-index.pool { names = l })
          (fresh.1 ∙ names_more before cs names i text low are is)
          ∙ ap (λ (p : Contents). record p { names = before ++ take (i + 1) cs }) c.loop-index.invariant.pool;
      new = below_more (λ k. get_or (atom_marks before cs) k true ≡ true) i c.loop-index.invariant.new (mark_put before cs names i text false low are is fresh.0);
    }

pub returns-clause-found : goal.returns-clause-found
returns-clause-found c =
    let cs = map string_bytes c.args.atoms.now in
    let marks = atom_marks c.args.pool.now.names cs in
    none_at not marks c.loop-index.index true (omega (
      arith,
      length_marks c.args.pool.now.names cs,
      length-map c.args.atoms.now string_bytes,
      c.loop-index-test.false,
    )) (λ k h. not_from_true _ (c.loop-index.invariant.new k h))
