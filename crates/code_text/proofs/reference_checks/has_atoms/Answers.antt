use Rattle.std.proofs.Common.{rules, ◌≡◌, ◌∙◌, false, true, sym}
use Rattle.wam_code.specs.Area.{area_of}
use Rattle.wam_code.specs.VerifiedCode.{IsAtom}
use Rattle.code_text.proofs.ListPrefixes.{all_start, all_more, all_done, all_miss}
use Rattle.code_text.proofs.reference_checks.has_atoms.Goals as goal

pub loop-index-init : goal.loop-index-init
loop-index-init c = all_start (λ x. IsAtom (area_of c.args.parts.now) x) c.args.atoms.now

pub loop-index-preserved : goal.loop-index-preserved
loop-index-preserved c =
    let t : c.has_atom.result ≡ true = search rules in
    all_more (λ x. IsAtom (area_of c.args.parts.now) x) c.args.atoms.now c.loop-index.index _ c.loop-index.invariant (c.has_atom.ensures.0 t)

pub returns-then-not-has_atom : goal.returns-then-not-has_atom
returns-then-not-has_atom c =
    let f : c.has_atom.result ≡ false = search rules in
    all_miss (λ x. IsAtom (area_of c.args.parts.now) x) c.args.atoms.now c.loop-index.index _ (search rules) (λ x. (let e : false ≡ true = sym f ∙ c.has_atom.ensures.1 x in cc (e)))

pub returns : goal.returns
returns c = all_done (λ x. IsAtom (area_of c.args.parts.now) x) c.args.atoms.now c.loop-index.index c.loop-index-test.false c.loop-index.invariant
