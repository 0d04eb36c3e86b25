use Rattle.std.proofs.Common.{rules, ◌+ℤ◌, SFits, to_z-of_z}
use mir.Syntax.{w64}
use Rattle.fd_language.proofs.Lemmas.{two}
use Rattle.range_code.proofs.Forms.{fits_small}
use Rattle.range_code.proofs.PairedSums.{first_small, sum_small}
use Rattle.range_code.proofs.told_forms.Pairing.extreme.Goals as goal

pub overflow_add-result-2 : goal.overflow_add-result-2
overflow_add-result-2 g c =
    let a : SFits w64 c.args.self.constant = search rules in
    let b : SFits w64 c.extreme-one.result = search rules in
    let d : SFits w64 c.extreme-other.result = search rules in
    let e : SFits w64 (c.args.self.constant +ℤ c.extreme-one.result) = fits_small _ (first_small c.args.self _ c.requires.width c.extreme-one.ensures.limit) in
    simp to_z-of_z (fits_small _ (sum_small c.args.self _ _ c.requires.width c.extreme-one.ensures.limit c.extreme-other.ensures.limit).1)

pub returns-clause-value : goal.returns-clause-value
returns-clause-value g c =
    let a : SFits w64 c.args.self.constant = search rules in
    let b : SFits w64 c.extreme-one.result = search rules in
    let d : SFits w64 c.extreme-other.result = search rules in
    let e : SFits w64 (c.args.self.constant +ℤ c.extreme-one.result) = fits_small _ (first_small c.args.self _ c.requires.width c.extreme-one.ensures.limit) in
    let f : SFits w64 ((c.args.self.constant +ℤ c.extreme-one.result) +ℤ c.extreme-other.result)
    = fits_small _ (sum_small c.args.self _ _ c.requires.width c.extreme-one.ensures.limit c.extreme-other.ensures.limit).1 in
    simp to_z-of_z (two (λ x y. (c.args.self.constant +ℤ x) +ℤ y) c.extreme-one.ensures.value c.extreme-other.ensures.value)

pub returns-clause-limit : goal.returns-clause-limit
returns-clause-limit g c =
    let a : SFits w64 c.args.self.constant = search rules in
    let b : SFits w64 c.extreme-one.result = search rules in
    let d : SFits w64 c.extreme-other.result = search rules in
    let e : SFits w64 (c.args.self.constant +ℤ c.extreme-one.result) = fits_small _ (first_small c.args.self _ c.requires.width c.extreme-one.ensures.limit) in
    let f : SFits w64 ((c.args.self.constant +ℤ c.extreme-one.result) +ℤ c.extreme-other.result)
    = fits_small _ (sum_small c.args.self _ _ c.requires.width c.extreme-one.ensures.limit c.extreme-other.ensures.limit).1 in
    simp to_z-of_z (sum_small c.args.self _ _ c.requires.width c.extreme-one.ensures.limit c.extreme-other.ensures.limit).0
