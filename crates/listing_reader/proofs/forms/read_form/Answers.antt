use Rattle.std.proofs.Common.{rules, ◌≡◌, ◌≤◌, ◌<◌, ◌∙◌, Bool, true, false, List, ℕ, ap, subst, sym, take, arith}
use Rattle.std.specs.List.{list_any}
use Rattle.std.specs.Str.{bytes_eq}
use Rattle.std.proofs.lemmas.List.{take_all}
use Rattle.std.proofs.lemmas.Slice.Eq.{bytes_eq-Decides}
use Rattle.listing_reader.specs.declared.forms.Operation.{Operation}
use Rattle.listing_reader.specs.Forms.{form_name}
use Rattle.listing_reader.proofs.FormViews.{all_forms, form_found}
use Rattle.listing_reader.proofs.GoalWords.{none_found, none_more}
use Rattle.listing_reader.proofs.forms.read_form.Goals as goal

pub loop-form-preserved : goal.loop-form-preserved
loop-form-preserved c =
    let differs : bytes_eq c.name.result.now c.args.word.now ≡ false = search rules in
    let low : c.loop-form.form-index < 43 = omega arith in
    none_more form_name all_forms c.args.word.now c.loop-form.form-index _ low c.loop-form.invariant (ap (λ (t : List ℕ). bytes_eq t c.args.word.now) (sym c.name.ensures) ∙ differs)

pub returns : goal.returns
returns c =
    let all : 43 ≤ c.loop-form.form-index = omega arith in
    let P = λ (l : List Operation). list_any (λ x. bytes_eq (form_name x) c.args.word.now) l ≡ false in
    let whole = subst P (take_all c.loop-form.form-index all_forms all) c.loop-form.invariant in
    λ x h e. none_found form_name all_forms c.args.word.now whole x (form_found x) (e)
