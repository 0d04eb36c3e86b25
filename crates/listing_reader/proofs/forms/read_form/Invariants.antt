use Rattle.std.proofs.Common.{◌≡◌, Bool, false, List, take}
use Rattle.std.specs.List.{list_any}
use Rattle.std.specs.Str.{bytes_eq}
use Rattle.listing_reader.specs.Forms.{form_name}
use Rattle.listing_reader.proofs.FormViews.{all_forms}
use Rattle.listing_reader.proofs.forms.read_form.Given as goal

abbrev pub invariant-loop-form : goal.invariant-loop-form
invariant-loop-form l = list_any (λ f. bytes_eq (form_name f) l.word) (take l.form-index all_forms) ≡ false
