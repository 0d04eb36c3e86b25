-- How the crate's values are seen.
use Rattle.std.specs.Prelude.{ℕ, Bool, true, false, List, [], ◌∷◌, Option, Some, None, slice_get, if◌then◌else◌, ◌==◌, nat_eq}
use Rattle.indexmap.specs.IndexMap.{get}
use Rattle.fd_language.specs.Term.{Name}
use Rattle.fd_language.specs.TermTexts as model
use Rattle.term_writer.specs.declared.Mode.{Mode}
use Rattle.term_writer.specs.declared.Mode.TheVariants.{Quoted, Plain}
use Rattle.term_writer.specs.declared.VarText.{VarText}
use Rattle.term_writer.specs.declared.names.Names.{Names}

abbrev pub mode_of : Mode → model.Mode
mode_of Quoted = model.Quoted
mode_of Plain = model.Plain

-- a variable's text: that of the first entry for it, and no byte where there is none
abbrev pub text_of : List VarText → ℕ → List ℕ
text_of [] x = []
text_of (v ∷ vs) x = if v.var == x then v.text.items else text_of vs x

-- an atom's text, and where before is true that of the name before `(`
abbrev pub name_text : model.Mode → Bool → Name → List ℕ
name_text mode true f = model.functor_text mode f
name_text mode false a = model.atom_text mode a

abbrev pub text_at : Option VarText → List ℕ
text_at None = []
text_at (Some v) = v.text.items

abbrev pub text_by : List VarText → Option ℕ → List ℕ
text_by vars None = []
text_by vars (Some place) = text_at (slice_get vars place)

-- a variable's text by the index
abbrev pub text_in : Names → ℕ → List ℕ
text_in names x = text_by names.vars.now (get nat_eq names.places x)
