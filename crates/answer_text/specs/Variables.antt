-- The texts of open variables.
use Rattle.std.specs.Prelude.{◌≡◌, ℕ, true, List, [], ◌∷◌, Option, option_copied, nat_eq}
use Rattle.std.specs.Borrow.{Bor}
use Rattle.indexmap.specs.IndexMap.{IndexMap, get}
use Rattle.fd_language.specs.Family.{has}
use Rattle.fd_language.specs.Term.{Term}
use Rattle.fd_language.specs.Variables.{variables_of}
use Rattle.fd_model.specs.Lines.{open_part, place_in}
use Rattle.machine_events.specs.Events.{set_in}
use Rattle.term_writer.specs.declared.VarText.{VarText}
use Rattle.term_writer.specs.Views.{text_of}

-- the set of a variable by the map, where it has one
abbrev pub set_by : {S : Type 0} → IndexMap ℕ (Bor (List ℕ)) S → ℕ → Option (List ℕ)
set_by sets y = option_copied (get nat_eq sets y)

-- the map has the first set of each variable
abbrev pub HasSets : {S : Type 0} → List (ℕ × List ℕ) → IndexMap ℕ (Bor (List ℕ)) S → Type 0
HasSets list sets = (y : ℕ) → set_by sets y ≡ set_in list y

-- the text of a variable whose number is its place among vs
abbrev pub open_by : (ℕ → Option (List ℕ)) → List ℕ → ℕ → List ℕ
open_by set vs y = open_part (place_in vs y) (set y)

-- each variable with its text
abbrev pub AreTexts : (ℕ → List ℕ) → List ℕ → List VarText → Type 0
AreTexts f [] [] = Unit {0}
AreTexts f [] (t ∷ ts) = ⊥
AreTexts f (y ∷ ys) [] = ⊥
AreTexts f (y ∷ ys) (t ∷ ts) = (t.var ≡ y) × (t.text.items ≡ f y) × AreTexts f ys ts

-- each of the term's variables has its text
abbrev pub GiveTexts : (ℕ → List ℕ) → Term → List VarText → Type 0
GiveTexts f t texts = (y : ℕ) → has (variables_of t) y ≡ true → text_of texts y ≡ f y
