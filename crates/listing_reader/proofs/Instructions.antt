-- Instructions by their words.
use Rattle.std.proofs.Common.{◌≡◌, ℕ, List, [], ◌∷◌, Option, Some, None, All, map, refl, sym, ap, ◌∙◌, subst, codes}
use Rattle.wam_code.specs.declared.instruction.Code.{Code}
use Rattle.wam_code.specs.Area.{Table}
use Rattle.code_listing.specs.Texts.{row_word}
use Rattle.listing_reader.specs.declared.forms.Operation.{Operation}
use Rattle.listing_reader.specs.declared.forms.Operation.TheVariants as form
use Rattle.listing_reader.specs.declared.forms.Kind.{Kind}
use Rattle.listing_reader.specs.declared.forms.Kind.TheVariants as kind
use Rattle.listing_reader.specs.Forms.{FitsInstruction, ReadsPlain, form_name, instruction_text, switch_code, without_rows}
use Rattle.listing_reader.specs.Lists.{FitsRow}
use Rattle.listing_reader.specs.Reading.{ReadsAs}
use Rattle.listing_reader.proofs.FormViews.{Args, FitsArgs, args_words, build, view, text_build, fits_build, fits_args, one_form}
use Rattle.listing_reader.proofs.RowWords.{rows_each, rows_fit}

abbrev pub Words : Type 0
Words = List (List ℕ)

module _ (f : Operation) (ws : Words) where
  -- operands that no words write
  pub none_of : ((x : Args f) → FitsArgs f x → ¬ (args_words f x ≡ ws)) → (y : Code × Table) → FitsInstruction y → ¬ (instruction_text y ≡ form_name f ∷ ws)
  none_of none y h e =
      let v = view y.0 y.1 h.3 in
      let g : Operation = v.form in
      let line : form_name g ∷ args_words g v.args ≡ form_name f ∷ ws = sym (text_build g v.args) ∙ ap instruction_text v.is ∙ e in
      let name : form_name g ≡ form_name f = cc in
      let words : args_words g v.args ≡ ws = cc in
      let P : Operation → Type 0 = λ k. (x : Args k) → FitsArgs k x → ¬ (args_words k x ≡ ws) in
      subst P (sym (one_form g f name)) none v.args (fits_args g v.args (subst FitsInstruction (sym v.is) h)) words

  -- operands that words write
  pub some_of : (x : Args f) → FitsArgs f x → args_words f x ≡ ws → FitsInstruction (build f x) × (instruction_text (build f x) ≡ form_name f ∷ ws)
  some_of x h e = (fits_build f x h, text_build f x ∙ ap (λ (l : Words). form_name f ∷ l) e)

-- words that begin with the name of no form
pub no_form : (w : List ℕ) (ws : Words) → ((f : Operation) → ¬ (form_name f ≡ w)) → (y : Code × Table) → FitsInstruction y → ¬ (instruction_text y ≡ w ∷ ws)
no_form w ws none y h e =
    let v = view y.0 y.1 h.3 in
    let line : form_name v.form ∷ args_words v.form v.args ≡ w ∷ ws = sym (text_build v.form v.args) ∙ ap instruction_text v.is ∙ e in
    none v.form (cc)

-- no words
pub no_words : (y : Code × Table) → FitsInstruction y → ¬ (instruction_text y ≡ [])
no_words y h e =
    let v = view y.0 y.1 h.3 in
    let line : form_name v.form ∷ args_words v.form v.args ≡ [] = sym (text_build v.form v.args) ∙ ap instruction_text v.is ∙ e in
    cc

-- ---- switches, and the others

module _ (f : Operation) (ws : Words) where
  pub switch_none : (k : Kind) → f ≡ form.Switch k → ((rows : Table) → All (FitsRow k) rows → ¬ (map row_word rows ≡ ws)) → (y : Code × Table)
      → FitsInstruction y → ¬ (instruction_text y ≡ form_name f ∷ ws)
  switch_none k is none = let P : Operation → Type 0 = λ g. (y : Code × Table) → FitsInstruction y → ¬ (instruction_text y ≡ form_name g ∷ ws) in
      subst P (sym is) (none_of (form.Switch k) ws (λ rows h. none rows (rows_each k rows h)))

  pub switch_some : (k : Kind) → f ≡ form.Switch k → (rows : Table) (i : Code) → i ≡ switch_code k → All (FitsRow k) rows × (map row_word rows ≡ ws)
      → FitsInstruction (i, rows) × (instruction_text (i, rows) ≡ form_name f ∷ ws)
  switch_some k is rows i e h =
      let P : Operation → Type 0 = λ g. FitsInstruction (i, rows) × (instruction_text (i, rows) ≡ form_name g ∷ ws) in
      let Q : Code → Type 0 = λ j. FitsInstruction (j, rows) × (instruction_text (j, rows) ≡ form_name (form.Switch k) ∷ ws) in
      subst P (sym is) (subst Q (sym e) (go k (some_of (form.Switch k) ws rows (rows_fit k rows h.0) h.1)))
    where
      go : (k : Kind) → FitsInstruction (build (form.Switch k) rows) × (instruction_text (build (form.Switch k) rows) ≡ form_name (form.Switch k) ∷ ws)
          → FitsInstruction (switch_code k, rows) × (instruction_text (switch_code k, rows) ≡ form_name (form.Switch k) ∷ ws)
      go kind.Atoms h = h
      go kind.Integers h = h
      go kind.Structures h = h

  pub plain_reads : ((k : Kind) → ¬ (f ≡ form.Switch k)) → (r : Option Code) → ReadsPlain f ws r → ReadsAs without_rows FitsInstruction instruction_text (form_name f ∷ ws) r
  plain_reads none r h = go f none h
    where
      go : (g : Operation) → ((k : Kind) → ¬ (g ≡ form.Switch k)) → ReadsPlain g ws r → ReadsAs without_rows FitsInstruction instruction_text (form_name g ∷ ws) r
      go (form.Switch k) none h = absurd (none k refl)
      go (form.Lone l) none h = h
      go (form.One o) none h = h
      go (form.Two t) none h = h
      go (form.Three t) none h = h
      go form.SwitchOnTerm none h = h

  pub plain_none : ((k : Kind) → ¬ (f ≡ form.Switch k)) → ReadsPlain f ws None → (y : Code × Table) → FitsInstruction y → ¬ (instruction_text y ≡ form_name f ∷ ws)
  plain_none none h = plain_reads none None h

  pub plain_some : ((k : Kind) → ¬ (f ≡ form.Switch k)) → (i : Code) → ReadsPlain f ws (Some i) → (rows : Table) → rows ≡ []
      → FitsInstruction (i, rows) × (instruction_text (i, rows) ≡ form_name f ∷ ws)
  plain_some none i h rows e = let P : Table → Type 0 = λ t. FitsInstruction (i, t) × (instruction_text (i, t) ≡ form_name f ∷ ws) in subst P (sym e) (plain_reads none (Some i) h)
