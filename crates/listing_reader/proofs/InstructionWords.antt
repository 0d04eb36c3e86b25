-- Instructions of one text are the same, and no word of theirs has a space.
use Rattle.std.proofs.Common.{◌≡◌, ℕ, List, [], ◌∷◌, map, refl, sym, ap, ◌∙◌, subst, All, codes}
use Rattle.wam_code.specs.declared.instruction.Code.{Code}
use Rattle.wam_code.specs.Area.{Table}
use Rattle.code_listing.specs.Texts.{row_word}
use Rattle.listing_reader.specs.declared.forms.Lone.{Lone}
use Rattle.listing_reader.specs.declared.forms.Lone.TheVariants as lone
use Rattle.listing_reader.specs.declared.forms.One.{One}
use Rattle.listing_reader.specs.declared.forms.One.TheVariants as one
use Rattle.listing_reader.specs.declared.forms.Two.{Two}
use Rattle.listing_reader.specs.declared.forms.Two.TheVariants as two
use Rattle.listing_reader.specs.declared.forms.Three.{Three}
use Rattle.listing_reader.specs.declared.forms.Three.TheVariants as three
use Rattle.listing_reader.specs.declared.forms.Side.{Side}
use Rattle.listing_reader.specs.declared.forms.Side.TheVariants as side
use Rattle.listing_reader.specs.declared.forms.Kind.{Kind}
use Rattle.listing_reader.specs.declared.forms.Kind.TheVariants as kind
use Rattle.listing_reader.specs.declared.forms.Counted.{Counted}
use Rattle.listing_reader.specs.declared.forms.Counted.TheVariants as counted
use Rattle.listing_reader.specs.declared.forms.Slotted.{Slotted}
use Rattle.listing_reader.specs.declared.forms.Slotted.TheVariants as slotted
use Rattle.listing_reader.specs.declared.forms.Operation.{Operation}
use Rattle.listing_reader.specs.declared.forms.Operation.TheVariants as form
use Rattle.listing_reader.specs.Forms.{FitsInstruction, form_name, instruction_text}
use Rattle.listing_reader.specs.Lists.{FitsRow}
use Rattle.listing_reader.proofs.FormViews.{Args, FitsArgs, FitsOne, FitsTwo, FitsThree, OneArgs, TwoArgs, ThreeArgs, one_word, two_words, three_words}
use Rattle.listing_reader.proofs.FormViews.{args_words, build, view, text_build, fits_args, one_form}
use Rattle.listing_reader.proofs.GoalWords.{one_aim, one_builtin, one_constraint, one_order, printed_aim, printed_builtin, printed_constraint, printed_order}
use Rattle.listing_reader.proofs.Instructions.{Words}
use Rattle.listing_reader.proofs.RowWords.{one_row, printed_row, rows_each}
use Rattle.listing_reader.proofs.WordTexts.{ArePrinted, IsPrinted, one_argument, one_arity, one_atom, one_integer, one_number, one_register, one_slot}
use Rattle.listing_reader.proofs.WordTexts.{printed_argument, printed_arity, printed_integer, printed_number, printed_register, printed_slot}
use Rattle.listing_reader.proofs.LineWords.{one_list, printed_map}

-- ---- one operand

one_one : (o : One) (x y : OneArgs o) → FitsOne o x → FitsOne o y → one_word o x ≡ one_word o y → x ≡ y
one_one one.UnifyVariable x y f g e = one_register x y f g e
one_one one.UnifyValue x y f g e = one_register x y f g e
one_one one.UnifyConstant x y f g e = one_atom x y f g e
one_one one.UnifyInteger x y f g e = one_integer x y f g e
one_one (one.Counted c) x y f g e = one_number x y f g e
one_one (one.Slotted s) x y f g e = one_slot x y f g e
one_one one.Builtin x y f g e = one_builtin x y e
one_one one.Constrain x y f g e = one_constraint x y e
one_one one.Label x y f g e = one_order x y e

printed_one : (o : One) (x : OneArgs o) → FitsOne o x → IsPrinted (one_word o x)
printed_one one.UnifyVariable x f = printed_register x f
printed_one one.UnifyValue x f = printed_register x f
printed_one one.UnifyConstant x f = printed_number x.number f
printed_one one.UnifyInteger x f = printed_integer x f
printed_one (one.Counted c) x f = printed_number x f
printed_one (one.Slotted s) x f = printed_slot x f
printed_one one.Builtin x f = printed_builtin x
printed_one one.Constrain x f = printed_constraint x
printed_one one.Label x f = printed_order x

-- ---- two

pair_same : {A B : Type 0} (x y : A × B) → x.0 ≡ y.0 → x.1 ≡ y.1 → x ≡ y
pair_same {A} {B} x y e f = let P : A → B → A × B = λ a b. (a, b) in ap (λ (a : A). P a x.1) e ∙ ap (P y.0) f

triple_same : {A B C : Type 0} (x y : A × B × C) → x.0 ≡ y.0 → x.1 ≡ y.1 → x.2 ≡ y.2 → x ≡ y
triple_same {A} {B} {C} x y e f g = let P : A → B → C → A × B × C = λ a b c. (a, b, c) in ap (λ (a : A). P a x.1 x.2) e ∙ ap (λ (b : B). P y.0 b x.2) f ∙ ap (P y.0 y.1) g

one_two : (t : Two) (x y : TwoArgs t) → FitsTwo t x → FitsTwo t y → (two_words t x).0 ≡ (two_words t y).0 → (two_words t x).1 ≡ (two_words t y).1 → x ≡ y
one_two (two.Variable s) x y f g e h = pair_same x y (one_register x.0 y.0 f.0 g.0 e) (one_argument x.1 y.1 f.1 g.1 h)
one_two (two.Value s) x y f g e h = pair_same x y (one_register x.0 y.0 f.0 g.0 e) (one_argument x.1 y.1 f.1 g.1 h)
one_two (two.Constant s) x y f g e h = pair_same x y (one_atom x.0 y.0 f.0 g.0 e) (one_argument x.1 y.1 f.1 g.1 h)
one_two (two.Integer s) x y f g e h = pair_same x y (one_integer x.0 y.0 f.0 g.0 e) (one_argument x.1 y.1 f.1 g.1 h)
one_two two.Best x y f g e h = pair_same x y (one_order x.0 y.0 e) (one_aim x.1 y.1 h)
one_two two.PostRange x y f g e h = pair_same x y (one_number x.0 y.0 f.0 g.0 e) (one_number x.1 y.1 f.1 g.1 h)

printed_two : (t : Two) (x : TwoArgs t) → FitsTwo t x → IsPrinted (two_words t x).0 × IsPrinted (two_words t x).1
printed_two (two.Variable s) x f = (printed_register x.0 f.0, printed_argument x.1 f.1)
printed_two (two.Value s) x f = (printed_register x.0 f.0, printed_argument x.1 f.1)
printed_two (two.Constant s) x f = (printed_number x.0.number f.0, printed_argument x.1 f.1)
printed_two (two.Integer s) x f = (printed_integer x.0 f.0, printed_argument x.1 f.1)
printed_two two.Best x f = (printed_order x.0, printed_aim x.1)
printed_two two.PostRange x f = (printed_number x.0 f.0, printed_number x.1 f.1)

-- ---- three

one_three : (t : Three) (x y : ThreeArgs t) → FitsThree t x → FitsThree t y → (three_words t x).0 ≡ (three_words t y).0
    → (three_words t x).1 ≡ (three_words t y).1 → (three_words t x).2 ≡ (three_words t y).2 → x ≡ y
one_three (three.Structure s) x y f g e h k = triple_same x y (one_atom x.0 y.0 f.0 g.0 e) (one_arity x.1 y.1 f.1 g.1 h) (one_argument x.2 y.2 f.2 g.2 k)
one_three three.EnterTest x y f g e h k = triple_same x y (one_slot x.0 y.0 f.0 g.0 e) (one_slot x.1 y.1 f.1 g.1 h) (one_number x.2 y.2 f.2 g.2 k)

printed_three : (t : Three) (x : ThreeArgs t) → FitsThree t x → IsPrinted (three_words t x).0 × IsPrinted (three_words t x).1 × IsPrinted (three_words t x).2
printed_three (three.Structure s) x f = (printed_number x.0.number f.0, printed_arity x.1 f.1, printed_argument x.2 f.2)
printed_three three.EnterTest x f = (printed_slot x.0 f.0, printed_slot x.1 f.1, printed_number x.2 f.2)

-- ---- all

lists_two : (a b c d : List ℕ) → a ∷ b ∷ [] ≡ c ∷ d ∷ [] → (a ≡ c) × (b ≡ d)
lists_two a b c d e = (cc, cc)

lists_three : (a b c d u v : List ℕ) → a ∷ b ∷ c ∷ [] ≡ d ∷ u ∷ v ∷ [] → (a ≡ d) × (b ≡ u) × (c ≡ v)
lists_three a b c d u v e = (cc, cc, cc)

quad_same : (x y : ℕ × ℕ × ℕ × ℕ) → x.0 ≡ y.0 → x.1 ≡ y.1 → x.2 ≡ y.2 → x.3 ≡ y.3 → x ≡ y
quad_same x y e f g h = let P : ℕ → ℕ → ℕ → ℕ → ℕ × ℕ × ℕ × ℕ = λ a b c d. (a, b, c, d) in
    ap (λ (a : ℕ). P a x.1 x.2 x.3) e ∙ ap (λ (b : ℕ). P y.0 b x.2 x.3) f ∙ ap (λ (c : ℕ). P y.0 y.1 c x.3) g ∙ ap (P y.0 y.1 y.2) h

lists_four : (a b c d p q r s : List ℕ) → a ∷ b ∷ c ∷ d ∷ [] ≡ p ∷ q ∷ r ∷ s ∷ [] → (a ≡ p) × (b ≡ q) × (c ≡ r) × (d ≡ s)
lists_four a b c d p q r s e = (cc, cc, cc, cc)

one_args : (f : Operation) (x y : Args f) → FitsArgs f x → FitsArgs f y → args_words f x ≡ args_words f y → x ≡ y
one_args (form.Lone l) x y f g e = refl
one_args (form.One o) x y f g e = one_one o x y f g (let k : one_word o x ∷ [] ≡ one_word o y ∷ [] = e in cc)
one_args (form.Two t) x y f g e = let k = lists_two _ _ _ _ e in one_two t x y f g k.0 k.1
one_args (form.Three t) x y f g e = let k = lists_three _ _ _ _ _ _ e in one_three t x y f g k.0 k.1 k.2
one_args form.SwitchOnTerm x y f g e =
    let k = lists_four _ _ _ _ _ _ _ _ e in
    quad_same x y (one_number x.0 y.0 f.0 g.0 k.0) (one_number x.1 y.1 f.1 g.1 k.1) (one_number x.2 y.2 f.2 g.2 k.2) (one_number x.3 y.3 f.3 g.3 k.3)
one_args (form.Switch k) x y f g e = one_list (FitsRow k) row_word (one_row k) x y (rows_each k x f) (rows_each k y g) e

printed_args : (f : Operation) (x : Args f) → FitsArgs f x → ArePrinted (args_words f x)
printed_args (form.Lone l) x h = tt
printed_args (form.One o) x h = (printed_one o x h, tt)
printed_args (form.Two t) x h = let k = printed_two t x h in (k.0, (k.1, tt))
printed_args (form.Three t) x h = let k = printed_three t x h in (k.0, (k.1, (k.2, tt)))
printed_args form.SwitchOnTerm x h = (printed_number x.0 h.0, (printed_number x.1 h.1, (printed_number x.2 h.2, (printed_number x.3 h.3, tt))))
printed_args (form.Switch k) x h = printed_map (FitsRow k) row_word (λ r f. printed_row r (f.0.0, f.1)) x (rows_each k x h)

printed_name : (f : Operation) → IsPrinted (form_name f)
printed_name (form.Two (two.Variable side.Get)) = refl
printed_name (form.Two (two.Value side.Get)) = refl
printed_name (form.Two (two.Constant side.Get)) = refl
printed_name (form.Two (two.Integer side.Get)) = refl
printed_name (form.Three (three.Structure side.Get)) = refl
printed_name (form.Two (two.Variable side.Put)) = refl
printed_name (form.Two (two.Value side.Put)) = refl
printed_name (form.Two (two.Constant side.Put)) = refl
printed_name (form.Two (two.Integer side.Put)) = refl
printed_name (form.Three (three.Structure side.Put)) = refl
printed_name (form.One one.UnifyVariable) = refl
printed_name (form.One one.UnifyValue) = refl
printed_name (form.One one.UnifyConstant) = refl
printed_name (form.One one.UnifyInteger) = refl
printed_name (form.One (one.Counted counted.UnifyVoid)) = refl
printed_name (form.One (one.Counted counted.Allocate)) = refl
printed_name (form.One (one.Counted counted.Call)) = refl
printed_name (form.One (one.Counted counted.Execute)) = refl
printed_name (form.One (one.Counted counted.Jump)) = refl
printed_name (form.One (one.Counted counted.TryMeElse)) = refl
printed_name (form.One (one.Counted counted.RetryMeElse)) = refl
printed_name (form.One (one.Counted counted.Try)) = refl
printed_name (form.One (one.Counted counted.Retry)) = refl
printed_name (form.One (one.Counted counted.Trust)) = refl
printed_name (form.One (one.Counted counted.Either)) = refl
printed_name (form.Lone lone.Deallocate) = refl
printed_name (form.Lone lone.Proceed) = refl
printed_name (form.Lone lone.FailNow) = refl
printed_name (form.Lone lone.AnswerNow) = refl
printed_name (form.Lone lone.TrustMe) = refl
printed_name form.SwitchOnTerm = refl
printed_name (form.Switch kind.Atoms) = refl
printed_name (form.Switch kind.Integers) = refl
printed_name (form.Switch kind.Structures) = refl
printed_name (form.One one.Builtin) = refl
printed_name (form.One one.Constrain) = refl
printed_name (form.One one.Label) = refl
printed_name (form.Two two.Best) = refl
printed_name (form.Two two.PostRange) = refl
printed_name (form.One (one.Slotted slotted.Level)) = refl
printed_name (form.One (one.Slotted slotted.TestOnly)) = refl
printed_name (form.One (one.Slotted slotted.CutTo)) = refl
printed_name (form.Three three.EnterTest) = refl

-- ---- instructions

pub one_instruction : (y z : Code × Table) → FitsInstruction y → FitsInstruction z → instruction_text y ≡ instruction_text z → y ≡ z
one_instruction y z f g e =
    let v = view y.0 y.1 f.3 in
    let w = view z.0 z.1 g.3 in
    let line : form_name v.form ∷ args_words v.form v.args ≡ form_name w.form ∷ args_words w.form w.args =
    sym (text_build v.form v.args) ∙ ap instruction_text v.is ∙ e ∙ sym (ap instruction_text w.is) ∙ text_build w.form w.args in
    let name : form_name v.form ≡ form_name w.form = cc in
    let ws : args_words v.form v.args ≡ args_words w.form w.args = cc in
    let P : Operation → Type 0 = λ k. (x : Args k) → FitsArgs k x → args_words k x ≡ args_words w.form w.args → build k x ≡ build w.form w.args in
    let here : P w.form = λ x h q. ap (build w.form) (one_args w.form x w.args h (fits_args w.form w.args (subst FitsInstruction (sym w.is) g)) q) in
    sym v.is ∙ subst P (sym (one_form v.form w.form name)) here v.args (fits_args v.form v.args (subst FitsInstruction (sym v.is) f)) ws ∙ w.is

pub printed_instruction : (y : Code × Table) → FitsInstruction y → ArePrinted (instruction_text y)
printed_instruction y f =
    let v = view y.0 y.1 f.3 in
    subst ArePrinted (sym (text_build v.form v.args) ∙ ap instruction_text v.is) (printed_name v.form, printed_args v.form v.args (fits_args v.form v.args (subst FitsInstruction (sym v.is) f)))

-- its first word, and the others
pub record Named (y : Code × Table) : Type 0 where
  pub name : List ℕ
  pub operands : Words
  pub is : instruction_text y ≡ name ∷ operands

pub named : (y : Code × Table) → FitsInstruction y → Named y
named y f = let v = view y.0 y.1 f.3 in record { name = form_name v.form; operands = args_words v.form v.args; is = sym (ap instruction_text v.is) ∙ text_build v.form v.args }
