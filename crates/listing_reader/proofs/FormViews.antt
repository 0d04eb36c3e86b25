-- Instructions by their forms.
use Rattle.std.proofs.Common.{◌≡◌, ℕ, ℤ, Bool, List, [], ◌∷◌, Option, Some, None, refl, sym, ap, ◌∙◌, subst, All, IsTrue, map, decimal, codes}
use Rattle.std.specs.Fmt.{signed_decimal}
use Rattle.std.specs.Str.{bytes_eq}
use Rattle.term_pool.specs.declared.AtomId.{AtomId}
use Rattle.fd_model.specs.declared.kinds.Order.{Order}
use Rattle.fd_model.specs.declared.kinds.ConstraintKind.{ConstraintKind}
use Rattle.fd_model.specs.declared.kinds.BuiltinKind.{BuiltinKind}
use Rattle.wam_code.specs.declared.instruction.Register.{Register}
use Rattle.wam_code.specs.declared.instruction.Code.{Code}
use Rattle.wam_code.specs.declared.instruction.Code.TheVariants as code
use Rattle.wam_code.specs.declared.instruction.Code.TheVariants.{GetVariable, GetValue, GetConstant, GetInteger, GetStructure, UnifyVariable, UnifyValue}
use Rattle.wam_code.specs.declared.instruction.Code.TheVariants.{UnifyConstant, UnifyInteger, UnifyVoid, PutVariable, PutValue, PutConstant, PutInteger}
use Rattle.wam_code.specs.declared.instruction.Code.TheVariants.{PutStructure, Allocate, Deallocate, Call, Execute, Proceed, Jump, FailNow, AnswerNow}
use Rattle.wam_code.specs.declared.instruction.Code.TheVariants.{TryMeElse, RetryMeElse, TrustMe, Try, Retry, Trust, SwitchOnTerm, SwitchOnConstant}
use Rattle.wam_code.specs.declared.instruction.Code.TheVariants.{SwitchOnInteger, SwitchOnStructure, Either, Builtin, Constrain, Label, Best, PostRange}
use Rattle.wam_code.specs.declared.instruction.Code.TheVariants.{TestOnly, EnterTest, CutTo}
use Rattle.wam_code.specs.Area.{Table}
use Rattle.wam_code.specs.VerifiedCode.{is_atom, is_int, is_struct}
use Rattle.code_listing.specs.Names.{builtin_word, constraint_word, order_word, aim_word}
use Rattle.code_listing.specs.Texts.{atom_number, argument_word, register_word, slot_word, row_word, instruction_words}
use Rattle.listing_reader.specs.declared.forms.Lone.{Lone}
use Rattle.listing_reader.specs.declared.forms.Lone.TheVariants as lone
use Rattle.listing_reader.specs.declared.forms.One.{One}
use Rattle.listing_reader.specs.declared.forms.One.TheVariants as one
use Rattle.listing_reader.specs.declared.forms.Two.{Two}
use Rattle.listing_reader.specs.declared.forms.Two.TheVariants as two
use Rattle.listing_reader.specs.declared.forms.Three.{Three}
use Rattle.listing_reader.specs.declared.forms.Three.TheVariants as three
use Rattle.listing_reader.specs.declared.forms.Side.{Side}
use Rattle.listing_reader.specs.declared.forms.Side.TheVariants as side
use Rattle.listing_reader.specs.declared.forms.Kind.{Kind}
use Rattle.listing_reader.specs.declared.forms.Kind.TheVariants as kind
use Rattle.listing_reader.specs.declared.forms.Counted.{Counted}
use Rattle.listing_reader.specs.declared.forms.Counted.TheVariants as counted
use Rattle.listing_reader.specs.declared.forms.Slotted.{Slotted}
use Rattle.listing_reader.specs.declared.forms.Slotted.TheVariants as slotted
use Rattle.listing_reader.specs.declared.forms.Operation.{Operation}
use Rattle.listing_reader.specs.declared.forms.Operation.TheVariants as form
use Rattle.listing_reader.specs.NumberBounds.{IsNumber, IsArity, IsInteger, IsSmall}
use Rattle.listing_reader.specs.Operands.{IsSmallAtom}
use Rattle.listing_reader.specs.Forms.{FitsInstruction, IsBare, IsSmallTable, form_name, counted_code, slotted_code, variable_code, value_code, constant_code}
use Rattle.listing_reader.specs.Forms.{integer_code, structure_code, instruction_text}
use Rattle.listing_reader.proofs.LinePrefixes.{all_none}
use Rattle.listing_reader.proofs.GoalWords.{found}

-- ---- operands

abbrev pub OneArgs : One → Type 0
OneArgs one.UnifyVariable = Register
OneArgs one.UnifyValue = Register
OneArgs one.UnifyConstant = AtomId
OneArgs one.UnifyInteger = ℤ
OneArgs (one.Counted c) = ℕ
OneArgs (one.Slotted s) = ℕ
OneArgs one.Builtin = BuiltinKind
OneArgs one.Constrain = ConstraintKind
OneArgs one.Label = Order

abbrev pub TwoArgs : Two → Type 0
TwoArgs (two.Variable s) = Register × ℕ
TwoArgs (two.Value s) = Register × ℕ
TwoArgs (two.Constant s) = AtomId × ℕ
TwoArgs (two.Integer s) = ℤ × ℕ
TwoArgs two.Best = Order × Bool
TwoArgs two.PostRange = ℕ × ℕ

abbrev pub ThreeArgs : Three → Type 0
ThreeArgs (three.Structure s) = AtomId × ℕ × ℕ
ThreeArgs three.EnterTest = ℕ × ℕ × ℕ

abbrev pub Args : Operation → Type 0
Args (form.Lone l) = Unit {0}
Args (form.One o) = OneArgs o
Args (form.Two t) = TwoArgs t
Args (form.Three t) = ThreeArgs t
Args form.SwitchOnTerm = ℕ × ℕ × ℕ × ℕ
Args (form.Switch k) = Table

-- ---- the instruction of a form with operands

abbrev pub lone_build : Lone → Code
lone_build lone.Deallocate = Deallocate
lone_build lone.Proceed = Proceed
lone_build lone.FailNow = FailNow
lone_build lone.AnswerNow = AnswerNow
lone_build lone.TrustMe = TrustMe

abbrev pub one_build : (o : One) → OneArgs o → Code
one_build one.UnifyVariable r = UnifyVariable r
one_build one.UnifyValue r = UnifyValue r
one_build one.UnifyConstant c = UnifyConstant c
one_build one.UnifyInteger z = UnifyInteger z
one_build (one.Counted c) n = counted_code c n
one_build (one.Slotted s) n = slotted_code s n
one_build one.Builtin k = Builtin k
one_build one.Constrain k = Constrain k
one_build one.Label o = Label o

abbrev pub two_build : (t : Two) → TwoArgs t → Code
two_build (two.Variable s) x = variable_code s x.0 x.1
two_build (two.Value s) x = value_code s x.0 x.1
two_build (two.Constant s) x = constant_code s x.0 x.1
two_build (two.Integer s) x = integer_code s x.0 x.1
two_build two.Best x = Best x.0 x.1
two_build two.PostRange x = PostRange x.0 x.1

abbrev pub three_build : (t : Three) → ThreeArgs t → Code
three_build (three.Structure s) x = structure_code s x.0 x.1 x.2
three_build three.EnterTest x = EnterTest x.0 x.1 x.2

abbrev pub switch_build : Kind → Code
switch_build kind.Atoms = SwitchOnConstant 0
switch_build kind.Integers = SwitchOnInteger 0
switch_build kind.Structures = SwitchOnStructure 0

abbrev pub build : (f : Operation) → Args f → Code × Table
build (form.Lone l) x = (lone_build l, [])
build (form.One o) x = (one_build o x, [])
build (form.Two t) x = (two_build t x, [])
build (form.Three t) x = (three_build t x, [])
build form.SwitchOnTerm x = (SwitchOnTerm x.0 x.1 x.2 x.3, [])
build (form.Switch k) rows = (switch_build k, rows)

-- ---- its operands' words

abbrev pub one_word : (o : One) → OneArgs o → List ℕ
one_word one.UnifyVariable r = register_word r
one_word one.UnifyValue r = register_word r
one_word one.UnifyConstant c = atom_number c
one_word one.UnifyInteger z = signed_decimal z
one_word (one.Counted c) n = decimal n
one_word (one.Slotted s) n = slot_word n
one_word one.Builtin k = builtin_word k
one_word one.Constrain k = constraint_word k
one_word one.Label o = order_word o

abbrev pub two_words : (t : Two) → TwoArgs t → List ℕ × List ℕ
two_words (two.Variable s) x = (register_word x.0, argument_word x.1)
two_words (two.Value s) x = (register_word x.0, argument_word x.1)
two_words (two.Constant s) x = (atom_number x.0, argument_word x.1)
two_words (two.Integer s) x = (signed_decimal x.0, argument_word x.1)
two_words two.Best x = (order_word x.0, aim_word x.1)
two_words two.PostRange x = (decimal x.0, decimal x.1)

abbrev pub three_words : (t : Three) → ThreeArgs t → List ℕ × List ℕ × List ℕ
three_words (three.Structure s) x = (atom_number x.0, decimal x.1, argument_word x.2)
three_words three.EnterTest x = (slot_word x.0, slot_word x.1, decimal x.2)

abbrev pub args_words : (f : Operation) → Args f → List (List ℕ)
args_words (form.Lone l) x = []
args_words (form.One o) x = one_word o x ∷ []
args_words (form.Two t) x = (two_words t x).0 ∷ (two_words t x).1 ∷ []
args_words (form.Three t) x = (three_words t x).0 ∷ (three_words t x).1 ∷ (three_words t x).2 ∷ []
args_words form.SwitchOnTerm x = decimal x.0 ∷ decimal x.1 ∷ decimal x.2 ∷ decimal x.3 ∷ []
args_words (form.Switch k) rows = map row_word rows

-- ---- sizes

abbrev pub FitsOne : (o : One) → OneArgs o → Type 0
FitsOne one.UnifyVariable r = IsSmall r
FitsOne one.UnifyValue r = IsSmall r
FitsOne one.UnifyConstant c = IsNumber c.number
FitsOne one.UnifyInteger z = IsInteger z
FitsOne (one.Counted c) n = IsNumber n
FitsOne (one.Slotted s) n = IsNumber n
FitsOne one.Builtin k = Unit {0}
FitsOne one.Constrain k = Unit {0}
FitsOne one.Label o = Unit {0}

abbrev pub FitsTwo : (t : Two) → TwoArgs t → Type 0
FitsTwo (two.Variable s) x = IsSmall x.0 × IsNumber x.1
FitsTwo (two.Value s) x = IsSmall x.0 × IsNumber x.1
FitsTwo (two.Constant s) x = IsNumber x.0.number × IsNumber x.1
FitsTwo (two.Integer s) x = IsInteger x.0 × IsNumber x.1
FitsTwo two.Best x = Unit {0}
FitsTwo two.PostRange x = IsNumber x.0 × IsNumber x.1

abbrev pub FitsThree : (t : Three) → ThreeArgs t → Type 0
FitsThree (three.Structure s) x = IsNumber x.0.number × IsArity x.1 × IsNumber x.2
FitsThree three.EnterTest x = IsNumber x.0 × IsNumber x.1 × IsNumber x.2

abbrev pub FitsSwitch : Kind → Table → Type 0
FitsSwitch kind.Atoms rows = All (λ row. IsTrue (is_atom row.0)) rows
FitsSwitch kind.Integers rows = All (λ row. IsTrue (is_int row.0)) rows
FitsSwitch kind.Structures rows = All (λ row. IsTrue (is_struct row.0)) rows

abbrev pub FitsArgs : (f : Operation) → Args f → Type 0
FitsArgs (form.Lone l) x = Unit {0}
FitsArgs (form.One o) x = FitsOne o x
FitsArgs (form.Two t) x = FitsTwo t x
FitsArgs (form.Three t) x = FitsThree t x
FitsArgs form.SwitchOnTerm x = IsNumber x.0 × IsNumber x.1 × IsNumber x.2 × IsNumber x.3
FitsArgs (form.Switch k) rows = IsSmallTable rows × FitsSwitch k rows

-- ---- each instruction has a form

pub record View (y : Code × Table) : Type 0 where
  pub form : Operation
  pub args : Args form
  pub is : build form args ≡ y

pub view : (i : Code) (rows : Table) → IsBare i rows → View (i, rows)
view (GetVariable r a) rows h = record { form = form.Two (two.Variable side.Get); args = (r, a); is = ap (λ (q : Table). (GetVariable r a, q)) (sym h) }
view (GetValue r a) rows h = record { form = form.Two (two.Value side.Get); args = (r, a); is = ap (λ (q : Table). (GetValue r a, q)) (sym h) }
view (GetConstant c a) rows h = record { form = form.Two (two.Constant side.Get); args = (c, a); is = ap (λ (q : Table). (GetConstant c a, q)) (sym h) }
view (GetInteger z a) rows h = record { form = form.Two (two.Integer side.Get); args = (z, a); is = ap (λ (q : Table). (GetInteger z a, q)) (sym h) }
view (GetStructure f n a) rows h = record { form = form.Three (three.Structure side.Get); args = (f, n, a); is = ap (λ (q : Table). (GetStructure f n a, q)) (sym h) }
view (PutVariable r a) rows h = record { form = form.Two (two.Variable side.Put); args = (r, a); is = ap (λ (q : Table). (PutVariable r a, q)) (sym h) }
view (PutValue r a) rows h = record { form = form.Two (two.Value side.Put); args = (r, a); is = ap (λ (q : Table). (PutValue r a, q)) (sym h) }
view (PutConstant c a) rows h = record { form = form.Two (two.Constant side.Put); args = (c, a); is = ap (λ (q : Table). (PutConstant c a, q)) (sym h) }
view (PutInteger z a) rows h = record { form = form.Two (two.Integer side.Put); args = (z, a); is = ap (λ (q : Table). (PutInteger z a, q)) (sym h) }
view (PutStructure f n a) rows h = record { form = form.Three (three.Structure side.Put); args = (f, n, a); is = ap (λ (q : Table). (PutStructure f n a, q)) (sym h) }
view (UnifyVariable r) rows h = record { form = form.One one.UnifyVariable; args = r; is = ap (λ (q : Table). (UnifyVariable r, q)) (sym h) }
view (UnifyValue r) rows h = record { form = form.One one.UnifyValue; args = r; is = ap (λ (q : Table). (UnifyValue r, q)) (sym h) }
view (UnifyConstant c) rows h = record { form = form.One one.UnifyConstant; args = c; is = ap (λ (q : Table). (UnifyConstant c, q)) (sym h) }
view (UnifyInteger z) rows h = record { form = form.One one.UnifyInteger; args = z; is = ap (λ (q : Table). (UnifyInteger z, q)) (sym h) }
view (UnifyVoid n) rows h = record { form = form.One (one.Counted counted.UnifyVoid); args = n; is = ap (λ (q : Table). (UnifyVoid n, q)) (sym h) }
view (Allocate n) rows h = record { form = form.One (one.Counted counted.Allocate); args = n; is = ap (λ (q : Table). (Allocate n, q)) (sym h) }
view (Call n) rows h = record { form = form.One (one.Counted counted.Call); args = n; is = ap (λ (q : Table). (Call n, q)) (sym h) }
view (Execute n) rows h = record { form = form.One (one.Counted counted.Execute); args = n; is = ap (λ (q : Table). (Execute n, q)) (sym h) }
view (Jump n) rows h = record { form = form.One (one.Counted counted.Jump); args = n; is = ap (λ (q : Table). (Jump n, q)) (sym h) }
view (TryMeElse n) rows h = record { form = form.One (one.Counted counted.TryMeElse); args = n; is = ap (λ (q : Table). (TryMeElse n, q)) (sym h) }
view (RetryMeElse n) rows h = record { form = form.One (one.Counted counted.RetryMeElse); args = n; is = ap (λ (q : Table). (RetryMeElse n, q)) (sym h) }
view (Try n) rows h = record { form = form.One (one.Counted counted.Try); args = n; is = ap (λ (q : Table). (Try n, q)) (sym h) }
view (Retry n) rows h = record { form = form.One (one.Counted counted.Retry); args = n; is = ap (λ (q : Table). (Retry n, q)) (sym h) }
view (Trust n) rows h = record { form = form.One (one.Counted counted.Trust); args = n; is = ap (λ (q : Table). (Trust n, q)) (sym h) }
view (Either n) rows h = record { form = form.One (one.Counted counted.Either); args = n; is = ap (λ (q : Table). (Either n, q)) (sym h) }
view Deallocate rows h = record { form = form.Lone lone.Deallocate; args = tt; is = ap (λ (q : Table). (Deallocate, q)) (sym h) }
view Proceed rows h = record { form = form.Lone lone.Proceed; args = tt; is = ap (λ (q : Table). (Proceed, q)) (sym h) }
view FailNow rows h = record { form = form.Lone lone.FailNow; args = tt; is = ap (λ (q : Table). (FailNow, q)) (sym h) }
view AnswerNow rows h = record { form = form.Lone lone.AnswerNow; args = tt; is = ap (λ (q : Table). (AnswerNow, q)) (sym h) }
view TrustMe rows h = record { form = form.Lone lone.TrustMe; args = tt; is = ap (λ (q : Table). (TrustMe, q)) (sym h) }
view (SwitchOnTerm v c i s) rows h = record { form = form.SwitchOnTerm; args = (v, c, i, s); is = ap (λ (q : Table). (SwitchOnTerm v c i s, q)) (sym h) }
view (SwitchOnConstant t) rows h = record { form = form.Switch kind.Atoms; args = rows; is = ap (λ (k : ℕ). (SwitchOnConstant k, rows)) (sym h) }
view (SwitchOnInteger t) rows h = record { form = form.Switch kind.Integers; args = rows; is = ap (λ (k : ℕ). (SwitchOnInteger k, rows)) (sym h) }
view (SwitchOnStructure t) rows h = record { form = form.Switch kind.Structures; args = rows; is = ap (λ (k : ℕ). (SwitchOnStructure k, rows)) (sym h) }
view (Builtin k) rows h = record { form = form.One one.Builtin; args = k; is = ap (λ (q : Table). (Builtin k, q)) (sym h) }
view (Constrain k) rows h = record { form = form.One one.Constrain; args = k; is = ap (λ (q : Table). (Constrain k, q)) (sym h) }
view (Label o) rows h = record { form = form.One one.Label; args = o; is = ap (λ (q : Table). (Label o, q)) (sym h) }
view (Best o l) rows h = record { form = form.Two two.Best; args = (o, l); is = ap (λ (q : Table). (Best o l, q)) (sym h) }
view (PostRange r n) rows h = record { form = form.Two two.PostRange; args = (r, n); is = ap (λ (q : Table). (PostRange r n, q)) (sym h) }
view (code.Level n) rows h = record { form = form.One (one.Slotted slotted.Level); args = n; is = ap (λ (q : Table). (code.Level n, q)) (sym h) }
view (TestOnly n) rows h = record { form = form.One (one.Slotted slotted.TestOnly); args = n; is = ap (λ (q : Table). (TestOnly n, q)) (sym h) }
view (CutTo n) rows h = record { form = form.One (one.Slotted slotted.CutTo); args = n; is = ap (λ (q : Table). (CutTo n, q)) (sym h) }
view (EnterTest n m to) rows h = record { form = form.Three three.EnterTest; args = (n, m, to); is = ap (λ (q : Table). (EnterTest n m to, q)) (sym h) }

pub text_build : (f : Operation) (x : Args f) → instruction_text (build f x) ≡ form_name f ∷ args_words f x
text_build (form.Two (two.Variable side.Get)) x = refl
text_build (form.Two (two.Value side.Get)) x = refl
text_build (form.Two (two.Constant side.Get)) x = refl
text_build (form.Two (two.Integer side.Get)) x = refl
text_build (form.Three (three.Structure side.Get)) x = refl
text_build (form.Two (two.Variable side.Put)) x = refl
text_build (form.Two (two.Value side.Put)) x = refl
text_build (form.Two (two.Constant side.Put)) x = refl
text_build (form.Two (two.Integer side.Put)) x = refl
text_build (form.Three (three.Structure side.Put)) x = refl
text_build (form.One one.UnifyVariable) x = refl
text_build (form.One one.UnifyValue) x = refl
text_build (form.One one.UnifyConstant) x = refl
text_build (form.One one.UnifyInteger) x = refl
text_build (form.One (one.Counted counted.UnifyVoid)) x = refl
text_build (form.One (one.Counted counted.Allocate)) x = refl
text_build (form.One (one.Counted counted.Call)) x = refl
text_build (form.One (one.Counted counted.Execute)) x = refl
text_build (form.One (one.Counted counted.Jump)) x = refl
text_build (form.One (one.Counted counted.TryMeElse)) x = refl
text_build (form.One (one.Counted counted.RetryMeElse)) x = refl
text_build (form.One (one.Counted counted.Try)) x = refl
text_build (form.One (one.Counted counted.Retry)) x = refl
text_build (form.One (one.Counted counted.Trust)) x = refl
text_build (form.One (one.Counted counted.Either)) x = refl
text_build (form.Lone lone.Deallocate) x = refl
text_build (form.Lone lone.Proceed) x = refl
text_build (form.Lone lone.FailNow) x = refl
text_build (form.Lone lone.AnswerNow) x = refl
text_build (form.Lone lone.TrustMe) x = refl
text_build form.SwitchOnTerm x = refl
text_build (form.Switch kind.Atoms) x = refl
text_build (form.Switch kind.Integers) x = refl
text_build (form.Switch kind.Structures) x = refl
text_build (form.One one.Builtin) x = refl
text_build (form.One one.Constrain) x = refl
text_build (form.One one.Label) x = refl
text_build (form.Two two.Best) x = refl
text_build (form.Two two.PostRange) x = refl
text_build (form.One (one.Slotted slotted.Level)) x = refl
text_build (form.One (one.Slotted slotted.TestOnly)) x = refl
text_build (form.One (one.Slotted slotted.CutTo)) x = refl
text_build (form.Three three.EnterTest) x = refl

-- the operands fit where the instruction does
pub fits_build : (f : Operation) (x : Args f) → FitsArgs f x → FitsInstruction (build f x)
fits_build (form.Two (two.Variable side.Get)) x h = (h, all_none _, all_none _, refl)
fits_build (form.Two (two.Value side.Get)) x h = (h, all_none _, all_none _, refl)
fits_build (form.Two (two.Constant side.Get)) x h = (h, all_none _, all_none _, refl)
fits_build (form.Two (two.Integer side.Get)) x h = (h, all_none _, all_none _, refl)
fits_build (form.Three (three.Structure side.Get)) x h = (h, all_none _, all_none _, refl)
fits_build (form.Two (two.Variable side.Put)) x h = (h, all_none _, all_none _, refl)
fits_build (form.Two (two.Value side.Put)) x h = (h, all_none _, all_none _, refl)
fits_build (form.Two (two.Constant side.Put)) x h = (h, all_none _, all_none _, refl)
fits_build (form.Two (two.Integer side.Put)) x h = (h, all_none _, all_none _, refl)
fits_build (form.Three (three.Structure side.Put)) x h = (h, all_none _, all_none _, refl)
fits_build (form.One one.UnifyVariable) x h = (h, all_none _, all_none _, refl)
fits_build (form.One one.UnifyValue) x h = (h, all_none _, all_none _, refl)
fits_build (form.One one.UnifyConstant) x h = (h, all_none _, all_none _, refl)
fits_build (form.One one.UnifyInteger) x h = (h, all_none _, all_none _, refl)
fits_build (form.One (one.Counted counted.UnifyVoid)) x h = (h, all_none _, all_none _, refl)
fits_build (form.One (one.Counted counted.Allocate)) x h = (h, all_none _, all_none _, refl)
fits_build (form.One (one.Counted counted.Call)) x h = (h, all_none _, all_none _, refl)
fits_build (form.One (one.Counted counted.Execute)) x h = (h, all_none _, all_none _, refl)
fits_build (form.One (one.Counted counted.Jump)) x h = (h, all_none _, all_none _, refl)
fits_build (form.One (one.Counted counted.TryMeElse)) x h = (h, all_none _, all_none _, refl)
fits_build (form.One (one.Counted counted.RetryMeElse)) x h = (h, all_none _, all_none _, refl)
fits_build (form.One (one.Counted counted.Try)) x h = (h, all_none _, all_none _, refl)
fits_build (form.One (one.Counted counted.Retry)) x h = (h, all_none _, all_none _, refl)
fits_build (form.One (one.Counted counted.Trust)) x h = (h, all_none _, all_none _, refl)
fits_build (form.One (one.Counted counted.Either)) x h = (h, all_none _, all_none _, refl)
fits_build (form.Lone lone.Deallocate) x h = (tt, all_none _, all_none _, refl)
fits_build (form.Lone lone.Proceed) x h = (tt, all_none _, all_none _, refl)
fits_build (form.Lone lone.FailNow) x h = (tt, all_none _, all_none _, refl)
fits_build (form.Lone lone.AnswerNow) x h = (tt, all_none _, all_none _, refl)
fits_build (form.Lone lone.TrustMe) x h = (tt, all_none _, all_none _, refl)
fits_build form.SwitchOnTerm x h = (h, all_none _, all_none _, refl)
fits_build (form.Switch kind.Atoms) x h = (tt, h.0, h.1, refl)
fits_build (form.Switch kind.Integers) x h = (tt, h.0, h.1, refl)
fits_build (form.Switch kind.Structures) x h = (tt, h.0, h.1, refl)
fits_build (form.One one.Builtin) x h = (tt, all_none _, all_none _, refl)
fits_build (form.One one.Constrain) x h = (tt, all_none _, all_none _, refl)
fits_build (form.One one.Label) x h = (tt, all_none _, all_none _, refl)
fits_build (form.Two two.Best) x h = (tt, all_none _, all_none _, refl)
fits_build (form.Two two.PostRange) x h = (h, all_none _, all_none _, refl)
fits_build (form.One (one.Slotted slotted.Level)) x h = (h, all_none _, all_none _, refl)
fits_build (form.One (one.Slotted slotted.TestOnly)) x h = (h, all_none _, all_none _, refl)
fits_build (form.One (one.Slotted slotted.CutTo)) x h = (h, all_none _, all_none _, refl)
fits_build (form.Three three.EnterTest) x h = (h, all_none _, all_none _, refl)

pub fits_args : (f : Operation) (x : Args f) → FitsInstruction (build f x) → FitsArgs f x
fits_args (form.Two (two.Variable side.Get)) x h = h.0
fits_args (form.Two (two.Value side.Get)) x h = h.0
fits_args (form.Two (two.Constant side.Get)) x h = h.0
fits_args (form.Two (two.Integer side.Get)) x h = h.0
fits_args (form.Three (three.Structure side.Get)) x h = h.0
fits_args (form.Two (two.Variable side.Put)) x h = h.0
fits_args (form.Two (two.Value side.Put)) x h = h.0
fits_args (form.Two (two.Constant side.Put)) x h = h.0
fits_args (form.Two (two.Integer side.Put)) x h = h.0
fits_args (form.Three (three.Structure side.Put)) x h = h.0
fits_args (form.One one.UnifyVariable) x h = h.0
fits_args (form.One one.UnifyValue) x h = h.0
fits_args (form.One one.UnifyConstant) x h = h.0
fits_args (form.One one.UnifyInteger) x h = h.0
fits_args (form.One (one.Counted counted.UnifyVoid)) x h = h.0
fits_args (form.One (one.Counted counted.Allocate)) x h = h.0
fits_args (form.One (one.Counted counted.Call)) x h = h.0
fits_args (form.One (one.Counted counted.Execute)) x h = h.0
fits_args (form.One (one.Counted counted.Jump)) x h = h.0
fits_args (form.One (one.Counted counted.TryMeElse)) x h = h.0
fits_args (form.One (one.Counted counted.RetryMeElse)) x h = h.0
fits_args (form.One (one.Counted counted.Try)) x h = h.0
fits_args (form.One (one.Counted counted.Retry)) x h = h.0
fits_args (form.One (one.Counted counted.Trust)) x h = h.0
fits_args (form.One (one.Counted counted.Either)) x h = h.0
fits_args (form.Lone lone.Deallocate) x h = h.0
fits_args (form.Lone lone.Proceed) x h = h.0
fits_args (form.Lone lone.FailNow) x h = h.0
fits_args (form.Lone lone.AnswerNow) x h = h.0
fits_args (form.Lone lone.TrustMe) x h = h.0
fits_args form.SwitchOnTerm x h = h.0
fits_args (form.Switch kind.Atoms) x h = (h.1, h.2)
fits_args (form.Switch kind.Integers) x h = (h.1, h.2)
fits_args (form.Switch kind.Structures) x h = (h.1, h.2)
fits_args (form.One one.Builtin) x h = h.0
fits_args (form.One one.Constrain) x h = h.0
fits_args (form.One one.Label) x h = h.0
fits_args (form.Two two.Best) x h = h.0
fits_args (form.Two two.PostRange) x h = h.0
fits_args (form.One (one.Slotted slotted.Level)) x h = h.0
fits_args (form.One (one.Slotted slotted.TestOnly)) x h = h.0
fits_args (form.One (one.Slotted slotted.CutTo)) x h = h.0
fits_args (form.Three three.EnterTest) x h = h.0

-- ---- a form by its name

abbrev pub all_forms : List Operation
all_forms = (form.Two (two.Variable side.Get)) ∷ (form.Two (two.Value side.Get)) ∷ (form.Two (two.Constant side.Get)) ∷ (form.Two (two.Integer side.Get))
    ∷ (form.Three (three.Structure side.Get)) ∷ (form.Two (two.Variable side.Put)) ∷ (form.Two (two.Value side.Put)) ∷ (form.Two (two.Constant side.Put))
    ∷ (form.Two (two.Integer side.Put)) ∷ (form.Three (three.Structure side.Put)) ∷ (form.One one.UnifyVariable) ∷ (form.One one.UnifyValue)
    ∷ (form.One one.UnifyConstant) ∷ (form.One one.UnifyInteger) ∷ (form.One (one.Counted counted.UnifyVoid)) ∷ (form.One (one.Counted counted.Allocate))
    ∷ (form.One (one.Counted counted.Call)) ∷ (form.One (one.Counted counted.Execute)) ∷ (form.One (one.Counted counted.Jump))
    ∷ (form.One (one.Counted counted.TryMeElse)) ∷ (form.One (one.Counted counted.RetryMeElse)) ∷ (form.One (one.Counted counted.Try))
    ∷ (form.One (one.Counted counted.Retry)) ∷ (form.One (one.Counted counted.Trust)) ∷ (form.One (one.Counted counted.Either)) ∷ (form.Lone lone.Deallocate)
    ∷ (form.Lone lone.Proceed) ∷ (form.Lone lone.FailNow) ∷ (form.Lone lone.AnswerNow) ∷ (form.Lone lone.TrustMe) ∷ form.SwitchOnTerm ∷ (form.Switch kind.Atoms)
    ∷ (form.Switch kind.Integers) ∷ (form.Switch kind.Structures) ∷ (form.One one.Builtin) ∷ (form.One one.Constrain) ∷ (form.One one.Label)
    ∷ (form.Two two.Best) ∷ (form.Two two.PostRange) ∷ (form.One (one.Slotted slotted.Level)) ∷ (form.One (one.Slotted slotted.TestOnly))
    ∷ (form.One (one.Slotted slotted.CutTo)) ∷ (form.Three three.EnterTest) ∷ []

pub form_found : (f : Operation) → found form_name all_forms (form_name f) ≡ Some f
form_found (form.Two (two.Variable side.Get)) = refl
form_found (form.Two (two.Value side.Get)) = refl
form_found (form.Two (two.Constant side.Get)) = refl
form_found (form.Two (two.Integer side.Get)) = refl
form_found (form.Three (three.Structure side.Get)) = refl
form_found (form.Two (two.Variable side.Put)) = refl
form_found (form.Two (two.Value side.Put)) = refl
form_found (form.Two (two.Constant side.Put)) = refl
form_found (form.Two (two.Integer side.Put)) = refl
form_found (form.Three (three.Structure side.Put)) = refl
form_found (form.One one.UnifyVariable) = refl
form_found (form.One one.UnifyValue) = refl
form_found (form.One one.UnifyConstant) = refl
form_found (form.One one.UnifyInteger) = refl
form_found (form.One (one.Counted counted.UnifyVoid)) = refl
form_found (form.One (one.Counted counted.Allocate)) = refl
form_found (form.One (one.Counted counted.Call)) = refl
form_found (form.One (one.Counted counted.Execute)) = refl
form_found (form.One (one.Counted counted.Jump)) = refl
form_found (form.One (one.Counted counted.TryMeElse)) = refl
form_found (form.One (one.Counted counted.RetryMeElse)) = refl
form_found (form.One (one.Counted counted.Try)) = refl
form_found (form.One (one.Counted counted.Retry)) = refl
form_found (form.One (one.Counted counted.Trust)) = refl
form_found (form.One (one.Counted counted.Either)) = refl
form_found (form.Lone lone.Deallocate) = refl
form_found (form.Lone lone.Proceed) = refl
form_found (form.Lone lone.FailNow) = refl
form_found (form.Lone lone.AnswerNow) = refl
form_found (form.Lone lone.TrustMe) = refl
form_found form.SwitchOnTerm = refl
form_found (form.Switch kind.Atoms) = refl
form_found (form.Switch kind.Integers) = refl
form_found (form.Switch kind.Structures) = refl
form_found (form.One one.Builtin) = refl
form_found (form.One one.Constrain) = refl
form_found (form.One one.Label) = refl
form_found (form.Two two.Best) = refl
form_found (form.Two two.PostRange) = refl
form_found (form.One (one.Slotted slotted.Level)) = refl
form_found (form.One (one.Slotted slotted.TestOnly)) = refl
form_found (form.One (one.Slotted slotted.CutTo)) = refl
form_found (form.Three three.EnterTest) = refl

pub one_form : (f g : Operation) → form_name f ≡ form_name g → f ≡ g
one_form f g e = let k : Some f ≡ Some g = sym (form_found f) ∙ ap (found form_name all_forms) e ∙ form_found g in cc
