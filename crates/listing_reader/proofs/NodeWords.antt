-- The words of ranges.
use Rattle.std.proofs.Common.{◌≡◌, ℕ, ℤ, ◌<◌, ◌≤◌, get_or, Bool, List, [], ◌∷◌, ◌++◌, map, length, Option, Some, None, refl, sym, ap, ◌∙◌, subst, arith, ◌+◌}
use Rattle.std.proofs.Common.{All, append_assoc, length-append, codes, decimal}
use Rattle.std.specs.Fmt.{signed_decimal}
use Rattle.std.proofs.lemmas.List.{append-nil, length-map}
use Rattle.fd_language.specs.declared.range_node.RangeNode.{RangeNode}
use Rattle.fd_language.specs.declared.range_node.RangeNode.TheVariants as node
use Rattle.code_listing.specs.Words.{between, each_behind, words}
use Rattle.code_listing.specs.Texts.{node_text, nodes_text}
use Rattle.listing_reader.specs.declared.read_nodes.LoneNode.{LoneNode}
use Rattle.listing_reader.specs.declared.read_nodes.LoneNode.TheVariants as lone
use Rattle.listing_reader.specs.declared.read_nodes.SlotNode.{SlotNode}
use Rattle.listing_reader.specs.declared.read_nodes.SlotNode.TheVariants as slot
use Rattle.listing_reader.specs.declared.read_nodes.NodeForm.{NodeForm}
use Rattle.listing_reader.specs.declared.read_nodes.NodeForm.TheVariants as form
use Rattle.listing_reader.specs.NumberBounds.{HasSize, IsInteger, IsNumber}
use Rattle.listing_reader.specs.Nodes.{lone_node, node_name, node_words, nodes_words, slot_node}
use Rattle.listing_reader.specs.Reading.{ReadsAs, split}
use Rattle.listing_reader.proofs.LinePrefixes.{Lines, all_head, all_tail}
use Rattle.listing_reader.proofs.GoalWords.{found}
use Rattle.listing_reader.proofs.Separators.{between_split}
use Rattle.listing_reader.proofs.WordTexts.{ArePrinted, IsPrinted, one_integer, one_number, printed_integer, printed_number}
use Rattle.listing_reader.proofs.LineWords.{printed_all, split_words}

-- ---- each node has a form

abbrev pub NodeArgs : NodeForm → Type 0
NodeArgs form.Integer = ℤ
NodeArgs (form.Lone l) = Unit {0}
NodeArgs (form.Slot s) = ℕ

abbrev pub node_build : (f : NodeForm) → NodeArgs f → RangeNode
node_build form.Integer z = node.Int z
node_build (form.Lone l) x = lone_node l
node_build (form.Slot s) y = slot_node s y

abbrev pub node_rest : (f : NodeForm) → NodeArgs f → Lines
node_rest form.Integer z = signed_decimal z ∷ []
node_rest (form.Lone l) x = []
node_rest (form.Slot s) y = decimal y ∷ []

abbrev pub FitsNode : (f : NodeForm) → NodeArgs f → Type 0
FitsNode form.Integer z = IsInteger z
FitsNode (form.Lone l) x = Unit {0}
FitsNode (form.Slot s) y = IsNumber y

pub record NodeView (n : RangeNode) : Type 0 where
  pub form : NodeForm
  pub args : NodeArgs form
  pub is : node_build form args ≡ n

pub node_view : (n : RangeNode) → NodeView n
node_view (node.Int z) = record { form = form.Integer; args = z; is = refl }
node_view node.Infinity = record { form = form.Lone lone.Infinity; args = tt; is = refl }
node_view node.Add = record { form = form.Lone lone.Add; args = tt; is = refl }
node_view node.Sub = record { form = form.Lone lone.Sub; args = tt; is = refl }
node_view node.Mul = record { form = form.Lone lone.Mul; args = tt; is = refl }
node_view node.DivDown = record { form = form.Lone lone.DivDown; args = tt; is = refl }
node_view node.DivUp = record { form = form.Lone lone.DivUp; args = tt; is = refl }
node_view node.Span = record { form = form.Lone lone.Span; args = tt; is = refl }
node_view node.One = record { form = form.Lone lone.One; args = tt; is = refl }
node_view node.Union = record { form = form.Lone lone.Union; args = tt; is = refl }
node_view node.Inter = record { form = form.Lone lone.Inter; args = tt; is = refl }
node_view node.Outside = record { form = form.Lone lone.Outside; args = tt; is = refl }
node_view node.Plus = record { form = form.Lone lone.Plus; args = tt; is = refl }
node_view node.Minus = record { form = form.Lone lone.Minus; args = tt; is = refl }
node_view node.Times = record { form = form.Lone lone.Times; args = tt; is = refl }
node_view node.Over = record { form = form.Lone lone.Over; args = tt; is = refl }
node_view (node.Param y) = record { form = form.Slot slot.Param; args = y; is = refl }
node_view (node.Min y) = record { form = form.Slot slot.Min; args = y; is = refl }
node_view (node.Max y) = record { form = form.Slot slot.Max; args = y; is = refl }
node_view (node.Val y) = record { form = form.Slot slot.Val; args = y; is = refl }
node_view (node.Dom y) = record { form = form.Slot slot.Dom; args = y; is = refl }

pub words_build : (f : NodeForm) (x : NodeArgs f) → node_words (node_build f x) ≡ node_name f ∷ node_rest f x
words_build form.Integer x = refl
words_build (form.Lone lone.Infinity) x = refl
words_build (form.Lone lone.Add) x = refl
words_build (form.Lone lone.Sub) x = refl
words_build (form.Lone lone.Mul) x = refl
words_build (form.Lone lone.DivDown) x = refl
words_build (form.Lone lone.DivUp) x = refl
words_build (form.Lone lone.Span) x = refl
words_build (form.Lone lone.One) x = refl
words_build (form.Lone lone.Union) x = refl
words_build (form.Lone lone.Inter) x = refl
words_build (form.Lone lone.Outside) x = refl
words_build (form.Lone lone.Plus) x = refl
words_build (form.Lone lone.Minus) x = refl
words_build (form.Lone lone.Times) x = refl
words_build (form.Lone lone.Over) x = refl
words_build (form.Slot slot.Param) x = refl
words_build (form.Slot slot.Min) x = refl
words_build (form.Slot slot.Max) x = refl
words_build (form.Slot slot.Val) x = refl
words_build (form.Slot slot.Dom) x = refl

pub size_build : (f : NodeForm) (x : NodeArgs f) → FitsNode f x → HasSize (node_build f x)
size_build form.Integer x h = h
size_build (form.Lone lone.Infinity) x h = h
size_build (form.Lone lone.Add) x h = h
size_build (form.Lone lone.Sub) x h = h
size_build (form.Lone lone.Mul) x h = h
size_build (form.Lone lone.DivDown) x h = h
size_build (form.Lone lone.DivUp) x h = h
size_build (form.Lone lone.Span) x h = h
size_build (form.Lone lone.One) x h = h
size_build (form.Lone lone.Union) x h = h
size_build (form.Lone lone.Inter) x h = h
size_build (form.Lone lone.Outside) x h = h
size_build (form.Lone lone.Plus) x h = h
size_build (form.Lone lone.Minus) x h = h
size_build (form.Lone lone.Times) x h = h
size_build (form.Lone lone.Over) x h = h
size_build (form.Slot slot.Param) x h = h
size_build (form.Slot slot.Min) x h = h
size_build (form.Slot slot.Max) x h = h
size_build (form.Slot slot.Val) x h = h
size_build (form.Slot slot.Dom) x h = h

pub size_args : (f : NodeForm) (x : NodeArgs f) → HasSize (node_build f x) → FitsNode f x
size_args form.Integer x h = h
size_args (form.Lone lone.Infinity) x h = h
size_args (form.Lone lone.Add) x h = h
size_args (form.Lone lone.Sub) x h = h
size_args (form.Lone lone.Mul) x h = h
size_args (form.Lone lone.DivDown) x h = h
size_args (form.Lone lone.DivUp) x h = h
size_args (form.Lone lone.Span) x h = h
size_args (form.Lone lone.One) x h = h
size_args (form.Lone lone.Union) x h = h
size_args (form.Lone lone.Inter) x h = h
size_args (form.Lone lone.Outside) x h = h
size_args (form.Lone lone.Plus) x h = h
size_args (form.Lone lone.Minus) x h = h
size_args (form.Lone lone.Times) x h = h
size_args (form.Lone lone.Over) x h = h
size_args (form.Slot slot.Param) x h = h
size_args (form.Slot slot.Min) x h = h
size_args (form.Slot slot.Max) x h = h
size_args (form.Slot slot.Val) x h = h
size_args (form.Slot slot.Dom) x h = h

abbrev pub all_node_forms : List NodeForm
all_node_forms = form.Integer ∷ form.Lone lone.Infinity ∷ form.Lone lone.Add ∷ form.Lone lone.Sub ∷ form.Lone lone.Mul ∷ form.Lone lone.DivDown ∷ form.Lone
    lone.DivUp ∷ form.Lone lone.Span ∷ form.Lone lone.One ∷ form.Lone lone.Union ∷ form.Lone lone.Inter ∷ form.Lone lone.Outside ∷ form.Lone
    lone.Plus ∷ form.Lone lone.Minus ∷ form.Lone lone.Times ∷ form.Lone lone.Over ∷ form.Slot slot.Param ∷ form.Slot slot.Min ∷ form.Slot slot.Max ∷ form.Slot
    slot.Val ∷ form.Slot slot.Dom ∷ []

pub node_found : (f : NodeForm) → found node_name all_node_forms (node_name f) ≡ Some f
node_found form.Integer = refl
node_found (form.Lone lone.Infinity) = refl
node_found (form.Lone lone.Add) = refl
node_found (form.Lone lone.Sub) = refl
node_found (form.Lone lone.Mul) = refl
node_found (form.Lone lone.DivDown) = refl
node_found (form.Lone lone.DivUp) = refl
node_found (form.Lone lone.Span) = refl
node_found (form.Lone lone.One) = refl
node_found (form.Lone lone.Union) = refl
node_found (form.Lone lone.Inter) = refl
node_found (form.Lone lone.Outside) = refl
node_found (form.Lone lone.Plus) = refl
node_found (form.Lone lone.Minus) = refl
node_found (form.Lone lone.Times) = refl
node_found (form.Lone lone.Over) = refl
node_found (form.Slot slot.Param) = refl
node_found (form.Slot slot.Min) = refl
node_found (form.Slot slot.Max) = refl
node_found (form.Slot slot.Val) = refl
node_found (form.Slot slot.Dom) = refl

pub one_node_form : (f g : NodeForm) → node_name f ≡ node_name g → f ≡ g
one_node_form f g e = let k : Some f ≡ Some g = sym (node_found f) ∙ ap (found node_name all_node_forms) e ∙ node_found g in cc

-- ---- one text, one node

same_form : (f : NodeForm) (x y : NodeArgs f) → FitsNode f x → FitsNode f y → (v w : Lines) → node_rest f x ++ v ≡ node_rest f y ++ w → (node_build f x ≡ node_build f y) × (v ≡ w)
same_form form.Integer x y f g v w e =
    let k : signed_decimal x ∷ v ≡ signed_decimal y ∷ w = e in
    let first : signed_decimal x ≡ signed_decimal y = cc in
    (ap node.Int (one_integer x y f g first), cc)
same_form (form.Lone l) x y f g v w e = (refl, e)
same_form (form.Slot s) x y f g v w e =
    let k : decimal x ∷ v ≡ decimal y ∷ w = e in
    let first : decimal x ≡ decimal y = cc in
    (ap (slot_node s) (one_number x y f g first), cc)

-- nodes with which words begin are the same
pub node_front : (m n : RangeNode) → HasSize m → HasSize n → (v w : Lines) → node_words m ++ v ≡ node_words n ++ w → (m ≡ n) × (v ≡ w)
node_front m n f g v w e =
    let p = node_view m in
    let q = node_view n in
    let line : node_name p.form ∷ (node_rest p.form p.args ++ v) ≡ node_name q.form ∷ (node_rest q.form q.args ++ w) =
    ap (λ (l : Lines). l ++ v) (sym (words_build p.form p.args) ∙ ap node_words p.is) ∙ e ∙ ap (λ (l : Lines). l ++ w) (sym (ap node_words q.is) ∙ words_build q.form q.args) in
    let name : node_name p.form ≡ node_name q.form = cc in
    let later : node_rest p.form p.args ++ v ≡ node_rest q.form q.args ++ w = cc in
    let P : NodeForm → Type 0 = λ k. (x : NodeArgs k) → FitsNode k x → node_rest k x ++ v ≡ node_rest q.form q.args ++ w → (node_build k x ≡ node_build q.form q.args) × (v ≡ w) in
    let here : P q.form = λ x h r. same_form q.form x q.args h (size_args q.form q.args (subst HasSize (sym q.is) g)) v w r in
    let t = subst P (sym (one_node_form p.form q.form name)) here p.args (size_args p.form p.args (subst HasSize (sym p.is) f)) later in
    (sym p.is ∙ t.0 ∙ q.is, t.1)

no_front : (n : RangeNode) (v : Lines) → ¬ ([] ≡ node_words n ++ v)
no_front n v e =
    let p = node_view n in
    let k : [] ≡ node_name p.form ∷ (node_rest p.form p.args ++ v) = e ∙ ap (λ (l : Lines). l ++ v) (sym (ap node_words p.is) ∙ words_build p.form p.args) in cc

pub one_nodes : (ms ns : List RangeNode) → All HasSize ms → All HasSize ns → nodes_words ms ≡ nodes_words ns → ms ≡ ns
one_nodes [] [] f g e = refl
one_nodes [] (n ∷ ns) f g e = absurd (no_front n (nodes_words ns) e)
one_nodes (m ∷ ms) [] f g e = absurd (no_front m (nodes_words ms) (sym e))
one_nodes (m ∷ ms) (n ∷ ns) f g e =
    let t = node_front m n (all_head HasSize m ms f) (all_head HasSize n ns g) (nodes_words ms) (nodes_words ns) e in
    let first : m ≡ n = t.0 in
    let later : ms ≡ ns = one_nodes ms ns (all_tail HasSize m ms f) (all_tail HasSize n ns g) t.1 in
    cc

-- ---- reading

-- nodes whose words are still to be read
abbrev pub CanFollow : Lines → Type 0
CanFollow rest = (os : List RangeNode) × (All HasSize os × (nodes_words os ≡ rest))

-- they go on behind the first
pub follow_next : (n : RangeNode) → HasSize n → (rest : Lines) → CanFollow (node_words n ++ rest) → CanFollow rest
follow_next n h rest ([], (f, e)) = absurd (no_front n rest e)
follow_next n h rest ((o ∷ os), (f, e)) =
    let t = node_front o n (all_head HasSize o os f) h (nodes_words os) rest e in
    (os, (all_tail HasSize o os f, t.1))

-- where no node stands in front, none follow
pub follow_none : (rest : Lines) → ¬ (rest ≡ []) → ((n : RangeNode) (r : Lines) → HasSize n → ¬ (node_words n ++ r ≡ rest)) → ¬ CanFollow rest
follow_none rest some none ([], (f, e)) = some (sym e)
follow_none rest some none ((o ∷ os), (f, e)) = none o (nodes_words os) (all_head HasSize o os f) e

pub nodes_more : (ns : List RangeNode) (n : RangeNode) → nodes_words (ns ++ n ∷ []) ≡ nodes_words ns ++ node_words n
nodes_more [] n = append-nil (node_words n)
nodes_more (m ∷ ns) n = ap (λ (l : Lines). node_words m ++ l) (nodes_more ns n) ∙ sym (append_assoc (node_words m) (nodes_words ns) (node_words n))

-- ---- a node that isn't in front

module _ (f : NodeForm) (ws : Lines) where
  pub no_node : ((x : NodeArgs f) (r : Lines) → FitsNode f x → ¬ (node_rest f x ++ r ≡ ws)) → (n : RangeNode) (r : Lines) → HasSize n → ¬ (node_words n ++ r ≡ node_name f ∷ ws)
  no_node none n r h e =
      let p = node_view n in
      let line : node_name p.form ∷ (node_rest p.form p.args ++ r) ≡ node_name f ∷ ws = ap (λ (l : Lines). l ++ r) (sym (words_build p.form p.args) ∙ ap node_words p.is) ∙ e in
      let name : node_name p.form ≡ node_name f = cc in
      let later : node_rest p.form p.args ++ r ≡ ws = cc in
      let P : NodeForm → Type 0 = λ k. (x : NodeArgs k) (r : Lines) → FitsNode k x → ¬ (node_rest k x ++ r ≡ ws) in
      subst P (sym (one_node_form p.form f name)) none p.args r (size_args p.form p.args (subst HasSize (sym p.is) h)) later

pub no_node_form : (w : List ℕ) (ws : Lines) → ((f : NodeForm) → ¬ (node_name f ≡ w)) → (n : RangeNode) (r : Lines) → HasSize n → ¬ (node_words n ++ r ≡ w ∷ ws)
no_node_form w ws none n r h e =
    let p = node_view n in
    let line : node_name p.form ∷ (node_rest p.form p.args ++ r) ≡ w ∷ ws = ap (λ (l : Lines). l ++ r) (sym (words_build p.form p.args) ∙ ap node_words p.is) ∙ e in
    none p.form (cc)

pub no_node_end : (n : RangeNode) (r : Lines) → HasSize n → ¬ (node_words n ++ r ≡ [])
no_node_end n r h e = no_front n r (sym e)

-- ---- no spaces

printed_form : (f : NodeForm) → IsPrinted (node_name f)
printed_form form.Integer = refl
printed_form (form.Lone lone.Infinity) = refl
printed_form (form.Lone lone.Add) = refl
printed_form (form.Lone lone.Sub) = refl
printed_form (form.Lone lone.Mul) = refl
printed_form (form.Lone lone.DivDown) = refl
printed_form (form.Lone lone.DivUp) = refl
printed_form (form.Lone lone.Span) = refl
printed_form (form.Lone lone.One) = refl
printed_form (form.Lone lone.Union) = refl
printed_form (form.Lone lone.Inter) = refl
printed_form (form.Lone lone.Outside) = refl
printed_form (form.Lone lone.Plus) = refl
printed_form (form.Lone lone.Minus) = refl
printed_form (form.Lone lone.Times) = refl
printed_form (form.Lone lone.Over) = refl
printed_form (form.Slot slot.Param) = refl
printed_form (form.Slot slot.Min) = refl
printed_form (form.Slot slot.Max) = refl
printed_form (form.Slot slot.Val) = refl
printed_form (form.Slot slot.Dom) = refl

printed_rest : (f : NodeForm) (x : NodeArgs f) → FitsNode f x → ArePrinted (node_rest f x)
printed_rest form.Integer x h = (printed_integer x h, tt)
printed_rest (form.Lone l) x h = tt
printed_rest (form.Slot s) x h = (printed_number x h, tt)

printed_node : (n : RangeNode) → HasSize n → ArePrinted (node_words n)
printed_node n h =
    let p = node_view n in
    subst ArePrinted (sym (words_build p.form p.args) ∙ ap node_words p.is) (printed_form p.form, printed_rest p.form p.args (size_args p.form p.args (subst HasSize (sym p.is) h)))

pub printed_nodes : (ns : List RangeNode) → All HasSize ns → ArePrinted (nodes_words ns)
printed_nodes [] h = tt
printed_nodes (n ∷ ns) h = printed_all (node_words n) (nodes_words ns) (printed_node n (all_head HasSize n ns h)) (printed_nodes ns (all_tail HasSize n ns h))

-- ---- the line

numbered_is : (name w : List ℕ) → name ++ (codes " " ++ w) ≡ words (name ∷ w ∷ [])
numbered_is name w = ap (λ (x : List ℕ). name ++ (codes " " ++ x)) (sym (append-nil w))

node_text_is : (n : RangeNode) → node_text n ≡ words (node_words n)
node_text_is (node.Int z) = numbered_is (codes "i") (signed_decimal z)
node_text_is node.Infinity = refl
node_text_is node.Add = refl
node_text_is node.Sub = refl
node_text_is node.Mul = refl
node_text_is node.DivDown = refl
node_text_is node.DivUp = refl
node_text_is node.Span = refl
node_text_is node.One = refl
node_text_is node.Union = refl
node_text_is node.Inter = refl
node_text_is node.Outside = refl
node_text_is node.Plus = refl
node_text_is node.Minus = refl
node_text_is node.Times = refl
node_text_is node.Over = refl
node_text_is (node.Param y) = numbered_is (codes "p") (decimal y)
node_text_is (node.Min y) = numbered_is (codes "min") (decimal y)
node_text_is (node.Max y) = numbered_is (codes "max") (decimal y)
node_text_is (node.Val y) = numbered_is (codes "val") (decimal y)
node_text_is (node.Dom y) = numbered_is (codes "dom") (decimal y)

behind_join : (us vs : Lines) → each_behind (codes " ") (us ++ vs) ≡ each_behind (codes " ") us ++ each_behind (codes " ") vs
behind_join [] vs = refl
behind_join (u ∷ us) vs = ap (λ (x : List ℕ). codes " " ++ (u ++ x)) (behind_join us vs)
    ∙ ap (λ (x : List ℕ). codes " " ++ x) (sym (append_assoc u (each_behind (codes " ") us) (each_behind (codes " ") vs)))

behind_node : (n : RangeNode) → each_behind (codes " ") (node_words n) ≡ codes " " ++ node_text n
behind_node n = go (node_words n) (sym (node_text_is n)) (λ e. no_front n [] (sym (append-nil (node_words n) ∙ e)))
  where
    go : (ws : Lines) → words ws ≡ node_text n → ¬ (ws ≡ []) → each_behind (codes " ") ws ≡ codes " " ++ node_text n
    go [] e some = absurd (some refl)
    go (w ∷ ws) e some = ap (λ (x : List ℕ). codes " " ++ x) e

behind_nodes : (ns : List RangeNode) → each_behind (codes " ") (map node_text ns) ≡ each_behind (codes " ") (nodes_words ns)
behind_nodes [] = refl
behind_nodes (n ∷ ns) =
    sym (append_assoc (codes " ") (node_text n) (each_behind (codes " ") (map node_text ns)))
    ∙ ap (λ (x : List ℕ). x ++ each_behind (codes " ") (map node_text ns)) (sym (behind_node n))
    ∙ ap (λ (x : List ℕ). each_behind (codes " ") (node_words n) ++ x) (behind_nodes ns) ∙ sym (behind_join (node_words n) (nodes_words ns))

-- a text by what stands behind its first byte
same_behind : (v w : List ℕ) → 32 ∷ v ≡ 32 ∷ w → v ≡ w
same_behind v w e = cc

pub nodes_text_is : (ns : List RangeNode) → nodes_text ns ≡ words (nodes_words ns)
nodes_text_is [] = refl
nodes_text_is (n ∷ ns) = same_behind (nodes_text (n ∷ ns)) (words (nodes_words (n ∷ ns))) (behind_nodes (n ∷ ns) ∙ go (nodes_words (n ∷ ns)) (λ e. no_front n (nodes_words ns) (sym e)))
  where
    go : (ws : Lines) → ¬ (ws ≡ []) → each_behind (codes " ") ws ≡ 32 ∷ words ws
    go [] some = absurd (some refl)
    go (w ∷ ws) some = refl

pub split_nodes : (n : RangeNode) (ns : List RangeNode) → All HasSize (n ∷ ns) → split 32 (nodes_text (n ∷ ns)) ≡ nodes_words (n ∷ ns)
split_nodes n ns h = ap (split 32) (nodes_text_is (n ∷ ns)) ∙ go (nodes_words (n ∷ ns)) (printed_nodes (n ∷ ns) h) (λ e. no_front n (nodes_words ns) (sym e))
  where
    go : (ws : Lines) → ArePrinted ws → ¬ (ws ≡ []) → split 32 (words ws) ≡ ws
    go [] h some = absurd (some refl)
    go (w ∷ ws) h some = split_words w ws h

-- what is read of the words of a line is read of the line
pub range_none : (line : List ℕ) → ¬ (line ≡ []) → ((ns : List RangeNode) → All HasSize ns → ¬ (nodes_words ns ≡ split 32 line)) → (ns : List RangeNode) → All HasSize ns → ¬ (nodes_text ns ≡ line)
range_none line some none [] h e = some (sym e)
range_none line some none (n ∷ ns) h e = none (n ∷ ns) h (sym (split_nodes n ns h) ∙ ap (split 32) e)

pub range_some : (line : List ℕ) (ns : List RangeNode) → nodes_words ns ≡ split 32 line → nodes_text ns ≡ line
range_some line ns e = nodes_text_is ns ∙ ap words e ∙ between_split 32 line

cons_none : (b : ℕ) (w : List ℕ) → ¬ (b ∷ w ≡ [])
cons_none b w e = cc

append_none : (v w : List ℕ) → v ++ w ≡ [] → v ≡ []
append_none [] w e = refl
append_none (b ∷ v) w e = absurd (cons_none b (v ++ w) e)

no_text : (n : RangeNode) → ¬ (node_text n ≡ [])
no_text (node.Int z) e = cons_none _ _ e
no_text node.Infinity e = cons_none _ _ e
no_text node.Add e = cons_none _ _ e
no_text node.Sub e = cons_none _ _ e
no_text node.Mul e = cons_none _ _ e
no_text node.DivDown e = cons_none _ _ e
no_text node.DivUp e = cons_none _ _ e
no_text node.Span e = cons_none _ _ e
no_text node.One e = cons_none _ _ e
no_text node.Union e = cons_none _ _ e
no_text node.Inter e = cons_none _ _ e
no_text node.Outside e = cons_none _ _ e
no_text node.Plus e = cons_none _ _ e
no_text node.Minus e = cons_none _ _ e
no_text node.Times e = cons_none _ _ e
no_text node.Over e = cons_none _ _ e
no_text (node.Param y) e = cons_none _ _ e
no_text (node.Min y) e = cons_none _ _ e
no_text (node.Max y) e = cons_none _ _ e
no_text (node.Val y) e = cons_none _ _ e
no_text (node.Dom y) e = cons_none _ _ e

no_line : (n : RangeNode) (ns : List RangeNode) → ¬ (nodes_text (n ∷ ns) ≡ [])
no_line n ns e = no_text n (append_none (node_text n) (each_behind (codes " ") (map node_text ns)) e)

pub one_range : (ms ns : List RangeNode) → All HasSize ms → All HasSize ns → nodes_text ms ≡ nodes_text ns → ms ≡ ns
one_range [] [] f g e = refl
one_range [] (n ∷ ns) f g e = absurd (no_line n ns (sym e))
one_range (m ∷ ms) [] f g e = absurd (no_line m ms e)
one_range (m ∷ ms) (n ∷ ns) f g e = one_nodes (m ∷ ms) (n ∷ ns) f g (sym (split_nodes m ms f) ∙ ap (split 32) e ∙ split_nodes n ns g)

-- words behind a node are fewer
pub front_shorter : {W : Type 0} (g : W → List ℕ) (n : RangeNode) (ws vs : List W) → map g ws ≡ node_words n ++ map g vs → length vs < length ws
front_shorter g n ws vs e =
    let a : length (map g ws) ≡ length (node_words n) + length (map g vs) = ap length e ∙ length-append (node_words n) (map g vs) in
    let b = length-map ws g in
    let c = length-map vs g in
    let d = go (node_words n) (λ q. no_front n [] (sym (append-nil (node_words n) ∙ q))) in
    omega (arith, a, b, c, d)
  where
    go : (l : Lines) → ¬ (l ≡ []) → 0 < length l
    go [] some = absurd (some refl)
    go (x ∷ l) some = omega arith

pub range_reads : {V : Type 0} (line : List ℕ) → ¬ (line ≡ []) → (told : V → List RangeNode) (r : Option V)
    → ReadsAs told (All HasSize) nodes_words (split 32 line) r → ReadsAs told (All HasSize) nodes_text line r
range_reads line some told None h = range_none line some h
range_reads line some told (Some v) h = (h.0, range_some line (told v) h.1)

pub no_front_form : {W : Type 0} (g : W → List ℕ) (ws : List W) (d : W) → 1 ≤ length ws → ((f : NodeForm) → Unit {0} → ¬ (node_name f ≡ g (get_or ws 0 d)))
    → (n : RangeNode) (r : Lines) → HasSize n → ¬ (node_words n ++ r ≡ map g ws)
no_front_form g [] d l none = absurd (omega (arith, l))
no_front_form g (w ∷ ws) d l none = no_node_form (g w) (map g ws) (λ f. none f tt)
