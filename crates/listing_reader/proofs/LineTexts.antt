-- The texts of lines, by their words.
use Rattle.std.proofs.Common.{◌≡◌, ℕ, ◌<◌, false, List, [], ◌∷◌, ◌++◌, map, refl, sym, ap, ◌∙◌, subst, All, decimal}
use Rattle.fd_language.specs.declared.range_node.RangeNode.{RangeNode}
use Rattle.term_pool.specs.declared.AtomId.{AtomId}
use Rattle.wam_code.specs.declared.parts.Entry.{Entry}
use Rattle.wam_code.specs.declared.instruction.Code.{Code}
use Rattle.wam_code.specs.Area.{Span, State, Table}
use Rattle.code_listing.specs.Words.{words}
use Rattle.code_listing.specs.Texts.{atom_number, entry_text, frame_word, nodes_text, registers_word, span_text}
use Rattle.listing_reader.specs.NumberBounds.{HasSize, IsNumber, IsSmallEntry, IsSmallSpan, IsSmallState}
use Rattle.listing_reader.specs.Forms.{FitsInstruction, instruction_text}
use Rattle.listing_reader.specs.Nodes.{nodes_words}
use Rattle.listing_reader.specs.Lists.{FitsPlace, Placed, entry_words, names_words, place_words, placed_text, span_words, state_words}
use Rattle.listing_reader.specs.Operands.{IsSmallAtom}
use Rattle.listing_reader.specs.Reading.{has_byte, split}
use Rattle.listing_reader.proofs.LinePrefixes.{Lines}
use Rattle.listing_reader.proofs.NodeWords.{nodes_text_is, printed_nodes}
use Rattle.listing_reader.proofs.InstructionWords.{one_instruction, printed_instruction}
use Rattle.listing_reader.proofs.StateWords.{one_state, printed_state}
use Rattle.listing_reader.proofs.WordTexts.{ArePrinted, one_arity, one_atom, one_number, printed_arity, printed_number}
use Rattle.listing_reader.proofs.LineWords.{inline_words, one_list, printed_all, printed_map, split_words}

-- ---- ranges

pub nodes_inline : (ns : List RangeNode) → All HasSize ns → has_byte 10 (nodes_text ns) ≡ false
nodes_inline ns h = ap (has_byte 10) (nodes_text_is ns) ∙ inline_words (nodes_words ns) (printed_nodes ns h)

-- ---- predicates

printed_entry : (e : Entry) → IsSmallEntry e → ArePrinted (entry_words e)
printed_entry e h = (printed_number e.name.number h.0, (printed_arity e.arity h.1, (printed_number e.at h.2, tt)))

pub split_entry : (e : Entry) → IsSmallEntry e → split 32 (entry_text e) ≡ entry_words e
split_entry e h = split_words (atom_number e.name) (decimal e.arity ∷ decimal e.at ∷ []) (printed_entry e h)

pub entry_inline : (e : Entry) → IsSmallEntry e → has_byte 10 (entry_text e) ≡ false
entry_inline e h = inline_words (entry_words e) (printed_entry e h)

three_same : (a b c x y z : List ℕ) → a ∷ b ∷ c ∷ [] ≡ x ∷ y ∷ z ∷ [] → (a ≡ x) × (b ≡ y) × (c ≡ z)
three_same a b c x y z e = (cc, cc, cc)

pub one_entry : (d e : Entry) → IsSmallEntry d → IsSmallEntry e → entry_text d ≡ entry_text e → d ≡ e
one_entry d e f g h =
    let line : entry_words d ≡ entry_words e = sym (split_entry d f) ∙ ap (split 32) h ∙ split_entry e g in
    let t = three_same _ _ _ _ _ _ line in
    let P : AtomId → ℕ → ℕ → Entry = λ c n a. record { name = c; arity = n; at = a } in
    ap (λ (c : AtomId). P c d.arity d.at) (one_atom d.name e.name f.0 g.0 t.0) ∙ ap (λ (n : ℕ). P e.name n d.at) (one_arity d.arity e.arity f.1 g.1 t.1)
    ∙ ap (P e.name e.arity) (one_number d.at e.at f.2 g.2 t.2)

-- ---- queries

printed_names : (cs : List AtomId) → All IsSmallAtom cs → ArePrinted (names_words cs)
printed_names cs h = printed_map IsSmallAtom atom_number (λ c f. printed_number c.number f) cs h

printed_span : (q : Span) → IsSmallSpan q → ArePrinted (span_words q)
printed_span q h = (printed_number q.at h.0, (printed_number q.end h.1, printed_names q.names h.2))

pub split_span : (q : Span) → IsSmallSpan q → split 32 (span_text q) ≡ span_words q
split_span q h = split_words (decimal q.at) (decimal q.end ∷ names_words q.names) (printed_span q h)

pub span_inline : (q : Span) → IsSmallSpan q → has_byte 10 (span_text q) ≡ false
span_inline q h = inline_words (span_words q) (printed_span q h)

two_same : (a b : List ℕ) (c : Lines) (x y : List ℕ) (z : Lines) → a ∷ b ∷ c ≡ x ∷ y ∷ z → (a ≡ x) × (b ≡ y) × (c ≡ z)
two_same a b c x y z e = (cc, cc, cc)

pub one_span : (p q : Span) → IsSmallSpan p → IsSmallSpan q → span_text p ≡ span_text q → p ≡ q
one_span p q f g h =
    let line : span_words p ≡ span_words q = sym (split_span p f) ∙ ap (split 32) h ∙ split_span q g in
    let t = two_same (decimal p.at) (decimal p.end) (names_words p.names) (decimal q.at) (decimal q.end) (names_words q.names) line in
    let P : ℕ → ℕ → List AtomId → Span = λ a e n. record { at = a; end = e; names = n } in
    ap (λ (a : ℕ). P a p.end p.names) (one_number p.at q.at f.0 g.0 t.0) ∙ ap (λ (e : ℕ). P q.at e p.names) (one_number p.end q.end f.1 g.1 t.1)
    ∙ ap (P q.at q.end) (one_list IsSmallAtom atom_number one_atom p.names q.names f.2 g.2 t.2)

-- ---- places

printed_place : (p : Placed) → FitsPlace p → ArePrinted (place_words p)
printed_place p h = printed_all (state_words p.0) (instruction_text p.1) (printed_state p.0 h.0) (printed_instruction p.1 h.1)

pub split_place : (p : Placed) → FitsPlace p → split 32 (placed_text p) ≡ place_words p
split_place p h = split_words (registers_word p.0.regs) (frame_word p.0.frame ∷ decimal p.0.owed ∷ instruction_text p.1) (printed_place p h)

pub place_inline : (p : Placed) → FitsPlace p → has_byte 10 (placed_text p) ≡ false
place_inline p h = inline_words (place_words p) (printed_place p h)

four_same : (a b c : List ℕ) (d : Lines) (w x y : List ℕ) (z : Lines) → a ∷ b ∷ c ∷ d ≡ w ∷ x ∷ y ∷ z → (a ≡ w) × (b ≡ x) × (c ≡ y) × (d ≡ z)
four_same a b c d w x y z e = (cc, cc, cc, cc)

pub one_place : (p q : Placed) → FitsPlace p → FitsPlace q → placed_text p ≡ placed_text q → p ≡ q
one_place p q f g h =
    let line : place_words p ≡ place_words q = sym (split_place p f) ∙ ap (split 32) h ∙ split_place q g in
    let t = four_same (registers_word p.0.regs) (frame_word p.0.frame) (decimal p.0.owed) (instruction_text p.1) (registers_word q.0.regs)
    (frame_word q.0.frame) (decimal q.0.owed) (instruction_text q.1) line in
    let P : State → Code × Table → Placed = λ s i. (s, i) in
    ap (λ (s : State). P s p.1) (one_state p.0 q.0 f.0 g.0 t.0 t.1 t.2) ∙ ap (P q.0) (one_instruction p.1 q.1 f.1 g.1 t.3)
