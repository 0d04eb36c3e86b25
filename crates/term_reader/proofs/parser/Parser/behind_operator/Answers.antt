use Rattle.std.proofs.Common.{◌≡◌, ◌∙◌, refl, sym, true, false, w64}
use Rattle.std.proofs.lemmas.Int.{to_z-of_z}
use Rattle.term_pool.specs.Contents.{atom_name}
use Rattle.term_reader.specs.View.{allows_lone, closing_of, last_item}
use Rattle.term_reader.proofs.Operands.{whole_grown, moves_negative, moves_lone, moves_not_lone, fits_negative}
use Rattle.term_reader.proofs.parser.Parser.behind_operator.Goals as goal

pub close-requires-clause-whole : goal.close-requires-clause-whole
close-requires-clause-whole c = whole_grown c.args.self.now _ c.requires.whole c.in_ok-term-2.ensures.grows c.in_ok-term-2.ensures.valid refl refl refl

pub returns-in_ok-term : goal.returns-in_ok-term
returns-in_ok-term c =
    let pool = c.args.self.now.pool in
    let n = rw c.in-Some.is at (c.negative.ensures c.args.place) in
    let same = to_z-of_z w64 c.in-Some.value (fits_negative pool (atom_name pool c.args.name) c.args.place c.args.token c.in-Some.value c.requires.token n.0 n.1) in
    let added = rw same at c.in_ok-term.ensures in
    moves_negative c.args.self.now _ c.args.at c.args.place c.args.name c.args.token c.in-Some.value c.in_ok-term.term c.requires.whole
    (sym (c.is_tight_open.ensures pool c.args.place) ∙ c.if-is_tight_open.false)
    n added refl refl refl

pub returns-in_ok-term-2 : goal.returns-in_ok-term-2
returns-in_ok-term-2 c =
    let pool = c.args.self.now.pool in
    let n = rw c.in_default.is at (c.negative.ensures c.args.place) in
    let lone : allows_lone (closing_of (last_item c.args.self.now.items.items) c.args.token) ≡ true = cc in
    moves_lone c.close.result c.args.self.now (record c.args.self.now { pool = c.add_atom.new.pool }) c.close.new.self c.args.at c.args.place c.args.name
    c.args.token c.in_ok-term-2.term c.requires.whole c.requires.token
    (sym (c.is_tight_open.ensures pool c.args.place) ∙ c.if-is_tight_open.false)
    n lone c.in_ok-term-2.ensures refl refl c.close.ensures

pub returns-else-allows_lone : goal.returns-else-allows_lone
returns-else-allows_lone c =
    let pool = c.args.self.now.pool in
    let n = rw c.in_default.is at (c.negative.ensures c.args.place) in
    let lone : allows_lone (closing_of (last_item c.args.self.now.items.items) c.args.token) ≡ false = cc in
    moves_not_lone c.begin_prefix.result c.args.self.now c.begin_prefix.new.self c.args.at c.args.place c.args.name c.args.token
    (sym (c.is_tight_open.ensures pool c.args.place) ∙ c.if-is_tight_open.false)
    n lone c.begin_prefix.ensures
