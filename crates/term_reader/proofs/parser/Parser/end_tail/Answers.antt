use Rattle.std.proofs.Common.{◌≡◌, ◌∙◌, ◌≤◌, ◌<◌, ◌-◌, refl, ap, sym, subst, length, take, drop, ℕ, List}
use Rattle.std.proofs.lemmas.List.Elements.{All-drop}
use Rattle.fd_language.specs.Grammar.{list_of}
use Rattle.term_pool.specs.declared.TermId.{TermId}
use Rattle.term_pool.specs.PlacedTerms.{placed_of}
use Rattle.term_reader.specs.PlacedTerms.{parts_of, Adds}
use Rattle.term_reader.specs.View.{AreTerms}
use Rattle.term_reader.specs.declared.parser.Item.TheVariants as its
use Rattle.term_reader.proofs.OpenBrackets.{on_top, moves_tail}
use Rattle.term_reader.proofs.parser.Parser.end_tail.Goals as goal

pub ids_from-requires : goal.ids_from-requires
ids_from-requires c =
    let o = on_top c.args.self.now (its.Tail c.args.place c.args.from) c.requires.whole c.requires.top in
    subst (λ (l : List TermId). c.args.from ≤ length l) (sym c.deref.ensures.value) o.room.0

pub add_list-requires-clause-elements : goal.add_list-requires-clause-elements
add_list-requires-clause-elements c =
    let is : c.ids_from.result.now ≡ drop c.args.from c.args.self.now.arguments.items = c.ids_from.ensures ∙ ap (drop c.args.from) c.deref.ensures.value in
    subst (λ (l : List TermId). AreTerms c.args.self.now.pool l) (sym is)
    (All-drop (λ t. t.number < length c.args.self.now.pool.entries) c.args.from c.args.self.now.arguments.items c.requires.whole.arguments)

pub returns : goal.returns
returns c =
    let o = on_top c.args.self.now (its.Tail c.args.place c.args.from) c.requires.whole c.requires.top in
    let pool = c.args.self.now.pool in
    let is : c.ids_from.result.now ≡ drop c.args.from c.args.self.now.arguments.items = c.ids_from.ensures ∙ ap (drop c.args.from) c.deref.ensures.value in
    let added = subst (λ (l : List TermId). Adds pool c.add_list.new.pool (list_of c.args.place (parts_of pool l) (placed_of pool c.args.tail)) c.in_ok-term.term) is c.in_ok-term.ensures in
    moves_tail c.args.self.now _ c.args.tail c.in_ok-term.term c.args.place c.args.from c.requires.whole o added
    c.truncate.ensures.items
    (c.pop.ensures.rest ∙ ap (λ (n : ℕ). take (n - 1) c.args.self.now.items.items) c.args.self.now.items.ok.0)
    refl
