use Rattle.std.proofs.Common.{◌≡◌, ◌∙◌, ◌≤◌, ◌<◌, ◌-◌, ◌++◌, ◌∷◌, [], refl, ap, sym, subst, length, take, drop, ℕ, List}
use Rattle.std.proofs.lemmas.List.Elements.{All-drop}
use Rattle.fd_language.specs.Grammar.{list_of}
use Rattle.term_pool.specs.declared.TermId.{TermId}
use Rattle.term_pool.specs.PlacedTerms.{placed_of}
use Rattle.term_reader.specs.PlacedTerms.{parts_of, Adds}
use Rattle.term_reader.specs.View.{AreTerms}
use Rattle.term_reader.specs.declared.parser.Item.TheVariants as its
use Rattle.term_reader.proofs.Stacks.{terms_more}
use Rattle.term_reader.proofs.OpenBrackets.{on_top, moves_list, terms_push, more_room}
use Rattle.term_reader.proofs.parser.Parser.end_list.Goals as goal

pub ids_from-requires : goal.ids_from-requires
ids_from-requires c =
    let o = on_top c.args.self.now (its.List c.args.place c.args.from) c.requires.whole c.requires.top in
    let is : c.deref.result.now ≡ c.args.self.now.arguments.items ++ c.args.last ∷ [] = c.deref.ensures.value ∙ c.in_ok-push.ensures.items in
    subst (λ (l : List TermId). c.args.from ≤ length l) (sym is) (more_room c.args.from c.args.self.now.arguments.items c.args.last o.room.0)

pub add_list-requires-clause-elements : goal.add_list-requires-clause-elements
add_list-requires-clause-elements c =
    let ts = c.args.self.now.arguments.items ++ c.args.last ∷ [] in
    let is : c.ids_from.result.now ≡ drop c.args.from ts = c.ids_from.ensures ∙ ap (drop c.args.from) (c.deref.ensures.value ∙ c.in_ok-push.ensures.items) in
    let old = terms_push c.args.self.now.pool c.args.self.now.arguments.items c.args.last c.requires.whole.arguments c.requires.last in
    let new = terms_more c.args.self.now.pool c.add_atom.new.pool c.in_ok-nil.ensures.grows ts old in
    subst (λ (l : List TermId). AreTerms c.add_atom.new.pool l) (sym is) (All-drop (λ t. t.number < length c.add_atom.new.pool.entries) c.args.from ts new)

pub returns : goal.returns
returns c =
    let o = on_top c.args.self.now (its.List c.args.place c.args.from) c.requires.whole c.requires.top in
    let ts = c.args.self.now.arguments.items ++ c.args.last ∷ [] in
    let is : c.ids_from.result.now ≡ drop c.args.from ts = c.ids_from.ensures ∙ ap (drop c.args.from) (c.deref.ensures.value ∙ c.in_ok-push.ensures.items) in
    let mid = c.add_atom.new.pool in
    let added = subst (λ (l : List TermId). Adds mid c.add_list.new.pool (list_of c.args.place (parts_of mid l) (placed_of mid c.in_ok-nil.nil)) c.in_ok-term.term) is c.in_ok-term.ensures in
    moves_list c.args.self.now _ mid c.args.last c.in_ok-nil.nil c.in_ok-term.term c.args.place c.args.from c.requires.whole c.requires.last o c.in_ok-nil.ensures added
    (c.truncate.ensures.items ∙ ap (take c.args.from) c.in_ok-push.ensures.items)
    (c.pop.ensures.rest ∙ ap (λ (n : ℕ). take (n - 1) c.args.self.now.items.items) c.args.self.now.items.ok.0)
    refl
