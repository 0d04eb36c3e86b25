use Rattle.std.proofs.Common.{◌≡◌, ◌∙◌, ◌≤◌, ◌<◌, ◌-◌, ◌++◌, ◌∷◌, [], refl, ap, sym, subst, length, take, drop, ℕ, List}
use Rattle.term_pool.specs.declared.TermId.{TermId}
use Rattle.std.proofs.lemmas.List.Elements.{All-drop}
use Rattle.term_reader.specs.PlacedTerms.{parts_of, Adds}
use Rattle.term_reader.specs.View.{AreTerms}
use Rattle.fd_language.specs.PlacedTerm.{comp}
use Rattle.term_pool.specs.Contents.{atom_name}
use Rattle.term_reader.specs.declared.parser.Item.TheVariants.{Call}
use Rattle.term_reader.proofs.OpenBrackets.{on_top, moves_call, terms_push, more_room}
use Rattle.term_reader.proofs.parser.Parser.end_call.Goals as goal

pub ids_from-requires : goal.ids_from-requires
ids_from-requires c =
    let o = on_top c.args.self.now (Call c.args.place c.args.name c.args.from) c.requires.whole c.requires.top in
    let is : c.deref.result.now ≡ c.args.self.now.arguments.items ++ c.args.last ∷ [] = c.deref.ensures.value ∙ c.in_ok-push.ensures.items in
    subst (λ (l : List TermId). c.args.from ≤ length l) (sym is) (more_room c.args.from c.args.self.now.arguments.items c.args.last o.room.0)

pub add_compound-requires-clause-name : goal.add_compound-requires-clause-name
add_compound-requires-clause-name c = let o = on_top c.args.self.now (Call c.args.place c.args.name c.args.from) c.requires.whole c.requires.top in o.ids.0

pub add_compound-requires-clause-parts : goal.add_compound-requires-clause-parts
add_compound-requires-clause-parts c =
    let is : c.ids_from.result.now ≡ drop c.args.from (c.args.self.now.arguments.items ++ c.args.last ∷ []) = c.ids_from.ensures
    ∙ ap (drop c.args.from) (c.deref.ensures.value ∙ c.in_ok-push.ensures.items) in
    subst (λ (l : List TermId). AreTerms c.args.self.now.pool l) (sym is)
    (All-drop (λ t. t.number < length c.args.self.now.pool.entries) c.args.from (c.args.self.now.arguments.items ++ c.args.last ∷ [])
    (terms_push c.args.self.now.pool c.args.self.now.arguments.items c.args.last c.requires.whole.arguments c.requires.last))

pub returns : goal.returns
returns c =
    let o = on_top c.args.self.now (Call c.args.place c.args.name c.args.from) c.requires.whole c.requires.top in
    let is : c.ids_from.result.now ≡ drop c.args.from (c.args.self.now.arguments.items ++ c.args.last ∷ []) = c.ids_from.ensures
    ∙ ap (drop c.args.from) (c.deref.ensures.value ∙ c.in_ok-push.ensures.items) in
    let pool = c.args.self.now.pool in
    let added = subst (λ (l : List TermId). Adds pool c.add_compound.new.pool (comp (atom_name pool c.args.name) c.args.place (parts_of pool l)) c.in_ok-term.term) is c.in_ok-term.ensures in
    moves_call c.args.self.now _ c.args.last c.in_ok-term.term c.args.place c.args.from c.args.name c.requires.whole c.requires.last o added
    (c.truncate.ensures.items ∙ ap (take c.args.from) c.in_ok-push.ensures.items)
    (c.pop.ensures.rest ∙ ap (λ (n : ℕ). take (n - 1) c.args.self.now.items.items) c.args.self.now.items.ok.0)
    refl
