use Rattle.std.proofs.Common.{rules, true, false, ◌≡◌, ◌∙◌, ◌++◌, [], ◌∷◌, All, Bor, List, ℕ, ap, append_assoc, drop, length, map, refl, subst, sym, arith}
use Rattle.std.proofs.lemmas.List.{append-nil}
use Rattle.fd_language.specs.declared.range_node.RangeNode.{RangeNode}
use Rattle.listing_reader.specs.NumberBounds.{HasSize}
use Rattle.listing_reader.specs.Nodes.{node_words, nodes_words}
use Rattle.listing_reader.proofs.LinePrefixes.{all_join, all_more, all_none}
use Rattle.listing_reader.proofs.Loops.{from_not, from_not_false, none_rest, rest_is, rest_shorter, some_rest}
use Rattle.listing_reader.proofs.NodeWords.{CanFollow, follow_next, follow_none, nodes_more}
use Rattle.listing_reader.proofs.read_nodes.read_nodes.Goals as goal

abbrev now : Bor (List ℕ) → List ℕ
now w = w.now

pub returns-in_default : goal.returns-in_default
returns-in_default c =
    let full : c.is_empty.result ≡ false = search (rules, from_not) in
    let some = some_rest now c.loop-rest.rest.now c.is_empty.result c.is_empty.ensures full in
    λ ms f e. follow_none (map now c.loop-rest.rest.now) some c.in_default.ensures (c.loop-rest.invariant.ahead ms f e)

pub loop-rest-init : goal.loop-rest-init
loop-rest-init c = record {
  fit = subst (λ (l : List RangeNode). All HasSize l) (sym c.new-nodes.ensures.items) (all_none HasSize);
  told = ap (λ (l : List RangeNode). nodes_words l ++ map now c.args.words.now) (sym c.new-nodes.ensures.items);
  ahead = λ ms f e. (ms, (f, e));
}

pub loop-rest-preserved : goal.loop-rest-preserved
loop-rest-preserved c =
    let n = c.in-Some.node in
    let t = c.in-Some.ensures in
    let inv = c.loop-rest.invariant in
    let nodes = c.loop-rest.nodes.items in
    let rest = c.loop-rest.rest.now in
    let behind = map now (drop c.in-Some.size rest) in
    let pushed = c.in_ok-push.ensures.items in
    record {
      fit = subst (λ (l : List RangeNode). All HasSize l) (sym pushed) (all_join HasSize nodes (n ∷ []) inv.fit (all_more HasSize n [] t.0.0 (all_none HasSize)));
      told = inv.told ∙ ap (λ (l : List (List ℕ)). nodes_words nodes ++ l) t.0.1 ∙ sym (append_assoc (nodes_words nodes) (node_words n) behind)
          ∙ ap (λ (l : List (List ℕ)). l ++ behind) (sym (nodes_more nodes n) ∙ ap nodes_words (sym pushed))
          ∙ ap (λ (l : List (List ℕ)). nodes_words c.push.new.self.items ++ l) (sym (rest_is now c.in-Some.size rest));
      ahead = λ ms f e. subst CanFollow (sym (rest_is now c.in-Some.size rest)) (follow_next n t.0.0 behind (subst CanFollow t.0.1 (inv.ahead ms f e)));
    }

pub loop-rest-smaller : goal.loop-rest-smaller
loop-rest-smaller c = rest_shorter now c.in-Some.size c.loop-rest.rest.now c.in-Some.ensures.2 c.in-Some.ensures.1

pub returns : goal.returns
returns c =
    let bare : c.is_empty.result ≡ true = search (rules, from_not_false) in
    let none = none_rest now c.loop-rest.rest.now c.is_empty.result c.is_empty.ensures bare in
    (c.loop-rest.invariant.fit, sym (c.loop-rest.invariant.told ∙ ap (λ (l : List (List ℕ)). nodes_words c.loop-rest.nodes.items ++ l) none ∙ append-nil (nodes_words c.loop-rest.nodes.items)))
