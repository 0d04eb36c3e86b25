use Rattle.std.proofs.Common.{◌∙◌, ◌++◌, map, length, sym, ap}
use Rattle.fd_language.specs.Family.{has}
use Rattle.std.proofs.lemmas.Simd.{map-map}
use Rattle.wam_code.specs.Area.{area_of, span_of}
use Rattle.code_text.specs.Predecessors.{IsNamedPlainly}
use Rattle.code_text.proofs.Predecessors.{starts_are, lasts_are, ends_are, same_set}
use Rattle.code_text.proofs.place_predecessors.reach_of.Goals as goal

pub returns : goal.returns
returns c =
    let a = area_of c.args.parts.now in
    record {
      namers = c.in_ok-namers.ensures;
      plain = λ p. same_set c.in_ok-plain.plain.keys c.in_ok-plain_named.plain_named.items p (IsNamedPlainly a (length a.code) p)
          (c.in_ok-plain.ensures p ∙ ap (λ l. has l p) c.deref.ensures.value) (c.in_ok-plain_named.ensures p);
      starts = starts_are a c.in_ok-starts.starts.keys
          (λ p. (c.in_ok-starts.ensures p ∙ ap (λ l. has l p)
          (c.deref-2.ensures.value ∙ c.in_ok-begun.ensures ∙ ap (λ l. map (λ e. e.at) a.entries ++ l)
          (sym (map-map (λ q. q.at) span_of c.args.parts.now.queries.items)))));
      lasts = lasts_are a c.in_ok-ends.ends.keys (λ p. (c.in_ok-ends.ensures p ∙ ap (λ l. has l p) (c.deref-3.ensures.value ∙ c.in_ok-ended.ensures ∙ ends_are c.args.parts.now.queries.items)));
    }
