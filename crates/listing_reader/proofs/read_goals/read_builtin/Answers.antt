use Rattle.std.proofs.Common.{rules, ◌≡◌, ◌≤◌, ◌<◌, ◌∙◌, Bool, true, false, List, ℕ, ap, subst, sym, take, arith}
use Rattle.std.specs.List.{list_any}
use Rattle.std.specs.Str.{bytes_eq}
use Rattle.std.proofs.lemmas.List.{take_all}
use Rattle.std.proofs.lemmas.Slice.Eq.{bytes_eq-Decides}
use Rattle.fd_model.specs.declared.kinds.BuiltinKind.{BuiltinKind}
use Rattle.listing_reader.specs.Goals.{builtin_spelled}
use Rattle.listing_reader.proofs.GoalWords.{none_found, none_more, all_builtins, builtin_found, builtin_is}
use Rattle.listing_reader.proofs.read_goals.read_builtin.Goals as goal

pub loop-kind-preserved : goal.loop-kind-preserved
loop-kind-preserved c =
    let differs : bytes_eq c.builtin_text.result.now c.args.word.now ≡ false = search rules in
    let low : c.loop-kind.kind-index < 25 = omega arith in
    none_more builtin_spelled all_builtins c.args.word.now c.loop-kind.kind-index _ low c.loop-kind.invariant (ap (λ (t : List ℕ). bytes_eq t c.args.word.now) (sym c.builtin_text.ensures) ∙ differs)

pub returns : goal.returns
returns c =
    let all : 25 ≤ c.loop-kind.kind-index = omega arith in
    let P = λ (l : List BuiltinKind). list_any (λ x. bytes_eq (builtin_spelled x) c.args.word.now) l ≡ false in
    let whole = subst P (take_all c.loop-kind.kind-index all_builtins all) c.loop-kind.invariant in
    λ x h e. none_found builtin_spelled all_builtins c.args.word.now whole x (builtin_found x) (sym (builtin_is x) ∙ e)

pub returns-then-eq : goal.returns-then-eq
returns-then-eq c =
    let same : bytes_eq c.builtin_text.result.now c.args.word.now ≡ true = search rules in
    (tt, builtin_is _ ∙ sym c.builtin_text.ensures ∙ (bytes_eq-Decides c.builtin_text.result.now c.args.word.now).0 same)
