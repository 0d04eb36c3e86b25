use Rattle.std.proofs.Common.{rules, ◌≡◌, ◌≤◌, ◌<◌, string_bytes, ℕ, suc, List, ◌+◌, ◌-◌, ◌++◌, ap, ◌∙◌, arith, codes}
use Rattle.run_summary.proofs.QueensText.{before_names, more_names, one_name, no_name, text_is}
use Rattle.run_summary.proofs.queens.queens_text.Goals as goal

pub loop-k-init : goal.loop-k-init
loop-k-init c =
    let least = c.requires.least in
    let left : c.args.n + 1 - 2 ≡ c.args.n - 1 = omega (arith, least) in
    ap (λ (t : List ℕ). t ++ more_names 2 (c.args.n + 1 - 2)) c.in_ok-text.ensures.ok ∙ ap (λ (m : ℕ). before_names ++ (codes "_Q1" ++ more_names 2 m)) left

pub loop-k-preserved : goal.loop-k-preserved
loop-k-preserved c =
    let k = c.loop-k.k in
    let before : k < c.args.n + 1 = search rules in
    let fewer : c.args.n + 1 - k ≡ suc (c.args.n + 1 - (k + 1)) = omega (arith, before) in
    one_name k (c.args.n + 1 - k) (c.args.n + 1 - (k + 1)) (string_bytes c.loop-k.text) (string_bytes c.push_str.new.self) (string_bytes c.push_str-in-loop-k.new.self) _
    fewer c.loop-k.invariant (search rules) (search rules)

pub returns : goal.returns
returns c =
    let k = c.loop-k.k in
    let least = c.requires.least in
    let end : c.args.n + 1 ≤ k = search rules in
    let none : c.args.n + 1 - k ≡ 0 = omega (arith, end) in
    let size : c.args.n ≡ suc (c.args.n - 1) = omega (arith, least) in
    text_is c.args.n (c.args.n - 1) c.format-2.result.now (string_bytes c.loop-k.text) (string_bytes c.push_str-2.new.self) (string_bytes c.push_str-3.new.self) (string_bytes c.push_str-4.new.self)
    size (search rules) (no_name k (c.args.n + 1 - k) (string_bytes c.loop-k.text) _ none c.loop-k.invariant) (search rules) (search rules) (search rules)
