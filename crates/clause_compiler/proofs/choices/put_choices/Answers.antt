use Rattle.std.proofs.Common.{◌≡◌, ◌<◌, ◌∙◌, ap, sym, subst, All, length, arith, ℕ, List, Vec, Global, map}
use Rattle.wam_code.specs.declared.instruction.Key.{Key}
use Rattle.wam_code.specs.declared.parts.Entry.{Entry}
use Rattle.term_pool.specs.declared.AtomId.{AtomId}
use Rattle.clause_code.specs.Predicates.{predicate_at, no_predicate}
use Rattle.clause_compiler.specs.Groups.{numbers_of}
use Rattle.clause_compiler.specs.Sections.{ArePut, IsChoiceOf, its_entry}
use Rattle.clause_compiler.specs.Parts.{tables_in}
use Rattle.clause_compiler.specs.Switches.{AreChoicesBy, TablesGrow}
use Rattle.clause_compiler.proofs.KindChoices.{grown_keeps}
use Rattle.clause_compiler.proofs.TableGrowth.{put_lift, choices_keep, keys_grow, keys_none, rising_grow, rising_none}
use Rattle.clause_compiler.proofs.GoalClauses.{is_number, numbers_within}
use Rattle.clause_compiler.proofs.PieceOffsets.{put_none, put_one}
use Rattle.clause_compiler.proofs.Vectors.{same_at}
use Rattle.clause_compiler.proofs.choices.put_choices.Goals as goal

abbrev items : Vec (Key × ℕ) Global → List (Key × ℕ)
items v = v.items

abbrev entry_by : AtomId → ℕ → ℕ → Entry
entry_by name arity at = record { name = name; arity = arity; at = at }

same_entry : (m n : AtomId) (j k a b : ℕ) → m ≡ n → j ≡ k → a ≡ b → entry_by m j a ≡ entry_by n k b
same_entry m n j k a b e f g = ap (λ x. entry_by x j a) e ∙ ap (λ x. entry_by n x a) f ∙ ap (entry_by n k) g

pub put_predicate-requires : goal.put_predicate-requires
put_predicate-requires c =
    let ps = c.args.predicates.now in
    let p = c.args.program.now in
    let l : c.loop-n.n < length ps = omega arith in
    let group : c.deref.result.now ≡ numbers_of p (length p.clauses) (predicate_at ps c.loop-n.n) = c.deref.ensures.value
    ∙ same_at (λ g. g.items) (numbers_of p (length p.clauses)) c.args.groups.now ps c.loop-n.n c.index-groups-n.result no_predicate c.requires.groups l
    c.index-groups-n.is in
    record { clauses = subst (All (λ k. k < length p.clauses)) (sym group) (numbers_within p (length p.clauses) (predicate_at ps c.loop-n.n)) }

pub loop-n-preserved : goal.loop-n-preserved
loop-n-preserved c =
    let ps = c.args.predicates.now in
    let p = c.args.program.now in
    let l : c.loop-n.n < length ps = omega arith in
    let pred = predicate_at ps c.loop-n.n in
    let group : c.deref.result.now ≡ numbers_of p (length p.clauses) pred = c.deref.ensures.value
    ∙ same_at (λ g. g.items) (numbers_of p (length p.clauses)) c.args.groups.now ps c.loop-n.n c.index-groups-n.result no_predicate c.requires.groups l
    c.index-groups-n.is in
    let w = c.in_ok-put_predicate.ensures.code in
    let one = tables_in c.loop-n.tables in
    let two = tables_in c.put_predicate.new.tables in
    let grown = subst (λ ms. TablesGrow p ms one two) group c.in_ok-put_predicate.ensures.tables in
    let keeps = grown_keeps p (numbers_of p (length p.clauses) pred) one two grown in
    let old = put_lift (its_entry ps) (IsChoiceOf p one ps) (IsChoiceOf p two ps)
    (λ k at is h. choices_keep p one two keeps (numbers_of p (length p.clauses) (predicate_at ps k)) at (predicate_at ps k).arity is h) c.loop-n.n
    c.args.code.now.items c.loop-n.code.items c.loop-n.entries.items c.loop-n.invariant.0 in (
      put_one (its_entry ps) (IsChoiceOf p two ps) c.loop-n.n c.args.code.now.items c.loop-n.code.items c.put_predicate.new.code.items c.loop-n.entries.items c.push.new.self.items old
          w.0 (record { name = c.name.result; arity = c.arity-arity.result; at = c.len-at.result })
          (subst (λ k. AreChoicesBy p two (numbers_of p (length p.clauses) pred) k (length c.loop-n.code.items) w.0) c.arity-arity.ensures
          (subst (λ ms. AreChoicesBy p two ms c.arity-arity.result (length c.loop-n.code.items) w.0) group w.2))
          (same_entry c.name.result pred.name c.arity-arity.result pred.arity c.len-at.result (length c.loop-n.code.items) c.name.ensures c.arity-arity.ensures (omega arith))
          w.1
          c.in_ok-push.ensures.items,
      keys_grow p (numbers_of p (length p.clauses) pred) one two (λ k n e. (is_number p (length p.clauses) k n pred e).0) grown c.loop-n.invariant.1,
      rising_grow p (numbers_of p (length p.clauses) pred) one two grown c.loop-n.invariant.2,
    )

pub loop-n-init : goal.loop-n-init
loop-n-init c =
    let ps = c.args.predicates.now in
    let p = c.args.program.now in (
      subst (ArePut (its_entry ps) (IsChoiceOf p (tables_in c.args.tables.now) ps) 0 c.args.code.now.items c.args.code.now.items)
          (sym c.in_ok-entries.ensures.items) (put_none (its_entry ps) (IsChoiceOf p (tables_in c.args.tables.now) ps) c.args.code.now.items),
      keys_none p (tables_in c.args.tables.now) (ap (map items) c.requires.tables),
      rising_none (tables_in c.args.tables.now) (ap (map items) c.requires.tables),
    )
