use Rattle.std.proofs.Common.{refl, ap, sym, subst}
use Rattle.code_safety.specs.Safety.{IsSafe}
use Rattle.code_control.specs.ClauseSelection.{behind_of, IsTried, IsRuledOut, LeavesOut, MayMatch}
use Rattle.code_control.proofs.ChoiceSafety.{later_within, tried_safe, other_nearer, later_more}
use Rattle.code_control.proofs.SkippedClauses.{leaves_tried}
use Rattle.code_control.proofs.clause_selection.next_choice.Goals as goal

pub tried_at-tried-requires : goal.tried_at-tried-requires
tried_at-tried-requires g c = later_within c.args.code.now c.args.branch.now c.args.from c.args.areas.now c.requires c.looking.at c.looking.invariant.1

pub is_ruled_out-requires : goal.is_ruled_out-requires
is_ruled_out-requires g c =
    subst (λ n. IsSafe c.args.code.now c.args.branch.now n 0 c.args.areas.now) (sym c.first_of.ensures)
    (tried_safe c.args.code.now c.args.branch.now c.args.from c.args.areas.now c.requires c.looking.at c.looking.invariant.1 c.tried_at-tried.result c.tried_at-tried.ensures)

pub looking-preserved : goal.looking-preserved
looking-preserved g c =
    let t = c.tried_at-tried.ensures in
    let out = subst (λ n. IsRuledOut c.args.code.now c.args.branch.now n c.args.areas.now) c.first_of.ensures (c.if-not-is_ruled_out.ensures.out refl) in
    let safe = tried_safe c.args.code.now c.args.branch.now c.args.from c.args.areas.now c.requires c.looking.at c.looking.invariant.1 c.tried_at-tried.result t in (
      subst (LeavesOut c.args.code.now c.args.branch.now c.args.from c.args.areas.now) (ap behind_of c.in-Both.is)
          (leaves_tried c.args.code.now c.args.branch.now c.args.from c.looking.at c.args.areas.now c.looking.invariant.0 c.tried_at-tried.result t safe out),
      later_more c.args.code.now c.args.branch.now c.args.from c.args.areas.now c.requires c.looking.at c.looking.invariant.1 c.in-Both.field-0 c.in-Both.other
          (subst (IsTried c.args.code.now c.looking.at) c.in-Both.is t),
    )

pub looking-smaller : goal.looking-smaller
looking-smaller g c = other_nearer c.args.code.now c.args.branch.now c.args.from c.args.areas.now c.requires c.looking.at c.looking.invariant.1
    c.in-Both.field-0 c.in-Both.other (subst (IsTried c.args.code.now c.looking.at) c.in-Both.is c.tried_at-tried.ensures)

pub returns-then-not-is_ruled_out-clause-may : goal.returns-then-not-is_ruled_out-clause-may
returns-then-not-is_ruled_out-clause-may g c = (
  c.tried_at-tried.result,
  c.tried_at-tried.ensures,
  subst (λ n. MayMatch c.args.code.now c.args.branch.now n c.args.areas.now) c.first_of.ensures (c.if-not-is_ruled_out.ensures.may refl),
)

pub returns-in-Last-clause-out : goal.returns-in-Last-clause-out
returns-in-Last-clause-out g c =
    let t = c.tried_at-tried.ensures in
    let out = subst (λ n. IsRuledOut c.args.code.now c.args.branch.now n c.args.areas.now) c.first_of.ensures (c.if-not-is_ruled_out.ensures.out refl) in
    let safe = tried_safe c.args.code.now c.args.branch.now c.args.from c.args.areas.now c.requires c.looking.at c.looking.invariant.1 c.tried_at-tried.result t in
    subst (LeavesOut c.args.code.now c.args.branch.now c.args.from c.args.areas.now) (ap behind_of c.in-Last.is)
    (leaves_tried c.args.code.now c.args.branch.now c.args.from c.looking.at c.args.areas.now c.looking.invariant.0 c.tried_at-tried.result t safe out)

pub returns-in-Other-clause-out : goal.returns-in-Other-clause-out
returns-in-Other-clause-out g c =
    let t = c.tried_at-tried.ensures in
    let out = subst (λ n. IsRuledOut c.args.code.now c.args.branch.now n c.args.areas.now) c.first_of.ensures (c.if-not-is_ruled_out.ensures.out refl) in
    let safe = tried_safe c.args.code.now c.args.branch.now c.args.from c.args.areas.now c.requires c.looking.at c.looking.invariant.1 c.tried_at-tried.result t in
    subst (LeavesOut c.args.code.now c.args.branch.now c.args.from c.args.areas.now) (ap behind_of c.in-Other.is)
    (leaves_tried c.args.code.now c.args.branch.now c.args.from c.looking.at c.args.areas.now c.looking.invariant.0 c.tried_at-tried.result t safe out)
