use Rattle.std.proofs.Common.{◌≡◌, ◌++◌, ◌∙◌, map, List, ℕ, Bool, true, false, not, reverse, length, ap, sym, subst, arith}
use Rattle.std.proofs.lemmas.Bool.{MatchBool-at_true, MatchBool-at_false, true≢false}
use Rattle.range_code.specs.Frames.{family_of}
use Rattle.std.proofs.lemmas.List.{map-append}
use Rattle.std.proofs.lemmas.Simd.{map-map}
use Rattle.propagate_queue.specs.Postings.{ranged, ranges_of}
use Rattle.propagate_queue.specs.Instances.{posting, posted_by}
use Rattle.fd_model.specs.Levels.{Levels}
use Rattle.propagate_queue.specs.PropagationInvariant.{AreDomains, HasNone}
use Rattle.propagate_queue.specs.StoreFields.{levels_below}
use Rattle.fd_model.specs.Weights.{whole_weights}
use Rattle.propagate_queue.proofs.StoreFields.{posted_store, levels_added, whole_of_part}
use Rattle.propagate_queue.proofs.marked.MarkedStore.post.Goals as goal

pub invariant_of-self : goal.invariant_of-self
invariant_of-self g c =
    let t = c.self.inside in
    let e = c.post_all.ensures in
    posted_store t.agents c.post_all.new.agents t.queued.items c.post_all.new.queued.items (g.A.Agenda.agents t.agenda)
    (g.A.Agenda.agents c.post_all.new.agenda) (g.A.Agenda.spare t.agenda) (g.A.Agenda.spare c.post_all.new.agenda) t.chains c.post_all.new.chains t.trail
    c.post_all.new.trail (reverse t.marks.items) t.failed t.failed t.spent true
    c.self.invariant e.instances e.monotone e.readers e.vars e.within e.flagged e.more e.front e.kept e.below e.sets (λ h. absurd (true≢false h))
    (λ h. absurd (true≢false h)) (λ h. absurd (true≢false h))

pub returns-in_err-kept-clause-below : goal.returns-in_err-kept-clause-below
returns-in_err-kept-clause-below g c =
    let t = c.self.inside in
    ap (λ (l : List (List (List ℕ))). levels_below (reverse t.marks.items) l (ranges_of c.post_all.new.agents)) c.post_all.ensures.below
    ∙ levels_added t.agents c.post_all.new.agents t.chains.reads (length t.trail.current) (reverse t.marks.items) t.trail.below c.post_all.ensures.front c.self.invariant.below
    ∙ ap (λ (v : Levels). v.below) c.self.view_is

pub returns-in_err-kept-clause-whole : goal.returns-in_err-kept-clause-whole
returns-in_err-kept-clause-whole g c =
    let t = c.self.inside in
    let part = c.post_all.ensures.part in
    let all = whole_of_part t.agents c.post_all.new.agents part.0 c.args.list.items (family_of t.trail.current) (family_of c.post_all.new.trail.current) part.1 in
    omega (arith, c.post_all.ensures.count, all, ap (λ (v : Levels). whole_weights (v.current.posted ++ posted_by c.args.list.items) (family_of v.current.sets)) c.self.view_is)

pub invariant_of-self-2 : goal.invariant_of-self-2
invariant_of-self-2 g c =
    let t = c.self.inside in
    let e = c.post_all.ensures in
    let kept : not c.in_ok-kept.kept ≡ false → c.in_ok-kept.kept ≡ true = on c.in_ok-kept.kept in
    let lost : not c.in_ok-kept.kept ≡ true → c.in_ok-kept.kept ≡ false = off c.in_ok-kept.kept in
    let ps = ranges_of c.post_all.new.agents in
    posted_store t.agents c.post_all.new.agents t.queued.items c.post_all.new.queued.items (g.A.Agenda.agents t.agenda)
    (g.A.Agenda.agents c.post_all.new.agenda) (g.A.Agenda.spare t.agenda) (g.A.Agenda.spare c.post_all.new.agenda) t.chains c.post_all.new.chains t.trail
    c.post_all.new.trail (reverse t.marks.items) t.failed (not c.in_ok-kept.kept) t.spent false
    c.self.invariant e.instances e.monotone e.readers e.vars e.within e.flagged e.more e.front e.kept e.below e.sets
    (λ h. (c.in_ok-kept.ensures.queued, c.in_ok-kept.ensures.empty))
    (λ h l. MatchBool-at_true (AreDomains ps c.post_all.new.trail.current) (HasNone ps (length t.trail.current)) (kept l) c.in_ok-kept.ensures.done)
    (λ h l. subst (λ (n : ℕ). HasNone ps n) (sym e.sets) (MatchBool-at_false (AreDomains ps c.post_all.new.trail.current) (HasNone ps (length t.trail.current)) (lost l) c.in_ok-kept.ensures.done))
  where
    on : (b : Bool) → not b ≡ false → b ≡ true
    on b h = grind arith

    off : (b : Bool) → not b ≡ true → b ≡ false
    off b h = grind arith

pub returns-clause-below : goal.returns-clause-below
returns-clause-below g c =
    let t = c.self.inside in
    ap (λ (l : List (List (List ℕ))). levels_below (reverse t.marks.items) l (ranges_of c.post_all.new.agents)) c.post_all.ensures.below
    ∙ levels_added t.agents c.post_all.new.agents t.chains.reads (length t.trail.current) (reverse t.marks.items) t.trail.below c.post_all.ensures.front c.self.invariant.below
    ∙ ap (λ (v : Levels). v.below) c.self.view_is

pub returns-clause-whole : goal.returns-clause-whole
returns-clause-whole g c =
    let t = c.self.inside in
    let part = c.post_all.ensures.part in
    let all = whole_of_part t.agents c.post_all.new.agents part.0 c.args.list.items (family_of t.trail.current) (family_of c.post_all.new.trail.current) part.1 in
    omega (arith, c.post_all.ensures.count, all, ap (λ (v : Levels). whole_weights (v.current.posted ++ posted_by c.args.list.items) (family_of v.current.sets)) c.self.view_is)

pub returns-clause-posted : goal.returns-clause-posted
returns-clause-posted g c =
    let t = c.self.inside in
    ap ranges_of c.in_ok-kept.ensures.agents ∙ map-append ranged t.agents (map posting c.args.list.items)
    ∙ ap (λ l. ranges_of t.agents ++ l) (map-map ranged posting c.args.list.items)
    ∙ ap (λ l. l ++ posted_by c.args.list.items) (ap (λ (v : Levels). v.current.posted) c.self.view_is)
