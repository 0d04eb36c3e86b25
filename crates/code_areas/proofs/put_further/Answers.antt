use Rattle.std.proofs.Common.{◌+◌, take, slice_set, sym, subst, arith}
use Rattle.code_areas.specs.Areas.{IsPut}
use Rattle.code_areas.proofs.RegisterCells.{put_above}
use Rattle.code_areas.proofs.put_further.Goals as goal

pub returns-clause-put : goal.returns-clause-put
returns-clause-put c =
    let o = c.requires.order in
    let t = c.requires.there in
    let s = c.forget.ensures.same in
    subst (λ v. IsPut (take c.args.held c.args.places.now) c.args.n c.args.cell (take (c.args.n + 1) (slice_set c.forget.new.places c.args.n v))) (sym c.place_of.ensures)
    (put_above c.args.places.now c.forget.new.places c.args.held c.args.n c.args.cell (omega (arith, o, t)) o (omega (arith, t, s)) c.forget.ensures.forgotten)
