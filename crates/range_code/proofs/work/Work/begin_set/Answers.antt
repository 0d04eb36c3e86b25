use Rattle.std.proofs.Common.{◌∙◌, ap, ◌∷◌, length, arith}
use Rattle.std.proofs.lemmas.Result.{on_ok_weaker}
use Rattle.fd_language.proofs.Lemmas.{two}
use Rattle.range_code.proofs.work.Work.begin_set.Goals as goal

pub push-requires : goal.push-requires
push-requires c = let e = ap length c.clear.ensures.sets in let r = c.clear.ensures.room.sets in omega (arith, e, r, c.requires)

pub returns-clause-begun : goal.returns-clause-begun
returns-clause-begun c = on_ok_weaker c.push-2.result (λ e. e ∙ two (λ x xs. x ∷ xs) c.empty.ensures c.clear.ensures.sets) c.push-2.ensures.pushed

pub returns-clause-room : goal.returns-clause-room
returns-clause-room c = record { values = c.clear.ensures.room.values; sets = c.push-2.ensures.room ∙ c.clear.ensures.room.sets }
