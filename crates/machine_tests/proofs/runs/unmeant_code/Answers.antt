use Rattle.machine_tests.proofs.CodeWithoutProgram.{unmeant_verified}
use Rattle.machine_tests.proofs.runs.unmeant_code.Goals as goal

pub from_verified-requires : goal.from_verified-requires
from_verified-requires c =
    rw (c.in_ok-code.ensures.items, c.new-3.ensures.items, c.new-4.ensures.items, c.new-5.ensures.items, c.in_ok-vec.ensures.items, c.new-2.ensures.items) (unmeant_verified _)
