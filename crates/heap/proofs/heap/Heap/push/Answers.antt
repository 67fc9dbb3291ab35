use Rattle.std.proofs.Common.{refl, arith}
use Rattle.heap.proofs.Slots.{pushed_shuffled}
use Rattle.heap.proofs.heap.Heap.push.Goals as goal

pub returns-clause-pushed : goal.returns-clause-pushed
returns-clause-pushed g c =
    let h = c.args.self.now in
    pushed_shuffled h.slots.now h.len _ (omega arith) _ refl c.sift_up.new.slots _ c.sift_up.ensures.shuffled
