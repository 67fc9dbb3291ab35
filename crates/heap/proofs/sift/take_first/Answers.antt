use Rattle.std.proofs.Common.{◌-◌, length, refl}
use Rattle.heap.specs.Trees.{below, by_key}
use Rattle.heap.proofs.Sifting.{lawful}
use Rattle.heap.proofs.Slots.{but_first, taken_long, taken_shuffled, tree_of, front}
use Rattle.heap.proofs.sift.take_first.Goals as goal

pub sift_down-requires : goal.sift_down-requires
sift_down-requires g c =
    let a = c.index-slots-0 in
    (a.result, but_first (by_key (below g.E.Key.Ord.cmp) g.E.Entry.keyed) c.args.slots.now _ a.result c.index-slots-last.result c.requires.some a.is refl c.requires.tree)

pub returns : goal.returns
returns g c =
    let law = lawful g.E.Key.Ord.cmp g.E.Entry.keyed g.met.E.Key.Ord.total in
    let xs = c.args.slots.now in
    let a = c.index-slots-0 in
    let z = c.index-slots-last in
    let t = c.sift_down in
    record {
      front = front _ law xs a.result c.requires.some a.is c.requires.tree;
      others = taken_shuffled xs a.result z.result c.requires.some a.is z.is _ refl t.new.slots _ t.ensures.shuffled;
      tree = tree_of (by_key (below g.E.Key.Ord.cmp) g.E.Entry.keyed) _ t.new.slots _ (length xs - 1) refl (taken_long xs a.result z.result c.requires.some a.is z.is _ refl t.new.slots t.ensures.shuffled) t.ensures.tree;
    }
