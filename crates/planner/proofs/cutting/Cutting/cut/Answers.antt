use Rattle.std.proofs.Common.{refl}
use Rattle.planner.proofs.Walks.{out_cut}
use Rattle.planner.proofs.cutting.Cutting.cut.Goals as goal

pub returns-clause-cuts : goal.returns-clause-cuts
returns-clause-cuts g c = record {
  name = refl;
  out = out_cut _ _ _ _ c.args.row c.args.start (g.met.S.Store.bounded c.args.self.now.store.now) c.requires c.take_out.ensures.left c.put_back.ensures.left;
}
