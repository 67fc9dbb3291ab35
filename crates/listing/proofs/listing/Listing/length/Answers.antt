use Rattle.std.proofs.Common.{arith}
use Rattle.listing.proofs.Made.{text_made}
use Rattle.listing.proofs.listing.Listing.length.Goals as goal

pub write-requires : goal.write-requires
write-requires g c =
    let l = c.args.self.now in
    text_made _ (g.met.S.Store.bounded l.store.now) l.floor l.ceiling l.count l.sized.0 l.sized.1 l.few

pub returns : goal.returns
returns g c =
    let l = c.args.self.now in
    let (text, t, fits) = text_made _ (g.met.S.Store.bounded l.store.now) l.floor l.ceiling l.count l.sized.0 l.sized.1 l.few in
    (text, t, omega (arith, c.write.ensures text t))
