use Rattle.std.proofs.Common.{rules, ◌≡◌, ◌+◌, ℕ, List, sym, ap, arith, length, refl, subst}
use Rattle.std.proofs.lemmas.List.{length-append}
use Rattle.std.proofs.lemmas.Slice.Zip.{zip_turn, zip_end}
use Rattle.std.specs.Slice.Iter.{iter_rest}
use Rattle.std.specs.Iterator.Adapters.{zip_first, zip_second}
use Rattle.tickets.specs.declared.ticket.Ticket.{Ticket}
use Rattle.tickets.specs.Collections.{posted}
use Rattle.spreads.specs.Spreads.{blank}
use Rattle.pricing.specs.declared.work.Work.{Work}
use Rattle.pricing.specs.Works.{Made}
use Rattle.pricing.proofs.Making.{one_made}
use Rattle.pricing.proofs.Posting.{few_posted}
use Rattle.pricing.proofs.prices.Released.works.Goals as goal

pub push-requires : goal.push-requires
push-requires c =
    let s = c.into_iter-ticket-iterator.result in
    let a : iter_rest (zip_first s) ≡ posted c.args.self.now.collection.now = search rules in
    let b : iter_rest (zip_second s) ≡ c.args.self.now.releases = search rules in
    let z = zip_turn _ _ c.loop-ticket.yielded s c.loop-ticket.ticket-iterator c.next.new.self c.next.result a b c.loop-ticket.yielded_by (c.in-Some.ticket, c.in-Some.release) c.in-Some.is c.next.ensures.steps in
    omega (arith, z.0, few_posted c.args.self.now.collection.now, c.loop-ticket.invariant.many)

pub loop-ticket-preserved : goal.loop-ticket-preserved
loop-ticket-preserved c =
    let s = c.into_iter-ticket-iterator.result in
    let a : iter_rest (zip_first s) ≡ posted c.args.self.now.collection.now = search rules in
    let b : iter_rest (zip_second s) ≡ c.args.self.now.releases = search rules in
    let z = zip_turn _ _ c.loop-ticket.yielded s c.loop-ticket.ticket-iterator c.next.new.self c.next.result a b c.loop-ticket.yielded_by (c.in-Some.ticket, c.in-Some.release) c.in-Some.is c.next.ensures.steps in
    let ts = posted c.args.self.now.collection.now in
    let rs = c.args.self.now.releases in
    let e = z.2 blank in
    subst (λ (k : ℕ). Made ts rs k c.push.new.self.entries.items) (sym (length-append c.loop-ticket.yielded _))
    (subst (λ (ys : List Work). Made ts rs (length c.loop-ticket.yielded + 1) ys) (sym c.push.ensures)
    (one_made ts rs _ _ _ c.loop-ticket.invariant record { weight = ap (λ (y : Ticket). y.weight) e; length = ap (λ (y : Ticket). y.length) e; release = z.3 0; pinned = refl }))

pub returns : goal.returns
returns c =
    let s = c.into_iter-ticket-iterator.result in
    let ts = posted c.args.self.now.collection.now in
    let rs = c.args.self.now.releases in
    let a : iter_rest (zip_first s) ≡ ts = search rules in
    let b : iter_rest (zip_second s) ≡ rs = search rules in
    let z = zip_end _ _ c.loop-ticket.yielded s c.loop-ticket.ticket-iterator c.next.new.self c.next.result a b c.loop-ticket.yielded_by c.in-None.is c.next.ensures.steps in
    let long : length rs ≡ 24 = search rules in
    let n : length c.loop-ticket.yielded ≡ length ts = omega (arith, z, few_posted c.args.self.now.collection.now, long) in
    subst (λ (k : ℕ). Made ts rs k c.loop-ticket.works.entries.items) n c.loop-ticket.invariant
