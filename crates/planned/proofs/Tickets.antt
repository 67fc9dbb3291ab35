-- Tickets are told by their terms. Assumes nothing.
use Rattle.std.proofs.Common.{◌≡◌, ◌≤◌, List, [], ◌∷◌, map, length, refl, ap, arith}
use mathlib.Core.HLevel.{is_prop→PathP}
use Rattle.std.proofs.Math.Bridge.{le_prop}
use Rattle.tickets.specs.Collections.{terms_of}
use Rattle.tickets.specs.declared.ticket.Ticket.{Ticket}

same_ticket : (t u : Ticket) → terms_of t ≡ terms_of u → t ≡ u
same_ticket t u e = λ i. record {
  first = (e i).first;
  last = (e i).last;
  length = (e i).length;
  weight = (e i).weight;
  ordered = is_prop→PathP (λ j. (e j).first ≤ (e j).last) (λ j. le_prop) t.ordered u.ordered i;
  plays = is_prop→PathP (λ j. 1 ≤ (e j).length) (λ j. le_prop) t.plays u.plays i;
  short = is_prop→PathP (λ j. (e j).length ≤ 16) (λ j. le_prop) t.short u.short i;
  light = is_prop→PathP (λ j. (e j).weight ≤ 1000) (λ j. le_prop) t.light u.light i;
}

pub same_tickets : (ts us : List Ticket) → map terms_of ts ≡ map terms_of us → ts ≡ us
same_tickets [] [] e = refl
same_tickets [] (u ∷ us) e = absurd (omega (arith, ap length e))
same_tickets (t ∷ ts) [] e = absurd (omega (arith, ap length e))
same_tickets (t ∷ ts) (u ∷ us) e =
    let head : terms_of t ≡ terms_of u = cc in
    let one = same_ticket t u head in
    let rest = same_tickets ts us (cc) in
    λ i. one i ∷ rest i
