-- The listing of a table: there is one, it is measured and written. Assumes nothing.
use Rattle.std.proofs.Common.{◌≡◌, ℕ, ◌<◌, ◌≤◌, List, length, Ok, Err, sym, refl, ap, ◌∙◌, arith}
use Rattle.tickets.specs.declared.ticket.Ticket.{Ticket}
use Rattle.tickets.specs.declared.planner_refusal.PlannerRefusal.{PlannerRefusal}
use Rattle.tickets.specs.declared.planner_refusal.PlannerRefusal.TheVariants.{NoSuchTicket, NoSuchStart, OnlyStart, CeilingNotLower, TooManyLevels, StaleToken, TooShort, PlanLength, Overlap, CostTooHigh, Hopeless}
use Rattle.stores.specs.Sets.{Rows}
use Rattle.listing.specs.Placing.{Long, Writes}
use Rattle.listing.specs.Texts.{listing_text}
use Rattle.listing.specs.Listings.{Lists, OneListing, Asked, Shorter, meaning, Listed}
use Rattle.listing.proofs.Placing.{placed_first}
use Rattle.listing.proofs.Unique.{table_ranges_same}
use Rattle.listing.proofs.Floors.{floor_answer_same}

-- a table has one listing
pub one_listing : OneListing
one_listing ts u R a b p q =
    let f = floor_answer_same ts R p.floor q.floor p.is_floor q.is_floor in
    let r = table_ranges_same R (length ts) p.ranges q.ranges p.are_ranges q.are_ranges in
    p.is ∙ ap (λ x. listing_text x u p.ranges) f ∙ ap (listing_text q.floor u) r ∙ sym q.is

-- nothing is refused but a buffer that is too short
pub only_short : (a : Asked) (e : PlannerRefusal) → (meaning e).meets a → Shorter a × ((meaning e).number ≡ 17)
only_short a NoSuchTicket h = absurd h
only_short a NoSuchStart h = absurd h
only_short a OnlyStart h = absurd h
only_short a CeilingNotLower h = absurd h
only_short a TooManyLevels h = absurd h
only_short a StaleToken h = absurd h
only_short a TooShort h = (h, refl)
only_short a PlanLength h = absurd h
only_short a Overlap h = absurd h
only_short a CostTooHigh h = absurd h
only_short a Hopeless h = absurd h

-- a text that P tells is the listing; it was measured or written
module _ (ts : List Ticket) (u : ℕ) (R : Rows) (P : List ℕ → Type 0) (len : ℕ) (lists : (text : List ℕ) → P text → Lists ts u R text) (long : Long P len) where
  pub refused : (old : List ℕ) → length old < len → Listed ts u R old (Err TooShort) old
  refused old short =
      let (text, t, e) = long in
      (record { meets = (text, lists text t, omega arith); first = λ d l h. omega (arith, (only_short _ d h).1) }, refl)

  pub listed : (old is new : List ℕ) (n : ℕ) → len ≤ length old → Writes P old 0 is n → new ≡ is → Listed ts u R old (Ok n) new
  listed old is new n room w same =
      let (text, t, e) = long in
      let p = w text t in (
        λ d h. let (other, q, short) = (only_short _ d h).0 in omega (arith, ap length (one_listing ts u R text other (lists text t) q)),
        record { text = text; lists = lists text t; whole = omega (arith, p.ends); placed = same ∙ placed_first old is text n p },
      )
