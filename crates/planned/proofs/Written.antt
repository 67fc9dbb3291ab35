-- A listing that is written into as many bytes as it has. Assumes nothing.
use Rattle.std.proofs.Common.{◌≡◌, ℕ, List, ◌++◌, length, take, drop, Ok, Err, Result, sym, refl, ap, ◌∙◌, subst, append-nil, arith}
use Rattle.std.specs.Result.{IsOk}
use Rattle.std.proofs.lemmas.List.{take_at, drop_all}
use Rattle.tickets.specs.declared.ticket.Ticket.{Ticket}
use Rattle.tickets.specs.declared.planner_refusal.PlannerRefusal.{PlannerRefusal}
use Rattle.stores.specs.Sets.{Rows}
use Rattle.listing.specs.Listings.{Lists, Listed, Asked}
use Rattle.listing.proofs.Listings.{one_listing, only_short}

module _ (ts : List Ticket) (u : ℕ) (R : Rows) (text old new : List ℕ) (lists : Lists ts u R text) (room : length old ≡ length text) where
  -- the buffer is not too short
  pub has_room : (r : Result ℕ PlannerRefusal) → Listed ts u R old r new → IsOk r
  has_room (Ok n) h = refl
  has_room (Err e) h =
      let asked : Asked = record { tickets = ts; ceiling = u; rows = R; buffer = old } in
      let (other, l, short) = (only_short asked e h.0.meets).0 in
      absurd (omega (arith, room, ap length (one_listing ts u R text other lists l)))

  -- and then it has the listing and nothing else
  pub fills : (r : Result ℕ PlannerRefusal) (n : ℕ) → r ≡ Ok n → Listed ts u R old r new → (all : List ℕ) (len : ℕ) → len ≡ length old → Lists ts u R (take len (new ++ all))
  fills r n is h all len e =
      let w = (subst (λ x. Listed ts u R old x new) is h).1 in
      let same : text ≡ w.text = one_listing ts u R text w.text lists w.lists in
      let over : drop n old ≡ drop (length old) old = ap (λ m. drop m old) (omega (arith, w.whole, room, ap length same)) in
      let new_is : new ≡ w.text = w.placed ∙ ap (λ l. w.text ++ l) (over ∙ drop_all (length old) old (omega arith)) ∙ append-nil w.text in
      subst (Lists ts u R) (sym (take_at new all len (omega (arith, e, room, ap length same, ap length new_is)) ∙ new_is)) w.lists
