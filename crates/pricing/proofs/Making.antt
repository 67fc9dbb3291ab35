-- The working entries of the tickets, made one by one. Assumes nothing.
use Rattle.std.proofs.Common.{◌≡◌, ℕ, ◌+◌, ◌<◌, true, false, ◌⊎◌, List, [], ◌∷◌, ◌++◌, length, sym, subst, inl, inr, arith}
use Rattle.std.proofs.lemmas.Bool.{cases_eq}
use Rattle.std.proofs.lemmas.List.{length-append, get_or_append_left, get_or_push}
use Rattle.tickets.specs.declared.ticket.Ticket.{Ticket}
use Rattle.spreads.specs.Spreads.{ticket, release, LeastPrice}
use Rattle.spreads.specs.Pinned.{LeastPinned}
use Rattle.pricing.specs.declared.work.Work.{Work}
use Rattle.pricing.specs.Works.{blank, entry, moved, EntryOf, Made}
use Rattle.pricing.specs.Steps.{Priced}
use Rattle.pricing.proofs.Standing.{free_least, pinned_least}

-- the entry of ticket n is made
pub one_made : (ts : List Ticket) (rs : List ℕ) (n : ℕ) (xs : List Work) (x : Work) → Made ts rs n xs → EntryOf (ticket ts n) (release rs n) false x → Made ts rs (n + 1) (xs ++ x ∷ [])
one_made ts rs n xs x m new = record { many = omega (arith, length-append xs (x ∷ []), m.many); made = λ i h. at i h (cases_eq i n) }
  where
    at : (i : ℕ) → i < n + 1 → (i ≡ n) ⊎ (i ≡ n → ⊥) → EntryOf (ticket ts i) (release rs i) false (entry (xs ++ x ∷ []) i)
    at i h (inl e) = subst (λ (k : ℕ). EntryOf (ticket ts k) (release rs k) false (entry (xs ++ x ∷ []) k)) (sym e) (subst (EntryOf (ticket ts n) (release rs n) false) (sym (get_or_push xs x blank n m.many)) new)
    at i h (inr o) = subst (EntryOf (ticket ts i) (release rs i) false) (sym (get_or_append_left xs (x ∷ []) blank i (omega (arith, o, m.many)))) (m.made i (omega (arith, o)))

-- all are made: what is built of them has the least price
module _ (ts : List Ticket) (rs : List ℕ) (xs : List Work) (m : Made ts rs (length ts) xs) where
  pub free_made : (p : ℕ) → Priced xs p → LeastPrice ts rs p
  free_made p = free_least ts rs xs p m.many m.made

  pub pinned_made : (i t p : ℕ) → i < length ts → Priced (moved xs i t true) p → LeastPinned ts rs i t p
  pinned_made i t p known = pinned_least ts rs xs i t p m.many known m.made
