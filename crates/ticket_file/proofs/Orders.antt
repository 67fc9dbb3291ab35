-- The order of the kinds. Assumes nothing.
use Rattle.std.proofs.Common.{◌≡◌, ℕ, zero, suc, ◌+◌, ◌⊎◌, List, [], ◌∷◌, ◌++◌, length, get_or, replicate, sym, ap, ◌∙◌, inl, inr, ⊎_elim, append_assoc, append-nil, arith}
use Rattle.std.proofs.lemmas.List.{replicate_more}
use Rattle.ticket_file.specs.declared.stage.Stage.{Stage}
use Rattle.ticket_file.specs.declared.stage.Stage.TheVariants.{Tickets, Bans}
use Rattle.ticket_file.specs.Format.{order, Whole, Begins}
use Rattle.ticket_file.specs.Readings.{Follows}

-- a stage's kinds begin a whole file
pub follows_begin : (s : Stage) (ks : List ℕ) → Follows s ks → Begins ks
follows_begin Tickets ks (m, e) = (67 ∷ [], (m, 0, ap (λ l. l ++ 67 ∷ []) e))
follows_begin Bans ks (m, n, e) = ([], (m, n, append-nil ks ∙ e))

-- what may come next
pub one_ticket : (ks : List ℕ) → Follows Tickets ks → Follows Tickets (ks ++ 84 ∷ [])
one_ticket ks (m, is) = (m + 1, ap (λ l. l ++ 84 ∷ []) is ∙ replicate_more m 84)

pub one_ceiling : (ks : List ℕ) → Follows Tickets ks → Follows Bans (ks ++ 67 ∷ [])
one_ceiling ks (m, is) = (m, 0, ap (λ l. l ++ 67 ∷ []) is)

pub one_ban : (ks : List ℕ) → Follows Bans ks → Follows Bans (ks ++ 66 ∷ [])
one_ban ks (m, n, is) =
    (m, n + 1, ap (λ l. l ++ 66 ∷ []) is ∙ append_assoc (replicate m 84) (67 ∷ replicate n 66) (66 ∷ []) ∙ ap (λ l. replicate m 84 ++ 67 ∷ l) (replicate_more n 66))

-- after tickets come a ticket or the ceiling
tickets_then : (a m n k : ℕ) (more : List ℕ) → (replicate a 84 ++ k ∷ []) ++ more ≡ order m n → (k ≡ 84) ⊎ (k ≡ 67)
tickets_then zero zero n k more e = inr (cc)
tickets_then zero (suc m) n k more e = inl (cc)
tickets_then (suc a) zero n k more e = absurd (omega (arith, ap (λ l. get_or l 0 0) e))
tickets_then (suc a) (suc m) n k more e = tickets_then a m n k more (cc)

-- after the ceiling come bans
all_bans : (b n k : ℕ) (more : List ℕ) → (replicate b 66 ++ k ∷ []) ++ more ≡ replicate n 66 → k ≡ 66
all_bans zero zero k more e = absurd (omega (arith, ap length e))
all_bans zero (suc n) k more e = cc
all_bans (suc b) zero k more e = absurd (omega (arith, ap length e))
all_bans (suc b) (suc n) k more e = all_bans b n k more (cc)

bans_then : (a b m n k : ℕ) (more : List ℕ) → (order a b ++ k ∷ []) ++ more ≡ order m n → k ≡ 66
bans_then zero b zero n k more e = all_bans b n k more (cc)
bans_then zero b (suc m) n k more e = absurd (omega (arith, ap (λ l. get_or l 0 0) e))
bans_then (suc a) b zero n k more e = absurd (omega (arith, ap (λ l. get_or l 0 0) e))
bans_then (suc a) b (suc m) n k more e = bans_then a b m n k more (cc)

-- a ban before the ceiling
pub early : (ks : List ℕ) → Follows Tickets ks → Begins (ks ++ 66 ∷ []) → ⊥
early ks (a, is) (more, (m, n, same)) =
    ⊎_elim (λ x. omega arith) (λ x. omega arith) (tickets_then a m n 66 more (ap (λ l. (l ++ 66 ∷ []) ++ more) (sym is) ∙ same))

-- a ticket or a second ceiling after the ceiling
pub late : (k : ℕ) → (k ≡ 66 → ⊥) → (ks : List ℕ) → Follows Bans ks → Begins (ks ++ k ∷ []) → ⊥
late k f ks (a, b, is) (more, (m, n, same)) = f (bans_then a b m n k more (ap (λ l. (l ++ k ∷ []) ++ more) (sym is) ∙ same))

-- tickets alone are no whole file
pub unended : (ks : List ℕ) → Follows Tickets ks → Whole ks → ⊥
unended ks (a, is) (m, n, e) = not_yet a m n (sym is ∙ e)
  where
    not_yet : (a m n : ℕ) → replicate a 84 ≡ order m n → ⊥
    not_yet zero zero n e = omega (arith, ap length e)
    not_yet zero (suc m) n e = omega (arith, ap length e)
    not_yet (suc a) zero n e = omega (arith, ap (λ l. get_or l 0 0) e)
    not_yet (suc a) (suc m) n e = not_yet a m n (cc)
