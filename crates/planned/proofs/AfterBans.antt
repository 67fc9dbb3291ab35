-- What comes after a ban in a file, and what bans leave as it is. Assumes nothing.
use Rattle.std.proofs.Common.{◌≡◌, ℕ, zero, suc, List, [], ◌∷◌, ◌++◌, get_or, length, replicate, refl, ap, ◌∙◌, sym, arith}
use Rattle.std.specs.List.{AllByRecursion}
use Rattle.tickets.specs.declared.refusal.TicketRefusal.{TicketRefusal}
use Rattle.ticket_file.specs.Format.{Rec, ticket, ceiling, ban, kind, kinds, order, Begins}
use Rattle.day.specs.Judging.{Gathered, nothing, with_record, gather, Refuses}

-- the record is a ban
abbrev pub IsBan : Rec → Type 0
IsBan r = kind r ≡ 66

all_back : (rs qs : List Rec) → AllByRecursion IsBan (rs ++ qs) → AllByRecursion IsBan qs
all_back [] qs a = a
all_back (r ∷ rs) qs a = all_back rs qs a.1

all_bans : (n : ℕ) (rs : List Rec) (more : List ℕ) → kinds rs ++ more ≡ replicate n 66 → AllByRecursion IsBan rs
all_bans n [] more e = tt
all_bans zero (r ∷ rs) more e = absurd (omega (arith, ap length e))
all_bans (suc n) (r ∷ rs) more e = (cc, all_bans n rs more (cc))

after : (m n : ℕ) (before rest : List Rec) (i t : ℕ) (more : List ℕ) → kinds (before ++ ban i t ∷ rest) ++ more ≡ order m n → AllByRecursion IsBan rest
after zero n [] rest i t more e = absurd (omega (arith, ap (λ l. get_or l 0 0) e))
after (suc m) n [] rest i t more e = absurd (omega (arith, ap (λ l. get_or l 0 0) e))
after zero n (r ∷ before) rest i t more e = (all_back before (ban i t ∷ rest) (all_bans n (before ++ ban i t ∷ rest) more (cc))).1
after (suc m) n (r ∷ before) rest i t more e = after m n before rest i t more (cc)

-- only bans come after a ban
pub after_ban : (before rest : List Rec) (i t : ℕ) → Begins (kinds (before ++ ban i t ∷ rest)) → AllByRecursion IsBan rest
after_ban before rest i t (more, (m, n, e)) = after m n before rest i t more e

pub one_ban : (before rest : List Rec) (r : Rec) → AllByRecursion IsBan (before ++ r ∷ rest) → IsBan r
one_ban before rest r a = (all_back before (r ∷ rest) a).0

gather_more : (g : Gathered) (rs qs : List Rec) → gather g (rs ++ qs) ≡ gather (gather g rs) qs
gather_more g [] qs = refl
gather_more g (r ∷ rs) qs = gather_more (with_record g r) rs qs

bans_hold : (g : Gathered) (rs : List Rec) → AllByRecursion IsBan rs → (gather g rs).held ≡ g.held
bans_hold g [] a = refl
bans_hold g (ticket t label ∷ rs) a = absurd (omega (arith, a.0))
bans_hold g (ceiling u ∷ rs) a = absurd (omega (arith, a.0))
bans_hold g (ban i t ∷ rs) a = bans_hold (with_record g (ban i t)) rs a.1

-- what is held when a ban comes is what is held at the end
pub held_at_ban : (before rest : List Rec) (i t : ℕ) → Begins (kinds (before ++ ban i t ∷ rest)) → (gather nothing before).held ≡ (gather nothing (before ++ ban i t ∷ rest)).held
held_at_ban before rest i t b =
    sym (ap (λ g. g.held) (gather_more nothing before (ban i t ∷ rest)) ∙ bans_hold (gather nothing before) (ban i t ∷ rest) (refl, after_ban before rest i t b))

-- a collection refuses no ban
pub no_refused_ban : (e : TicketRefusal) (g : Gathered) (r : Rec) → Refuses e g r → IsBan r → ⊥
no_refused_ban e g (ticket t label) m b = omega (arith, b)
no_refused_ban e g (ceiling u) m b = omega (arith, b)
no_refused_ban e g (ban i t) m b = m
