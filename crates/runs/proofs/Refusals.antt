-- For each call, what it takes to refuse it by each number, and to take it. Assumes nothing.
use Rattle.std.proofs.Common.{◌≡◌, ℕ, ◌<◌, ◌≤◌, true, false, ◌⊎◌, length, refl, inl, inr, ⊎_elim, arith}
use Rattle.std.proofs.lemmas.Bool.{cases_Bool, cases_lt, both_ways}
use Rattle.tickets.specs.Refusals.{Answers, Clear}
use Rattle.stores.specs.Sets.{size_of}
use Rattle.tickets.specs.Planner.{number_of}
use Rattle.runs.specs.Tables.{Setting, NoneWithin}
use Rattle.runs.specs.Planner.{State, Newest, words, Meets, ban_no_ticket, ban_no_start, ban_only_start, fix_no_ticket, fix_no_start, lower_not_lower, mark_too_many, keep_stale, undo_stale, prune_short, prune_hopeless, asked, meaning}
use Rattle.runs.specs.declared.call.Call.{Call}
use Rattle.runs.specs.declared.call.Call.TheVariants.{Ban, Fix, Lower, Mark, Keep, Undo, Prune}
use Rattle.tickets.specs.declared.planner_refusal.PlannerRefusal.{PlannerRefusal}
use Rattle.tickets.specs.declared.planner_refusal.PlannerRefusal.TheVariants.{NoSuchTicket, NoSuchStart, OnlyStart, CeilingNotLower, TooManyLevels, StaleToken, TooShort, Hopeless}

module _ (w : Setting) (s : State) where
  -- the call c is refused by e, or by nothing
  abbrev pub Refuses : Call → PlannerRefusal → Type 0
  Refuses c e = Answers (meaning w) (asked s c) e

  abbrev pub Free : Call → Type 0
  Free c = Clear (meaning w) (asked s c)

  module _ (i t : ℕ) where
    pub ban_11 : w.tickets ≤ i → Refuses (Ban i t) NoSuchTicket
    ban_11 h = record { meets = ban_no_ticket h; first = lower }
      where
        lower : (d : PlannerRefusal) → number_of d < 11 → Meets w s d (Ban i t) → ⊥
        lower d lt (ban_no_ticket _) = omega arith
        lower d lt (ban_no_start _) = omega arith
        lower d lt (ban_only_start _) = omega arith

    pub ban_12 : i < w.tickets → s.standing i t ≡ false → Refuses (Ban i t) NoSuchStart
    ban_12 known off = record { meets = ban_no_start off; first = lower }
      where
        lower : (d : PlannerRefusal) → number_of d < 12 → Meets w s d (Ban i t) → ⊥
        lower d lt (ban_no_ticket h) = omega arith
        lower d lt (ban_no_start _) = omega arith
        lower d lt (ban_only_start _) = omega arith

    pub ban_13 : i < w.tickets → s.standing i t ≡ true → size_of (s.standing i) ≤ 1 → Refuses (Ban i t) OnlyStart
    ban_13 known on few = record { meets = ban_only_start few; first = lower }
      where
        lower : (d : PlannerRefusal) → number_of d < 13 → Meets w s d (Ban i t) → ⊥
        lower d lt (ban_no_ticket h) = omega arith
        lower d lt (ban_no_start h) = both_ways _ h on
        lower d lt (ban_only_start _) = omega arith

    pub ban_free : i < w.tickets → s.standing i t ≡ true → 2 ≤ size_of (s.standing i) → Free (Ban i t)
    ban_free known on many d (ban_no_ticket h) = omega arith
    ban_free known on many d (ban_no_start h) = both_ways _ h on
    ban_free known on many d (ban_only_start h) = omega arith

    pub fix_11 : w.tickets ≤ i → Refuses (Fix i t) NoSuchTicket
    fix_11 h = record { meets = fix_no_ticket h; first = lower }
      where
        lower : (d : PlannerRefusal) → number_of d < 11 → Meets w s d (Fix i t) → ⊥
        lower d lt (fix_no_ticket _) = omega arith
        lower d lt (fix_no_start _) = omega arith

    pub fix_12 : i < w.tickets → s.standing i t ≡ false → Refuses (Fix i t) NoSuchStart
    fix_12 known off = record { meets = fix_no_start off; first = lower }
      where
        lower : (d : PlannerRefusal) → number_of d < 12 → Meets w s d (Fix i t) → ⊥
        lower d lt (fix_no_ticket h) = omega arith
        lower d lt (fix_no_start _) = omega arith

    pub fix_free : i < w.tickets → s.standing i t ≡ true → Free (Fix i t)
    fix_free known on d (fix_no_ticket h) = omega arith
    fix_free known on d (fix_no_start h) = both_ways _ h on

    -- a ban that is taken is of a start that stands, and not of a row's only start; a fixing is of a start that stands
    pub ban_stands : Free (Ban i t) → s.standing i t ≡ true
    ban_stands free = ⊎_elim (λ (h : s.standing i t ≡ true). h) (λ (h : s.standing i t ≡ false). absurd (free NoSuchStart (ban_no_start h))) (cases_Bool (s.standing i t))

    pub ban_several : Free (Ban i t) → 2 ≤ size_of (s.standing i)
    ban_several free = ⊎_elim (λ (h : 1 < size_of (s.standing i)). omega arith) (λ (h : size_of (s.standing i) ≤ 1). absurd (free OnlyStart (ban_only_start h))) (cases_lt 1 (size_of (s.standing i)))

    pub fix_stands : Free (Fix i t) → s.standing i t ≡ true
    fix_stands free = ⊎_elim (λ (h : s.standing i t ≡ true). h) (λ (h : s.standing i t ≡ false). absurd (free NoSuchStart (fix_no_start h))) (cases_Bool (s.standing i t))

  module _ (u : ℕ) where
    pub lower_14 : s.ceiling ≤ u → Refuses (Lower u) CeilingNotLower
    lower_14 h = record { meets = lower_not_lower h; first = lower }
      where
        lower : (d : PlannerRefusal) → number_of d < 14 → Meets w s d (Lower u) → ⊥
        lower d lt (lower_not_lower _) = omega arith

    pub lower_free : u < s.ceiling → Free (Lower u)
    lower_free l d (lower_not_lower h) = omega arith

    pub lower_less : Free (Lower u) → u < s.ceiling
    lower_less free = ⊎_elim (λ (h : u < s.ceiling). h) (λ (h : s.ceiling ≤ u). absurd (free CeilingNotLower (lower_not_lower h))) (cases_lt u s.ceiling)

  pub mark_15 : 32 ≤ length s.levels → Refuses Mark TooManyLevels
  mark_15 h = record { meets = mark_too_many h; first = lower }
    where
      lower : (d : PlannerRefusal) → number_of d < 15 → Meets w s d Mark → ⊥
      lower d lt (mark_too_many _) = omega arith

  pub mark_free : length s.levels < 32 → Free Mark
  mark_free l d (mark_too_many h) = omega arith

  module _ (stamp level : ℕ) where
    pub keep_16 : (Newest s stamp level → ⊥) → Refuses (Keep stamp level) StaleToken
    keep_16 h = record { meets = keep_stale h; first = lower }
      where
        lower : (d : PlannerRefusal) → number_of d < 16 → Meets w s d (Keep stamp level) → ⊥
        lower d lt (keep_stale _) = omega arith

    pub keep_free : Newest s stamp level → Free (Keep stamp level)
    keep_free n d (keep_stale h) = h n

    pub undo_16 : (Newest s stamp level → ⊥) → Refuses (Undo stamp level) StaleToken
    undo_16 h = record { meets = undo_stale h; first = lower }
      where
        lower : (d : PlannerRefusal) → number_of d < 16 → Meets w s d (Undo stamp level) → ⊥
        lower d lt (undo_stale _) = omega arith

    pub undo_free : Newest s stamp level → Free (Undo stamp level)
    undo_free n d (undo_stale h) = h n

  module _ (room : ℕ) where
    pub prune_17 : room < words w s → Refuses (Prune room) TooShort
    prune_17 h = record { meets = prune_short h; first = lower }
      where
        lower : (d : PlannerRefusal) → number_of d < 17 → Meets w s d (Prune room) → ⊥
        lower d lt (prune_short _) = omega arith
        lower d lt (prune_hopeless _) = omega arith

    pub prune_21 : words w s ≤ room → NoneWithin w s.ceiling s.standing → Refuses (Prune room) Hopeless
    prune_21 enough none = record { meets = prune_hopeless none; first = lower }
      where
        lower : (d : PlannerRefusal) → number_of d < 21 → Meets w s d (Prune room) → ⊥
        lower d lt (prune_short h) = omega arith
        lower d lt (prune_hopeless _) = omega arith

    pub prune_free : words w s ≤ room → (NoneWithin w s.ceiling s.standing → ⊥) → Free (Prune room)
    prune_free enough some d (prune_short h) = omega arith
    prune_free enough some d (prune_hopeless h) = some h

    pub prune_enough : Free (Prune room) → words w s ≤ room
    prune_enough free = ⊎_elim (λ (h : room < words w s). absurd (free TooShort (prune_short h))) (λ (h : words w s ≤ room). h) (cases_lt room (words w s))

    -- a prune is refused by 17 or by 21
    pub prune_by : (e : PlannerRefusal) → Refuses (Prune room) e → ((e ≡ TooShort) × (room < words w s)) ⊎ ((e ≡ Hopeless) × (words w s ≤ room) × NoneWithin w s.ceiling s.standing)
    prune_by e a = by e a.meets a.first
      where
        by : (e : PlannerRefusal) → Meets w s e (Prune room) → ((d : PlannerRefusal) → number_of d < number_of e → Meets w s d (Prune room) → ⊥) → ((e ≡ TooShort) × (room < words w s)) ⊎ ((e ≡ Hopeless) × (words w s ≤ room) × NoneWithin w s.ceiling s.standing)
        by e (prune_short h) first = inl (refl, h)
        by e (prune_hopeless h) first =
            inr (refl, ⊎_elim (λ (l : room < words w s). absurd (first TooShort (omega arith) (prune_short l))) (λ (l : words w s ≤ room). l) (cases_lt room (words w s)), h)
