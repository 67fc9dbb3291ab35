-- The builder's rule as a function, so that prices can be computed. Assumes nothing.
use Rattle.std.proofs.Common.{◌≡◌, ℕ, zero, suc, ◌+◌, ◌-◌, ◌*◌, ◌<◌, ◌≤◌, Bool, true, false, cond, ◌&&◌, ltb, leb, ◌⊎◌, List, length, get_or, set, sym, ap, ◌∙◌, subst, inl, inr, arith, get_or-set_other, get_or-set_same}
use Rattle.std.proofs.lemmas.Bool.{cases_eq, cases_lt, cases_Bool, ltb-true, ltb-false, leb-true, leb-false, lt-ltb, le-ltb, and_parts, and_cases, cond-true, cond-false}
use Rattle.tickets.specs.declared.ticket.Ticket.{Ticket}
use Rattle.spreads.specs.Lines.{sum_to, Slot, idle, playing}
use Rattle.spreads.specs.Spreads.{value}
use Rattle.spreads.specs.Pinned.{put}
use Rattle.spreads.specs.Builder.{Ready, Builds, ends, idles, plays, lengths}
use Rattle.spreads.proofs.Sums.{sum_same, sum_none, term_le}
use Rattle.spreads.proofs.Puts.{put_same, put_other, sum_put}
use Rattle.spreads.proofs.Building.{within}

module _ (ts : List Ticket) (r v : ℕ → ℕ) where
  abbrev ready : ℕ → List ℕ → ℕ → Bool
  ready t left i = leb (r i) t && ltb 0 (get_or left i 0)

  -- ticket i, unless x has one of no less value
  abbrev better : ℕ → Slot → Slot
  better i idle = playing i
  better i (playing j) = cond (ltb (v j) (v i)) (playing i) (playing j)

  -- of the tickets below n that are ready, the first of the greatest value
  abbrev best : ℕ → List ℕ → ℕ → Slot
  best t left zero = idle
  best t left (suc n) = let x = best t left n in cond (ready t left n) (better n x) x

  -- what slot t adds, and what is added after it
  abbrev step : ℕ → List ℕ → (List ℕ → ℕ) → Slot → ℕ
  step t left after idle = after left
  step t left after (playing j) = value ts j * t + after (set left j (get_or left j 0 - 1))

  -- the busy terms of what is built in n slots from t on
  abbrev run : ℕ → ℕ → List ℕ → ℕ
  run zero t left = 0
  run (suc n) t left = step t left (run n (suc t)) (best t left (length ts))

  module _ (t : ℕ) (left : List ℕ) where
    ready_true : (i : ℕ) → i < length ts → ready t left i ≡ true → Ready ts r t left i
    ready_true i h e =
        let both = and_parts (leb (r i) t) (ltb 0 (get_or left i 0)) e in
        (h, leb-true (r i) t both.0, ltb-true 0 (get_or left i 0) both.1)

    ready_false : (i : ℕ) → ready t left i ≡ false → Ready ts r t left i → ⊥
    ready_false i e w = at (and_cases (leb (r i) t) (ltb 0 (get_or left i 0)) e)
      where
        at : (leb (r i) t ≡ false) ⊎ (ltb 0 (get_or left i 0) ≡ false) → ⊥
        at (inl a) = omega (arith, leb-false (r i) t a, w.1)
        at (inr a) = omega (arith, ltb-false 0 (get_or left i 0) a, w.2)

    -- x is the first of the tickets below n that are ready, or there is none
    abbrev Found : ℕ → Slot → Type 0
    Found n idle = (j : ℕ) → j < n → Ready ts r t left j → ⊥
    Found n (playing i) = Ready ts r t left i × ((j : ℕ) → j < n → Ready ts r t left j → v j ≤ v i)

    skips : (n : ℕ) (x : Slot) → (Ready ts r t left n → ⊥) → Found n x → Found (suc n) x
    skips n idle o b = λ j l w. at j w (cases_eq j n) l
      where
        at : (j : ℕ) → Ready ts r t left j → (j ≡ n) ⊎ (j ≡ n → ⊥) → j < suc n → ⊥
        at j w (inl e) l = o (subst (Ready ts r t left) e w)
        at j w (inr e) l = b j (omega (arith, e)) w
    skips n (playing i) o b = (b.0, λ j l w. at j w (cases_eq j n) l)
      where
        at : (j : ℕ) → Ready ts r t left j → (j ≡ n) ⊎ (j ≡ n → ⊥) → j < suc n → v j ≤ v i
        at j w (inl e) l = absurd (o (subst (Ready ts r t left) e w))
        at j w (inr e) l = b.1 j (omega (arith, e)) w

    takes : (n : ℕ) (x : Slot) → Ready ts r t left n → Found n x → Found (suc n) (better n x)
    takes n idle w b = (w, λ j l u. at j u (cases_eq j n) l)
      where
        at : (j : ℕ) → Ready ts r t left j → (j ≡ n) ⊎ (j ≡ n → ⊥) → j < suc n → v j ≤ v n
        at j u (inl e) l = omega (arith, ap v e)
        at j u (inr e) l = absurd (b j (omega (arith, e)) u)
    takes n (playing i) w b = at (cases_lt (v i) (v n))
      where
        all : (m : ℕ) → v i ≤ m → v n ≤ m → (j : ℕ) → j < suc n → Ready ts r t left j → v j ≤ m
        all m p q j l u = each (cases_eq j n)
          where
            each : (j ≡ n) ⊎ (j ≡ n → ⊥) → v j ≤ m
            each (inl e) = omega (arith, ap v e)
            each (inr e) = omega (arith, b.1 j (omega (arith, e)) u)

        at : (v i < v n) ⊎ (v n ≤ v i) → Found (suc n) (better n (playing i))
        at (inl l) = rw (lt-ltb (v i) (v n) l) (w, all (v n) (omega arith) (omega arith))
        at (inr l) = rw (le-ltb (v i) (v n) l) (b.0, all (v i) (omega arith) (omega arith))

    found : (n : ℕ) → n ≤ length ts → Found n (best t left n)
    found zero h = λ j l w. omega arith
    found (suc n) h = at (found n (omega arith)) (cases_Bool (ready t left n))
      where
        at : Found n (best t left n) → (ready t left n ≡ true) ⊎ (ready t left n ≡ false) → Found (suc n) (best t left (suc n))
        at b (inl e) = subst (Found (suc n)) (sym (cond-true (ready t left n) (better n (best t left n)) (best t left n) e)) (takes n (best t left n) (ready_true n (omega arith) e) b)
        at b (inr e) = subst (Found (suc n)) (sym (cond-false (ready t left n) (better n (best t left n)) (best t left n) e)) (skips n (best t left n) (ready_false n e) b)

  -- the slots that all tickets have left
  abbrev total : List ℕ → ℕ
  total left = sum_to (length ts) (λ i. get_or left i 0)

  total_less : (left : List ℕ) (j : ℕ) → j < length ts → 0 < get_or left j 0 → total (set left j (get_or left j 0 - 1)) + 1 ≡ total left
  total_less left j h p =
      let less : ℕ = get_or left j 0 - 1 in
      let f : ℕ → ℕ = λ i. get_or left i 0 in
      omega (arith, sum_same (length ts) (λ i. get_or (set left j less) i 0) (put f j less) (λ i l. at i (cases_eq j i)), sum_put (length ts) f j less h)
    where
      at : (i : ℕ) → (j ≡ i) ⊎ (j ≡ i → ⊥) → get_or (set left j (get_or left j 0 - 1)) i 0 ≡ put (λ i. get_or left i 0) j (get_or left j 0 - 1) i
      at i (inl e) = ap (λ z. get_or (set left j (get_or left j 0 - 1)) z 0) (sym e) ∙ get_or-set_same left j (get_or left j 0 - 1) 0 (within left j p) ∙ sym (put_same (λ i. get_or left i 0) j (get_or left j 0 - 1) i e)
      at i (inr o) = get_or-set_other left j i (get_or left j 0 - 1) 0 (λ e. o (sym e)) ∙ sym (put_other (λ i. get_or left i 0) j (get_or left j 0 - 1) i o)

  -- where no release is after R, so many slots are enough
  module _ (R : ℕ) (late : (i : ℕ) → i < length ts → r i ≤ R) where
    pub run_builds : (n t : ℕ) (left : List ℕ) → (R - t) + total left ≤ n → Builds ts r v t left (run n t left)
    run_builds zero t left h = ends (λ i l. omega (arith, term_le (length ts) (λ i. get_or left i 0) i l))
    run_builds (suc n) t left h = at (best t left (length ts)) (found t left (length ts) (omega arith)) (λ l e. run_builds n (suc t) l e)
      where
        -- where nothing is ready and all are released, nothing is left
        none : ((j : ℕ) → j < length ts → Ready ts r t left j → ⊥) → (R - suc t) + total left ≤ n
        none o = by (cases_lt t R)
          where
            zeros : R ≤ t → (i : ℕ) → i < length ts → get_or left i 0 ≡ 0
            zeros l i k = over (cases_lt 0 (get_or left i 0))
              where
                over : (0 < get_or left i 0) ⊎ (get_or left i 0 ≤ 0) → get_or left i 0 ≡ 0
                over (inl some) = absurd (o i k (k, omega (arith, late i k), some))
                over (inr none) = omega arith

            by : (t < R) ⊎ (R ≤ t) → (R - suc t) + total left ≤ n
            by (inl l) = omega arith
            by (inr l) = omega (arith, sum_none (length ts) (λ i. get_or left i 0) (zeros l))

        at : (x : Slot) → Found t left (length ts) x → ((l : List ℕ) → (R - suc t) + total l ≤ n → Builds ts r v (suc t) l (run n (suc t) l)) →
            Builds ts r v t left (step t left (run n (suc t)) x)
        at idle o rest = idles (λ i w. o i w.0 w) (rest left (none o))
        at (playing j) b rest =
            plays j (b.0, λ i w. b.1 i w.0 w) (rest (set left j (get_or left j 0 - 1)) (omega (arith, total_less left j b.0.0 b.0.2)))

  -- so these are the busy terms of the whole
  abbrev pub enough : ℕ
  enough = sum_to (length ts) r + total (lengths ts)

  abbrev pub busy_terms : ℕ
  busy_terms = run enough 0 (lengths ts)

  pub runs : Builds ts r v 0 (lengths ts) busy_terms
  runs = run_builds (sum_to (length ts) r) (term_le (length ts) r) enough 0 (lengths ts) (omega arith)
