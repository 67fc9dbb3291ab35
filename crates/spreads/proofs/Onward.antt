-- Building many slots at once, and what building depends on. Assumes nothing.
use Rattle.std.proofs.Common.{◌≡◌, ℕ, zero, suc, ◌+◌, ◌-◌, ◌*◌, ◌<◌, ◌≤◌, ◌⊎◌, List, length, get_or, set, sym, refl, ap, ◌∙◌, subst, inl, inr, add-zero, add-suc, arith, get_or-set_other, get_or-set_same, set-set}
use lib.Seq.{set-get_or}
use Rattle.std.proofs.lemmas.Bool.{cases_eq}
use Rattle.tickets.specs.declared.ticket.Ticket.{Ticket}
use Rattle.spreads.specs.Lines.{sum_to}
use Rattle.spreads.specs.Spreads.{value}
use Rattle.spreads.specs.Builder.{Ready, First, Builds, ends, idles, plays}
use Rattle.spreads.proofs.Building.{within}

-- the sum of the d slots from s on
pub slots_from : (s d : ℕ) → 2 * sum_to d (λ k. s + k) + d ≡ d * (2 * s + d)
slots_from s zero = omega arith
slots_from s (suc d) = omega (arith, slots_from s d)

module _ (ts : List Ticket) (r v : ℕ → ℕ) where
  -- equal numbers may stand for one another
  pub like : {t t' : ℕ} {left left' : List ℕ} {c c' : ℕ} → t ≡ t' → left ≡ left' → c ≡ c' → Builds ts r v t left c → Builds ts r v t' left' c'
  like {t} {t'} {left} {left'} {c} {c'} e f g b =
      subst (λ n. Builds ts r v t' left' n) g (subst (λ l. Builds ts r v t' l c) f (subst (λ n. Builds ts r v n left c) e b))

  -- ticket j plays in the d slots from s on
  pub plays_many : (j s : ℕ) (left : List ℕ) → j < length left → (d : ℕ) → ((k : ℕ) → k < d → First ts r v (s + k) (set left j (get_or left j 0 - k)) j) →
      (c : ℕ) → Builds ts r v (s + d) (set left j (get_or left j 0 - d)) c → Builds ts r v s left (value ts j * sum_to d (λ k. s + k) + c)
  plays_many j s left known zero b c q =
      let same : get_or left j 0 - 0 ≡ get_or left j 0 = omega arith in
      like (add-zero s) (ap (λ n. set left j n) same ∙ set-get_or left j 0) (omega arith) q
  plays_many j s left known (suc d) b c q =
      let x : ℕ = get_or left j 0 in
      let e : set left j (x - suc d) ≡ set (set left j (x - d)) j (get_or (set left j (x - d)) j 0 - 1) =
      ap (λ n. set left j n) (omega (arith, get_or-set_same left j (x - d) 0 known)) ∙ sym (set-set left j (x - d) (get_or (set left j (x - d)) j 0 - 1)) in
      let last : Builds ts r v (s + d) (set left j (x - d)) (value ts j * (s + d) + c) = plays j (b d (omega arith)) (like (add-suc s d) e refl q) in
      like refl refl (omega arith) (plays_many j s left known d (λ k h. b k (omega arith)) (value ts j * (s + d) + c) last)

  -- nothing is ready in the d slots from s on
  pub idles_many : (s : ℕ) (left : List ℕ) (d : ℕ) → ((k : ℕ) → k < d → (i : ℕ) → Ready ts r (s + k) left i → ⊥) → (c : ℕ) → Builds ts r v (s + d) left c → Builds ts r v s left c
  idles_many s left zero b c q = like (add-zero s) refl refl q
  idles_many s left (suc d) b c q = idles_many s left d (λ k h. b k (omega arith)) c (idles (b d (omega arith)) (like (add-suc s d) refl refl q))

-- the same is left of each ticket
abbrev pub Alike : List Ticket → List ℕ → List ℕ → Type 0
Alike ts left left' = (i : ℕ) → i < length ts → get_or left i 0 ≡ get_or left' i 0

-- Building depends on the tickets' releases, on the order of their values, and on what is left of them, and on nothing else.
module _ (ts : List Ticket) (r r' v v' : ℕ → ℕ) (same : (i : ℕ) → i < length ts → r i ≡ r' i) (order : (i j : ℕ) → i < length ts → j < length ts → v i ≤ v j → v' i ≤ v' j) where
  ready_to : (t : ℕ) (left left' : List ℕ) → Alike ts left left' → (i : ℕ) → Ready ts r t left i → Ready ts r' t left' i
  ready_to t left left' e i w = (w.0, omega (arith, w.1, same i w.0), omega (arith, w.2, e i w.0))

  ready_back : (t : ℕ) (left left' : List ℕ) → Alike ts left left' → (i : ℕ) → Ready ts r' t left' i → Ready ts r t left i
  ready_back t left left' e i w = (w.0, omega (arith, w.1, same i w.0), omega (arith, w.2, e i w.0))

  -- one slot less of ticket j
  less_alike : (left left' : List ℕ) → Alike ts left left' → (j : ℕ) → j < length ts → 0 < get_or left j 0 → Alike ts (set left j (get_or left j 0 - 1)) (set left' j (get_or left' j 0 - 1))
  less_alike left left' e j h p i l = at (cases_eq i j)
    where
      at : (i ≡ j) ⊎ (i ≡ j → ⊥) → get_or (set left j (get_or left j 0 - 1)) i 0 ≡ get_or (set left' j (get_or left' j 0 - 1)) i 0
      at (inl q) =
          let a : get_or (set left j (get_or left j 0 - 1)) i 0 ≡ get_or left j 0 - 1 = ap (λ z. get_or (set left j (get_or left j 0 - 1)) z 0) q ∙ get_or-set_same left j (get_or left j 0 - 1) 0 (within left j p) in
          let b : get_or (set left' j (get_or left' j 0 - 1)) i 0 ≡ get_or left' j 0 - 1 = ap (λ z. get_or (set left' j (get_or left' j 0 - 1)) z 0) q ∙ get_or-set_same left' j (get_or left' j 0 - 1) 0 (within left' j (omega (arith, e j h))) in
          omega (arith, a, b, e j h)
      at (inr o) = get_or-set_other left j i (get_or left j 0 - 1) 0 o ∙ e i l ∙ sym (get_or-set_other left' j i (get_or left' j 0 - 1) 0 o)

  pub alike : {t : ℕ} {left : List ℕ} {c : ℕ} → Builds ts r v t left c → (left' : List ℕ) → Alike ts left left' → Builds ts r' v' t left' c
  alike (ends z) left' e = ends (λ i h. sym (e i h) ∙ z i h)
  alike {t} {left} (idles b q) left' e = idles (λ i w. b i (ready_back t left left' e i w)) (alike q left' e)
  alike {t} {left} (plays j b q) left' e =
      plays j
      (ready_to t left left' e j b.0, λ i w. order i j w.0 b.0.0 (b.1 i (ready_back t left left' e i w)))
      (alike q (set left' j (get_or left' j 0 - 1)) (less_alike left left' e j b.0.0 b.0.2))
