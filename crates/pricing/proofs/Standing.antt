-- Which tickets the working entries stand for. Assumes nothing.
use Rattle.std.proofs.Common.{◌≡◌, ℕ, zero, suc, ◌+◌, ◌*◌, ◌/◌, ◌<◌, ◌≤◌, Bool, true, false, cond, eqb, ◌⊎◌, List, length, set, take, sym, refl, ap, ◌∙◌, subst, inl, inr, true≢false, add-one, arith, length-set, get_or-set_other, get_or-set_same, ltb-false}
use Rattle.std.specs.List.{sum_by}
use Rattle.std.proofs.lemmas.Bool.{cases_eq, eq-eqb, ne_eqb}
use Rattle.std.proofs.lemmas.List.{take_all}
use Rattle.std.proofs.lemmas.List.Sums.{sum_by_more}
use Rattle.tickets.specs.declared.ticket.Ticket.{Ticket}
use Rattle.spreads.specs.Lines.{sum_to}
use Rattle.spreads.specs.Spreads.{ticket, value, half, release, LeastPrice}
use Rattle.spreads.specs.Pinned.{put, LeastPinned}
use Rattle.spreads.specs.Builder.{halves}
use Rattle.spreads.proofs.Sums.{sum_same}
use Rattle.spreads.proofs.Limits.{value_le}
use Rattle.spreads.proofs.Ranks.{from_products}
use Rattle.spreads.proofs.Puts.{put_same, put_other}
use Rattle.spreads.proofs.Building.{built_free, built_pinned}
use Rattle.pricing.specs.declared.work.Work.{Work}
use Rattle.pricing.specs.declared.keys.Rank.{Rank}
use Rattle.pricing.specs.Keys.{lex, denser, lower, shorter, higher}
use Rattle.pricing.specs.Works.{blank, entry, rank_of, released, moved, Stands, EntryOf}
use Rattle.pricing.specs.Terms.{half_of, halves_of}
use Rattle.pricing.specs.Steps.{Busy, Priced}
use Rattle.pricing.specs.Laws.{lex_first}

-- the value of a pinned ticket: above all values
pub top : ℕ
top = 1000 * 720720 + 1

-- the value of a ticket with the mark b
abbrev pub marked_value : List Ticket → (ℕ → Bool) → ℕ → ℕ
marked_value ts mark i = cond (mark i) top (value ts i)

-- ranks
abbrev rank_as : Bool → Work → ℕ → Rank
rank_as b x i = record { pinned = b; weight = x.weight; length = x.length; number = i; plays = x.plays }

by_value : (p q : Bool) (x y : Work) (i j m n : ℕ) → m ≡ x.weight * (720720 / x.length) → n ≡ y.weight * (720720 / y.length) → m ≤ top
    → higher (rank_as p x i) (rank_as q y j) ≡ false → cond p top m ≤ cond q top n
by_value true true x y i j m n a b h e = omega arith
by_value true false x y i j m n a b h e = absurd (true≢false e)
by_value false true x y i j m n a b h e = h
by_value false false x y i j m n a b h e =
    omega (
      arith,
      from_products x.weight x.length y.weight y.length x.plays x.short y.plays y.short
          (ltb-false (y.weight * x.length) (x.weight * y.length) (lex_first denser (lex lower shorter) (rank_as false x i) (rank_as false y j) e)),
    )

-- entries with some marks stand for their tickets, the marked ones of a value above all
module _ (ts : List Ticket) (r : ℕ → ℕ) (mark : ℕ → Bool) (xs : List Work) (many : length xs ≡ length ts)
    (each : (i : ℕ) → i < length ts → EntryOf (ticket ts i) (r i) (mark i) (entry xs i)) where
  its_value : (i : ℕ) → i < length ts → value ts i ≡ (entry xs i).weight * (720720 / (entry xs i).length)
  its_value i h =
      ap (λ (w : ℕ). w * (720720 / (ticket ts i).length)) (sym (each i h).weight)
      ∙ ap (λ (p : ℕ). (entry xs i).weight * (720720 / p)) (sym (each i h).length)

  pub stands : Stands ts r (marked_value ts mark) xs
  unfolding top
  stands = record {
    many = many;
    weights = λ i h. (each i h).weight;
    lengths = λ i h. (each i h).length;
    releases = λ i h. (each i h).release;
    ranks = λ i j h k e.
        by_value (mark i) (mark j) (entry xs i) (entry xs j) i j (value ts i) (value ts j) (its_value i h) (its_value j k) (omega (arith, value_le ts i))
        (subst (λ (b : Bool). higher (rank_as b (entry xs i) i) (rank_as (mark j) (entry xs j) j) ≡ false) (each i h).pinned
        (subst (λ (b : Bool). higher (rank_of xs i) (rank_as b (entry xs j) j) ≡ false) (each j k).pinned e));
  }

-- half terms are those of the tickets
halves_to : (xs : List Work) (k : ℕ) → k ≤ length xs → sum_by half_of (take k xs) ≡ sum_to k (λ i. half_of (entry xs i))
halves_to xs zero h = refl
halves_to xs (suc k) h =
    ap (λ (n : ℕ). sum_by half_of (take n xs)) (sym (add-one k))
    ∙ sum_by_more half_of xs k blank (omega arith)
    ∙ ap (λ (s : ℕ). s + half_of (entry xs k)) (halves_to xs k (omega arith))

pub halves_are : (ts : List Ticket) (r v : ℕ → ℕ) (xs : List Work) → Stands ts r v xs → halves_of xs ≡ halves ts
halves_are ts r v xs st =
    ap (λ (ys : List Work). sum_by half_of ys) (sym (take_all (length xs) xs (omega arith)))
    ∙ halves_to xs (length xs) (omega arith)
    ∙ ap (λ (n : ℕ). sum_to n (λ i. half_of (entry xs i))) st.many
    ∙ sum_same (length ts) (λ i. half_of (entry xs i)) (half ts)
    (λ i h. ap (λ (w : ℕ). w * ((entry xs i).length + 1) * 360360) (st.weights i h) ∙ ap (λ (p : ℕ). (ticket ts i).weight * (p + 1) * 360360) (st.lengths i h))

pub priced : (xs : List Work) (a c : ℕ) → a ≡ halves_of xs → Busy xs c → Priced xs (a + c)
priced xs a c e b ts r v st = (c, b ts r v st, omega (arith, halves_are ts r v xs st))

-- prices of what is built are least
pub free_least : (ts : List Ticket) (rs : List ℕ) (xs : List Work) (p : ℕ) → length xs ≡ length ts
    → ((i : ℕ) → i < length ts → EntryOf (ticket ts i) (release rs i) false (entry xs i)) → Priced xs p → LeastPrice ts rs p
free_least ts rs xs p many each q =
    let b = q ts (release rs) (value ts) (stands ts (release rs) (λ i. false) xs many each) in
    subst (LeastPrice ts rs) (sym b.2) (built_free ts rs b.0 b.1)

module _ (xs : List Work) (i t : ℕ) (known : i < length xs) where
  pub moved_length : length (moved xs i t true) ≡ length xs
  unfolding moved
  moved_length = length-set xs i (released (entry xs i) t true)

  moved_same : (j : ℕ) → i ≡ j → entry (moved xs i t true) j ≡ released (entry xs j) t true
  unfolding moved
  moved_same j e = subst (λ (k : ℕ). entry (set xs i (released (entry xs i) t true)) k ≡ released (entry xs k) t true) e (get_or-set_same xs i (released (entry xs i) t true) blank known)

  moved_other : (j : ℕ) → (i ≡ j → ⊥) → entry (moved xs i t true) j ≡ entry xs j
  unfolding moved
  moved_other j o = get_or-set_other xs i j (released (entry xs i) t true) blank (λ e. o (sym e))

  pub moved_entry : (ts : List Ticket) (rs : List ℕ) (j : ℕ) → EntryOf (ticket ts j) (release rs j) false (entry xs j)
      → EntryOf (ticket ts j) (put (release rs) i t j) (eqb i j) (entry (moved xs i t true) j)
  moved_entry ts rs j h = at (cases_eq i j)
    where
      at : (i ≡ j) ⊎ (i ≡ j → ⊥) → EntryOf (ticket ts j) (put (release rs) i t j) (eqb i j) (entry (moved xs i t true) j)
      at (inl e) = subst (λ (x : Work). EntryOf (ticket ts j) (put (release rs) i t j) (eqb i j) x) (sym (moved_same j e))
          record { weight = h.weight; length = h.length; release = sym (put_same (release rs) i t j e); pinned = sym (eq-eqb i j e) }
      at (inr o) = subst (λ (x : Work). EntryOf (ticket ts j) (put (release rs) i t j) (eqb i j) x) (sym (moved_other j o))
          record { weight = h.weight; length = h.length; release = h.release ∙ sym (put_other (release rs) i t j o); pinned = h.pinned ∙ sym (ne_eqb i j o) }

pub pinned_least : (ts : List Ticket) (rs : List ℕ) (xs : List Work) (i t p : ℕ) → length xs ≡ length ts → i < length ts
    → ((j : ℕ) → j < length ts → EntryOf (ticket ts j) (release rs j) false (entry xs j)) → Priced (moved xs i t true) p → LeastPinned ts rs i t p
unfolding top
pinned_least ts rs xs i t p many known each q =
    let known' : i < length xs = omega arith in
    let b = q ts (put (release rs) i t) (put (value ts) i top)
    (stands ts (put (release rs) i t) (eqb i) (moved xs i t true) (moved_length xs i t known' ∙ many) (λ j h. moved_entry xs i t known' ts rs j (each j h))) in
    subst (LeastPinned ts rs i t) (sym b.2) (built_pinned ts rs i t top b.0 known (λ j h o. omega (arith, value_le ts j)) b.1)
