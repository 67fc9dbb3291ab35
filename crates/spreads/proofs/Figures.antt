-- The table of figures, checked by computing each. Assumes nothing.
use Rattle.std.proofs.Common.{◌≡◌, Bool, true, ◌&&◌, eqb, ltb, List, [], ◌∷◌, length, refl, subst}
use Rattle.std.specs.List.{AllByRecursion}
use Rattle.std.proofs.lemmas.Bool.{and_parts, eqb-true, ltb-true}
use Rattle.spreads.specs.Spreads.{LeastPrice}
use Rattle.spreads.specs.Pinned.{LeastPinned}
use Rattle.spreads.specs.Figures.{Day, in_costs, Figure, free, floor, pinned, Says, figures, FiguresHold}
use Rattle.spreads.proofs.Exists.{free_price, free_price_is, pinned_price, pinned_price_is}

-- the figure is what is computed
abbrev right : Day → Figure → Bool
right d (free c) = eqb (free_price d.tickets d.releases) c
right d (floor f) = eqb (in_costs (free_price d.tickets d.releases)) f
right d (pinned i t c) = ltb i (length d.tickets) && eqb (pinned_price d.tickets d.releases i t) c

sound : (d : Day) (x : Figure) → right d x ≡ true → Says d x
sound d (free c) e = subst (LeastPrice d.tickets d.releases) (eqb-true (free_price d.tickets d.releases) c e) (free_price_is d.tickets d.releases)
sound d (floor f) e = (free_price d.tickets d.releases, free_price_is d.tickets d.releases, eqb-true (in_costs (free_price d.tickets d.releases)) f e)
sound d (pinned i t c) e =
    let both = and_parts (ltb i (length d.tickets)) (eqb (pinned_price d.tickets d.releases i t) c) e in
    let known = ltb-true i (length d.tickets) both.0 in
    (known, subst (LeastPinned d.tickets d.releases i t) (eqb-true (pinned_price d.tickets d.releases i t) c both.1) (pinned_price_is d.tickets d.releases i t known))

abbrev all_right : List (Day × Figure) → Bool
all_right [] = true
all_right (x ∷ xs) = right x.0 x.1 && all_right xs

all_sound : (xs : List (Day × Figure)) → all_right xs ≡ true → AllByRecursion (λ x. Says x.0 x.1) xs
all_sound [] e = tt
all_sound (x ∷ xs) e =
    let both = and_parts (right x.0 x.1) (all_right xs) e in
    (sound x.0 x.1 both.0, all_sound xs both.1)

pub figures_hold : FiguresHold
figures_hold = all_sound figures refl
