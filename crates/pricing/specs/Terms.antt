-- The terms of a price, by working entries. Assumes nothing.
use Rattle.std.specs.Prelude.{ℕ, ◌+◌, ◌-◌, ◌*◌, ◌/◌, List}
use Rattle.std.specs.List.{sum_by}
use Rattle.spreads.specs.Lines.{sum_to}
use Rattle.pricing.specs.declared.work.Work.{Work}

-- the sum of the slots s to t - 1
abbrev pub slots_between : ℕ → ℕ → ℕ
slots_between s t = sum_to (t - s) (λ k. s + k)

-- what playing in those slots adds to the price
abbrev pub stretch_of : Work → ℕ → ℕ → ℕ
stretch_of x s t = x.weight * (720720 / x.length) * slots_between s t

-- no stretch of at most 16 slots up to slot 1023 adds more
abbrev pub most_stretch : ℕ
most_stretch = 1000 * 720720 * 16496

-- the half term
abbrev pub half_of : Work → ℕ
half_of x = x.weight * (x.length + 1) * 360360

-- no half term is greater
abbrev pub most_half : ℕ
most_half = 1000 * 17 * 360360

abbrev pub halves_of : List Work → ℕ
halves_of xs = sum_by half_of xs
