-- Keys by which of two comes before the other, as `cmp` answers it. Assumes nothing.
use Rattle.std.specs.Prelude.{Bool, cond}
use Rattle.std.specs.Ordering.{on}
use Rattle.std.specs.declared.cmp.Ordering.{Ordering}
use Rattle.std.specs.declared.cmp.Ordering.TheVariants.{Less, Equal, Greater}
use Rattle.heap.specs.declared.ordered.Ordered.{Ordered}

module _ {K : Type 0} (before : K → K → Bool) where
  -- Less where a is before b, Greater where b is before a, else Equal
  abbrev pub order_cmp : K → K → Ordering
  order_cmp a b = cond (before a b) Less (cond (before b a) Greater Equal)

  -- the same of keys that wait as `Ordered`
  abbrev pub ordered_cmp : Ordered K → Ordered K → Ordering
  ordered_cmp = on (λ x. x.0) order_cmp
