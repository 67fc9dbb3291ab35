-- What waits in a heap, and what its calls make of it. Assumes nothing.
use Rattle.std.specs.Prelude.{◌≡◌, ℕ, ◌+◌, Bool, List, [], ◌∷◌, length, take, Some, None, Ok, Err, Option, Result}
use Rattle.std.specs.List.Sorted.{IsPermutation}
use Rattle.heap.specs.declared.entry.Entry.{Ghosts as EntryGhosts}
use Rattle.std.specs.declared.cmp.Ord.{Ghosts as OrdGhosts}
use Rattle.std.specs.declared.cmp.PartialEq.{Ghosts as EqGhosts}
use Rattle.std.specs.declared.cmp.PartialOrd.{Ghosts as PartialGhosts}
use Rattle.heap.specs.declared.heap.Heap.{Heap}
use Rattle.heap.specs.Trees.{Front}

-- a heap of entries X with keys K, in the order of its type
module _ {X K : Type 0} {kind : EntryGhosts X K} {order : OrdGhosts K} {equal : EqGhosts K} {partly : PartialGhosts K} where
  -- the entries that wait
  abbrev pub waiting : Heap X K kind order equal partly → List X
  waiting h = take h.len h.slots.now

  -- how many entries a heap has room for
  abbrev pub room : Heap X K kind order equal partly → ℕ
  room h = length h.slots.now

  -- both heaps are laid over the same lent slots
  pub record SameSlots (h k : Heap X K kind order equal partly) : Type 0 where
    pub lender : k.slots.ghost_name ≡ h.slots.ghost_name
    pub long : room k ≡ room h

  -- pushing e to h answered, and left k: e waits with the others, or h was full and e comes back
  abbrev pub Pushed : Heap X K kind order equal partly → X → Result Unit X → Heap X K kind order equal partly → Type 0
  Pushed h e (Ok _) k = IsPermutation (e ∷ waiting h) (waiting k)
  Pushed h e (Err x) k = (x ≡ e) × (length (waiting h) ≡ room h) × (k ≡ h)

  module _ (before : X → X → Bool) where
    -- a look at h answered: nothing waits, or the one in front
    abbrev pub Peeked : Heap X K kind order equal partly → Option X → Type 0
    Peeked h None = waiting h ≡ []
    Peeked h (Some x) = Front before (waiting h) x

    -- popping h answered, and left k: nothing waited, or the one in front is out and the others wait
    abbrev pub Popped : Heap X K kind order equal partly → Option X → Heap X K kind order equal partly → Type 0
    Popped h None k = (waiting h ≡ []) × (k ≡ h)
    Popped h (Some x) k = Front before (waiting h) x × IsPermutation (waiting h) (x ∷ waiting k) × (length (waiting k) + 1 ≡ length (waiting h))
