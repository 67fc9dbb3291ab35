-- Adding to a text, line by line. Assumes nothing.
use Rattle.std.proofs.Common.{◌≡◌, ℕ, ◌+◌, ◌<◌, ◌≤◌, List, [], ◌∷◌, ◌++◌, codes, decimal, length, get_or, drop, sym, ap, ◌∙◌, append_assoc, append-nil}
use Rattle.std.proofs.lemmas.List.{at_drop_more, drop_all}
use Rattle.tickets.specs.declared.refusal.TicketRefusal.{TicketRefusal}
use Rattle.ticket_file.specs.Faults.{Reason}
use Rattle.day.specs.Texts.{floor_line, ceiling_line, ban_text, ban_line, fault_text, fault_line}

-- what prints, and the end of its line
pub line_of_ban : (b : ℕ × ℕ) → ban_text b ++ 10 ∷ [] ≡ ban_line b
line_of_ban b = simp append_assoc

pub line_of_fault : (w : Reason TicketRefusal) (p : ℕ) → fault_text w p ++ 10 ∷ [] ≡ fault_line w p
line_of_fault w p = simp append_assoc

-- a line for each of xs, of which those from k on are left to add
module _ {X : Type 0} (lines : ℕ → List X → List ℕ) (line : X → List ℕ) (text whole : List ℕ) (xs : List X) (k : ℕ) (left : text ++ lines k (drop k xs) ≡ whole) where
  pub one_line : (new : List ℕ) (d : X) → k < length xs → new ≡ text ++ line (get_or xs k d) → ((x : X) (ys : List X) → lines k (x ∷ ys) ≡ line x ++ lines (k + 1) ys) → new ++ lines (k + 1) (drop (k + 1) xs) ≡ whole
  one_line new d lt added first =
      ap (λ l. l ++ lines (k + 1) (drop (k + 1) xs)) added ∙ append_assoc text (line (get_or xs k d)) (lines (k + 1) (drop (k + 1) xs)) ∙ ap (λ l. text ++ l) (sym (at_drop_more (lines k) xs k d lt ∙ first (get_or xs k d) (drop (k + 1) xs))) ∙ left

  pub no_line : length xs ≤ k → lines k [] ≡ [] → text ≡ whole
  no_line h none = sym (append-nil text) ∙ ap (λ l. text ++ l) (sym (ap (lines k) (drop_all k xs h) ∙ none)) ∙ left

-- the lines of the floor f and the ceiling u, the rows and the lines of the bans, added one after the other
pub whole_text : (f u v : ℕ) (rs bs one two all : List ℕ) → v ≡ u → one ≡ codes "floor " ++ (decimal f ++ (codes "\nceiling " ++ (decimal v ++ 10 ∷ []))) → two ≡ one ++ rs → all ≡ two ++ bs → all ≡ floor_line f ++ (ceiling_line u ++ (rs ++ bs))
whole_text f u v rs bs one two all same begun more most = most ∙ ap (λ l. l ++ bs) (more ∙ ap (λ l. l ++ rs) (begun ∙ ap (λ n. codes "floor " ++ (decimal f ++ (codes "\nceiling " ++ (decimal n ++ 10 ∷ [])))) same)) ∙ simp append_assoc
