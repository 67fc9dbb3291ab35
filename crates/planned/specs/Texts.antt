-- The text of a fault. Assumes nothing.
use Rattle.std.specs.Prelude.{ℕ, List, [], ◌∷◌, ◌++◌, codes, decimal}
use Rattle.ticket_file.specs.Faults.{fault}
use Rattle.planned.specs.declared.fault.Refusal.{Refusal}
use Rattle.planned.specs.declared.fault.Refusal.TheVariants.{File, Ticket, Planner}
use Rattle.planned.specs.declared.fault.Fault.{Fault}
use Rattle.planned.specs.Judging.{judge, reason}

-- the number of a refusal
abbrev pub number : Refusal → ℕ
number r = (fault judge (reason r)).number

-- the name of the layer that refuses
abbrev pub layer : Refusal → List ℕ
layer (File f) = codes "file"
layer (Ticket e) = codes "ticket"
layer (Planner e) = codes "planner"

-- a fault as it prints: its layer, number and place
abbrev pub fault_text : Fault → List ℕ
fault_text f = codes "fault " ++ (layer f.refusal ++ (codes " " ++ (decimal (number f.refusal) ++ (codes " " ++ decimal f.place))))

-- the line of a fault: its layer, number and place
abbrev pub fault_line : Fault → List ℕ
fault_line f = codes "fault " ++ (layer f.refusal ++ (codes " " ++ (decimal (number f.refusal) ++ (codes " " ++ (decimal f.place ++ 10 ∷ [])))))
