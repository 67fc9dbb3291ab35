use Rattle.std.proofs.Common.{rules, ◌≡◌, ◌-◌, ◌≤◌, true, false}
use Rattle.std.proofs.lemmas.Iterator.{first_from_Range}
use Rattle.listing.specs.Ranges.{Leads}
use Rattle.listing.proofs.Rows.{found_range}
use Rattle.listing.proofs.row_lines.next_range.Goals as goal

found : (g : _) (c : goal.After-unwrap_or g) → (1 ≤ c.unwrap_or.result) × Leads (g.S.Store.rows c.args.store.now c.args.row) c.args.from (record { first = c.in_ok-first.first; last = c.unwrap_or.result - 1 })
found g c =
    let f = g.S.Store.rows c.args.store.now c.args.row in
    rw c.unwrap_or.ensures (found_range (g.S.Store.rows c.args.store.now) c.args.row (g.met.S.Store.bounded c.args.store.now) _ _ c.in_ok-first.ensures c.find-beyond.result
    (first_from_Range _ _ _ _ (λ k. f k ≡ false) (λ k. f k ≡ true) c.find-beyond.ensures.ran (search rules) (search rules)))

pub overflow_sub-result : goal.overflow_sub-result
overflow_sub-result g c = (found g c).0

pub returns : goal.returns
returns g c = (found g c).1
