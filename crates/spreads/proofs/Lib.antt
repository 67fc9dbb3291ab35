-- In reading order. Sums; who serves the greater values first is least; the table of quotients.
pub mod Sums
pub mod Ahead
pub mod Table
-- What a slot and a line play; a greedy spread is least.
pub mod Slots
pub mod Lines
pub mod Greedy
-- One ticket pinned, or played without a break.
pub mod Puts
pub mod Stretches
pub mod Unbroken
pub mod Pinned
-- Laws of prices and ranks; plans.
pub mod Rises
pub mod Ranks
pub mod Plans
-- What the builder builds is a greedy spread; building by stretches of slots.
pub mod Pushes
pub mod Building
pub mod Onward
pub mod Limits
-- Prices computed: there is one of each, and the figures.
pub mod Computed
pub mod Exists
pub mod Figures
