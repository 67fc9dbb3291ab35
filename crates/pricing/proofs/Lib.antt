-- In reading order. The orders of the waiting lines; working entries; the sizes of terms.
pub mod Lexical
pub mod Entries
pub mod Amounts
-- What is found in the waiting lines.
pub mod Queues
pub mod Bags
pub mod Entering
-- What holds between two events, and each event's step.
pub mod Going
pub mod Transitions
-- The tickets that entries stand for: what is built is least.
pub mod Standing
pub mod Making
pub mod Posting
