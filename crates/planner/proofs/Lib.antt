-- Rows of sets that are walked; the posted rows; the tables at the open marks.
pub mod Walks
pub mod Retaining
pub mod Walking
pub mod Posting
pub mod Marks
-- How histories go on; what keep and undo come to.
pub mod Going
mod Closing
-- Cutting a table down.
pub mod Rounds
-- The list of cuts.
mod Listing
pub mod Prunes
