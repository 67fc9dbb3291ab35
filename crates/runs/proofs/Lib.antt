-- Tables that support themselves; the laws of support; how many starts a table has; what orders leave.
pub mod Tables
pub mod Supports
pub mod Starts
pub mod Orders
-- When each call is refused; tokens; the one invariant of every run; every history.
pub mod Refusals
pub mod Tokens
pub mod Steps
pub mod Runs
-- Cutting a table down to the largest self-supporting one.
pub mod Pruning
