-- Tickets by their terms; the causes by their numbers; what comes after a ban.
mod Tickets
mod Causes
mod AfterBans
-- The records one by one: those that are posted, and the bans that a planner takes.
mod Records
mod Plans
-- What a file comes to; the listing; the one verdict.
mod Outcomes
mod Written
mod Verdict
-- The affordable plans.
mod Affordables
