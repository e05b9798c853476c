-- The modules of specs/, each after those that it uses.
pub mod Words
pub mod Resume
pub mod Places
pub mod Perform
pub mod Step
pub mod Claim
pub mod Shape
pub mod Start
pub mod Refuse
pub mod Answer
pub mod Next
pub mod Runs
pub mod MoreRuns
