-- The modules of proofs/, each after those that it uses.
pub mod Same
pub mod Tests
pub mod Through
pub mod Events
pub mod Script
pub mod Without
pub mod OneChange
pub mod Speaks
pub mod Verdicts
pub mod Mistakes
pub mod Shams
pub mod Others
pub mod Beyond
pub mod Cached
pub mod InTime
pub mod Afterwards
pub mod Finished
