-- The modules of proofs/, each after those that it uses.
pub mod Marks
pub mod Rank
pub mod Lower
pub mod Along
pub mod Count
pub mod Ends
pub mod Most
pub mod UndisturbedLlx
pub mod UndisturbedScx
pub mod Every
