pub mod Runs
pub mod Claim
pub mod Left
pub mod Shown
pub mod Fixed
pub mod Five
pub mod Votes
pub mod Uncut
