-- Ordinary weights never blow.
pub mod Channel
pub mod Jobs
pub mod Positions
pub mod Never
pub mod Checked
pub mod Example
