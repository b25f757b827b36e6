-- What a reader gets of the levels of marked blocks (M-110).
pub mod Shown
