-- What the program prints.
pub mod Printed
pub mod Callers
pub mod Equal
pub mod Partner
pub mod Examples
