-- Solvers that would fool a glance (document 01), each against demand 3.
pub mod Low8
pub mod Fixed
pub mod Wrong
