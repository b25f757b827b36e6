-- What each job makes of the six buffers.
pub mod Work
-- What the laws say.
pub mod Laws
